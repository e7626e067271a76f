-- What a command that only reads answers and tells, by how it ends.
use Rattle.std.proofs.Common.{◌≡◌, ℕ, ◌≤◌, ◌⊎◌, inl, inr, List, Result, Ok, Err, IfSome, sym, subst, arith}
use Rattle.pun_base.specs.Shown.{Files, DeskState, SinkState}
use Rattle.command_io.specs.Refusals.{Refusal}
use Rattle.command_io.specs.Messages.{Spoilt}
use Rattle.command_io.specs.Endings.{Delivers}
use Rattle.command_io.specs.Inputs.{Inputs, Gathered, Missing, TooLong, All, gathered, IsHindered}
use Rattle.command_io.specs.Inspecting.{Accepting, Refusing, Telling, RefusesAll, TellsAll, AcceptsAll, InspectTells, Inspects}
use Rattle.command_io.specs.Failing.{Refused, Unread, Unwritten, NoMemory, Failed, Answer, EndSays, EndCause, Answers, end_message, end_status}
use Rattle.command_io.proofs.DeliveredTexts.{delivered, answered}

-- a command's rules agree: what it tells is accepted, what it accepts it doesn't refuse, and none of its own statuses is
-- that of a refusal, a fault or want of memory
pub record Agree (A : Accepting) (R : Refusing) (T : Telling) (O : ℕ → Type 0) : Type 0 where
  pub accepted : (texts : List (List ℕ)) (text : List ℕ) (status : ℕ) → T texts text status → A texts
  pub apart : (texts : List (List ℕ)) (r : Refusal) → A texts → R texts r → ⊥
  pub own : (status : ℕ) → O status → 3 ≤ status → status ≤ 6 → ⊥

-- the same of all that is gathered
all_accepted : (A : Accepting) (T : Telling)
    → ((texts : List (List ℕ)) (text : List ℕ) (status : ℕ) → T texts text status → A texts)
    → (g : Gathered) (text : List ℕ) (status : ℕ) → TellsAll T g text status → AcceptsAll A g
all_accepted A T f (Missing name) text status h = absurd h
all_accepted A T f (TooLong which) text status h = absurd h
all_accepted A T f (All texts) text status h = f texts text status h

all_apart : (A : Accepting) (R : Refusing) → ((texts : List (List ℕ)) (r : Refusal) → A texts → R texts r → ⊥)
    → (g : Gathered) (r : Refusal) → AcceptsAll A g → RefusesAll R g r → ⊥
all_apart A R f (Missing name) r a h = absurd a
all_apart A R f (TooLong which) r a h = absurd a
all_apart A R f (All texts) r a h = f texts r a h

-- A status that is no command's own.
abbrev pub IsOdd : ℕ → Type 0
IsOdd status = (3 ≤ status) × (status ≤ 6)

-- so are those of a sink's fault and of want of memory
pub spoilt_odd : (k l : SinkState) (status : ℕ) → Spoilt k l status → IsOdd status
spoilt_odd k l status (inl p) = let q = p.0 in (omega arith, omega arith)
spoilt_odd k l status (inr p) = (omega arith, omega arith)

-- the status is the end's, or the sink's fault or want of memory made it another
pub end_answered : (r : Result Answer Failed) (k l : SinkState) (status : ℕ) → Delivers (end_message r) k l status
    → (status ≡ end_status r) ⊎ Spoilt k l status
end_answered (Ok a) k l status d = answered a.0 a.1 k l status d
end_answered (Err (Refused r)) k l status d = answered _ 3 k l status d
end_answered (Err (Unread name)) k l status d = answered _ 4 k l status d
end_answered (Err (Unwritten name)) k l status d = answered _ 5 k l status d
end_answered (Err NoMemory) k l status d = inl d.0

-- whatever keeps a command from its work, the status is an odd one
pub failed_odd : (e : Failed) (status : ℕ) → status ≡ end_status (Err e) → IsOdd status
failed_odd (Refused r) status p = (omega arith, omega arith)
failed_odd (Unread name) status p = (omega arith, omega arith)
failed_odd (Unwritten name) status p = (omega arith, omega arith)
failed_odd NoMemory status p = (omega arith, omega arith)

-- ---- each clause, by the end

known : (O : ℕ → Type 0) (xs : Inputs) (s t : DeskState) (k l : SinkState) (r : Result Answer Failed) (status : ℕ)
    → EndCause O xs s t r → (status ≡ end_status r) ⊎ Spoilt k l status → O status ⊎ IsOdd status
known O xs s t k l r status c (inr p) = inr (spoilt_odd k l status p)
known O xs s t k l (Ok a) status c (inl p) = inl (subst O (sym p) c)
known O xs s t k l (Err e) status c (inl p) = inr (failed_odd e status p)

-- what is told at an end has its cause
end_tells : (R : Refusing) (T : Telling) (O : ℕ → Type 0) (xs : Inputs) (s t : DeskState) (r : Result Answer Failed)
    → Answers xs R T O s t r → IfSome (end_message r) (InspectTells xs R T O s t)
end_tells R T O xs s t (Ok a) e = (e.cause, e.says)
end_tells R T O xs s t (Err (Refused r)) e = e.says
end_tells R T O xs s t (Err (Unread name)) e = record {
  rose = e.cause.1;
  input = e.cause.0;
  reached = λ files h. (e.says files h).0;
  missing = λ files h. (e.says files h).1;
}
end_tells R T O xs s t (Err (Unwritten name)) e = absurd e.cause
end_tells R T O xs s t (Err NoMemory) e = tt

-- with a status of its own a command tells what it found
pub found : (A : Accepting) (R : Refusing) (T : Telling) (O : ℕ → Type 0) (a : Agree A R T O) (files : Files) (s : DeskState)
    → (xs : Inputs) (k l : SinkState) (r : Result Answer Failed) (status : ℕ) → EndSays R T files s.sure xs r → Delivers (end_message r) k l status
    → O status → (text : List ℕ) × TellsAll T (gathered files xs) text status
found A R T O a files s xs k l r status y d o = by_status r y (end_answered r k l status d)
  where
    by_status : (q : Result Answer Failed) → EndSays R T files s.sure xs q → (status ≡ end_status q) ⊎ Spoilt k l status
        → (text : List ℕ) × TellsAll T (gathered files xs) text status
    by_status q z (inr p) = let odd = spoilt_odd k l status p in absurd (a.own status o odd.0 odd.1)
    by_status (Ok b) z (inl p) = (b.0, subst (TellsAll T (gathered files xs) b.0) (sym p) z)
    by_status (Err e) z (inl p) = let odd = failed_odd e status p in absurd (a.own status o odd.0 odd.1)

accepted : (A : Accepting) (R : Refusing) (T : Telling) (O : ℕ → Type 0) (a : Agree A R T O) (files : Files) (s t : DeskState) (xs : Inputs) (k l : SinkState)
    → (r : Result Answer Failed) (status : ℕ) → EndSays R T files s.sure xs r → EndCause O xs s t r
    → (status ≡ end_status r) ⊎ Spoilt k l status → AcceptsAll A (gathered files xs) → O status ⊎ IsHindered s t k l status
accepted A R T O a files s t xs k l r status y c (inr p) h = inr (inr p)
accepted A R T O a files s t xs k l (Ok b) status y c (inl p) h = inl (subst O (sym p) c)
accepted A R T O a files s t xs k l (Err (Refused r)) status y c (inl p) h = absurd (all_apart A R a.apart (gathered files xs) r h y)
accepted A R T O a files s t xs k l (Err (Unread name)) status y c (inl p) h = inr (inl (p, c.1))
accepted A R T O a files s t xs k l (Err (Unwritten name)) status y c (inl p) h = absurd y
accepted A R T O a files s t xs k l (Err NoMemory) status y c (inl p) h = inr (inr (inr p))

refusal : (A : Accepting) (R : Refusing) (T : Telling) (O : ℕ → Type 0) (a : Agree A R T O) (files : Files) (s t : DeskState) (xs : Inputs) (k l : SinkState)
    → (r : Result Answer Failed) (status : ℕ) → EndSays R T files s.sure xs r → EndCause O xs s t r
    → (status ≡ end_status r) ⊎ Spoilt k l status → (x : Refusal) → RefusesAll R (gathered files xs) x
    → (status ≡ 3) ⊎ IsHindered s t k l status
refusal A R T O a files s t xs k l r status y c (inr p) x h = inr (inr p)
refusal A R T O a files s t xs k l (Ok b) status y c (inl p) x h =
    absurd (all_apart A R a.apart (gathered files xs) x (all_accepted A T a.accepted (gathered files xs) b.0 b.1 y) h)
refusal A R T O a files s t xs k l (Err (Refused r)) status y c (inl p) x h = inl p
refusal A R T O a files s t xs k l (Err (Unread name)) status y c (inl p) x h = inr (inl (p, c.1))
refusal A R T O a files s t xs k l (Err (Unwritten name)) status y c (inl p) x h = absurd y
refusal A R T O a files s t xs k l (Err NoMemory) status y c (inl p) x h = inr (inr (inr p))

missing : (A : Accepting) (R : Refusing) (T : Telling) (O : ℕ → Type 0) (a : Agree A R T O) (files : Files) (s t : DeskState) (xs : Inputs) (k l : SinkState)
    → (r : Result Answer Failed) (status : ℕ) → EndSays R T files s.sure xs r → EndCause O xs s t r
    → (status ≡ end_status r) ⊎ Spoilt k l status → (name : List ℕ) → gathered files xs ≡ Missing name → IsHindered s t k l status
missing A R T O a files s t xs k l r status y c (inr p) name e = inr p
missing A R T O a files s t xs k l (Ok b) status y c (inl p) name e = absurd (subst (λ (g : Gathered). TellsAll T g b.0 b.1) e y)
missing A R T O a files s t xs k l (Err (Refused r)) status y c (inl p) name e = absurd (subst (λ (g : Gathered). RefusesAll R g r) e y)
missing A R T O a files s t xs k l (Err (Unread other)) status y c (inl p) name e = inl (p, c.1)
missing A R T O a files s t xs k l (Err (Unwritten other)) status y c (inl p) name e = absurd y
missing A R T O a files s t xs k l (Err NoMemory) status y c (inl p) name e = inr (inr p)

-- a command that ended so, and told that
pub inspected : (xs : Inputs) (A : Accepting) (R : Refusing) (T : Telling) (O : ℕ → Type 0) → Agree A R T O → (s t : DeskState) (k l : SinkState)
    → (r : Result Answer Failed) (status : ℕ) → Answers xs R T O s t r → Delivers (end_message r) k l status
    → Inspects xs A R T O s t k l status
inspected xs A R T O a s t k l r status e d =
    let p = end_answered r k l status d in
    record {
      told = delivered (InspectTells xs R T O s t) (end_message r) k l status (end_tells R T O xs s t r e) d;
      known = known O xs s t k l r status e.cause p;
      only = e.only;
      held = λ files h.
          let y = e.says files h in
          record {
            accepted = accepted A R T O a files s t xs k l r status y e.cause p;
            refusal = refusal A R T O a files s t xs k l r status y e.cause p;
            missing = missing A R T O a files s t xs k l r status y e.cause p;
          };
    }
