-- What is made of the inputs once they are read.
use Rattle.std.proofs.Common.{◌≡◌, ℕ, Bool, true, false, nat_lt, if◌then◌else◌, List, ◌∷◌, length, Option, Some, None, Result, Ok, Err, sym, ap, subst}
use Rattle.pun_base.specs.Shown.{Files, DeskState}
use Rattle.command_io.specs.Refusals as refusals
use Rattle.command_io.specs.Inputs.{most, Inputs, Gathered, Missing, TooLong, All, with_first, first_of, gathered}
use Rattle.command_io.specs.Inspecting.{Refusing, Telling, RefusesAll, TellsAll}
use Rattle.command_io.specs.declared.ends.Input.{Input}
use Rattle.command_io.specs.Failing.{Failed, Refused, Unread, Unwritten, NoMemory, FailureSays, Gathers, none_refused, Answer, Judges, EndSays, EndCause, Answers}

judged_says : (Refuses : Refusing) (Tells : Telling) (files : Files) (sure : Bool) (xs : Inputs) (texts : List (List ℕ)) (r : Result Answer Failed)
    → gathered files xs ≡ All texts → Judges Refuses Tells texts r → EndSays Refuses Tells files sure xs r
judged_says Refuses Tells files sure xs texts (Ok a) e j = subst (λ (g : Gathered). TellsAll Tells g a.0 a.1) (sym e) j
judged_says Refuses Tells files sure xs texts (Err (Refused r)) e j = subst (λ (g : Gathered). RefusesAll Refuses g r) (sym e) j
judged_says Refuses Tells files sure xs texts (Err (Unread name)) e j = absurd j
judged_says Refuses Tells files sure xs texts (Err (Unwritten name)) e j = absurd j
judged_says Refuses Tells files sure xs texts (Err NoMemory) e j = tt

judged_cause : (Refuses : Refusing) (Tells : Telling) (IsOwn : ℕ → Type 0)
    → ((texts : List (List ℕ)) (text : List ℕ) (status : ℕ) → Tells texts text status → IsOwn status)
    → (xs : Inputs) (s t : DeskState) (texts : List (List ℕ)) (r : Result Answer Failed)
    → Judges Refuses Tells texts r → EndCause IsOwn xs s t r
judged_cause Refuses Tells IsOwn f xs s t texts (Ok a) j = f texts a.0 a.1 j
judged_cause Refuses Tells IsOwn f xs s t texts (Err (Refused r)) j = tt
judged_cause Refuses Tells IsOwn f xs s t texts (Err (Unread name)) j = absurd j
judged_cause Refuses Tells IsOwn f xs s t texts (Err (Unwritten name)) j = absurd j
judged_cause Refuses Tells IsOwn f xs s t texts (Err NoMemory) j = tt

-- the texts are read, and then judged
pub judged : (xs : Inputs) (Refuses : Refusing) (Tells : Telling) (IsOwn : ℕ → Type 0)
    → ((texts : List (List ℕ)) (text : List ℕ) (status : ℕ) → Tells texts text status → IsOwn status)
    → (s t : DeskState) (texts : List (List ℕ)) (r : Result Answer Failed)
    → Gathers xs s t (Ok texts) → Judges Refuses Tells texts r → Answers xs Refuses Tells IsOwn s t r
judged xs Refuses Tells IsOwn f s t texts r g j = record {
  only = g.only;
  says = λ files h. judged_says Refuses Tells files s.sure xs texts r (g.says files h) j;
  cause = judged_cause Refuses Tells IsOwn f xs s t texts r j;
}

long_refused : (Refuses : Refusing) (g : Gathered) (r : refusals.Refusal) → RefusesAll none_refused g r → RefusesAll Refuses g r
long_refused Refuses (Missing name) r h = absurd h
long_refused Refuses (TooLong which) r h = h
long_refused Refuses (All texts) r h = absurd h

failed_says : (Refuses : Refusing) (Tells : Telling) (files : Files) (sure : Bool) (xs : Inputs) (e : Failed)
    → FailureSays (RefusesAll none_refused (gathered files xs)) files sure xs e → EndSays Refuses Tells files sure xs (Err e)
failed_says Refuses Tells files sure xs (Refused r) y = long_refused Refuses (gathered files xs) r y
failed_says Refuses Tells files sure xs (Unread name) y = y
failed_says Refuses Tells files sure xs (Unwritten name) y = absurd y
failed_says Refuses Tells files sure xs NoMemory y = tt

-- an input can't be read
pub unread : (xs : Inputs) (Refuses : Refusing) (Tells : Telling) (IsOwn : ℕ → Type 0) (s t : DeskState) (e : Failed)
    → Gathers xs s t (Err e) → Answers xs Refuses Tells IsOwn s t (Err e)
unread xs Refuses Tells IsOwn s t e g = record {
  only = g.only;
  says = λ files h. failed_says Refuses Tells files s.sure xs e (g.says files h);
  cause = g.cause;
}

-- ---- what was gathered was held

-- one text more in front
first_rest : (c b : List ℕ) (bs : List (List ℕ)) (g : Gathered) → with_first c g ≡ All (b ∷ bs) → (c ≡ b) × (g ≡ All bs)
first_rest c b bs (Missing name) e = absurd cc
first_rest c b bs (TooLong which) e = absurd cc
first_rest c b bs (All texts) e = (let p : c ≡ b = cc in p, let q : texts ≡ bs = cc in ap All q)

-- where all inputs were read, the first one's name held its text, and so on
pub first_read : (o : Option (List ℕ)) (x : Input × List ℕ) (b : List ℕ) (bs : List (List ℕ)) (g : Gathered) → first_of o x g ≡ All (b ∷ bs)
    → (o ≡ Some b) × (g ≡ All bs)
first_read None x b bs g e = absurd cc
first_read (Some c) x b bs g e = by_length (nat_lt most (length c)) e
  where
    by_length : (t : Bool) → (if t then TooLong x.0 else with_first c g) ≡ All (b ∷ bs) → (Some c ≡ Some b) × (g ≡ All bs)
    by_length true q = absurd cc
    by_length false q = let r = first_rest c b bs g q in (ap Some r.0, r.1)
