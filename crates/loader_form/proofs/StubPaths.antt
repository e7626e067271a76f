-- Paths of the stub: so many steps, by these replies, from one state to another.
use Rattle.std.proofs.Common.{◌≡◌, ℕ, ◌+◌, ◌<◌, ◌≤◌, List, [], ◌∷◌, ◌++◌, length, length-append, append_assoc, Option, Some, None, refl, sym, ap, ap₂, ◌∙◌, subst, arith}
use Rattle.insn_form.specs.Machine.{Machine}
use Rattle.loader_form.specs.Kernel.{Reply, Move, IsReplied, IsRunWith, last_state, last_number, with_reply, replies_in, MadeInside, IsExit, IsWaiting}
use Rattle.loader_form.specs.Running.{End, AtEntry, AtExit, AtCall}
use Rattle.loader_form.proofs.StubSteps.{Own}

-- n steps of the stub lead from s to t by these replies, each of them made inside its code
pub record Reach (file : List ℕ) (lo hi : ℕ) (number : Option ℕ) (s : Machine) (n : ℕ) (rs : List Reply) (number' : Option ℕ) (t : Machine) : Type 0 where
  pub moves : List Move
  pub run : IsRunWith file number s moves
  pub state : last_state s moves ≡ t
  pub after : last_number number moves ≡ number'
  pub replies : replies_in moves ≡ rs
  pub count : length moves ≡ n
  pub inside : MadeInside lo hi s moves

-- two runs one after the other are a run
run_append : (file : List ℕ) (k : Option ℕ) (s : Machine) (xs ys : List Move) → IsRunWith file k s xs
    → IsRunWith file (last_number k xs) (last_state s xs) ys → IsRunWith file k s (xs ++ ys)
run_append file k s [] ys p q = q
run_append file k s (x ∷ xs) ys p q = (p.0, run_append file x.number x.state xs ys p.1 q)

-- two runs one after the other that are made inside a range are made inside it together
inside_append : (lo hi : ℕ) (s : Machine) (xs ys : List Move) → MadeInside lo hi s xs → MadeInside lo hi (last_state s xs) ys
    → MadeInside lo hi s (xs ++ ys)
inside_append lo hi s [] ys p q = q
inside_append lo hi s (x ∷ xs) ys p q = (p.0, p.1, inside_append lo hi x.state xs ys p.2 q)

-- two runs one after the other end where the second ends
state_append : (s : Machine) (xs ys : List Move) → last_state s (xs ++ ys) ≡ last_state (last_state s xs) ys
state_append s [] ys = refl
state_append s (x ∷ xs) ys = state_append x.state xs ys

-- two runs one after the other end with the open file's number of the second
number_append : (k : Option ℕ) (xs ys : List Move) → last_number k (xs ++ ys) ≡ last_number (last_number k xs) ys
number_append k [] ys = refl
number_append k (x ∷ xs) ys = number_append x.number xs ys

-- a reply in front of two lists of replies is one in front of the first
pub reply_append : (o : Option Reply) (rs qs : List Reply) → with_reply o (rs ++ qs) ≡ with_reply o rs ++ qs
reply_append None rs qs = refl
reply_append (Some r) rs qs = refl

-- the replies of two lists of moves are those of the first, and then those of the second
pub replies_append : (xs ys : List Move) → replies_in (xs ++ ys) ≡ replies_in xs ++ replies_in ys
replies_append [] ys = refl
replies_append (x ∷ xs) ys = ap (with_reply x.reply) (replies_append xs ys) ∙ reply_append x.reply (replies_in xs) (replies_in ys)

-- no step leads from a state to itself
pub stay : {file : List ℕ} {lo hi : ℕ} (k : Option ℕ) (s : Machine) → Reach file lo hi k s 0 [] k s
stay k s = record { moves = []; run = tt; state = refl; after = refl; replies = refl; count = refl; inside = tt }

-- a move made inside a range is a path of one step
one_move : {file : List ℕ} {lo hi : ℕ} (k : Option ℕ) (s : Machine) (x : Move) → IsRunWith file k s (x ∷ []) → lo ≤ s.rip → s.rip < hi
    → Reach file lo hi k s 1 (with_reply x.reply []) x.number x.state
one_move k s x run a b = record { moves = x ∷ []; run = run; state = refl; after = refl; replies = refl; count = refl; inside = (a, b, tt) }

-- a step of the machine in the stub's code is a path of one step
pub own : {file : List ℕ} {lo hi : ℕ} (k : Option ℕ) (s t : Machine) → Own s t → lo ≤ s.rip → s.rip < hi → Reach file lo hi k s 1 [] k t
own k s t o a b = one_move k s (record { reply = None; number = k; state = t }) ((o.0, o.1, o.2, refl), tt) a b

-- a call of the kernel in the stub's code is a path of one step, by its reply
pub called : {file : List ℕ} {lo hi : ℕ} (k k' : Option ℕ) (s t : Machine) (r : Reply) → IsReplied file k s r k' t → lo ≤ s.rip → s.rip < hi
    → Reach file lo hi k s 1 (r ∷ []) k' t
called k k' s t r o a b = one_move k s (record { reply = Some r; number = k'; state = t }) (o, tt) a b

-- two paths one after the other are a path
pub then : {file : List ℕ} {lo hi : ℕ} {k k1 k2 : Option ℕ} {s u t : Machine} {n m : ℕ} {rs qs : List Reply} → Reach file lo hi k s n rs k1 u
    → Reach file lo hi k1 u m qs k2 t → Reach file lo hi k s (n + m) (rs ++ qs) k2 t
then {file} {lo} {hi} {k} {k1} {k2} {s} {u} {t} {n} {m} {rs} {qs} x y =
    let run' = subst (λ (z : Option ℕ). IsRunWith file z (last_state s x.moves) y.moves) (sym x.after)
    (subst (λ (z : Machine). IsRunWith file k1 z y.moves) (sym x.state) y.run) in
    let inside' = subst (λ (z : Machine). MadeInside lo hi z y.moves) (sym x.state) y.inside in
    record {
      moves = x.moves ++ y.moves;
      run = run_append file k s x.moves y.moves x.run run';
      state = state_append s x.moves y.moves ∙ ap (λ z. last_state z y.moves) x.state ∙ y.state;
      after = number_append k x.moves y.moves ∙ ap (λ z. last_number z y.moves) x.after ∙ y.after;
      replies = replies_append x.moves y.moves ∙ ap₂ (λ a b. a ++ b) x.replies y.replies;
      count = length-append x.moves y.moves ∙ ap₂ (λ a b. a + b) x.count y.count;
      inside = inside_append lo hi s x.moves y.moves x.inside inside';
    }

-- to an equal state
pub reach_at : {file : List ℕ} {lo hi : ℕ} {k k' : Option ℕ} {s t u : Machine} {n : ℕ} {rs : List Reply} → t ≡ u → Reach file lo hi k s n rs k' t
    → Reach file lo hi k s n rs k' u
reach_at {file} {lo} {hi} {k} {k'} {s} {t} {u} {n} {rs} e x = subst (λ (z : Machine). Reach file lo hi k s n rs k' z) e x

-- by an equal number of steps
pub as_many : {file : List ℕ} {lo hi : ℕ} {k k' : Option ℕ} {s t : Machine} {n m : ℕ} {rs : List Reply} → n ≡ m → Reach file lo hi k s n rs k' t
    → Reach file lo hi k s m rs k' t
as_many {file} {lo} {hi} {k} {k'} {s} {t} {n} {m} {rs} e x = subst (λ (z : ℕ). Reach file lo hi k s z rs k' t) e x

-- how the stub closes: at one state after the last call, or at a call in the stub
abbrev pub Closes : List ℕ → ℕ → End → Machine → Option ℕ → Machine → Type 0
Closes file lo AtEntry final number t = t ≡ final
Closes file lo AtExit final number t = IsExit 127 t × (lo ≤ t.rip) × (t.rip < lo + 4096)
Closes file lo AtCall final number t = IsWaiting file number t × (lo ≤ t.rip) × (t.rip < lo + 4096)

-- how a path ends by replies, of which some are left
pub record Outcome (file : List ℕ) (lo : ℕ) (number : Option ℕ) (s : Machine) (most : ℕ) (e : End) (final : Machine) (replies rest : List Reply) : Type 0 where
  pub n : ℕ
  pub taken : List Reply
  pub split : replies ≡ taken ++ rest
  pub number' : Option ℕ
  pub last : Machine
  pub reach : Reach file lo (lo + 4096) number s n taken number' last
  pub few : n ≤ most
  pub closes : Closes file lo e final number' last

-- a path that leads to a state with an outcome has that outcome
pub before : {file : List ℕ} {lo : ℕ} {k k1 : Option ℕ} {s u : Machine} {n most : ℕ} {rs qs rest : List Reply} {e : End} {final : Machine}
    → Reach file lo (lo + 4096) k s n rs k1 u → Outcome file lo k1 u most e final qs rest → Outcome file lo k s (n + most) e final (rs ++ qs) rest
before {file} {lo} {k} {k1} {s} {u} {n} {most} {rs} {qs} {rest} {e} {final} x o = record {
  n = n + o.n;
  taken = rs ++ o.taken;
  split = ap (λ z. rs ++ z) o.split ∙ sym (append_assoc rs o.taken rest);
  number' = o.number';
  last = o.last;
  reach = then x o.reach;
  few = omega (arith, o.few);
  closes = o.closes;
}

-- an outcome within a bound is one within a larger bound
pub at_most : {file : List ℕ} {lo : ℕ} {k : Option ℕ} {s : Machine} {a b : ℕ} {rs rest : List Reply} {e : End} {final : Machine} → a ≤ b
    → Outcome file lo k s a e final rs rest → Outcome file lo k s b e final rs rest
at_most l o = record {
  n = o.n;
  taken = o.taken;
  split = o.split;
  number' = o.number';
  last = o.last;
  reach = o.reach;
  few = omega (arith, l, o.few);
  closes = o.closes;
}
