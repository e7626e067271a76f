-- Laws of memory: what is written is read again, and what is avoided stays. Theorems cite it.
use Rattle.std.specs.Prelude.{◌≡◌, ◌↔◌, ℕ, ◌*◌, ◌%◌, ◌^◌, ◌<◌, ◌≤◌, Bool, true, List, ◌++◌, length, None}
use Rattle.pun_base.specs.Memory.{Bytes, without}
use Rattle.cpu_state.specs.Bytes.{advanced, lacking, number_at, put_list, put_number, code_at, Stands, avoids, within}

-- what is written is read again
abbrev pub IsReadBack : Type 0
IsReadBack = (m : Bytes) (p a n v : ℕ) → a < 2 ^ 64 → n ≤ 8 → lacking p m a n ≡ None → number_at (put_number m a n v) a n ≡ v % 2 ^ (8 * n)

-- maps that agree outside a set, seen where the set is avoided
pub record ReadAlike (set : ℕ → Bool) (m m' : Bytes) (a n : ℕ) : Type 0 where
  pub lacking : (p : ℕ) → lacking p m a n ≡ lacking p m' a n
  pub number : number_at m a n ≡ number_at m' a n
  pub code : code_at m a n ≡ code_at m' a n

-- what is read where a set is avoided is the same in maps that agree outside the set
abbrev pub IsReadOutside : Type 0
IsReadOutside = (set : ℕ → Bool) (m m' : Bytes) (a n : ℕ) → without set m ≡ without set m' → avoids set a n ≡ true → ReadAlike set m m' a n

-- maps that agree outside a set do so after a write, wherever it is
abbrev pub IsWrittenAlike : Type 0
IsWrittenAlike = (set : ℕ → Bool) (m m' : Bytes) (a : ℕ) (bs : List ℕ) → without set m ≡ without set m' → without set (put_list m a bs) ≡ without set (put_list m' a bs)

-- a write that avoids a set leaves the set's bytes
abbrev pub IsKeptOutside : Type 0
IsKeptOutside = (set : ℕ → Bool) (m : Bytes) (a : ℕ) (bs : List ℕ) (x : ℕ) → avoids set a (length bs) ≡ true → set x ≡ true → put_list m a bs x ≡ m x

-- a write within a set isn't seen outside it
abbrev pub IsHiddenWithin : Type 0
IsHiddenWithin = (set : ℕ → Bool) (m : Bytes) (a : ℕ) (bs : List ℕ) → within set a (length bs) ≡ true → without set (put_list m a bs) ≡ without set m

-- a number in a set is read as before, where a write avoids the set
abbrev pub IsReadElsewhere : Type 0
IsReadElsewhere = (set : ℕ → Bool) (m : Bytes) (a : ℕ) (bs : List ℕ) (b n : ℕ) → avoids set a (length bs) ≡ true → within set b n ≡ true → number_at (put_list m a bs) b n ≡ number_at m b n

-- bytes stand exactly where their front does, and behind it the rest
abbrev pub IsStandingInParts : Type 0
IsStandingInParts = (m : Bytes) (a : ℕ) (xs ys : List ℕ) → a < 2 ^ 64 → Stands m a (xs ++ ys) ↔ (Stands m a xs × Stands m (advanced a (length xs)) ys)

-- bytes that stand do so in each map that agrees where they stand
abbrev pub IsStandingAlike : Type 0
IsStandingAlike = (m m' : Bytes) (a : ℕ) (bs : List ℕ) → a < 2 ^ 64 → ((q : ℕ) → q < length bs → m' (advanced a q) ≡ m (advanced a q)) → Stands m a bs → Stands m' a bs
