-- The ring that events of guest threads keep: what its position and its slots hold, by the claims and the fills so far. Theorems cite it.
-- LOCK XADD claims a slot and a MOV behind it fills it; between the two another thread may claim and fill.
use Rattle.std.specs.Prelude.{◌≡◌, ◌⊎◌, ℕ, ◌+◌, ◌%◌, ◌^◌, ◌<◌, ◌≤◌, ◌==◌, Bool, true, false, ◌&&◌, if◌then◌else◌, List, [], ◌∷◌, ◌++◌, length, Option, Some, None, slice_get}
use Rattle.std.specs.List.{AllByRecursion, list_any}
use Rattle.cpu_state.specs.Bytes.{number_at}
use Rattle.thread_runs.specs.ThreadCode.{position_at, slot_at}
use Rattle.thread_runs.specs.Threading.Part.{Marked}
use Rattle.thread_runs.specs.Threading.{Threading, ThreadSite, is_keeping, is_part, is_unfilled}
use Rattle.thread_runs.specs.Watching.{Watched, EffectStep, Claim, Fill, Watch, is_by, last_claim}

-- the numbers of the sites at whose events thread k claimed slots, in order
abbrev pub claimed_by : ℕ → List Claim → List ℕ
claimed_by k [] = []
claimed_by k (c ∷ cs) = if is_by k c then c.number ∷ claimed_by k cs else claimed_by k cs

-- the number of the site at an address, where its event keeps a ring
abbrev pub ringing_at : List ThreadSite → ℕ → List ℕ
ringing_at [] x = []
ringing_at (s ∷ ss) x = if is_keeping s.event && s.entry.addr == x then s.number ∷ [] else ringing_at ss x

-- the numbers of the sites of the effect steps of thread k at which events keep a ring, in order
abbrev pub kept_by : Threading → ℕ → List EffectStep → List ℕ
kept_by r k [] = []
kept_by r k (e ∷ es) = (if e.thread == k then ringing_at r.sites e.at else []) ++ kept_by r k es

-- the number of the site in whose event a thread at an address claimed a slot, where its effect step is still to come
abbrev pub claimed_at : List ThreadSite → ℕ → List ℕ
claimed_at [] x = []
claimed_at (s ∷ ss) x = if is_keeping s.event && is_part Marked x s then s.number ∷ [] else claimed_at ss x

-- the second claim, where there is one, else the first
abbrev pub or_later : Option ℕ → Option ℕ → Option ℕ
or_later o None = o
or_later o (Some i) = Some i

-- the claim that filled slot j of n last
abbrev pub last_fill : ℕ → ℕ → List Fill → Option ℕ
last_fill n j [] = None
last_fill n j (f ∷ fs) = or_later (if f.claim % n == j then Some f.claim else None) (last_fill n j fs)

-- one more than the number of the site of a claim, and 0 where there is none
abbrev pub number_shown : Option Claim → ℕ
number_shown None = 0
number_shown (Some c) = c.number + 1

-- the same by how many claims were made before it, where it is there
abbrev pub shown_by : List Claim → Option ℕ → ℕ
shown_by cs None = 0
shown_by cs (Some i) = number_shown (slice_get cs i)

-- the claim before which i were made filled its slot
abbrev pub is_filled : ℕ → List Fill → Bool
is_filled i fs = list_any (λ f. f.claim == i) fs

-- since the claim before which i were made no thread was overtaken by a whole ring: each claim that filled its slot since then was among the last n
abbrev pub NoneOvertaken : ℕ → ℕ → List Fill → Type 0
NoneOvertaken n i fs = AllByRecursion (λ f. i < f.claimed → f.claimed ≤ f.claim + n) fs

-- thread k made the claim before which i were made, and stands between it and its fill
pub record IsBetween (r : Threading) (w : Watch) (i k : ℕ) : Type 0 where
  pub one : Watched
  pub there : slice_get w.threads k ≡ Some one
  pub unfilled : is_unfilled r one.now.rip ≡ true
  pub last : last_claim k w.claims ≡ i

-- A ring of n slots.
pub record IsRing (r : Threading) (n : ℕ) (w : Watch) : Type 0 where
  -- the position is the number of claims, modulo 2^32
  pub position : number_at w.mem (position_at r.private) 4 ≡ length w.claims % 2 ^ 32
  -- a thread's claims are its effect steps at sites with events, in order, and one more, where it stands behind its claim and before its effect step
  pub own : (k : ℕ) (one : Watched) → slice_get w.threads k ≡ Some one → claimed_by k w.claims ≡ kept_by r k w.log ++ claimed_at r.sites one.now.rip
  -- each claim filled its slot, or its thread stands between the claim and the fill
  pub filled : (i : ℕ) (c : Claim) → slice_get w.claims i ≡ Some c → (is_filled i w.fills ≡ true) ⊎ IsBetween r w i c.thread
  -- slot j shows the claim that filled it last, or 0
  pub slots : (j : ℕ) → j < n → number_at w.mem (slot_at r.private j) 4 ≡ shown_by w.claims (last_fill n j w.fills)
  -- of the last n claims each that filled its slot is shown there, where since then no thread was overtaken by a whole ring
  pub exact : (i : ℕ) (c : Claim) → slice_get w.claims i ≡ Some c → length w.claims ≤ i + n → is_filled i w.fills ≡ true → NoneOvertaken n i w.fills
      → number_at w.mem (slot_at r.private (i % n)) 4 ≡ c.number + 1
  -- after at most n claims, and where no thread stands between a claim and its fill, the slots show the claims in order, and then zeros
  pub whole : length w.claims ≤ n → AllByRecursion (λ t. is_unfilled r t.now.rip ≡ false) w.threads
      → (j : ℕ) → j < n → number_at w.mem (slot_at r.private j) 4 ≡ shown_by w.claims (Some j)

-- The ring is as it is due, where events keep one.
abbrev pub AreKept : Threading → Watch → Type 0
AreKept r w = (n : ℕ) → r.ring ≡ Some n → IsRing r n w
