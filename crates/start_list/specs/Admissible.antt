-- Admissible plans, and the first of them. Theorems cite it.
use Rattle.std.specs.Prelude.{◌≡◌, ◌⊎◌, ℕ, ◌+◌, ◌<◌, ◌≤◌, true, if◌then◌else◌, List, [], ◌∷◌, ◌++◌, length, Option, Some, option_map}
use Rattle.std.specs.List.{AllByRecursion}
use Rattle.pun_base.specs.declared.scheme.Scheme.{Scheme}
use Rattle.cpu_state.specs.Fixed.{IsFixed}
use Rattle.byte_locks.specs.declared.lock.Lock.TheVariants.{Free}
use Rattle.address_space.specs.Free.{IsFree}
use Rattle.start_entries.specs.declared.entry.StartEntry.{StartEntry}
use Rattle.start_list.specs.TurnViews.{TurnView, memory_now, share_segment}
use Rattle.start_list.specs.PlanJumps.{is_written, is_punned, after_writes}
use Rattle.start_list.specs.Forms.{Candidate, Trampoline, scheme_of, front_of, places_of, jumps_of, trampolines_of, work_length, MayBeSite, HasForm}

-- How many bytes a trampoline has.
abbrev pub size_of : TurnView → Trampoline → Option ℕ
size_of v t = option_map (λ n. (if t.event then v.event_size else 0) + n) (work_length t.entry)

-- A trampoline's size is known, and that many bytes from its place on are free.
abbrev pub IsPlaced : TurnView → Trampoline → Type 0
IsPlaced v t = (n : ℕ) × (size_of v t ≡ Some n) × IsFree v.taken t.place n

-- Two trampolines don't meet.
abbrev pub AreApart : TurnView → Trampoline → Trampoline → Type 0
AreApart v t u =
    (n m : ℕ) → size_of v t ≡ Some n → size_of v u ≡ Some m → (t.place + n ≤ u.place) ⊎ (u.place + m ≤ t.place)

-- The bytes of each of these trampolines are free, and no two of them meet.
abbrev pub ArePlaced : TurnView → List Trampoline → Type 0
ArePlaced v [] = Unit {0}
ArePlaced v (t ∷ ts) = IsPlaced v t × AllByRecursion (AreApart v t) ts × ArePlaced v ts

-- The plan has its form, its written bytes are free, its punned bytes are file-backed bytes of the site's segment, which is
-- executable and not writable, and after the writes each jump stands, executable and not writable.
pub record IsAllowed (v : TurnView) (site : StartEntry) (c : Candidate) : Type 0 where
  pub form : HasForm v site c
  pub free : (a : ℕ) → is_written (jumps_of site c) a ≡ true → v.lock a ≡ Free
  pub punned : (a : ℕ) → is_punned (jumps_of site c) a ≡ true → share_segment v.segments site.addr a ≡ true
  pub stands : AllByRecursion (λ j. IsFixed (after_writes (memory_now v) (jumps_of site c)) j.at j.bytes) (jumps_of site c)

-- The site's trampoline, the first of these, can stand where the plan puts it.
abbrev pub HasRoom : TurnView → List Trampoline → Type 0
HasRoom v [] = ⊥
HasRoom v (t ∷ ts) = IsPlaced v t

-- The second list of places begins with a lower place for the site's trampoline than the first.
abbrev pub HasLowerPlace : List ℕ → List ℕ → Type 0
HasLowerPlace (t ∷ ts) (s ∷ ss) = s < t
HasLowerPlace ts ss = ⊥

-- The plans c and d are of one scheme and agree before the places, and d has the lower place for
-- the site.
pub record IsBetter (c d : Candidate) : Type 0 where
  pub scheme : scheme_of d ≡ scheme_of c
  pub front : front_of d ≡ front_of c
  pub lower : HasLowerPlace (places_of c) (places_of d)

-- A plan is admissible where its site may be patched, the plan is allowed, its trampolines are free
-- and don't meet, and, where there is a victim, the site's trampoline could stand at no lower place
-- with the same choices before the places.
pub record IsAdmissible (v : TurnView) (site : StartEntry) (c : Candidate) : Type 0 where
  pub site_may : MayBeSite site
  pub allowed : IsAllowed v site c
  pub placed : ArePlaced v (trampolines_of site c)
  pub least : 2 ≤ length (trampolines_of site c) → (d : Candidate) → IsBetter c d → IsAllowed v site d
      → HasRoom v (trampolines_of site d) → ⊥

-- The order of lists by their first entries that differ.
abbrev pub IsNoLater : List ℕ → List ℕ → Type 0
IsNoLater [] ys = Unit {0}
IsNoLater (x ∷ xs) [] = ⊥
IsNoLater (x ∷ xs) (y ∷ ys) = (x < y) ⊎ ((x ≡ y) × IsNoLater xs ys)

-- The entries by which the plans of a scheme are ordered.
abbrev pub tuple_of : Candidate → List ℕ
tuple_of c = front_of c ++ places_of c

-- The first admissible plan of a scheme.
pub record IsFirst (v : TurnView) (site : StartEntry) (s : Scheme) (c : Candidate) : Type 0 where
  pub scheme : scheme_of c ≡ s
  pub admissible : IsAdmissible v site c
  pub first : (d : Candidate) → scheme_of d ≡ s → IsAdmissible v site d → IsNoLater (tuple_of c) (tuple_of d)
