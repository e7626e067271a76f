-- The forms of plans. Theorems cite it.
-- A plan is fixed by its site, its scheme and the scheme's tuple (Duck, Gao, Roychoudhury,
-- "Binary Rewriting without Control Flow Recovery", PLDI 2020).
use Rattle.std.specs.Prelude.{◌≡◌, ℕ, ◌+◌, ◌-◌, ◌%◌, ◌^◌, ◌<◌, ◌≤◌, min, Bool, true, false, List, [], ◌∷◌, Option, Some, None, is_some, Contains}
use Rattle.pun_base.specs.declared.scheme.Scheme.{Scheme}
use Rattle.pun_base.specs.declared.scheme.Scheme.TheVariants as scheme
use Rattle.insn_form.specs.declared.form.Insn.{Insn}
use Rattle.insn_form.specs.Displacing as displacing
use Rattle.trampoline.specs.Atomic.{can_by}
use Rattle.start_entries.specs.declared.entry.StartEntry.{StartEntry}
use Rattle.start_entries.specs.Finding.{entry_at}
use Rattle.start_list.specs.TurnViews.{TurnView, share_segment, is_untouched}
use Rattle.start_list.specs.PlanJumps.{Jump, padded_jump, short_jump}

-- A scheme with its tuple. `place` is the address of the site's trampoline and `second` that of the
-- victim's. `pads` are those of the site's jump. T2 pads the victim's jump too, by a byte of its
-- own, and T3 has its jumps to the trampolines at the victim's start and `offset` bytes after it.
-- `shared` is the number that the shared displacement bytes spell, the lowest first, and 0 where
-- there are none.
pub data Candidate : Type 0 where
  B1 : (place : ℕ) → Candidate
  B2 : (place : ℕ) → Candidate
  T1 : (pads place : ℕ) → Candidate
  T2 : (victim : StartEntry) (pads victim_pads pad shared place second : ℕ) → Candidate
  T3 : (victim : StartEntry) (offset shared place second : ℕ) → Candidate

-- The scheme of a plan.
abbrev pub scheme_of : Candidate → Scheme
scheme_of (B1 t) = scheme.B1
scheme_of (B2 t) = scheme.B2
scheme_of (T1 p t) = scheme.T1
scheme_of (T2 e p q pad x t u) = scheme.T2
scheme_of (T3 e i x t u) = scheme.T3

-- The entries of a plan's tuple before the places.
abbrev pub front_of : Candidate → List ℕ
front_of (B1 t) = []
front_of (B2 t) = []
front_of (T1 p t) = p ∷ []
front_of (T2 e p q pad x t u) = p ∷ q ∷ pad ∷ x ∷ []
front_of (T3 e i x t u) = e.addr ∷ i ∷ x ∷ []

-- The places of a plan's tuple: the site's trampoline, and the victim's where there is one.
abbrev pub places_of : Candidate → List ℕ
places_of (B1 t) = t ∷ []
places_of (B2 t) = t ∷ []
places_of (T1 p t) = t ∷ []
places_of (T2 e p q pad x t u) = t ∷ u ∷ []
places_of (T3 e i x t u) = t ∷ u ∷ []

-- The jumps of a plan: the site's jump or jumps, and the victim's.
abbrev pub jumps_of : StartEntry → Candidate → List Jump
jumps_of site (B1 t) = padded_jump site.addr site.len 0 0x40 t ∷ []
jumps_of site (B2 t) = padded_jump site.addr site.len 0 0x40 t ∷ []
jumps_of site (T1 p t) = padded_jump site.addr site.len p 0x40 t ∷ []
jumps_of site (T2 e p q pad x t u) = padded_jump site.addr site.len p 0x40 t ∷ padded_jump e.addr e.len q pad u ∷ []
jumps_of site (T3 e i x t u) =
    short_jump site.addr site.len (e.addr + i)
    ∷ padded_jump (e.addr + i) (e.len - i) 0 0x40 t
    ∷ padded_jump e.addr e.len 0 0x40 u
    ∷ []

-- A trampoline: the instruction whose work it does, whether it records an event first, and its place.
pub record Trampoline : Type 0 where
  pub entry : StartEntry
  pub event : Bool
  pub place : ℕ

-- The site's trampoline at a place, which records an event.
abbrev pub for_site : StartEntry → ℕ → Trampoline
for_site e t = record { entry = e; event = true; place = t }

-- The victim's trampoline at a place, which records no event.
abbrev pub for_victim : StartEntry → ℕ → Trampoline
for_victim e u = record { entry = e; event = false; place = u }

-- The trampolines of a plan: one for the site, with event, and one for the victim, if any, without.
abbrev pub trampolines_of : StartEntry → Candidate → List Trampoline
trampolines_of site (B1 t) = for_site site t ∷ []
trampolines_of site (B2 t) = for_site site t ∷ []
trampolines_of site (T1 p t) = for_site site t ∷ []
trampolines_of site (T2 e p q pad x t u) = for_site site t ∷ for_victim e u ∷ []
trampolines_of site (T3 e i x t u) = for_site site t ∷ for_victim e u ∷ []

-- How many bytes the code has that does an instruction's work elsewhere and jumps back where it would go on; none where
-- the length is unknown or the instruction can't be displaced.
abbrev pub work_by : Option Insn → ℕ → ℕ → Option ℕ
work_by None len addr = None
work_by (Some i) len addr = displacing.work_length i len addr

-- How many bytes the code has that does a listed instruction's work elsewhere.
abbrev pub work_length : StartEntry → Option ℕ
work_length e = work_by e.form e.len e.addr

-- How many bytes the code has that does a listed instruction's work where threads share memory, if
-- the instruction may be displaced there.
abbrev pub can_in_threads : StartEntry → Option ℕ
can_in_threads e = can_by e.form e.len e.addr

-- How many bytes the code has that does a listed instruction's work, if the instruction may be
-- displaced: for a guest of one thread, and where threads share memory.
abbrev pub can_where : Bool → StartEntry → Option ℕ
can_where false = work_length
can_where true = can_in_threads

-- An instruction that may be displaced has as many bytes of code as where one thread runs.
abbrev pub DisplacedAreAsLong : Type 0
DisplacedAreAsLong =
    (threads : Bool) (e : StartEntry) (n : ℕ) → can_where threads e ≡ Some n → work_length e ≡ Some n

-- A listed instruction may be patched at all where it isn't marked as sharing bytes: none of its
-- bytes is a byte of another listed one, as `shared_exactly` proves of the mark.
abbrev pub MayBeSite : StartEntry → Type 0
MayBeSite site = site.shared ≡ false

-- An instruction that may be patched beside the site: listed, in the site's segment, displaceable
-- at this turn and untouched, which means not patched yet and without bytes of another listed
-- instruction.
pub record MayBeVictim (v : TurnView) (site e : StartEntry) : Type 0 where
  pub listed : Contains v.entries e
  pub beside : share_segment v.segments site.addr e.addr ≡ true
  pub movable : is_some (v.can e) ≡ true
  pub untouched : is_untouched v e ≡ true

-- The n low bytes of the displacement of a jump to a target, as a number, the lowest first.
abbrev pub low_displacement : ℕ → ℕ → ℕ → ℕ
low_displacement n next target = (target + 2 ^ 32 - next) % 256 ^ n

-- How many displacement bytes of the victim's jump lie in the victim and in the displacement of the
-- site's jump. That one ends `pads + 5` bytes after the site's start, and the victim's begins
-- `victim_pads + 1` bytes after the victim's start.
abbrev pub shared_behind : StartEntry → StartEntry → ℕ → ℕ → ℕ
shared_behind site e pads victim_pads = min (pads + 4 - (site.len + victim_pads)) (e.len - (victim_pads + 1))

-- T2: a short site whose jump ends in that of the victim right after it: p and q pads, the victim's
-- pad byte, x, the number that the shared bytes spell, and the victim's place u.
pub record IsBehind (v : TurnView) (site e : StartEntry) (p q pad x u : ℕ) : Type 0 where
  pub short : site.len ≤ 4
  pub pads : p < site.len
  pub victim : MayBeVictim v site e
  pub behind : e.addr ≡ site.addr + site.len
  pub victim_pads : (q ≤ 4) × (q < e.len)
  pub rex : (0x40 ≤ pad) × (pad ≤ 0x4F)
  pub one_pad : q ≡ 0 → pad ≡ 0x40
  pub few : shared_behind site e p q ≤ 2
  pub shared : x ≡ low_displacement (shared_behind site e p q) (e.addr + q + 5) u

-- How many displacement bytes of the jump inside the victim lie in the victim and are displacement bytes of the victim's own jump.
abbrev pub shared_inside : StartEntry → ℕ → ℕ
shared_inside e offset = min (4 - offset) (e.len - (offset + 1))

-- T3: a short jump from the site into a victim above it, i bytes after the victim's start, where no
-- start is listed: x, the number that the shared bytes spell, and the site's place t.
pub record IsNear (v : TurnView) (site e : StartEntry) (i x t : ℕ) : Type 0 where
  pub room : 2 ≤ site.len
  pub victim : MayBeVictim v site e
  pub above : site.addr + site.len ≤ e.addr
  pub inside : (2 ≤ i) × (i < e.len)
  pub near : e.addr + i ≤ site.addr + 2 + 127
  pub unlisted : is_some (entry_at v.entries (e.addr + i)) ≡ false
  pub shared : x ≡ low_displacement (shared_inside e i) (e.addr + i + 5) t

-- The tuple of a plan is one that its scheme allows for this site.
abbrev pub HasForm : TurnView → StartEntry → Candidate → Type 0
HasForm v site (B1 t) = 5 ≤ site.len
HasForm v site (B2 t) = site.len ≤ 4
HasForm v site (T1 p t) = (site.len ≤ 4) × (1 ≤ p) × (p < site.len)
HasForm v site (T2 e p q pad x t u) = IsBehind v site e p q pad x u
HasForm v site (T3 e i x t u) = IsNear v site e i x t
