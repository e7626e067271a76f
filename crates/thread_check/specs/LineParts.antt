-- What the checker keeps of a report's trampolines, and when each is sound. Contracts of private functions alone cite it.
use Rattle.std.specs.Prelude.{◌≡◌, ◌⊎◌, ℕ, ◌+◌, ◌<◌, Bool, true, false, nat_lt, if◌then◌else◌, List, [], ◌∷◌, map, length, Option, Some, None, is_some, Contains}
use Rattle.std.specs.List.{AllByRecursion}
use Rattle.std.specs.List.Sorted.{IsPermutation, IsNonDecreasingBy}
use Rattle.pun_base.specs.Memory.{Cell, Bytes}
use Rattle.start_entries.specs.Leading.{JumpsTo}
use Rattle.image_check.specs.CodeParts.{holds_code}
use Rattle.image_check.specs.Parts.{line_of}
use Rattle.sound_images.specs.Reports.{Line, lines}
use Rattle.sound_images.specs.Rules.{Case, HasCodeWith, ByteFails, WriteFails, EntryFails, RangeFails, SiteFails}
use Rattle.image_check.specs.declared.placed_code.PlacedCode.{PlacedCode}
use Rattle.image_check.specs.declared.verdict.Verdict.{Verdict}
use Rattle.image_check.specs.declared.verdict.Verdict.TheVariants.{Yes, No}
use Rattle.site_turns.specs.Modes.{IsShared}
use Rattle.thread_check.specs.ThreadRules.{moved_at, shares_at, ThreadLineFails, thread_coding}

-- This byte is loaded, R-X, where the original loads none.
abbrev pub is_new_code : Option Cell → Option Cell → ℕ → Bool
is_new_code (Some c) now b = false
is_new_code None now b = holds_code now b

-- The first address, from one on, at which that isn't so of these bytes.
abbrev pub first_broken : Bytes → Bytes → ℕ → List ℕ → Option ℕ
first_broken m n a [] = None
first_broken m n a (b ∷ bs) = if is_new_code (m a) (n a) b then first_broken m n (a + 1) bs else Some a

-- The code that a trampoline has for threads: of an instruction that can be displaced and is alone.
-- It isn't empty.
pub record IsThreadCode (c : Case) (l : Line) (code : List ℕ) : Type 0 where
  pub moved : is_some (moved_at c.listed l.tramp.start) ≡ true
  pub alone : shares_at c.listed l.tramp.start ≡ false
  pub has : HasCodeWith (thread_coding c.report) c l code
  pub some : 0 < length code

-- A trampoline has this code, or rule 3 fails for its instruction.
abbrev pub IsCodeFound : Case → Line → Option (List ℕ) → Type 0
IsCodeFound c l None = (moved_at c.listed l.tramp.start ≡ None) ⊎ (shares_at c.listed l.tramp.start ≡ true)
IsCodeFound c l (Some code) = IsThreadCode c l code

-- A jump leads from a start to a place, or to where the original loads a byte.
pub record Lands (original patched : Bytes) (start place : ℕ) : Type 0 where
  pub target : ℕ
  pub jump : JumpsTo patched start target
  pub there : (target ≡ place) ⊎ (is_some (original target) ≡ true)

-- What rules 3 and 4 show for a trampoline with this code, but for its instruction and for what any
-- patched image has: a jump leads from its start to its place, or to where the original loads a byte,
-- and the code is held there; or which rule fails, and where.
abbrev pub IsCodeVerdict : Bytes → Bytes → ℕ → ℕ → List ℕ → Verdict → Type 0
IsCodeVerdict m n start place code Yes = Lands m n start place × (first_broken m n place code ≡ None)
IsCodeVerdict m n start place code (No addr rule) =
    ((rule ≡ 3) × (addr ≡ start) × (Lands m n start place → ⊥))
    ⊎ ((rule ≡ 4) × (first_broken m n place code ≡ Some addr))

-- A trampoline with this code: a jump leads from its start to its place, or to where the original
-- loads a byte, and the code is held at the place.
pub record IsSoundLine (c : Case) (l : Line) (code : List ℕ) : Type 0 where
  pub code_is : IsThreadCode c l code
  pub lands : Lands c.original c.patched l.tramp.start l.tramp.place
  pub held : first_broken c.original c.patched l.tramp.place code ≡ None

-- The code of a trampoline isn't held at an address.
pub record IsBrokenLine (c : Case) (l : Line) (x : ℕ) : Type 0 where
  pub code : List ℕ
  pub code_is : IsThreadCode c l code
  pub first : first_broken c.original c.patched l.tramp.place code ≡ Some x

-- A trampoline isn't sound: rule 3 fails for it at its start, or rule 4 at an address of its code.
abbrev pub IsLineFailure : Case → Line → Verdict → Type 0
IsLineFailure c l Yes = ⊥
IsLineFailure c l (No addr rule) =
    ((rule ≡ 3) × (addr ≡ l.tramp.start) × ThreadLineFails c l.tramp.start l) ⊎ ((rule ≡ 4) × IsBrokenLine c l addr)

-- A trampoline with its code is sound.
abbrev pub IsSoundCode : Case → PlacedCode → Type 0
IsSoundCode c p = IsSoundLine c (line_of p.line) p.bytes

-- The first place below the end of the code before it.
abbrev pub first_overlap : ℕ → List PlacedCode → Option ℕ
first_overlap reached [] = None
first_overlap reached (p ∷ ps) =
    if nat_lt p.line.tramp.place reached then Some p.line.tramp.place else first_overlap (p.line.tramp.place + length p.bytes) ps

-- All trampolines of a report, each sound, with their codes also sorted by place.
pub record AreSoundLines (c : Case) (sorted : List PlacedCode) : Type 0 where
  pub codes : List PlacedCode
  pub lines_are : map (λ p. line_of p.line) codes ≡ lines c.report
  pub each : AllByRecursion (IsSoundCode c) codes
  pub moved : IsPermutation codes sorted
  pub rise : IsNonDecreasingBy (λ p. p.line.tramp.place) sorted

-- What the trampolines of a report show: each is sound, and codes don't meet; or one isn't sound, or
-- two codes meet at an address.
abbrev pub IsLinesVerdict : Case → Verdict → Type 0
IsLinesVerdict c Yes = (sorted : List PlacedCode) × AreSoundLines c sorted × (first_overlap 0 sorted ≡ None)
IsLinesVerdict c (No addr rule) =
    ((l : Line) × Contains (lines c.report) l × IsLineFailure c l (No addr rule))
    ⊎ ((rule ≡ 4) × ((sorted : List PlacedCode) × AreSoundLines c sorted × (first_overlap 0 sorted ≡ Some addr)))

-- Rules 1, 2, 3, 5 and 6 of any patched image hold everywhere.
pub record IsSoundImage (c : Case) : Type 0 where
  pub bytes : (x : ℕ) → ByteFails c x → ⊥
  pub writes : (x : ℕ) → WriteFails c x → ⊥
  pub entries : (x : ℕ) → EntryFails c x → ⊥
  pub ranges : (x : ℕ) → RangeFails c x → ⊥
  pub sites : (x : ℕ) → SiteFails c x → ⊥

-- One of these rules fails at an address.
abbrev pub ImageFails : Case → ℕ → ℕ → Type 0
ImageFails c rule x =
    ((rule ≡ 1) × ByteFails c x) ⊎ ((rule ≡ 2) × WriteFails c x) ⊎ ((rule ≡ 5) × RangeFails c x) ⊎ ((rule ≡ 6) × SiteFails c x)
    ⊎ ((rule ≡ 3) × EntryFails c x)

-- What these rules show: each holds everywhere, or one fails at an address.
abbrev pub IsImageVerdict : Case → Verdict → Type 0
IsImageVerdict c Yes = IsSoundImage c
IsImageVerdict c (No addr rule) = ImageFails c rule addr

-- The first of the rules 1, 2, 5, 6 and 3 that fails, where each first fails there, if it does.
abbrev pub first_failure : Option ℕ → Option ℕ → Option ℕ → Option ℕ → Option ℕ → Verdict
first_failure (Some x) write range site entry = No x 1
first_failure None (Some x) range site entry = No x 2
first_failure None None (Some x) site entry = No x 5
first_failure None None None (Some x) entry = No x 6
first_failure None None None None (Some x) = No x 3
first_failure None None None None None = Yes

-- What a report's action and trampolines show: threads can get the events of the action, and of the trampolines rules 3 and 4 show this;
-- or they can't, and rule 6 fails at the private range's first address.
abbrev pub IsEventsVerdict : Case → Verdict → Type 0
IsEventsVerdict c v = (IsShared c.report.action × IsLinesVerdict c v) ⊎ ((IsShared c.report.action → ⊥) × (v ≡ No c.report.private.0 6))

-- The verdict of these: of the rules of any patched file, and of the action with the trampolines.
abbrev pub whole : Verdict → Verdict → Verdict
whole (No addr rule) events = No addr rule
whole Yes events = events
