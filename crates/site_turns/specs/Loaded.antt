-- What the written file loads, as it follows from the state after the turns. Theorems cite it.
use Rattle.std.specs.Prelude.{◌≡◌, ℕ, ◌+◌, ◌<◌, ◌≤◌, true, false, ◌&&◌, ◌||◌, nat_le, nat_lt, if◌then◌else◌, List, length, slice_index, Some, None, is_some}
use Rattle.std.specs.List.{AllByRecursion}
use Rattle.pun_base.specs.Memory.{Cell, Bytes, joined}
use Rattle.patch_report.specs.Values.{BodyValue}
use Rattle.sound_images.specs.Reports.{lines, in_private, on_page, private_len}
use Rattle.sound_images.specs.Rules.{Case, HasCode, SharesPage}
use Rattle.site_turns.specs.States.{Scene, State, memory_at, report_of}

-- What is to be checked after the turns, where the code stands on these pages.
abbrev pub case_of : Scene → State → List (ℕ × ℕ) → Bytes → ℕ → Case
case_of g t pages patched entry = record {
  original = g.image;
  patched = patched;
  entry = entry;
  patched_entry = entry;
  listed = g.entries;
  report = report_of g t pages;
}

-- The bytes stand from an address on, R-X.
abbrev pub AreShown : Bytes → ℕ → List ℕ → Type 0
AreShown m a bs =
    (k : ℕ) → k < length bs → m (a + k) ≡ Some (record { byte = slice_index bs k; perms = 5 })

-- The private range: zeros that can be read and written.
abbrev pub zeros : Scene → Bytes
zeros g x =
    if nat_le g.private.lo x && nat_lt x g.private.hi then Some (record { byte = 0; perms = 6 }) else None

-- An address of the private range or of a page for code is loaded, its page has no byte of the
-- original, and it isn't at once in the range and on such a page.
pub record IsClaimed (g : Scene) (v : BodyValue) (m : Bytes) (x : ℕ) : Type 0 where
  pub loaded : is_some (m x) ≡ true
  pub new : SharesPage g.image x → ⊥
  pub one : (in_private v x && on_page v x) ≡ false
  pub low : 0x20000 ≤ x

-- Memory as it stands after the turns, joined with the table of headers, the private range and the
-- pages for code.
pub record IsLoaded (g : Scene) (t : State) (pages : List (ℕ × ℕ)) (patched : Bytes) : Type 0 where
  pub table : Bytes
  pub shown : Bytes
  pub image : (x : ℕ) → patched x ≡ joined table (joined (zeros g) (joined shown (memory_at g t))) x
  pub header : (x : ℕ) (c : Cell) → table x ≡ Some c → (0x10000 ≤ x) × (x < 0x1E000) × (c.perms ≡ 4)
  pub page : (x : ℕ) (c : Cell) → shown x ≡ Some c → (on_page (report_of g t pages) x ≡ true)
      × (c.perms ≡ 5)
  -- the original's bytes are loaded as they stand
  pub originals : (x : ℕ) → is_some (g.image x) ≡ true → patched x ≡ memory_at g t x
  -- each trampoline has its code, on pages of the report
  pub code : AllByRecursion (λ l. (entry : ℕ) (code : List ℕ)
      → HasCode (case_of g t pages patched entry) l code
      → AreShown patched l.tramp.place code) (lines (report_of g t pages))
  pub covered : AllByRecursion (λ l. (entry : ℕ) (code : List ℕ)
      → HasCode (case_of g t pages patched entry) l code
      → (x : ℕ) → l.tramp.place ≤ x → x < l.tramp.place + length code
      → on_page (report_of g t pages) x ≡ true)
      (lines (report_of g t pages))
  pub claimed : (x : ℕ)
      → (in_private (report_of g t pages) x || on_page (report_of g t pages) x) ≡ true
      → IsClaimed g (report_of g t pages) patched x
  pub room : g.private.lo + private_len g.action (length t.rows) ≤ g.private.hi
