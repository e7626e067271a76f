-- LOCK INC and LOCK XADD, the two spellings that interleaved runs read otherwise than a single processor's runs, by their bytes. Theorems cite it.
use Rattle.std.specs.Prelude.{◌≡◌, ◌↔◌, ℕ, true, [], ◌∷◌}
use Rattle.length_decode.specs.Spelling.{Fields, IsInstruction, spelling}
use Rattle.event_steps.specs.ThreadSteps.{is_locked_inc, is_locked_xadd, unlocked, thread_task}

-- the spelling of LOCK INC: F0 48 FF 04 25 with four more bytes
pub record IsLockedInc (f : Fields) : Type 0 where
  pub a : ℕ
  pub b : ℕ
  pub c : ℕ
  pub d : ℕ
  pub spelled : spelling f ≡ 0xf0 ∷ 0x48 ∷ 0xff ∷ 0x04 ∷ 0x25 ∷ a ∷ b ∷ c ∷ d ∷ []

-- the test for LOCK INC by its fields is that by its bytes
abbrev pub LockedIsSpelled : Type 0
LockedIsSpelled = (f : Fields) → IsInstruction f → (is_locked_inc f ≡ true) ↔ IsLockedInc f

-- interleaved runs don't see LOCK itself, since each instruction is one step in them: without F0 it
-- is the same task
abbrev pub LockIsUntested : Type 0
LockIsUntested = (f : Fields) (next : ℕ) → is_locked_inc f ≡ true → thread_task f next ≡ thread_task (unlocked f) next

-- the spelling of LOCK XADD: F0 0F C1 04 25 with four more bytes
pub record IsLockedXadd (f : Fields) : Type 0 where
  pub a : ℕ
  pub b : ℕ
  pub c : ℕ
  pub d : ℕ
  pub spelled : spelling f ≡ 0xf0 ∷ 0x0f ∷ 0xc1 ∷ 0x04 ∷ 0x25 ∷ a ∷ b ∷ c ∷ d ∷ []

-- the test for LOCK XADD by its fields is that by its bytes
abbrev pub XaddIsSpelled : Type 0
XaddIsSpelled = (f : Fields) → IsInstruction f → (is_locked_xadd f ≡ true) ↔ IsLockedXadd f
