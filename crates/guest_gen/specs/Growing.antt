-- A text that grows by instructions. Contracts of private functions alone cite it.
use Rattle.std.specs.Prelude.{◌≡◌, ℕ, ◌+◌, List, ◌++◌, length}
use Rattle.guest_gen.specs.declared.instruction.GuestInsn.{GuestInsn}
use Rattle.guest_gen.specs.declared.draft.Text.{Text}
use Rattle.guest_gen.specs.Instructions.{text_start}
use Rattle.guest_gen.specs.Texts.{text_from, starts_from}

-- the address behind a text
abbrev pub behind : Text → ℕ
behind t = text_start + length t.bytes.items

-- the new text is the old one, and these instructions behind it
pub record Grown (is : List GuestInsn) (old new : Text) : Type 0 where
  pub bytes : new.bytes.items ≡ old.bytes.items ++ text_from (behind old) is
  pub starts : new.starts.items ≡ old.starts.items ++ starts_from (behind old) is
