-- The instruction that bytes spell is read back, and its code has the length that is told.
use Rattle.std.proofs.Common.{◌≡◌, ℕ, ◌+◌, ◌≤◌, Bool, true, false, ◌&&◌, cond, List, [], length, Option, Some, None, refl, sym, ap, ◌∙◌, subst}
use Rattle.std.specs.Prelude.{is_some, IfSome}
use Rattle.std.proofs.lemmas.List.{append-nil}
use Rattle.length_decode.specs.Spelling.{Fields, IsInstruction, BeginsWith, spelling, parts_of}
use Rattle.insn_form.specs.declared.form.Insn.{Insn}
use Rattle.insn_form.specs.Instruction.{insn_of}
use Rattle.insn_form.specs.Displacing.{insn_rip, is_low, code_length, displaced_len}
use Rattle.insn_form.specs.Moved.{direct_target}
use Rattle.relocate_insn.specs.Relocating.{Spells, relocated_code}
use Rattle.relocate_insn.proofs.RelocatedLengths.{relocated_long}

-- bytes that spell an instruction begin with its parts
pub begins : (bytes : List ℕ) (i : Insn) (s : Spells bytes i) → BeginsWith bytes (parts_of s.fields)
begins bytes i s = record { front = bytes; rest = []; joined = sym (append-nil bytes); spelled = record { fields = s.fields; is = s.is; spelled = s.spelled; divided = refl } }

module _ (f : Fields) (p addr place : ℕ) (i : IsInstruction f) where
  by_code : (o : Option ℕ) → code_length (insn_of f) (length (spelling f)) ≡ o → is_some o ≡ true → code_length (insn_of f) (length (spelling f)) ≡ Some (length (relocated_code p f (addr + length (spelling f)) place))
  by_code None e h = absurd cc
  by_code (Some n) e h = e ∙ ap Some (sym (relocated_long f p (addr + length (spelling f)) place n i e))

  by_low : (b : Bool) → is_some (cond b (code_length (insn_of f) (length (spelling f))) None) ≡ true
      → cond b (code_length (insn_of f) (length (spelling f))) None ≡ Some (length (relocated_code p f (addr + length (spelling f)) place))
  by_low true h = by_code (code_length (insn_of f) (length (spelling f))) refl h
  by_low false h = absurd cc

  -- where an instruction can be displaced, the length that is told is that of its relocated code
  pub told_len : is_some (displaced_len (insn_of f) (length (spelling f)) addr) ≡ true → displaced_len (insn_of f) (length (spelling f)) addr ≡ Some (length (relocated_code p f (addr + length (spelling f)) place))
  told_len h = by_low (is_low (addr + length (spelling f)) (direct_target (insn_of f)) && is_low (addr + length (spelling f)) (insn_rip (insn_of f))) h

-- a length that is told as at most 46 is at most 46
pub few_by : (o : Option ℕ) (n : ℕ) → o ≡ Some n → IfSome o (λ m. m ≤ 46) → n ≤ 46
few_by None n e h = absurd cc
few_by (Some m) n e h = let k : m ≡ n = cc in subst (λ z. z ≤ 46) k h
