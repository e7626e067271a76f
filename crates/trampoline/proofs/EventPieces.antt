-- With which instruction an event begins.
use Rattle.std.proofs.Common.{◌≡◌, ◌≢◌, ℕ, ◌+◌, ◌*◌, false, List, [], ◌∷◌, ◌++◌, Some, ℤ, refl, sym, ap, ◌∙◌, arith}
use Rattle.pun_base.specs.Memory.{Bytes}
use Rattle.pun_base.specs.declared.action.Action.TheVariants.{Cover, Count, Ring, When}
use Rattle.pun_base.specs.Actions.{listed}
use Rattle.cpu_alu.specs.declared.operation.Width.TheVariants.{W8}
use Rattle.cpu_state.specs.Bytes.{Stands}
use Rattle.cpu_state.proofs.StandingBytes.{front}
use Rattle.length_decode.specs.declared.escape_bytes.Escape.TheVariants.{OneByte}
use Rattle.length_decode.specs.Spelling.{Fields, IsInstruction, spelling}
use Rattle.insn_form.specs.declared.form.Insn.TheVariants.{Exact}
use Rattle.insn_form.specs.declared.form.Op.{Op}
use Rattle.insn_form.specs.declared.form.Op.TheVariants.{Mov, Jmp}
use Rattle.insn_form.specs.declared.form.Spot.TheVariants.{Mem}
use Rattle.insn_form.specs.declared.form.Target.TheVariants.{Rel}
use Rattle.insn_form.specs.declared.form.Value.TheVariants as value
use Rattle.insn_form.specs.Classes.{template}
use Rattle.insn_form.specs.Filling.{filled}
use Rattle.insn_form.specs.Instruction.{insn_of}
use Rattle.insn_form.specs.Machine.{Machine}
use Rattle.insn_form.proofs.UniqueSteps.{one_instruction}
use Rattle.relocate_insn.specs.Pieces.{four, store_rax, load_rax}
use Rattle.relocate_insn.proofs.PieceSteps.{at_fixed, store_fields, store_is, store_insn}
use Rattle.cond_action.specs.Codes.{store_eax, load_eax, give_back, comparing, recording}
use Rattle.trampoline.specs.Events.{add_one, put_slot, next_slot}
use Rattle.trampoline.specs.Running.{BeginsWithNoJump}

-- MOV byte [a], 1
abbrev pub mark_fields : ℕ → Fields
mark_fields a = record { prefixes = []; escape = OneByte; opcode = 0xc6; modrm = Some 0x04; sib = Some 0x25; disp = four a; imm = 1 ∷ [] }

-- its bytes are an instruction
pub mark_is : (a : ℕ) → IsInstruction (mark_fields a)
mark_is a = record {
  formed = record { prefixes = refl; escape = refl; opcode = refl; known = refl; modrm = refl; operand = (refl, refl); imm = refl };
  short = omega arith;
}

mark_insn : (a : ℕ) → insn_of (mark_fields a) ≡ Exact (Mov W8 (Mem (at_fixed (four a))) (value.Imm 1))
unfolding template filled
mark_insn a = refl

-- The code of an event begins with one of these, which is no jump.
some_state : Bytes → ℕ → Machine
some_state m a = record {
  core = record {
    regs = [];
    flags =
        record { cf = false; pf = false; af = false; zf = false; sf = false; of = false; rest = 0 };
    fs = 0;
    gs = 0;
  };
  rip = a;
  mem = m;
  world =
      [];
}

no_jump_by : (m : Bytes) (a : ℕ) (f g : Fields) (op : Op) (rel : ℤ) → IsInstruction g → Stands m a (spelling g) → insn_of g ≡ Exact op
    → (op ≢ Jmp (Rel rel)) → IsInstruction f → Stands m a (spelling f) → insn_of f ≢ Exact (Jmp (Rel rel))
unfolding some_state
no_jump_by m a f g op rel i s e k j t h =
    let same : f ≡ g = one_instruction (some_state m a) f g (record { spelled = j; here = t }) (record { spelled = i; here = s }) in
    let jump : Exact op ≡ Exact (Jmp (Rel rel)) = sym e ∙ sym (ap insn_of same) ∙ h in
    k cc

-- nor is it one where rax is stored first
stores_first : (p : ℕ) (rest : List ℕ) (a : ℕ) (m : Bytes) (f : Fields) (rel : ℤ) → Stands m a (store_rax p ++ rest)
    → IsInstruction f → Stands m a (spelling f) → insn_of f ≢ Exact (Jmp (Rel rel))
stores_first p rest a m f rel s j t =
    no_jump_by m a f (store_fields p) _ rel (store_is p) (front m a (spelling (store_fields p)) rest s) (store_insn p) (λ e. cc) j t

-- the instruction with which an event's code begins is no direct jump
pub no_jump : BeginsWithNoJump
no_jump Cover p n a m f rel s j t = no_jump_by m a f (mark_fields (p + 64 + n)) _ rel (mark_is (p + 64 + n)) s (mark_insn (p + 64 + n))
    (λ e. cc) j t
no_jump Count p n a m f rel s j t =
    stores_first p (load_rax (p + 64 + 8 * n) ++ (add_one ++ (store_rax (p + 64 + 8 * n) ++ load_rax p))) a m f rel s j t
no_jump (Ring len) p n a m f rel s j t =
    stores_first p ((0x9f ∷ 0x0f ∷ 0x90 ∷ 0xc0 ∷ store_eax (p + 8)) ++ (load_eax (p + 64)
    ++ (put_slot (p + 68) (n + 1) ++ (next_slot len ++ (store_eax (p + 64) ++ give_back p))))) a m f rel s j t
no_jump (When b list) p n a m f rel s j t =
    stores_first p ((0x9f ∷ 0x0f ∷ 0x90 ∷ 0xc0 ∷ store_eax (p + 8)) ++ (load_rax p
    ++ (comparing (listed list) ++ (recording b p n ++ give_back p)))) a m f rel s j t
