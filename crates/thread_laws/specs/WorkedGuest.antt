-- A guest by hand: SYSCALL at 0x401000, and behind it a jump to itself, which is displaced to a trampoline at 0x2401007. The private range
-- begins at 0x20000. Worked examples alone cite it.
use Rattle.std.specs.Prelude.{ℕ, ◌+◌, true, false, List, [], ◌∷◌, length, replicate, Option, Some, None}
use Rattle.pun_base.specs.Memory.{Bytes, joined}
use Rattle.pun_base.specs.declared.action.Comparison.{Comparison}
use Rattle.length_decode.specs.declared.escape_bytes.Escape.TheVariants.{TwoByte}
use Rattle.length_decode.specs.Spelling.{Fields}
use Rattle.cpu_alu.specs.declared.flag_word.Flags.{Flags}
use Rattle.cpu_state.specs.declared.state.Core.{Core}
use Rattle.cpu_state.specs.declared.world.Entry.{Entry}
use Rattle.insn_form.specs.Instruction.{insn_of}
use Rattle.relocate_insn.specs.Worked.{spread}
use Rattle.trampoline.specs.Worked.{jump_to_itself}
use Rattle.start_entries.specs.declared.entry.StartEntry.{StartEntry}
use Rattle.thread_runs.specs.Guest.{Thread}
use Rattle.thread_runs.specs.ThreadCode.{Kind}
use Rattle.thread_runs.specs.Threading.{ThreadSite, Threading}

-- 0F 05: SYSCALL
abbrev pub system_call : Fields
system_call = record { prefixes = []; escape = TwoByte; opcode = 0x05; modrm = None; sib = None; disp = []; imm = [] }

-- the text: SYSCALL; EB FE, the jump to itself; and three bytes behind it
abbrev pub text : List ℕ
text = 0x0f ∷ 0x05 ∷ 0xeb ∷ 0xfe ∷ 0x00 ∷ 0x00 ∷ 0x02 ∷ []

-- the patched text: E9 00 is written, and with the three bytes behind it that is JMP 0x2401007
abbrev pub patched_text : List ℕ
patched_text = 0x0f ∷ 0x05 ∷ 0xe9 ∷ 0x00 ∷ 0x00 ∷ 0x00 ∷ 0x02 ∷ []

-- the original's image
abbrev pub original_image : Bytes
original_image = spread 0x401000 0x401007 5 text

-- the patched image: the text, a page for the private range, and the trampoline's code
abbrev pub patched_image : List ℕ → Bytes
patched_image code = joined (spread 0x401000 0x401007 5 patched_text) (joined (spread 0x20000 0x21000 6 []) (spread 0x2401007 (0x2401007 + length code) 5 code))

-- the listed starts
abbrev pub call_entry : StartEntry
call_entry = record { addr = 0x401000; len = 2; form = Some (insn_of system_call); shared = false }

abbrev pub jump_entry : StartEntry
jump_entry = record { addr = 0x401002; len = 2; form = Some (insn_of jump_to_itself); shared = false }

-- the patched site, with an event or without, under comparisons
abbrev pub site_with : Option Kind → List Comparison → ThreadSite
site_with event when = record { number = 0; entry = jump_entry; place = 0x2401007; event = event; when = when }

-- what was patched, of a guest that starts at an address
abbrev pub patched_with : ℕ → Option Kind → List Comparison → Option ℕ → List ℕ → Threading
patched_with entry event when ring code = record {
  original = original_image;
  patched = patched_image code;
  entry = entry;
  listed = call_entry ∷ jump_entry ∷ [];
  sites = site_with event when ∷ [];
  private = 0x20000;
  ring = ring;
}

-- one region for stacks
abbrev pub stacks : Bytes
stacks = spread 0x600000 0x602000 6 []

-- the flags
abbrev pub flags : Flags
flags = record { cf = true; pf = false; af = false; zf = true; sf = false; of = true; rest = 0 }

-- registers with these values of rax, rcx and rsp, 0x602000 in rsi, 0x3D0F00 in rdi and zeros else, and flags
abbrev pub core_of : ℕ → ℕ → ℕ → Flags → Core
core_of rax rcx rsp f = record { regs = rax ∷ rcx ∷ 0 ∷ 0 ∷ rsp ∷ 0 ∷ 0x602000 ∷ 0x3d0f00 ∷ replicate 8 0; flags = f; fs = 0; gs = 0 }

-- the same with those flags, and a base of fs
abbrev pub core_with : ℕ → ℕ → ℕ → ℕ → Core
core_with rax rcx rsp base = record (core_of rax rcx rsp flags) { fs = base }

-- the answer to the call: 2 in rax, the number of the thread that began
abbrev pub call_answer : Entry
call_answer = record {
  question = record { bytes = 0x0f ∷ 0x05 ∷ []; addr = None };
  answer = record { regs = Some 2 ∷ replicate 15 None; flags = None; fs = None; gs = None; writes = [] };
}

-- a thread in front of clone(2), whose number 56 stands in rax, the flags of which stand in rdi, and the child's stack in rsi
abbrev pub caller : Thread
caller = record { core = core_with 56 0 0x601000 0; rip = 0x401000; world = call_answer ∷ [] }

-- the thread behind the call
abbrev pub parent : Thread
parent = record { core = core_with 2 0x401002 0x601000 0; rip = 0x401002; world = [] }

-- the thread that began: it has 0 in rax, and a stack and a base of fs of its own
abbrev pub child : Thread
child = record { core = core_with 0 0x401002 0x602000 0x700000; rip = 0x401002; world = [] }
