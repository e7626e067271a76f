-- The instructions of events of the worked guest, and steps of two threads.
use Rattle.std.proofs.Common.{◌≡◌, ◌≢◌, ℕ, zero, suc, Bool, true, false, List, [], ◌∷◌, Some, None, Ok, refl, sym, ap, ◌∙◌, subst, arith}
use Rattle.std.specs.Prelude.{slice_get}
use Rattle.pun_base.specs.Memory.{Bytes}
use Rattle.cpu_alu.specs.declared.flag_word.Flags.{Flags}
use Rattle.length_decode.specs.declared.escape_bytes.Escape.TheVariants.{OneByte, TwoByte}
use Rattle.length_decode.specs.Spelling.{Fields, IsInstruction, spelling}
use Rattle.cpu_state.specs.Bytes.{Stands, avoids}
use Rattle.insn_form.specs.Classes.{template}
use Rattle.insn_form.specs.Filling.{filled}
use Rattle.insn_form.specs.Meaning.{effect}
use Rattle.insn_form.specs.Machine.{Machine, leaves}
use Rattle.insn_form.specs.Step.{next_after}
use Rattle.insn_form.specs.Runs.{nowhere}
use Rattle.trampoline.specs.Worked.{jump_to_itself}
use Rattle.patch_report.proofs.ListPlaces.{some_is}
use Rattle.event_steps.specs.ThreadSteps.{thread_task, thread_act}
use Rattle.thread_runs.specs.Guest.{machine_of}
use Rattle.thread_runs.specs.ThreadCode.{saved_from, saved_len}
use Rattle.thread_runs.specs.Threading.{Threading, is_new, in_event, saves, has_saved, is_saved_by}
use Rattle.thread_runs.specs.Watching.{Watched, EffectStep, Claim, Fill, Watch, stale_after, watched_after, is_effect, Watches}
use Rattle.thread_runs.specs.Premises.{IsQuietAt, StandAtStarts, reads_nothing_of, touches_none, IsProper}
use Rattle.thread_laws.specs.WorkedGuest.{core_of}
use Rattle.thread_laws.specs.WorkedRuns.{thread_with}

-- MOV [rsp - 136], rax
abbrev pub save_rax : Fields
save_rax = record { prefixes = 0x48 ∷ []; escape = OneByte; opcode = 0x89; modrm = Some 0x84; sib = Some 0x24; disp = 0x78 ∷ 0xff ∷ 0xff ∷ 0xff ∷ []; imm = [] }

pub save_rax_is : IsInstruction save_rax
save_rax_is = record { formed = record { prefixes = refl; escape = refl; opcode = refl; known = refl; modrm = refl; operand = (refl, refl); imm = refl }; short = omega arith }

-- LAHF
abbrev pub lahf : Fields
lahf = record { prefixes = []; escape = OneByte; opcode = 0x9f; modrm = None; sib = None; disp = []; imm = [] }

pub lahf_is : IsInstruction lahf
lahf_is = record { formed = record { prefixes = refl; escape = refl; opcode = refl; known = refl; modrm = refl; operand = refl; imm = refl }; short = omega arith }

-- SETO al
abbrev pub seto : Fields
seto = record { prefixes = []; escape = TwoByte; opcode = 0x90; modrm = Some 0xc0; sib = None; disp = []; imm = [] }

pub seto_is : IsInstruction seto
seto_is = record { formed = record { prefixes = refl; escape = refl; opcode = refl; known = refl; modrm = refl; operand = (refl, refl); imm = refl }; short = omega arith }

-- CMP rcx, 5
abbrev pub compare : Fields
compare = record { prefixes = 0x48 ∷ []; escape = OneByte; opcode = 0x81; modrm = Some 0xf9; sib = None; disp = []; imm = 0x05 ∷ 0x00 ∷ 0x00 ∷ 0x00 ∷ [] }

pub compare_is : IsInstruction compare
compare_is = record { formed = record { prefixes = refl; escape = refl; opcode = refl; known = refl; modrm = refl; operand = (refl, refl); imm = refl }; short = omega arith }

-- JNE over the nine bytes behind it
abbrev pub jump_over : Fields
jump_over = record { prefixes = []; escape = OneByte; opcode = 0x75; modrm = None; sib = None; disp = []; imm = 0x09 ∷ [] }

pub jump_over_is : IsInstruction jump_over
jump_over_is = record { formed = record { prefixes = refl; escape = refl; opcode = refl; known = refl; modrm = refl; operand = refl; imm = refl }; short = omega arith }

-- LOCK INC of the eight bytes at 0x20040
abbrev pub count : Fields
count = record { prefixes = 0xf0 ∷ 0x48 ∷ []; escape = OneByte; opcode = 0xff; modrm = Some 0x04; sib = Some 0x25; disp = 0x40 ∷ 0x00 ∷ 0x02 ∷ 0x00 ∷ []; imm = [] }

pub count_is : IsInstruction count
count_is = record { formed = record { prefixes = refl; escape = refl; opcode = refl; known = refl; modrm = refl; operand = (refl, refl); imm = refl }; short = omega arith }

-- ADD al, 7F
abbrev pub add_flag : Fields
add_flag = record { prefixes = []; escape = OneByte; opcode = 0x04; modrm = None; sib = None; disp = []; imm = 0x7f ∷ [] }

pub add_flag_is : IsInstruction add_flag
add_flag_is = record { formed = record { prefixes = refl; escape = refl; opcode = refl; known = refl; modrm = refl; operand = refl; imm = refl }; short = omega arith }

-- SAHF
abbrev pub sahf : Fields
sahf = record { prefixes = []; escape = OneByte; opcode = 0x9e; modrm = None; sib = None; disp = []; imm = [] }

pub sahf_is : IsInstruction sahf
sahf_is = record { formed = record { prefixes = refl; escape = refl; opcode = refl; known = refl; modrm = refl; operand = refl; imm = refl }; short = omega arith }

-- MOV rax, [rsp - 136]
abbrev pub load_rax : Fields
load_rax = record { prefixes = 0x48 ∷ []; escape = OneByte; opcode = 0x8b; modrm = Some 0x84; sib = Some 0x24; disp = 0x78 ∷ 0xff ∷ 0xff ∷ 0xff ∷ []; imm = [] }

pub load_rax_is : IsInstruction load_rax
load_rax_is = record { formed = record { prefixes = refl; escape = refl; opcode = refl; known = refl; modrm = refl; operand = (refl, refl); imm = refl }; short = omega arith }

-- MOV [rsp - 144], rax
abbrev pub save_flags : Fields
save_flags = record { prefixes = 0x48 ∷ []; escape = OneByte; opcode = 0x89; modrm = Some 0x84; sib = Some 0x24; disp = 0x70 ∷ 0xff ∷ 0xff ∷ 0xff ∷ []; imm = [] }

pub save_flags_is : IsInstruction save_flags
save_flags_is = record { formed = record { prefixes = refl; escape = refl; opcode = refl; known = refl; modrm = refl; operand = (refl, refl); imm = refl }; short = omega arith }

-- MOV eax, 1
abbrev pub one : Fields
one = record { prefixes = []; escape = OneByte; opcode = 0xb8; modrm = None; sib = None; disp = []; imm = 0x01 ∷ 0x00 ∷ 0x00 ∷ 0x00 ∷ [] }

pub one_is : IsInstruction one
one_is = record { formed = record { prefixes = refl; escape = refl; opcode = refl; known = refl; modrm = refl; operand = refl; imm = refl }; short = omega arith }

-- LOCK XADD of the four bytes at 0x20040 with eax
abbrev pub claim : Fields
claim = record { prefixes = 0xf0 ∷ []; escape = TwoByte; opcode = 0xc1; modrm = Some 0x04; sib = Some 0x25; disp = 0x40 ∷ 0x00 ∷ 0x02 ∷ 0x00 ∷ []; imm = [] }

pub claim_is : IsInstruction claim
claim_is = record { formed = record { prefixes = refl; escape = refl; opcode = refl; known = refl; modrm = refl; operand = (refl, refl); imm = refl }; short = omega arith }

-- MOVZX eax, al
abbrev pub reduce : Fields
reduce = record { prefixes = []; escape = TwoByte; opcode = 0xb6; modrm = Some 0xc0; sib = None; disp = []; imm = [] }

pub reduce_is : IsInstruction reduce
reduce_is = record { formed = record { prefixes = refl; escape = refl; opcode = refl; known = refl; modrm = refl; operand = (refl, refl); imm = refl }; short = omega arith }

-- MOV [4 * rax + 0x20044], 1
abbrev pub fill : Fields
fill = record { prefixes = []; escape = OneByte; opcode = 0xc7; modrm = Some 0x04; sib = Some 0x85; disp = 0x44 ∷ 0x00 ∷ 0x02 ∷ 0x00 ∷ []; imm = 0x01 ∷ 0x00 ∷ 0x00 ∷ 0x00 ∷ [] }

pub fill_is : IsInstruction fill
fill_is = record { formed = record { prefixes = refl; escape = refl; opcode = refl; known = refl; modrm = refl; operand = (refl, refl); imm = refl }; short = omega arith }

-- MOV rax, [rsp - 144]
abbrev pub load_flags : Fields
load_flags = record { prefixes = 0x48 ∷ []; escape = OneByte; opcode = 0x8b; modrm = Some 0x84; sib = Some 0x24; disp = 0x70 ∷ 0xff ∷ 0xff ∷ 0xff ∷ []; imm = [] }

pub load_flags_is : IsInstruction load_flags
load_flags_is = record { formed = record { prefixes = refl; escape = refl; opcode = refl; known = refl; modrm = refl; operand = (refl, refl); imm = refl }; short = omega arith }

-- a thread that counts as itself
abbrev pub outside : ℕ → ℕ → Watched
outside rcx rsp = record { now = thread_with rcx rsp; projected = thread_with rcx rsp }

-- a thread in the trampoline
abbrev pub running : ℕ → ℕ → ℕ → Flags → ℕ → Watched
running rax rcx rsp f rip = record { now = record { core = core_of rax rcx rsp f; rip = rip; world = [] }; projected = thread_with rcx rsp }

-- both threads outside, where nothing was done yet
abbrev pub both_outside : Bytes → Watch
both_outside m = record { threads = outside 5 0x601000 ∷ outside 6 0x601800 ∷ []; mem = m; stale = nowhere; log = []; claims = []; fills = [] }

-- the watched guest after a step of a thread
abbrev pub behind : Threading → Watch → Watched → Fields → List Watched → Bytes → List EffectStep → List Claim → List Fill → Watch
behind r w one f ts m log cs fs = record { threads = ts; mem = m; stale = stale_after r w.stale one f (machine_of w.mem one.now); log = log; claims = cs; fills = fs }

-- the jump to itself touches no byte of any set
pub quiet_jump : (set : ℕ → Bool) (m : Bytes) (rcx rsp : ℕ) (f : Fields) → jump_to_itself ≡ f → leaves set (thread_task f (next_after 0x401002 f)) (next_after 0x401002 f) (machine_of m (thread_with rcx rsp)) ≡ true
unfolding template filled effect
quiet_jump set m rcx rsp f e = subst (λ g. leaves set (thread_task g (next_after 0x401002 g)) (next_after 0x401002 g) (machine_of m (thread_with rcx rsp)) ≡ true) e refl

-- a step of thread k that meets the premises
abbrev pub Proper : Threading → ℕ → Watch → Watch → Type 0
Proper r k w v = (m : Watches r k w v) × IsProper r k w v m

-- a step of one of two threads touches none of the other's saved bytes
beside : (r : Threading) (x y : Watched) (k : ℕ) (f : Fields) (s : Machine)
    → (0 ≢ k → has_saved r x.now.rip ≡ true → touches_none (is_saved_by r x.now.core) f s ≡ true)
    → (1 ≢ k → has_saved r y.now.rip ≡ true → touches_none (is_saved_by r y.now.core) f s ≡ true)
    → (j : ℕ) (o : Watched) → j ≢ k → slice_get (x ∷ y ∷ []) j ≡ Some o → has_saved r o.now.rip ≡ true → touches_none (is_saved_by r o.now.core) f s ≡ true
beside r x y k f s a b zero o n e = subst (λ (t : Watched). has_saved r t.now.rip ≡ true → touches_none (is_saved_by r t.now.core) f s ≡ true) (some_is x o e) (a n)
beside r x y k f s a b (suc zero) o n e = subst (λ (t : Watched). has_saved r t.now.rip ≡ true → touches_none (is_saved_by r t.now.core) f s ≡ true) (some_is y o e) (b n)
beside r x y k f s a b (suc (suc j)) o n e = absurd cc

-- a step of the first of two threads meets the premises
pub first_steps : (r : Threading) (w v : Watch) (f : Fields) (to : Machine) (x y : Watched) → w.threads ≡ x ∷ y ∷ [] → IsInstruction f → Stands w.mem x.now.rip (spelling f)
    → thread_act f (next_after x.now.rip f) (machine_of w.mem x.now) ≡ Ok to → v ≡ watched_after r 0 w x f to
    → (is_effect r x.now.rip ≡ true → IsQuietAt r (machine_of w.mem x.projected)) → StandAtStarts r v.threads
    → (in_event r x.now.rip ≡ false → reads_nothing_of w.stale f (machine_of w.mem x.now) ≡ true)
    → (saves r x.now.rip ≡ true → avoids (is_new r) (saved_from r.ring x.now.core) (saved_len r.ring) ≡ true)
    → (has_saved r y.now.rip ≡ true → touches_none (is_saved_by r y.now.core) f (machine_of w.mem x.now) ≡ true) → Proper r 0 w v
first_steps r w v f to x y both spelled here acts after quiet stand fresh saved apart = (
  record { one = x; there = ap (λ (l : List Watched). slice_get l 0) both; fields = f; to = to; steps = record { at = record { spelled = spelled; here = here }; acts = acts }; after = after },
  record {
    quiet = quiet;
    stand = stand;
    fresh = fresh;
    saved = saved;
    apart = λ j o n e. beside r x y 0 f (machine_of w.mem x.now) (λ m. absurd (m refl)) (λ m. apart) j o n (ap (λ (l : List Watched). slice_get l j) (sym both) ∙ e);
  },
)

-- so does one of the second
pub second_steps : (r : Threading) (w v : Watch) (f : Fields) (to : Machine) (x y : Watched) → w.threads ≡ x ∷ y ∷ [] → IsInstruction f → Stands w.mem y.now.rip (spelling f)
    → thread_act f (next_after y.now.rip f) (machine_of w.mem y.now) ≡ Ok to → v ≡ watched_after r 1 w y f to
    → (is_effect r y.now.rip ≡ true → IsQuietAt r (machine_of w.mem y.projected)) → StandAtStarts r v.threads
    → (in_event r y.now.rip ≡ false → reads_nothing_of w.stale f (machine_of w.mem y.now) ≡ true)
    → (saves r y.now.rip ≡ true → avoids (is_new r) (saved_from r.ring y.now.core) (saved_len r.ring) ≡ true)
    → (has_saved r x.now.rip ≡ true → touches_none (is_saved_by r x.now.core) f (machine_of w.mem y.now) ≡ true) → Proper r 1 w v
second_steps r w v f to x y both spelled here acts after quiet stand fresh saved apart = (
  record { one = y; there = ap (λ (l : List Watched). slice_get l 1) both; fields = f; to = to; steps = record { at = record { spelled = spelled; here = here }; acts = acts }; after = after },
  record {
    quiet = quiet;
    stand = stand;
    fresh = fresh;
    saved = saved;
    apart = λ j o n e. beside r x y 1 f (machine_of w.mem y.now) (λ m. apart) (λ m. absurd (m refl)) j o n (ap (λ (l : List Watched). slice_get l j) (sym both) ∙ e);
  },
)
