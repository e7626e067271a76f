-- LOCK INC and LOCK XADD among the instructions that are copied, and the copy as the same task.
use Rattle.std.proofs.Common.{◌≡◌, ℕ, ◌^◌, ◌<◌, Bool, true, false, cond, eqb, List, [], ◌∷◌, length, Some, None, refl, sym, ap, ◌∙◌, true≢false}
use Rattle.std.proofs.lemmas.Bool.{and_parts, eqb-true, cond-true, cond-false}
use Rattle.length_decode.specs.declared.escape_bytes.Escape.{Escape}
use Rattle.length_decode.specs.declared.escape_bytes.Escape.TheVariants.{OneByte, TwoByte}
use Rattle.length_decode.specs.Spelling.{Fields, IsInstruction, spelling, parts_of}
use Rattle.insn_form.specs.declared.form.Op.{Op}
use Rattle.insn_form.specs.declared.form.Insn.TheVariants.{Exact, Asked}
use Rattle.insn_form.specs.Classes.{template, has_rip}
use Rattle.insn_form.specs.Filling.{filled}
use Rattle.insn_form.specs.Instruction.{insn_of}
use Rattle.insn_form.specs.Resolving.{resolved_insn}
use Rattle.insn_form.specs.Plan.{same_bytes, same_address}
use Rattle.insn_form.specs.Machine.{Task}
use Rattle.insn_form.specs.Step.{task_of}
use Rattle.insn_form.specs.Laws.{is_steady}
use Rattle.insn_form.specs.Moved.{direct_target, rel_bytes, named, moved_fields}
use Rattle.event_steps.specs.ThreadSteps.{is_one_byte, is_two_byte, is_locked_inc, is_locked_xadd, unlocked, adding, thread_task}
use Rattle.insn_form.proofs.TaskCopies.{same_task}
use Rattle.insn_form.proofs.UniqueSteps.{bytes_are, address_is}
use Rattle.event_steps.proofs.ThreadSteps.{IsPlain, unlocked_task}
use Rattle.thread_runs.specs.Work.{is_syscall}
use Rattle.event_steps.proofs.ClaimSteps.{exchanging}

-- what the test for one-byte opcodes tells
escape_is : (e : Escape) → is_one_byte e ≡ true → e ≡ OneByte
escape_is OneByte h = refl
escape_is e h = absurd cc

-- LOCK INC of eight bytes
abbrev pub locked : List ℕ → List ℕ → Fields
locked d im = record { prefixes = 0xf0 ∷ 0x48 ∷ []; escape = OneByte; opcode = 0xff; modrm = Some 0x04; sib = Some 0x25; disp = d; imm = im }

-- fields that pass the test for LOCK INC are its fields
pub locked_is : (f : Fields) → is_locked_inc f ≡ true → f ≡ locked f.disp f.imm
locked_is f h =
    let a = and_parts (same_bytes f.prefixes (0xf0 ∷ 0x48 ∷ [])) _ h in
    let b = and_parts (is_one_byte f.escape) _ a.1 in
    let c = and_parts (eqb f.opcode 0xff) _ b.1 in
    let d = and_parts (same_address f.modrm (Some 0x04)) (same_address f.sib (Some 0x25)) c.1 in
    let p = bytes_are f.prefixes _ a.0 in
    let e = escape_is f.escape b.0 in
    let o = eqb-true f.opcode 0xff c.0 in
    let m = address_is f.modrm _ d.0 in
    let s = address_is f.sib _ d.1 in
    λ i. record { prefixes = p i; escape = e i; opcode = o i; modrm = m i; sib = s i; disp = f.disp; imm = f.imm }

-- as a single processor reads it, it is asked
locked_asked : (d im : List ℕ) → insn_of (locked d im) ≡ Asked (record { rip_disp = None; syscall = false; copied = true })
unfolding template filled
locked_asked d im = refl

-- what the test for opcodes behind 0F tells
two_is : (e : Escape) → is_two_byte e ≡ true → e ≡ TwoByte
two_is TwoByte h = refl
two_is e h = absurd cc

-- fields that pass the test for LOCK XADD are its fields
pub xadd_is : (f : Fields) → is_locked_xadd f ≡ true → f ≡ exchanging f.disp f.imm
xadd_is f h =
    let a = and_parts (is_two_byte f.escape) _ h in
    let b = and_parts (same_bytes f.prefixes (0xf0 ∷ [])) _ a.1 in
    let c = and_parts (eqb f.opcode 0xc1) _ b.1 in
    let d = and_parts (same_address f.modrm (Some 0x04)) (same_address f.sib (Some 0x25)) c.1 in
    let e = two_is f.escape a.0 in
    let p = bytes_are f.prefixes _ b.0 in
    let o = eqb-true f.opcode 0xc1 c.0 in
    let m = address_is f.modrm _ d.0 in
    let s = address_is f.sib _ d.1 in
    λ i. record { prefixes = p i; escape = e i; opcode = o i; modrm = m i; sib = s i; disp = f.disp; imm = f.imm }

-- as a single processor reads it, it is asked
xadd_asked : (d im : List ℕ) → insn_of (exchanging d im) ≡ Asked (record { rip_disp = None; syscall = false; copied = true })
unfolding template filled
xadd_asked d im = refl

-- how threads read fields: as LOCK INC, as LOCK XADD, or as a single processor does
pub data Reading (f : Fields) : Type 0 where
  Incs : is_locked_inc f ≡ true → Reading f
  Adds : is_locked_inc f ≡ false → is_locked_xadd f ≡ true → Reading f
  Plain : IsPlain f → Reading f

-- one of the three
pub reading : (f : Fields) → Reading f
reading f = by_inc (is_locked_inc f) (is_locked_xadd f) refl refl
  where
    by_inc : (b c : Bool) → is_locked_inc f ≡ b → is_locked_xadd f ≡ c → Reading f
    by_inc true c h k = Incs h
    by_inc false true h k = Adds h k
    by_inc false false h k = Plain (h, k)

-- an instruction that is exact is neither LOCK INC nor LOCK XADD
pub not_locked : (f : Fields) (op : Op) → insn_of f ≡ Exact op → IsPlain f
not_locked f op e = by_reading (reading f)
  where
    by_reading : Reading f → IsPlain f
    by_reading (Plain h) = h
    by_reading (Incs k) = let z : Exact op ≡ Asked (record { rip_disp = None; syscall = false; copied = true }) = sym e ∙ ap insn_of (locked_is f k) ∙ locked_asked f.disp f.imm in absurd cc
    by_reading (Adds h k) = let z : Exact op ≡ Asked (record { rip_disp = None; syscall = false; copied = true }) = sym e ∙ ap insn_of (xadd_is f k) ∙ xadd_asked f.disp f.imm in absurd cc

-- neither is SYSCALL
pub syscall_not_locked : (f : Fields) → is_syscall (insn_of f) ≡ true → IsPlain f
syscall_not_locked f e = by_reading (reading f)
  where
    by_reading : Reading f → IsPlain f
    by_reading (Plain h) = h
    by_reading (Incs k) = absurd (true≢false (sym e ∙ ap (λ z. is_syscall (insn_of z)) (locked_is f k) ∙ ap is_syscall (locked_asked f.disp f.imm)))
    by_reading (Adds h k) = absurd (true≢false (sym e ∙ ap (λ z. is_syscall (insn_of z)) (xadd_is f k) ∙ ap is_syscall (xadd_asked f.disp f.imm)))

-- the reading of another instruction
pub thread_insn : (f : Fields) (op : Op) (next : ℕ) → insn_of f ≡ Exact op → (thread_task f next).insn ≡ resolved_insn next (Exact op)
thread_insn f op next e = ap (λ (z : Task). z.insn) (unlocked_task f next (not_locked f op e)) ∙ ap (resolved_insn next) e

-- LOCK INC without F0 is the same task wherever it stands
any_place : (d im : List ℕ) (next next' : ℕ) → task_of (unlocked (locked d im)) next ≡ task_of (unlocked (locked d im)) next'
unfolding template filled
any_place d im next next' = refl

-- so is the ADD of LOCK XADD
any_sum : (d im : List ℕ) (next next' : ℕ) → task_of (adding (exchanging d im)) next ≡ task_of (adding (exchanging d im)) next'
unfolding template filled
any_sum d im next next' = refl

-- LOCK INC without F0 is steady
unlocked_steady : (d im : List ℕ) (next : ℕ) → is_steady (task_of (unlocked (locked d im)) next).insn ≡ true
unfolding template filled
unlocked_steady d im next = refl

-- so is the ADD of LOCK XADD
sum_steady : (d im : List ℕ) (next : ℕ) → is_steady (task_of (adding (exchanging d im)) next).insn ≡ true
unfolding template filled
sum_steady d im next = refl

-- LOCK INC is read as the same bytes without F0
pub locked_task : (f : Fields) (next : ℕ) → is_locked_inc f ≡ true → thread_task f next ≡ task_of (unlocked (locked f.disp f.imm)) next
locked_task f next h = cond-true (is_locked_inc f) (task_of (unlocked f) next) _ h ∙ ap (λ z. task_of (unlocked z) next) (locked_is f h)

-- LOCK XADD is read as ADD, but for what it loads
pub xadd_task : (f : Fields) (next : ℕ) → is_locked_inc f ≡ false → is_locked_xadd f ≡ true → thread_task f next ≡ task_of (adding (exchanging f.disp f.imm)) next
xadd_task f next n h = cond-false (is_locked_inc f) _ _ n ∙ cond-true (is_locked_xadd f) (task_of (adding f) next) (task_of f next) h ∙ ap (λ z. task_of (adding z) next) (xadd_is f h)

-- a copy is the same task, as threads read it too
pub same_thread : (f : Fields) (next next' : ℕ) → IsInstruction f → direct_target (insn_of f) ≡ None → next' < 2 ^ 31 → (has_rip (parts_of f) ≡ true → named f next < 2 ^ 31)
    → IsInstruction (moved_fields f next next') × (length (spelling (moved_fields f next next')) ≡ length (spelling f)) × (thread_task (moved_fields f next next') next' ≡ thread_task f next)
same_thread f next next' i d l rip =
    let same = same_task f next next' i d l rip in
    (same.0, same.1, by_reading (reading f) same.2)
  where
    -- an instruction without an operand beside RIP is copied as it is
    same_fields : has_rip (parts_of f) ≡ false → moved_fields f next next' ≡ f
    same_fields r = λ i. record f { disp = cond (r i) (rel_bytes next' (named f next)) f.disp }

    by_reading : Reading f → task_of (moved_fields f next next') next' ≡ task_of f next → thread_task (moved_fields f next next') next' ≡ thread_task f next
    by_reading (Plain k) e = unlocked_task (moved_fields f next next') next' k ∙ e ∙ sym (unlocked_task f next k)
    by_reading (Incs k) e =
        ap (λ z. thread_task z next') (same_fields (ap (λ z. has_rip (parts_of z)) (locked_is f k))) ∙ locked_task f next' k ∙ any_place f.disp f.imm next' next ∙ sym (locked_task f next k)
    by_reading (Adds n k) e =
        ap (λ z. thread_task z next') (same_fields (ap (λ z. has_rip (parts_of z)) (xadd_is f k))) ∙ xadd_task f next' n k ∙ any_sum f.disp f.imm next' next ∙ sym (xadd_task f next n k)

-- an instruction that is copied uses its place at most to go on after itself
pub thread_steady : (f : Fields) (next : ℕ) → is_steady (resolved_insn next (insn_of f)) ≡ true → is_steady (thread_task f next).insn ≡ true
thread_steady f next h = by_reading (reading f)
  where
    by_reading : Reading f → is_steady (thread_task f next).insn ≡ true
    by_reading (Plain k) = ap (λ (z : Task). is_steady z.insn) (unlocked_task f next k) ∙ h
    by_reading (Incs k) = ap (λ (z : Task). is_steady z.insn) (locked_task f next k) ∙ unlocked_steady f.disp f.imm next
    by_reading (Adds n k) = ap (λ (z : Task). is_steady z.insn) (xadd_task f next n k) ∙ sum_steady f.disp f.imm next
