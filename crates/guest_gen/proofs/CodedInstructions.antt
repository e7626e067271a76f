-- The instructions of a guest stand in the windows of its starts.
use Rattle.std.proofs.Common.{◌≡◌, ℕ, ◌+◌, ◌-◌, ◌<◌, ◌≤◌, Bool, true, ◌&&◌, nat_lt, min, List, [], ◌∷◌, ◌++◌, length, take, drop, refl, sym, ap, ◌∙◌, subst, arith, append_assoc, length-append}
use Rattle.std.specs.List.{find, list_any}
use Rattle.std.proofs.Math.Seq.{take-append-add, drop-append_seam}
use Rattle.std.proofs.lemmas.Bool.{cond-true, lt-ltb}
use Rattle.elf_read.specs.Code.{is_exec, is_exec_in, code_of, code_from, window}
use Rattle.elf_read.specs.Entries.{segments}
use Rattle.elf_read.specs.Plain.{text_segment}
use Rattle.elf_read.proofs.FileSlices.{drop_past}
use Rattle.elf_read.proofs.WindowBytes.{code_taken, backed_yes}
use Rattle.length_decode.specs.Spelling.{Fields, IsInstruction, spelling}
use Rattle.length_decode.specs.Forms.{no_operation}
use Rattle.guest_gen.specs.declared.instruction.GuestInsn.{GuestInsn}
use Rattle.guest_gen.specs.declared.instruction.GuestInsn.TheVariants.{Ret, MovRaxRbx, AddRbxRax, MovEax, AddRbx, AddRcxOne, PushRax, PopRax, CmpRaxRbx, JeOverInc, IncRdx, LoadRax, StoreRax, CallRet, LeaData, XorRaxRcx, Nop, Cpuid, LeaRcx, CallRsi, JmpBack}
use Rattle.guest_gen.specs.Files.{guest_front, data_segment, file_of}
use Rattle.guest_gen.specs.Instructions.{text_start, spelled}
use Rattle.guest_gen.specs.Laws.{IsCoded, AreCoded, GuestsAreCoded}
use Rattle.guest_gen.specs.Texts.{text_from, guest_insns, guest_text}
use Rattle.guest_gen.proofs.GuestImages.{both, length-front, length_file, segments-file}
use Rattle.guest_gen.proofs.TextSizes.{insn_size, text_size}
use Rattle.guest_gen.proofs.PlainTurns.{mov_rax_rbx_fields, mov_rax_rbx_is, add_rbx_rax_fields, add_rbx_rax_is, mov_eax_fields, mov_eax_is, add_rbx_fields, add_rbx_is, add_rcx_one_fields, add_rcx_one_is, cmp_rax_rbx_fields, cmp_rax_rbx_is, inc_rdx_fields, inc_rdx_is, load_rax_fields, load_rax_is, store_rax_fields, store_rax_is, lea_data_fields, lea_data_is, do_nothing_is, lea_rcx_fields, lea_rcx_is}
use Rattle.guest_gen.proofs.StackTurns.{push_fields, push_is, pop_fields, pop_is, ret_fields, ret_is, call_fields, call_is, call_rsi_fields, call_rsi_is, jump_fields, jump_is, je_fields, je_is}
use Rattle.guest_gen.proofs.AskedTurns.{xor_fields, xor_is, cpuid_fields, cpuid_is}

-- each instruction is spelled by fields
insn_fields : (i : GuestInsn) (at : ℕ) → (f : Fields) × IsInstruction f × (spelling f ≡ spelled i at)
insn_fields Ret at = (ret_fields, ret_is, refl)
insn_fields MovRaxRbx at = (mov_rax_rbx_fields, mov_rax_rbx_is, refl)
insn_fields AddRbxRax at = (add_rbx_rax_fields, add_rbx_rax_is, refl)
insn_fields (MovEax n) at = (mov_eax_fields n, mov_eax_is n, refl)
insn_fields (AddRbx n) at = (add_rbx_fields n, add_rbx_is n, refl)
insn_fields AddRcxOne at = (add_rcx_one_fields, add_rcx_one_is, refl)
insn_fields PushRax at = (push_fields, push_is, refl)
insn_fields PopRax at = (pop_fields, pop_is, refl)
insn_fields CmpRaxRbx at = (cmp_rax_rbx_fields, cmp_rax_rbx_is, refl)
insn_fields JeOverInc at = (je_fields, je_is, refl)
insn_fields IncRdx at = (inc_rdx_fields, inc_rdx_is, refl)
insn_fields LoadRax at = (load_rax_fields, load_rax_is, refl)
insn_fields StoreRax at = (store_rax_fields, store_rax_is, refl)
insn_fields CallRet at = (call_fields at, call_is at, refl)
insn_fields LeaData at = (lea_data_fields at, lea_data_is at, refl)
insn_fields XorRaxRcx at = (xor_fields, xor_is, refl)
insn_fields Nop at = (no_operation, do_nothing_is, refl)
insn_fields Cpuid at = (cpuid_fields, cpuid_is, refl)
insn_fields LeaRcx at = (lea_rcx_fields, lea_rcx_is, refl)
insn_fields CallRsi at = (call_rsi_fields, call_rsi_is, refl)
insn_fields JmpBack at = (jump_fields at, jump_is at, refl)

-- a test that the first element passes
any_first : {X : Type 0} (p : X → Bool) (x : X) (xs : List X) → p x ≡ true → list_any p (x ∷ xs) ≡ true
any_first p x xs h = rw h refl

-- an address of the text
exec_at : (n a : ℕ) → 1 ≤ n → text_start ≤ a → a - text_start < n → is_exec_in a (text_segment n) ≡ true
exec_at n a some h l =
    let load : nat_lt 0 n ≡ true = lt-ltb 0 n some in
    backed_yes (nat_lt 0 n && true) text_start a n (ap (λ (b : Bool). b && true) load) h l

-- what is read there, behind a front of the text
text_window : (text pre rest : List ℕ) (k : ℕ) → text ≡ pre ++ rest → 1 ≤ length rest → length text ≤ 1048576 → k ≡ min 15 (length rest)
    → (is_exec (file_of text) (text_start + length pre) ≡ true) × (window (file_of text) (text_start + length pre) ≡ take k rest)
text_window text pre rest k e some few q =
    let file = file_of text in
    let n = length text in
    let a = text_start + length pre in
    let s = text_segment n in
    let sum : n ≡ length (pre ++ rest) = ap length e in
    let parts = length-append pre rest in
    let size = length_file text in
    let all : segments file ≡ both n = segments-file text (omega arith) in
    let off : a - text_start ≡ length pre = omega arith in
    let x : is_exec_in a s ≡ true = exec_at n a (omega arith) (omega arith) (omega arith) in
    let from = 0x1000 + length pre in
    let c : take (from + k - from) (drop from file) ≡ code_from file s a 15 =
    code_taken file s a 15 k from x (omega arith) (omega arith) (q ∙ ap (min 15) (omega arith)) in
    let m : from + k - from ≡ k = omega arith in
    let d : drop from file ≡ rest =
    drop_past 4096 (length pre) (guest_front n) text (length-front n) ∙ ap (drop (length pre)) e ∙ drop-append_seam pre rest in (
      ap (list_any (is_exec_in a)) all ∙ any_first (is_exec_in a) s (data_segment ∷ []) x,
      ap (λ z. code_of file a (find (is_exec_in a) z)) all ∙ ap (code_of file a) (cond-true (is_exec_in a s) _ _ x)
          ∙ (sym c ∙ (λ i. take (m i) (d i))),
    )

-- an instruction of the text
coded_at : (text pre later : List ℕ) (i : GuestInsn) (a : ℕ) → a ≡ text_start + length pre → text ≡ pre ++ (spelled i a ++ later)
    → length text ≤ 1048576
    → IsCoded (file_of text) a i
coded_at text pre later i a w e few =
    let bytes = spelled i a in
    let f = insn_fields i a in
    let s = insn_size i a in
    let sum = length-append bytes later in
    let j = min 15 (length (bytes ++ later)) - length bytes in
    let k : length bytes + j ≡ min 15 (length (bytes ++ later)) = omega arith in
    let t = text_window text pre (bytes ++ later) (length bytes + j) e (omega arith) few k in
    let t' = subst (λ (z : ℕ). (is_exec (file_of text) z ≡ true) × (window (file_of text) z ≡ take (length bytes + j) (bytes ++ later)))
    (sym w) t in
    record {
      exec = t'.0;
      fields = f.0;
      is = f.1;
      bytes = f.2;
      rest = take j later;
      seen = t'.1 ∙ take-append-add bytes later j ∙ ap (λ (z : List ℕ). z ++ take j later) (sym f.2);
    }

-- the instructions behind a front of the text
coded_from : (text pre : List ℕ) (is : List GuestInsn) (a : ℕ) → a ≡ text_start + length pre → text ≡ pre ++ text_from a is
    → length text ≤ 1048576
    → AreCoded (file_of text) a is
coded_from text pre [] a w e few = tt
coded_from text pre (i ∷ is) a w e few =
    let bytes = spelled i a in
    let next = a + length bytes in
    let sum = length-append pre bytes in (
      coded_at text pre (text_from next is) i a w e few,
      coded_from text (pre ++ bytes) is next (omega arith) (e ∙ sym (append_assoc pre bytes (text_from next is))) few,
    )

-- so do those of each guest
pub guests_coded : GuestsAreCoded
guests_coded seed n l =
    let m = (text_size seed n).1 in
    coded_from (guest_text seed n) [] (guest_insns seed n) text_start refl refl (omega arith)
