-- The file of a guest breaks no rule of an original.
use Rattle.std.proofs.Common.{◌≡◌, ℕ, ◌+◌, ◌-◌, ◌/◌, ◌<◌, ◌≤◌, false, nat_le, nat_lt, List, ◌++◌, length, replicate, None, refl, ap, ◌∙◌, arith, length-append}
use Rattle.std.proofs.lemmas.Bool.{cond-true, cond-false, lt-ltb, le-ltb, and_right}
use Rattle.std.proofs.lemmas.Bool.Decides.{nat_tests}
use Rattle.elf_read.specs.Entries.{segments, table, table_place, table_count}
use Rattle.elf_read.specs.Plain.{header}
use Rattle.elf_read.specs.Writing.{header_of}
use Rattle.elf_read.specs.Refusals.{is_dynamic, is_outside, is_oversized, is_misaligned, is_high, first_unordered, header_rules, header_refusal, entry_refusal, refusal}
use Rattle.elf_read.proofs.AcceptedFiles.{or_none, position-none, none_broken}
use Rattle.guest_gen.specs.Files.{guest_header, file_of}
use Rattle.guest_gen.specs.Laws.{GuestsAreAccepted}
use Rattle.guest_gen.specs.Texts.{guest_text}
use Rattle.guest_gen.proofs.GuestImages.{both, file_parts, length-header, length_file, segments-file}
use Rattle.guest_gen.proofs.TextSizes.{text_size}

-- the header of a guest breaks no rule
header_ok : (rest : List ℕ) → 112 ≤ length rest → header_refusal (guest_header ++ rest) ≡ None
unfolding header_refusal guest_header header_of header table_place table_count
header_ok rest l =
    let size : length (guest_header ++ rest) ≡ 64 + length rest = length-append guest_header rest in
    none_broken (header_rules (guest_header ++ rest)) (
      le-ltb (length (guest_header ++ rest)) 64 (omega arith),
      (refl, (refl, (refl, (refl, (refl, (refl, (le-ltb (length (guest_header ++ rest)) 176 (omega arith), tt))))))),
    )

-- its two entries are in order
in_order : (n : ℕ) → 1 ≤ n → n ≤ 1048576 → first_unordered 0 None (both n) ≡ None
in_order n some few =
    let page : (0x401000 + n - 1) / 4096 < 1536 = omega arith in
    let low : nat_le 1536 ((0x401000 + n - 1) / 4096) ≡ false = grind (arith, nat_tests) in
    cond-true (nat_lt 0 n) _ _ (lt-ltb 0 n some) ∙ cond-false (nat_le 1536 ((0x401000 + n - 1) / 4096)) _ _ low

-- its two entries break no rule
entries_ok : (n len : ℕ) → 1 ≤ n → n ≤ 1048576 → 0x1000 + n ≤ len → entry_refusal 0x20000 len (both n) ≡ None
unfolding entry_refusal
entries_ok n len some few l =
    let load = nat_lt 0 n in
    let a = position-none is_dynamic (both n) (refl, (refl, tt)) in
    let b = position-none (is_outside len) (both n) (le-ltb len (0x1000 + n) l, (le-ltb len 0 (omega arith), tt)) in
    let c = position-none is_oversized (both n) (le-ltb n n (omega arith), (refl, tt)) in
    let d = position-none is_misaligned (both n) (and_right load false refl, (refl, tt)) in
    let e = position-none is_high (both n) (
      and_right load (nat_lt 0x7fff0000 (0x401000 + n))
          (le-ltb 0x7fff0000 (0x401000 + n) (omega arith)),
      (refl, tt),
    ) in
    rw (a, b, c, d, e, in_order n some few) refl

-- the file of each short text breaks no rule
file_ok : (text : List ℕ) → 1 ≤ length text → length text ≤ 1048576 → refusal 0x20000 (file_of text) ≡ None
file_ok text some few =
    let file = file_of text in
    let w = file_parts text in
    let size = length_file text in
    let rest : List ℕ = table (both (length text)) ++ (replicate 3920 0 ++ text) in
    let parts : length file ≡ length (guest_header ++ rest) = ap length w in
    let sum = length-append guest_header rest in
    let front = length-header in
    let header : header_refusal file ≡ None = ap header_refusal w ∙ header_ok rest (omega arith) in
    let entries : entry_refusal 0x20000 (length file) (segments file) ≡ None =
    ap (entry_refusal 0x20000 (length file)) (segments-file text (omega arith)) ∙ entries_ok (length text) (length file) some few
    (omega arith) in
    or_none (header_refusal file) (entry_refusal 0x20000 (length file) (segments file)) header entries

-- so the file of each guest
pub guests_accepted : GuestsAreAccepted
guests_accepted seed n l = let s = text_size seed n in file_ok (guest_text seed n) s.0 (let m = s.1 in omega arith)
