-- A front as it is written: a header and a table, the stub, the section table, zeros up to whole pages, and the file.
use Rattle.std.proofs.Common.{◌≡◌, ℕ, ◌+◌, ◌-◌, ◌*◌, ◌≤◌, Bool, true, false, cond, List, [], ◌++◌, length, replicate, refl, sym, ap, ◌∙◌, arith, append_assoc, append-nil}
use Rattle.std.proofs.lemmas.List.{length-append}
use Rattle.elf_read.specs.declared.segment.Segment.{Segment}
use Rattle.elf_read.specs.Entries.{table}
use Rattle.elf_read.specs.Plain.{header}
use Rattle.elf_read.specs.Writing.{header_of, filled_to, file_with}
use Rattle.elf_read.proofs.FileTables.{length-table}
use Rattle.settle.specs.Stub.{stub_code}
use Rattle.settle.specs.Lengths.{front_len}
use Rattle.settle.specs.Sections.{shows, section_table, section_tail, with_sections, with_table}
use Rattle.settle.specs.Settled.{settled_table, stub_at, front_parts, front_with}
use Rattle.settle.specs.Settling.{bare_parts}
use Rattle.settle.proofs.FrontParts.{length-header_of, length-settled_table}

-- bytes that end at a place need no zeros up to it
none_filled : (at : ℕ) (xs : List ℕ) → length xs ≡ at → filled_to at xs ≡ xs
none_filled at xs e =
    let z : at - length xs ≡ 0 = omega (arith, e) in
    ap (λ (k : ℕ). xs ++ replicate k 0) z ∙ append-nil xs

-- the table, and then the stub, is what it has
parts_written : (b : ℕ) (ss : List Segment) (phdr entry at : ℕ) → at ≡ 64 + 56 * (length ss + 1)
    → file_with (stub_at b (length ss)) (settled_table b ss) at (stub_code (stub_at b (length ss)) phdr (length ss) entry) ≡ bare_parts b ss phdr entry
parts_written b ss phdr entry at e =
    let n = length ss in let t = settled_table b ss in let c = stub_code (stub_at b n) phdr n entry in
    let m = length-settled_table b ss in
    let h = length-header_of (stub_at b n) (length t) in let l = length-append (header_of (stub_at b n) (length t)) (table t) in let k = length-table t in
    ap (λ (x : List ℕ). x ++ c) (none_filled at (header_of (stub_at b n) (length t) ++ table t) (omega (arith, e, m, h, l, k)))
    ∙ ap (λ (q : ℕ). (header_of (stub_at b n) q ++ table t) ++ c) m
    ∙ append_assoc (header_of (stub_at b n) (n + 1)) (table t) c

-- so is what is written of them
pub written : (b : ℕ) (ss : List Segment) (phdr entry start : ℕ) (entries : List Segment) (code parts : List ℕ) → start ≡ stub_at b (length ss) → entries ≡ settled_table b ss
    → code ≡ stub_code (stub_at b (length ss)) phdr (length ss) entry → parts ≡ file_with start entries (64 + 56 * (length ss + 1)) code → parts ≡ bare_parts b ss phdr entry
written b ss phdr entry start entries code parts s t c e =
    e ∙ (λ i. file_with (s i) (t i) (64 + 56 * (length ss + 1)) (c i)) ∙ parts_written b ss phdr entry (64 + 56 * (length ss + 1)) refl

-- it has a header at least
pub long_parts : (b : ℕ) (ss : List Segment) (phdr entry : ℕ) → 64 ≤ length (bare_parts b ss phdr entry)
long_parts b ss phdr entry =
    let h = header_of (stub_at b (length ss)) (length ss + 1) in let rest = table (settled_table b ss) ++ stub_code (stub_at b (length ss)) phdr (length ss) entry in
    let a = length-append h rest in let d = length-header_of (stub_at b (length ss)) (length ss + 1) in
    omega (arith, a, d)

-- a header tells of the section table whatever follows it
sections_told : (start n : ℕ) (file rest : List ℕ) → with_sections n file (header_of start (n + 1) ++ rest) ≡ with_sections n file (header_of start (n + 1)) ++ rest
unfolding header_of header
sections_told start n file rest = refl

-- with the section table it is the front up to its zeros
pub tail_written : (b : ℕ) (file : List ℕ) (ss : List Segment) (phdr entry : ℕ)
    → with_table (length ss) file (bare_parts b ss phdr entry) ≡ front_parts b file ss phdr entry ++ section_tail (length ss) file
tail_written b file ss phdr entry = step (shows n file)
  where
    n : ℕ
    n = length ss

    h : List ℕ
    h = header_of (stub_at b n) (n + 1)

    rest : List ℕ
    rest = table (settled_table b ss) ++ stub_code (stub_at b n) phdr n entry

    step : (t : Bool) → cond t (with_sections n file (h ++ rest) ++ section_table n file) (h ++ rest) ≡ (cond t (with_sections n file h) h ++ rest) ++ cond t (section_table n file) []
    step true = ap (λ (x : List ℕ). x ++ section_table n file) (sections_told (stub_at b n) n file rest)
    step false = sym (append-nil (h ++ rest))

-- so with zeros and the file behind them
pub front_written : (b : ℕ) (ss : List Segment) (phdr entry : ℕ) (parts told filled out file : List ℕ) → parts ≡ bare_parts b ss phdr entry
    → told ≡ with_table (length ss) file parts → filled ≡ filled_to (front_len (length ss)) told → out ≡ filled ++ file → out ≡ front_with b file ss phdr entry ++ file
front_written b ss phdr entry parts told filled out file e t f g =
    g ∙ ap (λ (x : List ℕ). x ++ file) (f ∙ ap (filled_to (front_len (length ss))) (t ∙ ap (with_table (length ss) file) e ∙ tail_written b file ss phdr entry))
