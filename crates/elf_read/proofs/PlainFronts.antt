-- What stands before the text of a plain file: a header, the entry of the text, and zeros.
use Rattle.std.proofs.Common.{◌≡◌, ℕ, ◌+◌, ◌-◌, Bool, false, IsTrue, List, [], ◌∷◌, ◌++◌, length, replicate, refl, ap, ◌∙◌, arith, append_assoc}
use Rattle.std.proofs.lemmas.List.{append-nil, length-append, length-replicate}
use Rattle.elf_read.specs.Entries.{spelled}
use Rattle.elf_read.proofs.FileTables.{length-header, length-spelled}
use Rattle.elf_read.specs.Plain.{header, text_segment, plain_front, plain_file}
use Rattle.elf_read.specs.Writing.{header_of, filled_to, file_with}

-- a test that failed isn't passed
pub is_false : (b : Bool) → b ≡ false → IsTrue b → ⊥
is_false b e t = cc

three_first : (a b c d : List ℕ) → a ++ b ++ c ++ d ≡ a ++ (b ++ (c ++ d))
three_first a b c d = append_assoc (a ++ b) c d ∙ append_assoc a b (c ++ d)

-- a plain file by its parts, joined from the right
pub plain_file_parts : (n : ℕ) (text : List ℕ) → plain_front n ++ text ≡ header 64 1 ++ (spelled (text_segment n) ++ (replicate 3976 0 ++ text))
unfolding plain_front
plain_file_parts n text = three_first (header 64 1) (spelled (text_segment n)) (replicate 3976 0) text

-- the front has 4,096 bytes
pub length-plain_front : (n : ℕ) → length (plain_front n) ≡ 4096
unfolding plain_front
length-plain_front n =
    let a = length-append (header 64 1 ++ spelled (text_segment n)) (replicate 3976 0) in
    let b = length-append (header 64 1) (spelled (text_segment n)) in
    let c = length-header 64 1 in let d = length-spelled (text_segment n) in
    let e = length-replicate {A = ℕ} 3976 0 in
    omega arith

-- A plain file's header is that of a program that starts at 0x401000.
plain_header : header_of 0x401000 1 ≡ header 64 1
unfolding header_of header
plain_header = refl

-- Two parts are filled up to a place by as many zeros as they lack.
pub filled_parts : (a b : List ℕ) (at k : ℕ) → length a + length b + k ≡ at → filled_to at (a ++ b) ≡ a ++ b ++ replicate k 0
filled_parts a b at k e =
    let l : at - length (a ++ b) ≡ k = omega (arith, length-append a b) in ap (λ (n : ℕ). a ++ b ++ replicate n 0) l

-- A plain file is the file of its text's entry.
pub plain_file_made : (text : List ℕ) → file_with 0x401000 (text_segment (length text) ∷ []) 0x1000 text ≡ plain_file text
unfolding plain_front
plain_file_made text =
    let s = spelled (text_segment (length text)) in
    ap (λ (z : List ℕ). filled_to 0x1000 z ++ text) (λ i. plain_header i ++ append-nil s i)
    ∙ ap (λ (z : List ℕ). z ++ text) (filled_parts (header 64 1) s 0x1000 3976
    (omega (arith, length-header 64 1, length-spelled (text_segment (length text)))))
