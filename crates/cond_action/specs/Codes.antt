-- The code of an event under a condition, and its pieces. Theorems cite it.
-- (Intel SDM, volume 2, ADD, CMP, INC, Jcc, LAHF, MOV, SAHF, SETcc.)
use Rattle.std.specs.Prelude.{◌≡◌, ℕ, ◌+◌, ◌*◌, ◌%◌, nat_lt, if◌then◌else◌, List, [], ◌∷◌, ◌++◌, length}
use Rattle.pun_base.specs.declared.action.Base.{Base}
use Rattle.pun_base.specs.declared.action.Base.TheVariants.{Cover, Count}
use Rattle.pun_base.specs.declared.action.CompareOp.{CompareOp}
use Rattle.pun_base.specs.declared.action.CompareOp.TheVariants.{Eq, Ne, Lt, Le, Gt, Ge}
use Rattle.pun_base.specs.declared.action.Comparison.{Comparison}
use Rattle.relocate_insn.specs.Pieces.{four, store_rax, load_rax}

-- MOV [a], eax
abbrev pub store_eax : ℕ → List ℕ
store_eax a = 0x89 ∷ 0x04 ∷ 0x25 ∷ four a

-- MOV eax, [a]
abbrev pub load_eax : ℕ → List ℕ
load_eax a = 0x8b ∷ 0x04 ∷ 0x25 ∷ four a

-- rax is saved, and in ax and behind it the flags: LAHF, SETO al
abbrev pub keep_flags : ℕ → List ℕ
keep_flags p = store_rax p ++ (0x9f ∷ 0x0f ∷ 0x90 ∷ 0xc0 ∷ store_eax (p + 8))

-- the flags come back, ADD al, 7F and SAHF, and then rax
abbrev pub give_back : ℕ → List ℕ
give_back p = load_eax (p + 8) ++ (0x04 ∷ 0x7f ∷ 0x9e ∷ load_rax p)

-- REX with W, and with B for r8 to r15
abbrev pub wide_prefix : ℕ → ℕ
wide_prefix r = if nat_lt r 8 then 0x48 else 0x49

-- CMP r, n
abbrev pub compare_code : ℕ → ℕ → List ℕ
compare_code r n = wide_prefix r ∷ 0x81 ∷ (0xf8 + r % 8) ∷ four n

-- the condition code of the jump that is taken where the comparison fails: JNE, JE, JAE, JA, JBE
-- and JB
abbrev pub failing : CompareOp → ℕ
failing Eq = 5
failing Ne = 4
failing Lt = 3
failing Le = 7
failing Gt = 6
failing Ge = 2

-- comparisons, each with a short jump over those behind it and the eight bytes that record
abbrev pub comparing : List Comparison → List ℕ
comparing [] = []
comparing (c ∷ cs) = compare_code c.reg c.value
    ++ ((0x70 + failing c.op) ∷ (9 * length cs + 8) ∷ comparing cs)

-- MOV of 1 to the byte at an address
abbrev pub mark_byte : ℕ → List ℕ
mark_byte a = 0xc6 ∷ 0x04 ∷ 0x25 ∷ (four a ++ 1 ∷ [])

-- INC of the eight bytes at an address
abbrev pub count_up : ℕ → List ℕ
count_up a = 0x48 ∷ 0xff ∷ 0x04 ∷ 0x25 ∷ four a

-- what an event of site i records where its condition holds: the site's byte, or its counter
abbrev pub recording : Base → ℕ → ℕ → List ℕ
recording Cover p i = mark_byte (p + 64 + i)
recording Count p i = count_up (p + 64 + 8 * i)

-- the event of site i that is recorded where all comparisons hold
abbrev pub cond_code : Base → List Comparison → ℕ → ℕ → List ℕ
cond_code b cs p i = keep_flags p
    ++ (load_rax p ++ (comparing cs ++ (recording b p i ++ give_back p)))

-- it has 53 bytes, and nine for each comparison
abbrev pub HasCodeLength : Type 0
HasCodeLength = (b : Base) (cs : List Comparison) (p i : ℕ)
    → length (cond_code b cs p i) ≡ 53 + 9 * length cs
