-- How long instructions, blocks and texts are.
use Rattle.std.proofs.Common.{◌≡◌, ℕ, zero, suc, ◌+◌, ◌*◌, ◌≤◌, Bool, true, false, cond, eqb, List, [], ◌∷◌, ◌++◌, length, refl, ap, arith, length-append}
use Rattle.guest_gen.specs.declared.instruction.GuestInsn.{GuestInsn}
use Rattle.guest_gen.specs.declared.instruction.GuestInsn.TheVariants.{Ret, MovRaxRbx, AddRbxRax, MovEax, AddRbx, AddRcxOne, PushRax, PopRax, CmpRaxRbx, JeOverInc, IncRdx, LoadRax, StoreRax, CallRet, LeaData, XorRaxRcx, Nop, Cpuid, LeaRcx, CallRsi, JmpBack}
use Rattle.guest_gen.specs.Instructions.{text_start, spelled}
use Rattle.guest_gen.specs.Blocks.{block, block_at, after_block, blocks_from, kind_at, number_at}
use Rattle.guest_gen.specs.Texts.{text_from, all_of, guest_blocks, guest_text}
use Rattle.guest_gen.proofs.TextGrowth.{text_append}

-- an instruction has 1 to 8 bytes
pub insn_size : (i : GuestInsn) (at : ℕ) → (1 ≤ length (spelled i at)) × (length (spelled i at) ≤ 8)
insn_size Ret at = (omega arith, omega arith)
insn_size i at = (omega arith, omega arith)

-- at most 8 bytes an instruction
text_most : (at : ℕ) (is : List GuestInsn) → length (text_from at is) ≤ 8 * length is
text_most at [] = omega arith
text_most at (i ∷ is) =
    let s = insn_size i at in
    let r = text_most (at + length (spelled i at)) is in
    let e = length-append (spelled i at) (text_from (at + length (spelled i at)) is) in
    omega arith

-- a block has 1 to 3 instructions
few_of : (b : Bool) (xs ys : List GuestInsn) → (1 ≤ length xs) × (length xs ≤ 3) → (1 ≤ length ys) × (length ys ≤ 3)
    → (1 ≤ length (cond b xs ys)) × (length (cond b xs ys) ≤ 3)
few_of true xs ys h k = h
few_of false xs ys h k = k

-- one instruction
one : (1 ≤ 1) × (1 ≤ 3)
one = (omega arith, omega arith)

-- by the kind
block_count : (kind n : ℕ) → (1 ≤ length (block kind n)) × (length (block kind n) ≤ 3)
unfolding block
block_count kind n =
    few_of (eqb kind 0) (MovRaxRbx ∷ []) _ one
    (few_of (eqb kind 1) (AddRbxRax ∷ []) _ one
    (few_of (eqb kind 2) (MovEax n ∷ []) _ one
    (few_of (eqb kind 3) (AddRbx n ∷ []) _ one
    (few_of (eqb kind 4) (AddRcxOne ∷ []) _ one
    (few_of (eqb kind 5) (PushRax ∷ PopRax ∷ []) _ (omega arith, omega arith)
    (few_of (eqb kind 6) (CmpRaxRbx ∷ JeOverInc ∷ IncRdx ∷ []) _ (omega arith, omega arith)
    (few_of (eqb kind 7) (LoadRax ∷ []) _ one
    (few_of (eqb kind 8) (StoreRax ∷ []) _ one
    (few_of (eqb kind 9) (CallRet ∷ []) _ one
    (few_of (eqb kind 10) (LeaData ∷ []) _ one
    (few_of (eqb kind 11) (XorRaxRcx ∷ []) _ one
    (few_of (eqb kind 12) (Nop ∷ []) _ one
    (few_of (eqb kind 13) (Cpuid ∷ []) _ one
    (few_of (eqb kind 14) (LeaRcx ∷ []) (CallRsi ∷ []) one one))))))))))))))

-- and 1 to 24 bytes
pub block_size : (at kind n : ℕ) → (1 ≤ length (text_from at (block kind n))) × (length (text_from at (block kind n)) ≤ 24)
block_size at kind n = (
  some_bytes at (block kind n) (block_count kind n).0,
  let c = (block_count kind n).1 in let m = text_most at
      (block kind n) in omega arith,
)
  where
    some_bytes : (a : ℕ) (is : List GuestInsn) → 1 ≤ length is → 1 ≤ length (text_from a is)
    some_bytes a [] h = absurd (omega arith)
    some_bytes a (i ∷ is) h =
        let s = insn_size i a in
        let e = length-append (spelled i a) (text_from (a + length (spelled i a)) is) in
        omega arith

-- at most 24 bytes a block
blocks_size : (at x n : ℕ) → length (text_from at (all_of (blocks_from x n))) ≤ 24 * n
blocks_size at x zero = omega arith
blocks_size at x (suc n) =
    let b = block_at x in
    let is = all_of (blocks_from (after_block x) n) in
    let next = at + length (text_from at b) in
    let e : length (text_from at (b ++ is)) ≡ length (text_from at b ++ text_from next is) = ap length (text_append at b is) in
    let f = length-append (text_from at b) (text_from next is) in
    let s = block_size at (kind_at x) (number_at x) in
    let r = blocks_size next (after_block x) n in
    omega arith

-- a text is short
pub text_size : (seed n : ℕ) → (1 ≤ length (guest_text seed n)) × (length (guest_text seed n) ≤ 24 * n + 16)
text_size seed n =
    let is = all_of (guest_blocks seed n) in
    let start = text_start + 1 in
    let end = start + length (text_from start is) in
    let whole : length (guest_text seed n) ≡ suc (length (text_from start (is ++ JmpBack ∷ []))) = refl in
    let e : length (text_from start (is ++ JmpBack ∷ [])) ≡ length (text_from start is ++ text_from end (JmpBack ∷ [])) = ap length
    (text_append start is (JmpBack ∷ [])) in
    let f = length-append (text_from start is) (text_from end (JmpBack ∷ [])) in
    let r = blocks_size start seed n in
    let j = text_most end (JmpBack ∷ []) in
    (omega arith, omega arith)
