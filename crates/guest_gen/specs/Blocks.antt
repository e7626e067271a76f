-- The blocks of a guest, as they are drawn. Theorems cite it.
use Rattle.std.specs.Prelude.{ℕ, zero, suc, ◌+◌, ◌*◌, ◌/◌, ◌%◌, ◌^◌, ◌==◌, Bool, ◌||◌, if◌then◌else◌, List, [], ◌∷◌}
use Rattle.guest_gen.specs.declared.instruction.GuestInsn.{GuestInsn}
use Rattle.guest_gen.specs.declared.instruction.GuestInsn.TheVariants.{MovRaxRbx, AddRbxRax, MovEax, AddRbx, AddRcxOne, PushRax, PopRax, CmpRaxRbx, JeOverInc, IncRdx, LoadRax, StoreRax, CallRet, LeaData, XorRaxRcx, Nop, Cpuid, LeaRcx, CallRsi}

-- the generator's number after a draw
abbrev pub advance : ℕ → ℕ
advance x = (x * 6364136223846793005 + 1442695040888963407) % 2 ^ 64

-- a draw from a number: the upper 32 bits of the number after it
abbrev pub drawn : ℕ → ℕ
drawn x = advance x / 2 ^ 32

-- the instructions of a block, by its kind, 0 to 15; n is the number that kinds 2 and 3 hold
unfoldable pub block : ℕ → ℕ → List GuestInsn
block kind n =
    if kind == 0 then MovRaxRbx ∷ []
    else if kind == 1 then AddRbxRax ∷ []
    else if kind == 2 then MovEax n ∷ []
    else if kind == 3 then AddRbx n ∷ []
    else if kind == 4 then AddRcxOne ∷ []
    else if kind == 5 then PushRax ∷ PopRax ∷ []
    else if kind == 6 then CmpRaxRbx ∷ JeOverInc ∷ IncRdx ∷ []
    else if kind == 7 then LoadRax ∷ []
    else if kind == 8 then StoreRax ∷ []
    else if kind == 9 then CallRet ∷ []
    else if kind == 10 then LeaData ∷ []
    else if kind == 11 then XorRaxRcx ∷ []
    else if kind == 12 then Nop ∷ []
    else if kind == 13 then Cpuid ∷ []
    else if kind == 14 then LeaRcx ∷ []
    else CallRsi ∷ []

-- a block's kind is drawn first, and then the number of the two kinds that hold one
abbrev pub kind_at : ℕ → ℕ
kind_at x = drawn x % 16

-- kinds 2 and 3
abbrev pub has_number : ℕ → Bool
has_number kind = (kind == 2) || (kind == 3)

-- the number, 0 where the kind holds none
abbrev pub number_at : ℕ → ℕ
number_at x = if has_number (kind_at x) then drawn (advance x) else 0

-- the generator's number after a block
abbrev pub after_block : ℕ → ℕ
after_block x = if has_number (kind_at x) then advance (advance x) else advance x

-- the block that is drawn from a number
abbrev pub block_at : ℕ → List GuestInsn
block_at x = block (kind_at x) (number_at x)

-- the n blocks that are drawn from a number
abbrev pub blocks_from : ℕ → ℕ → List (List GuestInsn)
blocks_from x zero = []
blocks_from x (suc n) = block_at x ∷ blocks_from (after_block x) n
