-- The text of a guest, where its instructions begin, and its sites. Theorems cite it.
use Rattle.std.specs.Prelude.{ℕ, ◌+◌, ◌/◌, ◌%◌, ◌==◌, nat_le, if◌then◌else◌, List, [], ◌∷◌, ◌++◌, length}
use Rattle.guest_gen.specs.declared.instruction.GuestInsn.{GuestInsn}
use Rattle.guest_gen.specs.declared.instruction.GuestInsn.TheVariants.{Ret, JmpBack}
use Rattle.guest_gen.specs.Instructions.{text_start, blocks_start, spelled}
use Rattle.guest_gen.specs.Blocks.{blocks_from}

-- the bytes of instructions from an address on
abbrev pub text_from : ℕ → List GuestInsn → List ℕ
text_from at [] = []
text_from at (i ∷ is) = spelled i at ++ text_from (at + length (spelled i at)) is

-- where each of them begins
abbrev pub starts_from : ℕ → List GuestInsn → List ℕ
starts_from at [] = []
starts_from at (i ∷ is) = at ∷ starts_from (at + length (spelled i at)) is

-- the instructions of blocks
abbrev pub all_of : List (List GuestInsn) → List GuestInsn
all_of [] = []
all_of (b ∷ bs) = b ++ all_of bs

-- the blocks of a guest: n of them, drawn from its seed
abbrev pub guest_blocks : ℕ → ℕ → List (List GuestInsn)
guest_blocks seed n = blocks_from seed n

-- a ret, the blocks, and the jump back to the first of them
abbrev pub guest_insns : ℕ → ℕ → List GuestInsn
guest_insns seed n = Ret ∷ (all_of (guest_blocks seed n) ++ JmpBack ∷ [])

-- the text of a guest
abbrev pub guest_text : ℕ → ℕ → List ℕ
guest_text seed n = text_from text_start (guest_insns seed n)

-- all its instructions are starts
abbrev pub guest_starts : ℕ → ℕ → List ℕ
guest_starts seed n = starts_from text_start (guest_insns seed n)

-- each so many-th block is a site: 8, or with more than 2,000 blocks as many as make 250 sites at most
abbrev pub spacing : ℕ → ℕ
spacing n = let s = (n + 249) / 250 in if nat_le s 8 then 8 else s

-- the address of the block with an index, where that index is a multiple of the spacing
abbrev pub site_at : ℕ → ℕ → ℕ → List ℕ
site_at every index at = if index % every == 0 then at ∷ [] else []

-- the first instructions of such blocks; the blocks begin at an address, and the first of them has an index
abbrev pub sites_from : ℕ → ℕ → ℕ → List (List GuestInsn) → List ℕ
sites_from every index at [] = []
sites_from every index at (b ∷ bs) =
    site_at every index at ++ sites_from every (index + 1) (at + length (text_from at b)) bs

-- the sites of a guest
abbrev pub guest_sites : ℕ → ℕ → List ℕ
guest_sites seed n = sites_from (spacing n) 0 blocks_start (guest_blocks seed n)
