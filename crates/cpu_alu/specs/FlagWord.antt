-- The flags word (Intel SDM, volume 1, section 3.4.3, figure 3-8). Theorems cite it.
use Rattle.std.specs.Prelude.{ℕ, ◌+◌, ◌-◌, ◌/◌, ◌^◌, ◌%◌, Bool, ◌==◌, if◌then◌else◌, bit_and}
use Rattle.cpu_alu.specs.declared.flag_word.Flags.{Flags}

-- the six places: bits 0, 2, 4, 6, 7 and 11
abbrev pub places : ℕ
places = 2 ^ 0 + 2 ^ 2 + 2 ^ 4 + 2 ^ 6 + 2 ^ 7 + 2 ^ 11

-- a word of 64 bits without the six
abbrev pub others : ℕ → ℕ
others word = bit_and word (2 ^ 64 - 1 - places)

-- a flag at its place
abbrev pub placed : Bool → ℕ → ℕ
placed b place = if b then 2 ^ place else 0

-- the six flags at their places
abbrev pub six : Flags → ℕ
six f = placed f.cf 0 + placed f.pf 2 + placed f.af 4 + placed f.zf 6 + placed f.sf 7 + placed f.of 11

unfoldable pub packed : Flags → ℕ
packed f = others f.rest + six f

-- the bit of a word at a place is 1
abbrev pub is_set : ℕ → ℕ → Bool
is_set word place = word / 2 ^ place % 2 == 1

unfoldable pub unpacked : ℕ → Flags
unpacked word = record {
  cf = is_set word 0;
  pf = is_set word 2;
  af = is_set word 4;
  zf = is_set word 6;
  sf = is_set word 7;
  of = is_set word 11;
  rest = others word;
}
