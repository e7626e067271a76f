-- Numbers, lists of bytes and code in a map of bytes. Theorems cite it.
-- Numbers are little endian (Intel SDM, volume 1, section 1.3.1).
use Rattle.std.specs.Prelude.{◌≡◌, ℕ, zero, suc, ◌+◌, ◌*◌, ◌/◌, ◌%◌, ◌^◌, Bool, true, false, not, ◌&&◌, ◌==◌, if◌then◌else◌, List, [], ◌∷◌, Option, Some, None, bit_and}
use Rattle.pun_base.specs.Memory.{Cell, Bytes}

-- the address n bytes after another: addresses have 64 bits
abbrev pub advanced : ℕ → ℕ → ℕ
advanced a n = (a + n) % 2 ^ 64

-- the byte is held with a permission: 4 reads, 2 writes, 1 executes
abbrev pub allows : ℕ → Option Cell → Bool
allows p None = false
allows p (Some c) = not (bit_and c.perms p == 0)

-- the byte, and 0 where none is held
abbrev pub byte_of : Option Cell → ℕ
byte_of None = 0
byte_of (Some c) = c.byte

-- the first of n addresses from a on at which no byte is held with a permission
abbrev pub lacking : ℕ → Bytes → ℕ → ℕ → Option ℕ
lacking p m a zero = None
lacking p m a (suc n) = if allows p (m a) then lacking p m (advanced a 1) n else Some a

-- the number of the n bytes from a on
abbrev pub number_at : Bytes → ℕ → ℕ → ℕ
number_at m a zero = 0
number_at m a (suc n) = byte_of (m a) + 256 * number_at m (advanced a 1) n

-- the same permissions with another byte
abbrev pub with_byte : ℕ → Option Cell → Option Cell
with_byte b None = None
with_byte b (Some c) = Some (record { byte = b; perms = c.perms })

-- the map with one byte changed
abbrev pub put : Bytes → ℕ → ℕ → Bytes
put m a b x = if x == a then with_byte b (m x) else m x

-- with the bytes of a list from a on
abbrev pub put_list : Bytes → ℕ → List ℕ → Bytes
put_list m a [] = m
put_list m a (b ∷ bs) = put_list (put m a b) (advanced a 1) bs

-- the low n bytes of a number, the lowest first
abbrev pub bytes_of : ℕ → ℕ → List ℕ
bytes_of zero v = []
bytes_of (suc n) v = (v % 256) ∷ bytes_of n (v / 256)

-- with the low n bytes of a number from a on
abbrev pub put_number : Bytes → ℕ → ℕ → ℕ → Bytes
put_number m a n v = put_list m a (bytes_of n v)

-- the executable bytes from a on, up to the first address that holds none, and at most n
abbrev pub code_at : Bytes → ℕ → ℕ → List ℕ
code_at m a zero = []
code_at m a (suc n) = if allows 1 (m a) then byte_of (m a) ∷ code_at m (advanced a 1) n else []

-- from an address on these bytes stand, each of them executable
abbrev pub Stands : Bytes → ℕ → List ℕ → Type 0
Stands m a [] = Unit {0}
Stands m a (b ∷ bs) = (allows 1 (m a) ≡ true) × (byte_of (m a) ≡ b) × Stands m (advanced a 1) bs

-- none of the n addresses from a on is in the set. A set is a test.
abbrev pub avoids : (ℕ → Bool) → ℕ → ℕ → Bool
avoids set a zero = true
avoids set a (suc n) = not (set a) && avoids set (advanced a 1) n

-- each of them is in the set
abbrev pub within : (ℕ → Bool) → ℕ → ℕ → Bool
within set a zero = true
within set a (suc n) = set a && within set (advanced a 1) n
