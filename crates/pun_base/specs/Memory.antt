-- Memory as a map from addresses to bytes with permissions. Theorems cite it.
use Rattle.std.specs.Prelude.{ℕ, Bool, Option, Some, None, if◌then◌else◌}

-- A byte that is held. Permissions are bits as in `p_flags` of ELF: 4 reads, 2 writes, 1 executes.
pub record Cell : Type 0 where
  pub byte : ℕ
  pub perms : ℕ

-- What stands at each address; an address that isn't held has none.
abbrev pub Bytes : Type 0
Bytes = ℕ → Option Cell

-- The first of two bytes that is held.
abbrev pub or_else : Option Cell → Option Cell → Option Cell
or_else None c = c
or_else (Some b) c = Some b

-- Both maps together; the first where both hold an address.
abbrev pub joined : Bytes → Bytes → Bytes
joined m n a = or_else (m a) (n a)

-- The map without a set of addresses. A set is a test.
abbrev pub without : (ℕ → Bool) → Bytes → Bytes
without set m a = if set a then None else m a
