-- How long the front of a settled file is. Theorems cite it.
use Rattle.std.specs.Prelude.{ℕ, ◌+◌, ◌*◌, ◌/◌}

-- The bytes of the front that are loaded, for a file of n entries: a header, one entry more, and the stub.
unfoldable pub used_len : ℕ → ℕ
used_len n = 64 + 56 * (n + 1) + 89

-- The front's length: whole pages.
unfoldable pub front_len : ℕ → ℕ
front_len n = (used_len n + 4095) / 4096 * 4096
