-- Limits of what a file is patched by. Theorems cite it.
use Rattle.std.specs.Prelude.{ℕ, ◌+◌, ◌*◌, ◌/◌}

-- the most sites of a file
abbrev pub most_sites : ℕ
most_sites = 65536

-- the most pages of a private range: 64 bytes in front, and eight for each of the most sites
abbrev pub most_private_pages : ℕ
most_private_pages = (64 + 8 * most_sites + 4095) / 4096
