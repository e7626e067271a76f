-- Pieces of memory, each from its first address up to and without its second, and the pages that meet them. Theorems cite it.
use Rattle.std.specs.Prelude.{◌≡◌, ℕ, ◌+◌, ◌/◌, ◌%◌, ◌*◌, ◌≤◌, ◌⊎◌, ◌↔◌, ◌==◌, Bool, true, ◌&&◌, nat_le, nat_lt, List, map, AllPairs, Contains}
use Rattle.std.specs.List.{list_any}
use Rattle.std.specs.List.Sorted.{IsStrictlyIncreasing}
use Rattle.pun_base.specs.declared.range.Range.{Range}
use Rattle.pun_base.specs.Ranges.{ends}

-- Ranges as pieces, each by its ends.
abbrev pub ends_of : List Range → List (ℕ × ℕ)
ends_of ranges = map ends ranges

-- The byte at x is one of the piece.
abbrev pub holds : ℕ → ℕ × ℕ → Bool
holds x piece = nat_le piece.0 x && nat_lt x piece.1

-- A piece covers the byte at x.
abbrev pub is_covered : List (ℕ × ℕ) → ℕ → Bool
is_covered pieces x = list_any (holds x) pieces

-- No byte is one of two pieces.
abbrev pub AreDisjoint : List (ℕ × ℕ) → Type 0
AreDisjoint pieces = AllPairs (λ p q. (p.1 ≤ q.0) ⊎ (q.1 ≤ p.0)) pieces

-- The address of the page that has the byte at x: a page has 4,096 bytes.
abbrev pub page_of : ℕ → ℕ
page_of x = x / 4096 * 4096

-- A piece covers a byte of a page: `page` is the address of a page, and `offset` the byte's place in it.
abbrev pub is_occupied : List (ℕ × ℕ) → ℕ → ℕ → Bool
is_occupied pieces page offset = (page % 4096 == 0) && (nat_lt offset 4096 && is_covered pieces (page + offset))

-- A piece meets the page at an address: the page has a byte of the piece.
abbrev pub MeetsPage : List (ℕ × ℕ) → ℕ → Type 0
MeetsPage pieces page = (x : ℕ) × (is_covered pieces x ≡ true) × (page_of x ≡ page)

-- The pages that meet a piece, each once and in ascending order.
pub record IsPageList (pieces : List (ℕ × ℕ)) (pages : List ℕ) : Type 0 where
  pub ascending : IsStrictlyIncreasing pages
  pub exact : (page : ℕ) → Contains pages page ↔ MeetsPage pieces page
