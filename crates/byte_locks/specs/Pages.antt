-- What pages of locks say of an address. Contracts of private functions alone cite it.
use Rattle.std.specs.Prelude.{◌≡◌, ◌≢◌, ℕ, zero, suc, ◌+◌, ◌*◌, ◌/◌, ◌%◌, ◌<◌, ◌≤◌, ◌==◌, nat_lt, if◌then◌else◌, List, [], ◌∷◌, ◌++◌, length, slice_index, slice_index_or}
use Rattle.byte_locks.specs.declared.lock.Lock.{Lock}
use Rattle.byte_locks.specs.declared.lock.Lock.TheVariants.{Free, Punned, Changed}
use Rattle.byte_locks.specs.declared.page.Page.{Page}
use Rattle.byte_locks.specs.Bitmaps.{is_set_in}

-- The lock of the byte at an offset of a page.
abbrev pub lock_in : Page → ℕ → Lock
lock_in page offset =
    if is_set_in page.changed.items offset then Changed (slice_index page.values.items offset)
    else (if is_set_in page.punned.items offset then Punned else Free)

-- The lock of an address: that of the first page with its number.
abbrev pub lock_among : List Page → ℕ → Lock
lock_among [] a = Free
lock_among (p ∷ ps) a = if p.number == a / 4096 then lock_in p (a % 4096) else lock_among ps a

-- The numbers of pages rise, the first is at least low.
abbrev pub Ascending : ℕ → List Page → Type 0
Ascending low [] = Unit {0}
Ascending low (p ∷ ps) = (low ≤ p.number) × Ascending (p.number + 1) ps

-- How many pages from the front have lower numbers.
abbrev pub count_lower : List Page → ℕ → ℕ
count_lower [] n = 0
count_lower (p ∷ ps) n = if nat_lt p.number n then suc (count_lower ps n) else 0

-- The page at a place has a number.
abbrev pub HasNumber : List Page → ℕ → ℕ → Type 0
HasNumber pages n place = (place < length pages) × ((default : Page) → (slice_index_or pages place default).number ≡ n)

-- No page has a number; one that had it would stand at the place.
abbrev pub IsMissing : List Page → ℕ → ℕ → Type 0
IsMissing pages n place =
    (place ≡ count_lower pages n) × ((default : Page) → place < length pages → (slice_index_or pages place default).number ≢ n)

-- An address with its lock, where it isn't free.
abbrev pub entry : ℕ → Lock → List (ℕ × Lock)
entry a Free = []
entry a Punned = (a, Punned) ∷ []
entry a (Changed value) = (a, Changed value) ∷ []

-- The locked bytes of a page below an offset.
unfoldable pub page_entries : Page → ℕ → List (ℕ × Lock)
page_entries page zero = []
page_entries page (suc offset) = entry (page.number * 4096 + offset) (lock_in page offset) ++ page_entries page offset

-- All locked bytes.
unfoldable pub entries : List Page → List (ℕ × Lock)
entries [] = []
entries (p ∷ ps) = page_entries p (length p.values.items) ++ entries ps
