-- The conditions of `emit` are those of its job, and what they leave of the counts of pages, runs and entries.
use Rattle.std.proofs.Common.{◌≡◌, ℕ, zero, suc, ◌+◌, ◌-◌, ◌*◌, ◌/◌, ◌%◌, ◌^◌, ◌<◌, ◌≤◌, ◌==◌, ◌⊎◌, inl, inr, Bool, true, false, cond, not, ◌&&◌, nat_le, nat_lt, List, [], ◌∷◌, length, map, filter, slice_index, get_or, Option, Some, None, Result, refl, ap, ◌∙◌, subst, arith}
use Rattle.std.specs.List.{AllByRecursion, AllPairs, Contains, list_any, slice_index_or}
use Rattle.std.specs.List.Sorted.{IsStrictlyIncreasing}
use Rattle.std.proofs.lemmas.Bool.{and_parts, cases_Bool, cond-true, cond-false, ltb-true, leb-true, lt-ltb, or_cases, or_right, or_left}
use Rattle.std.proofs.lemmas.Bool.Decides.{nat_tests}
use Rattle.std.proofs.lemmas.List.{length-map, append-nil}
use Rattle.pun_base.specs.Shown.{DeskState}
use Rattle.pun_base.specs.Desk.{PutResult, Fills}
use Rattle.pun_base.specs.declared.plan.Write.{Write}
use Rattle.elf_read.specs.declared.segment.Segment.{Segment}
use Rattle.elf_read.specs.Entries.{segments, segments_from, table_count, table_place, is_load}
use Rattle.elf_read.specs.Refusals.{refusal}
use Rattle.page_group.specs.Pages.{AreDisjoint, IsPageList, page_of, holds, is_covered, is_occupied as is_occupied_offset}
use Rattle.page_group.specs.Grouping.{GroupsState, pages, group_of, group_count, IsGrouping}
use Rattle.elf_emit.specs.declared.runs.Page.{Page}
use Rattle.elf_emit.specs.declared.runs.Run.{Run}
use Rattle.elf_emit.specs.declared.built.Built.{Built}
use Rattle.elf_emit.specs.declared.emit.EmitError.{EmitError}
use Rattle.elf_emit.specs.Job.{BytesAt, Part, Frame, Job}
use Rattle.elf_emit.specs.Frames.{others, olds, count}
use Rattle.elf_emit.specs.Layout.{in_patch, is_other, part_of, frame_of, runs_of, join_page, group_pages}
use Rattle.elf_emit.specs.FrameLaws.{IsFrame}
use Rattle.elf_emit.specs.Laws.{is_occupied, is_on, PiecesApart, PagesApart, IsPage, IsJob}
use Rattle.elf_emit.specs.Laws.{PairsByRecursion}
use Rattle.elf_emit.specs.Views.{piece_of, pieces_of, job_of, tailed}
use Rattle.elf_emit.specs.Windows.{IsCodePage}
use Rattle.elf_emit.specs.Emits.{range_of, page_of_home, pages_of, emit_job, AreBytes, IsPrivate, IsFree, AreGroupsOf, AreBacked, HoldNothing, EmitsFrame}
use Rattle.page_group.proofs.Groupings.{groups_are_apart, groups_are_few}
use Rattle.elf_emit.proofs.StayingSegments.{all_map}
use Rattle.elf_emit.proofs.OriginalFacts.{field_bound}

-- what holds at each place of a list holds of all in it
pub all_places : {X : Type 0} (P : X → Type 0) (xs : List X) → ((k : ℕ) (d : X) → k < length xs → P (slice_index_or xs k d)) → AllByRecursion P xs
all_places P [] h = tt
all_places P (x ∷ xs) h = (h 0 x (omega arith), all_places P xs (λ k d l. h (suc k) d (omega arith)))

pairs_places : {X : Type 0} (R : X → X → Type 0) (xs : List X) → AllPairs R xs → PairsByRecursion R xs
pairs_places R [] h = tt
pairs_places R (x ∷ xs) h = (
  all_places (R x) xs (λ k d l. h 0 (suc k) d (omega arith) (omega arith)),
  pairs_places R xs (λ i j d l m. h (suc i) (suc j) d (omega arith) (omega arith)),
)

-- pieces of code that don't meet
in_range : (lo n a : ℕ) → (nat_le lo a && nat_lt (a - lo) n) ≡ true → (lo ≤ a) × (a < lo + n)
in_range lo n a h = let k = and_parts (nat_le lo a) (nat_lt (a - lo) n) h in let p = leb-true lo a k.0 in let q = ltb-true (a - lo) n k.1 in (p, omega arith)

out_of_range : (lo n a : ℕ) → ((lo ≤ a) × (a < lo + n) → ⊥) → (nat_le lo a && nat_lt (a - lo) n) ≡ false
out_of_range lo n a h = elim (cases_Bool (nat_le lo a && nat_lt (a - lo) n)) [
  | inl t ↦ absurd (h (in_range lo n a t))
  | inr f ↦ f
]

ranges_apart : (b c : Built) → ((range_of b).1 ≤ (range_of c).0) ⊎ ((range_of c).1 ≤ (range_of b).0) → PiecesApart (piece_of b) (piece_of c)
ranges_apart b c (inl l) a e = let k = in_range b.place (length b.code.bytes) a e in let k0 = k.0 in let k1 = k.1 in out_of_range c.place (length c.code.bytes) a (λ m. let m0 = m.0 in let m1 = m.1 in omega arith)
ranges_apart b c (inr l) a e = let k = in_range b.place (length b.code.bytes) a e in let k0 = k.0 in let k1 = k.1 in out_of_range c.place (length c.code.bytes) a (λ m. let m0 = m.0 in let m1 = m.1 in omega arith)

all_ranges : (b : Built) (cs : List Built) → AllByRecursion (λ q. ((range_of b).1 ≤ q.0) ⊎ (q.1 ≤ (range_of b).0)) (map range_of cs) → AllByRecursion (PiecesApart (piece_of b)) (pieces_of cs)
all_ranges b [] h = tt
all_ranges b (c ∷ cs) h = (ranges_apart b c h.0, all_ranges b cs h.1)

pieces_pairs : (bs : List Built) → PairsByRecursion (λ p q. (p.1 ≤ q.0) ⊎ (q.1 ≤ p.0)) (map range_of bs) → PairsByRecursion PiecesApart (pieces_of bs)
pieces_pairs [] h = tt
pieces_pairs (b ∷ bs) h = (all_ranges b bs h.0, pieces_pairs bs h.1)

-- a byte of a piece is covered
covered_one : (b : Built) (a : ℕ) → in_patch (piece_of b) a ≡ true → holds a (range_of b) ≡ true
covered_one b a e = let k = in_range b.place (length b.code.bytes) a e in both b.place (b.place + length b.code.bytes) a k.0 k.1
  where
    both : (lo hi x : ℕ) → lo ≤ x → x < hi → (nat_le lo x && nat_lt x hi) ≡ true
    both lo hi x l m = grind (arith, nat_tests)

covered : (bs : List Built) (a : ℕ) → is_occupied (pieces_of bs) a ≡ true → is_covered (map range_of bs) a ≡ true
covered [] a h = h
covered (b ∷ bs) a h = elim (or_cases (in_patch (piece_of b) a) (is_occupied (pieces_of bs) a) h) [
  | inl t ↦ or_left (holds a (range_of b)) (is_covered (map range_of bs) a) (covered_one b a t)
  | inr t ↦ or_right (holds a (range_of b)) (is_covered (map range_of bs) a) (covered bs a t)
]

-- the page of an address is among the pages
on_own : (a : ℕ) (f : ℕ) → is_on (record { addr = a / 4096 * 4096; group = f }) a ≡ true
on_own a f = own (a / 4096 * 4096) a (omega arith) (omega arith)
  where
    own : (lo x : ℕ) → lo ≤ x → x - lo < 4096 → (nat_le lo x && nat_lt (x - lo) 4096) ≡ true
    own lo x l m = grind (arith, nat_tests)

on_page : (homes : List (ℕ × ℕ)) (a k : ℕ) → k < length (pages homes) → slice_index_or (pages homes) k (page_of a) ≡ page_of a → list_any (λ p. is_on p a) (pages_of homes) ≡ true
on_page [] a k l e = absurd (omega arith)
on_page (home ∷ homes) a zero l e = or_left (is_on (page_of_home home) a) _ (ap (λ (x : ℕ). is_on (record { addr = x; group = home.1 }) a) e ∙ on_own a home.1)
on_page (home ∷ homes) a (suc k) l e = or_right (is_on (page_of_home home) a) _ (on_page homes a k (omega arith) e)

-- what holds of each member of a list holds of all in it
pub all_contained : {X : Type 0} (P : X → Type 0) (xs : List X) → ((x : X) → Contains xs x → P x) → AllByRecursion P xs
all_contained P [] h = tt
all_contained P (x ∷ xs) h =
    (h x (0, omega arith, refl), all_contained P xs (λ y c. h y (suc c.0, (let l = c.1 in omega arith), c.2)))

all_unmapped : {X Y : Type 0} (P : Y → Type 0) (f : X → Y) (xs : List X) → AllByRecursion P (map f xs) → AllByRecursion (λ x. P (f x)) xs
all_unmapped P f [] h = tt
all_unmapped P f (x ∷ xs) h = (h.0, all_unmapped P f xs h.1)

all_at : {X : Type 0} (P : X → Type 0) (xs : List X) (i : ℕ) (d : X) → i < length xs → AllByRecursion P xs → P (get_or xs i d)
all_at P [] i d l h = absurd (omega arith)
all_at P (x ∷ xs) zero d l h = h.0
all_at P (x ∷ xs) (suc i) d l h = all_at P xs i d (omega arith) h.1

-- the rest of a strictly increasing list strictly increases
pub rising_tail : (x : ℕ) (xs : List ℕ) → IsStrictlyIncreasing (x ∷ xs) → IsStrictlyIncreasing xs
rising_tail x xs h k l =
    let e : suc k + 1 ≡ suc (k + 1) = omega arith in
    subst (λ (m : ℕ). slice_index (x ∷ xs) (suc k) < slice_index (x ∷ xs) m) e (h (suc k) (omega arith))

-- the first of a strictly increasing list is less than each other
pub rising_all : (x : ℕ) (xs : List ℕ) → IsStrictlyIncreasing (x ∷ xs) → AllByRecursion (λ y. x < y) xs
rising_all x [] h = tt
rising_all x (y ∷ ys) h =
    let l : x < y = h 0 (omega arith) in
    (l, all_map (λ z. y < z) (λ z. x < z) ys (λ z m. omega arith) (rising_all y ys (rising_tail x (y ∷ ys) h)))

-- the pages that show the groups
all_whole : (pieces : List (ℕ × ℕ)) (ps : List ℕ) → IsPageList pieces ps → AllByRecursion (λ p. p % 4096 ≡ 0) ps
all_whole pieces ps h = all_contained (λ p. p % 4096 ≡ 0) ps (λ p c. let m = (h.exact p).0 c in let e = m.2 in whole m.0 p e)
  where
    whole : (x p : ℕ) → page_of x ≡ p → p % 4096 ≡ 0
    whole x p e = omega arith

all_shown : (homes : List (ℕ × ℕ)) → AllByRecursion (λ h. h.1 < group_count homes) homes
all_shown [] = tt
all_shown (h ∷ hs) = (omega arith, all_map (λ g. g.1 < group_count hs) (λ g. g.1 < group_count (h ∷ hs)) hs (λ g l. omega arith) (all_shown hs))

-- the group of a page is found by its address
group_at : (homes : List (ℕ × ℕ)) (i : ℕ) (d : ℕ × ℕ) → IsStrictlyIncreasing (pages homes) → i < length homes → group_of homes (get_or homes i d).0 ≡ Some (get_or homes i d).1
group_at [] i d r l = absurd (omega arith)
group_at (h ∷ hs) zero d r l = cond-true (h.0 == h.0) _ _ (same h.0)
  where
    same : (x : ℕ) → (x == x) ≡ true
    same x = grind (arith, nat_tests)
group_at (h ∷ hs) (suc i) d r l =
    let a = all_at (λ g. h.0 < g.0) hs i d (omega arith) (all_unmapped (λ y. h.0 < y) (λ (x : ℕ × ℕ). x.0) hs (rising_all h.0 (pages hs) r)) in
    cond-false ((get_or hs i d).0 == h.0) _ _ (other (get_or hs i d).0 h.0 a) ∙ group_at hs i d (rising_tail h.0 (pages hs) r) (omega arith)
  where
    other : (x y : ℕ) → y < x → (x == y) ≡ false
    other x y m = grind (arith, nat_tests)

homes_found : (homes : List (ℕ × ℕ)) → IsStrictlyIncreasing (pages homes) → AllByRecursion (λ h. group_of homes h.0 ≡ Some h.1) homes
homes_found homes r = all_places (λ (h : ℕ × ℕ). group_of homes h.0 ≡ Some h.1) homes (λ k d l. group_at homes k d r l)

-- an offset at which a page of code has a byte of a piece is occupied
offset_occupied : (built : List Built) (page k : ℕ) → page % 4096 ≡ 0 → k < 4096 → is_occupied (pieces_of built) (page + k) ≡ true
    → is_occupied_offset (map range_of built) page k ≡ true
offset_occupied built page k w l o = all_three (page % 4096 == 0) (nat_lt k 4096) _ (same (page % 4096) w) (lt-ltb k 4096 l) (covered built (page + k) o)
  where
    same : (x : ℕ) → x ≡ 0 → (x == 0) ≡ true
    same x e = grind (arith, nat_tests)

    all_three : (a b c : Bool) → a ≡ true → b ≡ true → c ≡ true → (a && (b && c)) ≡ true
    all_three a b c p q r = rw (p, q, r) refl

-- two pages of one group have no occupied offset in common
two_pages : (built : List Built) (homes : List (ℕ × ℕ)) (h g : ℕ × ℕ) → IsGrouping (map range_of built) homes → h.0 < g.0 → h.0 % 4096 ≡ 0 → g.0 % 4096 ≡ 0
    → group_of homes h.0 ≡ Some h.1 → group_of homes g.0 ≡ Some g.1 → PagesApart (pieces_of built) (page_of_home h) (page_of_home g)
two_pages built homes h g s l a b e f = record {
  ascend = omega arith;
  free = λ same k m o. elim (cases_Bool (is_occupied (pieces_of built) (g.0 + k))) [
    | inl t ↦ absurd (groups_are_apart (map range_of built) homes s h.0 g.0 g.1 (λ q. omega arith) (e ∙ ap Some same) f
        (k, offset_occupied built h.0 k a m o, offset_occupied built g.0 k b m t))
    | inr n ↦ n
  ];
}

later_pages : (built : List Built) (homes : List (ℕ × ℕ)) (h : ℕ × ℕ) (hs : List (ℕ × ℕ)) → IsGrouping (map range_of built) homes → h.0 % 4096 ≡ 0 → group_of homes h.0 ≡ Some h.1
    → AllByRecursion (λ y. h.0 < y) (pages hs) → AllByRecursion (λ g. g.0 % 4096 ≡ 0) hs → AllByRecursion (λ g. group_of homes g.0 ≡ Some g.1) hs
    → AllByRecursion (PagesApart (pieces_of built) (page_of_home h)) (pages_of hs)
later_pages built homes h [] s w e a b f = tt
later_pages built homes h (g ∷ hs) s w e a b f = (two_pages built homes h g s a.0 w b.0 e f.0, later_pages built homes h hs s w e a.1 b.1 f.1)

pages_pairs : (built : List Built) (homes hs : List (ℕ × ℕ)) → IsGrouping (map range_of built) homes → IsStrictlyIncreasing (pages hs) → AllByRecursion (λ h. h.0 % 4096 ≡ 0) hs
    → AllByRecursion (λ h. group_of homes h.0 ≡ Some h.1) hs → PairsByRecursion (PagesApart (pieces_of built)) (pages_of hs)
pages_pairs built homes [] s r w f = tt
pages_pairs built homes (h ∷ hs) s r w f =
    (later_pages built homes h hs s w.0 f.0 (rising_all h.0 (pages hs) r) w.1 f.1, pages_pairs built homes hs s (rising_tail h.0 (pages hs) r) w.1 f.1)

all_pages : (lo hi files : ℕ) (homes : List (ℕ × ℕ)) → AllByRecursion (λ h. h.0 % 4096 ≡ 0) homes → AllByRecursion (λ h. IsFree lo hi h.0) homes → AllByRecursion (λ h. h.1 < files) homes → AllByRecursion (IsPage lo hi files) (pages_of homes)
all_pages lo hi files [] w f s = tt
all_pages lo hi files (h ∷ hs) w f s =
    (record { whole = w.0; low = f.0.low; high = f.0.high; apart = f.0.apart; shown = s.0 }, all_pages lo hi files hs w.1 f.1 s.1)

on_pages : (built : List Built) (groups : GroupsState) → groups.pieces ≡ map range_of built → IsGrouping groups.pieces groups.homes → (a : ℕ) → is_occupied (pieces_of built) a ≡ true → list_any (λ p. is_on p a) (pages_of groups.homes) ≡ true
on_pages built groups e g a o =
    let c : is_covered groups.pieces a ≡ true = ap (λ (z : List (ℕ × ℕ)). is_covered z a) e ∙ covered built a o in
    let m = (g.listed.exact (page_of a)).1 (a, c, refl) in
    on_page groups.homes a m.0 m.1 m.2

-- how many pages there are
pages_count : (lo hi files at : ℕ) (ps : List Page) (pieces : List BytesAt) → at ≤ 0x7fff0000 → AllByRecursion (λ p. at ≤ p.addr) ps → AllByRecursion (IsPage lo hi files) ps → PairsByRecursion (PagesApart pieces) ps → at + 4096 * length ps ≤ 0x7fff0000
pages_count lo hi files at [] pieces l a i h = omega arith
pages_count lo hi files at (p ∷ ps) pieces l a i h =
    let r = pages_count lo hi files (p.addr + 4096) ps pieces i.0.high (all_map (PagesApart pieces p) (λ q. p.addr + 4096 ≤ q.addr) ps (λ q k. k.ascend) h.0) i.1 h.1 in
    let q = a.0 in omega arith

-- pages for code that don't meet are fewer than 2^20
pub few_pages : (lo hi files : ℕ) (ps : List Page) (pieces : List BytesAt) → AllByRecursion (IsPage lo hi files) ps → PairsByRecursion (PagesApart pieces) ps → length ps < 2 ^ 20
few_pages lo hi files ps pieces i h =
    let r = pages_count lo hi files 0 ps pieces (omega arith) (all_map (IsPage lo hi files) (λ p. 0 ≤ p.addr) ps (λ p k. omega arith) i) i h in omega arith

join_length : (p : Page) (rs : List Run) → length (join_page p rs) ≤ suc (length rs)
join_length p [] = omega arith
join_length p (r ∷ rs) = step ((p.addr + 4096 == r.addr) && (p.group + 1 == r.first))
  where
    step : (b : Bool) → length (cond b (record { addr = p.addr; first = p.group; count = suc r.count } ∷ rs) (record { addr = p.addr; first = p.group; count = 1 } ∷ r ∷ rs)) ≤ suc (suc (length rs))
    step true = omega arith
    step false = omega arith

-- there are no more runs than pages
pub runs_length : (ps : List Page) → length (runs_of ps) ≤ length ps
runs_length [] = omega arith
runs_length (p ∷ ps) = let r = runs_length ps in let q = join_length p (runs_of ps) in omega arith

-- how many entries there are
kinds_step : (s : Segment) (xs ys : List Segment) (n : ℕ) → length xs + length ys ≤ n → length (cond (is_other s) (s ∷ xs) xs) + length (cond (is_load s) (s ∷ ys) ys) ≤ suc n
kinds_step s xs ys n l = step (s.kind == 1) (nat_lt 0 s.memsz)
  where
    step : (b c : Bool) → length (cond (not b) (s ∷ xs) xs) + length (cond (b && c) (s ∷ ys) ys) ≤ suc n
    step true true = omega arith
    step true false = omega arith
    step false true = omega arith
    step false false = omega arith

kinds_length : (ss : List Segment) → length (filter is_other ss) + length (filter is_load ss) ≤ length ss
kinds_length [] = omega arith
kinds_length (s ∷ ss) = kinds_step s (filter is_other ss) (filter is_load ss) (length ss) (kinds_length ss)

length_from : (n at : ℕ) (file : List ℕ) → length (segments_from file at n) ≡ n
length_from zero at file = refl
length_from (suc n) at file = ap suc (length_from n (at + 56) file)

few_entries : (file : List ℕ) → ((k : ℕ) → slice_index file k < 256) → length (segments file) < 2 ^ 16
unfolding table_count
few_entries file h = let e = length_from (table_count file) (table_place file) file in let b = field_bound 2 56 file h in omega arith

-- with fewer than 2^31 parts, a table's entries are fewer than 2^32
pub count_fits : (f : Frame) → IsFrame f → length f.parts < 2 ^ 31 → count f < 2 ^ 32
count_fits f h p =
    let e = few_entries f.orig h.bytes in
    let k : length (others f) + length (olds f) ≤ length (segments f.orig) = kinds_length (segments f.orig) in
    omega (arith, e, k, p)

-- the runs of a job's pages are fewer than 2^31 parts
pub parts_few : (j : Job) → IsJob j → length (map part_of (runs_of j.pages)) < 2 ^ 31
parts_few j h =
    let r = runs_length j.pages in
    let p = few_pages j.private_lo j.private_hi j.groups j.pages j.pieces h.pages h.pages_apart in
    let m = length-map (runs_of j.pages) part_of in
    omega (arith, r, p, m)

-- what may be asked of `emit`
pub record CanEmit (file : List ℕ) (writes : List Write) (built : List Built) (groups : GroupsState) (lo hi : ℕ) : Type 0 where
  pub bytes : (k : ℕ) → slice_index file k < 256
  pub size : length file < 2 ^ 63
  pub original : refusal 0x20000 file ≡ None
  pub backed : AreBacked file writes
  pub groups_of : AreGroupsOf built groups
  pub grouping : IsGrouping groups.pieces groups.homes
  pub private : IsPrivate lo hi
  pub free : AllByRecursion (IsFree lo hi) (pages groups.homes)
  pub nothing_there : HoldNothing (emit_job file writes built groups lo hi)

-- what may be written by a call meets the conditions on a job
pub job_is : (file : List ℕ) (writes : List Write) (built : List Built) (groups : GroupsState) (lo hi : ℕ) → CanEmit file writes built groups lo hi → IsJob (emit_job file writes built groups lo hi)
job_is file writes built groups lo hi h =
    let g = h.grouping in
    let homes = groups.homes in
    let shared : IsGrouping (map range_of built) homes = subst (λ (z : List (ℕ × ℕ)). IsGrouping z homes) h.groups_of.pieces g in
    let whole = all_unmapped (λ p. p % 4096 ≡ 0) (λ (x : ℕ × ℕ). x.0) homes (all_whole groups.pieces (pages homes) g.listed) in
    let ps = all_pages lo hi (group_count homes) homes whole (all_unmapped (IsFree lo hi) (λ (x : ℕ × ℕ). x.0) homes h.free) (all_shown homes) in
    let pairs = pages_pairs built homes homes shared g.listed.ascending whole (homes_found homes g.listed.ascending) in
    let n = few_pages lo hi (group_count homes) (pages_of homes) (pieces_of built) ps pairs in
    record {
      bytes = h.bytes;
      size = h.size;
      accepted = h.original;
      backed = h.backed;
      private_whole = h.private.whole;
      private_some = h.private.some;
      private_low = h.private.low;
      private_high = h.private.high;
      pieces_apart = pieces_pairs built (pairs_places (λ p q. (p.1 ≤ q.0) ⊎ (q.1 ≤ p.0)) (map range_of built) (subst (λ z. AreDisjoint z) h.groups_of.pieces h.groups_of.disjoint));
      pages = ps;
      pages_apart = pairs;
      few_groups = (let a = groups_are_few groups.pieces homes g in let b = length-map homes page_of_home in let c = length-map homes (λ (x : ℕ × ℕ). x.0) in omega arith);
      on_pages = on_pages built groups h.groups_of.pieces g;
      new = h.nothing_there;
    }

-- the element of a mapped list at a place is the image of the one there
pub at_mapped : {X Y : Type 0} (f : X → Y) (xs : List X) (i : ℕ) (d : X) (e : Y) → i < length xs → get_or (map f xs) i e ≡ f (get_or xs i d)
at_mapped f [] i d e l = absurd (omega arith)
at_mapped f (x ∷ xs) zero d e l = refl
at_mapped f (x ∷ xs) (suc i) d e l = at_mapped f xs i d e (omega arith)

-- the job of the values that the code has
job_path : (file : List ℕ) (writes : List Write) (built : List Built) (groups : GroupsState) (ps : List Page) (n lo hi : ℕ) → ps ≡ pages_of groups.homes → n ≡ group_count groups.homes → job_of file writes built ps n lo hi ≡ emit_job file writes built groups lo hi
job_path file writes built groups ps n lo hi b c = λ i. job_of file writes built (b i) (c i) lo hi

-- a job's file is its own with no further pages, with its runs as parts and with the original's start
pub plain_frame : (j : Job) (parts : List Part) → parts ≡ map part_of (runs_of j.pages) → tailed j [] parts None ≡ frame_of j
plain_frame j parts e =
    let z : j.groups + 0 ≡ j.groups = omega arith in
    λ i. record {
      orig = j.orig;
      writes = j.writes;
      private_lo = j.private_lo;
      private_hi = j.private_hi;
      body = append-nil (group_pages j.pieces j.pages 0 j.groups) i;
      files = z i;
      parts = e i;
      entry = None;
    }

-- the file of a call's job, by values equal to its own and with its runs as parts
pub plain_path : (file : List ℕ) (writes : List Write) (built : List Built) (groups : GroupsState) (ps : List Page) (n lo hi : ℕ) (parts : List Part) → ps ≡ pages_of groups.homes
    → n ≡ group_count groups.homes → parts ≡ map part_of (runs_of ps) → tailed (job_of file writes built ps n lo hi) [] parts None ≡ frame_of (emit_job file writes built groups lo hi)
plain_path file writes built groups ps n lo hi parts b c e =
    plain_frame (job_of file writes built ps n lo hi) parts e ∙ ap frame_of (job_path file writes built groups ps n lo hi b c)

-- a file with further pages is the same, by values equal to a call's
pub tailed_path : (file : List ℕ) (writes : List Write) (built : List Built) (groups : GroupsState) (ps : List Page) (n lo hi : ℕ) (bytes : List ℕ) (parts : List Part) (start : Option ℕ)
    → ps ≡ pages_of groups.homes → n ≡ group_count groups.homes
    → tailed (job_of file writes built ps n lo hi) bytes parts start ≡ tailed (emit_job file writes built groups lo hi) bytes parts start
tailed_path file writes built groups ps n lo hi bytes parts start b c =
    ap (λ (j : Job). tailed j bytes parts start) (job_path file writes built groups ps n lo hi b c)

-- the pages of a grouping, as pages for code, are whole
pub whole_pages_of : (pieces homes : List (ℕ × ℕ)) → IsGrouping pieces homes → AllByRecursion IsCodePage (pages_of homes)
whole_pages_of pieces homes g = whole homes (all_unmapped (λ p. p % 4096 ≡ 0) (λ (x : ℕ × ℕ). x.0) homes (all_whole pieces (pages homes) g.listed))
  where
    whole : (hs : List (ℕ × ℕ)) → AllByRecursion (λ h. h.0 % 4096 ≡ 0) hs → AllByRecursion IsCodePage (pages_of hs)
    whole [] h = tt
    whole (x ∷ xs) h = (h.0, whole xs h.1)

-- what a call is asked makes its job one
pub called_job : (file : List ℕ) (writes : List Write) (built : List Built) (groups : GroupsState) (lo hi : ℕ) → AreBytes file
    → length file < 2 ^ 63 → refusal 0x20000 file ≡ None → AreBacked file writes → AreGroupsOf built groups → IsGrouping groups.pieces groups.homes → IsPrivate lo hi
    → AllByRecursion (IsFree lo hi) (pages groups.homes) → HoldNothing (emit_job file writes built groups lo hi) → IsJob (emit_job file writes built groups lo hi)
called_job file writes built groups lo hi b n o w g h p e k = job_is file writes built groups lo hi
    (record { bytes = b; size = n; original = o; backed = w; groups_of = g; grouping = h; private = p; free = e; nothing_there = k })

-- what fills a name with bytes fills it with equal ones, with an equal result
pub filled_with : (name bytes part : List ℕ) (s t : DeskState) (r q : PutResult) → Fills name bytes s t r → bytes ≡ part → r ≡ q → Fills name part s t q
filled_with name bytes part s t r q f e d =
    subst (λ (x : PutResult). Fills name part s t x) d (subst (λ (b : List ℕ). Fills name b s t r) e f)

-- what is answered for a file is answered for an equal one
pub emitted : (f h : Frame) (name : List ℕ) (s t : DeskState) (r : Result (Unit {0}) EmitError) → EmitsFrame f name s t r → f ≡ h → EmitsFrame h name s t r
emitted f h name s t r k e = subst (λ (z : Frame). EmitsFrame z name s t r) e k
