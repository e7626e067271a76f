-- Where the lines of a report stand: which line may come next, and what the lines so far tell.
use Rattle.std.proofs.Common.{◌≡◌, ℕ, zero, suc, ◌+◌, ◌<◌, ◌≤◌, Bool, true, false, ◌&&◌, cond, List, [], ◌∷◌, ◌++◌, length, map, Option, Some, None, option_map, refl, ap, subst, arith, ◌⊎◌, inl, inr}
use Rattle.std.specs.Prelude.{◌==◌, nat_lt, nat_le}
use Rattle.std.specs.List.{AllByRecursion, flat_map}
use Rattle.std.specs.Option.{option_or}
use Rattle.std.proofs.lemmas.Bool.{and_parts}
use Rattle.std.proofs.lemmas.Bool.Decides.{nat_tests}
use Rattle.std.proofs.lemmas.Option.{same_Some}
use Rattle.pun_base.specs.declared.action.Action.{Action}
use Rattle.pun_base.specs.declared.scheme.Scheme.{Scheme}
use Rattle.pun_base.specs.declared.tramp.Tramp.{Tramp}
use Rattle.pun_base.specs.declared.pun.Pun.{Pun}
use Rattle.pun_base.specs.Limits.{most_sites}
use Rattle.patch_report.specs.declared.origin.Origin.{Origin}
use Rattle.patch_report.specs.declared.origin.Version.{Version}
use Rattle.patch_report.specs.declared.origin.Version.TheVariants.{One, Two}
use Rattle.patch_report.specs.declared.line.Line.{Line}
use Rattle.patch_report.specs.declared.line.Line.TheVariants as line
use Rattle.patch_report.specs.declared.line.Mark.{Mark}
use Rattle.patch_report.specs.declared.line.Mark.TheVariants as mark
use Rattle.patch_report.specs.Values.{ReportValue, RowValue, PlanValue, Immovable, Unplanned, Shared, OutcomeValue, patched, left, version_in, WriteValue}
use Rattle.patch_report.specs.Spelling.{page_line, plan_lines, report_lines, row_lines, version_lines, write_line}
use Rattle.patch_report.specs.Grammar.{AscendFrom, CountsDown, is_new, is_told, PlanCounts, RowCounts, SitesApart, tramp_count}
use Rattle.patch_report.specs.Reading.{action_of, count_of, end_of, next_place, origin_of, page_from, private_of, pun_of, site_of, tramp_of, version_of, write_of}

-- What stands before the rows, but for their number.
pub record Head : Type 0 where
  pub origin : Option Origin
  pub action : Action
  pub private : ℕ × ℕ

-- A row that is being read: the rows before it, its number, which is how many are due behind it, and its site.
pub record Turn : Type 0 where
  pub head : Head
  pub rows : List RowValue
  pub due : ℕ
  pub site : ℕ

-- What the lines so far end in.
pub data State : Type 0 where
  fresh : State
  versioned : State
  begun : Option Origin → State
  acted : Option Origin → Action → State
  ranged : Head → State
  rowing : Head → List RowValue → ℕ → State
  tramping : Turn → Scheme → List Tramp → State
  writing : Turn → Scheme → List Tramp → List WriteValue → State
  punning : Turn → Scheme → List Tramp → List WriteValue → List Pun → State
  paging : Head → List RowValue → List (ℕ × ℕ) → ℕ → State
  done : ReportValue → State

-- The plan of these parts.
abbrev pub plan : Scheme → List Tramp → List WriteValue → List Pun → PlanValue
plan scheme tramps writes puns = record { scheme = scheme; tramps = tramps; writes = writes; puns = puns }

-- The row that is being read, with its outcome.
abbrev pub row : Turn → OutcomeValue → RowValue
row t outcome = record { site = t.site; number = t.due; outcome = outcome }

-- The rows up to that one.
abbrev pub rows_with : Turn → OutcomeValue → List RowValue
rows_with t outcome = t.rows ++ row t outcome ∷ []

-- The report of these parts.
abbrev pub report : Head → List RowValue → List (ℕ × ℕ) → ReportValue
report h rows pages = record
    { body = record { action = h.action; private = h.private; rows = rows; pages = pages }; origin = h.origin }

-- ---- which line may come next

-- Where a page's line or the end leads, behind rows and pages.
abbrev pub page_step : Head → List RowValue → List (ℕ × ℕ) → ℕ → Line → Option State
page_step h rows pages low x =
    option_or (option_map (λ (p : ℕ × ℕ). paging h rows (pages ++ p ∷ []) (next_place p.0)) (page_from low x))
    (option_map (λ (u : Unit {0}). done (report h rows pages)) (end_of x))

-- Where a site's line leads: to a patched site's trampolines, or to the next row.
abbrev pub begun_as : Turn → Mark → State
begun_as t (mark.Patched scheme) = tramping t scheme []
begun_as t mark.NotRelocatable = rowing t.head (rows_with t (left Immovable)) t.due
begun_as t mark.NoPlan = rowing t.head (rows_with t (left Unplanned)) t.due
begun_as t mark.Shared = rowing t.head (rows_with t (left Shared)) t.due

-- The row of this site, with so many due behind it.
abbrev pub turn : Head → List RowValue → ℕ → ℕ → Turn
turn h rows due site = record { head = h; rows = rows; due = due; site = site }

-- Where a line leads behind rows: to the next row as long as one is due, then to pages.
abbrev pub row_step : Head → List RowValue → ℕ → Line → Option State
row_step h rows zero x = page_step h rows [] 0 x
row_step h rows (suc n) x = option_map (λ (s : ℕ × Mark). begun_as (turn h rows n s.0) s.1) (site_of (version_in h.origin) n rows x)

-- Nothing where there are three already.
abbrev pub if_room : {X : Type 0} → ℕ → Option X → Option X
if_room count o = cond (nat_lt count 3) o None

-- Where a line leads in punned bytes: to one more of them, or behind the row, which is complete.
abbrev pub pun_step : Turn → Scheme → List Tramp → List WriteValue → List Pun → Line → Option State
pun_step t s ts ws ps x =
    option_or (option_map (λ (p : Pun). punning t s ts ws (ps ++ p ∷ [])) (if_room (length ps) (pun_of x)))
    (row_step t.head (rows_with t (patched (plan s ts ws ps))) t.due x)

-- Where a line leads in writes: to one more of them, or, behind one at least, to punned bytes or further.
abbrev pub write_step : Turn → Scheme → List Tramp → List WriteValue → Line → Option State
write_step t s ts ws x =
    option_or (option_map (λ (w : WriteValue). writing t s ts (ws ++ w ∷ [])) (if_room (length ws) (write_of x)))
    (cond (nat_lt 0 (length ws)) (pun_step t s ts ws [] x) None)

-- Where trampolines lead: to writes as soon as there are as many as the scheme has.
abbrev pub tramped : Turn → Scheme → List Tramp → State
tramped t s ts = cond (length ts == tramp_count s) (writing t s ts []) (tramping t s ts)

-- What a version leads to: the second tells an origin first.
abbrev pub first : Version → State
first One = begun None
first Two = versioned

-- Where a line leads from each state, if it may come there.
abbrev pub step : State → Line → Option State
step fresh x = option_map first (version_of x)
step versioned x = option_map (λ (o : Origin). begun (Some o)) (origin_of x)
step (begun o) x = option_map (acted o) (action_of x)
step (acted o a) x = option_map (λ (p : ℕ × ℕ). ranged (record { origin = o; action = a; private = p })) (private_of x)
step (ranged h) x = option_map (λ (n : ℕ). rowing h [] n) (count_of x)
step (rowing h rows due) x = row_step h rows due x
step (tramping t s ts) x = option_map (λ (p : Tramp). tramped t s (ts ++ p ∷ [])) (tramp_of x)
step (writing t s ts ws) x = write_step t s ts ws x
step (punning t s ts ws ps) x = pun_step t s ts ws ps x
step (paging h rows pages low) x = page_step h rows pages low x
step (done v) x = None

-- ---- the lines so far

-- The lines before the rows.
abbrev pub head_lines : Head → ℕ → List Line
head_lines h n = version_lines h.origin ++ line.Action h.action ∷ line.Private h.private.0 h.private.1 ∷ line.Sites n ∷ []

-- The lines up to the end of these rows.
abbrev pub rows_lines : Head → List RowValue → ℕ → List Line
rows_lines h rows due = head_lines h (length rows + due) ++ flat_map row_lines rows

-- The lines up to the ones that a row has so far.
abbrev pub turn_lines : Turn → Scheme → List Line → List Line
turn_lines t s lines = rows_lines t.head t.rows (suc t.due) ++ line.Site t.site t.due (mark.Patched s) ∷ lines

-- The lines that led to a state.
abbrev pub so_far : State → List Line
so_far fresh = []
so_far versioned = line.Version Two ∷ []
so_far (begun o) = version_lines o
so_far (acted o a) = version_lines o ++ line.Action a ∷ []
so_far (ranged h) = version_lines h.origin ++ line.Action h.action ∷ line.Private h.private.0 h.private.1 ∷ []
so_far (rowing h rows due) = rows_lines h rows due
so_far (tramping t s ts) = turn_lines t s (plan_lines (plan s ts [] []))
so_far (writing t s ts ws) = turn_lines t s (plan_lines (plan s ts ws []))
so_far (punning t s ts ws ps) = turn_lines t s (plan_lines (plan s ts ws ps))
so_far (paging h rows pages low) = rows_lines h rows 0 ++ map page_line pages
so_far (done v) = report_lines v

-- ---- what they keep

-- Numbers run down to n, which are still due.
abbrev pub CountsTo : ℕ → List RowValue → Type 0
CountsTo n [] = Unit {0}
CountsTo n (r ∷ rs) = (r.number ≡ length rs + n) × CountsTo n rs

-- Rows, and how many are due behind them.
pub record RowsHold (h : Head) (rows : List RowValue) (due : ℕ) : Type 0 where
  pub room : length rows + due ≤ most_sites
  pub plans : AllByRecursion (RowCounts (version_in h.origin)) rows
  pub numbers : CountsTo due rows
  pub sites : SitesApart [] rows

-- The rows before a row, with it still due, and its site, which is new.
pub record TurnHolds (t : Turn) : Type 0 where
  pub before : RowsHold t.head t.rows (suc t.due)
  pub new : is_new t.site t.rows ≡ true

-- What a report keeps, but for its single lines.
pub record Shape (v : ReportValue) : Type 0 where
  pub plans : AllByRecursion (RowCounts (version_in v.origin)) v.body.rows
  pub numbers : CountsDown v.body.rows
  pub sites : SitesApart [] v.body.rows
  pub pages : AscendFrom 0 v.body.pages

-- What the lines that led to a state keep.
abbrev pub Holds : State → Type 0
Holds fresh = Unit {0}
Holds versioned = Unit {0}
Holds (begun o) = Unit {0}
Holds (acted o a) = Unit {0}
Holds (ranged h) = Unit {0}
Holds (rowing h rows due) = RowsHold h rows due
Holds (tramping t s ts) = TurnHolds t × (length ts < tramp_count s)
Holds (writing t s ts ws) = TurnHolds t × (length ts ≡ tramp_count s) × (length ws ≤ 3)
Holds (punning t s ts ws ps) = TurnHolds t × PlanCounts (plan s ts ws ps)
Holds (paging h rows pages low) = RowsHold h rows 0 × ((qs : List (ℕ × ℕ)) → AscendFrom low qs → AscendFrom 0 (pages ++ qs))
Holds (done v) = Shape v

-- A line more.
pub record Grows (lines : List Line) (x : Line) (s : State) : Type 0 where
  pub lines_are : so_far s ≡ lines ++ x ∷ []
  pub holds : Holds s

-- ---- taking options apart

-- What an option gives that was mapped comes from a value that it had.
pub mapped : {A B : Type 0} (f : A → B) (o : Option A) (y : B) → option_map f o ≡ Some y → (a : A) × (o ≡ Some a) × (f a ≡ y)
mapped f None y e = absurd cc
mapped f (Some a) y e = (a, refl, cc)

-- What one option or the other gives is one's or the other's.
pub either : {A : Type 0} (o p : Option A) (y : A) → option_or o p ≡ Some y → (o ≡ Some y) ⊎ (p ≡ Some y)
either None p y e = inr e
either (Some x) p y e = inl e

-- A value that stands only under a test tells that the test is passed, and stands without it.
pub kept : {A : Type 0} (b : Bool) (o : Option A) (y : A) → cond b o None ≡ Some y → (b ≡ true) × (o ≡ Some y)
kept true o y e = (refl, e)
kept false o y e = absurd cc

-- ---- lines by what they are

-- A line that is taken as a version is the line of that version.
pub version_is : (x : Line) (v : Version) → version_of x ≡ Some v → x ≡ line.Version v
version_is (line.Version w) v e = ap line.Version (let p : w ≡ v = cc in p)
version_is _ v e = absurd cc

-- A line that is taken as an origin is the line of that origin.
pub origin_is : (x : Line) (o : Origin) → origin_of x ≡ Some o → x ≡ line.Origin o
origin_is (line.Origin p) o e = ap line.Origin (let q : p ≡ o = cc in q)
origin_is _ o e = absurd cc

-- A line that is taken as an action is the line of that action.
pub action_is : (x : Line) (a : Action) → action_of x ≡ Some a → x ≡ line.Action a
action_is (line.Action b) a e = ap line.Action (let p : b ≡ a = cc in p)
action_is _ a e = absurd cc

-- A line that is taken as a private range is the line of that range.
pub private_is : (x : Line) (p : ℕ × ℕ) → private_of x ≡ Some p → x ≡ line.Private p.0 p.1
private_is (line.Private lo hi) p e =
    let k : (nat_lt lo hi ≡ true) × (◌≡◌ {A = Option (ℕ × ℕ)} (Some (lo, hi)) (Some p)) = kept (nat_lt lo hi) (Some (lo, hi)) p e in
    let q : ◌≡◌ {A = ℕ × ℕ} (lo, hi) p = same_Some (lo, hi) p k.1 in
    ap (λ (w : ℕ × ℕ). line.Private w.0 w.1) q
private_is _ p e = absurd cc

-- A line that is taken as a number of sites is the line of that number.
pub count_is : (x : Line) (n : ℕ) → count_of x ≡ Some n → x ≡ line.Sites n
count_is (line.Sites m) n e = ap line.Sites (let p : m ≡ n = cc in p)
count_is _ n e = absurd cc

-- A line that is taken as a site has the number that is due, a site that is new, and an outcome that the version can tell.
pub site_is : (v : Version) (n : ℕ) (rows : List RowValue) (x : Line) (s : ℕ × Mark) → site_of v n rows x ≡ Some s
    → (x ≡ line.Site s.0 n s.1) × (is_new s.0 rows ≡ true) × (is_told s.1 v ≡ true)
site_is v n rows (line.Site site number m) s e =
    let k : (((number == n) && (is_new site rows && is_told m v)) ≡ true)
    × (◌≡◌ {A = Option (ℕ × Mark)} (Some (site, m)) (Some s)) =
    kept ((number == n) && (is_new site rows && is_told m v)) (Some (site, m)) s e in
    let q : ◌≡◌ {A = ℕ × Mark} (site, m) s = same_Some (site, m) s k.1 in
    let b = and_parts (number == n) (is_new site rows && is_told m v) k.0 in
    let c = and_parts (is_new site rows) (is_told m v) b.1 in
    let t : (number == n) ≡ true = b.0 in
    let d : number ≡ n = grind (arith, nat_tests) in (
      (λ i. line.Site (q i).0 (d i) (q i).1),
      subst (λ (w : ℕ × Mark). is_new w.0 rows ≡ true) q c.0,
      subst (λ (w : ℕ × Mark). is_told w.1 v ≡ true) q c.1,
    )
site_is v n rows _ s e = absurd cc

-- A line that is taken as a trampoline is the line of that trampoline.
pub tramp_is : (x : Line) (t : Tramp) → tramp_of x ≡ Some t → x ≡ line.Tramp t
tramp_is (line.Tramp u) t e = ap line.Tramp (let p : u ≡ t = cc in p)
tramp_is _ t e = absurd cc

-- A line that is taken as a write is the line of that write.
pub write_is : (x : Line) (w : WriteValue) → write_of x ≡ Some w → x ≡ write_line w
write_is (line.Write addr was now) w e =
    ap write_line (same_Some (record { addr = addr; was = was; now = now }) w e)
write_is _ w e = absurd cc

-- A line that is taken as punned bytes is the line of these bytes.
pub pun_is : (x : Line) (p : Pun) → pun_of x ≡ Some p → x ≡ line.Pun p
pun_is (line.Pun q) p e = ap line.Pun (let r : q ≡ p = cc in r)
pun_is _ p e = absurd cc

-- A line that is taken as a page from an address on is the line of that page, which is not below the address.
pub page_is : (low : ℕ) (x : Line) (p : ℕ × ℕ) → page_from low x ≡ Some p → (x ≡ page_line p) × (low ≤ p.0)
page_is low (line.Page page group) p e =
    let k : (nat_le low page ≡ true) × (◌≡◌ {A = Option (ℕ × ℕ)} (Some (page, group)) (Some p)) =
    kept (nat_le low page) (Some (page, group)) p e in
    let q : ◌≡◌ {A = ℕ × ℕ} (page, group) p = same_Some (page, group) p k.1 in
    let l : low ≤ page = grind (arith, nat_tests) in
    (ap page_line q, subst (λ (w : ℕ × ℕ). low ≤ w.0) q l)
page_is low _ p e = absurd cc

-- A line that is taken as the end is the line `end`.
pub end_is : (x : Line) (u : Unit {0}) → end_of x ≡ Some u → x ≡ line.End
end_is line.End u e = refl
end_is _ u e = absurd cc
