-- One search in the words of another.
use Rattle.std.proofs.Common.{◌≡◌, ℕ, ℤ, pos, negsuc, suc, ◌+◌, ◌*◌, ◌-◌, ◌^◌, ◌<◌, ◌≤◌, ◌≤ℤ◌, List, Option, Some, None, arith}
use Rattle.std.proofs.lemmas.Int.{ints}
use Rattle.pun_base.specs.declared.range.Range.{Range}
use Rattle.address_space.specs.declared.extent.Extent.{Extent}
use Rattle.pun_base.specs.Least.{Least}
use Rattle.address_space.specs.Fit.{Steps, Fits, FitsStep, FitsNear, FitsPages}
use Rattle.address_space.specs.declared.free_range.FreeRange.{FreeRange}
use Rattle.address_space.specs.declared.window.Window.{Window}
use Rattle.address_space.specs.Windows.{IsNearFrom, IsStart, IsTop}
use Rattle.address_space.specs.Ranges.{Ascending, gaps, FitsAmong}
use Rattle.address_space.proofs.Gaps.{free_is}
use Rattle.address_space.proofs.RangePlaces.{place_of, lies_from}
use Rattle.address_space.proofs.SignedWindows.{FitsFrom, up, down, near_up, near_down}

-- The least number that is good in one sense is the least in each equal sense.
pub least_turned : (Good Other : ℕ → Type 0) → ((s : ℕ) → Good s → Other s) → ((s : ℕ) → Other s → Good s) → (answer : Option ℕ) → Least Good answer → Least Other answer
least_turned Good Other there back None none = λ s o. none s (back s o)
least_turned Good Other there back (Some t) found = record { good = there t found.good; least = λ s o. found.least s (back s o) }

-- What fits in a free range fits where nothing is taken.
pub least_free : (w : Window) (rs : List FreeRange) (answer : Option ℕ) → 0 < w.size → Ascending 0x20000 rs → Least (FitsAmong w rs) answer
    → Least (FitsFrom (gaps 0x20000 rs) w.from w.top w.step w.width w.size w.avoid) answer
least_free w rs answer some up =
    let blank : FreeRange = record { lo = 0; hi = 0 } in
    least_turned (FitsAmong w rs) (FitsFrom (gaps 0x20000 rs) w.from w.top w.step w.width w.size w.avoid)
    (λ s f. let here = f.fits blank in
    let lies = lies_from rs f.place s w.size blank f.below here.inside in
    record { steps = here.steps; before = here.before; free = (free_is rs s w.size some up).1 lies; away = here.away })
    (λ s f. let at = place_of rs s w.size ((free_is rs s w.size some up).0 f.free) in
    record { place = at.place; below = at.below; fits = λ d. record { steps = f.steps; before = f.before; inside = at.lies d; away = f.away } })
    answer

-- Each address from lo on is a step of 1.
pub single_steps : (lo : ℤ) (t : ℕ) → lo ≤ℤ pos t → Steps lo 1 t
single_steps (pos a) t h = (t - a, omega (arith, ints))
single_steps (negsuc a) t h = (t + suc a, omega (arith, ints))

-- The least fit by steps of 1 is the least fit.
pub least_of_one : (taken : List Extent) (lo hi : ℤ) (n : ℕ) (avoid : Option Range) (answer : Option ℕ) → Least (FitsStep taken lo hi 1 n avoid) answer → Least (Fits taken lo hi n avoid) answer
least_of_one taken lo hi n avoid =
    least_turned (FitsStep taken lo hi 1 n avoid) (Fits taken lo hi n avoid) (λ s f. f.fits) (λ s f. record { fits = f; steps = single_steps lo s f.from })

-- The least fit from the start of the steps on is the least fit of the signed window.
pub least_of_steps : (taken : List Extent) (lo hi : ℤ) (step n : ℕ) (avoid : Option Range) (from top : ℕ) (answer : Option ℕ)
    → IsStart lo step from → top ≤ 2 ^ 32 → IsTop hi top
    → Least (FitsFrom taken from top step 1 n avoid) answer → Least (FitsStep taken lo hi step n avoid) answer
least_of_steps taken lo hi step n avoid from top answer start bound end =
    least_turned (FitsFrom taken from top step 1 n avoid) (FitsStep taken lo hi step n avoid)
    (λ t f. down taken lo hi step n avoid from top t start (λ h. (end t (omega arith)).0 h) f)
    (λ t f. up taken lo hi step n avoid from top t start (λ h l. (end t l).1 h) f)
    answer

-- The same where more than one address near each step serves.
pub least_of_near : (taken : List Extent) (lo hi : ℤ) (step width n : ℕ) (from top : ℕ) (answer : Option ℕ) → width ≤ 0x20000
    → IsStart lo step from → top ≤ 2 ^ 32 → IsTop hi top
    → Least (FitsFrom taken from top step width n None) answer → Least (FitsNear taken lo hi step width n) answer
least_of_near taken lo hi step width n from top answer few start bound end =
    least_turned (FitsFrom taken from top step width n None) (FitsNear taken lo hi step width n)
    (λ t f. near_down taken lo hi step width n from top t start (λ h. (end t (omega arith)).0 h) f)
    (λ t f. near_up taken lo hi step width n from top t few start (λ h l. (end t l).1 h) f)
    answer

-- A page's address from the least one on.
paged : (k s : ℕ) → s ≡ k * 4096 → 0x20000 ≤ s → IsNearFrom 0x20000 4096 1 s
paged k s e h = record { steps = k - 32; more = 0; few = omega arith; is = omega (arith, e, h) }

-- The least fit by steps of a page is the least page from which the pages are free.
pub least_of_pages : (taken : List Extent) (pages : ℕ) (answer : Option ℕ) → 1 ≤ pages → Least (FitsFrom taken 0x20000 0x7FFF0000 4096 1 (pages * 4096) None) answer → Least (FitsPages taken pages) answer
least_of_pages taken pages answer some =
    least_turned (FitsFrom taken 0x20000 0x7FFF0000 4096 1 (pages * 4096) None) (FitsPages taken pages)
    (λ s f. record { page = (f.steps.steps + 32, omega (arith, f.steps.is, f.steps.few)); free = f.free })
    (λ s f. record { steps = paged f.page.0 s f.page.1 f.free.above; before = omega (arith, f.free.below); free = f.free; away = tt })
    answer
