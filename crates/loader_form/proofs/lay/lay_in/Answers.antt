use Rattle.std.proofs.Common.{◌+◌, ◌-◌, ◌*◌, ℕ, List, Option, sym, ap, subst, arith}
use Rattle.address_space.specs.declared.extent.Extent.{Extent}
use Rattle.address_space.specs.Free.{IsFree}
use Rattle.pun_base.specs.Least.{Least}
use Rattle.address_space.specs.Fit.{FitsPages}
use Rattle.loader_form.specs.LoaderState.{LoaderState}
use Rattle.loader_form.proofs.StubPlaces.{Takes, stub_fits, laid_there, no_save}
use Rattle.loader_form.proofs.lay.lay_in.Goals as goal

pub take-requires : goal.take-requires
take-requires c =
    let taken = c.args.space.now.taken in
    let n = c.stub_pages-pages.result in
    let lo = c.in-Some.lo in
    let least = subst (λ (o : Option ℕ). Least (FitsPages taken n) o) c.in-Some.is c.least_pages.ensures in
    let fits = stub_fits taken n lo least in
    let kept = rw c.in-Ok.is at c.reserve.ensures.taken in
    record {
      free = subst (λ (es : List Extent). IsFree es lo (lo + n * 4096 - lo)) (sym kept) fits.free;
      spare = rw c.in-Ok.is at c.reserve.ensures.spare;
    }

pub returns-in_default-least_pages : goal.returns-in_default-least_pages
returns-in_default-least_pages c =
    let taken = c.args.space.now.taken in
    let new = c.take.new.self.taken in
    let n = c.stub_pages-pages.result in
    let lo = c.in-Some.lo in
    let least = subst (λ (o : Option ℕ). Least (FitsPages taken n) o) c.in-Some.is c.least_pages.ensures in
    let kept = rw c.in-Ok.is at c.reserve.ensures.taken in
    let takes : Takes taken new lo n = subst (λ (es : List Extent). Takes es new lo n) kept c.take.ensures.free in
    let none = subst (λ (o : Option ℕ). Least (FitsPages new 1) o) c.in_default-least_pages.is c.least_pages-2.ensures in
    no_save taken new c.args.runs n lo (omega arith) c.stub_pages-pages.ensures.value least takes none

pub returns : goal.returns
returns c =
    let taken = c.args.space.now.taken in
    let new = c.take.new.self.taken in
    let n = c.stub_pages-pages.result in
    let lo = c.in-Some.lo in
    let save = c.in-Some-least_pages.lo in
    let least = subst (λ (o : Option ℕ). Least (FitsPages taken n) o) c.in-Some.is c.least_pages.ensures in
    let kept = rw c.in-Ok.is at c.reserve.ensures.taken in
    let takes : Takes taken new lo n = subst (λ (es : List Extent). Takes es new lo n) kept c.take.ensures.free in
    let next = subst (λ (o : Option ℕ). Least (FitsPages new 1) o) c.in-Some-least_pages.is c.least_pages-2.ensures in
    let e = c.new.ensures in
    laid_there taken new c.args.runs n lo save c.new.result (omega arith) c.stub_pages-pages.ensures.value least takes next
    (ap (λ (l : LoaderState). l.stub.lo) e) (ap (λ (l : LoaderState). l.stub.hi) e) (ap (λ (l : LoaderState). l.save.lo) e) (ap (λ (l : LoaderState). l.save.hi) e) (ap (λ (l : LoaderState). l.runs) e)
