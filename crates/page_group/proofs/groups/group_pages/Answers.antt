use Rattle.std.proofs.Common.{ℕ, List, ap, subst, arith}
use Rattle.page_group.specs.Pages.{ends_of}
use Rattle.page_group.specs.Joining.{AreJoined, bound_of}
use Rattle.page_group.proofs.KeptGroupings.{few_joined}
use Rattle.page_group.proofs.groups.group_pages.Goals as goal

pub count_groups-count-requires : goal.count_groups-count-requires
count_groups-count-requires c =
    let pieces = ends_of c.args.pieces.now in
    let homes = c.in_ok-homes.homes.items in
    let joined = subst (λ (ps : List ℕ). AreJoined pieces ps homes) c.deref.ensures.value c.in_ok-homes.ensures in
    let few = few_joined pieces c.in_ok-pages.pages.items homes c.in_ok-pages.ensures.listed joined in
    let fits = c.in_ok-pages.ensures.fits in
    let same = ap bound_of c.deref-2.ensures.value in
    omega arith
