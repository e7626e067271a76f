use Rattle.std.proofs.Common.{◌<◌, ◌≤◌, arith}
use Rattle.scheme_search.specs.declared.shared.Pick.{Pick}
use Rattle.scheme_search.specs.Shared.{IsPickIn}
use Rattle.scheme_search.proofs.PicksByValue.{passed, pick_here, pick_behind}
use Rattle.scheme_search.proofs.shared.search_near.Goals as goal

pub returns-then-x-to : goal.returns-then-x-to
returns-then-x-to c = λ q good.
    let x = c.next_both-x in
    let low = passed c.args.space.now.taken c.args.first c.args.second c.args.from x.result x.ensures.none q good.pick good.above in
    omega (arith, low, good.below, c.if-x-to.true)

pub returns-in-Some : goal.returns-in-Some
returns-in-Some c =
    let x = c.next_both-x in
    let taken = c.args.space.now.taken in
    let high : x.result < c.args.to = omega (arith, x.ensures.most, c.if-x-to.false) in
    let below : (q : Pick) → IsPickIn taken c.args.first c.args.second c.args.from c.args.to q → x.result ≤ q.x =
    λ q good. passed taken c.args.first c.args.second c.args.from x.result x.ensures.none q good.pick good.above in
    pick_here taken c.args.first c.args.second c.args.from c.args.to x.result x.ensures.least high below c.in-Some.pick c.in-Some.ensures

pub returns-in-None : goal.returns-in-None
returns-in-None c =
    let x = c.next_both-x in
    let taken = c.args.space.now.taken in
    let high : x.result < c.args.to = omega (arith, x.ensures.most, c.if-x-to.false) in
    let below : (q : Pick) → IsPickIn taken c.args.first c.args.second c.args.from c.args.to q → x.result ≤ q.x =
    λ q good. passed taken c.args.first c.args.second c.args.from x.result x.ensures.none q good.pick good.above in
    pick_behind taken c.args.first c.args.second c.args.from c.args.to x.result x.ensures.least high below c.in-None.ensures
    c.search_behind.result c.search_behind.ensures
