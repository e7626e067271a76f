use Rattle.std.proofs.Common.{◌+◌, false, drop, get_or, refl, ap}
use Rattle.std.specs.Option.{is_some}
use Rattle.std.proofs.lemmas.List.{drop_more, drop_all}
use Rattle.pun_base.specs.declared.tramp.Tramp.{Tramp}
use Rattle.site_turns.proofs.AddedCode.{adding_next, all_added, room_first}
use Rattle.site_turns.proofs.progress.take_trampolines.Goals as goal

pub size_of-requires-clause-movable : goal.size_of-requires-clause-movable
size_of-requires-clause-movable c =
    let ts = c.args.tramps.now in
    let i = c.loop-tramp.tramp-index in
    let blank : Tramp = record { place = 0; start = 0; event = false } in
    let r = room_first c.args.setting.now ts c.args.space.now.taken (drop i ts) (drop (i + 1) ts) c.loop-tramp.space (get_or ts i blank)
    (drop_more ts i blank c.loop-tramp-test.true) c.loop-tramp.invariant in
    ap is_some r.1

pub loop-tramp-preserved : goal.loop-tramp-preserved
loop-tramp-preserved c =
    let ts = c.args.tramps.now in
    let i = c.loop-tramp.tramp-index in
    let blank : Tramp = record { place = 0; start = 0; event = false } in
    let t : Tramp = get_or ts i blank in
    adding_next c.args.setting.now ts c.args.space.now.taken (drop i ts) (drop (i + 1) ts) c.loop-tramp.space c.take.new.self t
    (record { lo = t.place; hi = t.place + c.size_of.result }) c.size_of.result (drop_more ts i blank c.loop-tramp-test.true)
    c.size_of.ensures refl refl c.take.ensures.free c.take.ensures.spare c.loop-tramp.invariant

pub returns : goal.returns
returns c =
    let ts = c.args.tramps.now in
    let i = c.loop-tramp.tramp-index in
    all_added c.args.setting.now ts (drop i ts) c.args.space.now c.loop-tramp.space (drop_all i ts c.loop-tramp-test.false)
    c.loop-tramp.invariant
