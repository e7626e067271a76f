use Rattle.std.proofs.Common.{get_or, refl}
use Rattle.site_turns.proofs.BuiltCodes.{blank, none_pushed, can_next, codes_next, codes_pushed}
use Rattle.site_turns.proofs.building.push_codes.Goals as goal

pub loop-tramp-init : goal.loop-tramp-init
loop-tramp-init g c =
    none_pushed (g.C.Coding.can c.args.coding.now) (g.C.Coding.is_code c.args.coding.now) c.args.number c.args.tramps.now
    c.args.built.now.items c.requires

pub code_of-code-requires : goal.code_of-code-requires
code_of-code-requires g c = can_next _ _ c.args.number c.args.tramps.now c.loop-tramp.tramp-index _ _ c.loop-tramp-test.true c.loop-tramp.invariant

pub loop-tramp-preserved : goal.loop-tramp-preserved
loop-tramp-preserved g c =
    codes_next _ _ c.args.number c.args.tramps.now c.loop-tramp.tramp-index c.args.built.now.items c.loop-tramp.built.items c.push.new.self.items
    (record { place = (get_or c.args.tramps.now c.loop-tramp.tramp-index blank).place; code = c.code_of-code.result }) c.loop-tramp-test.true refl
    c.code_of-code.ensures.code c.code_of-code.ensures.falls c.in_ok-push.ensures.items c.loop-tramp.invariant

pub returns : goal.returns
returns g c =
    codes_pushed _ _ c.args.number c.args.tramps.now c.loop-tramp.tramp-index c.args.built.now.items c.loop-tramp.built.items c.loop-tramp-test.false
    c.loop-tramp.invariant
