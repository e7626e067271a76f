use Rattle.std.proofs.Common.{rules, ◌∙◌}
use Rattle.pun_base.proofs.HeldFiles.{others_after}
use Rattle.pun_base.proofs.TextMaps.{held_by-appended, held_by-updated, held_by-unappended, held_by-missing}
use Rattle.pun_base.proofs.memory_desk.append.Goals as goal

pub returns-in-Some-clause-ok : goal.returns-in-Some-clause-ok
returns-in-Some-clause-ok c =
    held_by-appended c.extend_from_slice.result c.args.name.now c.args.bytes.now c.args.files.now (c.get_mut.follows.lender c.extend_from_slice.new.self) c.in-Some.held.now c.extend_from_slice.new.self
    ((c.get_mut.follows.holds c.extend_from_slice.new.self).3 (search rules)) c.in-Some.ensures.value c.extend_from_slice.ensures.items

pub returns-in-Some-clause-err : goal.returns-in-Some-clause-err
returns-in-Some-clause-err c =
    held_by-unappended c.extend_from_slice.result c.args.name.now c.args.bytes.now c.args.files.now (c.get_mut.follows.lender c.extend_from_slice.new.self) c.in-Some.held.now c.extend_from_slice.new.self
    ((c.get_mut.follows.holds c.extend_from_slice.new.self).3 (search rules)) c.in-Some.ensures.value c.extend_from_slice.ensures.items

pub returns-in-None-clause-ok : goal.returns-in-None-clause-ok
returns-in-None-clause-ok c = λ was held. let e = held_by-missing c.args.name.now c.args.files.now c.in-None.ensures.value ∙ held in cc

pub returns-in-Some-clause-others : goal.returns-in-Some-clause-others
returns-in-Some-clause-others c =
    others_after _ _ c.args.name.now c.extend_from_slice.new.self.items
    (held_by-updated c.args.name.now c.args.files.now (c.get_mut.follows.lender c.extend_from_slice.new.self) c.extend_from_slice.new.self
    ((c.get_mut.follows.holds c.extend_from_slice.new.self).3 (search rules)))
