use Rattle.std.proofs.Common.{map, ap, take, sym, ◌∙◌}
use Rattle.image_step.specs.Values.{entry_value}
use Rattle.image_step.proofs.Entries.{value_of_parts}
use Rattle.image_step.proofs.reading.script_of.Goals as goal

pub returns : goal.returns
returns c =
    let p = c.args.parts in
    let regs = c.copy_from_slice.ensures.after ∙ ap (take 16) c.deref.ensures.value in
    sym (value_of_parts p.values.items c.copy_from_slice.new.self c.index.result.now c.index-2.result.now c.index-3.result.now c.from_vec.result p.regions.items
    (map entry_value c.from_vec-2.result) (map entry_value p.entries.items) c.requires.values regs c.index.ensures c.index-2.ensures c.index-3.ensures
    c.from_vec.ensures (ap (map entry_value) c.from_vec-2.ensures))
