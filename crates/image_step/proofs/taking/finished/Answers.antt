use Rattle.image_step.proofs.Entries.{entry_of_parts}
use Rattle.image_step.proofs.taking.finished.Goals as goal

pub returns : goal.returns
returns c =
    let e = c.args.current in
    entry_of_parts e.question e.given c.copy_from_slice.new.self e.writes.items c.from_vec.result e.named c.copy_from_slice.ensures.after c.from_vec.ensures
