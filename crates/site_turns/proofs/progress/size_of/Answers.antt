use Rattle.std.proofs.Common.{sym, ap, ◌∙◌}
use Rattle.std.specs.Option.{option_copied}
use Rattle.start_entries.proofs.BuiltEntries.{all_listed}
use Rattle.site_turns.proofs.PlansWithOneJump.{entry_listed}
use Rattle.site_turns.proofs.progress.size_of.Goals as goal

pub work_size-requires-clause-spelled : goal.work_size-requires-clause-spelled
work_size-requires-clause-spelled c =
    let s = c.args.setting.now in
    let e = c.unwrap-entry.result.now in
    (all_listed s.elf.now.bytes s.starts.now e c.requires.set.accepted c.requires.set.own (entry_listed s.starts.now c.args.tramp.now.start e
    (sym c.at.ensures.value ∙ ap option_copied c.unwrap-entry.ensures))).spelled

pub work_size-requires-clause-some : goal.work_size-requires-clause-some
work_size-requires-clause-some c =
    let s = c.args.setting.now in
    let e = c.unwrap-entry.result.now in
    (all_listed s.elf.now.bytes s.starts.now e c.requires.set.accepted c.requires.set.own (entry_listed s.starts.now c.args.tramp.now.start e
    (sym c.at.ensures.value ∙ ap option_copied c.unwrap-entry.ensures))).executed.some
