use Rattle.start_entries.proofs.BuiltEntries.{listed_spelled}
use Rattle.start_list.proofs.turn.Turn.is_movable.Goals as goal

pub displaced_len-requires : goal.displaced_len-requires
displaced_len-requires c =
    listed_spelled c.args.self.now.elf.now.bytes c.args.self.now.starts.now c.args.entry.now c.requires.built c.requires.listed c.in-Some.insn c.in-Some.is
