use Rattle.std.proofs.Common.{sym}
use Rattle.std.specs.Prelude.{◌==◌}
use Rattle.start_entries.specs.Listed.{IsSpelledEntry}
use Rattle.image_check.proofs.SpelledEntries.{found_keeps}
use Rattle.image_check.proofs.entry_rule.displaced_at.Goals as goal

pub displaced_len-requires : goal.displaced_len-requires
displaced_len-requires c = found_keeps IsSpelledEntry (λ e. e.addr == c.args.addr) c.args.starts.now c.in_ok-entry.entry.now c.requires (sym c.in_ok-entry.ensures.value) c.in_ok-insn.insn c.in_ok-insn.was
