use Rattle.patch_report.proofs.ReportBounds.{bounded}
use Rattle.image_check.proofs.NearStarts.{built_short}
use Rattle.sound_images.proofs.ReadInstructions.{entries_built}
use Rattle.image_check.proofs.SpelledEntries.{built_spelled}
use Rattle.image_check.proofs.checked.Checked.new.Goals as goal

pub invariant_of-result : goal.invariant_of-result
invariant_of-result c = record {
  few = rw c.in_ok-flat.ensures (bounded c.args.report.now.body c.keeps.ensures.told).sites;
  spelled = built_spelled c.args.orig.now.bytes c.args.starts.now c.requires.built;
  short = built_short c.args.orig.now.bytes c.args.starts.now c.file-accepted.ensures.accepted c.requires.built;
  entries = entries_built c.args.orig.now.bytes c.args.starts.now c.file-accepted.ensures.accepted c.requires.built;
  turns = c.in_ok-codes_of.field-0.items;
  placed = c.in_ok-codes_of.ensures c.args.patched.now.bytes;
  moved = c.in_ok-codes.ensures.moved;
  rise = c.in_ok-codes.ensures.rises;
}
