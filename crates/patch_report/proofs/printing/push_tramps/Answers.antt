use Rattle.std.proofs.Common.{false}
use Rattle.std.proofs.lemmas.List.{take_more}
use Rattle.std.proofs.Common.{get_or}
use Rattle.pun_base.specs.declared.tramp.Tramp.{Tramp}
use Rattle.patch_report.specs.declared.line.Line.TheVariants as line
use Rattle.patch_report.proofs.PrintedLines.{each_line}
use Rattle.patch_report.proofs.printing.push_tramps.Goals as goal

pub loop-tramp-preserved : goal.loop-tramp-preserved
loop-tramp-preserved c =
    let d : Tramp = record { place = 0; start = 0; event = false } in
    let x : Tramp = get_or c.args.tramps.now c.loop-tramp.tramp-index d in
    each_line (λ (y : Tramp). line.Tramp y) c.args.tramps.now c.loop-tramp.tramp-index x c.args.out.now.items c.loop-tramp.out.items
    c.push_tramp.new.out.items c.push.new.self.items
    (take_more c.args.tramps.now c.loop-tramp.tramp-index d c.loop-tramp-test.true) c.loop-tramp.invariant c.in_ok-push_tramp.ensures
    c.in_ok-push.ensures.items
