use Rattle.std.proofs.Common.{◌≡◌, ◌+◌, List, ◌++◌, ◌∷◌, [], take, map, refl, sym, ap, ◌∙◌}
use Rattle.std.proofs.lemmas.List.{take_more}
use Rattle.pun_base.specs.declared.plan.Write.{Write}
use Rattle.patch_report.specs.declared.line.Line.{Line}
use Rattle.patch_report.specs.declared.line.Line.TheVariants as line
use Rattle.patch_report.specs.Values.{write_value}
use Rattle.patch_report.specs.Spelling.{line_text, lines_text, write_line}
use Rattle.patch_report.proofs.PrintedLines.{each_line}
use Rattle.patch_report.proofs.printing.push_writes.Goals as goal

line_of_write : Write → Line
line_of_write w = write_line (write_value w)

fused : (ws : List Write) → map write_line (map write_value ws) ≡ map line_of_write ws
unfolding line_of_write
fused [] = refl
fused (w ∷ ws) = ap (λ (l : List Line). write_line (write_value w) ∷ l) (fused ws)

pub loop-write-preserved : goal.loop-write-preserved
unfolding line_of_write
loop-write-preserved c =
    let i = c.loop-write.write-index in
    let ws : List Write = c.args.writes.now in
    let x : Write = c.write-item.result in
    let t : take (i + 1) ws ≡ take i ws ++ x ∷ [] =
    take_more ws i x c.loop-write-test.true ∙ ap (λ (y : Write). take i ws ++ y ∷ []) (sym c.write-item.is) in
    let mid : c.push_write.new.out.items ≡ c.loop-write.out.items ++ line_text (line_of_write x) =
    c.in_ok-push_write.ensures ∙ (λ j. c.loop-write.out.items
    ++ line_text (line.Write x.addr (c.as_slice-was.ensures.value j) (c.as_slice.ensures.value j))) in
    each_line line_of_write ws i x c.args.out.now.items c.loop-write.out.items c.push_write.new.out.items c.push.new.self.items t
    (c.loop-write.invariant ∙ ap (λ (l : List Line). c.args.out.now.items ++ lines_text l) (fused (take i ws))) mid
    c.in_ok-push.ensures.items
    ∙ ap (λ (l : List Line). c.args.out.now.items ++ lines_text l) (sym (fused (take (i + 1) ws)))
