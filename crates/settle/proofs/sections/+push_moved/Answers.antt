use Rattle.std.proofs.Common.{◌≡◌, ◌+◌, ◌-◌, List, ℕ, ◌++◌, take, drop, ap, ◌∙◌, arith}
use Rattle.settle.specs.Sections.{moved_section}
use Rattle.settle.proofs.MovedSections.{one_more}
use Rattle.settle.proofs.sections.+push_moved.Goals as goal

pub returns-in_ok-push_moved : goal.returns-in_ok-push_moved
returns-in_ok-push_moved t c =
    let at = c.args.at in let file = c.args.file.now in let out = c.args.out.now.items in
    let whole : at + 64 - at ≡ 64 = omega arith in
    one_more c.args.len file at c.args.count out c.extend_from_slice.new.self.items c.push_moved.new.out.items c.if-count-gt0.true
    (c.in_ok-extend_from_slice.ensures.items ∙ ap (λ (z : List ℕ). out ++ z) c.moved_section.ensures ∙ ap (λ (q : ℕ). out ++ moved_section c.args.len (take q (drop at file))) whole)
    c.in_ok-push_moved.ensures
