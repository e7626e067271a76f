use Rattle.std.proofs.Common.{◌≡◌, true, false, sym, ap, ◌∙◌, Some, None}
use Rattle.elf_read.specs.Code.{is_exec_in}
use Rattle.elf_read.specs.Find.{segment_holding}
use Rattle.start_list.proofs.CodeSegments.{segment_by, segment_yes, segment_no}
use Rattle.start_list.proofs.turn.Turn.code_segment.Goals as goal

pub returns-then-is_code_at-clause-value : goal.returns-then-is_code_at-clause-value
returns-then-is_code_at-clause-value c =
    let file = c.args.self.now.elf.now.bytes in
    let a = c.args.addr in
    let s = c.in-Some.segment in
    let held = c.segment_at.ensures.value ∙ ap (λ x. segment_holding file x) c.from.ensures in
    let yes : is_exec_in a s ≡ true = sym c.is_code_at.ensures ∙ c.if-is_code_at.true in
    sym (segment_by file a c.segment_at.result (Some s) c.segment_at.ensures.accepted held c.in-Some.is ∙ segment_yes a s yes)

pub returns-else-is_code_at-clause-value : goal.returns-else-is_code_at-clause-value
returns-else-is_code_at-clause-value c =
    let file = c.args.self.now.elf.now.bytes in
    let a = c.args.addr in
    let s = c.in-Some.segment in
    let held = c.segment_at.ensures.value ∙ ap (λ x. segment_holding file x) c.from.ensures in
    let no : is_exec_in a s ≡ false = sym c.is_code_at.ensures ∙ c.if-is_code_at.false in
    sym (segment_by file a c.segment_at.result (Some s) c.segment_at.ensures.accepted held c.in-Some.is ∙ segment_no a s no)

pub returns-in-None-clause-value : goal.returns-in-None-clause-value
returns-in-None-clause-value c =
    let file = c.args.self.now.elf.now.bytes in
    let held = c.segment_at.ensures.value ∙ ap (λ x. segment_holding file x) c.from.ensures in
    sym (segment_by file c.args.addr c.segment_at.result None c.segment_at.ensures.accepted held c.in-None.is)
