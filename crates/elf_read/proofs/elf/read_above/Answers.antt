use Rattle.std.proofs.Common.{◌≡◌, ◌∙◌, ap, sym, List, length}
use Rattle.elf_read.specs.declared.segment.Segment.{Segment}
use Rattle.elf_read.specs.Entries.{table_place, table_count, segments_from, segments, loads}
use Rattle.elf_read.specs.Refusals.{header_refusal, entry_refusal}
use Rattle.elf_read.proofs.AcceptedFiles.{or_none}
use Rattle.elf_read.proofs.HoldingSegments.{is_file}
use Rattle.elf_read.proofs.elf.read_above.Goals as goal

pub invariant_of-result : goal.invariant_of-result
unfolding table_place table_count
invariant_of-result c =
    let bytes = c.args.bytes.now in
    let entries : c.in-Ok.segments.items ≡ segments bytes = c.in-Ok.ensures.value ∙ (λ i. segments_from bytes (c.get_u64-place.ensures.value i) (c.get_u16-count.ensures.value i)) in
    let judged = c.deref.ensures.value ∙ entries in
    is_file c.args.low bytes c.in-Ok.segments.items c.in-Ok-loads_of.loads.items c.requires entries
    (c.in-Ok-loads_of.ensures ∙ ap loads c.deref-2.ensures.value)
    (or_none (header_refusal bytes) (entry_refusal c.args.low (length bytes) (segments bytes)) (sym c.header_refusal.ensures.value ∙ c.in_default.is)
    (sym (c.entry_refusal.ensures ∙ ap (λ (ss : List Segment). entry_refusal c.args.low (length bytes) ss) judged) ∙ c.in_default-entry_refusal.is))
