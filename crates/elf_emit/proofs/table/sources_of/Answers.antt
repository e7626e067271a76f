use Rattle.std.proofs.Common.{ℕ, List, filter, sym, ap, ◌∙◌}
use Rattle.elf_read.specs.Entries.{segments, loads}
use Rattle.elf_emit.specs.Frames.{is_other}
use Rattle.elf_emit.proofs.table.sources_of.Goals as goal

pub returns : goal.returns
returns c = λ f o p. record {
  others = c.in_ok-others.ensures ∙ ap (filter is_other) (c.segments.ensures.value ∙ c.segments.ensures.read ∙ ap segments (sym o));
  loads = c.loads.ensures.value ∙ ap (λ (z : List ℕ). loads (segments z)) (sym o);
  parts = sym p;
}
