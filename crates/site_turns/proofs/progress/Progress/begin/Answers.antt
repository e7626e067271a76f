use Rattle.std.proofs.Common.{List, ◌∷◌, subst}
use Rattle.std.proofs.Math.Path.{fun_ext}
use Rattle.address_space.specs.declared.extent.Extent.{Extent}
use Rattle.address_space.specs.Free.{extent_of}
use Rattle.site_turns.specs.Turned.{HasSameFree}
use Rattle.site_turns.proofs.FreeRanges.{taken_same}
use Rattle.site_turns.proofs.progress.Progress.begin.Goals as goal

pub returns : goal.returns
returns c = record {
  lock = fun_ext c.new.ensures;
  free = subst (λ (es : List Extent). HasSameFree (extent_of c.args.private ∷ es) c.take.new.self.taken) c.in_ok-reserve.ensures.taken
      (taken_same (extent_of c.args.private) c.reserve.new.self.taken c.take.new.self.taken c.take.ensures.free);
  rows = c.in_ok-rows.ensures.items;
}
