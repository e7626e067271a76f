use Rattle.std.proofs.Common.{List, map, ap, ◌∙◌, subst}
use Rattle.std.specs.Prelude.{IfOk}
use Rattle.address_space.specs.declared.extent.Extent.{Extent}
use Rattle.address_space.specs.Free.{whole_pages}
use Rattle.site_turns.specs.Turned.{HasSameFree}
use Rattle.site_turns.proofs.asking.free_space.Goals as goal

pub returns-clause-free : goal.returns-clause-free
returns-clause-free c =
    subst (λ (xs : List Extent). IfOk c.new.result (λ space. HasSameFree space.taken xs))
    (ap (map whole_pages) c.deref.ensures.value ∙ c.in_ok-taken.ensures.taken) c.new.ensures
