use Rattle.std.proofs.Common.{◌++◌, ◌∙◌, List, [], ◌∷◌, map, ap, subst}
use Rattle.std.specs.Prelude.{IfOk}
use Rattle.pun_base.specs.declared.range.Range.{Range}
use Rattle.address_space.specs.Free.{extent_of, whole_pages}
use Rattle.elf_emit.specs.declared.built.Built.{Built}
use Rattle.site_turns.specs.Turned.{HasSameFree}
use Rattle.loader_form.specs.Lay.{code_extent}
use Rattle.loader_form.proofs.StubPlaces.{space_fits}
use Rattle.loader_form.proofs.lay.space_after.Goals as goal

pub returns : goal.returns
returns c =
    let firsts : List Range = c.in_ok-taken.taken.items in
    let some : List Range = c.push.new.self.items in
    space_fits c.args.elf.now.bytes c.args.reserves.now firsts some c.push_codes.new.taken.items c.args.planned.now c.new.result
    c.in_ok-taken.ensures.taken (c.in_ok-push.ensures.items ∙ ap (λ (r : Range). firsts ++ r ∷ []) c.private.ensures)
    (c.in_ok-push_codes.ensures ∙ ap (λ (bs : List Built). map extent_of some ++ map code_extent bs) c.built.ensures)
    (subst (λ (rs : List Range). IfOk c.new.result (λ space. HasSameFree space.taken (map whole_pages rs))) c.deref.ensures.value c.new.ensures)
