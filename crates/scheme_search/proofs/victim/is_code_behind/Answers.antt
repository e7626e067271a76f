use Rattle.std.proofs.Common.{◌≡◌, ℕ, ◌+◌, ◌<◌, true, Option, sym, ap, ◌∙◌, subst}
use Rattle.elf_read.specs.declared.segment.Segment.{Segment}
use Rattle.elf_read.specs.Code.{is_exec_in}
use Rattle.start_list.specs.TurnViews.{is_code_of, share_segment}
use Rattle.start_list.specs.Turning.{view_of}
use Rattle.scheme_search.proofs.victim.is_code_behind.Goals as goal

pub returns : goal.returns
returns c =
    let here = c.args.here.now in
    let e = c.args.entry.now in
    let shares : (x : ℕ) → share_segment (view_of here.turn).segments here.site.addr x ≡ is_exec_in x here.segment =
    λ x. ap (λ (o : Option Segment). is_code_of o x) here.stands.segment in
    let end = c.entry_end.ensures.value in
    let At : ℕ → Type 0 = λ x. (k : ℕ) → k < c.args.count → is_exec_in (x + k) here.segment ≡ true in (
      λ t k l. shares (e.addr + e.len + k) ∙ subst At end (c.are_code.ensures.0 t) k l,
      λ code. c.are_code.ensures.1 (subst At (sym end) (λ k l. sym (shares (e.addr + e.len + k)) ∙ code k l)),
    )
