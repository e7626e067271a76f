use Rattle.std.proofs.Common.{◌≡◌, Option, Some, None, is_some, refl, sym, ap, ◌∙◌}
use Rattle.std.specs.Prelude.{IsSome}
use Rattle.elf_read.specs.declared.segment.Segment.{Segment}
use Rattle.start_list.proofs.DisplacedWork.{displaced_has_work}
use Rattle.scheme_search.proofs.ListedEntries.{found_there}
use Rattle.scheme_search.proofs.SiteSegments.{site_listed, site_low, site_found}
use Rattle.scheme_search.proofs.site_turn.SiteTurn.new.Goals as goal

there : (o : Option Segment) → (o ≡ None → ⊥) → IsSome o
there None f = absurd (f refl)
there (Some s) f = refl

pub unwrap-segment-requires : goal.unwrap-segment-requires
unwrap-segment-requires c = there c.code_segment.result (λ e. site_found c.args.turn.now c.args.site.now c.code_segment.ensures.accepted c.requires
    (sym c.code_segment.ensures.value ∙ e))

pub work_size-requires-clause-spelled : goal.work_size-requires-clause-spelled
work_size-requires-clause-spelled c = (site_listed c.args.turn.now c.args.site.now c.code_segment.ensures.accepted c.requires).spelled

pub work_size-requires-clause-some : goal.work_size-requires-clause-some
work_size-requires-clause-some c = (site_listed c.args.turn.now c.args.site.now c.code_segment.ensures.accepted c.requires).executed.some

pub unwrap-work-requires : goal.unwrap-work-requires
unwrap-work-requires c = ap is_some c.work_size.ensures.value ∙ displaced_has_work c.args.turn.now.threads c.args.site.now c.requires.movable

pub invariant_of-result : goal.invariant_of-result
invariant_of-result c =
    let accepted = c.code_segment.ensures.accepted in
    let sized = rw c.unwrap-work.ensures at c.work_size.ensures.some in
    record {
      stands = record {
        built = c.requires.built;
        listed = found_there c.args.turn.now.starts.now c.args.site.now c.requires.built.ascending c.requires.listed;
        may = c.requires.may;
        some = (site_listed c.args.turn.now c.args.site.now accepted c.requires).executed.some;
        low = site_low c.args.turn.now c.args.site.now accepted c.requires;
        free = c.requires.free;
        event = c.requires.event;
        accepted = accepted;
        segment = sym c.code_segment.ensures.value ∙ c.unwrap-segment.ensures;
        work = sym c.work_size.ensures.value ∙ c.unwrap-work.ensures;
        least = sized.0;
        most = sized.1;
      };
    }
