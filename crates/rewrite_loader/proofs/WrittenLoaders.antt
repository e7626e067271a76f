-- What `write_loader` is asked gives what it asks of grouping, laying and emitting, and what it answers.
use Rattle.std.proofs.Common.{◌≡◌, inl, inr, ℕ, List, map, Result, Ok, Err, sym, ap, ◌∙◌, subst}
use Rattle.pun_base.specs.Shown.{DeskState}
use Rattle.pun_base.specs.Desk.{Stays}
use Rattle.pun_base.proofs.CallFrames.{stays_same, stays_filled}
use Rattle.pun_base.specs.declared.desk.PutError.TheVariants as put
use Rattle.pun_base.specs.declared.range.Range.{Range}
use Rattle.page_group.specs.Grouping.{GroupsState, IsGrouping}
use Rattle.elf_emit.specs.Job as written_job
use Rattle.elf_emit.specs.Frames as frames
use Rattle.elf_emit.specs.declared.built.Built.{Built}
use Rattle.elf_emit.specs.declared.emit.EmitError.{EmitError}
use Rattle.elf_emit.specs.declared.emit.EmitError.TheVariants as emit
use Rattle.elf_emit.specs.Emits.{EmitsFrame, range_of}
use Rattle.site_turns.specs.PlannedState.{PlannedState}
use Rattle.site_turns.specs.Planning.{Request}
use Rattle.site_turns.specs.PlanLaws.{AreGroups}
use Rattle.rewrite_core.specs.Patching.{IsPatchable, IsWritable}
use Rattle.rewrite_core.proofs.PlannedCalls.{groupable}
use Rattle.loader_form.specs.LoaderState.{LoaderState}
use Rattle.loader_form.specs.Lay.{taken_after, run_count, IsLoader}
use Rattle.loader_form.specs.Loading.{IsLoading}

-- code that was planned, as it is borrowed, can be grouped
pub may_group_built : (file : List ℕ) (p : PlannedState) (built : List Built) → built ≡ p.built → IsWritable file p → IsPatchable (record p { built = built })
may_group_built file p built e x = subst (λ (z : List Built). IsPatchable (record p { built = z })) (sym e) (groupable file p x)

-- a grouping of the planned code as it is borrowed is one of what was planned
pub same_groups : (p : PlannedState) (groups : GroupsState) (built : List Built) → built ≡ p.built → groups.pieces ≡ map range_of built
    → IsGrouping groups.pieces groups.homes → AreGroups p groups
same_groups p groups built e h g = (h ∙ ap (map range_of) e, g)

-- what can be written and was laid is what `emit_loader` asks
pub loading : (file : List ℕ) (reserves : List Range) (p : PlannedState) (groups : GroupsState) (l : LoaderState) → IsWritable file p → AreGroups p groups
    → IsLoader (taken_after file reserves p) (run_count groups) l → (q : Request) × IsLoading file p groups l q
loading file reserves p groups l x g laid =
    let a = x.asked in
    let c = x.can in (
      record x.request { reserves = reserves },
      record {
        file_is = x.file_is;
        asked = record { bytes = a.bytes; accepted = a.accepted; built = a.built; few = a.few };
        can = record { backed = c.backed; disjoint = c.disjoint; private = c.private; free = c.free; nothing = c.nothing };
        groups_are = g;
        laid = subst (λ (z : List ℕ). IsLoader (taken_after z reserves p) (run_count groups) l) (sym x.file_is) laid;
      },
    )

-- a desk on which a file was written, or not, keeps what a desk keeps
pub emitted_stays : (f : written_job.Frame) (name : List ℕ) (s u : DeskState) (r : Result (Unit {0}) EmitError) → EmitsFrame f name s u r → Stays s u
emitted_stays f name s u (Ok x) h = stays_filled name (frames.layout f) s u (Ok tt) h.1
emitted_stays f name s u (Err (emit.TooManySegments n)) h = stays_same s u h.2
emitted_stays f name s u (Err emit.WriteFault) h = stays_filled name (frames.layout f) s u (Err put.Failed) h.1
emitted_stays f name s u (Err emit.Memory) (inl e) = stays_same s u e
emitted_stays f name s u (Err emit.Memory) (inr h) = stays_filled name (frames.layout f) s u (Err put.Memory) h.1
