-- An input is judged in one way at most, for threads.
use Rattle.std.proofs.Common.{◌≡◌, ℕ, List, ◌+◌, length, sym, ap, ◌∙◌, subst}
use Rattle.std.specs.List.{flat_map}
use Rattle.length_decode.specs.Spelling.{spelling}
use Rattle.elf_read.specs.Image.{image_of}
use Rattle.page_group.specs.Grouping.{GroupsState}
use Rattle.address_space.specs.declared.extent.Extent.{Extent}
use Rattle.address_space.specs.Free.{extent_of}
use Rattle.patch_report.specs.Values.{RowValue, written as report_written}
use Rattle.sound_images.specs.Reports.{Line, row_lines}
use Rattle.site_turns.specs.Modes.{thread_rules}
use Rattle.site_turns.specs.PlannedState.{PlannedState}
use Rattle.site_turns.specs.Planning.{Request, Turns, AreTurnsUnder, AreCodesBy, end_under}
use Rattle.site_turns.specs.PlanLaws.{IsAsked, AreGroups, report_under}
use Rattle.site_turns.proofs.PlannedCodes.{codes_one}
use Rattle.site_turns.proofs.CourseOfTurns.{turns_same}
use Rattle.site_turns.proofs.CodeSizes.{one_standing}
use Rattle.rewrite_core.specs.Origins.{origin_of}
use Rattle.rewrite_core.specs.Laws.{AreJudgedOnce}
use Rattle.rewrite_core.proofs.OneVerdict.{verdict_once}
use Rattle.rewrite_core.proofs.OneJob.{written_once}
use Rattle.guest_threads.specs.FromTurns.{code_of_line}
use Rattle.guest_threads.specs.ThreadPlanning.{HasThreadCode, IsThreadPlanned}
use Rattle.guest_threads.specs.ThreadRewriting.{ThreadJob, job_of, IsThreadJobFor, writing_of, Judges}

-- a trampoline has one code
one_code : (q : Request) (p : ℕ) (l : Line) (x y : List ℕ) → HasThreadCode q.action (image_of q.file) p l x → HasThreadCode q.action (image_of q.file) p l y → x ≡ y
one_code q p l x y h k =
    let same : h.fields ≡ k.fields = one_standing (image_of q.file) l.tramp.start h.fields k.fields h.spelled k.spelled h.stands k.stands in
    h.is ∙ ap (λ f. code_of_line q.action p l f (l.tramp.start + length (spelling f))) same ∙ sym k.is

-- what was planned twice is one job
planned_once : (q : Request) (t u : Turns) (p r : PlannedState) (g h : GroupsState) → IsAsked q → IsThreadPlanned q t p → IsThreadPlanned q u r
    → AreGroups p g → AreGroups r h → job_of q t p g ≡ job_of q u r h
planned_once q t u p r g h asked x y a b =
    let turns : t ≡ u = turns_same (thread_rules q.action) q t u asked x.turned.turns y.turned.turns in
    let z : IsThreadPlanned q t r = subst (λ (v : Turns). IsThreadPlanned q v r) (sym turns) y in
    let private : extent_of p.private ≡ extent_of r.private = x.turned.private ∙ sym z.turned.private in
    let built : AreCodesBy (HasThreadCode q.action (image_of q.file) p.private.lo) (flat_map row_lines (end_under (thread_rules q.action) q t).rows) p.built =
    subst (λ (rows : List RowValue). AreCodesBy (HasThreadCode q.action (image_of q.file) p.private.lo) (flat_map row_lines rows) p.built) x.turned.rows x.built in
    let other : AreCodesBy (HasThreadCode q.action (image_of q.file) p.private.lo) (flat_map row_lines (end_under (thread_rules q.action) q t).rows) r.built =
    subst (λ (lo : ℕ). AreCodesBy (HasThreadCode q.action (image_of q.file) lo) (flat_map row_lines (end_under (thread_rules q.action) q t).rows) r.built)
    (sym (ap (λ (e : Extent). e.lo) private))
    (subst (λ (rows : List RowValue). AreCodesBy (HasThreadCode q.action (image_of q.file) r.private.lo) (flat_map row_lines rows) r.built) z.turned.rows z.built) in
    let codes = codes_one (HasThreadCode q.action (image_of q.file) p.private.lo) (one_code q p.private.lo) (flat_map row_lines (end_under (thread_rules q.action) q t).rows) p.built r.built built other in
    let same = written_once q p r g h (x.turned.rows ∙ sym z.turned.rows) private codes a b in
    λ i. record {
      emit = same.0 i;
      private = (turns i).private;
      rows = (end_under (thread_rules q.action) q (turns i)).rows;
      report = report_written (report_under (thread_rules q.action) q (turns i) (same.1 i)) (origin_of q.file);
    }

-- a request has one job at most
pub job_once : (q : Request) (i j : ThreadJob) → IsAsked q → IsThreadJobFor q i → IsThreadJobFor q j → i ≡ j
job_once q i j asked x y =
    x.is
    ∙ planned_once q x.turns y.turns x.planned y.planned x.groups y.groups asked x.is_planned y.is_planned x.are_groups y.are_groups
    ∙ sym y.is

-- a job has turns
pub job_turned : (q : Request) (j : ThreadJob) → IsThreadJobFor q j → (t : Turns) × AreTurnsUnder (thread_rules q.action) q t
job_turned q j h = (h.turns, h.is_planned.turned.turns)

-- of two verdicts the first is the second
pub judged_once : AreJudgedOnce Judges
judged_once = verdict_once IsThreadJobFor writing_of (λ q. thread_rules q.action) job_turned job_once
