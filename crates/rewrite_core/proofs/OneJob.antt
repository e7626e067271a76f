-- An input has one job at most.
use Rattle.std.proofs.Common.{◌≡◌, ℕ, ◌+◌, List, [], ◌∷◌, ◌++◌, length, map, flat_map, refl, sym, ap, ap₂, ◌∙◌, subst}
use Rattle.std.proofs.lemmas.List.{map-append}
use Rattle.std.proofs.lemmas.List.Concat.{flat_map-cons}
use Rattle.pun_base.specs.declared.plan.Write.{Write}
use Rattle.pun_base.specs.Outcomes.{outcome_writes}
use Rattle.pun_base.specs.declared.outcome.Outcome.{Outcome}
use Rattle.pun_base.specs.declared.outcome.Outcome.TheVariants.{Patched, NotRelocatable, NoPlan, Shared}
use Rattle.address_space.specs.Free.{extent_of}
use Rattle.page_group.specs.Grouping.{GroupsState, IsGrouping, group_count}
use Rattle.page_group.proofs.Groupings.{grouping_is_one}
use Rattle.elf_emit.specs.declared.built.Built.{Built}
use Rattle.elf_emit.specs.Job.{BytesAt}
use Rattle.elf_emit.specs.Emits.{pages_of, range_of}
use Rattle.elf_emit.specs.Views.{patch_of, patches_of, piece_of}
use Rattle.patch_report.specs.declared.row.ReportRow.{ReportRow}
use Rattle.patch_report.specs.Values.{RowValue, write_value, outcome_value, row_value, written as report_written}
use Rattle.sound_images.specs.Reports.{runs_of}
use Rattle.site_turns.specs.Jobs as jobs
use Rattle.site_turns.specs.PlannedState.{PlannedState}
use Rattle.site_turns.specs.Planning.{Request, Turns, IsPlanned}
use Rattle.site_turns.specs.PlanLaws.{IsAsked, AreGroups, writes_of, job_for, planned_report}
use Rattle.site_turns.proofs.CourseOfTurns.{turns_are_one, codes_are_one}
use Rattle.rewrite_core.specs.Origins.{origin_of}
use Rattle.rewrite_core.specs.Judging.{Job, job_of, IsJobFor}

-- what a row's value tells of the bytes that are written
abbrev patches_in : RowValue → List BytesAt
patches_in r = map jobs.patch_of (runs_of r.outcome)

-- a write by its value
writes_told : (ws : List Write) → map patch_of ws ≡ map jobs.patch_of (map write_value ws)
writes_told [] = refl
writes_told (w ∷ ws) = ap (λ (z : List BytesAt). patch_of w ∷ z) (writes_told ws)

-- an outcome's writes
outcome_told : (o : Outcome) → map patch_of (outcome_writes o) ≡ map jobs.patch_of (runs_of (outcome_value o))
outcome_told (Patched plan) = writes_told plan.writes
outcome_told NotRelocatable = refl
outcome_told NoPlan = refl
outcome_told Shared = refl

-- the writes of all rows are those that their values tell
rows_told : (rows : List ReportRow) → patches_of (writes_of rows) ≡ flat_map patches_in (map row_value rows)
rows_told [] = refl
rows_told (r ∷ rs) =
    ap (map patch_of) (flat_map-cons (λ (z : ReportRow). outcome_writes z.outcome) r rs)
    ∙ map-append patch_of (outcome_writes r.outcome) (writes_of rs)
    ∙ ap₂ (λ (x y : List BytesAt). x ++ y) (outcome_told r.outcome) (rows_told rs)
    ∙ sym (flat_map-cons patches_in (row_value r) (map row_value rs))

-- the addresses of a piece of code, by its place and bytes
ends_in : BytesAt → ℕ × ℕ
ends_in w = (w.addr, w.addr + length w.now)

-- the addresses of all pieces of code are those of their places and bytes
ranges_told : (bs : List Built) → map range_of bs ≡ map ends_in (map piece_of bs)
unfolding ends_in
ranges_told [] = refl
ranges_told (b ∷ bs) = ap (λ (z : List (ℕ × ℕ)). range_of b ∷ z) (ranges_told bs)

-- where two plans tell the same rows, private range and codes, one job of writing is made of them, by the same groups
pub written_once : (q : Request) (p r : PlannedState) (g h : GroupsState) → map row_value p.rows ≡ map row_value r.rows
    → extent_of p.private ≡ extent_of r.private → map piece_of p.built ≡ map piece_of r.built → AreGroups p g → AreGroups r h
    → (job_for q p g ≡ job_for q r h) × (g ≡ h)
written_once q p r g h told private codes a b =
    let rows : patches_of (writes_of p.rows) ≡ patches_of (writes_of r.rows) =
    rows_told p.rows ∙ ap (flat_map patches_in) told ∙ sym (rows_told r.rows) in
    let pieces : g.pieces ≡ h.pieces = a.0 ∙ ranges_told p.built ∙ ap (map ends_in) codes ∙ sym (ranges_told r.built) ∙ sym b.0 in
    let homes : g.homes ≡ h.homes =
    grouping_is_one h.pieces g.homes h.homes (subst (λ (v : List (ℕ × ℕ)). IsGrouping v g.homes) pieces a.1) b.1 in (
      λ i. record {
        orig = q.file;
        writes = rows i;
        private_lo = (private i).lo;
        private_hi = (private i).hi;
        pieces = codes i;
        pages = pages_of (homes i);
        groups = group_count (homes i);
      },
      λ i. record { pieces = pieces i; homes = homes i },
    )

-- what was planned twice is one job
planned_once : (q : Request) (t u : Turns) (p r : PlannedState) (g h : GroupsState) → IsAsked q → IsPlanned q t p → IsPlanned q u r
    → AreGroups p g → AreGroups r h → job_of q t p g ≡ job_of q u r h
planned_once q t u p r g h asked x y a b =
    let turns : t ≡ u = turns_are_one q t u asked x.turns y.turns in
    let z : IsPlanned q t r = subst (λ (v : Turns). IsPlanned q v r) (sym turns) y in
    let same = written_once q p r g h (x.rows ∙ sym z.rows) (x.private ∙ sym z.private) (codes_are_one q t p r asked x z) a b in
    λ i. record { emit = same.0 i; report = report_written (planned_report q (turns i) (same.1 i)) (origin_of q.file) }

-- of two jobs for one request the first is the second
pub job_once : (q : Request) (i j : Job) → IsAsked q → IsJobFor q i → IsJobFor q j → i ≡ j
job_once q i j asked x y =
    x.is
    ∙ planned_once q x.turns y.turns x.planned y.planned x.groups y.groups asked x.is_planned y.is_planned x.are_groups y.are_groups
    ∙ sym y.is
