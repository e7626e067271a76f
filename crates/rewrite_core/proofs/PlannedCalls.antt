-- What a call of a rewriting knows once the sites are planned, and what its answers then say.
use Rattle.std.proofs.Common.{◌≡◌, inl, inr, ℕ, ◌^◌, ◌≤◌, ◌<◌, List, length, slice_index, None, Result, Ok, Err, refl, sym, ap, ◌∙◌, subst}
use Rattle.std.specs.Result.{IsErrAnd}
use Rattle.std.proofs.Math.Seq.{take-length}
use Rattle.pun_base.specs.Shown.{DeskState, with_file}
use Rattle.pun_base.specs.Desk.{Filled, Fills}
use Rattle.pun_base.specs.declared.desk.PutError.TheVariants as put
use Rattle.pun_base.proofs.ToldChanges.{told_map}
use Rattle.pun_base.specs.declared.action.Action.{Action}
use Rattle.pun_base.specs.Actions.{IsAction}
use Rattle.pun_base.specs.declared.plan.Write.{Write}
use Rattle.pun_base.specs.declared.range.Range.{Range}
use Rattle.pun_base.specs.Limits.{most_sites}
use Rattle.page_group.specs.Grouping.{GroupsState}
use Rattle.elf_read.specs.Refusals.{refusal}
use Rattle.elf_emit.specs.declared.built.Built.{Built}
use Rattle.elf_emit.specs.declared.emit.EmitError.{EmitError}
use Rattle.elf_emit.specs.declared.emit.EmitError.TheVariants as emit
use Rattle.elf_emit.specs.Emits.{emit_job, Emits}
use Rattle.elf_emit.specs.Job as emitted
use Rattle.elf_emit.specs.Layout.{layout}
use Rattle.elf_emit.proofs.JobConditions.{CanEmit}
use Rattle.patch_report.specs.declared.origin.Origin.{Origin}
use Rattle.patch_report.specs.declared.origin.Version.TheVariants.{Two}
use Rattle.patch_report.specs.Values.{BodyValue, ReportValue, body_of, written}
use Rattle.patch_report.specs.Grammar.{IsBody, OriginFits}
use Rattle.start_entries.specs.declared.entry.StartEntry.{StartEntry}
use Rattle.start_entries.specs.Entries.{entries_of}
use Rattle.start_entries.specs.declared.refusal.StartError.{StartError}
use Rattle.start_entries.specs.declared.refusal.StartError.TheVariants as start
use Rattle.start_entries.specs.Refusals.{first_refusal, Refused}
use Rattle.start_entries.specs.Laws.{IsBuilt}
use Rattle.site_turns.specs.declared.error.TurnError.{TurnError}
use Rattle.site_turns.specs.declared.error.TurnError.TheVariants as turn
use Rattle.site_turns.specs.PlannedState.{PlannedState}
use Rattle.site_turns.specs.Planning.{Request, Turns, IsRequestRefused}
use Rattle.site_turns.specs.PlanLaws.{AreGroups, job_for, writes_of}
use Rattle.site_turns.proofs.PlannedJobs.{planned_can_be_written}
use Rattle.site_turns.proofs.CodeEnds.{built_fits, fitting_end_low}
use Rattle.rewrite_core.specs.declared.patching.Patch.{Patch}
use Rattle.rewrite_core.specs.declared.rewrite.RewriteError.{RewriteError}
use Rattle.rewrite_core.specs.declared.rewrite.RewriteError.TheVariants as rewrite
use Rattle.rewrite_core.specs.Asked.{Asked, request_of}
use Rattle.rewrite_core.specs.Causes.{start_error, turn_error, emit_error}
use Rattle.rewrite_core.specs.Followed.{IsFollowed}
use Rattle.rewrite_core.specs.Judging.{HasStarts, IsJobFor, Job, JudgesBy, job_of, writing_of}
use Rattle.rewrite_core.specs.Origins.{origin_of}
use Rattle.rewrite_core.specs.Patching.{IsCall, IsPatchable, IsPatchFor, IsUnwritten, IsWritable, EmitsPlanned, PlansBy}
use Rattle.rewrite_core.specs.Rewrites.{IsRewritten, Rewrites, RewritesBy}
use Rattle.rewrite_core.proofs.WrittenPlans.{emit_asked, report_is, is_report, file_followed}

-- what is asked by the values of a call
abbrev pub asked : List ℕ → List ℕ → List ℕ → Action → List Range → Asked
asked file starts sites action reserves =
    record { file = file; starts = starts; sites = sites; action = action; reserves = reserves }

-- a request of an input with these entries
abbrev pub request_with : Asked → List ℕ → List StartEntry → Request
request_with a file es =
    record { file = file; listed = es; sites = a.sites; action = a.action; reserves = a.reserves }

-- the request with the entries of an input's starts is the request of the input
same_request : (a : Asked) (es : List StartEntry) → es ≡ entries_of a.file a.starts → request_with a a.file es ≡ request_of a
same_request a es e i = request_with a a.file (e i)

-- what is planned of an accepted file with its entries is planned of the input
pub planned_for : (Plan : Request → Turns → PlannedState → Type 0) (a : Asked) (es : List StartEntry) (p : PlannedState) → IsAction a.action
    → length a.sites ≤ most_sites → ((k : ℕ) → slice_index a.file k < 256) → length a.file < 2 ^ 63 → refusal 0x20000 a.file ≡ None
    → es ≡ entries_of a.file a.starts → first_refusal a.file a.starts ≡ None → IsBuilt a.file es
    → (x : (t : Turns) × Plan (request_with a a.file es) t p) → PlansBy Plan a (Ok p)
planned_for Plan a es p action few h l r e n i x =
    let same = same_request a es e in (
      x.0,
      record {
        starts = record { accepted = r; none = n };
        size = l;
        asked = record {
          bytes = h;
          accepted = r;
          built = subst (λ (z : Request). IsBuilt z.file z.listed) same i;
          few = few;
        };
        action = action;
        planned = subst (λ (z : Request). Plan z x.0 p) same x.1;
      },
    )

-- where a start of an accepted file is refused, that is why nothing is planned
pub not_started : (Plan : Request → Turns → PlannedState → Type 0) (a : Asked) (error : StartError) → refusal 0x20000 a.file ≡ None
    → Refused a.file a.starts error → PlansBy Plan a (Err (start_error error))
not_started Plan a start.Memory r h = tt
not_started Plan a (start.NotExecutable addr) r h = (r, h)

-- where a site is refused, or there is no private range, that is why nothing is planned
pub not_planned : (Plan : Request → Turns → PlannedState → Type 0) (a : Asked) (es : List StartEntry) (error : TurnError)
    → refusal 0x20000 a.file ≡ None → es ≡ entries_of a.file a.starts → first_refusal a.file a.starts ≡ None
    → IsRequestRefused (request_with a a.file es) error → PlansBy Plan a (Err (turn_error error))
not_planned Plan a es turn.Memory r e n h = tt
not_planned Plan a es (turn.NotListed site) r e n h =
    (record { accepted = r; none = n }, subst (λ (z : Request). IsRequestRefused z (turn.NotListed site)) (same_request a es e) h)
not_planned Plan a es (turn.NoPrivate pages) r e n h =
    (record { accepted = r; none = n }, subst (λ (z : Request). IsRequestRefused z (turn.NoPrivate pages)) (same_request a es e) h)

-- what is so of an input with the file that was read is so of the input
pub of_input : (P : Asked → Type 0) (a : Asked) (bytes : List ℕ) → bytes ≡ a.file → P (record a { file = bytes }) → P a
of_input P a bytes e x = subst P (λ i. record a { file = e i }) x

-- what holds of an error holds of a result that is this error
pub by_error : {X E : Type 0} → (P : Result X E → Type 0) (r : Result X E) (x : E) → IsErrAnd r (λ e. e ≡ x) → P (Err x) → P r
by_error P (Ok v) x h p = absurd h
by_error {E = E} P (Err e) x h p = subst (λ (z : E). P (Err z)) (sym h) p

-- ---- writing a plan's file

-- the code of what can be written can be grouped
pub groupable : (file : List ℕ) (p : PlannedState) → IsWritable file p → IsPatchable p
groupable file p x = record { placed = x.placed; disjoint = x.can.disjoint }

-- What is handed to `emit` beside the file and the groups.
record Handed : Type 0 where
  writes : List Write
  built : List Built
  private : Range

module _ (file : List ℕ) (p : PlannedState) (patch : Patch) (of : IsPatchFor p patch) (ws : List Write) (bs : List Built)
    (w : ws ≡ patch.writes.items) (b : bs ≡ patch.built.items) where
  -- what is handed on is what was planned
  handed : ◌≡◌ {A = Handed} (record { writes = ws; built = bs; private = patch.private })
      (record { writes = writes_of p.rows; built = p.built; private = p.private })
  handed i = record { writes = (w ∙ of.writes) i; built = (b ∙ of.built) i; private = of.private i }

  -- it meets what `emit` asks
  pub can_emit_planned : IsWritable file p → CanEmit file ws bs patch.groups patch.private.lo patch.private.hi
  can_emit_planned x =
      subst (λ (z : Handed). CanEmit file z.writes z.built patch.groups z.private.lo z.private.hi) (sym handed)
      (subst (λ (z : List ℕ). CanEmit z (writes_of p.rows) p.built patch.groups p.private.lo p.private.hi) x.file_is
      (emit_asked x.request p patch.groups x.size x.asked x.can of.groups))

  -- what `emit` wrote of it is what was planned
  pub emits_planned : (name : List ℕ) (s u : DeskState) (r : Result (Unit {0}) EmitError)
      → Emits (emit_job file ws bs patch.groups patch.private.lo patch.private.hi) name s u r → EmitsPlanned file p patch.groups name s u r
  emits_planned name s u r x =
      subst (λ (z : Handed). Emits (emit_job file z.writes z.built patch.groups z.private.lo z.private.hi) name s u r) handed x

-- ---- what the answers of any rewriting say

-- what a patch's report tells
abbrev pub told_of : Action → Patch → BodyValue
told_of action patch = body_of action patch.private patch.rows.items patch.groups.homes

-- a file that was written whole is written as far as want of memory may leave it
pub written_whole : (name bytes : List ℕ) (s u : DeskState) → Fills name bytes s u (Ok tt) → Fills name bytes s u (Err put.Memory)
written_whole name bytes s u x = record {
  held = told_map (Filled name bytes (Ok tt)) (Filled name bytes (Err put.Memory)) s.held u.held
      (λ old new e. inr (length bytes, e ∙ ap (with_file old name) (sym (take-length bytes)))) x.held;
  writing = x.writing;
  counts = record { reads = x.counts.reads; later = x.counts.later; sure = x.counts.sure; cause = tt };
}

module _ {J R : Type 0} (IsJob : Request → J → Type 0) (writing : J → emitted.Job) (Is : Asked → List ℕ → DeskState → DeskState → R → J → Type 0)
    (a : Asked) (name : List ℕ) (s u : DeskState) where
  -- what an answer says
  abbrev Says : Result R RewriteError → Type 0
  Says = RewritesBy (JudgesBy IsJob writing) (λ j. layout (writing j)) Is a name s u

  -- where nothing was planned, the input is refused, or memory ran out
  pub unplanned : (Plan : Request → Turns → PlannedState → Type 0) (error : RewriteError) → u ≡ s → PlansBy Plan a (Err error)
      → Says (Err error)
  unplanned Plan rewrite.Memory e x = inl e
  unplanned Plan (rewrite.Elf error) e x = (x, e)
  unplanned Plan (rewrite.Start error) e x = (x, e)
  unplanned Plan (rewrite.Turn error) e x = (x, e)
  unplanned Plan (rewrite.Emit error) e x = absurd x

  module _ (starts : HasStarts a) (p : PlannedState) (job : GroupsState → J)
      (is_job : (groups : GroupsState) → AreGroups p groups → IsJob (request_of a) (job groups))
      (same : (groups : GroupsState) → writing (job groups) ≡ job_for (request_of a) p groups) where
    -- where `emit` failed, its error is an answer
    answered : (groups : GroupsState) → AreGroups p groups → (error : EmitError) → Emits (writing (job groups)) name s u (Err error)
        → Says (Err (emit_error error))
    answered groups g (emit.TooManySegments n) x = ((starts, record { job = job groups; is_job = is_job groups g; many = x.1; told = x.0 }), x.2)
    answered groups g emit.WriteFault x = (job groups, (starts, record { is_job = is_job groups g; few = x.0 }), x.1)
    answered groups g emit.Memory (inl x) = inl x
    answered groups g emit.Memory (inr x) = inr (job groups, (starts, record { is_job = is_job groups g; few = x.0 }), x.1)

    -- where the plan's file wasn't written, that is an answer
    pub unwritten : (error : RewriteError) → IsUnwritten a.file p name s u error → Says (Err error)
    unwritten error (inl x) = subst (λ (e : RewriteError). Says (Err e)) (sym x.0) (inl x.1)
    unwritten error (inr x) =
        subst (λ (e : RewriteError). Says (Err e)) (sym x.3)
        (answered x.0 x.2 x.1 (subst (λ (j : emitted.Job). Emits j name s u (Err x.1)) (sym (same x.0)) x.4))

    module _ (groups : GroupsState) (g : AreGroups p groups) (x : EmitsPlanned a.file p groups name s u (Ok tt)) where
      -- the job's file is what was written
      pub emits_job : Emits (writing (job groups)) name s u (Ok tt)
      emits_job = subst (λ (j : emitted.Job). Emits j name s u (Ok tt)) (sym (same groups)) x

      -- where it was written, want of memory after it is an answer too
      pub untold : Says (Err rewrite.Memory)
      untold =
          inr (
            job groups,
            (starts, record { is_job = is_job groups g; few = emits_job.0 }),
            written_whole name (layout (writing (job groups))) s u emits_job.1,
          )

-- ---- what those of `rewrite` say

module _ (a : Asked) (t : Turns) (p : PlannedState) (call : IsCall a t p) where
  -- what was planned can be written
  pub writable : IsWritable a.file p
  writable = record {
    request = request_of a;
    file_is = refl;
    size = call.size;
    asked = call.asked;
    can = planned_can_be_written (request_of a) t p call.asked call.planned;
    placed = fitting_end_low p.built (built_fits (request_of a) t p call.asked call.planned);
  }

  -- the job of the plan, by its groups
  abbrev pub job : GroupsState → Job
  job groups = job_of (request_of a) t p groups

  -- it is the input's
  pub is_job : (groups : GroupsState) → AreGroups p groups → IsJobFor (request_of a) (job groups)
  is_job groups g = record { turns = t; planned = p; groups = groups; is_planned = call.planned; are_groups = g; is = refl }

  -- where the plan's file wasn't written, that is the call's answer
  pub not_written : (name : List ℕ) (s u : DeskState) (error : RewriteError) → IsUnwritten a.file p name s u error → Rewrites a name s u (Err error)
  not_written name s u error x = unwritten IsJobFor writing_of IsRewritten a name s u call.starts p job is_job (λ groups. refl) error x

  module _ (patch : Patch) (of : IsPatchFor p patch) where
    -- where the file was written, want of memory after it is an answer too
    pub not_told : (name : List ℕ) (s u : DeskState) → EmitsPlanned a.file p patch.groups name s u (Ok tt) → Rewrites a name s u (Err rewrite.Memory)
    not_told name s u x = untold IsJobFor writing_of IsRewritten a name s u call.starts p job is_job (λ groups. refl) patch.groups of.groups x

    -- what is told of the patch is its action, private range, rows and pages
    same_told : told_of a.action patch ≡ body_of a.action p.private p.rows patch.groups.homes
    same_told i = body_of a.action (of.private i) (of.rows i) patch.groups.homes

    -- a report can tell what was patched
    pub may_report : IsBody Two (told_of a.action patch)
    may_report =
        subst (IsBody Two) (sym same_told)
        (is_report (request_of a) t p call.size call.asked call.planned patch.groups call.action of.groups)

    -- where the file was written, the report of what was patched is the call's answer
    pub rewritten : (name : List ℕ) (s u : DeskState) → EmitsPlanned a.file p patch.groups name s u (Ok tt)
        → (report : ReportValue) (origin : Origin) → origin ≡ origin_of a.file → OriginFits origin
        → report ≡ written (told_of a.action patch) origin → Rewrites a name s u (Ok report)
    rewritten name s u x report origin o fits r =
        let j = job patch.groups in
        let told : told_of a.action patch ≡ j.report.body =
        same_told ∙ report_is (request_of a) t p call.size call.asked call.planned patch.groups in
        let same : report ≡ j.report = r ∙ (λ i. written (told i) (o i)) in
        let followed = file_followed a t p patch.groups call.size call.asked call.action call.planned of.groups x.0
        (subst OriginFits o fits) in (
          j,
          (call.starts, record { is_job = is_job patch.groups of.groups; few = x.0 }),
          record {
            report_is = same;
            holds = x.1;
            followed = subst (λ (z : ReportValue). IsFollowed a.file a.starts (layout j.emit) z) (sym same) followed;
          },
        )
