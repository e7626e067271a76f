-- Threads that others overtook inside a trampoline get out, too.
use Rattle.std.proofs.Common.{◌≡◌, inl, inr, ℕ, ◌+◌, ◌*◌, ◌≤◌, true, ◌&&◌, cond, eqb, List, [], ◌∷◌, ◌++◌, length, Some, sym, ap, ◌∙◌, subst, arith}
use Rattle.std.specs.Prelude.{Contains, slice_get}
use Rattle.std.proofs.lemmas.Bool.{and_from, eq-eqb}
use Rattle.pun_base.specs.declared.action.Comparison.{Comparison}
use Rattle.length_decode.specs.Spelling.{Fields, spelling}
use Rattle.cpu_state.specs.Bytes.{Stands}
use Rattle.insn_form.specs.Machine.{Machine}
use Rattle.insn_form.proofs.UniqueSteps.{one_instruction}
use Rattle.relocate_insn.proofs.FixedCode.{fixed_stands, fixed_on}
use Rattle.start_entries.specs.Standing.{AreEntries}
use Rattle.patch_report.proofs.ListPlaces.{any_at, contains_at, place_of}
use Rattle.thread_runs.specs.ThreadCode.{is_saving}
use Rattle.thread_runs.specs.Work.{Tail, left, InTail}
use Rattle.thread_runs.specs.Work.Tail.{Out, Back, Jump, Ecx}
use Rattle.thread_runs.specs.Guest.{Guest, machine_of, thread_of, last_guest}
use Rattle.thread_runs.specs.Threading.{ThreadSite, Threading, next_of, work_at, is_keeping, saves_at, is_saved_by, IsThreadSound}
use Rattle.thread_runs.specs.Watching.{Watched, Watch}
use Rattle.thread_runs.specs.Premises.{StandAtStarts, reads_nothing_of}
use Rattle.thread_runs.specs.Relation.{BehindEffect}
use Rattle.thread_runs.specs.Theorem.{when_at, further_at}
use Rattle.thread_runs.specs.GuestDeliveries.{GuestItem}
use Rattle.thread_runs.specs.WatchedDeliveries.{watch_with, last_with}
use Rattle.thread_runs.proofs.AllStepLaws.{step_laws}
use Rattle.thread_runs.proofs.ThreadPlaces.{when_here, further_here}
use Rattle.thread_runs.proofs.StandingCode.{fields_of, site_stands}
use Rattle.thread_runs.proofs.WatchedSteps.{started}
use Rattle.thread_runs.proofs.WatchedRelation.{Ground, Related, base_of}
use Rattle.thread_runs.proofs.GoingOut.{GoesOut, tail_out}
use Rattle.thread_runs.proofs.EffectWayOut.{Leaving}
use Rattle.thread_runs.proofs.WayOut.{event_goes, second_goes, all_stand, runs_same}
use Rattle.thread_runs.proofs.ThreadsTheorem.{begun, along}
use Rattle.thread_laws.specs.Overtaken.{IsBefore, CanGoOn, GetsOutFrom, LeavesBehind, LeavesTrampoline, OvertakenGetOut, OvertakenThreadsGetOut}
use Rattle.thread_laws.proofs.WaitingThreads.{shown_at_last}

-- at most two steps are left after an effect step
two : (t : Tail) → left t ≤ 2
two Out = omega arith
two Back = omega arith
two Jump = omega arith
two Ecx = omega arith

module _ (r : Threading) (A : AreEntries r.original r.listed) (S : IsThreadSound r) (k : ℕ) (a : Guest) (made : List GuestItem) (w : Watch) (one : Watched)
    (R : Related r S a made w) (e : slice_get w.threads k ≡ Some one) where
  ground : Ground r S R.end.mem w.stale w.mem one
  ground = base_of r S a made w R k one e

  stand : StandAtStarts r w.threads
  stand = all_stand r A S step_laws k a made w R

  module _ (C : CanGoOn r w one R.end) (site : ThreadSite) (listed : Contains r.sites site) (at : one.projected.rip ≡ site.entry.addr) where
    -- the original's state before the step
    abbrev own : Machine
    own = machine_of R.end.mem one.projected

    -- the instruction is the displaced one
    abbrev displaced : Fields
    displaced = fields_of r A S site listed

    same : C.fields ≡ displaced
    same =
        let stands : Stands R.end.mem one.projected.rip (spelling displaced) = subst (λ (z : ℕ). Stands R.end.mem z (spelling displaced)) (sym at)
        (fixed_stands R.end.mem site.entry.addr (spelling displaced) (fixed_on r.original R.end.mem site.entry.addr (spelling displaced) R.own (site_stands r A S site listed))) in
        one_instruction own C.fields displaced C.steps.at (record { spelled = (S.sites site listed).spelled; here = stands })

    -- its event saves rax there
    saves_there : is_saving site.event site.when ≡ true → saves_at r one.projected.rip ≡ true
    saves_there h =
        let i = place_of r.sites site listed in
        any_at (λ (s : ThreadSite). eqb s.entry.addr one.projected.rip && is_saving s.event s.when) r.sites i.0 site i.1
        (and_from (eqb site.entry.addr one.projected.rip) (is_saving site.event site.when) (eq-eqb site.entry.addr one.projected.rip (sym at)) h)

    unread : is_saving site.event site.when ≡ true → reads_nothing_of (is_saved_by r one.projected.core) displaced own ≡ true
    unread h = subst (λ (z : Fields). reads_nothing_of (is_saved_by r one.projected.core) z own ≡ true) same (C.unread (saves_there h))

    fresh : reads_nothing_of w.stale displaced own ≡ true
    fresh = subst (λ (z : Fields). reads_nothing_of w.stale z own ≡ true) same C.fresh

    done : GoesOut r k w (w.log ++ record { thread = k; at = one.projected.rip; core = one.projected.core } ∷ []) (thread_of C.to) C.to.mem (12 + 2 * length site.when + cond (is_keeping site.event) 5 0)
        → GetsOutFrom r k w one C.to
    done g =
        let i = place_of r.sites site listed in
        let when : when_at r.sites one.projected.rip ≡ site.when = when_here one.projected.rip site r.sites (λ j t h e'. S.once t site (contains_at r.sites j t h) listed (e' ∙ at)) i.0 i.1 (sym at) in
        let further : further_at r.sites one.projected.rip ≡ cond (is_keeping site.event) 5 0 = further_here one.projected.rip site r.sites (λ j t h e'. S.once t site (contains_at r.sites j t h) listed (e' ∙ at)) i.0 i.1 (sym at) in
        let z = ap (λ (l : List Comparison). length l) when in
        let b = g.bound in
        record { few = g.few; bound = omega (arith, b, z, further); states = g.states; run = g.run; proper = g.proper stand; there = g.there; outside = C.ends; memory = g.memory; effect = g.effect }

  -- what is known of a thread that is to go out from a site
  abbrev leaving : (C : CanGoOn r w one R.end) (site : ThreadSite) → Contains r.sites site → one.projected.rip ≡ site.entry.addr → Leaving r A S
  leaving C s l t = record {
    site = s;
    listed = l;
    own = R.end.mem;
    watch = w;
    one = one;
    to = C.to;
    steps = (C.fields, C.steps);
    quiet = C.quiet;
    ends = C.ends;
    read = λ h. C.read (saves_there C s l t h);
    written = λ h. C.written (saves_there C s l t h);
    old = λ h. C.old (saves_there C s l t h);
    unread = unread C s l t;
    fresh = fresh C s l t;
  }

  -- a thread in front of its effect step
  before : IsBefore r w.mem one → (C : CanGoOn r w one R.end) → GetsOutFrom r k w one C.to
  before (inl x) C =
      let s = x.site in let l = x.listed in let t = x.there in
      done C s l t (second_goes r A S step_laws k (leaving C s l t) e ground x.jumps x.here t x.core x.world)
  before (inr x) C =
      let s = x.site in let l = x.listed in let t = x.there in
      done C s l t (event_goes r A S step_laws k (leaving C s l t) e ground x.rest x.here t x.world x.stands)

  -- one behind it
  behind : BehindEffect r w.mem one.now one.projected → LeavesBehind r k w one R.end
  behind x =
      let K = S.sites x.site x.listed in
      let m : Machine = record { core = one.now.core; rip = x.site.entry.addr; mem = r.original; world = [] } in
      let f : x.whole.fields ≡ K.fields = one_instruction m x.whole.fields K.fields (record { spelled = x.whole.spelled; here = x.whole.stands }) (record { spelled = K.spelled; here = K.stands }) in
      let there = subst (λ (z : Fields). InTail z (next_of x.site) (work_at x.site) x.tail one.projected.core one.projected.rip (machine_of w.mem one.now)) f x.there in
      let g = tail_out r A S step_laws k x.site x.listed 2 R.end.mem w one x.tail (two x.tail) e ground there x.world in
      record { few = g.few; bound = g.bound; states = g.states; run = g.run; proper = g.proper stand; there = g.there; outside = ground.kept.start; memory = g.memory; effect = g.effect }

-- in each state that a proper run reaches
out_with : (r : Threading) → AreEntries r.original r.listed → IsThreadSound r → OvertakenGetOut r
out_with r A S a b is xs G P f k one e =
    let x = last_with (watch_with b) xs in
    let R : Related r S a x.made x.watch = (along r A S step_laws a is (watch_with b) xs (started r A S step_laws a b G (begun r is (watch_with b) xs P)) P).1 in
    let same : last_guest a f.states ≡ R.end = ap (last_guest a) (runs_same r.listed x.made a f.states R.states f.run R.run) ∙ R.last in
    subst (λ (g : Guest). LeavesTrampoline r k x.watch one g) (sym same) (before r A S k a x.made x.watch one R e, behind r A S k a x.made x.watch one R e)

-- in each state that a run reaches in which threads begin, too
pub overtaken_get_out : OvertakenThreadsGetOut
overtaken_get_out r A S = (
  out_with r A S,
  λ a b is xs G E P. shown_at_last r A S E a b G is xs P (λ w g. (k : ℕ) (one : Watched) → slice_get w.threads k ≡ Some one → LeavesTrampoline r k w one g) (out_with r A S),
)
