use Rattle.std.proofs.Common.{◌≡◌, ℕ, ◌^◌, ◌<◌, true, List, map, length, refl, sym, ap, ◌∙◌, subst, arith}
use Rattle.address_space.specs.declared.extent.Extent.{Extent}
use Rattle.pun_base.specs.declared.plan.Write.{Write}
use Rattle.pun_base.specs.declared.pun.Pun.{Pun}
use Rattle.pun_base.specs.declared.tramp.Tramp.{Tramp}
use Rattle.start_list.specs.Plans.{write_run, pun_run}
use Rattle.site_turns.specs.LockedRuns.{is_in_runs, runs_changed, runs_punned}
use Rattle.site_turns.specs.Turned.{AreRoomy}
use Rattle.site_turns.proofs.AppliedPlans.{writes_low, puns_low, tramps_roomy, added_same, locks_by}
use Rattle.site_turns.proofs.progress.Progress.apply.Goals as goal

pub change_runs-requires-clause-low : goal.change_runs-requires-clause-low
change_runs-requires-clause-low c =
    subst (λ (ws : List Write). (a : ℕ) → is_in_runs (map write_run ws) a ≡ true → a < 2 ^ 31) (sym c.as_slice.ensures.value)
    (writes_low c.args.setting.now c.requires.set c.args.plan.now c.args.self.now c.requires.plan)

pub pun_runs-requires-clause-low : goal.pun_runs-requires-clause-low
pun_runs-requires-clause-low c =
    subst (λ (ps : List Pun). (a : ℕ) → is_in_runs (map pun_run ps) a ≡ true → a < 2 ^ 31) (sym c.as_slice-2.ensures.value)
    (puns_low c.args.setting.now c.requires.set c.args.plan.now c.args.self.now c.requires.plan)

pub take_trampolines-requires-clause-room : goal.take_trampolines-requires-clause-room
take_trampolines-requires-clause-room c =
    let fits = c.as_slice-3.ensures.fits in
    let spare = c.in_ok-reserve-2.ensures.spare in
    record {
      roomy = subst (λ (es : List Extent). AreRoomy c.args.setting.now es c.as_slice-3.result.now) (sym c.in_ok-reserve-2.ensures.taken)
          (subst (λ (ts : List Tramp). AreRoomy c.args.setting.now c.args.self.now.space.taken ts) (sym c.as_slice-3.ensures.value)
          (tramps_roomy c.args.setting.now c.requires.set c.args.plan.now c.args.self.now c.requires.plan));
      spare = omega (arith, fits, spare);
    }

pub returns : goal.returns
returns c =
    let writes = c.as_slice.ensures.fits in
    let puns = c.as_slice-2.ensures.fits in
    record {
      lock = c.pun_runs.ensures
          ∙ (λ i. runs_punned (c.as_slice-2.ensures.value i) ((c.change_runs.ensures.locks
          ∙ (λ j. runs_changed (c.as_slice.ensures.value j) (locks_by c.reserve.new.self c.args.self.now.locks
          c.in_ok-reserve.ensures.locks j))) i));
      rows = refl;
      few_writes = omega (arith, writes, ap length c.as_slice.ensures.value);
      few_puns = omega (arith, puns, ap length c.as_slice-2.ensures.value);
      added = added_same c.args.setting.now c.as_slice-3.result.now c.args.plan.now.tramps c.reserve-2.new.self c.args.self.now.space
          c.take_trampolines.new.space c.as_slice-3.ensures.value c.in_ok-reserve-2.ensures.taken c.take_trampolines.ensures;
    }
