-- All laws of single steps, as one record.
use Rattle.event_steps.proofs.Acting.{acting_alike}
use Rattle.thread_runs.proofs.AlikeThreadSteps.{alike_thread}
use Rattle.thread_runs.specs.StepLaws.{StepLaws}
use Rattle.thread_runs.proofs.SiteEventsGoOn.{site_comes_in, site_goes_on, site_can_go_on, site_restores, site_marks}
use Rattle.thread_runs.proofs.SiteEventWrites.{site_writes}
use Rattle.thread_runs.proofs.EffectSteps.{effect_step}
use Rattle.thread_runs.proofs.RelocatedTouches.{worked_core, leads_told, not_locked_is, work_touches}
use Rattle.thread_runs.proofs.WorkTails.{work_long, tail_touches, tail_inside, tail_step}

-- all laws of single steps hold
pub step_laws : StepLaws
step_laws = record {
  alike = alike_thread;
  comes = site_comes_in;
  goes_on = site_goes_on;
  can_go_on = site_can_go_on;
  restores = site_restores;
  marks = site_marks;
  writes = site_writes;
  effects = effect_step;
  tails = tail_step;
  touches = work_touches;
  long = work_long;
  act = acting_alike;
  tail_touches = tail_touches;
  tail_inside = tail_inside;
  core = worked_core;
  leads = leads_told;
  not_locked = not_locked_is;
}
