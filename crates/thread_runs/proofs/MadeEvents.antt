-- A step of a thread in a site's event, of each kind, keeps the relation to the original's guest.
use Rattle.std.proofs.Common.{◌≡◌, ℕ, true, List, ◌∷◌, Option, Some, None, refl}
use Rattle.std.specs.Prelude.{Contains}
use Rattle.pun_base.specs.Memory.{Bytes}
use Rattle.length_decode.specs.Spelling.{Fields}
use Rattle.cpu_state.specs.Bytes.{avoids}
use Rattle.insn_form.specs.Machine.{Machine}
use Rattle.start_entries.specs.Standing.{AreEntries}
use Rattle.event_steps.specs.ThreadSteps.{ThreadStepsBy}
use Rattle.event_steps.specs.declared.step.EventStep.{EventStep}
use Rattle.thread_runs.specs.Guest.{machine_of}
use Rattle.thread_runs.specs.ThreadCode.{Kind, Marks, Keeps, is_saving, saved_from, saved_len}
use Rattle.thread_runs.specs.Threading.{ThreadSite, Threading, is_new, IsThreadSound}
use Rattle.thread_runs.specs.Watching.{Watched, Watch}
use Rattle.thread_runs.specs.SiteEvents.{IsInSite}
use Rattle.thread_runs.specs.StepLaws.{StepLaws}
use Rattle.thread_runs.proofs.SiteEventsGoOn.{no_step}
use Rattle.thread_runs.proofs.SiteSteps.{IsGood, made_site}
use Rattle.thread_runs.proofs.ThreadEventSteps.{good_mark}
use Rattle.thread_runs.proofs.ThreadRingSteps.{good_ring}
use Rattle.thread_runs.proofs.WatchedRelation.{Ground, Made, stale_next}

module _ (r : Threading) (A : AreEntries r.original r.listed) (S : IsThreadSound r) (L : StepLaws) (M : Bytes) (w : Watch) (one : Watched) (f : Fields) (to : Machine)
    (steps : ThreadStepsBy f (machine_of w.mem one.now) to) (R : Ground r S M w.stale w.mem one) (site : ThreadSite) (listed : Contains r.sites site) (s : EventStep) (rest : List EventStep) where
  -- each step is good
  good_event : (o : Option Kind) → site.event ≡ o → IsInSite o site.when r.private site.number site.place one.projected.core (s ∷ rest) (machine_of w.mem one.now)
      → (is_saving o site.when ≡ true → avoids (is_new r) (saved_from r.ring one.projected.core) (saved_len r.ring) ≡ true) → IsGood r A S L M w one f to steps R
  good_event None e h free = absurd (no_step s rest h.came.0)
  good_event (Some (Marks b)) e h free = good_mark r A S L M w one f to steps R site listed b e s rest h free
  good_event (Some (Keeps n)) e h free = good_ring r A S L M w one f to steps R site listed n e free s rest h

  -- so it leaves what is due
  pub made_event : (h : IsInSite site.event site.when r.private site.number site.place one.projected.core (s ∷ rest) (machine_of w.mem one.now))
      → (is_saving site.event site.when ≡ true → avoids (is_new r) (saved_from r.ring one.projected.core) (saved_len r.ring) ≡ true)
      → one.projected.rip ≡ site.entry.addr → one.now.world ≡ one.projected.world → Made r S (stale_next r w one f) M M one w.mem to
  made_event h free at world = made_site r A S L M w one f to steps R site listed site.event refl s rest h free at world (good_event site.event refl h free)
