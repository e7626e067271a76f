-- A step of a thread in a site's event, whatever its kind: what of it makes it keep the relation to the original's guest.
use Rattle.std.proofs.Common.{◌≡◌, ◌⊎◌, inl, inr, ℕ, ◌+◌, ◌<◌, ◌≤◌, Bool, true, false, ◌||◌, cond, List, [], ◌∷◌, length, drop, Option, Some, refl, sym, ap, ◌∙◌, subst, arith}
use Rattle.std.specs.Prelude.{Contains}
use Rattle.std.proofs.lemmas.Bool.{or_parts, cond-true, cond-false, true≢false, false_from_ne_true}
use Rattle.pun_base.specs.Memory.{Bytes}
use Rattle.pun_base.specs.declared.action.Base.{Base}
use Rattle.length_decode.specs.Spelling.{Fields}
use Rattle.cpu_state.specs.declared.state.Core.{Core}
use Rattle.cpu_state.specs.Bytes.{avoids}
use Rattle.cpu_state.specs.Processor.{IsProcessorCore, GiveWords}
use Rattle.insn_form.specs.Machine.{Machine}
use Rattle.start_entries.specs.Standing.{AreEntries}
use Rattle.event_steps.specs.ThreadSteps.{ThreadStepsBy}
use Rattle.event_steps.proofs.ThreadSteps.{keeps_perms}
use Rattle.event_steps.specs.declared.step.EventStep.{EventStep}
use Rattle.event_steps.specs.EventSteps.{long, size}
use Rattle.event_steps.specs.MadeSteps.{skipped}
use Rattle.event_steps.specs.DoneSteps.{is_one_of}
use Rattle.thread_runs.specs.Guest.{Thread, machine_of, thread_of}
use Rattle.thread_runs.specs.ThreadCode.{Kind, Marks, is_saving, event_len, saved_from, saved_len}
use Rattle.thread_runs.specs.Threading.Part.{Save, Saved}
use Rattle.thread_runs.specs.Threading.{ThreadSite, Threading, work_at, is_new, is_hidden, is_part, in_event, saves, is_saved_by, is_code_of, IsThreadSound}
use Rattle.thread_runs.specs.Watching.{Watched, Watch, is_effect}
use Rattle.thread_runs.specs.SiteEvents.{event_list, IsPlaced, IsInSite, WentOn}
use Rattle.thread_runs.specs.Relation.{AtEnds, IsAmid, AtEvent}
use Rattle.thread_runs.specs.StepLaws.{StepLaws}
use Rattle.thread_runs.proofs.ThreadPlaces.{kept_not, no_site, effect_never, event_code, event_inside, event_saves, part_true}
use Rattle.thread_runs.proofs.KeptRelation.{same_saved}
use Rattle.thread_runs.proofs.OutsideSteps.{calm_projection}
use Rattle.thread_runs.proofs.SiteEventSteps.{are_lists}
use Rattle.thread_runs.proofs.SiteEventsGoOn.{size_some, drop_long}
use Rattle.thread_runs.proofs.SiteStands.{not_of, front_here, front_saves, site_placed, site_apart}
use Rattle.thread_runs.proofs.WatchedRelation.{Phase, Ground, RingMoves, Changes, Made, stale_next}

module _ (r : Threading) (A : AreEntries r.original r.listed) (S : IsThreadSound r) (L : StepLaws) (M : Bytes) (w : Watch) (one : Watched) (f : Fields) (to : Machine)
    (steps : ThreadStepsBy f (machine_of w.mem one.now) to) (R : Ground r S M w.stale w.mem one) where
  -- what of a step in an event makes it good: memory is alike, and what events mark or keep is as it is due
  pub record IsGood : Type 0 where
    pub calm : (x : ℕ) → is_hidden r x ≡ false → stale_next r w one f x ≡ false → to.mem x ≡ w.mem x
    pub numbers : (t : ThreadSite) → Contains r.sites t → (b : Base) → t.event ≡ Some (Marks b) → Changes r false b t w.mem to.mem one.projected one.projected one.now.rip to.rip
    pub ring : (n : ℕ) → r.ring ≡ Some n → RingMoves r n false one w.mem to

  module _ (site : ThreadSite) (listed : Contains r.sites site) (o : Option Kind) (has : site.event ≡ o) where
    abbrev u : Machine
    u = machine_of w.mem one.now

    abbrev x0 : ℕ
    x0 = one.now.rip

    abbrev c : Core
    c = one.projected.core

    -- its code lies low
    pub placed : IsPlaced o site.when r.private site.number site.place
    placed = site_placed r A S L.long site listed o has

    module _ (s : EventStep) (rest : List EventStep) (h : IsInSite o site.when r.private site.number site.place c (s ∷ rest) u)
        (free : is_saving o site.when ≡ true → avoids (is_new r) (saved_from r.ring c) (saved_len r.ring) ≡ true) where
      -- the step that it makes
      pub went : WentOn o site.when r.private site.number site.place c s rest u to h
      went = L.goes_on o site.when r.private site.number site.place c s rest u to R.kept.processor placed (site_apart r A S L.long site listed c o has free) h (f, steps)

      -- the address is one of the site's event
      pub not_before : site.place ≤ x0
      not_before = (front_here o site.when r.private site.number site.place c s rest u h).0

      pub not_behind : x0 < work_at site
      not_behind = let q = (front_here o site.when r.private site.number site.place c s rest u h).1 in let len = ap (λ z. event_len z site.when) has in omega (arith, q, len)

      -- and the step leads on in it
      pub later : x0 + size s ≤ to.rip
      later = let q = went.is.rip in let p = h.rip in let d = (drop_long (skipped s u.core) rest).0 in omega (arith, q, p, d)

      pub not_beyond : to.rip ≤ work_at site
      not_beyond = let q = went.is.rip in let l = (are_lists o site.when r.private site.number).len in let len = ap (λ z. event_len z site.when) has in omega (arith, q, l, len)

      -- so it is one of the site's code, at which no effect step is made
      pub code : is_code_of r site (S.sites site listed) x0
      code = event_code r A S L.long site listed x0 not_before not_behind

      pub calm : is_effect r x0 ≡ false
      calm = effect_never r A S L.long x0 (kept_not r A S L.long site listed x0 code) (no_site r A S L.long site listed x0 code (λ e. let n = not_behind in omega (arith, e, n)))

      -- the saved bytes are those that rsp gives where the thread came
      pub same_bytes : saved_from r.ring one.now.core ≡ saved_from r.ring c
      same_bytes = same_saved r.ring h.now.core one.now.core c h.beside.core h.beside.stack

      -- staleness in the event
      pub stale_save : saves r x0 ≡ true → (x : ℕ) → stale_next r w one f x ≡ false → is_one_of (saved_from r.ring c) (saved_len r.ring) x ≡ false
      stale_save e x k =
          let q = or_parts (w.stale x) (is_saved_by r one.now.core x) (sym (cond-true (saves r x0) _ _ e) ∙ k) in
          ap (λ z. is_one_of z (saved_len r.ring) x) (sym same_bytes) ∙ q.1

      stale_before : (x : ℕ) → stale_next r w one f x ≡ false → w.stale x ≡ false
      stale_before x k = by_save (saves r x0) refl
        where
          by_save : (b : Bool) → saves r x0 ≡ b → w.stale x ≡ false
          by_save true e = (or_parts (w.stale x) (is_saved_by r one.now.core x) (sym (cond-true (saves r x0) _ _ e) ∙ k)).0
          by_save false e = sym (cond-false (saves r x0) _ _ e ∙ cond-true (in_event r x0) _ _ (event_inside r A S L.long site listed x0 not_before not_behind)) ∙ k

      -- rax is saved at an address exactly where the site's event says so
      pub saves_here : saves r x0 ≡ is_part Save x0 site
      saves_here = event_saves r A S L.long site listed x0 not_before not_behind

      -- behind the step it stands in front of what is left
      pub next_stands : (left : List EventStep) → left ≡ drop (skipped s u.core) rest → IsInSite o site.when r.private site.number site.place c left to
          → AtEnds r site left (thread_of to) one.projected ⊎ IsAmid r to.mem site left (thread_of to) one.projected
      next_stands [] e k = inl (record { whole = inr refl; core = L.restores o site.when r.private site.number site.place c to R.kept.processor placed k })
      next_stands (t ∷ ss) e k =
          let saving = front_saves o site.when r.private site.number site.place c s t rest ss (skipped s u.core) u h e in
          let q = front_here o site.when r.private site.number site.place c t ss to k in
          let a = not_before in
          let b = later in
          let some = size_some s in
          let end = ap (λ z. cond z (event_len site.event site.when) 0) (ap (λ z. is_saving z site.when) has ∙ saving) in
          let len = ap (λ z. event_len z site.when) has in
          let q1 = q.1 in
          inr (record {
            is = subst (λ (z : Option Kind). IsInSite z site.when r.private site.number site.place c (t ∷ ss) to) (sym has) k;
            saved = part_true Saved to.rip site (omega (arith, a, b, some)) (omega (arith, q1, end, len));
            old = free saving;
          })

      pub next_event : one.projected.rip ≡ site.entry.addr → one.now.world ≡ one.projected.world → AtEvent r to.mem (thread_of to) one.projected
      next_event at world = record {
        site = site;
        listed = listed;
        rest = drop (skipped s u.core) rest;
        here = (let q = went.is.rip in let l = (are_lists o site.when r.private site.number).len in let len = ap (λ z. event_len z site.when) has in omega (arith, q, l, len));
        there = at;
        world = went.world ∙ world;
        stands = next_stands (drop (skipped s u.core) rest) refl went.is;
      }

      -- a good step leaves what is due
      pub made_site : one.projected.rip ≡ site.entry.addr → one.now.world ≡ one.projected.world → IsGood → Made r S (stale_next r w one f) M M one w.mem to
      made_site at world G =
          let q = calm_projection r one w.mem to (kept_not r A S L.long site listed x0 code) (no_site r A S L.long site listed x0 code (λ e. let n = not_behind in omega (arith, e, n))) in
          record {
            went = inl (calm, refl, q);
            alike = record {
              bytes = λ x i k. R.alike.bytes x i (stale_before x k) ∙ sym (G.calm x i k);
              perms = λ x i. R.alike.perms x i ∙ sym (keeps_perms f u to steps x);
            };
            own = R.own;
            counted = λ t k b v. subst (λ (z : Thread). Changes r (is_effect r x0) b t w.mem to.mem one.projected z x0 to.rip) (sym q)
                (subst (λ e. Changes r e b t w.mem to.mem one.projected one.projected x0 to.rip) (sym calm) (G.numbers t k b v));
            ring = λ n e. subst (λ b. RingMoves r n b one w.mem to) (sym calm) (G.ring n e);
            processor = subst (λ (t : Thread). IsProcessorCore t.core) (sym q) R.kept.processor;
            words = subst (λ (t : Thread). GiveWords t.world) (sym q) R.kept.words;
            phase = subst (λ (t : Thread). Phase r S to.mem (thread_of to) t) (sym q) (inr (inr (inl (next_event at world))));
          }
