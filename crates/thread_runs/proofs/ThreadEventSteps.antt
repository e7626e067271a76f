-- Steps of a thread in an event that marks: each keeps the relation to the original's guest.
use Rattle.std.proofs.Common.{◌≡◌, ◌≢◌, ◌⊎◌, inl, inr, ℕ, ◌+◌, ◌%◌, ◌^◌, ◌<◌, ◌≤◌, Bool, true, false, ◌&&◌, ◌||◌, cond, eqb, leb, ltb, List, [], ◌∷◌, length, Option, Some, None, refl, sym, ap, ap₂, ◌∙◌, subst, arith}
use Rattle.std.specs.Prelude.{Contains}
use Rattle.std.specs.Option.{is_some}
use Rattle.std.proofs.lemmas.Bool.{or_parts, cond-true, cond-false, cases_eq, cases_lt, ne_eqb, lt-ltb, true≢false, false_from_ne_true}
use Rattle.pun_base.specs.Memory.{Bytes}
use Rattle.pun_base.specs.declared.action.Base.{Base}
use Rattle.pun_base.specs.declared.action.Base.TheVariants.{Cover, Count}
use Rattle.length_decode.specs.Spelling.{Fields}
use Rattle.cpu_state.specs.declared.state.Core.{Core}
use Rattle.cpu_state.specs.Bytes.{avoids, lacking, number_at, put_list, bytes_of}
use Rattle.cpu_state.proofs.Readback.{bytes_of_length, read_back}
use Rattle.insn_form.specs.Operands.{reg, rax}
use Rattle.insn_form.specs.Machine.{Machine}
use Rattle.cond_action.specs.Conditions.{all_hold}
use Rattle.event_steps.specs.ThreadSteps.{ThreadStepsBy}
use Rattle.event_steps.specs.declared.step.EventStep.{EventStep}
use Rattle.event_steps.specs.DoneSteps.{is_one_of, is_marking, mem_done}
use Rattle.event_steps.proofs.ByteRanges.{number_on, put_elsewhere}
use Rattle.relocate_insn.proofs.PrivateRange.{put_away}
use Rattle.patch_report.proofs.ListPlaces.{some_is}
use Rattle.start_entries.specs.Standing.{AreEntries}
use Rattle.image_runs.specs.Listed.{is_listed_byte}
use Rattle.trampoline.specs.EventLists.{mark_at, mark_len}
use Rattle.thread_runs.specs.Guest.{machine_of}
use Rattle.thread_runs.specs.ThreadCode.{Marks, is_saving, event_len, slot, saved_from, saved_len}
use Rattle.thread_runs.specs.Event.{marks_with}
use Rattle.thread_runs.specs.Threading.Part.{Save, Marked}
use Rattle.thread_runs.specs.Threading.{ThreadSite, Threading, work_at, is_new, is_hidden, part_from, part_to, is_part, saves, is_met_by, is_counted, IsThreadSound}
use Rattle.thread_runs.specs.Watching.{Watched, Watch}
use Rattle.thread_runs.specs.SiteEvents.{event_list, IsInSite, LeavesAll, SavesRax, MarksOnce}
use Rattle.thread_runs.specs.StepLaws.{StepLaws}
use Rattle.thread_runs.proofs.ThreadPlaces.{in_code, part_in, mark_end, mark_some, part_true}
use Rattle.thread_runs.proofs.StandingCode.{mark_new, mark_kept, one_in}
use Rattle.thread_runs.proofs.OutsideSteps.{none_more, uncounted}
use Rattle.thread_runs.proofs.SiteStands.{not_of}
use Rattle.thread_runs.proofs.SiteSteps.{IsGood, placed, went, not_before, not_behind, later, not_beyond, stale_save, saves_here}
use Rattle.thread_runs.proofs.WatchedRelation.{shown_after, marked, Ground, stale_next, Changes}

and_true : (b : Bool) → (b && true) ≡ b
and_true true = refl
and_true false = refl

-- the bytes that an event marks with are as many as it marks
mark_size : (d : Base) (a : ℕ) (m : Bytes) → length (marks_with d a m) ≡ mark_len d
mark_size Cover a m = refl
mark_size Count a m = bytes_of_length 8 ((number_at m a 8 + 1) % 2 ^ 64)

-- the mark shows one event more
marks_one : (r : Threading) (site : ThreadSite) (d : Base) (n : ℕ) (m m' : Bytes) → mark_at d r.private site.number + mark_len d ≤ 0x7FFF0000 → lacking 2 m (mark_at d r.private site.number) (mark_len d) ≡ None
    → m' ≡ put_list m (mark_at d r.private site.number) (marks_with d (mark_at d r.private site.number) m) → marked r d site m ≡ shown_after d n → marked r d site m' ≡ shown_after d (n + 1)
marks_one r site Cover n m m' low room mem e =
    ap (λ (z : Bytes). marked r Cover site z) mem
    ∙ read_back m 2 (mark_at Cover r.private site.number) 1 1 (omega (arith, low)) (omega arith) room
    ∙ sym (cond-false (eqb (n + 1) 0) 0 1 (ne_eqb (n + 1) 0 (λ z. omega (arith, z))))
marks_one r site Count n m m' low room mem e =
    let a = mark_at Count r.private site.number in
    let k : number_at m' a 8 ≡ (number_at m a 8 + 1) % 2 ^ 64 = ap (λ (z : Bytes). number_at z a 8) mem
    ∙ read_back m 2 a 8 ((number_at m a 8 + 1) % 2 ^ 64) (omega (arith, low)) (omega arith) room
    ∙ twice (number_at m a 8 + 1) in
    omega (arith, k, e)
  where
    twice : (n : ℕ) → n % 2 ^ 64 % 2 ^ 64 ≡ n % 2 ^ 64
    twice n = omega arith

module _ (r : Threading) (A : AreEntries r.original r.listed) (S : IsThreadSound r) (L : StepLaws) (M : Bytes) (w : Watch) (one : Watched) (f : Fields) (to : Machine)
    (steps : ThreadStepsBy f (machine_of w.mem one.now) to) (R : Ground r S M w.stale w.mem one) (site : ThreadSite) (listed : Contains r.sites site) (b : Base) (has : site.event ≡ Some (Marks b))
    (s : EventStep) (rest : List EventStep) (h : IsInSite (Some (Marks b)) site.when r.private site.number site.place one.projected.core (s ∷ rest) (machine_of w.mem one.now))
    (free : is_saving (Some (Marks b)) site.when ≡ true → avoids (is_new r) (saved_from r.ring one.projected.core) (saved_len r.ring) ≡ true) where
  abbrev x0 : ℕ
  x0 = one.now.rip

  abbrev c : Core
  c = one.projected.core

  abbrev a : ℕ
  a = mark_at b r.private site.number

  from : site.place ≤ x0
  from = not_before r A S L M w one f to steps R site listed (Some (Marks b)) has s rest h free

  below : x0 < work_at site
  below = not_behind r A S L M w one f to steps R site listed (Some (Marks b)) has s rest h free

  from' : site.place ≤ to.rip
  from' = let q = later r A S L M w one f to steps R site listed (Some (Marks b)) has s rest h free in let p = from in omega (arith, p, q)

  below' : to.rip ≤ work_at site
  below' = not_beyond r A S L M w one f to steps R site listed (Some (Marks b)) has s rest h free

  -- in the event's code a thread has marked where the address says so
  part_here : (x : ℕ) → x ≤ work_at site → is_part Marked x site ≡ leb (site.place + part_from Marked (Some (Marks b)) site.when) x
  part_here x l =
      let end = mark_end site.event site.when (mark_some site.event site.when (Marks b) has) in
      ap₂ (λ y z. leb (site.place + y) x && z) (ap (λ o. part_from Marked o site.when) has) (lt-ltb x (site.place + part_to Marked site.event site.when) (omega (arith, l, end)))
      ∙ and_true (leb (site.place + part_from Marked (Some (Marks b)) site.when) x)

  -- so it is counted exactly where it has marked, before the step
  counted_now : is_counted site x0 c ≡ h.now.marked
  counted_now =
      let l = below in
      ap (λ z. is_met_by site c && z) (part_here x0 (omega (arith, l)))
      ∙ sym (L.marks b site.when r.private site.number site.place c (s ∷ rest) (machine_of w.mem one.now) R.kept.processor (placed r A S L M w one f to steps R site listed (Some (Marks b)) has) h)

  -- and behind it
  counted_then : is_counted site to.rip c ≡ (is_marking s || h.now.marked)
  counted_then =
      let g = went r A S L M w one f to steps R site listed (Some (Marks b)) has s rest h free in
      ap (λ z. is_met_by site c && z) (part_here to.rip below')
      ∙ sym (L.marks b site.when r.private site.number site.place c _ to R.kept.processor (placed r A S L M w one f to steps R site listed (Some (Marks b)) has) g.is)
      ∙ ap (λ l. l.marked) g.now

  -- each other site that marks is of another number, and counted nowhere in this one's code
  own_or_other : (t : ThreadSite) → Contains r.sites t → (d : Base) → t.event ≡ Some (Marks d) → (t ≡ site) ⊎ (t.number ≢ site.number)
  own_or_other t k d v = elim (cases_eq t.number site.number) [
    | inl e ↦ inl (S.numbers t site k listed (ap is_some v) (ap is_some has) e)
    | inr n ↦ inr n
  ]

  elsewhere : (t : ThreadSite) → Contains r.sites t → t.number ≢ site.number → (x : ℕ) → site.place ≤ x → x ≤ work_at site → is_counted t x c ≡ false
  elsewhere t k n x i j = uncounted t x c (false_from_ne_true (is_part Marked x t) (λ e.
      n (ap (λ (y : ThreadSite). y.number) (S.apart t site k listed x (part_in r A S L.long Marked t k x e) (in_code r A S L.long site listed x i (omega (arith, j)))))))

  -- a step that doesn't mark and leaves what is new leaves each number
  unmarked : is_marking s ≡ false → ((x : ℕ) → is_new r x ≡ true → to.mem x ≡ w.mem x) → (t : ThreadSite) → Contains r.sites t → (d : Base) → t.event ≡ Some (Marks d)
      → Changes r false d t w.mem to.mem one.projected one.projected x0 to.rip
  unmarked calm stays t k d v =
      let z : is_counted t x0 c ≡ is_counted t to.rip c = elim (own_or_other t k d v) [
        | inl e ↦ ap (λ (y : ThreadSite). is_counted y x0 c) e ∙ counted_now ∙ sym (ap (λ y. y || h.now.marked) calm) ∙ sym counted_then ∙ ap (λ (y : ThreadSite). is_counted y to.rip c) (sym e)
        | inr n ↦ (let l = below in elsewhere t k n x0 from (omega (arith, l)) ∙ sym (elsewhere t k n to.rip from' below'))
      ] in
      let e : ◌≡◌ {A = ℕ} (cond (is_counted t to.rip c) 1 0) (cond (is_counted t x0 c) 1 0) = ap (λ y. cond y 1 0) (sym z) in
      record {
        more = 0;
        number = none_more d (marked r d t to.mem) (marked r d t w.mem) (mark_kept r A S t k d v w.mem to.mem stays);
        even = omega (arith, e);
      }

  -- what sites of other numbers mark is elsewhere
  beside : (d : Base) (m n x : ℕ) → m ≢ n → mark_at d r.private m ≤ x → x < mark_at d r.private m + mark_len d → (x < mark_at d r.private n) ⊎ (mark_at d r.private n + mark_len d ≤ x)
  beside Cover m n x e i j = elim (cases_lt m n) [
    | inl q ↦ inl (omega (arith, i, j, q))
    | inr q ↦ inr (omega (arith, i, j, q, e))
  ]
  beside Count m n x e i j = elim (cases_lt m n) [
    | inl q ↦ inl (omega (arith, i, j, q))
    | inr q ↦ inr (omega (arith, i, j, q, e))
  ]

  -- the step that marks
  module _ (mem : to.mem ≡ put_list w.mem a (marks_with b a w.mem)) where
    -- leaves all other bytes
    away : (x : ℕ) → (x < a) ⊎ (a + mark_len b ≤ x) → to.mem x ≡ w.mem x
    away x n =
        let low = S.low site listed b has in
        let size = mark_size b a w.mem in
        ap (λ (z : Bytes). z x) mem ∙ put_away w.mem a (marks_with b a w.mem) x (omega (arith, low, size)) (elim n [
          | inl q ↦ inl q
          | inr q ↦ inr (omega (arith, q, size))
        ])

    -- so what isn't new
    old_away : (x : ℕ) → is_new r x ≡ false → to.mem x ≡ w.mem x
    old_away x n = away x (elim (cases_lt x a) [
      | inl q ↦ inl q
      | inr q ↦ elim (cases_lt x (a + mark_len b)) [
        | inl g ↦ absurd (true≢false (sym (mark_new r A S site listed b has x q g) ∙ n))
        | inr g ↦ inr g
      ]
    ])

    -- and the site's number alone rises
    passes : is_marking s ≡ true → h.now.marked ≡ false → (t : ThreadSite) → Contains r.sites t → (d : Base) → t.event ≡ Some (Marks d) → Changes r false d t w.mem to.mem one.projected one.projected x0 to.rip
    passes marks once t k d v = elim (own_or_other t k d v) [
      | inl e ↦ own e
      | inr n ↦ other n
    ]
      where
        same_base : (d b : Base) → Marks d ≡ Marks b → d ≡ b
        same_base d b e = cc

        kind : d ≡ b
        kind = same_base d b (some_is (Marks d) (Marks b) (sym v ∙ S.kinds t site k listed (ap is_some v) (ap is_some has) ∙ has))

        counts : (n : ℕ) → marked r b site w.mem ≡ shown_after b n → marked r b site to.mem ≡ shown_after b (n + 1)
        counts n e = marks_one r site b n w.mem to.mem (S.low site listed b has) (R.room site listed b has).written mem e

        own : t ≡ site → Changes r false d t w.mem to.mem one.projected one.projected x0 to.rip
        own e =
            let b1 : is_counted t to.rip c ≡ true = ap (λ (y : ThreadSite). is_counted y to.rip c) e ∙ counted_then ∙ ap (λ y. y || h.now.marked) marks in
            let b2 : is_counted t x0 c ≡ false = ap (λ (y : ThreadSite). is_counted y x0 c) e ∙ counted_now ∙ once in
            let c1 : ◌≡◌ {A = ℕ} (cond (is_counted t to.rip c) 1 0) 1 = cond-true (is_counted t to.rip c) 1 0 b1 in
            let c2 : ◌≡◌ {A = ℕ} (cond (is_counted t x0 c) 1 0) 0 = cond-false (is_counted t x0 c) 1 0 b2 in
            record {
              more = 1;
              number = subst (λ (z : ThreadSite). (n : ℕ) → marked r d z w.mem ≡ shown_after d n → marked r d z to.mem ≡ shown_after d (n + 1)) (sym e)
                  (subst (λ (z : Base). (n : ℕ) → marked r z site w.mem ≡ shown_after z n → marked r z site to.mem ≡ shown_after z (n + 1)) (sym kind) counts);
              even = omega (arith, c1, c2);
            }

        other : t.number ≢ site.number → Changes r false d t w.mem to.mem one.projected one.projected x0 to.rip
        other n =
            let low = S.low t k d v in
            let l = below in
            let c1 : ◌≡◌ {A = ℕ} (cond (is_counted t to.rip c) 1 0) 0 = cond-false _ 1 0 (elsewhere t k n to.rip from' below') in
            let c2 : ◌≡◌ {A = ℕ} (cond (is_counted t x0 c) 1 0) 0 = cond-false _ 1 0 (elsewhere t k n x0 from (omega (arith, l))) in
            record {
              more = 0;
              number = none_more d (marked r d t to.mem) (marked r d t w.mem) (number_on w.mem to.mem (mark_at d r.private t.number) (mark_len d) (λ x e.
                  let q = one_in r A S (mark_at d r.private t.number) (mark_len d) x (omega (arith, low)) e in
                  away x (subst (λ (z : Base). (x < mark_at z r.private site.number) ⊎ (mark_at z r.private site.number + mark_len z ≤ x)) kind (beside d t.number site.number x n q.0 q.1))));
              even = omega (arith, c1, c2);
            }

  -- each step is good
  pub good_mark : IsGood r A S L M w one f to steps R
  good_mark = by_kind (L.writes b site.when r.private site.number site.place c s rest (machine_of w.mem one.now) R.kept.processor (placed r A S L M w one f to steps R site listed (Some (Marks b)) has) h)
    where
      none_rings : {n : ℕ} → None ≡ Some n → ⊥
      none_rings e = absurd cc

      unringed : r.ring ≡ None
      unringed = S.rings site listed (Marks b) has

      step_mem : to.mem ≡ mem_done (event_list (Some (Marks b)) site.when r.private site.number).uses c s h.now w.mem
      step_mem = (went r A S L M w one f to steps R site listed (Some (Marks b)) has s rest h free).mem

      by_kind : LeavesAll b site.when r.private site.number c s h.now w.mem ⊎ SavesRax b site.when r.private site.number site.place c s h.now (machine_of w.mem one.now) ⊎ MarksOnce b site.when r.private site.number c s h.now w.mem
          → IsGood r A S L M w one f to steps R
      by_kind (inl k) = record {
        calm = λ x i j. ap (λ (z : Bytes). z x) (step_mem ∙ k.mem);
        numbers = unmarked k.calm (λ x i. ap (λ (z : Bytes). z x) (step_mem ∙ k.mem));
        ring = λ n e. absurd (none_rings (sym unringed ∙ e));
      }
      by_kind (inr (inl k)) =
          let away : (x : ℕ) → is_one_of (slot c) 8 x ≡ false → to.mem x ≡ w.mem x = λ x n. ap (λ (z : Bytes). z x) (step_mem ∙ k.mem) ∙ put_elsewhere w.mem (slot c) 8 (bytes_of 8 (reg c rax)) x (bytes_of_length 8 (reg c rax)) n in
          let old : avoids (is_new r) (slot c) 8 ≡ true = ap (λ o. avoids (is_new r) (saved_from o c) (saved_len o)) (sym unringed) ∙ free k.saving in
          let end : part_to Save site.event site.when ≡ 1 = ap (λ o. part_to Save o site.when) has ∙ cond-true (is_saving (Some (Marks b)) site.when) 1 0 k.saving in
          let at = k.first in
          let here : saves r x0 ≡ true = saves_here r A S L M w one f to steps R site listed (Some (Marks b)) has s rest h free ∙ part_true Save x0 site (omega (arith, at)) (omega (arith, at, end)) in
          record {
            calm = λ x i j. away x (ap (λ o. is_one_of (saved_from o c) (saved_len o) x) (sym unringed) ∙ stale_save r A S L M w one f to steps R site listed (Some (Marks b)) has s rest h free here x j);
            numbers = unmarked k.calm (λ x n. away x (false_from_ne_true (is_one_of (slot c) 8 x) (λ e. true≢false (sym n ∙ not_of (is_new r) (slot c) 8 x old e))));
            ring = λ n e. absurd (none_rings (sym unringed ∙ e));
          }
      by_kind (inr (inr k)) = record {
        calm = λ x i j. old_away (step_mem ∙ k.mem) x (or_parts (is_listed_byte r.listed x) (is_new r x) i).1;
        numbers = passes (step_mem ∙ k.mem) k.marks k.once;
        ring = λ n e. absurd (none_rings (sym unringed ∙ e));
      }
