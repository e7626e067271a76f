-- Where no rule fails, the patched image follows each step of the original.
use Rattle.std.proofs.Common.{◌≡◌, ◌≢◌, ◌⊎◌, inl, inr, ℕ, zero, suc, ◌+◌, ◌-◌, ◌<◌, ◌≤◌, Bool, true, false, cond, eqb, List, [], ◌∷◌, ◌++◌, length, map, Option, Some, None, refl, sym, ap, ap₂, ◌∙◌, subst, arith, append_assoc, length-append}
use Rattle.std.specs.Prelude.{Contains, slice_get}
use Rattle.std.specs.Option.{is_some}
use Rattle.std.proofs.lemmas.Bool.{cases_eq, eq-eqb, ne_eqb, cond-true, cond-false, false_from_ne_true, false≢true}
use Rattle.std.proofs.lemmas.List.{append-nil}
use Rattle.cpu_state.specs.Bytes.{Stands}
use Rattle.cpu_state.specs.Fixed.{IsFixed}
use Rattle.length_decode.specs.Spelling.{Fields, spelling}
use Rattle.insn_form.specs.Machine.{Machine, view, standing_at}
use Rattle.insn_form.specs.Step.{StepsBy, Step, next_after}
use Rattle.insn_form.specs.Runs.{nowhere, IsRun, last_of}
use Rattle.insn_form.proofs.RepeatedSteps.{same_step}
use Rattle.relocate_insn.specs.Running.{IsReady, Inside}
use Rattle.relocate_insn.proofs.FixedCode.{next_address, fixed_stands, fixed_on, fixed_front}
use Rattle.relocate_insn.proofs.PieceSteps.{gone_to, step_of}
use Rattle.trampoline.specs.declared.event.Event.{Event}
use Rattle.trampoline.specs.Events.{Seen, event_code, event_length, IsData}
use Rattle.trampoline.specs.Trampolines.{part_length, work_code, code_of}
use Rattle.trampoline.specs.Running.{room_of, Recorded, Returns, IsTrampoline, TrampolinesWork, BeginsWithNoJump}
use Rattle.trampoline.proofs.JoinedRuns.{run_append, last_append, inside_more, inside_append}
use Rattle.trampoline.proofs.DataParts.{bytes_keep, bytes_size}
use Rattle.start_entries.specs.declared.entry.StartEntry.{StartEntry}
use Rattle.start_entries.specs.Leading.{JumpsTo, Leads}
use Rattle.start_entries.specs.Standing.{AreEntries}
use Rattle.patch_report.specs.Bounds.{IsBounded}
use Rattle.patch_report.proofs.ListPlaces.{some_is}
use Rattle.sound_images.specs.Reports.{Line, event_of, lines, is_written}
use Rattle.sound_images.specs.Rules.{Case}
use Rattle.image_runs.specs.Listed.{is_start, is_known_start, is_listed_byte}
use Rattle.sound_images.specs.Rewriting.{Site, Rewriting, shown}
use Rattle.sound_images.specs.Events.{sites_at, events_at, events_of, due_events, log, passes, record_for, data_of}
use Rattle.sound_images.specs.Soundness.{sites_of, rewriting_of}
use Rattle.sound_images.specs.Headline.{Reaches}
use Rattle.sound_images.proofs.HeadlineRuns.{Hidden, Block, Keeps as KeepsRelation, joined_run, last_joined, passes_append}
use Rattle.sound_images.proofs.LoadedCode.{jump_made, fixed_at}
use Rattle.sound_images.proofs.EventNumbers.{event_number, none_marked, one_marked, sites_start}
use Rattle.sound_images.proofs.ReportLines.{number_low, place_low}
use Rattle.sound_images.proofs.SoundFacts.{Enters, Holds, line_code, entry_own}
use Rattle.sound_images.proofs.LineEvents.{event_if, event_fits, event_is, part_short, data_fits, record_more, data_more}
use Rattle.sound_images.proofs.SiteLines.{site_line}
use Rattle.sound_images.proofs.RelatedStates.{hidden_at, Related, related_next, quiet_step, entry_started, entry_known, own_is, not_listed, allowed_some, code_longer}

-- a run up to a trampoline's place
pub record Led (r : Rewriting) (u : Machine) (place : ℕ) : Type 0 where
  pub mids : List Machine
  pub run : IsRun Step u (mids ++ gone_to u place ∷ [])
  pub few : length mids ≤ 1
  pub hidden : Hidden r mids
  pub passed : passes r mids ≡ []

-- a run through a trampoline, from its place on
record Through (r : Rewriting) (lo hi : ℕ) (due events : List Seen) (t v : Machine) : Type 0 where
  inner : List Machine
  end : Machine
  run : IsRun Step v (inner ++ end ∷ [])
  few : length inner ≤ 21
  inside : Inside (lo + 1) hi inner
  seen : view (hidden_at r) end ≡ view (hidden_at r) t
  part : data_of r end ≡ map Some (record_for r (events ++ due))

-- two hidden runs one after the other are hidden
hidden_append : (r : Rewriting) (xs ys : List Machine) → Hidden r xs → Hidden r ys → Hidden r (xs ++ ys)
hidden_append r [] ys p q = q
hidden_append r (x ∷ xs) ys p q = (p.0, hidden_append r xs ys p.1 q)

module _ (c : Case) (A : AreEntries c.original c.listed) (B : IsBounded c.report) (S : Holds c) (W : TrampolinesWork)
    (J : BeginsWithNoJump) where
  abbrev R : Rewriting
  R = rewriting_of c

  -- the first address of the private range
  abbrev lo : ℕ
  lo = c.report.private.0

  -- the length of the private range
  abbrev size : ℕ
  size = c.report.private.1 - c.report.private.0

  -- the relation of the two states
  abbrev Rel : List Seen → Machine → Machine → Type 0
  Rel events s u = Related R lo size events s u

  -- a line at its place in the report
  abbrev At : ℕ → Line → Type 0
  At i l = slice_get (lines c.report) i ≡ Some l

  -- starts are held in the original, and new bytes aren't
  start_held : (a : ℕ) → is_start c.listed a ≡ true → is_some (c.original a) ≡ true
  start_held a h =
      let q = entry_started c.listed a h in let i = A.each q.0 q.1 in
      allowed_some 1 (c.original a) (i.executed a (omega (arith, q.2)) (omega (arith, q.2, i.some))).0

  -- what is new is not held in the original
  not_held : (x : ℕ) → c.original x ≡ None → is_some (c.original x) ≡ true → ⊥
  not_held x e h = false≢true (sym (ap is_some e) ∙ h)

  -- at what is new no start is listed
  not_start : (x : ℕ) → c.original x ≡ None → is_start c.listed x ≡ false
  not_start x e = false_from_ne_true (is_start c.listed x) (λ h. not_held x e (start_held x h))

  module _ (i : ℕ) (l : Line) (at : At i l) where
    -- the instruction of the line
    abbrev E : Enters c l
    E = S.enters l (i, at)

    -- the event of the line
    abbrev event : Option Event
    event = event_of c.report.action l

    -- the code of the line
    abbrev code : List ℕ
    code = line_code c l E.fields

    -- the number of the line is one of the report's
    number_less : l.number < length c.report.rows
    number_less = number_low c.report l B (i, at)

    -- the place of the line is a program's
    place_less : l.tramp.place < 0x7FFF0000
    place_less = place_low c.report l B (i, at)

    -- the address after the instruction
    some_next : next_after l.tramp.start E.fields ≡ l.tramp.start + length (spelling E.fields)
    some_next = next_address l.tramp.start (length (spelling E.fields)) (omega (arith, E.own.low))

    -- the event has code after it
    longer : part_length event < length code
    longer = code_longer event lo E.fields l.tramp.start (next_after l.tramp.start E.fields) l.tramp.place E.size E.own.spelled E.displaced

    -- the code of the line is new
    code_new : (x : ℕ) → l.tramp.place ≤ x → x < l.tramp.place + length code → c.original x ≡ None
    code_new x a b = S.paged l (i, at) E x a b

    -- the private range has room for its event
    enough : room_of event ≤ size
    enough = event_fits l.tramp.event c.report.action l.number (length c.report.rows) size number_less (omega (arith, S.room))

    -- the code of the line is a trampoline
    is_tramp : IsTrampoline code event E.fields l.tramp.start l.tramp.place lo
    is_tramp =
        subst (λ (z : ℕ). IsTrampoline (code_of event lo E.fields z l.tramp.place) event E.fields l.tramp.start l.tramp.place lo)
        (sym some_next)
        (W event E.fields l.tramp.start l.tramp.place lo E.size E.own.spelled
        (event_is l.tramp.event c.report.action l.number B.action (omega (arith, number_less, B.sites))) E.displaced E.own.low
        (omega (arith, place_less, part_short l.tramp.event c.report.action l.number)))

    -- of the events at an address of the code, only this line's counts, and only at its place
    passed_at : (x : ℕ) → l.tramp.place ≤ x → x < l.tramp.place + length code
        → events_at R x ≡ cond (eqb l.tramp.place x) (event_number l.tramp.event l.number) []
    passed_at x a b = one_marked (λ (m : Line). m.tramp.place) x (lines c.report) i l at (λ j m n k f e. other j m n k e)
      where
        other : (j : ℕ) (m : Line) → j ≢ i → At j m → m.tramp.place ≢ x
        other j m n k e =
            let F = S.enters m (j, k) in
            let some = code_longer (event_of c.report.action m) lo F.fields m.tramp.start
            (next_after m.tramp.start F.fields) m.tramp.place F.size F.own.spelled F.displaced in
            S.apart i j l m (λ z. n (sym z)) at k E F x a b (omega arith) (omega (arith, some))

    -- what stands inside is at no start and passes no event
    inside_hidden : (xs : List Machine) → Inside (l.tramp.place + 1) (l.tramp.place + length code) xs → Hidden R xs
    inside_hidden [] h = tt
    inside_hidden (x ∷ xs) h = (not_start x.rip (code_new x.rip (omega (arith, h.0)) h.1), inside_hidden xs h.2)

    -- states inside the trampoline, past its first byte, pass no event
    inside_passed : (xs : List Machine) → Inside (l.tramp.place + 1) (l.tramp.place + length code) xs → passes R xs ≡ []
    inside_passed [] h = refl
    inside_passed (x ∷ xs) h =
        let away : l.tramp.place ≢ x.rip = λ e. omega (arith, h.0) in
        ap₂ (λ (y z : List ℕ). y ++ z) (passed_at x.rip (omega (arith, h.0)) h.1
        ∙ cond-false (eqb l.tramp.place x.rip) (event_number l.tramp.event l.number) [] (ne_eqb l.tramp.place x.rip away))
        (inside_passed xs h.2)

    -- the event at the place
    first_passed : events_at R l.tramp.place ≡ event_number l.tramp.event l.number
    first_passed = passed_at l.tramp.place (omega arith) (omega (arith, longer))
        ∙ cond-true (eqb l.tramp.place l.tramp.place) (event_number l.tramp.event l.number) [] (eq-eqb l.tramp.place l.tramp.place refl)

    -- the event that is due at the line's start
    first_due : (a : ℕ) → l.tramp.start ≡ a → sites_at R a ≡ event_number l.tramp.event l.number
    first_due a e =
        sites_start c.report.action a c.report.rows S.own
        ∙ one_marked (λ (m : Line). m.tramp.start) a (lines c.report) i l at (λ j m n k f g. S.once j i m l n k at (g ∙ sym e))
        ∙ cond-true (eqb l.tramp.start a) (event_number l.tramp.event l.number) [] (eq-eqb l.tramp.start a e)

    module _ (events : List Seen) (s u : Machine) (h : Rel events s u) (here : l.tramp.start ≡ s.rip) where
      -- the state at the place
      abbrev v0 : Machine
      v0 = gone_to u l.tramp.place

      -- the trampoline is about to run
      ready : IsReady (hidden_at R) lo size l.tramp.place code s v0
      ready = record {
        processor = h.processor.core;
        seen = ap (standing_at 0) h.seen;
        there = refl;
        stands = fixed_on c.patched u.mem l.tramp.place code h.other (S.code l (i, at) E);
        range = h.range;
      }

      -- the trampoline runs, and from its recorded event the original's step leads on
      works : (us : List Machine) × Recorded (hidden_at R) event lo size l.tramp.place (record_for R events) s v0 us
          × ((s' : Machine) → StepsBy (hidden_at R) E.fields s s' → Returns (hidden_at R) lo (l.tramp.place + part_length event)
          (l.tramp.place + length code) s' (last_of v0 us))
      works = is_tramp (hidden_at R) size (record_for R events) s v0 (sym here) enough ready
          (record { held = h.part; is_data = data_fits l.tramp.event c.report.action l.number (record_for R events) h.is_data })

      -- the event that is due
      abbrev due : List Seen
      due = events_of s.core.regs (event_number l.tramp.event l.number)

      -- the data part then has it
      part_after : data_of R (last_of v0 works.0) ≡ map Some (record_for R (events ++ due))
      part_after =
          works.1.marked ∙ ap (map Some) (record_more R l.tramp.event l.number s.core.regs events)

      -- the data part is data once it has the event
      data_after : IsData R.action (record_for R (events ++ due))
      data_after = data_more R l.tramp.event l.number s.core.regs events B.action
          (let n = bytes_size u.mem R.data_lo R.data_len (record_for R events) h.part in omega (arith, enough, n)) h.is_data

      -- the whole trampoline
      through : (t : Machine) → StepsBy (hidden_at R) E.fields s t → Through R l.tramp.place (l.tramp.place + length code) due events t v0
      through t st =
          let us = works.0 in
          let rec = works.1 in
          let ret = works.2 t st in
          record {
            inner = us ++ ret.inner;
            end = ret.end;
            run = subst (λ (z : List Machine). IsRun Step v0 z) (sym (append_assoc us ret.inner (ret.end ∷ [])))
                (run_append v0 us (ret.inner ++ ret.end ∷ []) rec.run ret.run);
            few = omega (arith, length-append us ret.inner, rec.few, ret.few);
            inside = inside_append (l.tramp.place + 1) (l.tramp.place + length code) us ret.inner
                (inside_more (l.tramp.place + 1) (l.tramp.place + part_length event + 1) (l.tramp.place + 1)
                (l.tramp.place + length code) us (omega arith) (omega (arith, longer)) rec.inside)
                (inside_more (l.tramp.place + part_length event + 1) (l.tramp.place + length code) (l.tramp.place + 1)
                (l.tramp.place + length code) ret.inner (omega arith) (omega arith) ret.inside);
            seen = ret.seen;
            part = bytes_keep (last_of v0 us).mem ret.end.mem (lo + 64) (size - 64)
                (λ x a b. ret.kept x (h.range.inside x (omega arith) (omega arith)) (inr (omega arith))) ∙ part_after;
          }

  -- no start is the place of an event
  unpassed : (u : Machine) → is_start c.listed u.rip ≡ true → passes R (u ∷ []) ≡ []
  unpassed u h = ap (λ (z : List ℕ). z ++ []) (none_marked (λ (m : Line). m.tramp.place) u.rip (lines c.report)
      (λ j m k f e. not_held u.rip (ap c.original (sym e) ∙ code_new j m k m.tramp.place (omega arith) (omega (arith, longer j m k)))
      (start_held u.rip h)))

  -- where an event's code stands, no jump does
  jump_away : (j : ℕ) (m : Line) (mid target : ℕ) → At j m → m.tramp.event ≡ true → JumpsTo c.patched mid target → m.tramp.place ≢ mid
  jump_away j m mid target k f jump e =
      let F = S.enters m (j, k) in
      let n = next_after m.tramp.start F.fields in
      let there : IsFixed c.patched m.tramp.place (event_code c.report.action lo m.number ++ work_code lo F.fields n
      (m.tramp.place + event_length c.report.action)) =
      subst (λ (b : Bool). IsFixed c.patched m.tramp.place (code_of (event_if b c.report.action m.number) lo F.fields n m.tramp.place)) f
      (S.code m (j, k) F) in
      let stands = fixed_stands c.patched m.tramp.place (event_code c.report.action lo m.number)
      (fixed_front c.patched m.tramp.place (event_code c.report.action lo m.number) _ there) in
      J c.report.action lo m.number mid c.patched jump.fields jump.rel
      (subst (λ (z : ℕ). Stands c.patched z (event_code c.report.action lo m.number)) e stands) jump.spelled
      (fixed_stands c.patched mid (spelling jump.fields) jump.stands) jump.jump

  -- from a start to the place to which it leads
  lead : (events : List Seen) (s u : Machine) (a place : ℕ) → Rel events s u → u.rip ≡ a → Leads c.patched c.listed a place → Led R u place
  lead events s u a place h e
      (inl j) = record { mids = []; run = (jump_made c.patched u a place j h.other e, tt); few = omega arith; hidden = tt; passed = refl }
  lead events s u a place h e (inr q) =
      record {
        mids = gone_to u q.0 ∷ [];
        run = (jump_made c.patched u a q.0 q.1 h.other e, (jump_made c.patched (gone_to u q.0) q.0 place q.3 h.other refl, tt));
        few = omega arith;
        hidden = (not_listed c.listed q.0 q.2, tt);
        passed = ap (λ (z : List ℕ). z ++ []) (none_marked (λ (m : Line). m.tramp.place) q.0 (lines c.report)
            (λ j m k f. jump_away j m q.0 place k f q.3));
      }

  -- a start of a line
  by_line : (events : List Seen) (s t u : Machine) (i : ℕ) (l : Line) (f : Fields) → Rel events s u → At i l → l.tramp.start ≡ s.rip
      → StepsBy (hidden_at R) f s t → Block Step R Rel events s t u
  by_line events s t u i l f h at here st =
      let e = S.enters l (i, at) in
      let same : e.fields ≡ f = own_is c.original s l.tramp.start f e.fields h.own here st.at e.own in
      let d = lead events s u l.tramp.start l.tramp.place h (ap (λ (z : Machine). z.rip) h.seen ∙ sym here) e.leads in
      let v = gone_to u l.tramp.place in
      let k = through i l at events s u h here t (subst (λ (z : Fields). StepsBy (hidden_at R) z s t) (sym same) st) in
      let inner = d.mids ++ v ∷ k.inner in
      let run : IsRun Step u (inner ++ k.end ∷ []) = subst (λ (z : List Machine). IsRun Step u z)
      (sym (append_assoc d.mids (v ∷ k.inner) (k.end ∷ []))) (joined_run Step u v d.mids (k.inner ++ k.end ∷ []) d.run k.run) in
      let numbers : log R (s ∷ []) ≡ event_number l.tramp.event l.number = logged (event_number l.tramp.event l.number) (sites_at R s.rip)
      (first_due i l at s.rip here) in
      let seen : due_events R (s ∷ []) ≡ events_of s.core.regs (event_number l.tramp.event l.number) = ap
      (λ (z : List ℕ). events_of s.core.regs z ++ []) (first_due i l at s.rip here) ∙ append-nil _ in
      record {
        inner = inner;
        end = k.end;
        run = run;
        few = omega (arith, length-append d.mids (v ∷ k.inner), d.few, k.few);
        hidden = hidden_append R d.mids (v ∷ k.inner) d.hidden (
          not_start l.tramp.place
              (code_new i l at l.tramp.place (omega arith) (omega (arith, longer i l at))),
          inside_hidden i l at k.inner k.inside,
        );
        passed = passes_append R d.mids (v ∷ k.inner) ∙ ap₂ (λ (y z : List ℕ). y ++ z) d.passed
            (ap₂ (λ (y z : List ℕ). y ++ z) (first_passed i l at) (inside_passed i l at k.inner k.inside))
            ∙ append-nil (event_number l.tramp.event l.number) ∙ sym numbers;
        kept = subst (λ (z : List Seen). Rel (events ++ z) t k.end) (sym seen)
            (related_next R lo size events (events ++ events_of s.core.regs (event_number l.tramp.event l.number)) s t u k.end
            (inner ++ k.end ∷ []) h (f, st) run (last_append u k.end inner) k.seen k.part (data_after i l at events s u h here));
      }
    where
      logged : (ns xs : List ℕ) → xs ≡ ns → map (λ (e : Seen). e.number) (events_of s.core.regs xs ++ []) ≡ ns
      logged ns xs e = ap (λ (z : List ℕ). map (λ (e : Seen). e.number) (events_of s.core.regs z ++ [])) e
          ∙ ap (map (λ (e : Seen). e.number)) (append-nil (events_of s.core.regs ns)) ∙ numbers_back ns
        where
          numbers_back : (ns : List ℕ) → map (λ (e : Seen). e.number) (events_of s.core.regs ns) ≡ ns
          numbers_back [] = refl
          numbers_back (n ∷ ns) = ap (λ z. n ∷ z) (numbers_back ns)

  -- a start that no line has: its bytes stay
  own_byte : (e : StartEntry) (x : ℕ) → Contains c.listed e → ((i : ℕ) (l : Line) → At i l → l.tramp.start ≢ e.addr) → e.addr ≤ x
      → x < e.addr + e.len → c.patched x ≡ c.original x
  own_byte e x k away a b =
      S.kept x (allowed_some 1 (c.original x) ((A.each e k).executed x a b).0)
      (false_from_ne_true (is_written c.report x) (λ w. let o = S.owned x w in
      away o.in_lines.0 o.line o.in_lines.1 (o.start ∙ sym (ap (λ (z : StartEntry). z.addr) (o.alone e k a b)))))

  -- a start that no line has: the instruction itself is run
  by_own : (events : List Seen) (s t u : Machine) (e : StartEntry) (f : Fields) → Rel events s u → Contains c.listed e → e.addr ≡ s.rip
      → is_some e.form ≡ true → ((i : ℕ) (l : Line) → At i l → l.tramp.start ≢ s.rip) → StepsBy (hidden_at R) f s t
      → Block Step R Rel events s t u
  by_own events s t u e f h k at known away st =
      let o = entry_own c.original e (A.each e k) known in
      let same : o.0 ≡ f = own_is c.original s e.addr f o.0 h.own at st.at o.1 in
      let there : IsFixed c.patched e.addr (spelling o.0) = fixed_at c.original c.patched e.addr (spelling o.0) (omega (arith, o.1.low))
      (λ x a b. own_byte e x k (λ i l j g. away i l j (g ∙ at)) a (omega (arith, o.2))) o.1.fixed in
      let here : Stands u.mem s.rip (spelling f) = subst (λ (z : Fields). Stands u.mem s.rip (spelling z)) same
      (subst (λ (z : ℕ). Stands u.mem z (spelling o.0)) at (fixed_stands u.mem e.addr (spelling o.0)
      (fixed_on c.patched u.mem e.addr (spelling o.0) h.other there))) in
      let n = same_step (hidden_at R) f s t u st h.seen here in
      let one : Step nowhere u n.0 = step_of u n.0 f n.1.at n.1.acts in
      let none : sites_at R s.rip ≡ [] = sites_start c.report.action s.rip c.report.rows S.own
      ∙ none_marked (λ (m : Line). m.tramp.start) s.rip (lines c.report) (λ i l j g. away i l j) in
      let seen : due_events R (s ∷ []) ≡ [] = ap (λ (z : List ℕ). events_of s.core.regs z ++ []) none in
      let part : data_of R n.0 ≡ map Some (record_for R events) =
      bytes_keep u.mem n.0.mem (lo + 64) (size - 64) (λ x a b. n.3 x (h.range.inside x (omega arith) (omega arith))) ∙ h.part in
      record {
        inner = [];
        end = n.0;
        run = (one, tt);
        few = omega arith;
        hidden = tt;
        passed = sym (ap (map (λ (e : Seen). e.number)) seen);
        kept = subst (λ (z : List Seen). Rel (events ++ z) t n.0) (sym seen)
            (subst (λ (z : List Seen). Rel z t n.0) (sym (append-nil events))
            (related_next R lo size events events s t u n.0 (n.0 ∷ []) h (f, st) (one, tt) refl n.2 part h.is_data));
      }

  -- a line that starts there, or none
  line_at : (a : ℕ) (ls : List Line) → ((i : ℕ) × (l : Line) × (slice_get ls i ≡ Some l) × (l.tramp.start ≡ a))
      ⊎ ((i : ℕ) (l : Line) → slice_get ls i ≡ Some l → l.tramp.start ≢ a)
  line_at a [] = inr (λ i l e f. absurd cc)
  line_at a (l ∷ ls) = elim (cases_eq l.tramp.start a) [
    | inl h ↦ inl (0, l, refl, h)
    | inr n ↦ elim (line_at a ls) [
      | inl q ↦ inl (suc q.0, q.1, q.2, q.3)
      | inr k ↦ inr (by_place n k)
    ]
  ]
    where
      by_place : l.tramp.start ≢ a → ((i : ℕ) (m : Line) → slice_get ls i ≡ Some m → m.tramp.start ≢ a) → (i : ℕ) (m : Line)
          → slice_get (l ∷ ls) i ≡ Some m → m.tramp.start ≢ a
      by_place n k zero m e f = n (ap (λ (z : Line). z.tramp.start) (some_is l m e) ∙ f)
      by_place n k (suc i) m e f = k i m e f

  -- each step of the original is followed
  block : (events : List Seen) (s t u : Machine) → Rel events s u → is_known_start c.listed s.rip ≡ true
      → Step (is_listed_byte c.listed) s t → Block Step R Rel events s t u
  block events s t u h known st =
      let q = quiet_step R lo size events s t u st.0 h st.1 in
      let e = entry_known c.listed s.rip known in
      elim (line_at s.rip (lines c.report)) [
        | inl l ↦ by_line events s t u l.0 l.1 st.0 h l.2 l.3 q
        | inr k ↦ by_own events s t u e.0 st.0 h e.1 e.2 e.3 k q
      ]

  -- from a site the event comes before the relocated code
  before : (events : List Seen) (s u : Machine) → Rel events s u → (site : Site) → Contains (sites_of c.report) site → site.addr ≡ s.rip
      → (vs : List Machine) × Reaches Step R site s events u vs
  before events s u h site k e =
      let q = site_line c.report site S.own k in
      let l = q.line in
      let here : l.tramp.start ≡ s.rip = q.start ∙ e in
      let d = lead events s u l.tramp.start l.tramp.place h (ap (λ (z : Machine). z.rip) h.seen ∙ sym here)
      (S.enters l (q.place, q.at)).leads in
      let w = works q.place l q.at events s u h here in
      let v = gone_to u l.tramp.place in
      let last : last_of u (d.mids ++ v ∷ w.0) ≡ last_of v w.0 = last_joined u v d.mids w.0 in
      let part : part_length (event_of c.report.action l) ≡ event_length c.report.action = ap
      (λ (b : Bool). part_length (event_if b c.report.action l.number)) q.event in (
        d.mids ++ v ∷ w.0,
        record {
          run = joined_run Step u v d.mids w.0 d.run w.1.run;
          bounded = omega (arith, length-append d.mids (v ∷ w.0), d.few, w.1.few);
          there = ap (λ (z : Machine). z.rip) last ∙ w.1.there ∙ ap (λ (n : ℕ). l.tramp.place + n) part ∙ q.relocated;
          same = ap (λ (z : Machine). standing_at 0 (shown R z)) last ∙ w.1.seen;
          recorded = ap (data_of R) last ∙ part_after q.place l q.at events s u h here
              ∙ (λ j. map Some (record_for R (events ++ events_of s.core.regs (event_number (q.event j) (q.number j)))));
        },
      )

  -- the relation is kept
  pub keeps : KeepsRelation Step R Rel
  keeps = record { seen = λ events s u h. h.seen; part = λ events s u h. h.part; block = block; before = before; unpassed = unpassed }
