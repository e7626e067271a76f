-- How many bytes the code of a trampoline has: as many as its turn took for it.
use Rattle.std.proofs.Common.{◌≡◌, ℕ, ◌+◌, Bool, true, false, cond, eqb, List, ◌++◌, length, drop, length-append, Option, Some, None, refl, sym, ap, ◌∙◌, subst, arith}
use Rattle.std.specs.Option.{is_some, option_map}
use Rattle.std.proofs.lemmas.Bool.{eqb-true, false≢true}
use Rattle.pun_base.specs.Memory.{Bytes}
use Rattle.pun_base.specs.declared.action.Action.{Action}
use Rattle.cpu_state.specs.Bytes.{code_at, Stands}
use Rattle.length_decode.specs.Spelling.{Fields, IsInstruction, spelling}
use Rattle.length_decode.proofs.ShapeAnswers.{one_fields}
use Rattle.insn_form.specs.declared.form.Insn.{Insn}
use Rattle.insn_form.specs.Instruction.{insn_of}
use Rattle.insn_form.specs.Displacing.{falls, code_length, displaced_len, work_length}
use Rattle.insn_form.specs.Step.{next_after}
use Rattle.insn_form.proofs.UniqueSteps.{front}
use Rattle.relocate_insn.specs.Relocating.{relocated_code}
use Rattle.relocate_insn.proofs.RelocatedLengths.{relocated_long}
use Rattle.trampoline.specs.declared.event.Event.{Event}
use Rattle.trampoline.specs.Events.{event_length}
use Rattle.trampoline.specs.Trampolines.{event_part, part_length, back_if, code_of}
use Rattle.trampoline.proofs.TrampolineBytes.{part_long, back_long}
use Rattle.trampoline.proofs.TrampolineRuns.{kept_length}
use Rattle.patch_report.proofs.ListPlaces.{finds, contains_at}
use Rattle.start_entries.specs.declared.entry.StartEntry.{StartEntry}
use Rattle.start_entries.specs.Finding.{entry_at}
use Rattle.start_entries.specs.Standing.{AreEntries}
use Rattle.start_list.specs.Forms as forms
use Rattle.sound_images.specs.Reports.{Line, event_of}
use Rattle.sound_images.specs.Rules.{displaced_by, displaced_from, displaced_at}
use Rattle.site_turns.specs.States.{Scene}
use Rattle.site_turns.specs.Folded.{size_from, code_size}
use Rattle.site_turns.specs.Laws.{CodeFills}

-- two instructions that stand at one address are one
pub one_standing : (m : Bytes) (a : ℕ) (f h : Fields) → IsInstruction f → IsInstruction h → Stands m a (spelling f) → Stands m a (spelling h) → f ≡ h
one_standing m a f h i j s t =
    one_fields f h (drop (length (spelling f)) (code_at m a 15)) (drop (length (spelling h)) (code_at m a 15)) i.formed j.formed
    (sym (front m a 15 (spelling f) i.short s) ∙ front m a 15 (spelling h) j.short t)

-- a trampoline's event is as long as its action's, and has no byte where there is none
event_size : (event : Bool) (action : Action) (n : ℕ) (l : Line) → l.tramp.event ≡ event
    → part_length (event_of action l) ≡ cond event (event_length action) 0
event_size true action n l e = ap (λ b. part_length (cond b (Some (record { action = action; number = l.number })) None)) e
event_size false action n l e = ap (λ b. part_length (cond b (Some (record { action = action; number = l.number })) None)) e

-- the length of code by that of the relocated code
long_code : (event : Option Event) (p : ℕ) (f : Fields) (from next place k : ℕ) → IsInstruction f
    → displaced_len (insn_of f) (length (spelling f)) from ≡ Some k
    → length (code_of event p f next place) ≡ part_length event + (k + cond (falls (insn_of f)) 5 0)
long_code event p f from next place k is d =
    let work = relocated_code p f next (place + part_length event) in
    let back = back_if (falls (insn_of f)) (place + part_length event + length work) next in
    let size : code_length (insn_of f) (length (spelling f)) ≡ Some k = kept_length _ (code_length (insn_of f) (length (spelling f))) k d in
    let r : length work ≡ k = relocated_long f p next (place + part_length event) k is size in
    omega (
      arith,
      r,
      part_long event p,
      back_long (falls (insn_of f)) (place + part_length event + length work) next,
      length-append (event_part event p) (work ++ back),
      length-append work back,
    )

-- an option that is something is some value
pub something : {X : Type 0} (o : Option X) → is_some o ≡ true → (x : X) × (o ≡ Some x)
something None h = absurd (false≢true h)
something (Some x) h = (x, refl)

-- an instruction that can be displaced is known
form_known : (o : Option Insn) (len a : ℕ) → is_some (displaced_by o len a) ≡ true → is_some o ≡ true
form_known None len a h = h
form_known (Some i) len a h = refl

module _ (g : Scene) (l : Line) (action : Action) (private : ℕ) (A : AreEntries g.image g.entries) (f : Fields) (is : IsInstruction f)
    (stands : Stands g.image l.tramp.start (spelling f)) (can : is_some (displaced_at g.entries l.tramp.start) ≡ true)
    (E : g.event_size ≡ event_length action) where
  -- with the entry at its start, a line's code has as many bytes as the turns took for it
  by_entry : (e : StartEntry) → entry_at g.entries l.tramp.start ≡ Some e
      → code_size g l ≡ Some (length (code_of (event_of action l) private f (next_after l.tramp.start f) l.tramp.place))
  by_entry e at =
      let q = finds (λ (e : StartEntry). eqb e.addr l.tramp.start) g.entries e at in
      let same : e.addr ≡ l.tramp.start = eqb-true e.addr l.tramp.start q.passes in
      let d : is_some (displaced_by e.form e.len e.addr) ≡ true = ap (λ o. is_some (displaced_from o)) (sym at) ∙ can in
      let k = (A.each e (contains_at g.entries q.place e q.at)).known (form_known e.form e.len e.addr d) in
      let own : k.fields ≡ f = one_standing g.image l.tramp.start k.fields f k.spelled is
      (subst (λ (z : ℕ). Stands g.image z (spelling k.fields)) same k.stands) stands in
      let form : e.form ≡ Some (insn_of f) = k.form ∙ ap (λ z. Some (insn_of z)) own in
      let len : e.len ≡ length (spelling f) = sym k.len ∙ ap (λ z. length (spelling z)) own in
      let s = something (displaced_len (insn_of f) (length (spelling f)) e.addr)
      (ap (λ o. is_some (displaced_by o (length (spelling f)) e.addr)) (sym form) ∙ ap (λ n. is_some (displaced_by e.form n e.addr)) (sym len) ∙ d) in
      let long = long_code (event_of action l) private f e.addr (next_after l.tramp.start f) l.tramp.place s.0 is s.1 in
      let ev = event_size l.tramp.event action 0 l refl in
      ap (size_from g.event_size l.tramp.event) at
      ∙ ap (λ z. size_from z l.tramp.event (Some e)) E
      ∙ ap (λ o. option_map (λ n. cond l.tramp.event (event_length action) 0 + n) (forms.work_by o e.len e.addr)) form
      ∙ ap (λ n. option_map (λ n. cond l.tramp.event (event_length action) 0 + n) (work_length (insn_of f) n e.addr)) len
      ∙ ap (λ o. option_map (λ n. cond l.tramp.event (event_length action) 0 + n)
      (option_map (λ n. n + cond (falls (insn_of f)) 5 0) o)) s.1
      ∙ ap Some (omega (arith, long, ev))

  -- a line's code has as many bytes as its turn took
  pub size_is : code_size g l ≡ Some (length (code_of (event_of action l) private f (next_after l.tramp.start f) l.tramp.place))
  size_is =
      let o = displaced_entry (entry_at g.entries l.tramp.start) can in
      by_entry o.0 o.1
    where
      displaced_entry : (o : Option StartEntry) → is_some (displaced_from o) ≡ true → (e : StartEntry) × (o ≡ Some e)
      displaced_entry None h = absurd (false≢true h)
      displaced_entry (Some e) h = (e, refl)

-- a trampoline's code has as many bytes as its turn took for it
pub code_fills : CodeFills
code_fills c g l code A o i E h =
    let stands = subst (λ (m : Bytes). Stands m l.tramp.start (spelling h.fields)) o h.stands in
    let can = subst (λ (es : List StartEntry). is_some (displaced_at es l.tramp.start) ≡ true) i h.displaced in
    size_is g l c.report.action c.report.private.0 A h.fields h.spelled stands can E ∙ ap (λ z. Some (length z)) (sym h.is)
