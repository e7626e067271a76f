-- The code that is built for a trampoline for threads.
use Rattle.std.proofs.Common.{◌≡◌, ℕ, ◌+◌, true, List, length, Option, Some, None, Result, Ok, Err, refl, sym, ap, ap₂, ◌∙◌, subst}
use Rattle.std.specs.Option.{is_some}
use Rattle.std.specs.Prelude.{MatchResult, IfOk, IsOk}
use Rattle.std.proofs.lemmas.Bool.{false≢true}
use Rattle.pun_base.specs.declared.action.Action.{Action}
use Rattle.pun_base.specs.declared.action.Comparison.{Comparison}
use Rattle.cpu_state.specs.Bytes.{Stands}
use Rattle.elf_read.specs.Image.{image_of}
use Rattle.elf_read.specs.Refusals.{refusal}
use Rattle.length_decode.specs.Spelling.{Fields, IsInstruction, spelling}
use Rattle.code_bytes.specs.declared.code.Code.{Code}
use Rattle.insn_form.specs.declared.form.Insn.{Insn}
use Rattle.relocate_insn.specs.declared.relocation.NotRelocatable.{NotRelocatable}
use Rattle.start_entries.specs.declared.entry.StartEntry.{StartEntry}
use Rattle.start_entries.specs.Finding.{entry_at}
use Rattle.start_entries.specs.Laws.{IsBuilt}
use Rattle.sound_images.specs.Reports.{Line}
use Rattle.sound_images.proofs.ReadInstructions.{IsReadAt, read_at, found_address}
use Rattle.trampoline.specs.Atomic.{thread_len, back, can_by}
use Rattle.site_turns.specs.Modes.{can_in_threads, thread_event_of}
use Rattle.site_turns.specs.StartInsns.{form_from, form_at, IsInsnAt}
use Rattle.site_turns.proofs.TrampolineCodes.{taken_spelled}
use Rattle.site_turns.proofs.LeadingPlans.{mapped_some}
use Rattle.thread_runs.specs.Building.{event_of, when_of, size_if}
use Rattle.thread_runs.specs.ThreadCode.{Kind, code_if}
use Rattle.guest_threads.specs.ThreadPlanning.{HasThreadCode}

-- what the answer of a call that builds says of the code's length
abbrev pub TellsSize : Option Kind → List Comparison → Insn → ℕ → ℕ → Result Code NotRelocatable → Type 0
TellsSize b cs i len addr r = MatchResult r (λ (k : Code). size_if b cs i len addr ≡ Some (length k.bytes)) (λ z. thread_len i len addr ≡ None)

-- where an instruction can be displaced for threads, its code is built
pub built_ok : (b : Option Kind) (cs : List Comparison) (e : StartEntry) (i : Insn) (len : ℕ) (r : Result Code NotRelocatable) → is_some (can_in_threads e) ≡ true → e.form ≡ Some i → len ≡ e.len
    → TellsSize b cs i len e.addr r → IsOk r
built_ok b cs e i len (Ok k) h f l t = refl
built_ok b cs e i len (Err z) h f l t =
    let d : is_some (thread_len i e.len e.addr) ≡ true = mapped_some (λ n. n + back i) (thread_len i e.len e.addr) (ap (λ (o : Option Insn). is_some (can_by o e.len e.addr)) (sym f) ∙ h) in
    absurd (false≢true (ap is_some (sym t) ∙ ap (λ n. is_some (thread_len i n e.addr)) l ∙ d))

-- where a start is listed whose instruction can be displaced for threads, the instruction is known
pub form_known : (es : List StartEntry) (start : ℕ) → is_some (entry_at es start) ≡ true
    → ((e : StartEntry) → entry_at es start ≡ Some e → is_some (can_in_threads e) ≡ true) → form_at es start ≡ None → ⊥
form_known es start h k f = by_entry (entry_at es start) refl
  where
    by_entry : (o : Option StartEntry) → entry_at es start ≡ o → ⊥
    by_entry None e = false≢true (sym (ap is_some e) ∙ h)
    by_entry (Some e) o = let known : e.form ≡ None = sym (ap form_from o) ∙ f in
        false≢true (ap (λ (z : Option Insn). is_some (can_by z e.len e.addr)) (sym known) ∙ k e o)

-- the code that is built is the trampoline's
pub has_code : (a : Action) (event : Option Action) (file : List ℕ) (es : List StartEntry) (e : StartEntry) (i : Insn) (bs : List ℕ) (l : Line)
    (private : ℕ) (code : Code) (r : Result Code NotRelocatable) → refusal 0x10000 file ≡ None → IsBuilt file es → IsInsnAt file es l.tramp.start e i bs
    → event ≡ thread_event_of a l.tramp.event → r ≡ Ok code
    → ((f : Fields) → IsInstruction f → bs ≡ spelling f
    → IfOk r (λ (z : Code). z.bytes ≡ code_if (event_of event) (when_of event) private l.number f (e.addr + length bs) l.tramp.place))
    → HasThreadCode a (image_of file) private l code.bytes
has_code a event file es e i bs l private code r accepted own got same u told =
    let q : IsReadAt file e i = read_at file es l.tramp.start e i accepted own got.at got.form in
    let at : e.addr ≡ l.tramp.start = found_address es l.tramp.start e got.at in
    let f = q.fields in
    let spelled = taken_spelled file es l.tramp.start e i bs accepted own got in
    let next : e.addr + length bs ≡ l.tramp.start + length (spelling f) = ap₂ (λ x y. x + y) at (ap length spelled) in
    let is : code.bytes ≡ code_if (event_of event) (when_of event) private l.number f (e.addr + length bs) l.tramp.place =
    subst (λ (z : Result Code NotRelocatable). IfOk z (λ (z : Code). z.bytes ≡ code_if (event_of event) (when_of event) private l.number f (e.addr + length bs) l.tramp.place)) u
    (told f q.is spelled) in
    record {
      fields = f;
      spelled = q.is;
      stands = subst (λ (x : ℕ). Stands (image_of file) x (spelling f)) at q.stands;
      is = is ∙ (λ j. code_if (event_of (same j)) (when_of (same j)) private l.number f (next j) l.tramp.place);
    }
