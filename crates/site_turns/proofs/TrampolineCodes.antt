-- The code that is built for a trampoline: its length, and that it is the trampoline's code.
use Rattle.std.proofs.Common.{◌≡◌, ℕ, ◌+◌, ◌≤◌, Bool, true, false, cond, List, length, take, Option, Some, None, Result, Ok, Err, refl, sym, ap, ◌∙◌, subst, arith}
use Rattle.std.specs.Option.{is_some}
use Rattle.std.specs.Prelude.{MatchResult, IfOk, IsOk}
use Rattle.std.proofs.lemmas.Bool.{false≢true}
use Rattle.std.proofs.lemmas.List.{length-take}
use Rattle.pun_base.specs.Memory.{Bytes}
use Rattle.pun_base.specs.declared.action.Action.{Action}
use Rattle.cpu_state.specs.Bytes.{Stands}
use Rattle.elf_read.specs.Code.{window}
use Rattle.elf_read.specs.Image.{image_of}
use Rattle.elf_read.specs.Refusals.{refusal}
use Rattle.length_decode.specs.Spelling.{Fields, IsInstruction, spelling}
use Rattle.code_bytes.specs.declared.code.Code.{Code}
use Rattle.insn_form.specs.declared.form.Insn.{Insn}
use Rattle.insn_form.specs.Step.{next_after}
use Rattle.insn_form.specs.Displacing.{displaced_len}
use Rattle.relocate_insn.specs.Relocating.{Spells}
use Rattle.relocate_insn.specs.declared.relocation.NotRelocatable.{NotRelocatable}
use Rattle.trampoline.specs.declared.event.Event.{Event}
use Rattle.trampoline.specs.Events.{event_length}
use Rattle.trampoline.specs.Trampolines.{code_of, size_of}
use Rattle.start_entries.specs.declared.entry.StartEntry.{StartEntry}
use Rattle.start_entries.specs.Finding.{entry_at}
use Rattle.start_list.specs.Forms.{work_by, work_length}
use Rattle.start_entries.specs.Laws.{IsBuilt}
use Rattle.sound_images.specs.Reports.{Line, event_of}
use Rattle.sound_images.specs.Rules.{Case, HasCode, displaced_by, displaced_from, displaced_at}
use Rattle.sound_images.proofs.ReadInstructions.{IsReadAt, read_at, found_address}
use Rattle.site_turns.specs.Folded.{size_from}
use Rattle.site_turns.specs.StartInsns.{form_from, IsInsnAt}
use Rattle.site_turns.proofs.LeadingPlans.{mapped_some, work_displaced}

-- what the answer of a call that builds says of the code's length
abbrev pub TellsSize : Insn → ℕ → ℕ → Option Event → Result Code NotRelocatable → Type 0
TellsSize i len addr event r =
    MatchResult r (λ (k : Code). size_of i len addr event ≡ Some (length k.bytes)) (λ z. displaced_len i len addr ≡ None)

-- where an instruction can be displaced, its code is built
told_ok : (i : Insn) (len addr : ℕ) (event : Option Event) (r : Result Code NotRelocatable) → is_some (displaced_len i len addr) ≡ true
    → TellsSize i len addr event r → IsOk r
told_ok i len addr event (Ok k) h t = refl
told_ok i len addr event (Err z) h t = let e : true ≡ is_some {T = ℕ} None = sym h ∙ ap is_some t in absurd (let q : true ≡ false = e in cc)

-- where a size is known for a trampoline, its instruction is known
pub size_known : (size : ℕ) (b : Bool) (o : Option StartEntry) → is_some (size_from size b o) ≡ true → form_from o ≡ None → ⊥
size_known size b None h f = false≢true h
size_known size b (Some e) h f =
    let k : is_some (work_length e) ≡ true = mapped_some (λ n. cond b size 0 + n) (work_length e) h in
    false≢true (ap (λ (o : Option Insn). is_some (work_by o e.len e.addr)) (sym f) ∙ k)

-- an instruction at a listed start of a file that is accepted, of the starts that are built of it
module _ (file : List ℕ) (es : List StartEntry) (start : ℕ) (e : StartEntry) (i : Insn) (bs : List ℕ)
    (accepted : refusal 0x10000 file ≡ None) (own : IsBuilt file es) (got : IsInsnAt file es start e i bs) where
  abbrev q : IsReadAt file e i
  q = read_at file es start e i accepted own got.at got.form

  -- as many bytes are taken of the window as it has at least
  pub within : (n : ℕ) (ws : List ℕ) → n ≡ e.len → ws ≡ window file e.addr → n ≡ length (take n ws)
  within n ws l w = let k = q.within in omega (arith, length-take n ws, l, ap length w, k)

  -- as many bytes are taken as the entry has
  pub taken_len : length bs ≡ e.len
  taken_len = let k = q.within in omega (arith, length-take e.len (window file e.addr), ap length got.bytes, k)

  -- the bytes are the spelling of the instruction's fields
  pub taken_spelled : bs ≡ spelling q.fields
  taken_spelled = got.bytes ∙ q.bytes

  -- the bytes spell the instruction
  pub spells : Spells bs i
  spells = record { fields = q.fields; is = q.is; spelled = taken_spelled; insn = q.insn }

  -- the instruction's bytes end at 0x7FFF0000 or below
  pub low : e.addr + length bs ≤ 0x7FFF0000
  low = let k = q.low in omega (arith, taken_len, k)

  -- where the code of a trampoline has a size, its instruction can be displaced
  work : (action : Action) (b : Bool) → is_some (size_from (event_length action) b (entry_at es start)) ≡ true
      → is_some (displaced_by e.form e.len e.addr) ≡ true
  work action b h =
      work_displaced e.form e.len e.addr
      (mapped_some (λ k. cond b (event_length action) 0 + k) (work_length e)
      (ap (λ o. is_some (size_from (event_length action) b o)) (sym got.at) ∙ h))

  -- where a size is known for the trampoline, a call that builds its code succeeds
  pub ok : (action : Action) (b : Bool) (event : Option Event) (r : Result Code NotRelocatable)
      → is_some (size_from (event_length action) b (entry_at es start)) ≡ true
      → TellsSize i (length bs) e.addr event r → IsOk r
  ok action b event r h t =
      let d : is_some (displaced_by (Some i) e.len e.addr) ≡ true =
      ap (λ (o : Option Insn). is_some (displaced_by o e.len e.addr)) (sym got.form) ∙ work action b h in
      told_ok i (length bs) e.addr event r (ap (λ k. is_some (displaced_len i k e.addr)) taken_len ∙ d) t

  -- what such a call has built is the trampoline's code
  pub has : (k : Case) (l : Line) (event : Option Event) (private : ℕ) (code : Code) (r : Result Code NotRelocatable)
      → l.tramp.start ≡ start
      → k.original ≡ image_of file → k.listed ≡ es → private ≡ k.report.private.0 → event ≡ event_of k.report.action l
      → r ≡ Ok code → is_some (size_from (event_length k.report.action) l.tramp.event (entry_at es start)) ≡ true
      → ((f : Fields) → IsInstruction f → bs ≡ spelling f
      → IfOk r (λ (z : Code). z.bytes ≡ code_of event private f (e.addr + length bs) l.tramp.place))
      → HasCode k l code.bytes
  has k l event private code r s o h p v u m b =
      let a : e.addr ≡ l.tramp.start = found_address es start e got.at ∙ sym s in
      let f = q.fields in
      let size = q.size in
      let low = q.low in
      let next : e.addr + length bs ≡ next_after e.addr f = omega (arith, taken_len, size, low) in
      let is : code.bytes ≡ code_of event private f (e.addr + length bs) l.tramp.place =
      subst (λ (z : Result Code NotRelocatable). IfOk z (λ (z : Code). z.bytes ≡ code_of event private f (e.addr + length bs)
      l.tramp.place))
      u (b f q.is taken_spelled) in
      record {
        fields = f;
        spelled = q.is;
        stands = subst (λ (m : Bytes). Stands m l.tramp.start (spelling f)) (sym o)
            (subst (λ (x : ℕ). Stands (image_of file) x (spelling f)) a q.stands);
        displaced = ap (λ (xs : List StartEntry). is_some (displaced_at xs l.tramp.start)) h
            ∙ ap (λ x. is_some (displaced_at es x)) s ∙ ap (λ x. is_some (displaced_from x)) got.at ∙ work k.report.action l.tramp.event m;
        is = is ∙ (λ j. code_of (v j) (p j) f (next j) l.tramp.place)
            ∙ ap (λ x. code_of (event_of k.report.action l) k.report.private.0 f (next_after x f) l.tramp.place) a;
      }
