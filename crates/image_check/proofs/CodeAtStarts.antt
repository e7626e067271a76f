-- The code of a trampoline: of the instruction that stands at a listed start.
use Rattle.std.proofs.Common.{◌≡◌, ℕ, ◌+◌, ◌<◌, ◌≤◌, true, false, List, [], length, take, get_or, map, Option, Some, None, is_some, refl, sym, ap, ◌∙◌, subst, arith}
use Rattle.std.specs.Prelude.{option_map}
use Rattle.std.proofs.lemmas.Option.{slice_get-map, slice_get-get_or}
use Rattle.pun_base.specs.Memory.{Bytes}
use Rattle.cpu_state.specs.Bytes.{Stands}
use Rattle.elf_read.specs.Code.{window}
use Rattle.elf_read.specs.Image.{image_of}
use Rattle.length_decode.specs.Spelling.{Fields, IsInstruction, spelling}
use Rattle.length_decode.proofs.ShapeAnswers.{one_fields}
use Rattle.insn_form.specs.declared.form.Insn.{Insn}
use Rattle.insn_form.specs.Displacing.{displaced_len}
use Rattle.insn_form.specs.Step.{next_after}
use Rattle.insn_form.proofs.UniqueSteps.{front}
use Rattle.trampoline.specs.declared.event.Event.{Event}
use Rattle.trampoline.specs.Trampolines.{code_of, size_of}
use Rattle.start_entries.specs.declared.entry.StartEntry.{StartEntry}
use Rattle.start_entries.specs.Finding.{entry_at}
use Rattle.patch_report.specs.Grammar.{IsTold}
use Rattle.patch_report.specs.Values.{BodyValue}
use Rattle.patch_report.proofs.ReportBounds.{bounded}
use Rattle.patch_report.proofs.ListPlaces.{In}
use Rattle.image_check.specs.declared.flat.ReportLine.{ReportLine}
use Rattle.image_check.specs.CodeParts.{IsCodeOf, IsLow}
use Rattle.image_check.specs.Parts.{line_of}
use Rattle.sound_images.specs.Reports.{Line, lines, event_of}
use Rattle.sound_images.specs.Rules.{Case, displaced_by, displaced_from, displaced_at}
use Rattle.sound_images.proofs.ReadInstructions.{IsReadAt, found_address}
use Rattle.sound_images.proofs.ReportLines.{number_low, place_low}

-- one instruction at most stands at an address
stands_once : (m : Bytes) (a : ℕ) (f g : Fields) → IsInstruction f → IsInstruction g → Stands m a (spelling f)
    → Stands m a (spelling g) → f ≡ g
stands_once m a f g i j p q =
    let x = front m a 15 (spelling f) i.short p in
    let y = front m a 15 (spelling g) j.short q in
    one_fields f g _ _ i.formed j.formed (sym x ∙ y)

-- where the instruction isn't listed or can't be displaced, there is no code
pub no_code : (c : Case) (l : Line) → displaced_at c.listed l.tramp.start ≡ None → IsCodeOf c l []
no_code c l e = record {
  has = λ h. absurd (omega (arith, h));
  only = λ o h. let k : false ≡ true = sym (ap is_some e) ∙ h.displaced in absurd cc;
}

-- elsewhere there is the one of the instruction that stands there
one_code : (c : Case) (l : Line) (f : Fields) (code : List ℕ) → IsInstruction f → Stands c.original l.tramp.start (spelling f)
    → is_some (displaced_at c.listed l.tramp.start) ≡ true
    → code ≡ code_of (event_of c.report.action l) c.report.private.0 f (next_after l.tramp.start f) l.tramp.place → IsCodeOf c l code
one_code c l f code i s d e = record {
  has = λ h. record { fields = f; spelled = i; stands = s; displaced = d; is = e };
  only = λ o h. h.is
      ∙ ap (λ (g : Fields). code_of (event_of c.report.action l) c.report.private.0 g (next_after l.tramp.start g) l.tramp.place)
      (stands_once c.original l.tramp.start h.fields f h.spelled i h.stands s) ∙ sym e;
}

-- what is displaced, by the entry
pub displaced_is : (es : List StartEntry) (a : ℕ) (e : StartEntry) (i : Insn) → entry_at es a ≡ Some e → e.form ≡ Some i
    → displaced_at es a ≡ displaced_len i e.len e.addr
displaced_is es a e i h f = ap displaced_from h ∙ ap (λ (z : Option Insn). displaced_by z e.len e.addr) f

-- an option that two functions map to a number isn't empty
some_inside : (o : Option ℕ) (f g : ℕ → ℕ) (n : ℕ) → option_map f (option_map g o) ≡ Some n → is_some o ≡ true
some_inside None f g n h = absurd cc
some_inside (Some k) f g n h = refl

-- what is built at an entry is the code
pub built_code : (c : Case) (l : Line) (file : List ℕ) (e : StartEntry) (i : Insn) (bs code : List ℕ) (event : Option Event) (private : ℕ)
    → c.original ≡ image_of file → entry_at c.listed l.tramp.start ≡ Some e → e.form ≡ Some i → (q : IsReadAt file e i)
    → bs ≡ take e.len (window file e.addr) → event ≡ event_of c.report.action l → private ≡ c.report.private.0
    → ((f : Fields) → IsInstruction f → bs ≡ spelling f → code ≡ code_of event private f (e.addr + length bs) l.tramp.place)
    → size_of i (length bs) e.addr event ≡ Some (length code) → IsCodeOf c l code
built_code c l file e i bs code event private o h g q w u v k n =
    let a : e.addr ≡ l.tramp.start = found_address c.listed l.tramp.start e h in
    let b : bs ≡ spelling q.fields = w ∙ q.bytes in
    let size : length bs ≡ e.len = ap length b ∙ q.size in
    let low : e.addr + e.len ≤ 0x7FFF0000 = q.low in
    let next : e.addr + length bs ≡ next_after e.addr q.fields = omega (arith, size, low, q.size) in
    let some : is_some (displaced_len i (length bs) e.addr) ≡ true = some_inside _ _ _ (length code) n in
    one_code c l q.fields code q.is
    (subst (λ (m : Bytes). Stands m l.tramp.start (spelling q.fields)) (sym o)
    (subst (λ (x : ℕ). Stands (image_of file) x (spelling q.fields)) a q.stands))
    (ap is_some (displaced_is c.listed l.tramp.start e i h g) ∙ ap (λ z. is_some (displaced_len i z e.addr)) (sym size) ∙ some)
    (k q.fields q.is b
    ∙ (λ j. code_of (u j) (v j) q.fields (next j) l.tramp.place)
    ∙ ap (λ z. code_of (event_of c.report.action l) c.report.private.0 q.fields (next_after z q.fields) l.tramp.place) a)

-- where nothing is built, there is no code
pub not_built : (c : Case) (l : Line) (file : List ℕ) (e : StartEntry) (i : Insn) (bs : List ℕ) → entry_at c.listed l.tramp.start ≡ Some e
    → e.form ≡ Some i → (q : IsReadAt file e i) → bs ≡ take e.len (window file e.addr) → displaced_len i (length bs) e.addr ≡ None
    → IsCodeOf c l []
not_built c l file e i bs h g q w n =
    let size : length bs ≡ e.len = ap length (w ∙ q.bytes) ∙ q.size in
    no_code c l (displaced_is c.listed l.tramp.start e i h g ∙ ap (λ z. displaced_len i z e.addr) (sym size) ∙ n)

-- each trampoline of a report is as low as its code asks
pub line_low : (v : BodyValue) (ls : List ReportLine) (k : ℕ) (d : ReportLine) → IsTold v → map line_of ls ≡ lines v
    → k < length ls → IsLow v (line_of (get_or ls k d))
line_low v ls k d r e h =
    let b = bounded v r in
    let l = line_of (get_or ls k d) in
    let listed : In (lines v) l = subst (λ (z : List Line). In z l) e
    (k, slice_get-map line_of ls k ∙ ap (option_map line_of) (slice_get-get_or ls k d h)) in
    record {
      action = b.action;
      place = place_low v l b listed;
      number = omega (arith, number_low v l b listed, b.sites);
      private_low = omega (arith, b.range, b.end);
    }
