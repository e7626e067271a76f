-- The code that is built for a trampoline is the one that it has for threads.
use Rattle.std.proofs.Common.{◌≡◌, inl, inr, ℕ, ◌+◌, ◌<◌, false, true, List, ◌++◌, length, length-append, get_or, map, Option, Some, None, refl, sym, ap, ◌∙◌, subst, arith}
use Rattle.std.specs.Option.{is_some, option_map}
use Rattle.std.proofs.lemmas.Option.{slice_get-map, slice_get-get_or}
use Rattle.pun_base.specs.Memory.{Bytes}
use Rattle.pun_base.specs.declared.action.Action.{Action}
use Rattle.cpu_state.specs.Bytes.{Stands}
use Rattle.elf_read.specs.Image.{image_of}
use Rattle.elf_read.specs.Refusals.{refusal}
use Rattle.length_decode.specs.Spelling.{Fields, IsInstruction, spelling}
use Rattle.insn_form.specs.declared.form.Insn.{Insn}
use Rattle.insn_form.specs.Displacing.{displaced_len}
use Rattle.insn_form.specs.Step.{next_after}
use Rattle.trampoline.specs.Atomic.{is_atomic, thread_len, back, can_by}
use Rattle.start_entries.specs.declared.entry.StartEntry.{StartEntry}
use Rattle.start_entries.specs.Finding.{entry_at}
use Rattle.start_entries.specs.Laws.{IsBuilt}
use Rattle.patch_report.specs.Grammar.{IsTold}
use Rattle.patch_report.specs.Values.{BodyValue}
use Rattle.patch_report.proofs.ReportBounds.{bounded}
use Rattle.patch_report.proofs.ListPlaces.{In, contains_at}
use Rattle.image_check.specs.CodeParts.{IsLow}
use Rattle.image_check.specs.Parts.{line_of}
use Rattle.sound_images.specs.Reports.{Line, lines}
use Rattle.sound_images.specs.Rules.{Case, displaced_by, displaced_from}
use Rattle.image_check.specs.declared.flat.ReportLine.{ReportLine}
use Rattle.image_check.specs.declared.verdict.Verdict.{Verdict}
use Rattle.image_check.specs.declared.verdict.Verdict.TheVariants.{Yes, No}
use Rattle.sound_images.proofs.ReadInstructions.{IsReadAt, read_at, found_address}
use Rattle.sound_images.proofs.ReportLines.{number_low, place_low}
use Rattle.site_turns.specs.StartInsns.{form_from, form_at, IsInsnAt}
use Rattle.site_turns.proofs.TrampolineCodes.{taken_len, taken_spelled}
use Rattle.site_turns.specs.Modes.{thread_event_of}
use Rattle.thread_runs.specs.Building.{event_of, when_of, size_if}
use Rattle.guest_threads.specs.FromTurns.{code_of_line}
use Rattle.thread_runs.specs.ThreadCode.{event_len, event_if, thread_work, code_if}
use Rattle.thread_runs.proofs.WorkSize.{told}
use Rattle.thread_runs.proofs.WorkTails.{work_long}
use Rattle.thread_check.specs.ThreadRules.{moved_from, is_marked}
use Rattle.thread_check.specs.LineParts.{Lands, first_broken, IsThreadCode, IsCodeFound, IsCodeVerdict, IsSoundLine, IsLineFailure, IsLinesVerdict}
use Rattle.thread_check.proofs.LandingJumps.{lands_too}

-- an option that is mapped to something is something
mapped_from : (f : ℕ → ℕ) (o : Option ℕ) (n : ℕ) → option_map f o ≡ Some n → (k : ℕ) × (o ≡ Some k)
mapped_from f None n h = absurd cc
mapped_from f (Some k) n h = (k, refl)

-- the code that is built of what is taken of the file
pub built : (event : Option Action) (c : Case) (l : Line) (file : List ℕ) (e : StartEntry) (i : Insn) (bs code : List ℕ) (private : ℕ)
    → event ≡ thread_event_of c.report.action l.tramp.event
    → refusal 0x10000 file ≡ None → IsBuilt file c.listed → c.original ≡ image_of file → IsInsnAt file c.listed l.tramp.start e i bs → e.shared ≡ false → private ≡ c.report.private.0
    → ((f : Fields) → IsInstruction f → bs ≡ spelling f → code ≡ code_if (event_of event) (when_of event) private l.number f (e.addr + length bs) l.tramp.place)
    → size_if (event_of event) (when_of event) i (length bs) e.addr ≡ Some (length code) → IsThreadCode c l code
built event c l file e i bs code private same accepted own o got alone p k s =
    let q : IsReadAt file e i = read_at file c.listed l.tramp.start e i accepted own got.at got.form in
    let spelled = taken_spelled file c.listed l.tramp.start e i bs accepted own got in
    let size : length bs ≡ e.len = taken_len file c.listed l.tramp.start e i bs accepted own got in
    let a : e.addr ≡ l.tramp.start = found_address c.listed l.tramp.start e got.at in
    let w = mapped_from _ (thread_len i (length bs) e.addr) (length code) s in
    let long : thread_len i e.len e.addr ≡ Some w.0 = ap (λ z. thread_len i z e.addr) (sym size) ∙ w.1 in
    let low = q.low in
    let long_is = q.size in
    let next : e.addr + length bs ≡ next_after e.addr q.fields = omega (arith, size, low, long_is) in
    let front = event_if (event_of event) (when_of event) private l.number in
    let work = thread_work q.fields (e.addr + length bs) (l.tramp.place + event_len (event_of event) (when_of event)) in
    let longer : 0 < length work = work_long q.fields (e.addr + length bs) (l.tramp.place + event_len (event_of event) (when_of event)) w.0 e.len e.addr q.is q.size
    (ap (λ (x : Insn). thread_len x e.len e.addr) (sym q.insn) ∙ long) in
    let written : length code ≡ length (front ++ work) = ap length (k q.fields q.is spelled) in
    record {
      moved = ap (λ (z : Option StartEntry). is_some (moved_from z)) got.at ∙ ap (λ (z : Option Insn). is_some (can_by z e.len e.addr)) got.form
          ∙ ap (λ z. is_some (option_map (λ n. n + back i) z)) long;
      alone = ap is_marked got.at ∙ alone;
      has = record {
        fields = q.fields;
        spelled = q.is;
        stands = subst (λ (m : Bytes). Stands m l.tramp.start (spelling q.fields)) (sym o)
            (subst (λ (x : ℕ). Stands (image_of file) x (spelling q.fields)) a q.stands);
        displaced = ap is_some (ap displaced_from got.at ∙ ap (λ (z : Option Insn). displaced_by z e.len e.addr) got.form
            ∙ (told (is_atomic i) (displaced_len i e.len e.addr) w.0 long).1);
        is = k q.fields q.is spelled ∙ (λ j. code_if (event_of (same j)) (when_of (same j)) (p j) l.number q.fields (next j) l.tramp.place)
            ∙ ap (λ z. code_of_line c.report.action c.report.private.0 l q.fields (next_after z q.fields)) a;
      };
      some = omega (arith, written, length-append front work, longer);
    }

-- where nothing is built, the instruction can't be displaced
pub not_built : (c : Case) (l : Line) (file : List ℕ) (e : StartEntry) (i : Insn) (bs : List ℕ)
    → refusal 0x10000 file ≡ None → IsBuilt file c.listed → IsInsnAt file c.listed l.tramp.start e i bs → thread_len i (length bs) e.addr ≡ None → IsCodeFound c l None
not_built c l file e i bs accepted own got s =
    let size : length bs ≡ e.len = taken_len file c.listed l.tramp.start e i bs accepted own got in
    inl (ap moved_from got.at ∙ ap (λ (z : Option Insn). can_by z e.len e.addr) got.form
    ∙ ap (option_map (λ n. n + back i)) (ap (λ z. thread_len i z e.addr) (sym size) ∙ s))

-- where no instruction is known at a start, none can be displaced
pub not_known : (c : Case) (l : Line) → form_at c.listed l.tramp.start ≡ None → IsCodeFound c l None
not_known c l f = by_entry (entry_at c.listed l.tramp.start) refl
  where
    by_entry : (o : Option StartEntry) → entry_at c.listed l.tramp.start ≡ o → IsCodeFound c l None
    by_entry None e = inl (ap moved_from e)
    by_entry (Some e) o = let known : e.form ≡ None = sym (ap form_from o) ∙ f in
        inl (ap moved_from o ∙ ap (λ (z : Option Insn). can_by z e.len e.addr) known)

-- where an entry is marked, its instruction shares a byte
pub not_alone : (c : Case) (l : Line) (e : StartEntry) → entry_at c.listed l.tramp.start ≡ Some e → e.shared ≡ true → IsCodeFound c l None
not_alone c l e h s = inr (ap is_marked h ∙ s)

-- without code rule 3 fails
pub no_code_fails : (c : Case) (l : Line) (start : ℕ) → start ≡ l.tramp.start → IsCodeFound c l None → IsLineFailure c l (No start 3)
no_code_fails c l start e h = inl (refl, e, elim h [ inl m ↦ inl m | inr s ↦ inr (inl s) ])

-- each trampoline of a report is as low as its code asks
pub line_low : (v : BodyValue) (ls : List ReportLine) (k : ℕ) (d : ReportLine) → IsTold v → map line_of ls ≡ lines v → k < length ls
    → In (lines v) (line_of (get_or ls k d)) × IsLow v (line_of (get_or ls k d))
line_low v ls k d r e h =
    let b = bounded v r in
    let l = line_of (get_or ls k d) in
    let listed : In (lines v) l = subst (λ (z : List Line). In z l) e
    (k, slice_get-map line_of ls k ∙ ap (option_map line_of) (slice_get-get_or ls k d h)) in (
      listed,
      record {
        action = b.action;
        place = place_low v l b listed;
        number = omega (arith, number_low v l b listed, b.sites);
        private_low = omega (arith, b.range, b.end);
      },
    )

-- a trampoline that isn't sound settles the verdict
pub line_settles : (c : Case) (l : Line) (v : Verdict) → In (lines c.report) l → IsLineFailure c l v → IsLinesVerdict c v
line_settles c l Yes h f = absurd f
line_settles c l (No addr rule) h f = inl (l, contains_at (lines c.report) h.0 l h.1, f)

-- a trampoline of which rules 3 and 4 show nothing is sound
pub sound_line : (c : Case) (l : Line) (start place : ℕ) (code bytes : List ℕ) → start ≡ l.tramp.start → place ≡ l.tramp.place → bytes ≡ code
    → IsThreadCode c l code → IsCodeVerdict c.original c.patched start place bytes Yes → IsSoundLine c l code
sound_line c l start place code bytes s p b k v = record {
  code_is = k;
  lands = subst (λ (z : ℕ). Lands c.original c.patched l.tramp.start z) p (subst (λ (z : ℕ). Lands c.original c.patched z place) s v.0);
  held = ap (λ (z : ℕ). first_broken c.original c.patched z code) (sym p) ∙ ap (first_broken c.original c.patched place) (sym b) ∙ v.1;
}

-- a trampoline of which they show something isn't
pub failing_line : (c : Case) (l : Line) (start place : ℕ) (code bytes : List ℕ) (addr rule : ℕ) → start ≡ l.tramp.start → place ≡ l.tramp.place
    → bytes ≡ code → IsThreadCode c l code → IsCodeVerdict c.original c.patched start place bytes (No addr rule) → IsLineFailure c l (No addr rule)
failing_line c l start place code bytes addr rule s p b k (inl v) = inl (
  v.0,
  v.1 ∙ s,
  inr (inr (inr (λ t.
      v.2 (subst (λ (z : ℕ). Lands c.original c.patched start z) (sym p)
      (subst (λ (z : ℕ). Lands c.original c.patched z l.tramp.place) (sym s) (lands_too c l.tramp.start l.tramp.place t)))))),
)
failing_line c l start place code bytes addr rule s p b k (inr v) = inr (
  v.0,
  record {
    code = code;
    code_is = k;
    first = ap (λ (z : ℕ). first_broken c.original c.patched z code) (sym p) ∙ ap (first_broken c.original c.patched place) (sym b) ∙ v.1;
  },
)
