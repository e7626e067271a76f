-- The two states between two steps, and what each step keeps of them.
use Rattle.std.proofs.Common.{◌≡◌, ℕ, ◌+◌, ◌<◌, ◌≤◌, Bool, true, false, not, ◌&&◌, ◌||◌, cond, eqb, leb, ltb, List, [], ◌∷◌, ◌++◌, length, map, Option, Some, None, refl, sym, ap₂, subst, arith}
use Rattle.std.specs.Prelude.{Contains}
use Rattle.std.specs.Option.{is_some}
use Rattle.std.proofs.lemmas.Bool.{and_parts, and_from, eqb-true, le-leb, lt-ltb, false≢true}
use Rattle.pun_base.specs.Memory.{Cell, Bytes}
use Rattle.pun_base.specs.declared.action.Action.{Action}
use Rattle.cpu_state.specs.Bytes.{allows, Stands}
use Rattle.length_decode.specs.Spelling.{Fields, IsInstruction, spelling}
use Rattle.insn_form.specs.declared.form.Insn.{Insn}
use Rattle.insn_form.specs.declared.form.Insn.TheVariants.{Exact, Asked, Ending}
use Rattle.insn_form.specs.declared.form.Op.TheVariants.{Jcc, Loop, Jmp, Call}
use Rattle.insn_form.specs.declared.form.Target.TheVariants.{Rel, Through}
use Rattle.insn_form.specs.Instruction.{insn_of}
use Rattle.insn_form.specs.Displacing.{code_length, displaced_len, falls, load_length}
use Rattle.insn_form.specs.Machine.{Machine, view}
use Rattle.insn_form.specs.Processor.{IsProcessorState}
use Rattle.insn_form.specs.Step.{IsAt, StepsBy, Step, next_after, task_of}
use Rattle.insn_form.specs.Runs.{IsRun, last_of}
use Rattle.insn_form.proofs.SpellingSlices.{imm_ends}
use Rattle.insn_form.proofs.UniqueSteps.{one_instruction}
use Rattle.insn_form.proofs.TouchedMemory.{united, touches}
use Rattle.insn_form.proofs.RegisterSizes.{along}
use Rattle.relocate_insn.specs.Relocating.{relocated_code}
use Rattle.relocate_insn.specs.Running.{IsPrivate}
use Rattle.relocate_insn.proofs.FixedCode.{SameCode, fixed_stands, fixed_on, step_code, run_code}
use Rattle.relocate_insn.proofs.PrivateRange.{step_perms, private_on}
use Rattle.relocate_insn.proofs.RelocatedLengths.{relocated_long}
use Rattle.trampoline.specs.declared.event.Event.{Event}
use Rattle.trampoline.specs.Events.{Seen, IsData, mark, marked}
use Rattle.trampoline.specs.Trampolines.{event_part, part_length, back_if, work_code, code_of}
use Rattle.trampoline.proofs.TrampolineBytes.{part_long}
use Rattle.trampoline.proofs.JoinedRuns.{run_perms}
use Rattle.trampoline.proofs.TrampolineRuns.{kept_length}
use Rattle.start_entries.specs.declared.entry.StartEntry.{StartEntry}
use Rattle.start_entries.specs.Finding.{entry_at}
use Rattle.patch_report.proofs.ListPlaces.{found, place_of, any_at, contains_at}
use Rattle.image_runs.specs.Listed.{is_start, is_known_start, is_listed_byte}
use Rattle.sound_images.specs.Rewriting.{Rewriting, is_new}
use Rattle.sound_images.specs.Events.{record_for, data_of}
use Rattle.sound_images.proofs.LoadedCode.{same_none}
use Rattle.sound_images.proofs.SoundFacts.{Own}
use Rattle.std.proofs.lemmas.List.{length-append}

-- what a view leaves out
abbrev pub hidden_at : Rewriting → ℕ → Bool
hidden_at r x = is_listed_byte r.listed x || is_new r x

-- the original's state s and the patched one u, after these events; n bytes of private range from lo on
pub record Related (r : Rewriting) (lo n : ℕ) (events : List Seen) (s u : Machine) : Type 0 where
  pub seen : view (hidden_at r) u ≡ view (hidden_at r) s
  pub own : SameCode r.original s.mem
  pub other : SameCode r.patched u.mem
  pub bare : (x : ℕ) → is_new r x ≡ true → s.mem x ≡ None
  pub range : IsPrivate (hidden_at r) lo n u.mem
  pub part : data_of r u ≡ map Some (record_for r events)
  pub is_data : IsData r.action (record_for r events)
  pub processor : IsProcessorState s

-- a run of the patched image beside a step of the original
pub related_next : (r : Rewriting) (lo n : ℕ) (events events' : List Seen) (s t u v : Machine) (us : List Machine)
    → Related r lo n events s u → Step (hidden_at r) s t → IsRun Step u us → last_of u us ≡ v
    → view (hidden_at r) v ≡ view (hidden_at r) t → data_of r v ≡ map Some (record_for r events') → IsData r.action (record_for r events')
    → Related r lo n events' t v
related_next r lo n events events' s t u v us h st run e seen part fits = record {
  seen = seen;
  own = step_code (hidden_at r) r.original s t st h.own;
  other = subst (λ (z : Machine). SameCode r.patched z.mem) e (run_code r.patched u us run h.other);
  bare = λ x k. same_none (t.mem x) (s.mem x) (step_perms (hidden_at r) s t st x) (h.bare x k);
  range = subst (λ (z : Machine). IsPrivate (hidden_at r) lo n z.mem) e
      (private_on (hidden_at r) lo n u.mem (last_of u us).mem (run_perms u us run) h.range);
  part = part;
  is_data = fits;
  processor = along (hidden_at r) s t st h.processor;
}

-- a quiet step leaves new bytes alone too
pub quiet_step : (r : Rewriting) (lo n : ℕ) (events : List Seen) (s t u : Machine) (f : Fields) → Related r lo n events s u
    → StepsBy (is_listed_byte r.listed) f s t → StepsBy (hidden_at r) f s t
quiet_step r lo n events s t u f h st =
    let next = next_after s.rip f in record {
      at = st.at;
      apart = (united (is_listed_byte r.listed) (is_new r) (task_of f next) next s).1
          (st.apart, touches (is_new r) (task_of f next) next s t h.bare st.acts);
      acts = st.acts;
    }

-- at a listed start there is an entry
pub entry_started : (es : List StartEntry) (a : ℕ) → is_start es a ≡ true → (e : StartEntry) × Contains es e × (e.addr ≡ a)
entry_started es a h = let q = found (λ (e : StartEntry). eqb e.addr a) es h in
    (q.is, contains_at es q.place q.is q.at, eqb-true q.is.addr a q.passes)

-- a known start is one of an entry with a form
pub entry_known : (es : List StartEntry) (a : ℕ) → is_known_start es a ≡ true
    → (e : StartEntry) × Contains es e × (e.addr ≡ a) × (is_some e.form ≡ true)
entry_known es a h =
    let q = found (λ (e : StartEntry). eqb e.addr a && is_some e.form) es h in
    let k = and_parts (eqb q.is.addr a) (is_some q.is.form) q.passes in
    (q.is, contains_at es q.place q.is q.at, eqb-true q.is.addr a k.0, k.1)

-- each byte of an entry is listed
pub listed_byte : (es : List StartEntry) (e : StartEntry) (x : ℕ) → Contains es e → e.addr ≤ x → x < e.addr + e.len
    → is_listed_byte es x ≡ true
listed_byte es e x c l h =
    let p = place_of es e c in
    any_at (λ (e : StartEntry). leb e.addr x && ltb x (e.addr + e.len)) es p.0 e p.1
    (and_from (leb e.addr x) (ltb x (e.addr + e.len)) (le-leb e.addr x l) (lt-ltb x (e.addr + e.len) h))

-- no entry is found where no start is listed
pub not_listed : (es : List StartEntry) (a : ℕ) → is_some (entry_at es a) ≡ false → is_start es a ≡ false
not_listed [] a h = refl
not_listed (e ∷ es) a h = by_test (eqb e.addr a) h (λ k. not_listed es a k)
  where
    by_test : (b : Bool) → is_some (cond b (Some e) (entry_at es a)) ≡ false → (is_some (entry_at es a) ≡ false → is_start es a ≡ false)
        → (b || is_start es a) ≡ false
    by_test true k go = absurd (false≢true (sym k))
    by_test false k go = go k

-- the instruction at which the original stands is the one of the entry
pub own_is : (original : Bytes) (s : Machine) (a : ℕ) (f g : Fields) → SameCode original s.mem → a ≡ s.rip → IsAt s f → Own original a g
    → g ≡ f
own_is original s a f g c e at o =
    one_instruction s g f (record {
      spelled = o.spelled;
      here = subst (λ (z : ℕ). Stands s.mem z (spelling g)) e
          (fixed_stands s.mem a (spelling g) (fixed_on original s.mem a (spelling g) c o.fixed));
    }) at

-- where one cell is held and another isn't, that one is nothing
pub some_parts : (o q : Option Cell) → (is_some o && not (is_some q)) ≡ true → (is_some o ≡ true) × (q ≡ None)
some_parts None q e = absurd (false≢true e)
some_parts (Some c) None e = (refl, refl)
some_parts (Some c) (Some d) e = absurd (false≢true e)

-- a byte of the patched image alone is new
pub new_if : (o q : Option Cell) → is_some o ≡ true → q ≡ None → (is_some o && not (is_some q)) ≡ true
new_if o q e f = ap₂ (λ x (y : Option Cell). x && not (is_some y)) e f

-- a byte that is held with a permission is held
pub allowed_some : (p : ℕ) (o : Option Cell) → allows p o ≡ true → is_some o ≡ true
allowed_some p None e = absurd (false≢true e)
allowed_some p (Some c) e = refl

-- relocated code has a byte
asked_some : (copied syscall : Bool) (len n : ℕ) → 0 < len → cond copied (Some (cond syscall (len + 5) len)) None ≡ Some n → 0 < n
asked_some true true len n k e = let q : len + 5 ≡ n = cc in omega arith
asked_some true false len n k e = let q : len ≡ n = cc in omega arith
asked_some false syscall len n k e = absurd cc

-- the relocated code of an instruction has a byte
pub code_some : (i : Insn) (len n : ℕ) → 0 < len → code_length i len ≡ Some n → 0 < n
code_some (Exact (Jcc condition rel)) len n k e = let q : 6 ≡ n = cc in omega arith
code_some (Exact (Loop kind rel short)) len n k e = absurd cc
code_some (Exact (Jmp (Rel rel))) len n k e = let q : 5 ≡ n = cc in omega arith
code_some (Exact (Jmp (Through s))) len n k e = let q : len ≡ n = cc in omega arith
code_some (Exact (Call (Rel rel))) len n k e = let q : 10 ≡ n = cc in omega arith
code_some (Exact (Call (Through s))) len n k e = let q : 36 + load_length s ≡ n = cc in omega arith
code_some (Exact op) len n k e = let q : len ≡ n = cc in omega arith
code_some (Asked form) len n k e = asked_some form.copied form.syscall len n k e
code_some Ending len n k e = absurd cc

-- a trampoline has code after its event
pub code_longer : (event : Option Event) (p : ℕ) (f : Fields) (from next place k : ℕ) → IsInstruction f
    → displaced_len (insn_of f) (length (spelling f)) from ≡ Some k → part_length event < length (code_of event p f next place)
code_longer event p f from next place k is d =
    let work = relocated_code p f next (place + part_length event) in
    let size : code_length (insn_of f) (length (spelling f)) ≡ Some k = kept_length _ (code_length (insn_of f) (length (spelling f))) k d in
    let some : 0 < length (spelling f) = omega (arith, imm_ends f) in
    omega (
      arith,
      code_some (insn_of f) (length (spelling f)) k some size,
      relocated_long f p next
          (place + part_length event) k is size,
      part_long event p,
      length-append (event_part event p)
          (work_code p f next (place + part_length event)),
      length-append work
          (back_if (falls (insn_of f)) (place + part_length event + length work) next),
    )

-- events leave what the later ones leave of what the earlier ones did
pub marked_more : (action : Action) (xs ys : List Seen) (bytes : List ℕ)
    → marked action (xs ++ ys) bytes ≡ marked action ys (marked action xs bytes)
marked_more action [] ys bytes = refl
marked_more action (x ∷ xs) ys bytes = marked_more action xs ys (mark action x.number x.regs bytes)
