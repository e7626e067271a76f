-- The code of a trampoline is short, and a site has two trampolines at most.
use Rattle.std.proofs.Common.{◌≡◌, ℕ, suc, ◌+◌, ◌*◌, ◌≤◌, Bool, true, false, cond, ◌&&◌, List, [], ◌∷◌, length, flat_map, Option, Some, None, refl, sym, ap, ◌∙◌, arith, length-append}
use Rattle.std.specs.Option.{is_some}
use Rattle.std.specs.List.{AllByRecursion}
use Rattle.std.proofs.lemmas.List.{length-map}
use Rattle.pun_base.specs.declared.action.Action.{Action}
use Rattle.pun_base.specs.Actions.{IsAction}
use Rattle.pun_base.specs.declared.tramp.Tramp.{Tramp}
use Rattle.insn_form.specs.declared.form.Seg.{Seg}
use Rattle.insn_form.specs.declared.form.Seg.TheVariants.{Plain, Fs, Gs}
use Rattle.insn_form.specs.declared.form.Spot.{Spot}
use Rattle.insn_form.specs.declared.form.Spot.TheVariants.{Reg, High, Mem}
use Rattle.insn_form.specs.declared.form.Insn.{Insn}
use Rattle.insn_form.specs.declared.form.Insn.TheVariants.{Exact, Asked, Ending}
use Rattle.insn_form.specs.declared.form.Op.TheVariants.{Jcc, Loop, Jmp, Call}
use Rattle.insn_form.specs.declared.form.Target.TheVariants.{Rel, Through}
use Rattle.insn_form.specs.Displacing.{spot_tail, insn_tail, prefix_count, load_length, is_low, insn_rip, falls, code_length, displaced_len}
use Rattle.insn_form.specs.Instruction.{insn_of}
use Rattle.insn_form.specs.Moved.{direct_target}
use Rattle.insn_form.proofs.CallOperands.{tail_few}
use Rattle.trampoline.specs.Events.{event_length}
use Rattle.elf_read.specs.Image.{image_of}
use Rattle.elf_emit.specs.declared.built.Built.{Built}
use Rattle.patch_report.specs.declared.origin.Version.TheVariants.{Two}
use Rattle.patch_report.specs.Grammar.{OutcomeCounts, RowCounts}
use Rattle.patch_report.specs.Values.{OutcomeValue, patched, left, RowValue}
use Rattle.patch_report.proofs.ListPlaces.{some_is}
use Rattle.patch_report.proofs.LineCounts.{tramps_few as scheme_few}
use Rattle.start_entries.specs.declared.entry.StartEntry.{StartEntry}
use Rattle.trampoline.proofs.TrampolineBytes.{some_code}
use Rattle.trampoline.proofs.TrampolineRuns.{kept_length}
use Rattle.start_entries.specs.Finding.{entry_at}
use Rattle.start_list.specs.Forms.{work_by, work_length}
use Rattle.start_entries.specs.Standing.{IsEntry, AreEntries}
use Rattle.sound_images.specs.Reports.{Line, tramps_of, row_lines, lines}
use Rattle.sound_images.specs.Rules.{Case}
use Rattle.site_turns.specs.States.{Scene, report_of}
use Rattle.site_turns.specs.Folded.{size_from}
use Rattle.site_turns.specs.Loaded.{case_of}
use Rattle.site_turns.specs.Modes.{event_rules}
use Rattle.site_turns.specs.Planning.{Request, Turns, scene_in, end_of, AreCodes, IsPlanned}
use Rattle.site_turns.specs.PlannedState.{PlannedState}
use Rattle.site_turns.specs.PlanLaws.{IsAsked}
use Rattle.site_turns.proofs.RequestScene.{entries_are, rows_long}
use Rattle.site_turns.proofs.PlannedReports.{planned_is_report}
use Rattle.site_turns.proofs.PlansWithOneJump.{entry_listed}
use Rattle.site_turns.proofs.CodeSizes.{code_fills}
use Rattle.site_turns.proofs.WorkLengths.{added_to}

-- ---- code

-- a prefix for the segment, and one for short addresses
prefixes_few : (seg : Seg) (short : Bool) → prefix_count seg short ≤ 2
prefixes_few Plain true = omega arith
prefixes_few Plain false = omega arith
prefixes_few Fs true = omega arith
prefixes_few Fs false = omega arith
prefixes_few Gs true = omega arith
prefixes_few Gs false = omega arith

-- the load of an operand
load_few : (s : Spot) → spot_tail s ≤ 6 → load_length s ≤ 10
load_few (Reg r) h = omega arith
load_few (High r) h = omega arith
load_few (Mem m) h = let k = prefixes_few m.seg m.short in omega arith

-- what is copied
copied_few : (copied syscall : Bool) (len n : ℕ) → cond copied (Some (cond syscall (len + 5) len)) None ≡ Some n → len ≤ 15 → n ≤ 46
copied_few true true len n e l = let k = some_is (len + 5) n e in omega (arith, k)
copied_few true false len n e l = let k = some_is len n e in omega (arith, k, l)
copied_few false s len n e l = absurd cc

-- relocated code has 46 bytes at most
relocated_few : (i : Insn) (len n : ℕ) → insn_tail i ≤ 6 → len ≤ 15 → code_length i len ≡ Some n → n ≤ 46
relocated_few (Exact (Jcc cc rel)) len n t l e = let k = some_is 6 n e in omega (arith, k)
relocated_few (Exact (Loop kind rel short)) len n t l e = absurd cc
relocated_few (Exact (Jmp (Rel rel))) len n t l e = let k = some_is 5 n e in omega (arith, k)
relocated_few (Exact (Jmp (Through s))) len n t l e = let k = some_is len n e in omega (arith, k, l)
relocated_few (Exact (Call (Rel rel))) len n t l e = let k = some_is 10 n e in omega (arith, k)
relocated_few (Exact (Call (Through s))) len n t l e =
    let k = some_is (36 + load_length s) n e in
    let m = load_few s t in
    omega (arith, k, m)
relocated_few (Exact op) len n t l e = let k = some_is len n e in omega (arith, k, l)
relocated_few (Asked form) len n t l e = copied_few form.copied form.syscall len n e l
relocated_few Ending len n t l e = absurd cc

-- a jump of five bytes or none
jump_few : (b : Bool) → cond b 5 0 ≤ 5
jump_few true = omega arith
jump_few false = omega arith

-- with the jump back 51
work_few : (o : Option Insn) (len a n : ℕ) → ((i : Insn) → o ≡ Some i → (insn_tail i ≤ 6) × (len ≤ 15)) → work_by o len a ≡ Some n
    → n ≤ 51
work_few None len a n h e = absurd cc
work_few (Some i) len a n h e =
    let q = added_to (λ n. n + cond (falls i) 5 0) (displaced_len i len a) n e in
    let d = kept_length (is_low (a + len) (direct_target i) && is_low (a + len) (insn_rip i)) (code_length i len) q.0 q.1 in
    let k = h i refl in
    let s = relocated_few i len q.0 k.0 k.1 d in
    let b = jump_few (falls i) in
    let m = q.2 in
    omega (arith, s, b, m)

-- an event has 80 bytes at most
event_few : (event : Bool) (action : Action) → cond event (event_length action) 0 ≤ 80
event_few true action = (some_code action).1
event_few false action = omega arith

module _ (g : Scene) (A : AreEntries g.image g.entries) where
  -- the instruction of an entry is short
  entry_few : (e : StartEntry) → IsEntry g.image e → (i : Insn) → e.form ≡ Some i → (insn_tail i ≤ 6) × (e.len ≤ 15)
  entry_few e is i f =
      let k = is.known (ap (λ (o : Option Insn). is_some o) f) in
      let short = k.spelled.short in
      let len = k.len in
      let same : i ≡ insn_of k.fields = some_is i (insn_of k.fields) (sym f ∙ k.form) in
      (tail_few i e.len (record { fields = k.fields; is = k.spelled; insn = same; size = sym len }), omega arith)

  -- so is the code of a trampoline
  size_few : (action : Action) (l : Line) (o : Option StartEntry) (n : ℕ) → entry_at g.entries l.tramp.start ≡ o
      → size_from (event_length action) l.tramp.event o ≡ Some n → n ≤ 131
  size_few action l None n a e = absurd cc
  size_few action l (Some s) n a e =
      let q = added_to (λ n. cond l.tramp.event (event_length action) 0 + n) (work_length s) n e in
      let is = A.each s (entry_listed g.entries l.tramp.start s a) in
      let w = work_few s.form s.len s.addr q.0 (entry_few s is) q.1 in
      let v = event_few l.tramp.event action in
      let m = q.2 in
      omega (arith, w, v, m)

  module _ (c : Case) (o : c.original ≡ g.image) (i : c.listed ≡ g.entries) (a : g.event_size ≡ event_length c.report.action) where
    -- there is as much code as there are trampolines, and each is short
    codes_few : (ls : List Line) (bs : List Built) → AreCodes c ls bs
        → AllByRecursion (λ (b : Built). length b.code.bytes ≤ 131) bs × (length bs ≡ length ls)
    codes_few [] [] h = (tt, refl)
    codes_few [] (b ∷ bs) h = absurd h
    codes_few (l ∷ ls) [] h = absurd h
    codes_few (l ∷ ls) (b ∷ bs) h =
        let k = codes_few ls bs h.3 in
        let s = size_few c.report.action l (entry_at g.entries l.tramp.start) (length b.code.bytes) refl
        (ap (λ (n : ℕ). size_from n l.tramp.event (entry_at g.entries l.tramp.start)) (sym a)
        ∙ code_fills c g l b.code.bytes A o i a h.1) in
        ((s, k.0), ap suc k.1)

-- ---- trampolines

-- none of a site that is left
tramps_few : (o : OutcomeValue) → OutcomeCounts Two o → length (tramps_of o) ≤ 2
tramps_few (patched p) h = let c = h.tramps in let k = scheme_few p.scheme in omega arith
tramps_few (left why) h = omega arith

-- two a row at most
lines_few : (rows : List RowValue) → AllByRecursion (RowCounts Two) rows → length (flat_map row_lines rows) ≤ 2 * length rows
lines_few [] h = omega arith
lines_few (r ∷ rs) h =
    let e = length-append (row_lines r) (flat_map row_lines rs) in
    let m : length (row_lines r) ≡ length (tramps_of r.outcome) =
    length-map (tramps_of r.outcome) (λ (t : Tramp). record { number = r.number; tramp = t }) in
    let k = tramps_few r.outcome h.0 in
    let s = lines_few rs h.1 in
    omega arith

-- what was planned has short code, and at most two pieces of it a site
pub built_few : (q : Request) (t : Turns) (p : PlannedState) → IsAsked q → IsAction q.action → IsPlanned q t p
    → AllByRecursion (λ (b : Built). length b.code.bytes ≤ 131) p.built × (length p.built ≤ 2 * length q.sites)
built_few q t p asked action planned =
    let g = scene_in q t in
    let rows = (end_of q t).rows in
    let c = case_of g (end_of q t) [] (image_of q.file) 0 in
    let k = codes_few g (entries_are q asked) c refl refl refl (lines (report_of g (end_of q t) [])) p.built planned.built in
    let long : length p.built ≡ length (flat_map row_lines rows) = k.1 in
    let r = planned_is_report q t p [] asked action planned tt tt in
    let few = lines_few rows r.plans in
    let as_many = rows_long (event_rules q.action) q t planned.turns in
    (k.0, omega arith)
