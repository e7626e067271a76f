-- One thing is found of a guest, at each run.
use Rattle.std.proofs.Common.{◌≡◌, ◌↔◌, ◌⊎◌, inl, inr, ℕ, ◌<◌, ◌≤◌, Bool, true, false, List, ◌∷◌, length, Option, Some, None, Ok, refl, sym, ap, ◌∙◌, subst, arith}
use Rattle.std.specs.Prelude.{count_by}
use Rattle.std.proofs.lemmas.Bool.{cases_lt}
use Rattle.pun_base.specs.Memory.{joined}
use Rattle.cpu_alu.specs.FlagWord.{unpacked}
use Rattle.cpu_state.specs.declared.script.Script.{Script}
use Rattle.cpu_state.specs.declared.script_regions.Region.{Region}
use Rattle.elf_read.specs.Entries.{entry_of}
use Rattle.elf_read.specs.Image.{image_of}
use Rattle.elf_emit.specs.Layout.{count}
use Rattle.insn_form.specs.Machine.{Machine}
use Rattle.insn_form.specs.Runs.{nowhere, IsRun, last_of}
use Rattle.insn_form.specs.Step.{Step}
use Rattle.insn_form.proofs.UniqueSteps.{one_run}
use Rattle.start_entries.specs.Entries.{entries_of}
use Rattle.start_entries.specs.declared.entry.StartEntry.{StartEntry}
use Rattle.cpu_step.specs.declared.stop.Stop.{Stop}
use Rattle.image_runs.specs.Listed.{is_start}
use Rattle.image_runs.specs.Quiet.{IsQuiet}
use Rattle.image_step.specs.Running.{Ends}
use Rattle.image_runs.specs.Starting.{start_machine, regions_memory}
use Rattle.sound_images.specs.Rewriting.{shown}
use Rattle.rewrite_core.specs.Judging.{Job, Judged}
use Rattle.rewrite_core.specs.Rewrites.{file_of}
use Rattle.rewrite_core.proofs.OneVerdict.{judged_once}
use Rattle.guest_gen.specs.Files.{guest_file}
use Rattle.guest_gen.specs.Texts.{guest_starts, guest_sites}
use Rattle.guest_gen.specs.Worlds.{IsGuestScript}
use Rattle.guest_gen.proofs.OneWorld.{world_is_one}
use Rattle.guest_findings.specs.Findings.{guest_asked, guest_listed, guest_rewriting, outside_count, RunsUntil, counters, Findings, IsRunSo, most_guest_steps, most_patched_steps}
use Rattle.guest_findings.specs.GuestLaws.{FindingsAreOne}
use Rattle.guest_findings.specs.Tallies.{Tally, IsTallyFrom}
use Rattle.guest_findings.proofs.GuestAcceptance.{guest_in_order}
use Rattle.guest_findings.proofs.RunFronts.{front_is, goes_on}

-- tests that pass where one proposition holds are equal
one_test : (a b : Bool) (P : Type 0) → ((a ≡ true) ↔ P) → ((b ≡ true) ↔ P) → a ≡ b
one_test true true P h k = refl
one_test true false P h k = sym (k.1 (h.0 refl))
one_test false true P h k = h.1 (k.0 refl)
one_test false false P h k = refl

-- ---- two runs from one state

-- where no step leads on, no run goes further
none_further : (s : Machine) (ts us : List Machine) → IsRun Step s ts → IsRun Step s us
    → ((t : Machine) → Step nowhere (last_of s ts) t → ⊥) → length ts < length us → ⊥
none_further s ts us a b none l =
    let front = front_is s ts us (omega arith) a b in
    let next = goes_on (length ts) s us l b in
    none next.0 (subst (λ (z : List Machine). Step nowhere (last_of s z) next.0) (sym front) next.1)

-- runs of which neither is shorter are equal
as_long : (s : Machine) (ts us : List Machine) → IsRun Step s ts → IsRun Step s us → (length ts < length us → ⊥)
    → (length us < length ts → ⊥) → ts ≡ us
as_long s ts us a b h k = elim (cases_lt (length ts) (length us)) [
  | inl l ↦ absurd (h l)
  | inr l ↦ elim (cases_lt (length us) (length ts)) [
    | inl m ↦ absurd (k m)
    | inr m ↦ one_run s ts us (omega arith) a b
  ]
]

-- ---- the original's run

-- a run has so many steps, or fewer and no step leads on
record IsWhole (m : Machine) (made n : ℕ) : Type 0 where
  most : made ≤ n
  ends : (made ≡ n) ⊎ ((t : Machine) → Step nowhere m t → ⊥)

-- one that ends is whole
whole : (stop : Option Stop) (m : Machine) (made n : ℕ) → Ends stop m made n → IsWhole m made n
whole None m made n h = record { most = omega arith; ends = inl h }
whole (Some stop) m made n h = let l = h.0 in record { most = omega arith; ends = inr h.1.none }

-- so is one of which a tally is true
whole_run : (first : Machine) (file starts : List ℕ) (n : ℕ) (t : Tally) (h : IsTallyFrom first file starts n t)
    → IsWhole (last_of first h.states) (length h.states) n
whole_run first file starts n t h =
    subst (λ (made : ℕ). IsWhole (last_of first h.states) made n) h.steps
    (subst (λ (m : Machine). IsWhole m t.steps n) h.last (whole t.stop t.last t.steps n h.ends))

-- a whole run isn't shorter than another
not_shorter : (n : ℕ) (s : Machine) (ts us : List Machine) → IsRun Step s ts → IsRun Step s us → length us ≤ n
    → (length ts ≡ n) ⊎ ((t : Machine) → Step nowhere (last_of s ts) t → ⊥) → length ts < length us → ⊥
not_shorter n s ts us a b most (inl e) l = omega arith
not_shorter n s ts us a b most (inr none) l = none_further s ts us a b none l

-- tallies agree in what they tell of a run
record SameTally (t u : Tally) : Type 0 where
  steps : t.steps ≡ u.steps
  outside : t.outside ≡ u.outside
  last : t.last ≡ u.last
  quiet : t.quiet ≡ u.quiet

-- tallies from one state do
one_tally : (first : Machine) (file starts : List ℕ) (n : ℕ) (t u : Tally) → IsTallyFrom first file starts n t
    → IsTallyFrom first file starts n u → SameTally t u
one_tally first file starts n t u h k =
    let listed = entries_of file starts in
    let a = whole_run first file starts n t h in
    let b = whole_run first file starts n u k in
    let same : h.states ≡ k.states =
    as_long first h.states k.states h.run k.run (not_shorter n first h.states k.states h.run k.run b.most a.ends)
    (not_shorter n first k.states h.states k.run h.run a.most b.ends) in
    record {
      steps = h.steps ∙ (ap (λ (z : List Machine). length z) same ∙ sym k.steps);
      outside = h.outside ∙ (ap (λ (z : List Machine). count_by (λ (m : Machine). is_start listed m.rip) (first ∷ z)) same ∙ sym k.outside);
      last = h.last ∙ (ap (λ (z : List Machine). last_of first z) same ∙ sym k.last);
      quiet = one_test t.quiet u.quiet (IsQuiet Step listed first k.states)
          (subst (λ (z : List Machine). (t.quiet ≡ true) ↔ IsQuiet Step listed first z) same h.quiet) k.quiet;
    }

-- ---- the patched file's run

-- a run up to an outside state of a number isn't shorter than another up to it
not_sooner : (listed : List StartEntry) (number most : ℕ) (s : Machine) (ts us : List Machine) → RunsUntil listed number most s ts
    → RunsUntil listed number most s us → length ts < length us → ⊥
not_sooner listed number most s ts us h k l = by_end h.ends
  where
    by_end : (number ≤ outside_count listed (s ∷ ts)) ⊎ ((length ts ≡ most) ⊎ ((t : Machine) → Step nowhere (last_of s ts) t → ⊥)) → ⊥
    by_end (inl n) =
        let e = ap (λ (z : List Machine). outside_count listed (s ∷ z)) (front_is s ts us (omega arith) h.run k.run) in
        let b = k.before (length ts) l in
        omega (arith, e, b, n)
    by_end (inr (inl e)) = let f = k.few in omega arith
    by_end (inr (inr none)) = none_further s ts us h.run k.run none l

-- so there is one
until_once : (listed : List StartEntry) (number most : ℕ) (s : Machine) (ts us : List Machine) → RunsUntil listed number most s ts
    → RunsUntil listed number most s us → ts ≡ us
until_once listed number most s ts us h k =
    as_long s ts us h.run k.run (not_sooner listed number most s ts us h k) (not_sooner listed number most s us ts k h)

-- ---- under two scripts

-- scripts of a guest with one world start a file from one state
one_start : (file : List ℕ) (s t : Script) → IsGuestScript s → IsGuestScript t → s.world.entries ≡ t.world.entries
    → start_machine file s ≡ start_machine file t
one_start file s t g h world =
    let regs = g.regs ∙ sym h.regs in
    let flags = ap unpacked (g.flags ∙ sym h.flags) in
    let fs = g.fs ∙ sym h.fs in
    let gs = g.gs ∙ sym h.gs in
    let mem = ap (λ (rs : List Region). joined (image_of file) (regions_memory rs)) (g.regions ∙ sym h.regions) in
    λ i. record {
      core = record { regs = regs i; flags = flags i; fs = fs i; gs = gs i };
      rip = entry_of file;
      mem = mem i;
      world = world i;
    }

-- findings agree in what is found of the runs
record SameRuns (f g : Findings) : Type 0 where
  steps : f.steps ≡ g.steps
  patched_steps : f.patched_steps ≡ g.patched_steps
  events : f.events ≡ g.events
  quiet : f.quiet ≡ g.quiet
  agree : f.agree ≡ g.agree

-- those of one job do
one_ran : (seed blocks : ℕ) (job : Job) (f g : Findings) → IsRunSo seed blocks job f → IsRunSo seed blocks job g → SameRuns f g
one_ran seed blocks job f g x y =
    let file = guest_file seed blocks in
    let starts = guest_starts seed blocks in
    let listed = guest_listed seed blocks in
    let rewriting = guest_rewriting seed blocks job in
    let world = world_is_one most_guest_steps file x.script y.script x.is_script y.is_script x.answers y.answers in
    let start = one_start file x.script y.script x.is_script y.is_script world in
    let out_start = one_start (file_of job) x.script y.script x.is_script y.is_script world in
    let tally : SameTally x.tally y.tally =
    one_tally (start_machine file y.script) file starts most_guest_steps x.tally y.tally
    (subst (λ (m : Machine). IsTallyFrom m file starts most_guest_steps x.tally) start x.runs.original) y.runs.original in
    let until : RunsUntil listed y.tally.outside most_patched_steps (start_machine (file_of job) y.script) x.states =
    subst (λ (n : ℕ). RunsUntil listed n most_patched_steps (start_machine (file_of job) y.script) x.states) tally.outside
    (subst (λ (m : Machine). RunsUntil listed x.tally.outside most_patched_steps m x.states) out_start x.runs.patched) in
    let states : x.states ≡ y.states =
    until_once listed y.tally.outside most_patched_steps (start_machine (file_of job) y.script) x.states y.states until y.runs.patched in
    let last : x.last ≡ y.last = x.last_is ∙ ((λ i. last_of (out_start i) (states i)) ∙ sym y.last_is) in
    let both : ◌≡◌ {A = Machine × Machine} (x.last, x.tally.last) (y.last, y.tally.last) = λ i. (last i, tally.last i) in
    record {
      steps = x.steps ∙ (tally.steps ∙ sym y.steps);
      patched_steps = x.patched_steps ∙ (ap (λ (z : List Machine). length z) states ∙ sym y.patched_steps);
      events = x.events
          ∙ (ap (λ (m : Machine). counters m job.report.body.private.0 (length (guest_sites seed blocks))) last ∙ sym y.events);
      quiet = x.quiet ∙ (tally.quiet ∙ sym y.quiet);
      agree = one_test f.agree g.agree (shown rewriting y.last ≡ shown rewriting y.tally.last)
          (subst (λ (p : Machine × Machine). (f.agree ≡ true) ↔ (shown rewriting p.0 ≡ shown rewriting p.1)) both x.agree) y.agree;
    }

-- ---- the law

-- a verdict has one job
same_job : (i j : Job) → ◌≡◌ {A = Judged} (Ok i) (Ok j) → i ≡ j
same_job i j e = cc

-- one thing is found of a guest
pub findings_one : FindingsAreOne
findings_one seed blocks some most f g x y =
    let job : x.job ≡ y.job =
    same_job x.job y.job (judged_once (guest_asked seed blocks) (Ok x.job) (Ok y.job) (guest_in_order seed blocks some most)
    x.patched.judged y.patched.judged) in
    let runs = one_ran seed blocks y.job f g (subst (λ (j : Job). IsRunSo seed blocks j f) job x.ran) y.ran in
    let rows = x.patched.rows ∙ (ap (λ (j : Job). j.report.body.rows) job ∙ sym y.patched.rows) in
    let entries = x.patched.entries ∙ (ap (λ (j : Job). count j.emit) job ∙ sym y.patched.entries) in
    let verdict = x.sound ∙ sym y.sound in
    λ i. record {
      rows = rows i;
      entries = entries i;
      verdict = verdict i;
      steps = runs.steps i;
      patched_steps = runs.patched_steps i;
      events = runs.events i;
      quiet = runs.quiet i;
      agree = runs.agree i;
    }
