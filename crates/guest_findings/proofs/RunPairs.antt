-- A guest and its patched file ran.
use Rattle.std.proofs.Common.{◌≡◌, ◌↔◌, ℕ, ◌<◌, ◌≤◌, ◌⊎◌, inl, inr, Bool, true, ◌||◌, eqb, count_by, List, [], ◌∷◌, length, take, refl, sym, ap, ◌∙◌, subst}
use Rattle.std.specs.List.{list_any}
use Rattle.insn_form.specs.Machine.{Machine}
use Rattle.insn_form.specs.Runs.{last_of, nowhere}
use Rattle.insn_form.specs.Step.{Step}
use Rattle.start_entries.specs.declared.entry.StartEntry.{StartEntry}
use Rattle.start_entries.specs.Entries.{entries_of}
use Rattle.start_entries.specs.Finding.{addresses}
use Rattle.start_entries.proofs.StartsSoFar.{addresses-entries}
use Rattle.image_runs.specs.Listed.{is_start}
use Rattle.image_step.specs.Running.{Goes, machine_in}
use Rattle.image_runs.specs.Starting.{start_machine}
use Rattle.image_step.specs.declared.runner.Runner.{Runner}
use Rattle.image_step.specs.declared.runner.RunEnd.{RunEnd}
use Rattle.guest_gen.specs.Views.{GuestParts}
use Rattle.guest_findings.specs.Findings.{outside_count, RunsUntil, counters, most_guest_steps, most_patched_steps}
use Rattle.guest_findings.specs.SeenAlike.{SeenAlike}
use Rattle.guest_findings.specs.Generating.{RanUntil, RanBoth}
use Rattle.guest_findings.specs.Tallies.{tally_of}
use Rattle.guest_findings.specs.declared.both_runs.Runs.{Runs}
use Rattle.guest_findings.proofs.RunTallies.{tallied}

-- ---- the same starts in two files

-- whether an address is a start is told by the addresses alone
by_address : (es : List StartEntry) (a : ℕ) → is_start es a ≡ list_any (λ b. eqb b a) (addresses es)
by_address [] a = refl
by_address (e ∷ es) a = ap (λ (t : Bool). eqb e.addr a || t) (by_address es a)

-- so two lists of the same addresses tell the same starts
same_starts : (es fs : List StartEntry) → addresses es ≡ addresses fs → is_start es ≡ is_start fs
same_starts es fs p = λ i a. (by_address es a ∙ ap (λ (ns : List ℕ). list_any (λ b. eqb b a) ns) p ∙ sym (by_address fs a)) i

-- and as many states that stand at one
same_count : (es fs : List StartEntry) → addresses es ≡ addresses fs → (xs : List Machine) → outside_count es xs ≡ outside_count fs xs
same_count es fs p xs = ap (λ (test : ℕ → Bool). count_by (λ s. test s.rip) xs) (same_starts es fs p)

-- where a file runs to its end in one list, it does in the other
same_ends : (es fs : List StartEntry) → addresses es ≡ addresses fs → (number most : ℕ) (first : Machine) (states : List Machine)
    → (number ≤ outside_count es (first ∷ states)) ⊎ ((length states ≡ most) ⊎ ((t : Machine) → Step nowhere (last_of first states) t → ⊥))
    → (number ≤ outside_count fs (first ∷ states)) ⊎ ((length states ≡ most) ⊎ ((t : Machine) → Step nowhere (last_of first states) t → ⊥))
same_ends es fs p number most first states (inl h) = inl (subst (λ (n : ℕ). number ≤ n) (same_count es fs p (first ∷ states)) h)
same_ends es fs p number most first states (inr h) = inr h

-- it runs up to the same state
same_until : (es fs : List StartEntry) → addresses es ≡ addresses fs → (number most : ℕ) (first : Machine) (states : List Machine)
    → RunsUntil es number most first states → RunsUntil fs number most first states
same_until es fs p number most first states u = record {
  run = u.run;
  few = u.few;
  before = λ k l. subst (λ (n : ℕ). n < number) (same_count es fs p (first ∷ take k states)) (u.before k l);
  ends = same_ends es fs p number most first states u.ends;
}

-- ---- both runs

-- What two runners showed at the end: the first one the guest, the second one its patched file.
pub record AreShown (g : GuestParts) (out : List ℕ) (private : ℕ) (runs : Runs) (first second : Runner) (end : RunEnd)
    (listed : List StartEntry) : Type 0 where
  pub starts : first.starts ≡ entries_of g.file g.starts
  pub goes : Goes first (start_machine g.file g.script) [] most_guest_steps end
  pub listed_is : listed ≡ entries_of out g.starts
  pub until : RanUntil listed first.outside (start_machine out g.script) second runs.patched_steps
  pub steps : runs.steps ≡ end.steps
  pub events : runs.events ≡ counters (machine_in second) private (length g.sites)
  pub quiet : runs.quiet ≡ first.quiet
  pub agree : (runs.agree ≡ true) ↔ SeenAlike (machine_in second) (machine_in first)

-- then what is told of the runs is true
pub ran_both : (g : GuestParts) (out : List ℕ) (private : ℕ) (runs : Runs) (first second : Runner) (end : RunEnd) (listed : List StartEntry)
    → AreShown g out private runs first second end listed → RanBoth g out private runs
ran_both g out private runs first second end listed s =
    let u = s.until in
    let addressed : addresses listed ≡ addresses (entries_of g.file g.starts) =
    ap addresses s.listed_is ∙ addresses-entries out g.starts ∙ sym (addresses-entries g.file g.starts) in
    record {
      original = tally_of first end;
      states = u.states;
      tallied = tallied most_guest_steps g.file g.starts (start_machine g.file g.script) first end s.starts s.goes;
      until = same_until listed (entries_of g.file g.starts) addressed first.outside most_patched_steps (start_machine out g.script)
          u.states u.until;
      steps = s.steps;
      patched_steps = u.counted;
      events = s.events ∙ ap (λ (m : Machine). counters m private (length g.sites)) u.here;
      quiet = s.quiet;
      agree = subst (λ (m : Machine). (runs.agree ≡ true) ↔ SeenAlike m (machine_in first)) u.here s.agree;
    }
