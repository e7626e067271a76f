use Rattle.std.proofs.Common.{ℕ, List, [], length, refl, ap, ◌∙◌, subst}
use Rattle.insn_form.specs.Machine.{Machine}
use Rattle.start_entries.specs.Entries.{entries_of}
use Rattle.image_step.specs.Running.{Shows, machine_in}
use Rattle.image_runs.specs.Starting.{start_machine}
use Rattle.guest_findings.specs.Findings.{counters}
use Rattle.guest_findings.specs.Generating.{RanUntil}
use Rattle.guest_findings.proofs.RunPairs.{ran_both}
use Rattle.guest_findings.proofs.both_runs.run_both.Goals as goal

pub returns : goal.returns
returns c =
    let g = c.args.guest.now in
    let out = c.args.patched.now.bytes in
    let first = c.run-end.new.self in
    let second = c.follow-patched_steps.new.runner in
    let listed = c.in_ok-second.second.starts in
    let shown : Shows c.in_ok-first.first (start_machine g.file g.script) [] =
    subst (λ (m : Machine). Shows c.in_ok-first.first m []) (λ i. start_machine (c.requires.file i) (c.script.ensures i))
    c.in_ok-first.ensures.shows in
    let other : Shows c.in_ok-second.second (start_machine out g.script) [] =
    subst (λ (m : Machine). Shows c.in_ok-second.second m []) (λ i. start_machine out (c.script-2.ensures i))
    c.in_ok-second.ensures.shows in
    ran_both g out c.args.private _ first second c.run-end.result listed
    (record {
      starts = c.run-end.ensures.starts ∙ c.in_ok-first.ensures.starts ∙ (λ i. entries_of (c.requires.file i) (c.starts.ensures i));
      goes = c.run-end.ensures.goes (start_machine g.file g.script) [] shown;
      listed_is = c.in_ok-second.ensures.starts ∙ ap (entries_of out) c.starts-2.ensures;
      until = subst (λ (n : ℕ). RanUntil listed n (start_machine out g.script) second c.follow-patched_steps.result) c.outside.ensures
          (c.follow-patched_steps.ensures (start_machine out g.script) other);
      steps = refl;
      events = c.sum_counters.ensures ∙ ap (λ (l : List ℕ). counters (machine_in second) c.args.private (length l)) c.sites.ensures;
      quiet = c.quiet.ensures;
      agree = c.are_alike.ensures;
    })
