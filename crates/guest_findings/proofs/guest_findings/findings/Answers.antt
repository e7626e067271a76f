use Rattle.std.proofs.Common.{◌≡◌, ℕ, List, length, ap, ◌∙◌, subst}
use Rattle.elf_read.specs.Entries.{segments}
use Rattle.start_entries.specs.Entries.{entries_of}
use Rattle.sound_images.specs.Rules.{Case}
use Rattle.sound_images.specs.Cases.{case_of}
use Rattle.image_check.specs.Verdict.{IsVerdict}
use Rattle.guest_findings.specs.Generating.{RanBoth}
use Rattle.guest_findings.proofs.guest_findings.findings.Goals as goal

pub returns : goal.returns
returns c =
    let g = c.args.guest.now in
    let out = c.in_ok-out.field-0.out.items in
    let report = c.in_ok-out.field-0.report in
    let file : c.in_ok-original.original.bytes ≡ g.file = c.in_ok-original.ensures ∙ c.elf.ensures in
    let read : c.in_ok-patched.patched.bytes ≡ out = c.in_ok-patched.ensures.file ∙ c.deref.ensures.value in
    let listed : c.in_ok-listed.listed ≡ entries_of g.file g.starts =
    c.in_ok-listed.ensures.entries ∙ (λ i. entries_of (file i) (c.starts.ensures i)) in
    let lowest : c.private.result.lo ≡ report.body.private.0 = ap (λ (r : ℕ × ℕ). r.0) c.private.ensures in
    record {
      out = out;
      patch = c.in_ok-out.ensures;
      starts = ap (λ (l : List ℕ). length l) c.starts-2.ensures;
      entries = ap (λ l. length l) (c.segments.ensures.value ∙ c.in_ok-patched.ensures.entries)
          ∙ ap (λ (f : List ℕ). length (segments f)) c.deref.ensures.value;
      verdict = subst (λ (x : Case). IsVerdict x c.in_ok-verdict.verdict) (λ i. case_of (file i) (read i) (listed i) report.body)
          c.in_ok-verdict.ensures.verdict;
      runs = subst (λ (x : List ℕ × ℕ). RanBoth g x.0 x.1 c.in_ok-runs.runs) (λ i. (read i, lowest i)) c.in_ok-runs.ensures;
    }
