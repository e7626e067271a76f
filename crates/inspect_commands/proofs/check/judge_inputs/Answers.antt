use Rattle.std.proofs.Common.{sym, ◌∙◌}
use Rattle.list_text.proofs.ListGrammar.{lists_are_grammar}
use Rattle.start_entries.specs.Entries.{entries_of}
use Rattle.start_entries.specs.Refusals as listing
use Rattle.inspect_commands.proofs.CheckVerdicts.{file_refused, out_refused, tells}
use Rattle.command_io.proofs.ModedReadings.{moded_read}
use Rattle.inspect_commands.proofs.check.judge_inputs.Goals as goal

pub returns-in-Err-read_elf : goal.returns-in-Err-read_elf
returns-in-Err-read_elf c =
    let x = c.args.inputs.now in
    let a = rw c.deref.ensures.value at c.in-Ok.ensures.list in
    let v = moded_read c.deref-2.result.now x.report.items c.in-Ok-read_report.moded.0 c.in-Ok-read_report.moded.1 c.deref-2.ensures.value c.in-Ok-read_report.ensures in
    let f = rw c.deref-3.ensures.value at c.in-Err-read_elf.ensures.refused in
    rw c.file_failure.ensures (file_refused x c.in-Ok.starts.items a c.in-Ok-read_report.moded.0 c.in-Ok-read_report.moded.1 v c.in-Err-read_elf.error f)

pub returns-in-Err-read_written : goal.returns-in-Err-read_written
returns-in-Err-read_written c =
    let x = c.args.inputs.now in
    let a = rw c.deref.ensures.value at c.in-Ok.ensures.list in
    let v = moded_read c.deref-2.result.now x.report.items c.in-Ok-read_report.moded.0 c.in-Ok-read_report.moded.1 c.deref-2.ensures.value c.in-Ok-read_report.ensures in
    let f = rw c.deref-3.ensures.value at c.in-Ok-read_elf.ensures.accepted in
    let o = rw c.deref-4.ensures.value at c.in-Err-read_written.ensures.refused in
    rw c.file_failure-in-Err-read_written.ensures (out_refused x c.in-Ok.starts.items a c.in-Ok-read_report.moded.0 c.in-Ok-read_report.moded.1 v f c.in-Err-read_written.error o)

pub build-requires : goal.build-requires
build-requires c =
    rw c.deref-5.ensures.value ((lists_are_grammar 4194304 c.deref.result.now c.in-Ok.starts.items).0 c.in-Ok.ensures.list).ascending

pub returns-in-Ok-verdict_text : goal.returns-in-Ok-verdict_text
returns-in-Ok-verdict_text c =
    let x = c.args.inputs.now in
    let ns = c.in-Ok.starts.items in
    let a = rw c.deref.ensures.value at c.in-Ok.ensures.list in
    let v = moded_read c.deref-2.result.now x.report.items c.in-Ok-read_report.moded.0 c.in-Ok-read_report.moded.1 c.deref-2.ensures.value c.in-Ok-read_report.ensures in
    let f = rw c.deref-3.ensures.value at c.in-Ok-read_elf.ensures.accepted in
    let o = rw c.deref-4.ensures.value at c.in-Ok-read_written.ensures.accepted in
    let p = c.in-Ok-read_elf.ensures.file.0 ∙ c.deref-3.ensures.value in
    let q = c.in-Ok-read_written.ensures.file.0 ∙ c.deref-4.ensures.value in
    let r = c.in-Ok-build.ensures.entries ∙ (λ i. entries_of (p i) (c.deref-5.ensures.value i)) in
    let b = (λ i. listing.first_refusal (sym p i) (sym c.deref-5.ensures.value i)) ∙ c.in-Ok-build.ensures.accepted in
    tells x.file.items x.out.items x.starts.items x.report.items ns c.in-Ok-verdict_text.text.items _ _ c.in-Ok-build.listed c.in-Ok-read_report.moded.0 c.in-Ok-read_report.moded.1
    c.in-Ok-judge_patch.verdict _ (record { starts_are = a; report_is = v; not_refused = rw (f, o, b) }) p q r
    c.in-Ok-judge_patch.ensures.verdict c.in-Ok-judge_patch.ensures.followed c.in-Ok-verdict_text.ensures c.verdict_status.ensures
