use Rattle.std.proofs.Common.{◌≡◌, ◌≤◌, true, List, length, ap, ◌∙◌, arith}
use Rattle.start_entries.specs.declared.entry.StartEntry.{StartEntry}
use Rattle.image_runs.specs.Listed.{are_short, is_listed_byte}
use Rattle.image_step.proofs.InstructionByteSearch.{sought}
use Rattle.image_step.proofs.quieting.is_listed_byte.Goals as goal

pub returns : goal.returns
returns c =
    let es = c.entries-entries.result.now in
    let p = c.places-first in
    let whole = c.entries-entries.ensures.value in
    let short : are_short es ≡ true = ap are_short whole ∙ c.requires in
    let order = p.ensures.order in
    let bound = p.ensures.bound in
    let first : p.result.0 ≤ length es = omega arith in
    c.has_byte.ensures ∙ (sought es c.args.addr p.result.0 p.result.1 short p.ensures.first p.ensures.end first
    ∙ ap (λ (ls : List StartEntry). is_listed_byte ls c.args.addr) whole)
