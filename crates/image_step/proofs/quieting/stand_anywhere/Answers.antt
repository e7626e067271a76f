use Rattle.std.proofs.Common.{◌∙◌, ap}
use Rattle.std.specs.Prelude.{is_some}
use Rattle.image_runs.specs.Listed.{is_known_start, is_start}
use Rattle.image_step.proofs.AccessesAndStarts.{found_known, found_start, has_form}
use Rattle.image_step.proofs.quieting.stand_anywhere.Goals as goal

pub returns-in-Some-clause-start : goal.returns-in-Some-clause-start
returns-in-Some-clause-start c =
    let s = c.args.starts.now in
    ap is_some c.in-Some.ensures.value ∙ (found_start s c.in-Ok.addr ∙ ap (is_start s) c.in-Ok.ensures.1)

pub returns-in-None-clause-start : goal.returns-in-None-clause-start
returns-in-None-clause-start c =
    let s = c.args.starts.now in
    ap is_some c.in-None.ensures.value ∙ (found_start s c.in-Ok.addr ∙ ap (is_start s) c.in-Ok.ensures.1)

pub returns-in-Some-clause-known : goal.returns-in-Some-clause-known
returns-in-Some-clause-known c =
    let s = c.args.starts.now in
    c.is_some.ensures ∙ (ap has_form c.in-Some.ensures.value ∙ (found_known s c.in-Ok.addr c.entries-entries.ensures.ascending
    ∙ ap (is_known_start s) c.in-Ok.ensures.1))

pub returns-in-None-clause-known : goal.returns-in-None-clause-known
returns-in-None-clause-known c =
    let s = c.args.starts.now in
    ap has_form c.in-None.ensures.value ∙ (found_known s c.in-Ok.addr c.entries-entries.ensures.ascending
    ∙ ap (is_known_start s) c.in-Ok.ensures.1)
