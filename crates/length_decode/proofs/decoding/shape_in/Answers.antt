use Rattle.std.proofs.Common.{length, ap, ◌∙◌}
use Rattle.length_decode.specs.Parse.{shape_from}
use Rattle.length_decode.proofs.ShapeAnswers.{front_reads, front_lead, run_within}
use Rattle.length_decode.proofs.decoding.shape_in.Goals as goal

pub split_at-requires : goal.split_at-requires
split_at-requires c = run_within c.args.window.now c.read_prefixes-lead.result c.read_prefixes-lead.ensures

pub after_prefixes-requires-clause-known : goal.after_prefixes-requires-clause-known
after_prefixes-requires-clause-known c = front_lead c.args.window.now _ c.read_prefixes-lead.result c.read_prefixes-lead.ensures c.split_at.ensures.front

pub returns : goal.returns
returns c =
    let e = front_reads c.args.window.now _ _ c.read_prefixes-lead.result c.read_prefixes-lead.ensures c.split_at.ensures.front c.split_at.ensures.back in
    c.after_prefixes.ensures ∙ ap (shape_from (length c.args.window.now)) e
