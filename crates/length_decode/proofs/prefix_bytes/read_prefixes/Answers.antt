use Rattle.std.proofs.Common.{◌∙◌, sym, rules, arith}
use Rattle.std.proofs.lemmas.List.{at_drop_all}
use Rattle.length_decode.proofs.PrefixBytes.{gather, gathered, gather_stop}
use Rattle.length_decode.proofs.prefix_bytes.read_prefixes.Goals as goal

pub returns-then-not-is_prefix : goal.returns-then-not-is_prefix
returns-then-not-is_prefix c =
    gather_stop c.loop-byte.lead c.args.bytes.now c.loop-byte.byte-index (search rules) (search rules) ∙ c.loop-byte.invariant.gathered ∙ gathered c.args.bytes.now

pub returns : goal.returns
returns c =
    sym (at_drop_all (gather c.loop-byte.lead) c.args.bytes.now c.loop-byte.byte-index (omega arith)) ∙ c.loop-byte.invariant.gathered ∙ gathered c.args.bytes.now
