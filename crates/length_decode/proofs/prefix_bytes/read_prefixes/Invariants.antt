use Rattle.std.proofs.Common.{◌≡◌, [], drop, ◌≤◌}
use Rattle.length_decode.specs.Prefix.{lead_of}
use Rattle.length_decode.proofs.PrefixBytes.{gather}
use Rattle.length_decode.proofs.prefix_bytes.read_prefixes.Given as goal

abbrev pub invariant-loop-byte : goal.invariant-loop-byte
invariant-loop-byte l = record {
  counted : l.lead.count ≤ l.byte-index;
  gathered : gather l.lead (drop l.byte-index l.bytes) ≡ gather (lead_of []) l.bytes;
}
