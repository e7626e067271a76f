use Rattle.std.proofs.Common.{◌≡◌, drop}
use Rattle.cpu_state.specs.Bytes.{put_list}
use Rattle.cpu_state.specs.Regions.{cell_at, Ascending, extents}
use Rattle.cpu_state.proofs.regions.put_slice.Given as goal

abbrev pub invariant-loop-byte : goal.invariant-loop-byte
invariant-loop-byte l = record {
  same : put_list (cell_at l.regions.items) l.at (drop l.byte-index l.bytes) ≡ put_list (cell_at l.fn.regions.items) l.addr l.bytes;
  ascending : Ascending 0 l.regions.items;
  extents : extents l.regions.items ≡ extents l.fn.regions.items;
}
