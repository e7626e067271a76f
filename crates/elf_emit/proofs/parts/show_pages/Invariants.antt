use Rattle.std.proofs.Common.{◌≡◌, ◌+◌, ◌-◌, ◌≤◌, drop, map, get_or, length}
use Rattle.elf_emit.specs.Layout.{layered}
use Rattle.elf_emit.specs.Views.{pieces_of}
use Rattle.elf_emit.proofs.parts.show_pages.Given as goal

abbrev pub invariant-loop-pair : goal.invariant-loop-pair
invariant-loop-pair l = record {
  few : length l.bytes ≤ 4096;
  shown : layered (pieces_of l.built) (map (λ k. get_or l.pages (k - l.first) (record { addr = 0; group = l.group + 1 })) (drop l.pair-index l.part)) l.group l.bytes
      ≡ layered (pieces_of l.built) (map (λ k. get_or l.pages (k - l.first) (record { addr = 0; group = l.group + 1 })) l.part) l.group l.initial.bytes;
}
