use Rattle.std.proofs.Common.{◌≡◌, ◌-◌, drop, map, get_or}
use Rattle.elf_emit.specs.Layout.{rewritten}
use Rattle.elf_emit.specs.Views.{pieces_of}
use Rattle.elf_emit.proofs.IndexLookups.{nothing}
use Rattle.elf_emit.proofs.overlay.overlay_code.Given as goal

abbrev pub invariant-loop-pair : goal.invariant-loop-pair
invariant-loop-pair l =
    rewritten (map (λ k. get_or (pieces_of l.built) (k - l.first) nothing) (drop l.pair-index l.part)) l.lo l.bytes
    ≡ rewritten (map (λ k. get_or (pieces_of l.built) (k - l.first) nothing) l.part) l.lo l.initial.bytes
