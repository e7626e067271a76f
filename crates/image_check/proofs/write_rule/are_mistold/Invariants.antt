use Rattle.std.proofs.Common.{◌≡◌, drop}
use Rattle.std.specs.Prelude.{option_map}
use Rattle.std.specs.List.{list_any}
use Rattle.patch_report.specs.Values.{write_value}
use Rattle.image_check.specs.Parts.{cell_of}
use Rattle.sound_images.specs.Rules.{Case, mistells}
use Rattle.image_check.proofs.write_rule.are_mistold.Given as goal

abbrev pub invariant-loop-run : goal.invariant-loop-run
invariant-loop-run l =
    (c : Case) → c.original l.addr ≡ option_map cell_of l.was → c.patched l.addr ≡ option_map cell_of l.now
    → list_any (λ w. mistells c l.addr (write_value w)) (drop l.run-index l.runs)
    ≡ list_any (λ w. mistells c l.addr (write_value w)) l.runs
