use Rattle.std.proofs.Common.{◌≡◌, ◌-◌, ◌≤◌, ◌<◌, ℕ, List, true}
use Rattle.sound_images.specs.Rules as rules
use Rattle.sound_images.specs.Cases.{case_of}
use Rattle.image_check.proofs.write_rule.are_owned.Given as goal

abbrev pub invariant-loop-addr : goal.invariant-loop-addr
invariant-loop-addr l =
    (l.first ≤ l.addr)
    × ((o p : List ℕ) (x : ℕ) → l.first ≤ x → x < l.addr → rules.belongs (case_of o p l.starts l.flat) x ≡ true)

abbrev pub decreases-loop-addr : goal.decreases-loop-addr
decreases-loop-addr l = l.end - l.addr
