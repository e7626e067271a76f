use Rattle.std.proofs.Common.{◌≡◌, ℕ, ◌<◌, ◌&&◌, ◌||◌, nat_lt, length, get_or, [], ◌∷◌}
use Rattle.pun_base.specs.Ranges.{ends}
use Rattle.page_group.specs.declared.offsets.Offsets.{Offsets}
use Rattle.page_group.specs.Pages.{is_occupied}
use Rattle.page_group.specs.Occupancy.{has}
use Rattle.page_group.proofs.occupancy.add_piece.Given as goal

abbrev pub invariant-loop-place : goal.invariant-loop-place
invariant-loop-place l = (other k : ℕ) (d : Offsets) → other < length l.pages
    → has (get_or l.sets other d) k
    ≡ ((nat_lt other l.place && is_occupied (ends l.piece ∷ []) (get_or l.pages other 0) k) || has (get_or l.initial.sets other d) k)
