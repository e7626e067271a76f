use Rattle.std.proofs.Common.{◌≡◌, ℕ, ◌<◌, false, List, length, get_or, None, subst, arith}
use Rattle.std.specs.Prelude.{Contains}
use Rattle.std.proofs.lemmas.List.Elements.{Contains-get_or}
use Rattle.start_entries.specs.declared.entry.StartEntry.{StartEntry}
use Rattle.turn_tests.proofs.schemes.answers.planned.Goals as goal

-- An entry of a list that is another list is one of that other's.
listed : (xs ys : List StartEntry) (i : ℕ) (d : StartEntry) → ys ≡ xs → i < length ys → Contains xs (get_or ys i d)
listed xs ys i d e l = subst (λ (zs : List StartEntry). Contains zs (get_or ys i d)) e (Contains-get_or ys i d l)

pub is_movable-requires-clause-listed : goal.is_movable-requires-clause-listed
is_movable-requires-clause-listed c =
    listed c.in-Ok.starts c.entries-entries.result.now c.args.given.now.place (record { addr = 0; len = 0; form = None; shared = false }) c.entries-entries.ensures.value (omega arith)
