use Rattle.std.proofs.Common.{◌≤◌, sym, subst, List}
use Rattle.std.specs.List.{count_by}
use Rattle.std.specs.List.Sorted.{IsNonDecreasingBy}
use Rattle.start_entries.specs.declared.entry.StartEntry.{StartEntry}
use Rattle.start_entries.proofs.EntrySearch.{non_decreasing}
use Rattle.image_check.specs.Nearness.{IsNear}
use Rattle.image_check.proofs.near.near_entries.Goals as goal

pub near-requires : goal.near-requires
near-requires c = record {
  rises = subst (λ (z : List StartEntry). IsNonDecreasingBy (λ (e : StartEntry). e.addr) z) (sym c.entries.ensures.value)
      (non_decreasing c.args.starts.now c.entries.ensures.ascending);
}

pub returns-clause-near : goal.returns-clause-near
returns-clause-near c =
    let P : List StartEntry → Type 0 = IsNear (λ (e : StartEntry). e) (λ (e : StartEntry). e.addr) 15 c.args.addr c.near.result.now in
    subst P c.entries.ensures.value c.near.ensures.near

pub returns-clause-part : goal.returns-clause-part
returns-clause-part c q =
    let P : List StartEntry → Type 0 = λ z. count_by q c.near.result.now ≤ count_by q z in
    subst P c.entries.ensures.value (c.near.ensures.part q)
