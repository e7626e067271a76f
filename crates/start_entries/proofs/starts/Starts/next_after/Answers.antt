use Rattle.std.proofs.Common.{◌∙◌, nat_le, rules, subst, sym, List}
use Rattle.std.specs.List.Sorted.{IsStrictlyIncreasing}
use Rattle.std.specs.Slice.{IsItemAt}
use Rattle.std.proofs.lemmas.List.Sorted.{IsPartitionPoint-from_clause, IsPartitionedBy-leb}
use Rattle.start_entries.specs.declared.entry.StartEntry.{StartEntry}
use Rattle.start_entries.specs.Finding.{addresses}
use Rattle.start_entries.proofs.EntrySearch.{Within, non_decreasing, after_is, after_least}
use Rattle.start_entries.proofs.starts.Starts.next_after.Goals as goal

pub returns-clause-value : goal.returns-clause-value
returns-clause-value c =
    let a = c.args.addr in
    let place = c.partition_point-place.result in
    let rises = subst (λ (es : List StartEntry). IsStrictlyIncreasing (addresses es)) (sym c.deref.ensures.value) c.self.invariant in
    let parted = IsPartitionPoint-from_clause (λ e. nat_le e.addr a) c.deref.result.now place c.partition_point-place.ensures.partitioned (IsPartitionedBy-leb (λ e. e.addr) c.deref.result.now a (non_decreasing c.deref.result.now rises)) (λ x r q k. search rules) in
    after_is c.args.self.now a place c.get.result (subst (λ (es : List StartEntry). Within es a place) (c.deref.ensures.value ∙ c.self.view_is) parted)
    (subst (λ (es : List StartEntry). IsItemAt es place c.get.result) (c.deref-2.ensures.value ∙ c.self.view_is) c.get.ensures.lookup)

pub returns-clause-least : goal.returns-clause-least
returns-clause-least c =
    let a = c.args.addr in
    let place = c.partition_point-place.result in
    let rises = subst (λ (es : List StartEntry). IsStrictlyIncreasing (addresses es)) (sym c.deref.ensures.value) c.self.invariant in
    let parted = IsPartitionPoint-from_clause (λ e. nat_le e.addr a) c.deref.result.now place c.partition_point-place.ensures.partitioned (IsPartitionedBy-leb (λ e. e.addr) c.deref.result.now a (non_decreasing c.deref.result.now rises)) (λ x r q k. search rules) in
    after_least c.args.self.now a place c.get.result (subst (λ (es : List StartEntry). IsStrictlyIncreasing (addresses es)) c.self.view_is c.self.invariant)
    (subst (λ (es : List StartEntry). Within es a place) (c.deref.ensures.value ∙ c.self.view_is) parted)
    (subst (λ (es : List StartEntry). IsItemAt es place c.get.result) (c.deref-2.ensures.value ∙ c.self.view_is) c.get.ensures.lookup)
