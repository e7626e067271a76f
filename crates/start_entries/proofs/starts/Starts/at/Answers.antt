use Rattle.std.proofs.Common.{◌≡◌, ℕ, refl, ◌∙◌, nat_lt, rules, subst, sym, ap, List, None, Option, Bor}
use Rattle.std.specs.Prelude.{option_copied}
use Rattle.std.specs.List.Sorted.{IsStrictlyIncreasing}
use Rattle.std.specs.Slice.{IsItemAt}
use Rattle.std.proofs.lemmas.List.Sorted.{IsPartitionPoint-from_clause, IsPartitionedBy-ltb}
use Rattle.start_entries.specs.declared.entry.StartEntry.{StartEntry}
use Rattle.start_entries.specs.Finding.{addresses}
use Rattle.start_entries.proofs.EntrySearch.{Below, non_decreasing, at_none, at_here, at_other, told_listed}
use Rattle.start_entries.proofs.starts.Starts.at.Goals as goal

-- What is told of the list that the code went over holds of the entries.
found : (xs ys es : List StartEntry) (a n : ℕ) (r s : Option (Bor StartEntry)) → xs ≡ es → ys ≡ es → r ≡ s → Below xs a n
    → IsItemAt ys n r → Below es a n × IsItemAt es n s
found xs ys es a n r s p q e b i = (
  subst (λ (zs : List StartEntry). Below zs a n) p b,
  subst (λ (z : Option (Bor StartEntry)). IsItemAt es n z) e
      (subst (λ (zs : List StartEntry). IsItemAt zs n r) q i),
)

pub returns-in_err-entry-clause-value : goal.returns-in_err-entry-clause-value
returns-in_err-entry-clause-value c =
    let rises = subst (λ (es : List StartEntry). IsStrictlyIncreasing (addresses es)) (sym c.deref.ensures.value) c.self.invariant in
    let parted = IsPartitionPoint-from_clause (λ e. nat_lt e.addr c.args.addr) c.deref.result.now _ c.partition_point-place.ensures.partitioned
    (IsPartitionedBy-ltb (λ e. e.addr) c.deref.result.now c.args.addr (non_decreasing c.deref.result.now rises)) (λ x r q k. search rules) in
    let at = found _ _ c.args.self.now c.args.addr c.partition_point-place.result c.get.result _ (c.deref.ensures.value ∙ c.self.view_is)
    (c.deref-2.ensures.value ∙ c.self.view_is) refl parted c.get.ensures.lookup in
    ap option_copied c.from_residual.ensures ∙ sym (at_none c.args.self.now c.args.addr _ c.get.result at.0 at.1 c.in_err-entry.was)

pub returns-in_err-entry-clause-listed : goal.returns-in_err-entry-clause-listed
returns-in_err-entry-clause-listed c = told_listed c.args.self.now c.args.addr c.from_residual.result (returns-in_err-entry-clause-value c)

pub returns-then-entry-addr-clause-value : goal.returns-then-entry-addr-clause-value
returns-then-entry-addr-clause-value c =
    let rises = subst (λ (es : List StartEntry). IsStrictlyIncreasing (addresses es)) (sym c.deref.ensures.value) c.self.invariant in
    let parted = IsPartitionPoint-from_clause (λ e. nat_lt e.addr c.args.addr) c.deref.result.now _ c.partition_point-place.ensures.partitioned
    (IsPartitionedBy-ltb (λ e. e.addr) c.deref.result.now c.args.addr (non_decreasing c.deref.result.now rises)) (λ x r q k. search rules) in
    let at = found _ _ c.args.self.now c.args.addr c.partition_point-place.result c.get.result _ (c.deref.ensures.value ∙ c.self.view_is)
    (c.deref-2.ensures.value ∙ c.self.view_is) c.in_ok-entry.was parted c.get.ensures.lookup in
    sym (at_here c.args.self.now c.args.addr _ c.in_ok-entry.entry at.0 at.1 c.if-entry-addr.true)

pub returns-else-entry-addr-clause-value : goal.returns-else-entry-addr-clause-value
returns-else-entry-addr-clause-value c =
    let rises = subst (λ (es : List StartEntry). IsStrictlyIncreasing (addresses es)) (sym c.deref.ensures.value) c.self.invariant in
    let parted = IsPartitionPoint-from_clause (λ e. nat_lt e.addr c.args.addr) c.deref.result.now _ c.partition_point-place.ensures.partitioned
    (IsPartitionedBy-ltb (λ e. e.addr) c.deref.result.now c.args.addr (non_decreasing c.deref.result.now rises)) (λ x r q k. search rules) in
    let at = found _ _ c.args.self.now c.args.addr c.partition_point-place.result c.get.result _ (c.deref.ensures.value ∙ c.self.view_is)
    (c.deref-2.ensures.value ∙ c.self.view_is) c.in_ok-entry.was parted c.get.ensures.lookup in
    let up = subst (λ (es : List StartEntry). IsStrictlyIncreasing (addresses es)) c.self.view_is c.self.invariant in
    sym (at_other c.args.self.now c.args.addr _ c.in_ok-entry.entry up at.0 at.1 c.if-entry-addr.false)

pub returns-else-entry-addr-clause-listed : goal.returns-else-entry-addr-clause-listed
returns-else-entry-addr-clause-listed c = told_listed c.args.self.now c.args.addr None (returns-else-entry-addr-clause-value c)
