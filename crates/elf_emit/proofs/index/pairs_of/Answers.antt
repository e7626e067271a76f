use Rattle.std.proofs.Common.{◌*◌, ◌+◌, nat_le, nat_lt, rules, subst, sym, ℕ, List}
use Rattle.std.specs.List.Sorted.{IsNonDecreasingBy}
use Rattle.std.proofs.lemmas.List.{take_rest}
use Rattle.std.proofs.lemmas.List.Sorted.{IsPartitionPoint-from_clause, IsPartitionedBy-ltb, IsPartitionedBy-leb, IsNonDecreasingBy-drop}
use Rattle.elf_emit.proofs.IndexPairs.{non_decreasing, pairs_from}
use Rattle.elf_emit.proofs.index.pairs_of.Goals as goal

pub returns : goal.returns
returns c =
    let xs = c.args.pairs.now in
    let key = c.args.key in
    let i = c.partition_point.result in
    let e = take_rest xs i in
    let rises = non_decreasing xs c.requires in
    let rising = subst (λ (z : List ℕ). IsNonDecreasingBy (λ y. y) z) (sym e) (IsNonDecreasingBy-drop (λ y. y) i xs rises) in
    let a = IsPartitionPoint-from_clause (λ y. nat_lt y (key * 0x100000000)) _ _ c.partition_point.ensures.partitioned
    (IsPartitionedBy-ltb (λ y. y) xs (key * 0x100000000) rises) (λ x r q k. search rules) in
    let b = IsPartitionPoint-from_clause (λ y. nat_le y (key * 0x100000000 + 0xffffffff)) _ _ c.partition_point-2.ensures.partitioned
    (IsPartitionedBy-leb (λ y. y) _ (key * 0x100000000 + 0xffffffff) rising) (λ x r q k. search rules) in
    pairs_from key xs _ i c.partition_point-2.result c.partition_point.ensures.bound c.partition_point-2.ensures.bound e c.requires a b
