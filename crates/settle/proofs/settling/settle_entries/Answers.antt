use Rattle.std.proofs.Common.{ℕ, ◌+◌, ◌*◌, ◌%◌, ◌^◌, ◌≤◌, List, ◌++◌, length, Option, Some, None, refl, sym, ap, ◌∙◌, subst, arith}
use Rattle.std.specs.List.{find}
use Rattle.elf_read.specs.declared.segment.Segment.{Segment}
use Rattle.elf_read.specs.Entries.{entry_of, segments, table_count, table_place}
use Rattle.settle.specs.Settled.{front_with, has_bytes, loaded_at}
use Rattle.settle.specs.Refusals.{entries_refusal}
use Rattle.settle.specs.Settling.{IsJudged}
use Rattle.settle.proofs.SettlingSteps.{by_judging, by_places, done}
use Rattle.settle.proofs.settling.settle_entries.Goals as goal

pub returns-in-Some-judge : goal.returns-in-Some-judge
returns-in-Some-judge c =
    let b = c.args.base in let file = c.args.file.now in let same = c.requires.entries in
    let none = ap (λ (ss : List Segment). entries_refusal b (length file) ss) (sym same) ∙ sym c.in-None.ensures in
    let is =
    c.in_ok-out.ensures.out
    ∙ ap (λ (ss : List Segment). front_with b file ss (loaded_at b (table_place file) c.own_entry-own.result % 2 ^ 32) ((b + entry_of file) % 2 ^ 32) ++ file) same in
    let few : length (segments file) ≤ 1023 = subst (λ (ss : List Segment). length ss ≤ 1023) same c.requires.few in
    let fits = c.ranges.base.fits in
    by_judging b file c.requires.header none (record { bytes = λ k. (c.type_inv.file k).fits; len = omega arith }) (omega (arith, fits)) few _ _ c.in_ok-out.out.items is
    c.in-Some-judge.error (subst (λ (z : List ℕ). IsJudged z (Some c.in-Some-judge.error)) c.deref.ensures.value c.in-Some-judge.ensures)

pub returns-in-Some-refused_places : goal.returns-in-Some-refused_places
returns-in-Some-refused_places c =
    let b = c.args.base in let file = c.args.file.now in let same = c.requires.entries in
    let none = ap (λ (ss : List Segment). entries_refusal b (length file) ss) (sym same) ∙ sym c.in-None.ensures in
    let is =
    c.in_ok-out.ensures.out
    ∙ ap (λ (ss : List Segment). front_with b file ss (loaded_at b (table_place file) c.own_entry-own.result % 2 ^ 32) ((b + entry_of file) % 2 ^ 32) ++ file) same in
    let few : length (segments file) ≤ 1023 = subst (λ (ss : List Segment). length ss ≤ 1023) same c.requires.few in
    let fits = c.ranges.base.fits in
    by_places b file c.requires.header none (record { bytes = λ k. (c.type_inv.file k).fits; len = omega arith }) (omega (arith, fits)) few _ _ c.in_ok-out.out.items is
    (subst (λ (z : List ℕ). IsJudged z None) c.deref.ensures.value c.in-None-judge.ensures) c.in-Some-refused_places.error (sym c.in-Some-refused_places.ensures)

pub returns-in-None-refused_places : goal.returns-in-None-refused_places
returns-in-None-refused_places c =
    let b = c.args.base in let file = c.args.file.now in let same = c.requires.entries in
    let none = ap (λ (ss : List Segment). entries_refusal b (length file) ss) (sym same) ∙ sym c.in-None.ensures in
    let is =
    c.in_ok-out.ensures.out
    ∙ ap (λ (ss : List Segment). front_with b file ss (loaded_at b (table_place file) c.own_entry-own.result % 2 ^ 32) ((b + entry_of file) % 2 ^ 32) ++ file) same in
    let few : length (segments file) ≤ 1023 = subst (λ (ss : List Segment). length ss ≤ 1023) same c.requires.few in
    let fits = c.ranges.base.fits in
    let own = c.own_entry-own.ensures ∙ ap (find (has_bytes (table_place file) (56 * table_count file))) same in
    done b file c.requires.header none (record { bytes = λ k. (c.type_inv.file k).fits; len = omega arith }) (omega (arith, fits)) few _ _ c.in_ok-out.out.items is
    (subst (λ (z : List ℕ). IsJudged z None) c.deref.ensures.value c.in-None-judge.ensures) (sym c.in-None-refused_places.ensures)
    (ap (λ (o : Option Segment). loaded_at b (table_place file) o % 2 ^ 32) own) refl
