use Rattle.std.proofs.Common.{◌≡◌, ℕ, ◌+◌, ◌<◌, [], List, length, get_or, sym, ap, ◌∙◌, subst, arith, length-set}
use Rattle.std.proofs.lemmas.List.{length_push, get_or_default}
use Rattle.page_group.specs.declared.offsets.Offsets.{Offsets}
use Rattle.page_group.specs.Pages.{ends_of, is_occupied}
use Rattle.page_group.specs.Occupancy.{has}
use Rattle.page_group.specs.Joining.{IsStart}
use Rattle.page_group.proofs.JoinedPages.{Joining, AreMet, IsNext, IsFirst, joining_none, joining_next, met_next, start_met, start_within}
use Rattle.page_group.proofs.joining.join_pages.Goals as goal

pub loop-offsets-init : goal.loop-offsets-init
loop-offsets-init c =
    let joined = c.in_ok-joined.joined.items in
    let groups = c.new-groups.result.items in
    let none : length joined ≡ 0 = ap length c.in_ok-joined.ensures.items in
    let empty : length groups ≡ 0 = ap length c.new-groups.ensures.items in
    let filled = c.in_ok-latest.ensures.len in
    let stored = c.in_ok-latest.latest.ok.0 in
    record {
      size = none;
      table = omega arith;
      joining = joining_none (ends_of c.args.pieces.now) c.args.pages.now joined groups none empty;
      met = λ place group d e l _. absurd (omega arith);
    }

pub first_open-group-requires : goal.first_open-group-requires
first_open-group-requires c =
    let at = c.loop-offsets in
    let blank : Offsets = record { words = [] } in
    let sets = c.deref-offsets-items.result.now in
    let offsets : Offsets = get_or sets at.offsets-index blank in
    let start = c.first_tried-start.result in
    let begins : IsStart sets at.joined.items offsets start =
    subst (λ (z : List Offsets). IsStart z at.joined.items offsets start) (c.deref.ensures.value ∙ sym c.deref-offsets-items.ensures.value)
    (subst (λ (z : List ℕ). IsStart c.deref.result.now z offsets start) c.deref-in-loop-offsets.ensures.value c.first_tried-start.ensures) in
    let within = start_within sets at.joined.items at.groups.items offsets start at.invariant.joining.below begins in
    let same = ap length c.deref-in-loop-offsets-2.ensures.value in
    record {
      start = omega arith;
      met = λ group d l. start_met sets at.joined.items c.deref-in-loop-offsets-2.result.now offsets start
          (subst (λ (z : List Offsets). AreMet sets at.joined.items z) (sym c.deref-in-loop-offsets-2.ensures.value) at.invariant.met) begins group d l;
    }

pub loop-offsets-preserved : goal.loop-offsets-preserved
loop-offsets-preserved c =
    let pieces = ends_of c.args.pieces.now in
    let pages = c.args.pages.now in
    let at = c.loop-offsets in
    let joined = at.joined.items in
    let groups = at.groups.items in
    let group = c.first_open-group.result in
    let blank : Offsets = record { words = [] } in
    let sets = c.deref-offsets-items.result.now in
    let offsets : Offsets = get_or sets at.offsets-index blank in
    let same = c.deref-offsets-items.ensures.value in
    let size = at.invariant.size in
    let within : at.offsets-index < length pages =
    (let n = ap length same in let m = c.in_ok-sets.ensures.size in let l = c.loop-offsets-test.true in omega arith) in
    let next : IsNext pieces (get_or pages (length joined) 0) offsets = λ k.
    ap (λ (z : List Offsets). has (get_or z at.offsets-index blank) k) same ∙ c.in_ok-sets.ensures.exact at.offsets-index k blank within
    ∙ ap (λ (p : ℕ). is_occupied pieces (get_or pages p 0) k) (sym size) in
    let own = λ (d : Offsets). ap (λ (p : ℕ). get_or sets p d) size ∙ get_or_default sets at.offsets-index d blank c.loop-offsets-test.true in
    let e = c.first_open-group.ensures in
    let found : IsFirst c.deref-in-loop-offsets-2.result.now offsets group = record { within = e.within; none = e.open; met = e.met } in
    let first : IsFirst groups offsets group =
    subst (λ (z : List Offsets). IsFirst z offsets group) c.deref-in-loop-offsets-2.ensures.value found in
    let added = c.in_ok-add_to.ensures in
    let new = c.add_to.new.groups.items in
    let more = joining_next pieces pages joined groups new offsets group at.invariant.joining next first added in
    let met = met_next sets joined groups new offsets group at.invariant.met at.invariant.joining.below own first added in
    let pushed = c.in_ok-push.ensures.items in
    record {
      size = ap length pushed ∙ length_push joined group ∙ ap (λ (n : ℕ). n + 1) size;
      table = length-set at.latest.items c.lowest-least.result c.len.result ∙ at.invariant.table;
      joining = subst (λ (z : List ℕ). Joining pieces pages z new) (sym pushed) more;
      met = subst (λ (z : List ℕ). AreMet sets z new) (sym pushed) met;
    }
