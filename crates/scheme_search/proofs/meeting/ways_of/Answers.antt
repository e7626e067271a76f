use Rattle.std.proofs.Common.{◌≡◌, ◌⊎◌, ℕ, ℤ, pos, ◌*◌, ◌^◌, ◌≤◌, ◌+ℤ◌, ◌-ℤ◌, ◌<ℤ◌, ◌≤ℤ◌, [], refl, ap, ◌∙◌, subst, arith, to_z, of_z, w64}
use Rattle.std.proofs.lemmas.Int.{ints}
use Rattle.jump_form.specs.Windows.{lowest_displacement}
use Rattle.scheme_search.specs.Meetings.{high_bytes, shared_count, IsFrontWay}
use Rattle.scheme_search.proofs.MeetingBytes.{length-high_bytes, high_are_bytes}
use Rattle.scheme_search.proofs.MeetingWays.{starts_kept, starts_turned}
use Rattle.scheme_search.proofs.MeetingPicks.{signed_bounds, whole_small, front_is_way, back_is_way}
use Rattle.scheme_search.proofs.meeting.ways_of.Goals as goal

pub turn_of-turn-requires-clause-lowest : goal.turn_of-turn-requires-clause-lowest
turn_of-turn-requires-clause-lowest c =
    let m = c.args.meeting.now in
    let g = c.requires.meeting in
    let b = signed_bounds _ (whole_small m.own (high_bytes m 0) (length-high_bytes m g 0) (high_are_bytes m g 0)) in
    omega (arith, ints, b.0, b.1, c.front_way-way.ensures.lo, c.from.ensures, g.front.1)

pub returns : goal.returns
returns c =
    let m = c.args.meeting.now in
    let g = c.requires.meeting in
    let n = shared_count m in
    let low = lowest_displacement [] m.own (high_bytes m 0) in
    let small = whole_small m.own (high_bytes m 0) (length-high_bytes m g 0) (high_are_bytes m g 0) in
    let b = signed_bounds _ small in
    let way = c.front_way-way.result in
    let front = c.front_way-way.ensures in
    let turned = subst (λ (k : ℕ). IsFrontWay m k (pos (2 ^ 32)) c.turned.result) front.sized c.turned.ensures.way in
    let lowest : to_z w64 (of_z w64 (to_z w64 (of_z w64 way.lo) -ℤ to_z w64 (of_z w64 c.from.result))) ≡ low =
    omega (arith, ints, b.0, b.1, front.lo, c.from.ensures, g.front.1) in
    let count : c.value_count-count.result ≡ 256 ^ n = c.value_count-count.ensures.value ∙ ap (λ k. 256 ^ k) c.shared_bytes.ensures in
    let most : c.turn_of-turn.result ≤ c.value_count-count.result = c.turn_of-turn.ensures.most in
    let scale : c.turned.result.scale ≡ way.scale = c.turned.ensures.scale in
    let Before : ℤ → ℕ → Type 0 = λ z x. (z <ℤ pos 0) ⊎ ((z +ℤ pos (x * way.scale)) <ℤ pos (2 ^ 31)) in
    let Behind : ℤ → ℕ → Type 0 = λ z x. (pos 0 ≤ℤ z) × (pos (2 ^ 31) ≤ℤ (z +ℤ pos (x * way.scale))) in
    record {
      front_way = front;
      turned_way = turned;
      back_way = c.back_way.ensures;
      most = most;
      all = count;
      before = λ x l. starts_kept m g c.args.front (pos 0) way front x (omega (arith, l, most, count)) refl
          (subst (λ (z : ℤ). Before z x) lowest (c.turn_of-turn.ensures.before x l)) small;
      behind = λ x l h.
          let q = subst (λ (z : ℤ). Behind z x) lowest (c.turn_of-turn.ensures.behind x l h) in
          let k = ap (λ y. x * y) scale in
          starts_turned m g c.args.front (pos (2 ^ 32)) c.turned.result turned x (omega (arith, h, count)) refl q.0
          (omega (arith, ints, q.1, k)) small;
      front_small = front_is_way m g c.args.front (pos 0) way front c.requires.front (omega (arith, ints))
          (omega (arith, ints)) c.turn_of-turn.result (omega (arith, most, count));
      turned_small = front_is_way m g c.args.front (pos (2 ^ 32)) c.turned.result turned c.requires.front (omega (arith, ints))
          (omega (arith, ints)) c.value_count-count.result (omega (arith, count));
      back_small = (
        back_is_way m g c.args.back c.back_way.result c.back_way.ensures c.requires.back c.turn_of-turn.result (omega (arith, most, count)),
        back_is_way m g c.args.back c.back_way.result c.back_way.ensures c.requires.back c.value_count-count.result (omega (arith, count)),
      );
    }
