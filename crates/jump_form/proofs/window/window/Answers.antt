use Rattle.std.proofs.Common.{◌≡◌, ℕ, ℤ, pos, ◌+◌, ◌+ℤ◌, ◌<◌, ◌-ℤ◌, ◌<ℤ◌, ◌≤◌, ◌≤ℤ◌, ◌^◌, ap, ◌∙◌, to_z, of_z, w64, arith}
use Rattle.std.proofs.lemmas.Int.{ints}
use Rattle.std.proofs.lemmas.List.Elements.{All-from_get_or, recursion_from_All}
use Rattle.jump_form.proofs.AllowedTargets.{window_of}
use Rattle.jump_form.proofs.window.window.Goals as goal

-- Sums of a jump's numbers fit.
sum_fits : (next low : ℤ) (n : ℕ) → next ≡ pos n → n < 2 ^ 33 → (pos 0 -ℤ pos (2 ^ 31)) ≤ℤ low → low <ℤ pos (2 ^ 32) → to_z w64 (of_z w64 (to_z w64 (of_z w64 next) +ℤ to_z w64 (of_z w64 low))) ≡ pos n +ℤ low
sum_fits next low n e f l h = omega (arith, ints, e, l, h)

end_fits : (next low : ℤ) (values n : ℕ) → next ≡ pos n +ℤ low → n < 2 ^ 33 → (pos 0 -ℤ pos (2 ^ 31)) ≤ℤ low → low <ℤ pos (2 ^ 32)
    → values ≤ 2 ^ 32 → to_z w64 (of_z w64 (next +ℤ to_z w64 values)) ≡ next +ℤ pos values
end_fits next low values n e f l h b = omega (arith, ints, e, l, h, b)

pub returns : goal.returns
returns c = λ target.
    let next = c.args.addr + c.args.pads + 5 in
    let small : next < 2 ^ 33 = omega arith in
    let high : c.lowest.result <ℤ pos (2 ^ 32) = omega (arith, ints, c.lowest.ensures.high) in
    let low = sum_fits c.next.result c.lowest.result next c.next.ensures small c.lowest.ensures.low high in
    let sum = to_z w64 (of_z w64 (to_z w64 (of_z w64 c.next.result) +ℤ to_z w64 (of_z w64 c.lowest.result))) in
    let end = end_fits sum c.lowest.result c.value_count.result next low small c.lowest.ensures.low high c.value_count.ensures.bound
    ∙ ap (λ n. sum +ℤ pos n) c.value_count.ensures.value in
    window_of next c.args.own c.args.fixed.now _ _ target c.requires
    (recursion_from_All (λ b. b < 256) c.args.fixed.now (All-from_get_or (λ b. b < 256) c.args.fixed.now 0 (λ i l. omega (arith, c.type_inv.fixed i))))
    (low ∙ ap (λ z. pos next +ℤ z) c.lowest.ensures.value) end
