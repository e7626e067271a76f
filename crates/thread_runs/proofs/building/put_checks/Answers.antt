use Rattle.std.proofs.Common.{◌≡◌, ℕ, ◌+◌, List, [], ◌∷◌, ◌++◌, sym, ap, ◌∙◌, arith}
use Rattle.pun_base.specs.declared.action.Comparison.{Comparison}
use Rattle.pun_base.specs.Actions.{listed}
use Rattle.relocate_insn.proofs.InstructionParts.{grown}
use Rattle.thread_runs.specs.ThreadCode.{compare_len, checking_len, checking_code}
use Rattle.thread_runs.proofs.ComparisonCode.{check_of, last_check, more_checks}
use Rattle.thread_runs.proofs.building.put_checks.Goals as goal

pub returns-in-One : goal.returns-in-One
returns-in-One c =
    c.put_check.ensures ∙ ap (λ (l : List ℕ). c.args.code.now ++ l) (last_check c.in-One.a c.args.more)
    ∙ ap (λ l. c.args.code.now ++ checking_code (listed l) c.args.more) (sym c.in-One.is)

-- two comparisons
two_checks : (x y : Comparison) (m over : ℕ) → over ≡ compare_len y.reg + 2 + m → check_of x over ++ check_of y m ≡ checking_code (x ∷ y ∷ []) m
two_checks x y m over e =
    ap (λ (l : List ℕ). check_of x over ++ l) (last_check y m) ∙ more_checks x (y ∷ []) m over (e ∙ (let z : compare_len y.reg + 2 + m ≡ checking_len (y ∷ []) + m = omega arith in z))

pub returns-in-Two : goal.returns-in-Two
returns-in-Two c =
    let more = c.args.more in
    let m = c.put_check-in-Two.new.code in
    let end = c.put_check-in-Two-2.new.code in
    let over = c.check_size.result + more in
    grown c.args.code.now (check_of c.in-Two.a over) (check_of c.in-Two.b more) m end c.put_check-in-Two.ensures c.put_check-in-Two-2.ensures
    ∙ ap (λ (l : List ℕ). c.args.code.now ++ l) (two_checks c.in-Two.a c.in-Two.b more over (ap (λ z. z + more) c.check_size.ensures.value))
    ∙ ap (λ l. c.args.code.now ++ checking_code (listed l) more) (sym c.in-Two.is)

pub returns-in-Three : goal.returns-in-Three
returns-in-Three c =
    let more = c.args.more in
    let last = c.check_size-in-Three.result + more in
    let over = c.check_size-in-Three-2.result + last in
    let x = check_of c.in-Three.a over in
    let y = check_of c.in-Three.b last in
    let z = check_of c.in-Three.c more in
    let m = c.put_check-in-Three.new.code in
    let n = c.put_check-in-Three-2.new.code in
    let end = c.put_check-in-Three-3.new.code in
    let two = two_checks c.in-Three.b c.in-Three.c more last (ap (λ k. k + more) c.check_size-in-Three.ensures.value) in
    let far : over ≡ checking_len (c.in-Three.b ∷ c.in-Three.c ∷ []) + more = omega (arith, c.check_size-in-Three.ensures.value, c.check_size-in-Three-2.ensures.value) in
    grown c.args.code.now x (y ++ z) m end c.put_check-in-Three.ensures (grown m y z n end c.put_check-in-Three-2.ensures c.put_check-in-Three-3.ensures)
    ∙ ap (λ (l : List ℕ). c.args.code.now ++ l) (ap (λ (l : List ℕ). x ++ l) two ∙ more_checks c.in-Three.a (c.in-Three.b ∷ c.in-Three.c ∷ []) more over far)
    ∙ ap (λ l. c.args.code.now ++ checking_code (listed l) more) (sym c.in-Three.is)
