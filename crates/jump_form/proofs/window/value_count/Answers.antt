use Rattle.std.proofs.Common.{◌≡◌, ℕ, zero, suc, ◌*◌, ◌^◌, ◌≤◌, ◌%◌, refl, arith}
use Rattle.jump_form.proofs.window.value_count.Goals as goal

-- A one shifted by so many bytes.
shifted : (count : ℕ) → count ≤ 4 → 1 * 2 ^ (8 * count) % 18446744073709551616 ≡ 256 ^ count
shifted zero h = refl
shifted (suc zero) h = refl
shifted (suc (suc zero)) h = refl
shifted (suc (suc (suc zero))) h = refl
shifted (suc (suc (suc (suc zero)))) h = refl
shifted (suc (suc (suc (suc (suc count))))) h = absurd (omega arith)

-- That is at most 2 to the 32.
bounded : (count : ℕ) → count ≤ 4 → 256 ^ count ≤ 2 ^ 32
bounded zero h = omega arith
bounded (suc zero) h = omega arith
bounded (suc (suc zero)) h = omega arith
bounded (suc (suc (suc zero))) h = omega arith
bounded (suc (suc (suc (suc zero)))) h = omega arith
bounded (suc (suc (suc (suc (suc count))))) h = absurd (omega arith)

pub returns-clause-value : goal.returns-clause-value
returns-clause-value c = shifted c.args.count c.requires

pub returns-clause-bound : goal.returns-clause-bound
returns-clause-bound c = rw (shifted c.args.count c.requires) (bounded c.args.count c.requires)
