-- Writes are equal where their addresses and lists are.
use Rattle.std.proofs.Common.{◌≡◌, ℕ, ◌≤◌, List, length, subst}
use Rattle.std.proofs.Math.Nat.{ℕ_set}
use Rattle.std.proofs.Math.Bridge.{le_prop}
use Rattle.pun_base.specs.declared.plan.Write.{Write}

-- two lists that may stand for those of a write give the same write
abbrev pub IsSame : Write → List ℕ → List ℕ → Type 0
IsSame w was now = (e : length was ≡ length now) (s : 1 ≤ length now) (f : length now ≤ 16)
    → record { addr = w.addr; was = was; now = now; equal = e; some = s; fits = f } ≡ w

own : (w : Write) → IsSame w w.was w.now
own w e s f = λ i. record {
  addr = w.addr;
  was = w.was;
  now = w.now;
  equal = ℕ_set _ _ e w.equal i;
  some = le_prop s w.some i;
  fits = le_prop f w.fits i;
}

-- a write with the address and the lists of another is that one
pub same_write : (w : Write) (was now : List ℕ) → w.was ≡ was → w.now ≡ now → IsSame w was now
same_write w was now p q = subst (λ xs. IsSame w xs now) p (subst (λ ys. IsSame w w.was ys) q (own w))
