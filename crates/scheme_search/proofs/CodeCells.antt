-- Bytes that can be executed and not written, one after the other.
use Rattle.std.proofs.Common.{◌≡◌, ℕ, zero, suc, ◌+◌, ◌*◌, ◌/◌, ◌%◌, ◌^◌, ◌<◌, true, false, not, List, [], ◌∷◌, length, get_or, Option, Some, None, eqb, refl, sym, ap, ◌∙◌, subst, arith}
use Rattle.std.proofs.lemmas.Nat.{and_mask}
use Rattle.std.proofs.lemmas.Nat.Bits.{and_high}
use Rattle.pun_base.specs.Memory.{Cell, Bytes}
use Rattle.cpu_state.specs.Bytes.{advanced, allows, byte_of, with_byte}
use Rattle.cpu_state.specs.Fixed.{IsFixed}
use Rattle.byte_locks.specs.declared.lock.Lock.{Lock}
use Rattle.byte_locks.specs.declared.lock.Lock.TheVariants.{Free, Punned, Changed}
use Rattle.start_list.specs.TurnViews.{cell_by}

-- A byte that can be executed and not written.
pub record IsCodeCell (c : Option Cell) : Type 0 where
  pub runs : allows 1 c ≡ true
  pub stays : allows 2 c ≡ false

-- A byte whose permissions are to execute and not to write is one of code.
pub code_cell : (b p : ℕ) → p % 4 ≡ 1 → IsCodeCell (Some (record { byte = b; perms = p }))
code_cell b p h = record {
  runs = ap (λ z. not (eqb z 0)) (and_mask p 1 ∙ (let e : p % 2 ^ 1 ≡ 1 = omega arith in e));
  stays = ap (λ z. not (eqb z 0)) (and_high p 1 1 ∙ (let e : p / 2 ^ 1 % 2 ^ 1 * 2 ^ 1 ≡ 0 = omega arith in e));
}

-- another byte leaves a cell's permissions as they are
allows-with_byte : (p b : ℕ) (c : Option Cell) → allows p (with_byte b c) ≡ allows p c
allows-with_byte p b None = refl
allows-with_byte p b (Some c) = refl

-- A byte of code stays one with another value.
pub written_cell : (b : ℕ) (c : Option Cell) → IsCodeCell c → IsCodeCell (with_byte b c)
written_cell b c h = record { runs = allows-with_byte 1 b c ∙ h.runs; stays = allows-with_byte 2 b c ∙ h.stays }

-- A byte of code is one under any lock.
pub locked_cell : (k : Lock) (c : Option Cell) → IsCodeCell c → IsCodeCell (cell_by k c)
locked_cell Free c h = h
locked_cell Punned c h = h
locked_cell (Changed b) c h = written_cell b c h

-- A byte that is written is what was written.
pub written_byte : (b : ℕ) (c : Option Cell) → IsCodeCell c → byte_of (with_byte b c) ≡ b
written_byte b None h = absurd (let q = h.runs in cc)
written_byte b (Some c) h = refl

-- A byte of code with this value.
pub record IsFixedByte (c : Option Cell) (b : ℕ) : Type 0 where
  pub code : IsCodeCell c
  pub byte : byte_of c ≡ b

-- below 2^64 the next address is one higher
next_address : (a : ℕ) → a + 1 < 2 ^ 64 → advanced a 1 ≡ a + 1
next_address a h = omega arith

-- Bytes that stand one by one as code, below 2^64, are fixed together.
pub to_fixed : (m : Bytes) (a : ℕ) (bs : List ℕ) → a + length bs < 2 ^ 64 → ((k : ℕ) → k < length bs → IsFixedByte (m (a + k)) (get_or bs k 0)) → IsFixed m a bs
to_fixed m a [] l h = tt
to_fixed m a (b ∷ bs) l h =
    let z : a + 0 ≡ a = omega arith in
    let here = subst (λ (x : ℕ). IsFixedByte (m x) b) z (h 0 (omega arith)) in
    let next = next_address a (omega arith) in
    let rest : IsFixed m (a + 1) bs = to_fixed m (a + 1) bs (omega arith)
    (λ k g. let s : a + suc k ≡ a + 1 + k = omega arith in subst (λ (x : ℕ). IsFixedByte (m x) (get_or bs k 0)) s (h (suc k) (omega arith))) in
    (here.code.runs, here.code.stays, here.byte, subst (λ (x : ℕ). IsFixed m x bs) (sym next) rest)

-- Bytes that are fixed together stand as code one by one.
pub from_fixed : (m : Bytes) (a : ℕ) (bs : List ℕ) → a + length bs < 2 ^ 64 → IsFixed m a bs → (k : ℕ) → k < length bs → IsFixedByte (m (a + k)) (get_or bs k 0)
from_fixed m a [] l h k g = absurd (omega arith)
from_fixed m a (b ∷ bs) l h zero g =
    let z : a ≡ a + 0 = omega arith in
    subst (λ (x : ℕ). IsFixedByte (m x) b) z (record { code = record { runs = h.0; stays = h.1 }; byte = h.2 })
from_fixed m a (b ∷ bs) l h (suc k) g =
    let next = next_address a (omega arith) in
    let s : a + 1 + k ≡ a + suc k = omega arith in
    let rest : IsFixed m (a + 1) bs = subst (λ (x : ℕ). IsFixed m x bs) next h.3 in
    subst (λ (x : ℕ). IsFixedByte (m x) (get_or bs k 0)) s (from_fixed m (a + 1) bs (omega arith) rest k (omega arith))
