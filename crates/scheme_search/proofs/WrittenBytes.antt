-- The bytes that a plan writes.
use Rattle.std.proofs.Common.{◌≡◌, ℕ, zero, suc, pos, ◌+◌, ◌^◌, ◌<◌, ◌≤◌, List, ◌∷◌, ◌++◌, length, take, replicate, sym, ap, ◌∙◌, arith, length-take}
use Rattle.std.proofs.lemmas.List.{get_or-take}
use Rattle.pun_base.specs.Memory.{Bytes}
use Rattle.cpu_state.specs.Bytes.{byte_of}
use Rattle.cpu_state.specs.Fixed.{IsFixed}
use Rattle.jump_form.specs.Jumps.{IsJump}
use Rattle.pun_base.specs.declared.plan.Write.{Write}
use Rattle.start_list.specs.Plans.{write_run, TellsWrite, bytes_from}
use Rattle.scheme_search.proofs.ConsecutiveBytes.{length-bytes_from, get_or-bytes_from, same_list}
use Rattle.scheme_search.proofs.CodeCells.{from_fixed}
use Rattle.scheme_search.proofs.Displacements.{one_displacement}
use Rattle.scheme_search.proofs.MeetingJumps.{code_of}

-- What is spelled for a jump is its bytes.
pub spelled_is : (at pads pad t : ℕ) (bytes : List ℕ) → at + pads + 5 < 2 ^ 31 → t < 2 ^ 31 → IsJump at pads pad (pos t) bytes
    → bytes ≡ code_of at pads pad t
spelled_is at pads pad t bytes l h j =
    j.spelled ∙ ap (λ (ds : List ℕ). replicate pads pad ++ 0xE9 ∷ ds) (one_displacement (at + pads + 5) t j.displacement
    (omega arith) l h j.leads)

-- The first bytes of fixed ones are those that stand there.
pub taken_fixed : (m : Bytes) (a n : ℕ) (bs : List ℕ) → a + length bs < 2 ^ 64 → n ≤ length bs → IsFixed m a bs
    → take n bs ≡ bytes_from m a n
taken_fixed m a n bs low few h =
    same_list (take n bs) (bytes_from m a n) (omega (arith, length-take n bs, length-bytes_from m a n, few))
    (λ i k.
    let l : i < n = omega (arith, length-take n bs) in
    let f = from_fixed m a bs low h i (omega (arith, few)) in
    get_or-take n bs i 0 l ∙ sym f.byte ∙ sym (get_or-bytes_from m a n i l))

-- The n + k bytes from an address on are the first n and then the k after them.
pub bytes_from-append : (m : Bytes) (a n k : ℕ) → bytes_from m a (n + k) ≡ bytes_from m a n ++ bytes_from m (a + n) k
bytes_from-append m a zero k =
    let e : zero + k ≡ k = omega arith in
    let f : a ≡ a + 0 = omega arith in
    ap (λ j. bytes_from m a j) e ∙ ap (λ x. bytes_from m x k) f
bytes_from-append m a (suc n) k =
    let e : suc n + k ≡ suc (n + k) = omega arith in
    let f : a + 1 + n ≡ a + suc n = omega arith in
    ap (λ j. bytes_from m a j) e ∙ ap (λ (xs : List ℕ). byte_of (m a) ∷ xs) (bytes_from-append m (a + 1) n k
    ∙ ap (λ x. bytes_from m (a + 1) n ++ bytes_from m x k) f)

-- A write of bytes that stand afterwards tells them, and its run.
pub record IsToldWrite (before after : Bytes) (addr n : ℕ) (w : Write) : Type 0 where
  pub tells : TellsWrite before after w
  pub run : write_run w ≡ record { addr = addr; size = n }

-- Bytes that stand after the writes make such a write.
pub told_write : (before after : Bytes) (addr n : ℕ) (bs : List ℕ) (w : Write) → w.addr ≡ addr
    → w.was ≡ bytes_from before addr (length bs) → w.now ≡ bs → bs ≡ bytes_from after addr n → IsToldWrite before after addr n w
told_write before after addr n bs w at was now stand =
    let count : length bs ≡ n = ap (length {A = ℕ}) stand ∙ length-bytes_from after addr n in
    let long : length w.was ≡ n = ap (length {A = ℕ}) was ∙ length-bytes_from before addr (length bs) ∙ count in
    record {
      tells = (
        was ∙ (λ i. bytes_from before (sym at i) ((count ∙ sym long) i)),
        now ∙ stand ∙ (λ i. bytes_from after (sym at i) (sym long i)),
      );
      run = λ i. record { addr = at i; size = long i };
    }
