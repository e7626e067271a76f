-- How replies end a run of the stub, and that by one reply there is one next state at most.
use Rattle.std.proofs.Common.{◌≡◌, ◌≢◌, ℕ, zero, suc, ◌+◌, ◌<◌, ◌≤◌, List, [], ◌∷◌, ◌++◌, length, take, Option, Some, None, refl, sym, ap, ◌∙◌, subst, arith, true≢false}
use Rattle.length_decode.specs.Spelling.{Fields}
use Rattle.cpu_state.specs.declared.state.Core.{Core}
use Rattle.pun_base.specs.Memory.{Bytes}
use Rattle.insn_form.specs.Instruction.{insn_of}
use Rattle.insn_form.specs.Step.{next_after, task_of}
use Rattle.insn_form.specs.Runs.{nowhere}
use Rattle.insn_form.proofs.UniqueSteps.{one_instruction, one_next}
use Rattle.loader_form.specs.declared.kernel.MapAnswer.{MapAnswer}
use Rattle.loader_form.specs.declared.kernel.MapAnswer.TheVariants as answer
use Rattle.loader_form.specs.Kernel.{Reply, Call, Open, Map, Close, Asks, is_syscall, replied, number_after, HasOneStepWith, CallsAreReplied}
use Rattle.loader_form.specs.Running.{End, AtEntry, AtExit, AtCall, end_by, end_from, left_by, left_from, IsGiven, AreGiven, EndsAtEntry, NeverWaits, EndsAtExit}

-- an answer that is no failure doesn't change how the stub ends
given_end : (v : MapAnswer) (e : End) → IsGiven v → end_by v e ≡ e
given_end (answer.Ok n) e h = refl
given_end (answer.Failed n) e h = absurd h

-- an answer that is no failure doesn't change which replies are left
given_left : (v : MapAnswer) (rs later : List Reply) → IsGiven v → left_by v rs later ≡ later
given_left (answer.Ok n) rs later h = refl
given_left (answer.Failed n) rs later h = absurd h

-- where each mmap succeeds and close has a reply, the stub ends at the entry
from_given : (n : ℕ) (rs : List Reply) → n + 1 ≤ length rs → AreGiven (take n rs) → end_from n rs ≡ AtEntry
from_given zero [] l h = absurd (omega (arith, l))
from_given zero (r ∷ rs) l h = refl
from_given (suc n) [] l h = absurd (omega (arith, l))
from_given (suc n) (r ∷ rs) l h = given_end r.answer (end_from n rs) h.0 ∙ from_given n rs (omega (arith, l)) h.1

-- where open and each mmap succeed, and there is a reply to close, the stub ends at the entry
pub ends_at_entry : EndsAtEntry
ends_at_entry n [] l h = absurd (omega (arith, l))
ends_at_entry n (r ∷ rs) l h =
    let e : n + 1 ≡ suc n = omega arith in
    let h' = subst (λ (z : ℕ). AreGiven (take z (r ∷ rs))) e h in
    given_end r.answer (end_from n rs) h'.0 ∙ from_given n rs (omega (arith, l)) h'.1

-- an answer makes no end a wait for a reply
by_waits : (v : MapAnswer) (e : End) → e ≢ AtCall → end_by v e ≢ AtCall
by_waits (answer.Ok n) e h q = h q
by_waits (answer.Failed n) e h q = absurd cc

-- with a reply to each mmap and to close the stub doesn't wait
from_waits : (n : ℕ) (rs : List Reply) → n + 1 ≤ length rs → end_from n rs ≢ AtCall
from_waits zero [] l q = absurd (omega (arith, l))
from_waits zero (r ∷ rs) l q = absurd cc
from_waits (suc n) [] l q = absurd (omega (arith, l))
from_waits (suc n) (r ∷ rs) l q = by_waits r.answer (end_from n rs) (from_waits n rs (omega (arith, l))) q

-- with a reply to each call the stub never waits
pub never_waits : NeverWaits
never_waits n [] l q = absurd (omega (arith, l))
never_waits n (r ∷ rs) l q = by_waits r.answer (end_from n rs) (from_waits n rs (omega (arith, l))) q

abbrev fails : ℕ → ℕ → Reply
fails e y = record { answer = answer.Failed e; r11 = y }

-- where an mmap fails after others that don't, the stub ends at the exit, and the replies after the failure are left
from_exit : (n : ℕ) (rs : List Reply) (e y : ℕ) (later : List Reply) → length rs < n → AreGiven rs
    → (end_from n (rs ++ fails e y ∷ later) ≡ AtExit) × (left_from n (rs ++ fails e y ∷ later) ≡ later)
from_exit zero rs e y later l h = absurd (omega (arith, l))
from_exit (suc n) [] e y later l h = (refl, refl)
from_exit (suc n) (r ∷ rs) e y later l h =
    let q = from_exit n rs e y later (omega (arith, l)) h.1 in (
      given_end r.answer (end_from n (rs ++ fails e y ∷ later)) h.0 ∙ q.0,
      given_left r.answer (rs ++ fails e y ∷ later) (left_from n (rs ++ fails e y ∷ later)) h.0 ∙ q.1,
    )

-- where open or mmap fails, the stub ends at the exit, and the replies after the failure are left
pub ends_at_exit : EndsAtExit
ends_at_exit n [] e y later l h = (refl, refl)
ends_at_exit n (r ∷ rs) e y later l h =
    let q = from_exit n rs e y later (omega (arith, l)) h.1 in (
      given_end r.answer (end_from n (rs ++ fails e y ∷ later)) h.0 ∙ q.0,
      given_left r.answer (rs ++ fails e y ∷ later) (left_from n (rs ++ fails e y ∷ later)) h.0 ∙ q.1,
    )

-- the registers tell which call it is
one_call : (file : List ℕ) (k : Option ℕ) (c : Core) (m : Bytes) (x y : Call) → Asks file k c m x → Asks file k c m y → x ≡ y
one_call file k c m Open Open h g = refl
one_call file k c m Open (Map a n o) h g = absurd (let p = h.0 in let q = g.0 in omega (arith, p, q))
one_call file k c m Open Close h g = absurd (let p = h.0 in let q = g.0 in omega (arith, p, q))
one_call file k c m (Map a n o) Open h g = absurd (let p = h.0 in let q = g.0 in omega (arith, p, q))
one_call file k c m (Map a n o) (Map a' n' o') h g =
    let p = sym h.1 ∙ g.1 in let q = sym h.2 ∙ g.2 in let r = sym h.6 ∙ g.6 in λ i. Map (p i) (q i) (r i)
one_call file k c m (Map a n o) Close h g = absurd (let p = h.0 in let q = g.0 in omega (arith, p, q))
one_call file k c m Close Open h g = absurd (let p = h.0 in let q = g.0 in omega (arith, p, q))
one_call file k c m Close (Map a n o) h g = absurd (let p = h.0 in let q = g.0 in omega (arith, p, q))
one_call file k c m Close Close h g = refl

-- by one reply, or without one, there is one next state at most
pub one_step_with : HasOneStepWith
one_step_with file number s None k k' t t' p q = (p.3 ∙ sym q.3, one_next task_of nowhere nowhere s t t' (p.0, p.1) (q.0, q.1))
one_step_with file number s (Some r) k k' t t' p q =
    let e = one_call file number s.core s.mem p.call q.call p.asks q.asks in
    let f = one_instruction s p.here.fields q.here.fields p.here.at q.here.at in (
      p.opened ∙ ap (λ z. number_after z r.answer number) e ∙ sym q.opened,
      p.after ∙ (λ i. replied file (e i) r (next_after s.rip (f i)) s) ∙ sym q.after,
    )

-- no state has both a step without a reply and one by a reply
pub calls_replied : CallsAreReplied
calls_replied file number s r k k' t t' p q =
    let f = one_instruction s p.0 q.here.fields p.1.at q.here.at in
    true≢false (sym q.here.calls ∙ ap (λ (z : Fields). is_syscall (insn_of z)) (sym f) ∙ p.2)
