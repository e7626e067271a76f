-- The stops where no instruction stands.
use Rattle.std.proofs.Common.{◌≡◌, ℕ, ◌^◌, ◌<◌, Bool, true, false, eqb, List, [], ◌∷◌, ◌++◌, length, Err, refl, ap, ◌∙◌, sym, ◌+◌, arith}
use Rattle.std.proofs.Math.Nat.{mod-eq_of_lt}
use Rattle.std.proofs.lemmas.Bool.{eqb-true}
use Rattle.length_decode.specs.declared.instruction_parts.Shape.{Shape}
use Rattle.length_decode.specs.declared.instruction_parts.Shape.TheVariants.{Known, Unknown, Short}
use Rattle.length_decode.specs.declared.instruction_parts.Parts.{Parts}
use Rattle.length_decode.specs.Spelling.{Fields, BeginsWith, spelling}
use Rattle.length_decode.specs.Parse.{shape_of}
use Rattle.length_decode.proofs.ShapeAnswers.{shape_known, is_short}
use Rattle.cpu_state.specs.Bytes.{advanced}
use Rattle.insn_form.specs.Machine.{Machine, first}
use Rattle.insn_form.specs.Step.{IsAt}
use Rattle.cpu_step.specs.declared.stop.Stop.TheVariants.{NoByte, UnknownInsn}
use Rattle.cpu_step.specs.Stepping.{judgement, code_of, IsByMissing, IsByUnknown}
use Rattle.cpu_step.proofs.Windows.{stands}
use Rattle.cpu_step.proofs.JudgedTasks.{nothing, short, unknown}

-- an address of 64 bits, no byte further
here : (a n : ℕ) → a < 2 ^ 64 → n ≡ 0 → a ≡ advanced a n
here a n h e =
    let same : a ≡ a + n = omega (arith, e) in
    let small : a + n < 2 ^ 64 = omega (arith, e, h) in
    same ∙ sym (mod-eq_of_lt small)

-- too few bytes: none, or some
pub by_missing : IsByMissing
by_missing s r h = by_length (eqb (length (code_of s)) 0) refl
  where
    by_length : (b : Bool) → eqb (length (code_of s)) 0 ≡ b → judgement s ≡ Err (NoByte (advanced s.rip (length (code_of s))))
    by_length true e =
        nothing (code_of s) s.core s.rip s.mem (first s.world) refl e
        ∙ ap (λ (a : ℕ). Err (NoByte a)) (here s.rip (length (code_of s)) r (eqb-true (length (code_of s)) 0 e))
    by_length false e = short (code_of s) s.core s.rip s.mem (first s.world) refl e ((is_short (code_of s)).1 h) (length (code_of s)) refl

-- an instruction that the bytes begin with stands there
begun_stands : (s : Machine) (p : Parts) → BeginsWith (code_of s) p → (f : Fields) × IsAt s f
begun_stands s p h =
    let f = h.spelled.fields in
    let e = h.joined ∙ ap (λ (z : List ℕ). z ++ h.rest) h.spelled.spelled in
    (f, record { spelled = h.spelled.is; here = stands s.mem s.rip 15 (spelling f) h.rest e })

-- no byte is too few
no_byte : (bs : List ℕ) → eqb (length bs) 0 ≡ true → shape_of bs ≡ Short
no_byte [] e = refl
no_byte (b ∷ bs) e = let k = eqb-true (length (b ∷ bs)) 0 e in absurd (omega (arith, k))

-- bytes that begin no instruction
pub by_unknown : IsByUnknown
by_unknown s m n = by_length (eqb (length (code_of s)) 0) refl (shape_of (code_of s)) refl
  where
    by_length : (b : Bool) → eqb (length (code_of s)) 0 ≡ b → (t : Shape) → shape_of (code_of s) ≡ t → judgement s ≡ Err (UnknownInsn s.rip)
    by_length true e t k = absurd (m ((is_short (code_of s)).0 (no_byte (code_of s) e)))
    by_length false e Unknown k = unknown (code_of s) s.core s.rip s.mem (first s.world) refl e k
    by_length false e Short k = absurd (m ((is_short (code_of s)).0 k))
    by_length false e (Known p) k = let x = begun_stands s p (shape_known (code_of s) p k) in absurd (n x.0 x.1)
