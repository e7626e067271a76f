-- One instruction at most stands at an address, so a state has at most one next state and one run of a length.
use Rattle.std.proofs.Common.{◌≡◌, ℕ, zero, suc, ◌≤◌, true, eqb, List, [], ◌∷◌, ◌++◌, length, drop, Option, Some, None, Result, Ok, refl, sym, ap, ◌∙◌, subst, arith}
use Rattle.std.proofs.lemmas.Bool.{and_parts, eqb-true}
use Rattle.pun_base.specs.Memory.{Bytes}
use Rattle.length_decode.specs.Spelling.{Fields, spelling}
use Rattle.length_decode.proofs.ShapeAnswers.{one_fields}
use Rattle.cpu_state.specs.Bytes.{advanced, code_at, Stands}
use Rattle.insn_form.specs.Plan.{Halt, same_bytes, same_address}
use Rattle.insn_form.specs.Machine.{Machine, act}
use Rattle.insn_form.specs.Step.{Step, next_after, task_of}
use Rattle.insn_form.specs.Laws.{HasOneInstruction, HasOneNext, HasOneRun}
use Rattle.insn_form.specs.Runs.{nowhere, IsRun}

-- what stands is the front of the executable bytes
pub front : (m : Bytes) (a n : ℕ) (bs : List ℕ) → length bs ≤ n → Stands m a bs → code_at m a n ≡ bs ++ drop (length bs) (code_at m a n)
front m a n [] l h = refl
front m a zero (b ∷ bs) l h = absurd (omega arith)
front m a (suc n) (b ∷ bs) l h =
    let r = front m (advanced a 1) n bs (omega arith) h.2 in
    rw h.0 (λ i. h.1 i ∷ r i)

-- one instruction at most stands at an address
pub one_instruction : HasOneInstruction
one_instruction s f g p q =
    let a = front s.mem s.rip 15 (spelling f) p.spelled.short p.here in
    let b = front s.mem s.rip 15 (spelling g) q.spelled.short q.here in
    one_fields f g _ _ p.spelled.formed q.spelled.formed (sym a ∙ b)

-- bytes that pass the test for being the same are equal
pub bytes_are : (xs ys : List ℕ) → same_bytes xs ys ≡ true → xs ≡ ys
bytes_are [] [] h = refl
bytes_are [] (y ∷ ys) h = absurd cc
bytes_are (x ∷ xs) [] h = absurd cc
bytes_are (x ∷ xs) (y ∷ ys) h =
    let p = and_parts (eqb x y) (same_bytes xs ys) h in
    let e = eqb-true x y p.0 in
    let r = bytes_are xs ys p.1 in
    λ i. e i ∷ r i

-- so are addresses, or what else there is or isn't
pub address_is : (a b : Option ℕ) → same_address a b ≡ true → a ≡ b
address_is None None h = refl
address_is None (Some b) h = absurd cc
address_is (Some a) None h = absurd cc
address_is (Some a) (Some b) h = ap Some (eqb-true a b h)

-- machines that are equal as results are equal
pub same_ok : (t u : Machine) → ◌≡◌ {A = Result Machine Halt} (Ok t) (Ok u) → t ≡ u
same_ok t u e = cc

-- however spellings are read, a state has at most one next state
pub one_next : HasOneNext
one_next tasks p q s t u a b =
    let e = one_instruction s a.0 b.0 a.1.at b.1.at in
    let acts = subst (λ (f : Fields). act (tasks f (next_after s.rip f)) (next_after s.rip f) s ≡ Ok t) e a.1.acts in
    same_ok t u (sym acts ∙ b.1.acts)

-- runs of as many steps from one state are the same
pub one_run : HasOneRun
one_run s [] [] l a b = refl
one_run s [] (u ∷ us) l a b = absurd (omega arith)
one_run s (t ∷ ts) [] l a b = absurd (omega arith)
one_run s (t ∷ ts) (u ∷ us) l a b =
    let e = one_next task_of nowhere nowhere s t u a.0 b.0 in
    let r = one_run t ts us (omega arith) a.1 (subst (λ (z : Machine). IsRun Step z us) (sym e) b.1) in
    λ i. e i ∷ r i
