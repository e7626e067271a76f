-- Code that is loaded, single jumps, and parts of memory.
use Rattle.std.proofs.Common.{◌≡◌, ℕ, zero, suc, ◌+◌, ◌^◌, ◌<◌, ◌≤◌, false, List, [], ◌∷◌, length, map, replicate, slice_index, Option, Some, None, Ok, ℤ, pos, refl, sym, ap, ap₂, ◌∙◌, subst, arith}
use Rattle.std.specs.Option.{option_map}
use Rattle.pun_base.specs.Memory.{Cell, Bytes}
use Rattle.cpu_state.specs.declared.world.Question.{Question}
use Rattle.cpu_state.specs.Bytes.{advanced, allows, byte_of, Stands}
use Rattle.cpu_state.specs.Fixed.{IsFixed}
use Rattle.length_decode.specs.Spelling.{spelling}
use Rattle.insn_form.specs.declared.form.Insn.{Insn}
use Rattle.insn_form.specs.declared.form.Insn.TheVariants.{Exact}
use Rattle.insn_form.specs.declared.form.Op.TheVariants.{Jmp}
use Rattle.insn_form.specs.declared.form.Target.TheVariants.{Rel}
use Rattle.insn_form.specs.Operands.{word_of}
use Rattle.insn_form.specs.Resolving.{resolved_insn}
use Rattle.insn_form.specs.Instruction.{insn_of}
use Rattle.insn_form.specs.Meaning.{effect}
use Rattle.insn_form.specs.Machine.{Machine, act}
use Rattle.insn_form.specs.Step.{Step, next_after, question_of}
use Rattle.insn_form.specs.Runs.{nowhere}
use Rattle.relocate_insn.proofs.FixedCode.{SameCode, next_address, fixed_stands, fixed_on}
use Rattle.relocate_insn.proofs.PieceSteps.{gone_to, step_of, word_pos}
use Rattle.trampoline.specs.Events.{bytes_at}
use Rattle.start_entries.specs.Leading.{JumpsTo}

-- code that stands where nothing can be written is fixed
pub stands_fixed : (m : Bytes) (a : ℕ) (bs : List ℕ) → a + length bs < 2 ^ 64
    → ((x : ℕ) → a ≤ x → x < a + length bs → allows 2 (m x) ≡ false) → Stands m a bs → IsFixed m a bs
stands_fixed m a [] l w h = tt
stands_fixed m a (b ∷ bs) l w h =
    let n : advanced a 1 ≡ a + 1 = next_address a 1 (omega arith) in (
      h.0,
      w a (omega arith) (omega arith),
      h.1,
      subst (λ (z : ℕ). IsFixed m z bs) (sym n)
          (stands_fixed m (a + 1) bs (omega arith) (λ x i j. w x (omega arith) (omega arith)) (subst (λ (z : ℕ). Stands m z bs) n h.2)),
    )

-- code that is loaded R-X byte by byte is fixed
pub loaded_fixed : (m : Bytes) (a : ℕ) (bs : List ℕ) → a + length bs < 2 ^ 64
    → ((k : ℕ) → k < length bs → m (a + k) ≡ Some (record { byte = slice_index bs k; perms = 5 })) → IsFixed m a bs
loaded_fixed m a [] l h = tt
loaded_fixed m a (b ∷ bs) l h =
    let n : advanced a 1 ≡ a + 1 = next_address a 1 (omega arith) in
    let z : a ≡ a + 0 = omega arith in
    let e : m a ≡ Some (record { byte = b; perms = 5 }) = ap m z ∙ h 0 (omega arith) in
    let rest : IsFixed m (a + 1) bs = loaded_fixed m (a + 1) bs (omega arith)
    (λ k j. let f : a + 1 + k ≡ a + suc k = omega arith in ap m f ∙ h (suc k) (omega arith)) in
    (ap (allows 1) e, ap (allows 2) e, ap byte_of e, subst (λ (y : ℕ). IsFixed m y bs) (sym n) rest)

-- code in another memory that agrees there
pub fixed_at : (m w : Bytes) (a : ℕ) (bs : List ℕ) → a + length bs < 2 ^ 64 → ((x : ℕ) → a ≤ x → x < a + length bs → w x ≡ m x)
    → IsFixed m a bs → IsFixed w a bs
fixed_at m w a [] l e h = tt
fixed_at m w a (b ∷ bs) l e h =
    let n : advanced a 1 ≡ a + 1 = next_address a 1 (omega arith) in
    let f = e a (omega arith) (omega arith) in (
      ap (allows 1) f ∙ h.0,
      ap (allows 2) f ∙ h.1,
      ap byte_of f ∙ h.2,
      subst (λ (z : ℕ). IsFixed w z bs) (sym n)
          (fixed_at m w (a + 1) bs (omega arith) (λ x i j. e x (omega arith) (omega arith)) (subst (λ (z : ℕ). IsFixed m z bs) n h.3)),
    )

-- a part of memory that is zeros is read as zeros
pub zero_part : (m : Bytes) (a n : ℕ) → ((x : ℕ) → a ≤ x → x < a + n → m x ≡ Some (record { byte = 0; perms = 6 }))
    → bytes_at m a n ≡ map Some (replicate n 0)
zero_part m a zero h = refl
zero_part m a (suc n) h = ap₂ (λ (x : Option ℕ) xs. x ∷ xs) (ap (option_map (λ (c : Cell). c.byte)) (h a (omega arith) (omega arith)))
    (zero_part m (a + 1) n (λ x l k. h x (omega arith) (omega arith)))

-- of two cells with equal permissions one is nothing where the other is
pub same_none : (o q : Option Cell) → option_map (λ (c : Cell). c.perms) o ≡ option_map (λ (c : Cell). c.perms) q → q ≡ None → o ≡ None
same_none None q e f = refl
same_none (Some c) None e f = absurd cc
same_none (Some c) (Some d) e f = absurd cc

-- a direct jump acts by going to its target alone
pub jump_acts : (u : Machine) (next target : ℕ) (i : Insn) (q : Question) (rel : ℤ) → i ≡ Exact (Jmp (Rel rel))
    → advanced next (word_of rel) ≡ target → act (record { insn = resolved_insn next i; asks = q }) next u ≡ Ok (gone_to u target)
unfolding effect
jump_acts u next target i q rel e f =
    let w : word_of (pos (advanced next (word_of rel))) ≡ target = word_pos (advanced next (word_of rel)) (omega arith) ∙ f in
    subst (λ (i : Insn). act (record { insn = resolved_insn next i; asks = q }) next u ≡ Ok (gone_to u target)) (sym e)
    (ap (λ n. Ok (gone_to u n)) w)

-- a jump that stands in an image is made in each memory with its code
pub jump_made : (m : Bytes) (u : Machine) (a target : ℕ) → JumpsTo m a target → SameCode m u.mem → u.rip ≡ a
    → Step nowhere u (gone_to u target)
jump_made m u a target j c e =
    let f = j.fields in
    let n : next_after u.rip f ≡ next_after a f = ap (λ z. next_after z f) e in
    step_of u (gone_to u target) f
    (record {
      spelled = j.spelled;
      here = subst (λ (z : ℕ). Stands u.mem z (spelling f)) (sym e)
          (fixed_stands u.mem a (spelling f) (fixed_on m u.mem a (spelling f) c j.stands));
    })
    (jump_acts u (next_after u.rip f) target (insn_of f) (question_of f (next_after u.rip f)) j.rel j.jump
    (ap (λ z. advanced z (word_of j.rel)) n ∙ j.leads))
