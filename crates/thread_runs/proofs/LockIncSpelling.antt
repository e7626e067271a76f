-- LOCK INC and LOCK XADD by their fields and by their bytes: one test.
use Rattle.std.proofs.Common.{◌≡◌, ℕ, true, ◌&&◌, List, [], ◌∷◌, ◌++◌, length, take, refl, sym, ap, ◌∙◌, subst, arith}
use Rattle.std.specs.Prelude.{nat_le}
use Rattle.std.proofs.lemmas.Bool.{and_parts}
use Rattle.length_decode.specs.Spelling.{IsInstruction}
use Rattle.length_decode.proofs.ShapeAnswers.{one_fields}
use Rattle.insn_form.specs.Plan.{same_bytes}
use Rattle.insn_form.proofs.UniqueSteps.{bytes_are}
use Rattle.event_steps.specs.ThreadSteps.{is_locked_inc, is_locked_xadd, unlocked, thread_task}
use Rattle.thread_runs.specs.LockedSpelling.{IsLockedInc, LockedIsSpelled, LockIsUntested, IsLockedXadd, XaddIsSpelled}
use Rattle.thread_runs.proofs.LockInc.{locked, locked_is, xadd_is}
use Rattle.event_steps.proofs.ClaimSteps.{exchanging}

-- F0 48 FF 04 25 and four bytes are an instruction
pub locked_formed : (a b c d : ℕ) → IsInstruction (locked (a ∷ b ∷ c ∷ d ∷ []) [])
locked_formed a b c d = record { formed = record { prefixes = refl; escape = refl; opcode = refl; known = refl; modrm = refl; operand = (refl, refl); imm = refl }; short = omega arith }

-- the fields of LOCK INC with four displacement bytes are spelled as LOCK INC
four_bytes : (ds im : List ℕ) → length ds ≡ 4 → length im ≡ 0 → IsLockedInc (locked ds im)
four_bytes (a ∷ b ∷ c ∷ d ∷ []) [] h k = record { a = a; b = b; c = c; d = d; spelled = refl }
four_bytes (a ∷ b ∷ c ∷ d ∷ []) (x ∷ xs) h k = absurd (omega (arith, k))
four_bytes [] im h k = absurd (omega (arith, h))
four_bytes (a ∷ []) im h k = absurd (omega (arith, h))
four_bytes (a ∷ b ∷ []) im h k = absurd (omega (arith, h))
four_bytes (a ∷ b ∷ c ∷ []) im h k = absurd (omega (arith, h))
four_bytes (a ∷ b ∷ c ∷ d ∷ e ∷ es) im h k = absurd (omega (arith, h))

-- an instruction passes the test on fields where its bytes are F0 48 FF 04 25 and four more, and nowhere else
pub locked_spelled : LockedIsSpelled
locked_spelled f i = (
  λ h. (let e = locked_is f h in let j = subst IsInstruction e i in subst IsLockedInc (sym e) (four_bytes f.disp f.imm j.formed.operand.1 j.formed.imm)),
  λ s. (let g = locked (s.a ∷ s.b ∷ s.c ∷ s.d ∷ []) [] in
      ap is_locked_inc (one_fields f g [] [] i.formed (locked_formed s.a s.b s.c s.d).formed (ap (λ bs. bs ++ []) s.spelled))),
)

-- without F0
at_fields : (d im : List ℕ) (next : ℕ) → thread_task (locked d im) next ≡ thread_task (unlocked (locked d im)) next
at_fields d im next = refl

-- LOCK INC and the same bytes without F0 are one task
pub lock_untested : LockIsUntested
lock_untested f next h = ap (λ z. thread_task z next) (locked_is f h) ∙ at_fields f.disp f.imm next ∙ ap (λ z. thread_task (unlocked z) next) (sym (locked_is f h))

-- F0 0F C1 04 25 and four bytes are an instruction
pub exchanging_formed : (a b c d : ℕ) → IsInstruction (exchanging (a ∷ b ∷ c ∷ d ∷ []) [])
exchanging_formed a b c d = record { formed = record { prefixes = refl; escape = refl; opcode = refl; known = refl; modrm = refl; operand = (refl, refl); imm = refl }; short = omega arith }

-- the fields of LOCK XADD with four displacement bytes are spelled as LOCK XADD
four_more : (ds im : List ℕ) → length ds ≡ 4 → length im ≡ 0 → IsLockedXadd (exchanging ds im)
four_more (a ∷ b ∷ c ∷ d ∷ []) [] h k = record { a = a; b = b; c = c; d = d; spelled = refl }
four_more (a ∷ b ∷ c ∷ d ∷ []) (x ∷ xs) h k = absurd (omega (arith, k))
four_more [] im h k = absurd (omega (arith, h))
four_more (a ∷ []) im h k = absurd (omega (arith, h))
four_more (a ∷ b ∷ []) im h k = absurd (omega (arith, h))
four_more (a ∷ b ∷ c ∷ []) im h k = absurd (omega (arith, h))
four_more (a ∷ b ∷ c ∷ d ∷ e ∷ es) im h k = absurd (omega (arith, h))

-- an instruction passes the test for LOCK XADD where its bytes are F0 0F C1 04 25 and four more, and nowhere else
pub xadd_spelled : XaddIsSpelled
xadd_spelled f i = (
  λ h. (let e = xadd_is f h in let j = subst IsInstruction e i in subst IsLockedXadd (sym e) (four_more f.disp f.imm j.formed.operand.1 j.formed.imm)),
  λ s. (let g = exchanging (s.a ∷ s.b ∷ s.c ∷ s.d ∷ []) [] in
      ap is_locked_xadd (one_fields f g [] [] i.formed (exchanging_formed s.a s.b s.c s.d).formed (ap (λ bs. bs ++ []) s.spelled))),
)

-- these five bytes, four more, and others
pub record Begun (x0 x1 x2 x3 x4 : ℕ) (bs : List ℕ) : Type 0 where
  pub a : ℕ
  pub b : ℕ
  pub c : ℕ
  pub d : ℕ
  pub rest : List ℕ
  pub joined : bs ≡ x0 ∷ x1 ∷ x2 ∷ x3 ∷ x4 ∷ a ∷ b ∷ c ∷ d ∷ rest

-- nine bytes or more, the first five of which pass the test for being these, are these with four more, and others
pub begun : (x0 x1 x2 x3 x4 : ℕ) (bs : List ℕ) → (nat_le 9 (length bs) && same_bytes (take 5 bs) (x0 ∷ x1 ∷ x2 ∷ x3 ∷ x4 ∷ [])) ≡ true → Begun x0 x1 x2 x3 x4 bs
begun x0 x1 x2 x3 x4 [] h = absurd cc
begun x0 x1 x2 x3 x4 (y0 ∷ []) h = absurd cc
begun x0 x1 x2 x3 x4 (y0 ∷ y1 ∷ []) h = absurd cc
begun x0 x1 x2 x3 x4 (y0 ∷ y1 ∷ y2 ∷ []) h = absurd cc
begun x0 x1 x2 x3 x4 (y0 ∷ y1 ∷ y2 ∷ y3 ∷ []) h = absurd cc
begun x0 x1 x2 x3 x4 (y0 ∷ y1 ∷ y2 ∷ y3 ∷ y4 ∷ []) h = absurd cc
begun x0 x1 x2 x3 x4 (y0 ∷ y1 ∷ y2 ∷ y3 ∷ y4 ∷ a ∷ []) h = absurd cc
begun x0 x1 x2 x3 x4 (y0 ∷ y1 ∷ y2 ∷ y3 ∷ y4 ∷ a ∷ b ∷ []) h = absurd cc
begun x0 x1 x2 x3 x4 (y0 ∷ y1 ∷ y2 ∷ y3 ∷ y4 ∷ a ∷ b ∷ c ∷ []) h = absurd cc
begun x0 x1 x2 x3 x4 (y0 ∷ y1 ∷ y2 ∷ y3 ∷ y4 ∷ a ∷ b ∷ c ∷ d ∷ rest) h =
    let xs = x0 ∷ x1 ∷ x2 ∷ x3 ∷ x4 ∷ [] in
    let ys = y0 ∷ y1 ∷ y2 ∷ y3 ∷ y4 ∷ [] in
    let more = a ∷ b ∷ c ∷ d ∷ rest in
    let p = and_parts (nat_le 9 (length (ys ++ more))) (same_bytes ys xs) h in
    record { a = a; b = b; c = c; d = d; rest = rest; joined = ap (λ (l : List ℕ). l ++ more) (bytes_are ys xs p.1) }
