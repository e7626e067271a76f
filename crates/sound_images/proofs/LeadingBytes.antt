-- Whether the bytes at an address lead to a place.
use Rattle.std.proofs.Common.{◌≡◌, ◌≢◌, ◌⊎◌, inl, inr, ℕ, zero, suc, ◌≤◌, Bool, true, false, cond, List, [], ◌∷◌, length, drop, Result, Ok, Err, ℤ, refl, sym, ap, ◌∙◌, subst, arith}
use Rattle.std.specs.Option.{is_some}
use Rattle.std.proofs.lemmas.Bool.{cases_Bool, cases_eq, true≢false}
use Rattle.pun_base.specs.Memory.{Bytes}
use Rattle.cpu_state.specs.Bytes.{advanced, allows, byte_of, code_at}
use Rattle.cpu_state.specs.Fixed.{IsFixed}
use Rattle.length_decode.specs.declared.field_bytes.Stop.{Stop}
use Rattle.length_decode.specs.Parse.{parse}
use Rattle.length_decode.specs.Spelling.{Fields, spelling}
use Rattle.length_decode.proofs.SpelledFields.{parse_again}
use Rattle.length_decode.proofs.ReadFields.{parse_takes}
use Rattle.length_decode.proofs.ShapeAnswers.{read_len}
use Rattle.insn_form.specs.declared.form.Target.TheVariants.{Rel, Through}
use Rattle.insn_form.specs.declared.form.Op.TheVariants.{Jmp}
use Rattle.insn_form.specs.declared.form.Insn.{Insn}
use Rattle.insn_form.specs.declared.form.Insn.TheVariants.{Exact, Asked, Ending}
use Rattle.insn_form.specs.Operands.{word_of}
use Rattle.insn_form.specs.Instruction.{insn_of}
use Rattle.insn_form.specs.Step.{next_after}
use Rattle.insn_form.proofs.UniqueSteps.{front}
use Rattle.relocate_insn.proofs.FixedCode.{fixed_stands}
use Rattle.start_entries.specs.declared.entry.StartEntry.{StartEntry}
use Rattle.start_entries.specs.Finding.{entry_at}
use Rattle.start_entries.specs.Leading.{JumpsTo, Leads}

-- no jump, to wherever, stands there
abbrev pub NoJump : Bytes → ℕ → Type 0
NoJump m a = (target : ℕ) → JumpsTo m a target → ⊥

-- at most so many bytes are read
code_few : (m : Bytes) (a n : ℕ) → length (code_at m a n) ≤ n
code_few m a zero = omega arith
code_few m a (suc n) = by_test (allows 1 (m a)) (code_few m (advanced a 1) n)
  where
    by_test : (b : Bool) → length (code_at m (advanced a 1) n) ≤ n → length (cond b (byte_of (m a) ∷ code_at m (advanced a 1) n) []) ≤ suc n
    by_test true l = omega (arith, l)
    by_test false l = omega arith

-- the jump that stands there is what is read there
jump_read : (m : Bytes) (a target : ℕ) (j : JumpsTo m a target) → parse (code_at m a 15) ≡ Ok j.fields
jump_read m a target j =
    let w = code_at m a 15 in
    ap parse (front m a 15 (spelling j.fields) j.spelled.short (fixed_stands m a (spelling j.fields) j.stands))
    ∙ parse_again j.fields (drop (length (spelling j.fields)) w) j.spelled.formed

-- what is read is one
same_read : (f g : Fields) (r : Result Fields Stop) → r ≡ Ok f → r ≡ Ok g → f ≡ g
same_read f g r a b = let e : (let z : Result Fields Stop = Ok f in z) ≡ Ok g = sym a ∙ b in cc

-- what is read as an instruction isn't read as none
not_read : (f : Fields) (s : Stop) (r : Result Fields Stop) → r ≡ Ok f → r ≡ Err s → ⊥
not_read f s r a b = let e : (let z : Result Fields Stop = Ok f in z) ≡ Err s = sym a ∙ b in cc

-- a jump has one displacement
same_rel : (x y : ℤ) (i : Insn) → i ≡ Exact (Jmp (Rel x)) → i ≡ Exact (Jmp (Rel y)) → x ≡ y
same_rel x y i a b = let e : (let z : Insn = Exact (Jmp (Rel x)) in z) ≡ Exact (Jmp (Rel y)) = sym a ∙ b in cc

-- a jump has one target
pub one_target : (m : Bytes) (a x y : ℕ) → JumpsTo m a x → JumpsTo m a y → x ≡ y
one_target m a x y j k =
    let f = same_read j.fields k.fields (parse (code_at m a 15)) (jump_read m a x j) (jump_read m a y k) in
    let r = same_rel j.rel k.rel (insn_of k.fields) (ap insn_of (sym f) ∙ j.jump) k.jump in
    sym j.leads ∙ (λ i. advanced (next_after a (f i)) (word_of (r i))) ∙ k.leads

-- whether code is fixed is decided
fixed_or_not : (m : Bytes) (a : ℕ) (bs : List ℕ) → IsFixed m a bs ⊎ (IsFixed m a bs → ⊥)
fixed_or_not m a [] = inl tt
fixed_or_not m a (b ∷ bs) = elim (cases_Bool (allows 1 (m a))) [
  | inl x ↦ elim (cases_Bool (allows 2 (m a))) [
    | inl w ↦ inr (λ h. true≢false (sym w ∙ h.1))
    | inr w ↦ elim (cases_eq (byte_of (m a)) b) [
      | inl e ↦ elim (fixed_or_not m (advanced a 1) bs) [ inl r ↦ inl (x, w, e, r) | inr r ↦ inr (λ h. r h.3) ]
      | inr n ↦ inr (λ h. n h.2)
    ]
  ]
  | inr x ↦ inr (λ h. true≢false (sym h.0 ∙ x))
]

-- an instruction is a direct jump
abbrev IsJump : Insn → Type 0
IsJump i = (rel : ℤ) × (i ≡ Exact (Jmp (Rel rel)))

-- an instruction is a direct jump or isn't
is_jump : (i : Insn) → IsJump i ⊎ (IsJump i → ⊥)
is_jump (Exact (Jmp (Rel rel))) = inl (rel, refl)
is_jump (Exact (Jmp (Through s))) = inr (λ h. let e = h.1 in absurd cc)
is_jump (Exact op) = inr (λ h. let e = h.1 in absurd cc)
is_jump (Asked form) = inr (λ h. let e = h.1 in absurd cc)
is_jump Ending = inr (λ h. let e = h.1 in absurd cc)

-- whether a jump stands there, and where it leads
pub jump_or_not : (m : Bytes) (a : ℕ) → ((target : ℕ) × JumpsTo m a target) ⊎ NoJump m a
jump_or_not m a = by_read (parse (code_at m a 15)) refl
  where
    by_parts : (f : Fields) → parse (code_at m a 15) ≡ Ok f → IsJump (insn_of f) → IsFixed m a (spelling f)
        → (target : ℕ) × JumpsTo m a target
    by_parts f e j h =
        let t = parse_takes (code_at m a 15) f e in
        let s = read_len (code_at m a 15) f (code_few m a 15) e in (
          advanced (next_after a f)
              (word_of j.0),
          record { fields = f; spelled = record { formed = t.fine; short = s }; stands = h; rel = j.0; jump = j.1; leads = refl },
        )

    by_read : (r : Result Fields Stop) → parse (code_at m a 15) ≡ r → ((target : ℕ) × JumpsTo m a target) ⊎ NoJump m a
    by_read (Err s) e = inr (λ target j. not_read j.fields s (parse (code_at m a 15)) (jump_read m a target j) e)
    by_read (Ok f) e =
        let same : (target : ℕ) (j : JumpsTo m a target) → j.fields ≡ f = λ target j. same_read j.fields f (parse (code_at m a 15))
        (jump_read m a target j) e in
        elim (is_jump (insn_of f)) [
          | inl k ↦ elim (fixed_or_not m a (spelling f)) [
            | inl h ↦ inl (by_parts f e k h)
            | inr n ↦ inr (λ target j. n (subst (λ (g : Fields). IsFixed m a (spelling g)) (same target j) j.stands))
          ]
          | inr n ↦ inr (λ target j. n (j.rel, ap insn_of (sym (same target j)) ∙ j.jump))
        ]

-- whether the bytes at an address lead to a place
pub leads_or_not : (m : Bytes) (es : List StartEntry) (a place : ℕ) → Leads m es a place ⊎ (Leads m es a place → ⊥)
leads_or_not m es a place = elim (jump_or_not m a) [
  | inr n ↦ inr (λ h. elim h [ inl j ↦ n place j | inr q ↦ n q.0 q.1 ])
  | inl j ↦ elim (cases_eq j.0 place) [
    | inl e ↦ inl (inl (subst (λ (z : ℕ). JumpsTo m a z) e j.1))
    | inr away ↦ by_second j.0 j.1 away (is_some (entry_at es j.0)) refl (jump_or_not m j.0)
  ]
]
  where
    by_second : (mid : ℕ) → JumpsTo m a mid → mid ≢ place → (b : Bool) → is_some (entry_at es mid) ≡ b
        → ((target : ℕ) × JumpsTo m mid target) ⊎ NoJump m mid → Leads m es a place ⊎ (Leads m es a place → ⊥)
    by_second mid j away true e k = inr (λ h. elim h [
      | inl d ↦ away (one_target m a mid place j d)
      | inr q ↦ true≢false (sym e ∙ ap (λ (z : ℕ). is_some (entry_at es z)) (one_target m a mid q.0 j q.1) ∙ q.2)
    ])
    by_second mid j away false e (inr n) = inr (λ h. elim h [
      | inl d ↦ away (one_target m a mid place j d)
      | inr q ↦ n place (subst (λ (z : ℕ). JumpsTo m z place) (one_target m a q.0 mid q.1 j) q.3)
    ])
    by_second mid j away false e (inl k) = elim (cases_eq k.0 place) [
      | inl f ↦ inl (inr (mid, j, e, subst (λ (z : ℕ). JumpsTo m mid z) f k.1))
      | inr far ↦ inr (λ h. elim h [
        | inl d ↦ away (one_target m a mid place j d)
        | inr q ↦ far (one_target m mid k.0 place k.1 (subst (λ (z : ℕ). JumpsTo m z place) (one_target m a q.0 mid q.1 j) q.3))
      ])
    ]
