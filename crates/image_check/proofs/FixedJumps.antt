-- Code that stays, and the one jump that can stand there.
use Rattle.std.proofs.Common.{◌≡◌, inl, inr, ◌↔◌, ℕ, zero, suc, ◌+◌, ◌<◌, ◌≤◌, Bool, true, false, cond, IsTrue, List, [], ◌∷◌, ◌++◌, length, drop, Option, Some, None, is_some, append_assoc, append-nil, refl, sym, ap, ◌∙◌, subst, arith}
use Rattle.std.specs.Prelude.{◌==◌, ◌&&◌, not, bit_and, ℤ, Ok}
use Rattle.std.proofs.lemmas.Bool.{eqb-true, eq-eqb}
use Rattle.pun_base.specs.Memory.{Cell, Bytes}
use Rattle.length_decode.specs.declared.instruction_parts.Parts.{Parts}
use Rattle.length_decode.specs.declared.instruction_parts.Shape.{Shape}
use Rattle.length_decode.specs.declared.instruction_parts.Shape.TheVariants.{Known, Unknown, Short}
use Rattle.length_decode.specs.Parse.{parse}
use Rattle.length_decode.specs.Spelling.{Fields, spelling, parts_of, BeginsWith}
use Rattle.length_decode.proofs.ShapeAnswers.{one_fields}
use Rattle.cpu_state.specs.Bytes.{advanced, allows, byte_of}
use Rattle.cpu_state.specs.Fixed.{IsFixed}
use Rattle.insn_form.specs.declared.form.Insn.{Insn}
use Rattle.insn_form.specs.declared.form.Insn.TheVariants.{Exact, Asked, Ending}
use Rattle.insn_form.specs.declared.form.Op.{Op}
use Rattle.insn_form.specs.declared.form.Op.TheVariants.{Jmp}
use Rattle.insn_form.specs.declared.form.Target.{Target}
use Rattle.insn_form.specs.declared.form.Target.TheVariants.{Rel, Through}
use Rattle.insn_form.specs.Instruction.{insn_of}
use Rattle.insn_form.specs.Operands.{word_of}
use Rattle.relocate_insn.proofs.FixedCode.{fixed_front as fixed_part}
use Rattle.start_entries.specs.declared.entry.StartEntry.{StartEntry}
use Rattle.start_entries.specs.Finding.{entry_at}
use Rattle.start_entries.specs.Leading.{JumpsTo, Leads}
use Rattle.insn_form.proofs.SpelledFronts.{front_read}
use Rattle.image_check.specs.Jumps.{fixed_byte, fixed_more, fixed_at, Begins, BeginsNone, target_jump, op_jump, insn_jump, jump_target}

-- bytes with known parts begin with the instruction that they are read as
pub known_begins : (w : List ℕ) (p : Parts) (i : Insn) → BeginsWith w p → ((f : Fields) → parse w ≡ Ok f → i ≡ insn_of f) → Begins w i p.len
known_begins w p i b h =
    record {
      fields = b.spelled.fields;
      is = b.spelled.is;
      rest = b.rest;
      joined = b.joined ∙ ap (λ z. z ++ b.rest) b.spelled.spelled;
      insn = h b.spelled.fields (front_read w p b);
      size = ap (λ q. q.len) b.spelled.divided;
    }

-- bytes of which no parts are known begin with no instruction
pub unknown_begins : (w : List ℕ) (s : Shape) → ((p : Parts) → (s ≡ Known p) ↔ BeginsWith w p) → ((p : Parts) → s ≡ Known p → ⊥) → BeginsNone w
unknown_begins w s h n f i rest e = n (parts_of f) ((h (parts_of f)).1 (record { front = spelling f; rest = rest; joined = e; spelled = record { fields = f; is = i; spelled = refl; divided = refl } }))

-- what is unknown isn't known
pub not_unknown : (s : Shape) (p : Parts) → s ≡ Unknown → s ≡ Known p → ⊥
not_unknown s p e h = cc

-- what is too short isn't known
pub not_short : (s : Shape) (p : Parts) → s ≡ Short → s ≡ Known p → ⊥
not_short s p e h = cc

-- a byte whose permissions are those of code that isn't writable is that byte
fixed_cell : (p q : Bool) (b n : ℕ) → not p ≡ true → not q ≡ false → n ≡ b → cond (not p && q) (Some n) None ≡ Some b
fixed_cell false true b n h k e = ap Some e
fixed_cell false false b n h k e = absurd cc
fixed_cell true q b n h k e = absurd cc

-- a cell that can be executed and not written gives its byte
fixed_is : (o : Option Cell) (b : ℕ) → allows 1 o ≡ true → allows 2 o ≡ false → byte_of o ≡ b → fixed_byte o ≡ Some b
fixed_is None b h k e = absurd cc
fixed_is (Some c) b h k e = fixed_cell (bit_and c.perms 1 == 0) (bit_and c.perms 2 == 0) b c.byte h k e

record Stays (o : Option Cell) (b : ℕ) : Type 0 where
  runs : allows 1 o ≡ true
  kept : allows 2 o ≡ false
  byte : byte_of o ≡ b

-- a byte is given only by permissions of code that isn't writable
cell_stays : (p q : Bool) (b n : ℕ) → cond (not p && q) (Some n) None ≡ Some b → (not p ≡ true) × (not q ≡ false) × (n ≡ b)
cell_stays false true b n h = let e : n ≡ b = cc in (refl, refl, e)
cell_stays false false b n h = absurd cc
cell_stays true q b n h = absurd cc

-- a byte that is given stays
stays : (o : Option Cell) (b : ℕ) → fixed_byte o ≡ Some b → Stays o b
stays None b h = absurd cc
stays (Some c) b h = let p = cell_stays (bit_and c.perms 1 == 0) (bit_and c.perms 2 == 0) b c.byte h in record { runs = p.0; kept = p.1; byte = p.2 }

-- what stays there is the front of the bytes that stay
pub fixed_front : (m : Bytes) (a n : ℕ) (bs : List ℕ) → length bs ≤ n → IsFixed m a bs → fixed_at m a n ≡ bs ++ drop (length bs) (fixed_at m a n)
fixed_front m a n [] l h = refl
fixed_front m a zero (b ∷ bs) l h = absurd (omega arith)
fixed_front m a (suc n) (b ∷ bs) l h =
    let e = fixed_is (m a) b h.0 h.1 h.2 in
    let r = fixed_front m (advanced a 1) n bs (omega arith) h.3 in
    let k : fixed_at m a (suc n) ≡ b ∷ fixed_at m (advanced a 1) n = ap (λ z. fixed_more z (fixed_at m (advanced a 1) n)) e in
    k ∙ ap (λ z. b ∷ z) r ∙ ap (λ z. b ∷ (bs ++ drop (suc (length bs)) z)) (sym k)

-- a byte that stays, with bytes that stay after it, makes bytes that stay
fixed_step : (m : Bytes) (a : ℕ) (o : Option ℕ) (later : List ℕ) → fixed_byte (m a) ≡ o → IsFixed m (advanced a 1) later → IsFixed m a (fixed_more o later)
fixed_step m a None later e h = tt
fixed_step m a (Some b) later e h = let s = stays (m a) b e in (s.runs, s.kept, s.byte, h)

-- the bytes that are read from an address on stay
are_fixed : (m : Bytes) (a n : ℕ) → IsFixed m a (fixed_at m a n)
are_fixed m a zero = tt
are_fixed m a (suc n) = fixed_step m a (fixed_byte (m a)) (fixed_at m (advanced a 1) n) refl (are_fixed m (advanced a 1) n)

-- bytes that stay are read one by one: what was read is all once none is left to be read
pub fixed_done : (m : Bytes) (a n : ℕ) (xs w : List ℕ) → n ≤ 0 → xs ++ fixed_at m a n ≡ w → xs ≡ w
fixed_done m a zero xs w l e = sym (append-nil xs) ∙ e
fixed_done m a (suc n) xs w l e = absurd (omega arith)

-- what was read is all where the next byte doesn't stay
pub fixed_stop : (m : Bytes) (a n : ℕ) (xs w : List ℕ) (o : Option ℕ) → o ≡ fixed_byte (m a) → o ≡ None → xs ++ fixed_at m a n ≡ w → xs ≡ w
fixed_stop m a zero xs w o h k e = sym (append-nil xs) ∙ e
fixed_stop m a (suc n) xs w o h k e = sym (append-nil xs) ∙ ap (λ z. xs ++ fixed_more z (fixed_at m (advanced a 1) n)) (sym k ∙ h) ∙ e

-- where the next byte stays, it is read too, and the others are those from the next address on
pub fixed_on : (m : Bytes) (a b n k x : ℕ) (xs ys w : List ℕ) (o : Option ℕ) → 0 < n → o ≡ fixed_byte (m a) → o ≡ Some x → ys ≡ xs ++ (x ∷ []) → b ≡ advanced a 1 → k + 1 ≡ n → xs ++ fixed_at m a n ≡ w → ys ++ fixed_at m b k ≡ w
fixed_on m a b zero k x xs ys w o l h s y c d e = absurd (omega arith)
fixed_on m a b (suc n) k x xs ys w o l h s y c d e =
    let q : k ≡ n = omega arith in
    let rest = fixed_at m (advanced a 1) n in
    ap (λ z. ys ++ fixed_at m b z) q ∙ ap (λ z. ys ++ fixed_at m z n) c ∙ ap (λ z. z ++ rest) y ∙ append_assoc xs (x ∷ []) rest ∙ ap (λ z. xs ++ fixed_more z rest) (sym s ∙ h) ∙ e

-- a target that tells a distance is relative
target_is : (t : Target) (rel : ℤ) → target_jump t ≡ Some rel → t ≡ Rel rel
target_is (Rel r) rel h = let e : r ≡ rel = cc in ap Rel e
target_is (Through s) rel h = absurd cc

-- an operation that tells a distance is a direct jump by it
op_is : (op : Op) (rel : ℤ) → op_jump op ≡ Some rel → op ≡ Jmp (Rel rel)
op_is (Jmp t) rel h = ap Jmp (target_is t rel h)
op_is op rel h = absurd cc

-- an instruction that tells a distance is a direct jump by it
insn_is : (i : Insn) (rel : ℤ) → insn_jump i ≡ Some rel → i ≡ Exact (Jmp (Rel rel))
insn_is (Exact op) rel h = ap Exact (op_is op rel h)
insn_is (Asked f) rel h = absurd cc
insn_is Ending rel h = absurd cc

-- where no instruction stays, no jump does
pub no_jump : (m : Bytes) (a : ℕ) (w : List ℕ) → w ≡ fixed_at m a 15 → BeginsNone w → (t : ℕ) → (None ≡ Some t) ↔ JumpsTo m a t
no_jump m a w e n t = (λ h. absurd cc, λ j. absurd (n j.fields j.spelled _ (e ∙ fixed_front m a 15 (spelling j.fields) j.spelled.short j.stands)))

-- the instruction that stays there is the jump's
same_fields : (m : Bytes) (a n t : ℕ) (w : List ℕ) (i : Insn) → w ≡ fixed_at m a 15 → (b : Begins w i n) (j : JumpsTo m a t) → b.fields ≡ j.fields
same_fields m a n t w i e b j = one_fields b.fields j.fields b.rest _ b.is.formed j.spelled.formed (sym b.joined ∙ e ∙ fixed_front m a 15 (spelling j.fields) j.spelled.short j.stands)

-- the direct jump that is read at an address jumps to its target
to_jump : (m : Bytes) (a n t : ℕ) (w : List ℕ) (i : Insn) (o : Option ℤ) → w ≡ fixed_at m a 15 → Begins w i n → insn_jump i ≡ o → jump_target a n o ≡ Some t → JumpsTo m a t
to_jump m a n t w i None e b q h = absurd cc
to_jump m a n t w i (Some rel) e b q h =
    let k : advanced (advanced a n) (word_of rel) ≡ t = cc in
    record {
      fields = b.fields;
      spelled = b.is;
      stands = fixed_part m a (spelling b.fields) b.rest (subst (λ z. IsFixed m a z) (sym e ∙ b.joined) (are_fixed m a 15));
      rel = rel;
      jump = sym b.insn ∙ insn_is i rel q;
      leads = ap (λ z. advanced (advanced a z) (word_of rel)) (sym b.size) ∙ k;
    }

-- where code that stays jumps to an address, the jump that is read has this target
from_jump : (m : Bytes) (a n t : ℕ) (w : List ℕ) (i : Insn) (o : Option ℤ) → w ≡ fixed_at m a 15 → Begins w i n → insn_jump i ≡ o → JumpsTo m a t → jump_target a n o ≡ Some t
from_jump m a n t w i o e b q j =
    let f = same_fields m a n t w i e b j in
    let k : o ≡ Some j.rel = sym q ∙ ap insn_jump (b.insn ∙ ap insn_of f ∙ j.jump) in
    let s : n ≡ length (spelling j.fields) = b.size ∙ ap (λ z. length (spelling z)) f in
    ap (jump_target a n) k ∙ ap (λ z. Some (advanced (advanced a z) (word_of j.rel))) s ∙ ap Some j.leads

-- the bytes that stay jump to a target exactly where the instruction at their front is a direct jump to it
pub one_jump : (m : Bytes) (a n : ℕ) (w : List ℕ) (i : Insn) (o : Option ℤ) → w ≡ fixed_at m a 15 → Begins w i n → insn_jump i ≡ o → (t : ℕ) → (jump_target a n o ≡ Some t) ↔ JumpsTo m a t
one_jump m a n w i o e b q t = (to_jump m a n t w i o e b q, from_jump m a n t w i o e b q)

-- where there is no jump, there is none to a place
pub to_place : (o : Option ℕ) (m : Bytes) (a place : ℕ) → ((t : ℕ) → (o ≡ Some t) ↔ JumpsTo m a t) → o ≡ None → JumpsTo m a place → ⊥
to_place o m a place h e j = let k : o ≡ Some place = (h place).1 j in absurd cc

-- where no jump stays, the bytes lead to no place
pub leads_nowhere : (o : Option ℕ) (m : Bytes) (es : List StartEntry) (a place : ℕ) → ((t : ℕ) → (o ≡ Some t) ↔ JumpsTo m a t) → o ≡ None → IsTrue false ↔ Leads m es a place
leads_nowhere o m es a place h e = (
  λ t. absurd cc,
  λ l. elim l [ inl j ↦ absurd (to_place o m a place h e j) | inr p ↦ absurd (to_place o m a p.0 h e p.1) ],
)

-- where the one jump leads elsewhere, the bytes lead to the place exactly if another does from there, at no listed start
pub leads_on : (o : Option ℕ) (m : Bytes) (es : List StartEntry) (a place mid : ℕ) (r : Bool) → ((t : ℕ) → (o ≡ Some t) ↔ JumpsTo m a t)
    → o ≡ Some mid → (mid ≡ place → ⊥) → IsTrue r ↔ ((is_some (entry_at es mid) ≡ false) × JumpsTo m mid place)
    → IsTrue r ↔ Leads m es a place
leads_on o m es a place mid r h e other second = (
  λ t. let q = second.0 t in inr (mid, (h mid).0 e, q.0, q.1),
  λ l. elim l [
    | inl j ↦ (let k : o ≡ Some place = (h place).1 j in let s : mid ≡ place = cc in absurd (other s))
    | inr p ↦ (let k : o ≡ Some p.0 = (h p.0).1 p.1 in let s : p.0 ≡ mid = cc in second.1 (subst (λ z. is_some (entry_at es z) ≡ false) s p.2, subst (λ z. JumpsTo m z place) s p.3))
  ],
)

-- the one jump leads to a place exactly where that is its target
pub one_place : (o : Option ℕ) (m : Bytes) (a place t : ℕ) (b : Bool) → ((u : ℕ) → (o ≡ Some u) ↔ JumpsTo m a u) → o ≡ Some t → b ≡ (t == place) → IsTrue b ↔ JumpsTo m a place
one_place o m a place t b h e k = (
  λ c. (h place).0 (e ∙ ap Some (eqb-true t place (sym k ∙ c))),
  λ j. let q : o ≡ Some place = (h place).1 j in let s : t ≡ place = cc in k ∙ eq-eqb t place s,
)
