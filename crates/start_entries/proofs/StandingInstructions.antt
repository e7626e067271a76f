-- What stands at a start of known length has that length and form.
use Rattle.std.proofs.Common.{◌≡◌, ◌⊎◌, inl, inr, ℕ, suc, ◌+◌, ◌<◌, ◌≤◌, List, [], ◌∷◌, ◌++◌, length, Option, Some, None, Result, Ok, Err, option_map, refl, sym, ap, ◌∙◌, subst, arith, slice_index, length-append, append-nil, true≢false}
use Rattle.std.specs.Prelude.{slice_get}
use Rattle.std.specs.List.{AllByRecursion}
use Rattle.std.proofs.lemmas.List.{get_or_append_left}
use Rattle.pun_base.specs.Memory.{Bytes}
use Rattle.elf_read.specs.Code.{window}
use Rattle.elf_read.specs.Image.{image_of}
use Rattle.elf_read.specs.Refusals.{refusal}
use Rattle.elf_read.proofs.LoadedCode.{window_is_loaded}
use Rattle.length_decode.specs.declared.instruction_parts.Parts.{Parts}
use Rattle.length_decode.specs.declared.field_bytes.Stop.{Stop}
use Rattle.length_decode.specs.Spelling.{Fields, IsInstruction, spelling, parts_of, IsSpelling, BeginsWith}
use Rattle.length_decode.proofs.ShapeAnswers.{one_fields, prefix_free}
use Rattle.insn_form.specs.declared.form.Insn.{Insn}
use Rattle.insn_form.specs.Instruction.{insn_of}
use Rattle.start_entries.specs.Entries.{reading_at, entry_by, start_entry, unmarked_of}
use Rattle.start_entries.proofs.MarkedEntries.{all_marked}
use Rattle.start_entries.specs.Laws.{IsCode, StandAt, IsOneInstruction, AllInstructions}
use Rattle.insn_form.proofs.SpelledFronts.{front_len, front_read, read_same, unread_none}
use Rattle.start_entries.proofs.ExecutedEntries.{known_begins}

-- two lists that agree as far as both reach: one is a front of the other
abbrev IsFront : List ℕ → List ℕ → Type 0
IsFront xs ys = (more : List ℕ) × (ys ≡ xs ++ more)

-- of two lists that agree where both have elements, one is the front of the other
one_front : (xs ys : List ℕ) → ((k : ℕ) → k < length xs → k < length ys → slice_index xs k ≡ slice_index ys k) → IsFront xs ys ⊎ IsFront ys xs
one_front [] ys h = inl (ys, refl)
one_front (x ∷ xs) [] h = inr (x ∷ xs, refl)
one_front (x ∷ xs) (y ∷ ys) h =
    let e : x ≡ y = h 0 (omega arith) (omega arith) in
    elim (one_front xs ys (λ k l m. h (suc k) (omega arith) (omega arith))) [
      | inl f ↦ inl (f.0, λ i. sym e i ∷ f.1 i)
      | inr f ↦ inr (f.0, λ i. e i ∷ f.1 i)
    ]

-- a spelling that is the front of another is equal to it
front_same : (xs ys : List ℕ) (p q : Parts) → IsSpelling xs p → IsSpelling ys q → IsFront xs ys → xs ≡ ys
front_same xs ys p q a b f =
    let none = prefix_free xs f.0 p q a (subst (λ (z : List ℕ). IsSpelling z q) f.1 b) in
    sym (f.1 ∙ ap (λ z. xs ++ z) none ∙ append-nil xs)

-- two spellings that agree where both have bytes are equal
same_bytes : (xs ys : List ℕ) (p q : Parts) → IsSpelling xs p → IsSpelling ys q → ((k : ℕ) → k < length xs → k < length ys → slice_index xs k ≡ slice_index ys k) → xs ≡ ys
same_bytes xs ys p q a b h = elim (one_front xs ys h) [
  | inl f ↦ front_same xs ys p q a b f
  | inr f ↦ sym (front_same ys xs q p b a f)
]

-- something isn't nothing
some_none : (i : Insn) → Some i ≡ None → ⊥
some_none i e = cc

-- equal options hold equal numbers
some_is : (x y : ℕ) → Some x ≡ Some y → x ≡ y
some_is x y e = let k : x ≡ y = cc in k

-- a byte of a window stands in each memory that holds the file's image there
standing_byte : (low : ℕ) (file : List ℕ) (a k : ℕ) (m : Bytes) → refusal low file ≡ None → k < length (window file a) → m (a + k) ≡ image_of file (a + k) → option_map (λ c. c.byte) (m (a + k)) ≡ Some (slice_index (window file a) k)
standing_byte low file a k m r l e = let w = (window_is_loaded low file a k r l).1 in ap (option_map (λ c. c.byte)) (e ∙ w.1)

-- an instruction that stands there is the one at the front of the window
standing_front : (low : ℕ) (file : List ℕ) (a : ℕ) (p : Parts) (m : Bytes) (bytes : List ℕ) (b : BeginsWith (window file a) p) → refusal low file ≡ None → ((k : ℕ) → k < p.len → m (a + k) ≡ image_of file (a + k)) → IsCode bytes → StandAt m a bytes → bytes ≡ b.front
standing_front low file a p m bytes b r e i s =
    let n = front_len (window file a) p b in
    let long : length b.front ≤ length (window file a) = omega (arith, ap length b.joined, length-append b.front b.rest) in
    let agree : (k : ℕ) → k < length bytes → k < length b.front → slice_index bytes k ≡ slice_index b.front k = λ k l f.
    some_is (slice_index bytes k) (slice_index b.front k) (sym (s k l) ∙ standing_byte low file a k m r (omega arith) (e k (omega arith)) ∙ ap (λ z. Some (slice_index z k)) b.joined ∙ ap Some (get_or_append_left b.front b.rest 0 k f)) in
    same_bytes bytes b.front i.0 p i.1 b.spelled agree

-- an instruction that stands at the front of a window has the fields that are read there
standing_fields : (f g : Fields) (bytes : List ℕ) (b : BeginsWith bytes (parts_of g)) → IsInstruction f → spelling f ≡ b.front → b.spelled.fields ≡ g → g ≡ f
standing_fields f g bytes b i e h =
    sym h ∙ sym (one_fields f b.spelled.fields [] [] i.formed b.spelled.is.formed (ap (λ z. z ++ []) (e ∙ b.spelled.spelled)))

abbrev code_of : (f : Fields) → IsInstruction f → IsCode (spelling f)
code_of f i = (parts_of f, record { fields = f; is = i; spelled = refl; divided = refl })

-- at the entry by what is read at a start stands one instruction, where its length is known
one_by : (low : ℕ) (file : List ℕ) (a : ℕ) (next : Option ℕ) (t : Result Fields Stop) → refusal low file ≡ None → reading_at file a ≡ t → IsOneInstruction file (entry_by file a next t)
unfolding reading_at
one_by low file a next (Ok g) r e =
    let b = known_begins file a g e in
    record {
      spelled = λ k. (parts_of g, b, refl);
      none = λ k. absurd (some_none (insn_of g) k);
      length_is = λ k m h bytes i s. ap length (standing_front low file a (parts_of g) m bytes b r h i s) ∙ front_len (window file a) (parts_of g) b;
      form_is = λ k m h f i s. ap (λ z. Some (insn_of z)) (standing_fields f g (window file a) b i (standing_front low file a (parts_of g) m (spelling f) b r h (code_of f i) s) (read_same (window file a) b.spelled.fields g (front_read (window file a) (parts_of g) b) e));
    }
one_by low file a next (Err s) r e =
    record {
      spelled = λ k. absurd (true≢false (sym k));
      none = λ k. unread_none (window file a) s e;
      length_is = λ k m g bytes i h. absurd (true≢false (sym k));
      form_is = λ k m g f i h. absurd (true≢false (sym k));
    }

-- at the entry of a start stands one instruction, where its length is known
one_instruction : (low : ℕ) (file : List ℕ) (a : ℕ) (next : Option ℕ) → refusal low file ≡ None → IsOneInstruction file (start_entry file a next)
unfolding start_entry
one_instruction low file a next r = one_by low file a next (reading_at file a) r refl

-- at each unmarked entry of starts stands one instruction, where its length is known
instructions_from : (low : ℕ) (file starts : List ℕ) → refusal low file ≡ None → AllByRecursion (IsOneInstruction file) (unmarked_of file starts)
instructions_from low file [] r = tt
instructions_from low file (a ∷ after) r = (one_instruction low file a (slice_get after 0) r, instructions_from low file after r)

-- at each start that isn't refused stands one instruction, of the entry's length and form, or none begins
pub all_instructions : AllInstructions
all_instructions low file starts h =
    all_marked (IsOneInstruction file) (unmarked_of file starts) (unmarked_of file starts)
    (λ e x. record { spelled = x.spelled; none = x.none; length_is = x.length_is; form_is = x.form_is })
    (instructions_from low file starts h.accepted)
