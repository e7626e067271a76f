-- The entries of starts that are not refused are entries of the file's image.
use Rattle.std.proofs.Common.{◌≡◌, ◌≢◌, Bool, map, ℕ, zero, suc, ◌+◌, ◌-◌, ◌%◌, ◌^◌, ◌<◌, ◌≤◌, true, false, not, eqb, List, [], ◌∷◌, length, slice_index, Some, None, is_some, option_map, refl, inl, inr, sym, ap, ◌∙◌, subst, arith}
use Rattle.std.specs.Prelude.{Contains, bit_and, ◌==◌, ◌||◌, nat_le, nat_lt}
use Rattle.std.specs.List.{list_any, AllByRecursion}
use Rattle.std.specs.List.Sorted.{IsStrictlyIncreasing}
use Rattle.std.proofs.lemmas.Nat.{and_mask, and_assoc}
use Rattle.std.proofs.lemmas.List.{get_or_append_left}
use Rattle.std.proofs.lemmas.Bool.{cases_eq, cases_lt, and_from, and_parts, or_left, or_right, or_cases, eqb-true, eq-eqb, le-leb, lt-ltb, leb-true, ltb-true, false_from_ne_true, not-true, true≢false, false≢true}
use Rattle.pun_base.specs.Memory.{Cell, Bytes}
use Rattle.cpu_state.specs.Bytes.{advanced, allows, byte_of, Stands}
use Rattle.elf_read.specs.Code.{is_exec, window}
use Rattle.elf_read.specs.Image.{image_of}
use Rattle.elf_read.specs.Laws.{IsCodeAt}
use Rattle.elf_read.specs.Refusals.{refusal}
use Rattle.elf_read.proofs.LoadedCode.{exec_is_loaded, window_is_loaded}
use Rattle.length_decode.specs.Spelling.{spelling}
use Rattle.start_entries.specs.declared.entry.StartEntry.{StartEntry}
use Rattle.start_entries.specs.Entries.{unmarked_of, entries_of}
use Rattle.start_entries.specs.SharedBytes.{has_byte, meets, is_shared, marked, SharesByte}
use Rattle.start_entries.proofs.MarkedEntries.{was_marked, is_marked}
use Rattle.start_entries.specs.Laws.{AreStarts, IsExecuted, IsOneInstruction, SharedExactly}
use Rattle.start_entries.specs.Standing.{IsInstructionOf, IsEntry, IsOnlyIn, BuiltAreEntries}
use Rattle.start_entries.specs.Finding.{addresses}
use Rattle.start_entries.proofs.AscendingEntries.{same_entry}
use Rattle.start_entries.proofs.EntryAddresses.{addresses-entries}
use Rattle.start_entries.proofs.ExecutedEntries.{unmarked_executed, all_executed}
use Rattle.start_entries.proofs.CodePlaces.{exec_below}
use Rattle.insn_form.proofs.SpelledFronts.{front_len, front_within}
use Rattle.start_entries.proofs.StandingInstructions.{all_instructions}

-- what holds of all elements holds of each one that a list contains
all_at : {A : Type 0} (P : A → Type 0) (xs : List A) (x : A) → AllByRecursion P xs → Contains xs x → P x
all_at P [] x h c = absurd (omega (arith, c.1))
all_at P (y ∷ ys) x h (zero, l, e) = subst P e h.0
all_at P (y ∷ ys) x h (suc i, l, e) = all_at P ys x h.1 (i, omega arith, e)

-- a byte with PF_X and without PF_W can be executed
pub executes : (b p : ℕ) → p % 4 ≡ 1 → allows 1 (Some (record { byte = b; perms = p })) ≡ true
executes b p h = ap (λ z. not (eqb z 0)) (and_mask p 1 ∙ (let e : p % 2 ^ 1 ≡ 1 = omega arith in e))

-- a byte with PF_X and without PF_W can't be written
not_written : (b p : ℕ) → p % 4 ≡ 1 → allows 2 (Some (record { byte = b; perms = p })) ≡ false
not_written b p h =
    let low : bit_and p 3 ≡ 1 = and_mask p 2 ∙ h in
    ap (λ z. not (eqb z 0)) (sym (and_assoc 2 p 3) ∙ ap (λ z. bit_and z 2) low)

-- of bytes of code
code_allows : (file : List ℕ) (a byte : ℕ) → IsCodeAt file a byte → (allows 1 (image_of file a) ≡ true)
    × (allows 2 (image_of file a) ≡ false)
code_allows file a byte c = (ap (allows 1) c.1 ∙ executes byte c.0 c.2, ap (allows 2) c.1 ∙ not_written byte c.0 c.2)

-- bytes that stand one after the other
stands_from : (m : Bytes) (a : ℕ) (bs : List ℕ) → a + length bs < 2 ^ 64
    → ((k : ℕ) → k < length bs → (allows 1 (m (a + k)) ≡ true) × (byte_of (m (a + k)) ≡ slice_index bs k)) → Stands m a bs
stands_from m a [] l h = tt
stands_from m a (b ∷ bs) l h =
    let z : a + 0 ≡ a = omega arith in
    let n : a + 1 ≡ advanced a 1 = omega arith in
    let f = h 0 (omega arith) in
    let rest = stands_from m (a + 1) bs (omega arith) (λ k j. let e : a + suc k ≡ a + 1 + k = omega arith in subst
    (λ (y : ℕ). (allows 1 (m y) ≡ true) × (byte_of (m y) ≡ slice_index bs k)) e (h (suc k) (omega arith))) in
    (ap (λ (y : ℕ). allows 1 (m y)) (sym z) ∙ f.0, ap (λ (y : ℕ). byte_of (m y)) (sym z) ∙ f.1, subst (λ (y : ℕ). Stands m y bs) n rest)

module _ (low : ℕ) (file : List ℕ) (accepted : refusal low file ≡ None) (e : StartEntry) (x : IsExecuted file e)
    (one : IsOneInstruction file e) where
  -- the entry ends below 0x7FFF0000
  below : e.addr + e.len ≤ 0x7FFF0000
  below =
      let last : e.addr + (e.len - 1) < 0x7fff0000 = exec_below low file (e.addr + (e.len - 1)) accepted
      (x.executed (e.len - 1) (omega (arith, x.some))) in
      omega (arith, x.some)

  -- the entry's bytes are code
  allowed : (a : ℕ) → e.addr ≤ a → a < e.addr + e.len → (allows 1 (image_of file a) ≡ true) × (allows 2 (image_of file a) ≡ false)
  allowed a l h =
      let k : e.addr + (a - e.addr) ≡ a = omega arith in
      let q = exec_is_loaded low file a accepted (ap (is_exec file) (sym k) ∙ x.executed (a - e.addr) (omega arith)) in
      code_allows file a q.0 q.1

  -- the entry is one instruction where its form is known
  known : is_some e.form ≡ true → IsInstructionOf (image_of file) e
  known h =
      let s = one.spelled h in
      let b = s.1 in
      let f = b.spelled.fields in
      let long : length b.front ≡ e.len = front_len (window file e.addr) s.0 b ∙ s.2 in
      let size : length (spelling f) ≡ e.len = sym (ap length b.spelled.spelled) ∙ long in
      let byte : (k : ℕ) → k < length (spelling f) → IsCodeAt file (e.addr + k) (slice_index (spelling f) k) = λ k l.
      subst (λ (z : ℕ). IsCodeAt file (e.addr + k) z)
      (ap (λ (z : List ℕ). slice_index z k) b.joined ∙ get_or_append_left b.front b.rest 0 k (omega (arith, size, long))
      ∙ ap (λ (z : List ℕ). slice_index z k) b.spelled.spelled)
      (window_is_loaded low file e.addr k accepted (omega (arith, size, s.2, front_within (window file e.addr) s.0 b))).1 in
      record {
        fields = f;
        spelled = b.spelled.is;
        stands = stands_from (image_of file) e.addr (spelling f) (omega (arith, size, below))
            (λ k l. let c = byte k l in ((code_allows file (e.addr + k) (slice_index (spelling f) k) c).0, ap byte_of c.1));
        len = size;
        form = one.form_is h (image_of file) (λ k l. refl) f b.spelled.is (λ k l. ap (option_map (λ (c : Cell). c.byte)) (byte k l).1);
      }

  -- the entry is one of the image
  is_entry : IsEntry (image_of file) e
  is_entry = record { some = x.some; low = below; executed = allowed; known = known }

-- entries ascend as starts do
entries_ascend : (file starts : List ℕ) → IsStrictlyIncreasing starts → IsStrictlyIncreasing (addresses (entries_of file starts))
entries_ascend file starts h = subst (λ (xs : List ℕ). IsStrictlyIncreasing xs) (sym (addresses-entries file starts)) h

-- a byte of two entries is one of the first bytes
first_byte : (e f : StartEntry) (x : ℕ) → f.addr ≢ e.addr → e.addr ≤ x → x < e.addr + e.len → f.addr ≤ x → x < f.addr + f.len → meets e f ≡ true
first_byte e f x n a b c d =
    and_from (not (f.addr == e.addr)) (has_byte e.addr f || has_byte f.addr e) (differ f.addr e.addr n) (elim (cases_lt f.addr e.addr) [
      | inl l ↦ or_left (has_byte e.addr f) (has_byte f.addr e) (is_byte e.addr f (omega (arith, l)) (omega (arith, a, d)))
      | inr l ↦ or_right (has_byte e.addr f) (has_byte f.addr e) (is_byte f.addr e l (omega (arith, b, c)))
    ])
  where
    differ : (n m : ℕ) → n ≢ m → not (n == m) ≡ true
    differ n m h = ap not (false_from_ne_true (n == m) (λ t. h (eqb-true n m t)))

    is_byte : (y : ℕ) (g : StartEntry) → g.addr ≤ y → y < g.addr + g.len → has_byte y g ≡ true
    is_byte y g l h = and_from (nat_le g.addr y) (nat_lt y (g.addr + g.len)) (le-leb g.addr y l) (lt-ltb y (g.addr + g.len) h)

-- entries that meet have a common byte
common_byte : (e f : StartEntry) → 1 ≤ e.len → 1 ≤ f.len → meets e f ≡ true
    → (f.addr ≢ e.addr) × ((x : ℕ) × (e.addr ≤ x) × (x < e.addr + e.len) × (f.addr ≤ x) × (x < f.addr + f.len))
common_byte e f s t h =
    let k = and_parts (not (f.addr == e.addr)) (has_byte e.addr f || has_byte f.addr e) h in (
      λ q. true≢false (sym (eq-eqb f.addr e.addr q) ∙ not-true (f.addr == e.addr) k.0),
      elim (or_cases (has_byte e.addr f) (has_byte f.addr e) k.1) [
        | inl p ↦ (let q = and_parts (nat_le f.addr e.addr) (nat_lt e.addr (f.addr + f.len)) p in
            (e.addr, omega arith, omega (arith, s), leb-true f.addr e.addr q.0, ltb-true e.addr (f.addr + f.len) q.1))
        | inr p ↦ (let q = and_parts (nat_le e.addr f.addr) (nat_lt f.addr (e.addr + e.len)) p in
            (f.addr, leb-true e.addr f.addr q.0, ltb-true f.addr (e.addr + e.len) q.1, omega arith, omega (arith, t)))
      ],
    )

-- an entry that meets another one shares a byte with it
marked_shares : (ps es : List StartEntry) (e : StartEntry) → AllByRecursion (λ (f : StartEntry). 1 ≤ f.len) es → 1 ≤ e.len
    → list_any (meets e) es ≡ true → SharesByte (map (marked ps) es) e
marked_shares ps es e h s m =
    let q = found (meets e) es m in
    let c = common_byte e q.0 s (all_at (λ (f : StartEntry). 1 ≤ f.len) es q.0 h q.1) q.2 in
    (marked ps q.0, is_marked ps es q.0 q.1, c.0, c.1)
  where
    found : (p : StartEntry → Bool) (xs : List StartEntry) → list_any p xs ≡ true → (x : StartEntry) × Contains xs x × (p x ≡ true)
    found p [] h = absurd (false≢true h)
    found p (x ∷ xs) h = elim (or_cases (p x) (list_any p xs) h) [
      | inl k ↦ (x, (0, omega arith, refl), k)
      | inr k ↦ (let q = found p xs k in (q.0, (suc q.1.0, omega (arith, q.1.1), q.1.2), q.2))
    ]

-- a list that contains what passes a test has an element that passes
any_of : (p : StartEntry → Bool) (xs : List StartEntry) (x : StartEntry) → Contains xs x → p x ≡ true → list_any p xs ≡ true
any_of p [] x (i, l, e) h = absurd (omega (arith, l))
any_of p (y ∷ ys) x (zero, l, e) h = or_left (p y) (list_any p ys) (ap p e ∙ h)
any_of p (y ∷ ys) x (suc i, l, e) h = or_right (p y) (list_any p ys) (any_of p ys x (i, omega (arith, l), e) h)

-- an entry that shares a byte with another one meets some entry
shares_marked : (es : List StartEntry) (e : StartEntry) → SharesByte (map (marked es) es) e → list_any (meets e) es ≡ true
shares_marked es e (f, c, n, (x, a, b, l, h)) =
    let q = was_marked es es f c in
    let at = ap (λ (z : StartEntry). z.addr) q.2 in
    let len = ap (λ (z : StartEntry). z.len) q.2 in
    any_of (meets e) es q.0 q.1 (first_byte e q.0 x (λ k. n (sym at ∙ k)) a b (omega (arith, l, at)) (omega (arith, h, at, len)))

-- executed entries have at least one byte
some_bytes : (file : List ℕ) (es : List StartEntry) → AllByRecursion (IsExecuted file) es → AllByRecursion (λ (f : StartEntry). 1 ≤ f.len) es
some_bytes file [] h = tt
some_bytes file (e ∷ es) h = (h.0.some, some_bytes file es h.1)

-- the law on marks
pub shared_exactly : SharedExactly
unfolding is_shared
shared_exactly low file starts h e c =
    let ps = unmarked_of file starts in
    let q = was_marked ps ps e c in
    let long = some_bytes file ps (unmarked_executed low file starts h) in
    let is : list_any (meets q.0) ps ≡ e.shared = ap (λ (z : StartEntry). z.shared) q.2 in
    let to : SharesByte (map (marked ps) ps) q.0 → SharesByte (map (marked ps) ps) e = λ s. subst (SharesByte (map (marked ps) ps)) q.2 s in
    let from : SharesByte (map (marked ps) ps) e → SharesByte (map (marked ps) ps) (marked ps q.0) = λ s. subst (SharesByte (map (marked ps) ps)) (sym q.2) s in (
      λ k. to (marked_shares ps ps q.0 long (all_at (λ (f : StartEntry). 1 ≤ f.len) ps q.0 long q.1) (is ∙ k)),
      λ s. sym is ∙ shares_marked ps q.0 (from s),
    )

-- a byte of an entry that isn't marked is one of no other entry
stand_alone : (low : ℕ) (file starts : List ℕ) → AreStarts low file starts → (e : StartEntry) → Contains (entries_of file starts) e
    → e.shared ≡ false → (x : ℕ) → e.addr ≤ x → x < e.addr + e.len → IsOnlyIn (entries_of file starts) e x
stand_alone low file starts h e c n x a b f d l m = elim (cases_eq f.addr e.addr) [
  | inl k ↦ same_entry (entries_of file starts) f e (entries_ascend file starts h.ascending) d c k
  | inr k ↦ absurd (true≢false (sym ((shared_exactly low file starts h e c).1 (f, d, k, (x, a, b, l, m))) ∙ n))
]

-- the law
pub built_are_entries : BuiltAreEntries
built_are_entries low file starts h =
    let es = entries_of file starts in
    record {
      each = λ e c. is_entry low file h.accepted e (all_at (IsExecuted file) es e (all_executed low file starts h) c)
          (all_at (IsOneInstruction file) es e (all_instructions low file starts h) c);
      ascending = entries_ascend file starts h.ascending;
      alone = stand_alone low file starts h;
    }
