-- The image with one displaced MOV is sound, and has a quiet run.
use Rattle.std.proofs.Common.{◌≡◌, ◌⊎◌, inl, inr, ℕ, zero, suc, ◌+◌, ◌-◌, ◌/◌, ◌<◌, ◌≤◌, Bool, true, false, not, ◌||◌, ltb, List, [], ◌∷◌, length, slice_index, Option, Some, None, refl, sym, ap, ◌∙◌, subst, arith}
use Rattle.std.specs.Prelude.{slice_get}
use Rattle.std.specs.Option.{is_some}
use Rattle.std.specs.List.{list_any}
use Rattle.std.proofs.lemmas.Bool.{cases_Bool, or_cases, and_parts, and_from, ltb-true, ltb-false, cond-false, false≢true, true≢false, or_left, or_right}
use Rattle.pun_base.specs.Memory.{Cell}
use Rattle.cpu_state.specs.Bytes.{Stands}
use Rattle.length_decode.specs.Spelling.{Fields, IsInstruction, spelling}
use Rattle.insn_form.specs.Classes.{template}
use Rattle.insn_form.specs.Filling.{filled}
use Rattle.insn_form.specs.Meaning.{effect}
use Rattle.insn_form.specs.Machine.{Machine}
use Rattle.insn_form.specs.Step.{Step}
use Rattle.insn_form.proofs.UniqueSteps.{one_instruction}
use Rattle.relocate_insn.proofs.PieceSteps.{jump_fields, jump_is, jump_insn}
use Rattle.insn_form.specs.Moved.{rel_bytes}
use Rattle.trampoline.specs.Worked.{mov_sixty, sixty_code}
use Rattle.start_entries.specs.Leading.{JumpsTo}
use Rattle.patch_report.specs.Values.{RowValue, patched}
use Rattle.pun_base.specs.declared.scheme.Scheme.TheVariants.{B1}
use Rattle.relocate_insn.specs.Pieces.{jump_code}
use Rattle.relocate_insn.specs.Worked.{is_between}
use Rattle.start_entries.specs.Finding.{entry_at}
use Rattle.start_entries.specs.Rows.{mov_nop_nop}
use Rattle.patch_report.proofs.ListPlaces.{some_is}
use Rattle.image_runs.specs.Quiet.{IsQuiet, IsStartPair}
use Rattle.image_runs.proofs.MemorySoFar.{else_none}
use Rattle.sound_images.specs.Reports.{Line, lines, runs, is_written, times_written, times_started, in_private, on_page, tramps_of}
use Rattle.sound_images.specs.Rules.{coding_of, differs, mistells, belongs, displaced_at, is_below, row_before, is_own, is_unexpected, ByteFails, WriteFails, EntryFails, HasCode, CodeFails, RangeFails, RowFails, SiteFails, IsSound}
use Rattle.sound_images.specs.Worked.{nop, original_image, patched_image, entries, report, one_mov, state_at, OneMovIsSound}
use Rattle.sound_images.proofs.WorkedImage.{only, by_table, inside, between, spread_in, spread_out, spread_held, text_none, in_private_range, in_trampolines, nowhere_else, sixty_is, nop_is, sixty_stands, are_entries, is_report, entry_pair}

-- rule 1
abbrev kept_test : ℕ → Bool
kept_test x = not (differs (original_image x) (patched_image x) (is_written report x))

-- a test and its contrary
false_from_not : (b : Bool) → not b ≡ true → b ≡ true → ⊥
false_from_not true n e = false≢true n
false_from_not false n e = false≢true e

-- no byte differs
byte_holds : (x : ℕ) → ByteFails one_mov x → ⊥
byte_holds x h = elim (cases_Bool (is_between 0x401000 0x401007 x)) [
  | inl b ↦ (let q = inside 0x401000 0x401007 x b in
      false_from_not (differs (original_image x) (patched_image x) (is_written report x))
      (by_table kept_test 0x401000 7 x refl q.0 (omega (arith, q.1))) h)
  | inr b ↦ false≢true (sym (ap (λ (o : Option Cell). differs o (patched_image x) (is_written report x))
      (cond-false (is_between 0x401000 0x401007 x) (Some (record { byte = slice_index mov_nop_nop (x - 0x401000); perms = 5 })) None b))
      ∙ h)
]

-- rule 2
abbrev told_test : ℕ → Bool
told_test x = not (list_any (mistells one_mov x) (runs report))

abbrev once_test : ℕ → Bool
once_test x = ltb (times_written report x) 2

abbrev owned_test : ℕ → Bool
owned_test x = belongs one_mov x

-- a test beside none
or_none : (b : Bool) → (b || false) ≡ true → b ≡ true
or_none true h = refl
or_none false h = h

-- runs are told rightly
write_holds : (x : ℕ) → WriteFails one_mov x → ⊥
write_holds x h =
    let q = inside 0x401000 0x401005 x (or_none (is_between 0x401000 0x401005 x) h.0) in
    let u : x < 0x401000 + 5 = omega (arith, q.1) in
    elim h.1 [
      | inl m ↦ false_from_not (list_any (mistells one_mov x) (runs report)) (by_table told_test 0x401000 5 x refl q.0 u) m
      | inr r ↦ elim r [
        | inl t ↦ (let k : times_written report x < 2 = ltb-true (times_written report x) 2
            (by_table once_test 0x401000 5 x refl q.0 u) in absurd (omega (arith, k, t)))
        | inr b ↦ true≢false (sym (by_table owned_test 0x401000 5 x refl q.0 u) ∙ b)
      ]
    ]

-- rule 3
abbrev l0 : Line
l0 = record { number = 0; tramp = record { place = 0x21000; start = 0x401000; event = true } }

-- the MOV can be displaced
displaced : displaced_at entries 0x401000 ≡ Some 5
unfolding template filled
displaced = refl

-- a jump to the trampoline stands
jumps : JumpsTo patched_image 0x401000 0x21000
jumps = record {
  fields = jump_fields (rel_bytes 0x401005 0x21000);
  spelled = jump_is _ _ _ _;
  stands = (refl, refl, refl, (refl, refl, refl, (refl, refl, refl, (refl, refl, refl, (refl, refl, refl, tt)))));
  rel = _;
  jump = jump_insn (rel_bytes 0x401005 0x21000);
  leads = refl;
}

-- an option is one of two
none_some : (n : ℕ) (o : Option ℕ) → o ≡ Some n → o ≡ None → ⊥
none_some n o e f = let g : (let z : Option ℕ = Some n in z) ≡ None = sym e ∙ f in cc

-- so the start leads to the place
entry_holds : (x : ℕ) → EntryFails one_mov x → ⊥
entry_holds x h =
    let l = only l0 h.0 h.1 in
    let at : 0x401000 ≡ x = ap (λ (z : Line). z.tramp.start) l ∙ h.2 in
    elim h.3 [
      | inl n ↦ none_some 5 (displaced_at entries x) (ap (displaced_at entries) (sym at) ∙ displaced) n
      | inr r ↦ elim r [
        | inl t ↦ (let k : times_started report x ≡ 1 = ap (times_started report) (sym at) in absurd (omega (arith, k, t)))
        | inr f ↦ f (inl (subst (λ (z : ℕ). JumpsTo patched_image z h.0.tramp.place) at
            (subst (λ (z : Line). JumpsTo patched_image 0x401000 z.tramp.place) l jumps)))
      ]
    ]

-- rule 4
some_state : Machine
some_state = state_at original_image 7 0x401000

-- at the start stands the MOV
own_fields : (f : Fields) → IsInstruction f → Stands original_image 0x401000 (spelling f) → mov_sixty ≡ f
unfolding some_state
own_fields f i h = one_instruction some_state mov_sixty f (record { spelled = sixty_is; here = sixty_stands })
    (record { spelled = i; here = h })

-- its code has 18 bytes
code_short : length sixty_code ≡ 18
unfolding template filled
code_short = refl

-- and is the one of the trampoline
code_is : (l : Line) (code : List ℕ) → l0 ≡ l → HasCode one_mov l code → sixty_code ≡ code
code_is l code e h =
    let f = own_fields h.fields h.spelled (subst (λ (z : Line). Stands original_image z.tramp.start (spelling h.fields))
    (sym e) h.stands) in
    (λ i. coding_of report (e i) (f i)) ∙ sym h.is

-- there is one line
line_at : (i : ℕ) (l : Line) → slice_get (lines report) i ≡ Some l → (l0 ≡ l) × (i ≡ 0)
line_at zero l e = (some_is l0 l e, refl)
line_at (suc i) l e = absurd cc

-- the code stands
code_holds : (x : ℕ) → CodeFails one_mov x → ⊥
code_holds x h =
    let at = h.1 in
    let l = line_at h.0 at.line at.listed in
    let c = code_is at.line at.code l.0 at.has in
    let place : 0x21000 ≡ at.line.tramp.place = ap (λ (z : Line). z.tramp.place) l.0 in
    let lo : 0x21000 ≤ x = omega (arith, place, at.low) in
    let hi : x < 0x21012 = omega (arith, place, at.high, ap length c, code_short) in
    elim h.2 [
      | inl n ↦ n (in_trampolines x lo (omega arith) ∙ (λ i. Some (record { byte = slice_index (c i) (x - place i); perms = 5 })))
      | inr r ↦ elim r [
        | inl o ↦ o.1 (l.1 ∙ sym (line_at o.0 o.2.line o.2.listed).1)
        | inr p ↦ true≢false (sym (ap (λ (z : Bool). z || false) (between 0x21000 0x22000 x lo (omega arith))) ∙ p)
      ]
    ]

-- rule 5
expected : (x : ℕ) (o q : Option Cell) → original_image x ≡ o → patched_image x ≡ q → is_unexpected report x o q ≡ false
    → is_unexpected report x (original_image x) (patched_image x) ≡ true → ⊥
expected x o q e f g h = false≢true (sym g ∙ sym (λ i. is_unexpected report x (e i) (f i)) ∙ h)

-- a test turned
unexpected : (b : Bool) → b ≡ true → not b ≡ false
unexpected b e = ap not e

-- what is new is expected
range_new : (x : ℕ) → is_unexpected report x (original_image x) (patched_image x) ≡ true → ⊥
range_new x h = elim (cases_Bool (is_between 0x401000 0x401007 x)) [
  | inl b ↦ (let q = inside 0x401000 0x401007 x b in
      expected x (Some (record { byte = slice_index mov_nop_nop (x - 0x401000); perms = 5 })) (patched_image x)
      (spread_in 0x401000 0x401007 5 mov_nop_nop x q.0 q.1) refl refl h)
  | inr t ↦ elim (cases_Bool (is_between 0x20000 0x21000 x)) [
    | inl p ↦ (let q = inside 0x20000 0x21000 x p in
        expected x None (Some (record { byte = 0; perms = 6 })) (text_none x (omega (arith, q.1))) (in_private_range x q.0 q.1)
        (unexpected _ (or_right _ _ (or_left _ _ (and_from (in_private report x) true p refl)))) h)
    | inr p ↦ elim (cases_Bool (is_between 0x21000 0x22000 x)) [
      | inl g ↦ (let q = inside 0x21000 0x22000 x g in
          expected x None (Some (record { byte = slice_index sixty_code (x - 0x21000); perms = 5 })) (text_none x (omega (arith, q.1)))
          (in_trampolines x q.0 q.1)
          (unexpected _ (or_right _ _ (or_right _ _ (and_from (on_page report x) true (ap (λ (z : Bool). z || false) g) refl)))) h)
      | inr g ↦ expected x None None (spread_out 0x401000 0x401007 5 mov_nop_nop x
          (λ a b. true≢false (sym (between 0x401000 0x401007 x a b) ∙ t)))
          (nowhere_else x (λ a b. true≢false (sym (between 0x401000 0x401007 x a b) ∙ t)) (λ a b. either x p g a b)) refl h
    ]
  ]
]
  where
    either : (x : ℕ) → is_between 0x20000 0x21000 x ≡ false → is_between 0x21000 0x22000 x ≡ false → 0x20000 ≤ x → x < 0x22000 → ⊥
    either x p g a b = elim (cases_Bool (ltb x 0x21000)) [
      | inl l ↦ true≢false (sym (between 0x20000 0x21000 x a (ltb-true x 0x21000 l)) ∙ p)
      | inr l ↦ true≢false (sym (between 0x21000 0x22000 x (ltb-false x 0x21000 l) b) ∙ g)
    ]

-- a cell is held or not
some_none : (c : Cell) (o : Option Cell) → o ≡ Some c → o ≡ None → ⊥
some_none c o e f = let g : (let z : Option Cell = Some c in z) ≡ None = sym e ∙ f in cc

-- in the private range or on the page
abbrev Sides : ℕ → Type 0
Sides x = ((0x20000 ≤ x) × (x < 0x21000)) ⊎ ((0x21000 ≤ x) × (x < 0x22000))

-- ranges lie apart
range_holds : (x : ℕ) → RangeFails one_mov x → ⊥
range_holds x (inl h) = range_new x h
range_holds x (inr h) =
    let k = by_side (or_cases (is_between 0x20000 0x21000 x) (is_between 0x21000 0x22000 x || false) h.0) in
    elim h.1 [
      | inl n ↦ held k n
      | inr r ↦ elim r [
        | inl s ↦ (let q = spread_held 0x401000 0x401007 5 mov_nop_nop s.0 s.2 in let y = s.0 in let e : y / 4096
            ≡ x / 4096 = s.1 in let a = side k in let f = a.1 in absurd (omega (arith, q.0, q.1, e, f)))
        | inr o ↦ elim o [
          | inl b ↦ (let q = and_parts (is_between 0x20000 0x21000 x) (is_between 0x21000 0x22000 x || false) b in
              let p = inside 0x20000 0x21000 x q.0 in let g = inside 0x21000 0x22000 x
              (or_none (is_between 0x21000 0x22000 x) q.1) in absurd (omega (arith, p.1, g.0)))
          | inr l ↦ (let a = side k in absurd (omega (arith, a.0, l)))
        ]
      ]
    ]
  where
    by_side : (is_between 0x20000 0x21000 x ≡ true) ⊎ ((is_between 0x21000 0x22000 x || false) ≡ true) → Sides x
    by_side (inl p) = inl (inside 0x20000 0x21000 x p)
    by_side (inr g) = inr (inside 0x21000 0x22000 x (or_none (is_between 0x21000 0x22000 x) g))

    side : Sides x → (0x20000 ≤ x) × (x < 0x22000)
    side (inl p) = (p.0, omega (arith, p.1))
    side (inr g) = (omega (arith, g.0), g.1)

    held : Sides x → patched_image x ≡ None → ⊥
    held (inl p) n = some_none _ (patched_image x) (in_private_range x p.0 p.1) n
    held (inr g) n = some_none _ (patched_image x) (in_trampolines x g.0 g.1) n

-- rule 6
abbrev r0 : RowValue
r0 = record {
  site = 0x401000;
  number = 0;
  outcome = patched (record {
    scheme = B1;
    tramps = record { place = 0x21000; start = 0x401000; event = true } ∷ [];
    writes = record { addr = 0x401000; was = spelling mov_sixty; now = jump_code 0x401000 0x21000 } ∷ [];
    puns = [];
  });
}

-- the row is its trampoline's
row_holds : (x : ℕ) → RowFails one_mov x → ⊥
row_holds x (zero, r, e, s, alts) = by_row r (some_is r0 r e) s alts
  where
    by_row : (r : RowValue) → r0 ≡ r → r.site ≡ x → (is_some (entry_at entries x) ≡ false) ⊎ (is_below x (row_before report.rows 0) ≡ false)
        ⊎ (is_own x (tramps_of r.outcome) ≡ false) → ⊥
    by_row r p s a =
        let at : 0x401000 ≡ x = ap (λ (z : RowValue). z.site) p ∙ s in
        elim a [
          | inl n ↦ true≢false (ap (λ (z : ℕ). is_some (entry_at entries z)) at ∙ n)
          | inr b ↦ elim b [
            | inl n ↦ true≢false n
            | inr n ↦ true≢false ((λ i. is_own (at i) (tramps_of (p i).outcome)) ∙ n)
          ]
        ]
row_holds x (suc i, r, e, s, alts) = absurd cc

-- and the range is long enough
site_holds : (x : ℕ) → SiteFails one_mov x → ⊥
site_holds x (inl h) = row_holds x h
site_holds x (inr (inl h)) = h.1 h.0
site_holds x (inr (inr h)) = let e = h.0 in let l = h.1 in absurd (omega (arith, e, l))

-- so no rule fails
is_sound : IsSound one_mov
is_sound rule x h = elim h [
  | inl a ↦ byte_holds x a.1
  | inr h2 ↦ elim h2 [
    | inl a ↦ write_holds x a.1
    | inr h3 ↦ elim h3 [
      | inl a ↦ entry_holds x a.1
      | inr h4 ↦ elim h4 [
        | inl a ↦ code_holds x a.1
        | inr h5 ↦ elim h5 [ inl a ↦ range_holds x a.1 | inr a ↦ site_holds x a.1 ]
      ]
    ]
  ]
]

-- a start pair, and two quiet steps

-- nothing lies beside the images
pair : IsStartPair original_image patched_image 0x401000 (state_at original_image 7 0x401000) (state_at patched_image 7 0x401000)
pair =
    entry_pair original_image patched_image (λ x. None) (λ x. inr refl) (λ i x. sym (else_none (original_image x)) i)
    (λ i x. sym (else_none (patched_image x)) i)

-- the MOV, then a NOP
quiet : IsQuiet Step entries (state_at original_image 7 0x401000)
    (state_at original_image 60 0x401005 ∷ state_at original_image 60 0x401006 ∷ [])
unfolding template filled effect
quiet = (
  (refl, (mov_sixty, record { at = record { spelled = sixty_is; here = sixty_stands }; apart = refl; acts = refl })),
  ((refl, (nop, record { at = record { spelled = nop_is; here = (refl, refl, tt) }; apart = refl; acts = refl })), refl),
)

-- all premises of the theorem are met by this image
pub one_mov_sound : OneMovIsSound
one_mov_sound = record { listed = are_entries; told = is_report; sound = is_sound; pair = pair; quiet = quiet }
