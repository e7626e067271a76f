-- A written file that is undone by a report of its original and its runs is the original.
use Rattle.std.proofs.Common.{◌≡◌, ℕ, ◌+◌, ◌-◌, ◌<◌, ◌≤◌, ◌==◌, ◌⊎◌, inl, inr, Bool, true, false, cond, ◌&&◌, ◌||◌, nat_lt, nat_le, List, [], ◌∷◌, length, take, filter, map, slice_index, Option, Some, None, option_map, refl, sym, ap, ◌∙◌, subst, arith, length-take-le}
use Rattle.std.specs.List.{AllByRecursion, list_any}
use Rattle.std.proofs.lemmas.Bool.{and_parts, cases_Bool, cases_lt, cond-true, cond-false, or_cases, true≢false, le-ltb, leb-true, ltb-true, eq-eqb}
use Rattle.std.proofs.lemmas.Bool.Decides.{nat_tests}
use Rattle.std.proofs.lemmas.List.{get_or-take}
use Rattle.elf_read.specs.declared.segment.Segment.{Segment}
use Rattle.elf_read.specs.Code.{is_backed}
use Rattle.elf_emit.specs.Job.{BytesAt, Frame}
use Rattle.elf_emit.specs.Frames.{up, in_patch, written_by, written_at, olds, is_moved, stays, count, table_at, with_entry, with_header, layout}
use Rattle.elf_emit.specs.FrameLaws.{IsFrame, PairsByRecursion, IsBacked}
use Rattle.elf_emit.specs.FramePages.{file_len}
use Rattle.elf_emit.specs.Views.{InFile}
use Rattle.elf_emit.proofs.PlacedSlices.{AwayFrom, away}
use Rattle.elf_emit.proofs.StayingSegments.{all_map, all_both, all_filtered, none_any, stays_parts}
use Rattle.elf_emit.proofs.OriginalChunks.{written_none}
use Rattle.elf_emit.proofs.OriginalFacts.{Facts, facts_of, length_field, long_started, length_header, length_original}
use Rattle.elf_emit.proofs.WrittenTable.{layout_slice}
use Rattle.elf_emit.proofs.PagesOfLayout.{length_layout}
use Rattle.patch_report.specs.declared.origin.Origin.{Origin}
use Rattle.patch_report.specs.Runs.{runs, in_run}
use Rattle.patch_report.specs.Values.{WriteValue}
use Rattle.unpatch.specs.Undone.{addressed, old_bytes, place_in, place_of, with_origin, undone}
use Rattle.unpatch.specs.Refusals.{new_bytes, has_byte, is_there, least_from, least_missing, is_outside, refusal_of, UndoneBy}
use Rattle.unpatch.specs.Laws.{written_of, IsOver, RunsApart, FrameIsUndone}
use Rattle.unpatch.proofs.HeaderFields.{byte_slice, field_else, OutOfFields, cases_fields, told_of, length_origin, origin_out, origin_in, entry_out}
use Rattle.unpatch.proofs.OriginalSegments.{Old, all_old, backed_at, within, placed_new, byte_new, byte_old}
use Rattle.unpatch.proofs.RestoredBytes.{is_at, IsRight, IsMet, all_put, all_addressed, all_flat, any_addressed, any_flat}

-- a byte of the original that no segment which stays has
header_out : (f : Frame) (k : ℕ) → Facts f → OutOfFields k → slice_index (with_header f) k ≡ slice_index f.orig k
header_out f k q h =
    let wide = long_started f q in
    let a = length_field 8 32 (table_at f) (with_entry f.entry f.orig) (omega (arith, wide)) in
    field_else 2 56 (count f) k _ (omega (arith, wide, a)) h.2
    ∙ field_else 8 32 (table_at f) k (with_entry f.entry f.orig) (omega (arith, wide)) h.1
    ∙ entry_out f.entry f.orig k q.long h

kept_byte : (f : Frame) (k : ℕ) → Facts f → k < length f.orig → OutOfFields k → AllByRecursion (AwayFrom 1 k) (filter (stays (olds f)) (olds f))
    → slice_index (layout f) k ≡ slice_index f.orig k
kept_byte f k q l h w =
    let n = length_original f q in
    sym (byte_slice k (layout f))
    ∙ ap (λ (z : List ℕ). slice_index z 0) (layout_slice 1 k f (omega arith))
    ∙ ap (λ (z : List ℕ). slice_index z 0)
    (away 1 k f.writes f.orig (filter (stays (olds f)) (olds f)) (with_header f) (length_header f q) (all_filtered (InFile (length f.orig)) (stays (olds f)) (olds f) q.inside) w)
    ∙ byte_slice k (with_header f) ∙ header_out f k q h

-- either none has it, or one has
abbrev Has : ℕ → Segment → Type 0
Has k s = (s.offset ≤ k) × (k < s.offset + s.filesz)

away_or : (all : List Segment) (k : ℕ) {Q : Type 0} (ss : List Segment) → AllByRecursion (λ s. stays all s ≡ true → Has k s → Q) ss
    → AllByRecursion (AwayFrom 1 k) (filter (stays all) ss) ⊎ Q
away_or all k [] h = inl tt
away_or all k {Q = Q} (s ∷ ss) h = step (stays all s) refl (away_or all k ss h.1)
  where
    step : (b : Bool) → stays all s ≡ b → AllByRecursion (AwayFrom 1 k) (filter (stays all) ss) ⊎ Q → AllByRecursion (AwayFrom 1 k) (cond b (s ∷ filter (stays all) ss) (filter (stays all) ss)) ⊎ Q
    step false e r = r
    step true e (inr q) = inr q
    step true e (inl w) = elim (cases_lt k s.offset) [
      | inl a ↦ inl (inl (omega arith), w)
      | inr a ↦ elim (cases_lt k (s.offset + s.filesz)) [
        | inl b ↦ inr (h.0 e (a, b))
        | inr b ↦ inl (inr b, w)
      ]
    ]

-- as many new bytes as old ones
abbrev IsEven : WriteValue → Type 0
IsEven w = length w.now ≡ length w.was

-- one that has it, and stays: what isn't the original's there is the byte of a run
abbrev Later : Frame → List WriteValue → ℕ → Type 0
Later f ws k = (slice_index (layout f) k ≡ slice_index f.orig k) ⊎ (list_any (λ (p : ℕ × ℕ). is_at k (place_of (layout f) p.0)) (old_bytes ws) ≡ true)

put_here : (file : List ℕ) (ws : List WriteValue) (k a : ℕ) → AllByRecursion IsEven ws → place_of file a ≡ Some k
    → list_any (λ w. in_patch w a) (map written_of ws) ≡ true → list_any (λ (p : ℕ × ℕ). is_at k (place_of file p.0)) (old_bytes ws) ≡ true
put_here file ws k a even e h =
    any_flat (λ (p : ℕ × ℕ). is_at k (place_of file p.0)) (λ w. addressed w.addr w.was) (λ w. in_patch (written_of w) a) ws
    (all_map IsEven (λ w. in_patch (written_of w) a ≡ true → list_any (λ (p : ℕ × ℕ). is_at k (place_of file p.0)) (addressed w.addr w.was) ≡ true) ws
    (λ w n t. one w n t) even) (mapped ws h)
  where
    one : (w : WriteValue) → length w.now ≡ length w.was → in_patch (written_of w) a ≡ true → list_any (λ (p : ℕ × ℕ). is_at k (place_of file p.0)) (addressed w.addr w.was) ≡ true
    one w n t =
        let p = and_parts (nat_le w.addr a) (nat_lt (a - w.addr) (length w.now)) t in
        let p0 = leb-true w.addr a p.0 in let p1 = ltb-true (a - w.addr) (length w.now) p.1 in
        any_addressed (λ x. is_at k (place_of file x)) w.addr a w.was p0 (omega arith) (ap (is_at k) e ∙ eq-eqb k k refl)

    mapped : (vs : List WriteValue) → list_any (λ w. in_patch w a) (map written_of vs) ≡ true → list_any (λ w. in_patch (written_of w) a) vs ≡ true
    mapped [] g = g
    mapped (v ∷ vs) g = step (in_patch (written_of v) a) g (mapped vs)
      where
        step : (b : Bool) → (b || list_any (λ w. in_patch w a) (map written_of vs)) ≡ true
            → (list_any (λ w. in_patch w a) (map written_of vs) ≡ true → list_any (λ w. in_patch (written_of w) a) vs ≡ true)
            → (b || list_any (λ w. in_patch (written_of w) a) vs) ≡ true
        step true r m = refl
        step false r m = m r

staying : (f : Frame) (ws : List WriteValue) (k : ℕ) (s : Segment) → f.writes ≡ map written_of ws → AllByRecursion IsEven ws → Old f s → stays (olds f) s ≡ true → Has k s → Later f ws k
staying f ws k s e even o st has =
    let h0 = has.0 in let h1 = has.1 in
    let still : o.new.offset ≡ s.offset = o.is.stays (stays_parts (olds f) s st).1 in
    let a = s.vaddr + (k - s.offset) in
    let b : is_backed s a ≡ true = within s.vaddr s.filesz a (omega arith) (omega arith) in
    let at : s.offset + (a - s.vaddr) ≡ k = omega arith in
    let to : o.new.offset + (a - s.vaddr) ≡ k = omega arith in
    let byte : slice_index (layout f) k ≡ written_at f.writes a (slice_index f.orig k) =
    ap (λ (x : ℕ). slice_index (layout f) x) (sym to) ∙ byte_new f s a o b ∙ ap (λ (x : ℕ). written_at f.writes a (slice_index f.orig x)) at in
    let there : place_of (layout f) a ≡ Some k = placed_new f s a o b ∙ (λ i. Some (to i)) in
    elim (cases_Bool (list_any (λ w. in_patch w a) f.writes)) [
      | inr n ↦ inl (byte ∙ written_none f.writes a (slice_index f.orig k) (none_any (λ w. in_patch w a) f.writes n))
      | inl t ↦ inr (put_here (layout f) ws k a even there (subst (λ (z : List BytesAt). list_any (λ w. in_patch w a) z ≡ true) e t))
    ]

-- so each byte is the original's, or is put back
base_met : (f : Frame) (ws : List WriteValue) (k : ℕ) → IsFrame f → Facts f → f.writes ≡ map written_of ws → AllByRecursion IsEven ws → k < length f.orig → 64 ≤ length (take (length f.orig) (layout f))
    → IsMet (layout f) f.orig (with_origin (told_of f.orig) (take (length f.orig) (layout f))) (old_bytes ws) k
base_met f ws k h q e even l long =
    let xs : List ℕ = take (length f.orig) (layout f) in
    let o = told_of f.orig in
    elim (cases_fields k) [
      | inl i ↦ inl (origin_in f.orig xs k h.bytes long i)
      | inr i ↦
          let same : slice_index (with_origin o xs) k ≡ slice_index (layout f) k = origin_out o xs k long i ∙ get_or-take (length f.orig) (layout f) k 0 l in
          elim (away_or (olds f) k {Q = Later f ws k} (olds f) (all_map (Old f) (λ s. stays (olds f) s ≡ true → Has k s → Later f ws k) (olds f) (λ s old st has. staying f ws k s e even old st has) (all_old f h q))) [
            | inl w ↦ inl (same ∙ kept_byte f k q l i w)
            | inr (inl r) ↦ inl (same ∙ r)
            | inr (inr r) ↦ inr r
          ]
    ]

-- a segment of the original that has the byte of an address of a run
abbrev At : Frame → ℕ → Type 0
At f a = (s : Segment) × Old f s × (is_backed s a ≡ true)

backing : (f : Frame) (a : ℕ) (ss : List Segment) → AllByRecursion (Old f) ss → list_any (λ s. is_backed s a) ss ≡ true → At f a
backing f a [] os h = absurd (true≢false (sym h))
backing f a (s ∷ ss) os h = elim (or_cases (is_backed s a) (list_any (λ t. is_backed t a) ss) h) [
  | inl b ↦ (s, os.0, b)
  | inr b ↦ backing f a ss os.1 b
]

abbrev AreAt : Frame → WriteValue → Type 0
AreAt f w = (k : ℕ) → k < length w.now → At f (w.addr + k)

all_backed : (f : Frame) (ws : List WriteValue) → AllByRecursion (Old f) (olds f) → AllByRecursion (IsBacked (olds f)) (map written_of ws) → AllByRecursion (AreAt f) ws
all_backed f [] os h = tt
all_backed f (w ∷ ws) os h = (λ k l. backing f (w.addr + k) (olds f) os (h.0 k l), all_backed f ws os h.1)

-- an old byte is the original's at its place
right_at : (f : Frame) (a b : ℕ) → Facts f → At f a
    → ((s : Segment) → Old f s → is_backed s a ≡ true → slice_index f.orig (s.offset + (a - s.vaddr)) ≡ b) → IsRight (layout f) f.orig (a, b)
right_at f a b q at was k e l =
    let s = at.0 in let o = at.1 in
    let n = some_same (o.new.offset + (a - s.vaddr)) k (sym (placed_new f s a o at.2) ∙ e) in
    elim (cases_Bool (is_moved (olds f) s)) [
      | inl m ↦ let z = o.is.moves m in absurd (omega arith)
      | inr m ↦
          let z = o.is.stays m in
          let t : k ≡ s.offset + (a - s.vaddr) = omega arith in
          ap (λ (x : ℕ). slice_index f.orig x) t ∙ was s o at.2
    ]
  where
    some_same : (x y : ℕ) → ◌≡◌ {A = Option ℕ} (Some x) (Some y) → x ≡ y
    some_same x y g = cc

-- what a run wrote stands, since no address is in two
none_run : (x : ℕ) (vs : List WriteValue) → AllByRecursion IsEven vs → AllByRecursion (λ v. in_run x v ≡ false) vs → AllByRecursion (λ w. in_patch w x ≡ false) (map written_of vs)
none_run x [] even h = tt
none_run x (v ∷ vs) even h = (out v.addr (length v.was) (length v.now) even.0 h.0, none_run x vs even.1 h.1)
  where
    out : (lo n m : ℕ) → m ≡ n → (nat_le lo x && nat_lt x (lo + n)) ≡ false → (nat_le lo x && nat_lt (x - lo) m) ≡ false
    out lo n m e g = grind (arith, nat_tests)

abbrev Stays : List WriteValue → WriteValue → Type 0
Stays ws w = (k b : ℕ) → k < length w.now → written_at (map written_of ws) (w.addr + k) b ≡ slice_index w.now k

all_stay : (ws : List WriteValue) → AllByRecursion IsEven ws → PairsByRecursion RunsApart ws → AllByRecursion (Stays ws) ws
all_stay [] even apart = tt
all_stay (w ∷ ws) even apart = (
  λ k b l.
      let x = w.addr + k in
      let n = even.0 in
      let t : in_run x w ≡ true = inside w.addr k (length w.was) (omega arith) in
      let e : x - w.addr ≡ k = omega arith in
      written_none (map written_of ws) x (written_by (written_of w) x b)
      (none_run x ws even.1 (all_map (RunsApart w) (λ v. in_run x v ≡ false) ws (λ v z. z x t) apart.0))
      ∙ cond-true (in_patch (written_of w) x) (slice_index w.now (x - w.addr)) b (within w.addr (length w.now) x (omega arith) (omega arith))
      ∙ ap (λ (j : ℕ). slice_index w.now j) e,
  all_map (Stays ws) (Stays (w ∷ ws)) ws (λ v s k b l. s k (written_by (written_of w) (v.addr + k) b) l) (all_stay ws even.1 apart.1),
)
  where
    inside : (lo i n : ℕ) → i < n → (nat_le lo (lo + i) && nat_lt (lo + i) (lo + n)) ≡ true
    inside lo i n m = grind (arith, nat_tests)

-- so each new byte is there
has_new : (f : Frame) (a b : ℕ) → (at : At f a) → ((v : ℕ) → written_at f.writes a v ≡ b) → is_there (layout f) (a, b) ≡ true
has_new f a b at h =
    let s = at.0 in let o = at.1 in
    let n = backed_at s a at.2 in let n0 = n.0 in let n1 = n.1 in
    let v = o.is.vaddr in let z = o.is.filesz in
    let w = o.placed.sizes in
    ap (λ t. has_byte (layout f) a b t) (o.is.found a (within s.vaddr s.memsz a n0 (omega arith)))
    ∙ both (is_backed o.new a) (slice_index (layout f) (place_in a o.new)) b (within o.new.vaddr o.new.filesz a (omega arith) (omega arith))
    ((λ i. slice_index (layout f) (o.new.offset + (a - v i))) ∙ byte_new f s a o at.2 ∙ h (slice_index f.orig (s.offset + (a - s.vaddr))))
  where
    both : (t : Bool) (x y : ℕ) → t ≡ true → x ≡ y → (t && (x == y)) ≡ true
    both true x y e g = eq-eqb x y g
    both false x y e g = absurd (true≢false (sym e))

none_missing : (file : List ℕ) (ps : List (ℕ × ℕ)) → AllByRecursion (λ p. is_there file p ≡ true) ps → least_missing file ps ≡ None
none_missing file [] h = refl
none_missing file (p ∷ ps) h = ap (least_from file ps) (cond-true (is_there file p) _ _ h.0) ∙ none_missing file ps h.1

-- an original of this length fits
fits : (len size : ℕ) → 64 ≤ len → up len ≤ size → is_outside len size ≡ false
fits len size l m = no (nat_lt len 64) (nat_lt size (up len)) (le-ltb len 64 l) (le-ltb size (up len) m)
  where
    no : (a b : Bool) → a ≡ false → b ≡ false → (a || b) ≡ false
    no true b e g = e
    no false b e g = g

-- the file and its runs, undone
record Undoing (f : Frame) (ws : List WriteValue) : Type 0 where
  pub accepted : refusal_of (layout f) (Some (told_of f.orig)) ws ≡ None
  pub undone : UndoneBy (layout f) (Some (told_of f.orig)) ws f.orig

undoing : (f : Frame) (ws : List WriteValue) → IsFrame f → count f ≤ 1024 → f.writes ≡ map written_of ws
    → AllByRecursion (IsOver f.orig) ws → PairsByRecursion RunsApart ws → Undoing f ws
unfolding undone
undoing f ws h few e over apart =
    let q = facts_of f h few in
    let long = q.long in
    let n : length (layout f) ≡ file_len f = length_layout f h q in
    let len = length f.orig in
    let xs : List ℕ = take len (layout f) in
    let lx : length xs ≡ len = length-take-le len (layout f) (omega arith) in
    let even : AllByRecursion IsEven ws = all_map (IsOver f.orig) IsEven ws (λ w o. o.even) over in
    let at : AllByRecursion (AreAt f) ws = all_backed f ws (all_old f h q) (subst (λ z. AllByRecursion (IsBacked (olds f)) z) e h.backed) in
    let stay = all_stay ws even apart in
    let there : AllByRecursion (λ p. is_there (layout f) p ≡ true) (new_bytes ws) =
    all_flat (λ p. is_there (layout f) p ≡ true) (λ w. addressed w.addr w.now) ws
    (all_map (λ w. AreAt f w × Stays ws w) (λ w. AllByRecursion (λ p. is_there (layout f) p ≡ true) (addressed w.addr w.now)) ws
    (λ w k. all_addressed (λ p. is_there (layout f) p ≡ true) w.addr w.now
    (λ i l. has_new f (w.addr + i) (slice_index w.now i) (k.0 i l) (λ v. ap (λ (z : List BytesAt). written_at z (w.addr + i) v) e ∙ k.1 i v l)))
    (all_both (AreAt f) (Stays ws) ws at stay)) in
    let right : AllByRecursion (IsRight (layout f) f.orig) (old_bytes ws) =
    all_flat (IsRight (layout f) f.orig) (λ w. addressed w.addr w.was) ws
    (all_map (λ w. AreAt f w × IsOver f.orig w) (λ w. AllByRecursion (IsRight (layout f) f.orig) (addressed w.addr w.was)) ws
    (λ w k. all_addressed (IsRight (layout f) f.orig) w.addr w.was
    (λ i l. let m = k.1.even in right_at f (w.addr + i) (slice_index w.was i) q (k.0 i (omega arith)) (λ s o b. byte_old f s (w.addr + i) (slice_index w.was i) o b (k.1.was i l))))
    (all_both (AreAt f) (IsOver f.orig) ws at over)) in
    record {
      accepted = cond-false (is_outside len (length (layout f))) _ _ (fits len (length (layout f)) long (omega arith)) ∙ ap (option_map _) (none_missing (layout f) (new_bytes ws) there);
      undone = sym (all_put (layout f) f.orig (old_bytes ws) (with_origin (told_of f.orig) xs) (length_origin (told_of f.orig) xs (omega arith) ∙ lx) right
          (λ k l. base_met f ws k h q e even l (omega arith)));
    }

-- of a written file and a report that tells its original and its runs, no refusal holds, and undone it is the original
pub frame_is_undone : FrameIsUndone
frame_is_undone f report h few e tells =
    let ws = runs report.body in
    let u = undoing f ws h few e tells.over tells.apart in
    let back = sym tells.origin in
    record {
      accepted = subst (λ (o : Option Origin). refusal_of (layout f) o ws ≡ None) back u.accepted;
      undone = subst (λ (o : Option Origin). UndoneBy (layout f) o ws f.orig) back u.undone;
    }
