-- The answer for bytes, from both sides.
use Rattle.std.proofs.Common.{◌≡◌, ◌⊎◌, ◌↔◌, inl, inr, ℕ, ◌+◌, ◌-◌, ◌<◌, ◌≤◌, Bool, true, false, ◌&&◌, cond, leb, ltb, List, [], ◌∷◌, ◌++◌, length, take, drop, Result, Ok, Err, refl, sym, ap, ◌∙◌, subst, arith, append_assoc, append-nil, length-append}
use Rattle.std.proofs.lemmas.List.{take-append-drop, length-take, take_at, take_all, append_cancel_left}
use Rattle.std.proofs.lemmas.Bool.Decides.{nat_tests}
use Rattle.std.proofs.lemmas.List.Folds.{list_all-append}
use Rattle.std.proofs.Math.Seq.{take-append-add}
use Rattle.std.proofs.lemmas.Bool.{and_parts}
use Rattle.length_decode.specs.declared.instruction_parts.Parts.{Parts}
use Rattle.length_decode.specs.declared.instruction_parts.Shape.{Shape}
use Rattle.length_decode.specs.declared.instruction_parts.Shape.TheVariants.{Known, Unknown, Short}
use Rattle.length_decode.specs.declared.field_bytes.Stop.{Stop}
use Rattle.length_decode.specs.declared.field_bytes.Stop.TheVariants.{NoSpelling, Missing}
use Rattle.length_decode.specs.Spelling.{Fields, IsFormed, IsInstruction, spelling, parts_of, IsSpelling, BeginsWith, BeginsWithNone, IsContinued, IsShort}
use Rattle.length_decode.specs.declared.prefix_bytes.Lead.{Lead}
use Rattle.length_decode.specs.Prefix.{lead_of}
use Rattle.length_decode.specs.Parse.{prefix_run, after_prefixes, parse, shape_from, shape_of}
use Rattle.length_decode.proofs.SpelledFields.{parse_again}
use Rattle.length_decode.proofs.ReadFields.{parse_takes, divided}
use Rattle.length_decode.proofs.MissingBytes.{Within, parse_within}
use Rattle.length_decode.proofs.SpellingCompletions.{are_bytes, parse_completed}

known_is : (p q : Parts) → Known p ≡ Known q → p ≡ q
known_is p q e = let h : p ≡ q = cc in h

short_or : (b : Bool) (p : Parts) → cond b Short Unknown ≡ Known p → ⊥
short_or true p e = cc
short_or false p e = cc

known_cases : (w more : List ℕ) (r : Result Fields Stop) (p : Parts) → parse w ≡ r → length w ≤ 15 → shape_from (length w) r ≡ Known p → BeginsWith (w ++ more) p
known_cases w more (Ok f) p e l k =
    let t = parse_takes w f e in
    let s : length (spelling f) ≤ 15 = omega (arith, l, ap length t.split, length-append (spelling f) t.rest) in
    record {
      front = spelling f;
      rest = t.rest ++ more;
      joined = ap (λ z. z ++ more) t.split ∙ append_assoc (spelling f) t.rest more;
      spelled = record { fields = f; is = record { formed = t.fine; short = s }; spelled = refl; divided = sym (known_is (parts_of f) p k) };
    }
known_cases w more (Err NoSpelling) p e l k = absurd cc
known_cases w more (Err (Missing n)) p e l k = absurd (short_or (leb (length w + n) 15) p k)

window_len : (bytes : List ℕ) → length (take 15 bytes) ≤ 15
window_len bytes = omega (arith, length-take 15 bytes)

-- bytes that decode to parts begin with a spelling of these parts
pub shape_known : (bytes : List ℕ) (p : Parts) → shape_of bytes ≡ Known p → BeginsWith bytes p
shape_known bytes p k = subst (λ (z : List ℕ). BeginsWith z p) (take-append-drop 15 bytes) (known_cases (take 15 bytes) (drop 15 bytes) (parse (take 15 bytes)) p refl (window_len bytes) k)

window_of : (xs ys : List ℕ) → length xs ≤ 15 → take 15 (xs ++ ys) ≡ xs ++ take (15 - length xs) ys
window_of xs ys h =
    let e : length xs + (15 - length xs) ≡ 15 = omega arith in
    ap (λ n. take n (xs ++ ys)) (sym e) ∙ take-append-add xs ys (15 - length xs)

-- a spelling followed by anything decodes to its parts
pub decoded : (f : Fields) (rest : List ℕ) → IsInstruction f → shape_of (spelling f ++ rest) ≡ Known (parts_of f)
decoded f rest h =
    let w = window_of (spelling f) rest h.short in
    let e : parse (take 15 (spelling f ++ rest)) ≡ Ok f = ap parse w ∙ parse_again f (take (15 - length (spelling f)) rest) h.formed in
    ap (shape_from (length (take 15 (spelling f ++ rest)))) e

-- bytes that begin with a spelling of parts decode to these parts
pub begins_known : (bytes : List ℕ) (p : Parts) → BeginsWith bytes p → shape_of bytes ≡ Known p
begins_known bytes p b =
    let e : bytes ≡ spelling b.spelled.fields ++ b.rest = b.joined ∙ ap (λ z. z ++ b.rest) b.spelled.spelled in
    ap shape_of e ∙ decoded b.spelled.fields b.rest b.spelled.is ∙ ap Known (sym b.spelled.divided)

-- two ways to part one list
record Longer (xs ys us vs : List ℕ) : Type 0 where
  between : List ℕ
  front : us ≡ xs ++ between
  back : ys ≡ between ++ vs

record Shorter (xs us : List ℕ) : Type 0 where
  between : List ℕ
  front : xs ≡ us ++ between

parted : (xs ys us vs : List ℕ) → xs ++ ys ≡ us ++ vs → Longer xs ys us vs ⊎ Shorter xs us
parted [] ys us vs e = inl (record { between = us; front = refl; back = e })
parted (x ∷ xs) ys [] vs e = inr (record { between = x ∷ xs; front = refl })
parted (x ∷ xs) ys (u ∷ us) vs e =
    let h : x ≡ u = cc in
    let t : xs ++ ys ≡ us ++ vs = cc in
    elim (parted xs ys us vs t) [
      | inl l ↦ inl (record { between = l.between; front = ap (λ z. z ∷ us) (sym h) ∙ ap (λ z. x ∷ z) l.front; back = l.back })
      | inr s ↦ inr (record { between = s.between; front = ap (λ z. z ∷ xs) h ∙ ap (λ z. u ∷ z) s.front })
    ]

-- a reading that told bytes missing read no instruction
ok_not_missing : (r : Result Fields Stop) (f : Fields) (k : ℕ) → r ≡ Ok f → r ≡ Err (Missing k) → ⊥
ok_not_missing r f k a b = let e : (let z : Result Fields Stop = Ok f in z) ≡ Err (Missing k) = sym a ∙ b in cc

completed_some : (bytes : List ℕ) (k : ℕ) → parse bytes ≡ Err (Missing k) → (more : List ℕ) → length more ≡ k → (f : Fields) → parse (bytes ++ more) ≡ Ok f → 0 < k
completed_some bytes k e [] l f r = absurd (ok_not_missing (parse bytes) f k (ap parse (sym (append-nil bytes)) ∙ r) e)
completed_some bytes k e (x ∷ more) l f r = omega (arith, l)

between_some : (bytes : List ℕ) (k : ℕ) → parse bytes ≡ Err (Missing k) → (f : Fields) → IsFormed f → (ws : List ℕ) → spelling f ≡ bytes ++ ws → 0 < length ws
between_some bytes k e f h [] s =
    let t : bytes ≡ spelling f ++ [] = sym (append-nil bytes) ∙ sym s ∙ sym (append-nil (spelling f)) in
    absurd (ok_not_missing (parse bytes) f k (ap parse t ∙ parse_again f [] h) e)
between_some bytes k e f h (x ∷ ws) s = omega arith

continued_by : (bytes : List ℕ) (k : ℕ) → parse bytes ≡ Err (Missing k) → length bytes + k ≤ 15 → (more : List ℕ) → length more ≡ k → are_bytes more ≡ true → (f : Fields) → IsFormed f → (rest : List ℕ) → Longer bytes more (spelling f) rest → IsContinued bytes
continued_by bytes k e l more n b f h rest c =
    let all : (are_bytes c.between && are_bytes rest) ≡ true = sym (list_all-append (λ x. ltb x 256) c.between rest) ∙ ap are_bytes (sym c.back) ∙ b in
    let short : length (spelling f) ≤ 15 = omega (arith, l, n, ap length c.front, ap length c.back, length-append bytes c.between, length-append c.between rest) in
    record {
      more = c.between;
      are_bytes = (and_parts (are_bytes c.between) (are_bytes rest) all).0;
      some = between_some bytes k e f h c.between c.front;
      parts = parts_of f;
      spelled = record { fields = f; is = record { formed = h; short = short }; spelled = sym c.front; divided = refl };
    }

missing_continued : (bytes : List ℕ) (k : ℕ) → parse bytes ≡ Err (Missing k) → length bytes + k ≤ 15 → IsContinued bytes
missing_continued bytes k e l =
    let c = parse_completed bytes k e in
    let t = parse_takes (bytes ++ c.more) c.fields c.reads in
    elim (parted bytes c.more (spelling c.fields) t.rest t.split) [
      | inl p ↦ continued_by bytes k e l c.more c.len c.bytes c.fields t.fine t.rest p
      | inr s ↦ absurd (ok_not_missing (parse bytes) c.fields k (ap parse s.front ∙ parse_again c.fields s.between t.fine) e)
    ]

record Missed (w : List ℕ) : Type 0 where
  count : ℕ
  reads : parse w ≡ Err (Missing count)
  fits : length w + count ≤ 15

fits_cases : (b : Bool) (n : ℕ) → leb n 15 ≡ b → cond b Short Unknown ≡ Short → n ≤ 15
fits_cases true n e k = grind (arith, nat_tests)
fits_cases false n e k = absurd cc

short_cases : (w : List ℕ) (r : Result Fields Stop) → parse w ≡ r → shape_from (length w) r ≡ Short → Missed w
short_cases w (Ok f) e k = absurd cc
short_cases w (Err NoSpelling) e k = absurd cc
short_cases w (Err (Missing n)) e k = record { count = n; reads = e; fits = fits_cases (leb (length w + n) 15) (length w + n) refl k }

-- fewer than fifteen bytes are their own window
pub whole_window : (bytes : List ℕ) → length bytes < 15 → take 15 bytes ≡ bytes
whole_window bytes h = take_all 15 bytes (omega arith)

-- bytes for which the answer is Short are few, begin with no spelling, and are continued to one
pub shape_short : (bytes : List ℕ) → shape_of bytes ≡ Short → IsShort bytes
shape_short bytes k =
    let w = take 15 bytes in
    let m = short_cases w (parse w) refl k in
    let c = parse_completed w m.count m.reads in
    let p = completed_some w m.count m.reads c.more c.len c.fields c.reads in
    let few : length bytes < 15 = omega (arith, p, m.fits, length-take 15 bytes) in
    let e = whole_window bytes few in
    let reads : parse bytes ≡ Err (Missing m.count) = ap parse (sym e) ∙ m.reads in
    let fits : length bytes + m.count ≤ 15 = omega (arith, m.fits, ap length e) in
    record { few = few; none = λ q b. let z : Known q ≡ Short = sym (begins_known bytes q b) ∙ k in cc; continued = missing_continued bytes m.count reads fits }

told_short : (bytes : List ℕ) (n : ℕ) (r : Result Fields Stop) → parse bytes ≡ r → length bytes + n ≤ 15 → Within r n → BeginsWithNone bytes → shape_from (length bytes) r ≡ Short
told_short bytes n (Ok f) e l w unmet =
    let t = parse_takes bytes f e in
    let s : length (spelling f) ≤ 15 = omega (arith, l, ap length t.split, length-append (spelling f) t.rest) in
    absurd (unmet (parts_of f) (record { front = spelling f; rest = t.rest; joined = t.split; spelled = record { fields = f; is = record { formed = t.fine; short = s }; spelled = refl; divided = refl } }))
told_short bytes n (Err NoSpelling) e l w unmet = absurd w
told_short bytes n (Err (Missing k)) e l w unmet =
    let h : leb (length bytes + k) 15 ≡ true = grind (arith, nat_tests) in
    ap (λ t. cond t Short Unknown) h

-- for such bytes the answer is Short
pub short_shape : (bytes : List ℕ) → IsShort bytes → shape_of bytes ≡ Short
short_shape bytes s =
    let g = s.continued.spelled.fields in
    let more = s.continued.more in
    let r : parse (bytes ++ more) ≡ Ok g = ap parse (s.continued.spelled.spelled ∙ sym (append-nil (spelling g))) ∙ parse_again g [] s.continued.spelled.is.formed in
    let w = parse_within bytes more g r in
    let l : length bytes + length more ≤ 15 = omega (arith, s.continued.spelled.is.short, ap length s.continued.spelled.spelled, length-append bytes more) in
    let t = told_short bytes (length more) (parse bytes) refl l w s.none in
    ap (λ z. shape_from (length z) (parse z)) (whole_window bytes s.few) ∙ t

other : (bytes : List ℕ) (s : Shape) → shape_of bytes ≡ s → BeginsWithNone bytes → (IsShort bytes → ⊥) → s ≡ Unknown
other bytes (Known p) e unmet few = absurd (unmet p (shape_known bytes p e))
other bytes Unknown e unmet few = refl
other bytes Short e unmet few = absurd (few (shape_short bytes e))

-- the answer is Known exactly where the bytes begin with a spelling of these parts
pub is_known : (bytes : List ℕ) (p : Parts) → (shape_of bytes ≡ Known p) ↔ BeginsWith bytes p
is_known bytes p = (shape_known bytes p, begins_known bytes p)

-- the answer is Short exactly for fewer than fifteen bytes that begin with no spelling and are a proper prefix of one
pub is_short : (bytes : List ℕ) → (shape_of bytes ≡ Short) ↔ IsShort bytes
is_short bytes = (shape_short bytes, short_shape bytes)

-- the answer is Unknown exactly for all other bytes
pub is_unknown : (bytes : List ℕ) → (shape_of bytes ≡ Unknown) ↔ (BeginsWithNone bytes × (IsShort bytes → ⊥))
is_unknown bytes = (
  λ e. (λ p b. let z : Known p ≡ Unknown = sym (begins_known bytes p b) ∙ e in cc, λ s. let z : Short ≡ Unknown = sym (short_shape bytes s) ∙ e in cc),
  λ h. other bytes (shape_of bytes) refl h.0 h.1,
)

-- bytes begin with the fields of one instruction at most
pub one_fields : (f g : Fields) (more rest : List ℕ) → IsFormed f → IsFormed g → spelling f ++ more ≡ spelling g ++ rest → f ≡ g
one_fields f g more rest h k e =
    let r : (let z : Result Fields Stop = Ok f in z) ≡ Ok g = sym (parse_again f more h) ∙ ap parse e ∙ parse_again g rest k in
    let s : f ≡ g = cc in s

-- a spelling has one set of parts
pub one_parts : (bytes : List ℕ) (p q : Parts) → IsSpelling bytes p → IsSpelling bytes q → p ≡ q
one_parts bytes p q a b =
    let e : a.fields ≡ b.fields = one_fields a.fields b.fields [] [] a.is.formed b.is.formed (ap (λ z. z ++ []) (sym a.spelled ∙ b.spelled)) in
    a.divided ∙ ap parts_of e ∙ sym b.divided

-- no proper prefix of a spelling is a spelling
pub prefix_free : (bytes more : List ℕ) (p q : Parts) → IsSpelling bytes p → IsSpelling (bytes ++ more) q → more ≡ []
prefix_free bytes more p q a b =
    let s : spelling a.fields ++ more ≡ spelling b.fields ++ [] = ap (λ z. z ++ more) (sym a.spelled) ∙ b.spelled ∙ sym (append-nil (spelling b.fields)) in
    let e : a.fields ≡ b.fields = one_fields a.fields b.fields more [] a.is.formed b.is.formed s in
    let t : bytes ++ more ≡ bytes ++ [] = b.spelled ∙ ap spelling (sym e) ∙ sym a.spelled ∙ sym (append-nil bytes) in
    append_cancel_left bytes more [] t

-- the reading after the prefix bytes is the reading of the whole
front_run : (w ps : List ℕ) (lead : Lead) → lead ≡ lead_of (prefix_run w) → ps ≡ take lead.count w → ps ≡ prefix_run w
front_run w ps lead h p =
    let d = divided w in
    let c : lead.count ≡ length (prefix_run w) = ap (λ l. l.count) h in
    let run : take (length (prefix_run w)) w ≡ prefix_run w = ap (take (length (prefix_run w))) d.split ∙ take_at (prefix_run w) d.tail (length (prefix_run w)) refl in
    p ∙ ap (λ n. take n w) c ∙ run

-- the bytes taken as prefixes say what the prefix bytes at the front do
pub front_lead : (w ps : List ℕ) (lead : Lead) → lead ≡ lead_of (prefix_run w) → ps ≡ take lead.count w → lead ≡ lead_of ps
front_lead w ps lead h p = h ∙ ap lead_of (sym (front_run w ps lead h p))

-- what is read after the prefix bytes is what is read of the whole
pub front_reads : (w ps rest : List ℕ) (lead : Lead) → lead ≡ lead_of (prefix_run w) → ps ≡ take lead.count w → rest ≡ drop lead.count w → after_prefixes lead ps rest ≡ parse w
front_reads w ps rest lead h p r =
    let c : lead.count ≡ length (prefix_run w) = ap (λ l. l.count) h in
    let ps_is : ps ≡ prefix_run w = front_run w ps lead h p in
    let rest_is : rest ≡ drop (length (prefix_run w)) w = r ∙ ap (λ n. drop n w) c in
    λ i. after_prefixes (h i) (ps_is i) (rest_is i)

-- there are no more prefix bytes than bytes
pub run_within : (w : List ℕ) (lead : Lead) → lead ≡ lead_of (prefix_run w) → lead.count ≤ length w
run_within w lead h =
    let c : lead.count ≡ length (prefix_run w) = ap (λ l. l.count) h in
    omega (arith, c, ap length (divided w).split, length-append (prefix_run w) (divided w).tail)

-- what is read of at most fifteen bytes is spelled in at most fifteen
pub read_len : (w : List ℕ) (f : Fields) → length w ≤ 15 → parse w ≡ Ok f → length (spelling f) ≤ 15
read_len w f l e = let t = parse_takes w f e in omega (arith, l, ap length t.split, length-append (spelling f) t.rest)
