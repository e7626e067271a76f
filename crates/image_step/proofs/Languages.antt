-- Texts read line by line, for any lines and any drafts: what has been read, what it is in the end, and why a line is refused.
use Rattle.std.proofs.Common.{◌≡◌, ◌≢◌, ℕ, suc, ◌+◌, ◌-◌, ◌≤◌, eqb, Bool, true, false, cond, List, [], ◌∷◌, ◌++◌, length, map, take, Option, Some, None, refl, ap, sym, subst, ◌∙◌, arith, append-nil, append_assoc, length-append}
use Rattle.std.specs.Prelude.{option_and_then, option_map}
use Rattle.std.specs.List.{AllByRecursion, before_first, after_first}
use Rattle.std.proofs.lemmas.Bool.Decides.{nat_tests}
use Rattle.std.proofs.lemmas.List.{append_cancel_left, map-append, length-map}
use Rattle.std.proofs.Math.Seq.{take-append_seam}
use Rattle.list_text.specs.Laws.{ended}
use Rattle.list_text.specs.Lines.{is_line_feed}
use Rattle.image_step.specs.Answers.{Agrees, whole_lines}
use Rattle.image_step.specs.Drafts.{goes_on, read_one}
use Rattle.image_step.proofs.DraftLines.{all_push}
use Rattle.image_step.proofs.Lines.{first_cut, whole_cut, whole_first, whole_none}
use Rattle.image_step.proofs.Words.{Above}

-- A draft with these lines, where each goes on with what is before it.
abbrev pub after : {L D : Type 0} → (D → L → Option D) → D → List L → Option D
after taken d [] = Some d
after taken d (x ∷ xs) = option_and_then (λ e. after taken e xs) (taken d x)

-- Values that a text has lines for, each line with one text, read by drafts from the first one on. What was taken begins a value,
-- and is one where the draft is whole.
pub record Language (L D V : Type 0) : Type 1 where
  pub text : L → List ℕ
  pub line_of : List ℕ → Option L
  pub Holds : L → Type 0
  pub taken : D → L → Option D
  pub first : D
  pub whole : V → D
  pub lines : V → List L
  pub Is : V → Type 0
  pub read : (x : L) → Holds x → line_of (text x) ≡ Some x
  pub spelled : (w : List ℕ) (x : L) → line_of w ≡ Some x → Holds x × (w ≡ text x)
  pub above : (x : L) → Holds x → Above 10 (text x)
  pub hold : (v : V) → Is v → AllByRecursion Holds (lines v)
  pub reach : (v : V) → Is v → after taken first (lines v) ≡ Some (whole v)
  pub completes : (xs : List L) (d : D) → AllByRecursion Holds xs → after taken first xs ≡ Some d → (v : V) × Is v × ((left : List L) × (lines v ≡ xs ++ left))
  pub ends : (xs : List L) (v : V) → AllByRecursion Holds xs → after taken first xs ≡ Some (whole v) → Is v × (lines v ≡ xs)
  pub one : (v w : V) → whole v ≡ whole w → v ≡ w

-- The text of lines, each with an LF behind it.
abbrev pub lines_text : {L D V : Type 0} → Language L D V → List L → List ℕ
lines_text G xs = ended (map G.text xs)

-- The text of a value.
abbrev pub text_of : {L D V : Type 0} → Language L D V → V → List ℕ
text_of G v = lines_text G (G.lines v)

-- ---- lines after lines

-- Of lines that are taken each is taken.
pub first_taken : {L D : Type 0} (taken : D → L → Option D) (d e : D) (x : L) (xs : List L) → after taken d (x ∷ xs) ≡ Some e
    → (f : D) × (taken d x ≡ Some f) × (after taken f xs ≡ Some e)
first_taken {L = L} {D = D} taken d e x xs h = by_first (taken d x) refl h
  where
    by_first : (o : Option D) → taken d x ≡ o → option_and_then (λ z. after taken z xs) o ≡ Some e
        → (f : D) × (taken d x ≡ Some f) × (after taken f xs ≡ Some e)
    by_first None is h = absurd cc
    by_first (Some z) is h = (z, is, h)

-- Lines of which the first is taken are taken as the others from the draft that it makes.
pub one_taken : {L D : Type 0} (taken : D → L → Option D) (d e : D) (x : L) (xs : List L) → taken d x ≡ Some e → after taken d (x ∷ xs) ≡ after taken e xs
one_taken taken d e x xs h = ap (λ o. option_and_then (λ z. after taken z xs) o) h

-- Lines behind lines that are taken are taken as from the draft that these make.
pub after_append : {L D : Type 0} (taken : D → L → Option D) (d e : D) (xs ys : List L) → after taken d xs ≡ Some e
    → after taken d (xs ++ ys) ≡ after taken e ys
after_append {D = D} taken d e [] ys h = let same : d ≡ e = cc in ap (λ (z : D). after taken z ys) same
after_append taken d e (x ∷ xs) ys h =
    let f = first_taken taken d e x xs h in
    one_taken taken d f.0 x (xs ++ ys) f.1 ∙ after_append taken f.0 e xs ys f.2

-- ---- lines by their texts

some_is : {L : Type 0} (x y : L) → ◌≡◌ {A = Option L} (Some x) (Some y) → x ≡ y
some_is x y e = cc

-- Lines of the same text are the same.
line_one : {L D V : Type 0} (G : Language L D V) (x y : L) → G.Holds x → G.Holds y → G.text x ≡ G.text y → x ≡ y
line_one G x y hx hy e = some_is x y (sym (G.read x hx) ∙ (ap G.line_of e ∙ G.read y hy))

heads_same : (v w : List ℕ) (vs ws : List (List ℕ)) → v ∷ vs ≡ w ∷ ws → (v ≡ w) × (vs ≡ ws)
heads_same v w vs ws e = (cc, cc)

cons_not : (v : List ℕ) (vs : List (List ℕ)) → ◌≡◌ {A = List (List ℕ)} (v ∷ vs) [] → ⊥
cons_not v vs e = cc

-- So are lists of lines whose texts are the same.
lines_one : {L D V : Type 0} (G : Language L D V) (xs ys : List L) → AllByRecursion G.Holds xs → AllByRecursion G.Holds ys
    → map G.text xs ≡ map G.text ys → xs ≡ ys
lines_one G [] [] hx hy e = refl
lines_one G [] (y ∷ ys) hx hy e = absurd (cons_not (G.text y) (map G.text ys) (sym e))
lines_one G (x ∷ xs) [] hx hy e = absurd (cons_not (G.text x) (map G.text xs) e)
lines_one G (x ∷ xs) (y ∷ ys) hx hy e =
    let h = heads_same (G.text x) (G.text y) (map G.text xs) (map G.text ys) e in
    let one : x ≡ y = line_one G x y hx.0 hy.0 h.0 in
    let rest : xs ≡ ys = lines_one G xs ys hx.1 hy.1 h.1 in
    rw (one, rest) refl

-- Lines that agree with other lines and one more text.
record Continues {L D V : Type 0} (G : Language L D V) (xs ys : List L) (w : List ℕ) : Type 0 where
  next : L
  later : List L
  parts : ys ≡ xs ++ next ∷ later
  text : G.text next ≡ w
  holds : G.Holds next

-- Where the texts of such lines agree with theirs and one more text, that is the text of a further line.
continues : {L D V : Type 0} (G : Language L D V) (xs ys : List L) (w : List ℕ) (ws : List (List ℕ)) → AllByRecursion G.Holds xs → AllByRecursion G.Holds ys
    → take (suc (length xs)) (map G.text xs ++ w ∷ ws) ≡ take (suc (length xs)) (map G.text ys) → Continues G xs ys w
continues G [] [] w ws hx hy e = absurd (cons_not w [] e)
continues G [] (y ∷ ys) w ws hx hy e =
    record { next = y; later = ys; parts = refl; text = sym (heads_same w (G.text y) [] [] e).0; holds = hy.0 }
continues G (x ∷ xs) [] w ws hx hy e = absurd (cons_not (G.text x) (take (suc (length xs)) (map G.text xs ++ w ∷ ws)) e)
continues {L = L} G (x ∷ xs) (y ∷ ys) w ws hx hy e =
    let h = heads_same (G.text x) (G.text y) (take (suc (length xs)) (map G.text xs ++ w ∷ ws)) (take (suc (length xs)) (map G.text ys)) e in
    let one : x ≡ y = line_one G x y hx.0 hy.0 h.0 in
    let ih = continues G xs ys w ws hx.1 hy.1 h.1 in
    let parts : y ∷ ys ≡ x ∷ (xs ++ ih.next ∷ ih.later) = ap (λ (z : L). z ∷ ys) (sym one) ∙ ap (λ (l : List L). x ∷ l) ih.parts in
    record { next = ih.next; later = ih.later; parts = parts; text = ih.text; holds = ih.holds }

-- The lines of a text that begins with lines.
whole_behind : {L D V : Type 0} (G : Language L D V) (xs : List L) (rest : List ℕ) → AllByRecursion G.Holds xs
    → whole_lines (lines_text G xs ++ rest) ≡ map G.text xs ++ whole_lines rest
whole_behind G [] rest h = refl
whole_behind G (x ∷ xs) rest h =
    ap whole_lines (append_assoc (G.text x) (10 ∷ lines_text G xs) rest)
    ∙ (whole_first (G.text x) (lines_text G xs ++ rest) (G.above x h.0) ∙ ap (λ (l : List (List ℕ)). G.text x ∷ l) (whole_behind G xs rest h.1))

-- ---- one line

-- A text has these lines so far, which make a draft; the place is that of the next one.
pub record Passed {L D V : Type 0} (G : Language L D V) (text : List ℕ) (place : ℕ) (d : D) (rest : List ℕ) : Type 0 where
  pub lines : List L
  pub spelled : text ≡ lines_text G lines ++ rest
  pub reached : after G.taken G.first lines ≡ Some d
  pub holds : AllByRecursion G.Holds lines
  pub place_is : place ≡ length lines + 1
  pub room : place + length rest ≤ length text + 1

-- Nothing has been read.
pub passed_none : {L D V : Type 0} (G : Language L D V) (text : List ℕ) → Passed G text 1 G.first text
passed_none G text =
    record { lines = []; spelled = refl; reached = refl; holds = tt; place_is = refl; room = omega arith }

-- What reading one line shows.
record One {L D V : Type 0} (G : Language L D V) (d : D) (rest : List ℕ) (e : D) (later : List ℕ) : Type 0 where
  line : L
  text : rest ≡ G.text line ++ 10 ∷ later
  taken_is : G.taken d line ≡ Some e
  holds : G.Holds line

goes_from : {L D : Type 0} (taken : D → L → Option D) (d e : D) (o : Option L) → goes_on taken d o ≡ Some e → (x : L) × (o ≡ Some x) × (taken d x ≡ Some e)
goes_from taken d e None h = absurd cc
goes_from taken d e (Some x) h = (x, refl, h)

rest_from : {D : Type 0} (behind later : List ℕ) (o : Option D) (e : D) → option_map {U = D × List ℕ} (λ z. (z, behind)) o ≡ Some (e, later) → (o ≡ Some e) × (behind ≡ later)
rest_from behind later None e h = absurd cc
rest_from {D = D} behind later (Some z) e h =
    let pair : ◌≡◌ {A = D × List ℕ} (z, behind) (e, later) = cc in
    (ap (λ (p : D × List ℕ). Some p.0) pair, ap (λ (p : D × List ℕ). p.1) pair)

one_by : {L D V : Type 0} (G : Language L D V) (b : Bool) (d : D) (rest : List ℕ) (e : D) (later : List ℕ) → eqb (length (before_first is_line_feed rest)) (length rest) ≡ b
    → option_and_then {T = List ℕ × List ℕ} {U = D × List ℕ} (λ p. option_map (λ z. (z, p.1)) (goes_on G.taken d (G.line_of p.0))) (cond b None (Some (before_first is_line_feed rest, after_first is_line_feed rest))) ≡ Some (e, later)
    → One G d rest e later
one_by G true d rest e later is h = absurd cc
one_by {L = L} G false d rest e later is h =
    let m = rest_from (after_first is_line_feed rest) later (goes_on G.taken d (G.line_of (before_first is_line_feed rest))) e h in
    let f = goes_from G.taken d e (G.line_of (before_first is_line_feed rest)) m.0 in
    let s = G.spelled (before_first is_line_feed rest) f.0 f.1 in
    let cut = first_cut rest (λ g. let q : eqb (length (before_first is_line_feed rest)) (length rest) ≡ true = grind (arith, nat_tests, g) in cc) in
    let text : rest ≡ G.text f.0 ++ 10 ∷ later =
    cut ∙ (ap (λ (w : List ℕ). w ++ 10 ∷ after_first is_line_feed rest) s.1 ∙ ap (λ (l : List ℕ). G.text f.0 ++ 10 ∷ l) m.1) in
    record { line = f.0; text = text; taken_is = f.2; holds = s.0 }

lines_push : {L D V : Type 0} (G : Language L D V) (xs : List L) (x : L) (later : List ℕ)
    → lines_text G xs ++ (G.text x ++ 10 ∷ later) ≡ lines_text G (xs ++ x ∷ []) ++ later
lines_push G [] x later = sym (append_assoc (G.text x) (10 ∷ []) later)
lines_push G (y ∷ xs) x later =
    append_assoc (G.text y) (10 ∷ lines_text G xs) (G.text x ++ 10 ∷ later)
    ∙ (ap (λ (l : List ℕ). G.text y ++ 10 ∷ l) (lines_push G xs x later)
    ∙ sym (append_assoc (G.text y) (10 ∷ lines_text G (xs ++ x ∷ [])) later))

-- A line that is taken is passed.
pub passed_more : {L D V : Type 0} (G : Language L D V) (text : List ℕ) (place : ℕ) (d e : D) (rest later : List ℕ) → Passed G text place d rest
    → read_one G.taken G.line_of d rest ≡ Some (e, later) → Passed G text (place + 1) e later
passed_more {L = L} {D = D} G text place d e rest later p h =
    let o = one_by G (eqb (length (before_first is_line_feed rest)) (length rest)) d rest e later refl h in
    let len : length rest ≡ length (G.text o.line) + suc (length later) = ap (length {A = ℕ}) o.text ∙ length-append (G.text o.line) (10 ∷ later) in
    let count : length (p.lines ++ o.line ∷ []) ≡ length p.lines + 1 = length-append p.lines (o.line ∷ []) in
    let place_is : place ≡ length p.lines + 1 = p.place_is in
    let room : place + length rest ≤ length text + 1 = p.room in
    record {
      lines = p.lines ++ o.line ∷ [];
      spelled = p.spelled ∙ (ap (λ (l : List ℕ). lines_text G p.lines ++ l) o.text ∙ lines_push G p.lines o.line later);
      reached = after_append G.taken G.first d p.lines (o.line ∷ []) p.reached ∙ ap (λ (z : Option D). option_and_then (λ y. after G.taken y []) z) o.taken_is;
      holds = all_push G.Holds p.lines o.line p.holds o.holds;
      place_is = omega arith;
      room = omega arith;
    }

-- ---- what has been read

whole_text : {L D V : Type 0} (G : Language L D V) (text : List ℕ) (place : ℕ) (d : D) (rest : List ℕ) (p : Passed G text place d rest)
    → whole_lines text ≡ map G.text p.lines ++ whole_lines rest
whole_text G text place d rest p = ap whole_lines p.spelled ∙ whole_behind G p.lines rest p.holds

whole_value : {L D V : Type 0} (G : Language L D V) (v : V) → G.Is v → whole_lines (text_of G v) ≡ map G.text (G.lines v)
whole_value G v h =
    ap whole_lines (sym (append-nil (text_of G v))) ∙ (whole_behind G (G.lines v) [] (G.hold v h) ∙ append-nil (map G.text (G.lines v)))

same_draft : {L D V : Type 0} (G : Language L D V) (d e : D) (xs : List L) → after G.taken G.first xs ≡ Some d → after G.taken G.first xs ≡ Some e → d ≡ e
same_draft {D = D} G d e xs p q = let both : ◌≡◌ {A = Option D} (Some d) (Some e) = sym p ∙ q in cc

-- The text is that of this value, and of no other one.
pub record IsText {L D V : Type 0} (G : Language L D V) (text : List ℕ) (v : V) : Type 0 where
  pub holds : G.Is v
  pub spelled : text ≡ text_of G v
  pub one : (w : V) → G.Is w → text ≡ text_of G w → w ≡ v

-- A text whose lines make a value, with nothing behind it, is that value's text and no other one's.
pub is_text : {L D V : Type 0} (G : Language L D V) (text : List ℕ) (place : ℕ) (v : V) → Passed G text place (G.whole v) [] → IsText G text v
is_text G text place v p =
    let e = G.ends p.lines v p.holds p.reached in
    record {
      holds = e.0;
      spelled = p.spelled ∙ (append-nil (lines_text G p.lines) ∙ ap (lines_text G) (sym e.1));
      one = λ w hw g.
          let texts : map G.text (G.lines w) ≡ map G.text p.lines =
          sym (whole_value G w hw) ∙ (ap whole_lines (sym g) ∙ (whole_text G text place (G.whole v) [] p ∙ append-nil (map G.text p.lines))) in
          let same = lines_one G (G.lines w) p.lines (G.hold w hw) p.holds texts in
          G.one w v (same_draft G (G.whole w) (G.whole v) p.lines (ap (after G.taken G.first) (sym same) ∙ G.reach w hw) p.reached);
    }

-- ---- a line that is refused

-- Line n is the first with which no value's text agrees.
pub record IsRefused {L D V : Type 0} (G : Language L D V) (text : List ℕ) (n : ℕ) : Type 0 where
  pub place : 1 ≤ n
  pub front : (v : V) × G.Is v × Agrees (n - 1) text (text_of G v)
  pub none : (v : V) → G.Is v → Agrees n text (text_of G v) → ⊥
  pub other : (v : V) → G.Is v → text ≢ text_of G v

-- The front of a text agrees with the value that it may still be.
front_agrees : {L D V : Type 0} (G : Language L D V) (text : List ℕ) (place : ℕ) (d : D) (rest : List ℕ) → Passed G text place d rest
    → (v : V) × G.Is v × Agrees (place - 1) text (text_of G v)
front_agrees G text place d rest p =
    let c = G.completes p.lines d p.holds p.reached in
    let v = c.0 in
    let place_is : place ≡ length p.lines + 1 = p.place_is in
    let n : place - 1 ≡ length (map G.text p.lines) = omega (arith, length-map p.lines G.text) in
    let mine = whole_text G text place d rest p in
    let script : whole_lines (text_of G v) ≡ map G.text p.lines ++ map G.text c.2.0 =
    whole_value G v c.1 ∙ (ap (map G.text) c.2.1 ∙ map-append G.text p.lines c.2.0) in
    let same : take (length (map G.text p.lines)) (whole_lines text) ≡ take (length (map G.text p.lines)) (whole_lines (text_of G v)) =
    ap (take (length (map G.text p.lines))) mine ∙ (take-append_seam (map G.text p.lines) (whole_lines rest)
    ∙ sym (ap (take (length (map G.text p.lines))) script ∙ take-append_seam (map G.text p.lines) (map G.text c.2.0))) in
    let many : length (whole_lines text) ≡ length (map G.text p.lines) + length (whole_lines rest) =
    ap (length {A = List ℕ}) mine ∙ length-append (map G.text p.lines) (whole_lines rest) in
    (v, c.1, (omega arith, subst (λ (k : ℕ). take k (whole_lines text) ≡ take k (whole_lines (text_of G v))) (sym n) same))

-- The next line of a value that goes on with what was read is taken.
next_taken : {L D V : Type 0} (G : Language L D V) (d : D) (xs ys : List L) (w : List ℕ) (e : D) → after G.taken G.first xs ≡ Some d
    → after G.taken G.first ys ≡ Some e → Continues G xs ys w → (x : L) × (f : D) × (G.line_of w ≡ Some x) × (G.taken d x ≡ Some f)
next_taken G d xs ys w e p q c =
    let run : after G.taken d (c.next ∷ c.later) ≡ Some e =
    sym (after_append G.taken G.first d xs (c.next ∷ c.later) p) ∙ (ap (after G.taken G.first) (sym c.parts) ∙ q) in
    let f = first_taken G.taken d e c.next c.later run in
    (c.next, f.0, ap G.line_of (sym c.text) ∙ G.read c.next c.holds, f.1)

never : {L D V : Type 0} (G : Language L D V) (d : D) (rest w : List ℕ) (x : L) (f : D) → (length w ≡ length rest → ⊥) → w ≡ before_first is_line_feed rest
    → G.line_of w ≡ Some x → G.taken d x ≡ Some f → read_one G.taken G.line_of d rest ≡ None → ⊥
never {D = D} G d rest w x f other is l t h =
    let long : eqb (length (before_first is_line_feed rest)) (length rest) ≡ false =
    tested (eqb (length (before_first is_line_feed rest)) (length rest)) refl in
    let on : goes_on G.taken d (G.line_of (before_first is_line_feed rest)) ≡ Some f = ap (goes_on G.taken d) (ap G.line_of (sym is) ∙ l) ∙ t in
    let given : read_one G.taken G.line_of d rest ≡ Some (f, after_first is_line_feed rest) =
    rw long (ap (option_map (λ e. (e, after_first is_line_feed rest))) on) in
    let both : ◌≡◌ {A = Option (D × List ℕ)} (Some (f, after_first is_line_feed rest)) None = sym given ∙ h in
    cc both
  where
    tested : (b : Bool) → eqb (length (before_first is_line_feed rest)) (length rest) ≡ b → b ≡ false
    tested false e = refl
    tested true e =
        let same : length (before_first is_line_feed rest) ≡ length rest = grind (arith, nat_tests) in
        absurd (other (ap (length {A = ℕ}) is ∙ same))

no_agreement : {L D V : Type 0} (G : Language L D V) (text : List ℕ) (place : ℕ) (d : D) (rest : List ℕ) → Passed G text place d rest
    → read_one G.taken G.line_of d rest ≡ None → (v : V) → G.Is v → Agrees place text (text_of G v) → ⊥
no_agreement G text place d rest p h v hv a =
    let mine = whole_text G text place d rest p in
    let many : length (whole_lines text) ≡ length p.lines + length (whole_lines rest) =
    ap (length {A = List ℕ}) mine ∙ (length-append (map G.text p.lines) (whole_lines rest) ∙ ap (λ (n : ℕ). n + length (whole_lines rest)) (length-map p.lines G.text)) in
    let place_is : place ≡ length p.lines + 1 = p.place_is in
    let enough : place ≤ length (whole_lines text) = a.0 in
    let long : length (before_first is_line_feed rest) ≡ length rest → ⊥ =
    λ e. let none : length (whole_lines rest) ≡ 0 = ap (length {A = List ℕ}) (whole_none rest e) in omega arith in
    let cut = whole_cut rest long in
    let n : place ≡ suc (length p.lines) = omega arith in
    let same : take (suc (length p.lines)) (map G.text p.lines ++ before_first is_line_feed rest ∷ whole_lines (after_first is_line_feed rest))
    ≡ take (suc (length p.lines)) (map G.text (G.lines v)) =
    ap (λ (l : List (List ℕ)). take (suc (length p.lines)) (map G.text p.lines ++ l)) (sym cut)
    ∙ (ap (take (suc (length p.lines))) (sym mine)
    ∙ (subst (λ (k : ℕ). take k (whole_lines text) ≡ take k (whole_lines (text_of G v))) n a.1
    ∙ ap (take (suc (length p.lines))) (whole_value G v hv))) in
    let c = continues G p.lines (G.lines v) (before_first is_line_feed rest) (whole_lines (after_first is_line_feed rest)) p.holds (G.hold v hv) same in
    let t = next_taken G d p.lines (G.lines v) (before_first is_line_feed rest) (G.whole v) p.reached (G.reach v hv) c in
    never G d rest (before_first is_line_feed rest) t.0 t.1 long refl t.2 t.3 h

-- A draft with this rest is no value.
abbrev pub Unended : {L D V : Type 0} → Language L D V → D → List ℕ → Type 0
Unended {V = V} G d rest = (v : V) → d ≡ G.whole v → rest ≡ [] → ⊥

no_text : {L D V : Type 0} (G : Language L D V) (text : List ℕ) (place : ℕ) (d : D) (rest : List ℕ) → Passed G text place d rest
    → read_one G.taken G.line_of d rest ≡ None → Unended G d rest → (v : V) → G.Is v → text ≡ text_of G v → ⊥
no_text G text place d rest p h u v hv e = by_lines (whole_lines rest) refl
  where
    by_lines : (ls : List (List ℕ)) → whole_lines rest ≡ ls → ⊥
    by_lines [] is =
        let texts : map G.text (G.lines v) ≡ map G.text p.lines =
        sym (whole_value G v hv) ∙ (ap whole_lines (sym e) ∙ (whole_text G text place d rest p
        ∙ (ap (λ (l : List (List ℕ)). map G.text p.lines ++ l) is ∙ append-nil (map G.text p.lines)))) in
        let same = lines_one G (G.lines v) p.lines (G.hold v hv) p.holds texts in
        let d_is : d ≡ G.whole v =
        same_draft G d (G.whole v) p.lines p.reached (ap (after G.taken G.first) (sym same) ∙ G.reach v hv) in
        let nothing : rest ≡ [] = append_cancel_left (lines_text G p.lines) rest []
        (sym p.spelled ∙ (e ∙ (ap (lines_text G) same ∙ sym (append-nil (lines_text G p.lines))))) in
        u v d_is nothing
    by_lines (l ∷ ls) is =
        let mine = whole_text G text place d rest p in
        let many : length (whole_lines text) ≡ length p.lines + length (whole_lines rest) =
        ap (length {A = List ℕ}) mine ∙ (length-append (map G.text p.lines) (whole_lines rest) ∙ ap (λ (n : ℕ). n + length (whole_lines rest)) (length-map p.lines G.text)) in
        let some : length (whole_lines rest) ≡ suc (length ls) = ap (length {A = List ℕ}) is in
        let place_is : place ≡ length p.lines + 1 = p.place_is in
        no_agreement G text place d rest p h v hv (omega arith, ap (λ (t : List ℕ). take place (whole_lines t)) e)

-- The next line is refused.
pub refused : {L D V : Type 0} (G : Language L D V) (text : List ℕ) (place : ℕ) (d : D) (rest : List ℕ) → Passed G text place d rest
    → read_one G.taken G.line_of d rest ≡ None → Unended G d rest → IsRefused G text place
refused G text place d rest p h u =
    let place_is : place ≡ length p.lines + 1 = p.place_is in
    record {
      place = omega arith;
      front = front_agrees G text place d rest p;
      none = no_agreement G text place d rest p h;
      other = no_text G text place d rest p h u;
    }

-- Behind the last line there is none.
pub none_left : {L D V : Type 0} (G : Language L D V) (d : D) → read_one G.taken G.line_of d [] ≡ None
none_left G d = refl

-- Where text is left the draft is not ended.
pub some_left : {L D V : Type 0} (G : Language L D V) (d : D) (rest : List ℕ) → (length rest ≡ 0 → ⊥) → Unended G d rest
some_left G d rest h v is e = h (ap (length {A = ℕ}) e)

-- A text that ends before its draft is a value is refused at the line that would come next.
pub stops : {L D V : Type 0} (G : Language L D V) (text : List ℕ) (place : ℕ) (d : D) (rest : List ℕ) → Passed G text place d rest → length rest ≡ 0
    → ((v : V) → d ≡ G.whole v → ⊥) → IsRefused G text place
stops G text place d [] p h n = refused G text place d [] p (none_left G d) (λ v is e. n v is)
stops G text place d (c ∷ rest) p h n = absurd (omega arith)

-- A draft that is a value, with nothing behind it.
pub finishes : {L D V : Type 0} (G : Language L D V) (text : List ℕ) (place : ℕ) (rest : List ℕ) (v : V) → Passed G text place (G.whole v) rest → length rest ≡ 0
    → IsText G text v
finishes G text place [] v p h = is_text G text place v p
finishes G text place (c ∷ rest) v p h = absurd (omega arith)
