-- A line of a script with deliveries: it is read from its text, a text that is read is its text, and no LF is in it.
use Rattle.std.proofs.Common.{◌≡◌, ℕ, ◌+◌, ◌^◌, ◌<◌, Bool, true, false, cond, List, ◌∷◌, ◌++◌, Option, Some, None, refl, ap, sym, ◌∙◌, subst, arith}
use Rattle.std.specs.Prelude.{codes, option_map}
use Rattle.std.specs.Str.{bytes_eq}
use Rattle.std.proofs.lemmas.Slice.Eq.{bytes_eq-Decides}
use Rattle.list_text.specs.Blanks.{word, later_words}
use Rattle.image_step.specs.declared.line.Line.{Line}
use Rattle.image_step.specs.declared.scenario_line.ScenarioLine.{ScenarioLine}
use Rattle.image_step.specs.declared.scenario_line.ScenarioLine.TheVariants.{Second, Due as DueLine, Rip, Plain}
use Rattle.image_step.specs.Reading.{line_behind, line_of, name_in, number_in, value_in}
use Rattle.image_step.specs.ScenarioReading.{counted, numbered_in, or_other, other_line, scenario_line_of}
use Rattle.image_step.specs.ScenarioText.{ScenarioLineHolds, scenario_line_text}
use Rattle.image_step.specs.Spelling.{hex16, name}
use Rattle.image_step.proofs.LineSpellings.{kept, line_spelled}
use Rattle.image_step.proofs.Lines.{line_above}
use Rattle.image_step.proofs.Numbers.{number_above, number_read, number_small}
use Rattle.image_step.proofs.ReadBack.{behind_word, front_word, line_read}
use Rattle.image_step.proofs.Words.{Above, above_less}

-- ---- a word and a number

abbrev numbered : List ℕ → ℕ → List ℕ
numbered kind n = kind ++ (32 ∷ hex16 n)

numbered_read : (kind : List ℕ) (n : ℕ) → n < 2 ^ 64 → numbered_in (numbered kind n) kind (hex16 n) ≡ Some n
unfolding numbered_in
numbered_read kind n h =
    let same : bytes_eq (numbered kind n) (numbered kind n) ≡ true = (bytes_eq-Decides (numbered kind n) (numbered kind n)).1 refl in
    rw (number_read n h) (rw same refl)

counted_spelled : (text kind : List ℕ) (o : Option ℕ) (n : ℕ) → counted text kind o ≡ Some n → (o ≡ Some n) × (text ≡ numbered kind n)
counted_spelled text kind None n e = absurd cc
counted_spelled text kind (Some m) n e =
    let k = kept (bytes_eq (numbered kind m) text) m n e in
    let same : numbered kind m ≡ text = (bytes_eq-Decides (numbered kind m) text).0 k.0 in
    (ap (λ (i : ℕ). Some i) k.1, sym same ∙ ap (numbered kind) k.1)

numbered_spelled : (text kind later : List ℕ) (n : ℕ) → numbered_in text kind later ≡ Some n → (n < 2 ^ 64) × (text ≡ numbered kind n)
unfolding numbered_in
numbered_spelled text kind later n e =
    let s = counted_spelled text kind (number_in later) n e in
    (number_small later n s.0, s.1)

-- ---- read

plain_due : Above 32 (codes "due")
plain_due = (omega arith, (omega arith, (omega arith, tt)))

plain_rip : Above 32 (codes "rip")
plain_rip = (omega arith, (omega arith, (omega arith, tt)))

due_unnamed : name_in (codes "due") ≡ None
unfolding name_in name
due_unnamed = refl

rip_unnamed : name_in (codes "rip") ≡ None
unfolding name_in name
rip_unnamed = refl

due_kind : (text : List ℕ) → line_behind (codes "due") text ≡ None
unfolding line_behind value_in
due_kind text = rw due_unnamed refl

rip_kind : (text : List ℕ) → line_behind (codes "rip") text ≡ None
unfolding line_behind value_in
rip_kind text = rw rip_unnamed refl

-- A script without deliveries has no such lines.
no_line : (kind : List ℕ) (n : ℕ) → Above 32 kind → ((text : List ℕ) → line_behind kind text ≡ None) → line_of (numbered kind n) ≡ None
unfolding line_of
no_line kind n a h =
    rw (front_word kind (hex16 n) a) (rw (behind_word kind (hex16 n) a) (rw (h (hex16 n)) refl))

due_read : (n : ℕ) → n < 2 ^ 64 → scenario_line_of (numbered (codes "due") n) ≡ Some (DueLine n)
unfolding other_line
due_read n h =
    rw (no_line (codes "due") n plain_due due_kind) (rw (front_word (codes "due") (hex16 n) plain_due)
    (rw (behind_word (codes "due") (hex16 n) plain_due) (rw (numbered_read (codes "due") n h) refl)))

rip_read : (n : ℕ) → n < 2 ^ 64 → scenario_line_of (numbered (codes "rip") n) ≡ Some (Rip n)
unfolding other_line
rip_read n h =
    rw (no_line (codes "rip") n plain_rip rip_kind) (rw (front_word (codes "rip") (hex16 n) plain_rip)
    (rw (behind_word (codes "rip") (hex16 n) plain_rip) (rw (numbered_read (codes "rip") n h) refl)))

second_read : scenario_line_of (codes "e9world 2") ≡ Some Second
unfolding line_of line_behind other_line
second_read = refl

-- A line is what its text is read as.
pub scenario_line_read : (x : ScenarioLine) → ScenarioLineHolds x → scenario_line_of (scenario_line_text x) ≡ Some x
scenario_line_read Second h = second_read
scenario_line_read (DueLine n) h = due_read n h
scenario_line_read (Rip n) h = rip_read n h
scenario_line_read (Plain x) h = ap (or_other (scenario_line_text (Plain x))) (line_read x h)

-- ---- spelled

abbrev Spelled : List ℕ → ScenarioLine → Type 0
Spelled text x = ScenarioLineHolds x × (text ≡ scenario_line_text x)

mapped_spelled : (text kind later : List ℕ) (f : ℕ → ScenarioLine) (o : Option ℕ) (x : ScenarioLine) → numbered_in text kind later ≡ o → option_map f o ≡ Some x
    → ((n : ℕ) → n < 2 ^ 64 → text ≡ numbered kind n → Spelled text (f n)) → Spelled text x
mapped_spelled text kind later f None x is e g = absurd cc
mapped_spelled text kind later f (Some n) x is e g =
    let s = numbered_spelled text kind later n is in
    let same : f n ≡ x = cc in
    subst (Spelled text) same (g n s.0 s.1)

other_spelled : (text kind later : List ℕ) (x : ScenarioLine) → other_line text kind later ≡ Some x → Spelled text x
unfolding other_line
other_spelled text kind later x e = by_due (bytes_eq kind (codes "due")) refl e
  where
    by_second : (b : Bool) → bytes_eq text (codes "e9world 2") ≡ b → cond b (Some Second) None ≡ Some x → Spelled text x
    by_second true is h =
        let same : Second ≡ x = cc in
        subst (Spelled text) same (tt, (bytes_eq-Decides text (codes "e9world 2")).0 is)
    by_second false is h = absurd cc

    by_rip : (b : Bool) → bytes_eq kind (codes "rip") ≡ b
        → cond b (option_map Rip (numbered_in text kind later)) (cond (bytes_eq text (codes "e9world 2")) (Some Second) None) ≡ Some x → Spelled text x
    by_rip true is h =
        let same : kind ≡ codes "rip" = (bytes_eq-Decides kind (codes "rip")).0 is in
        mapped_spelled text kind later Rip (numbered_in text kind later) x refl h (λ n small t. (small, t ∙ ap (λ (k : List ℕ). numbered k n) same))
    by_rip false is h = by_second (bytes_eq text (codes "e9world 2")) refl h

    by_due : (b : Bool) → bytes_eq kind (codes "due") ≡ b
        → cond b (option_map DueLine (numbered_in text kind later))
        (cond (bytes_eq kind (codes "rip")) (option_map Rip (numbered_in text kind later)) (cond (bytes_eq text (codes "e9world 2")) (Some Second) None)) ≡ Some x
        → Spelled text x
    by_due true is h =
        let same : kind ≡ codes "due" = (bytes_eq-Decides kind (codes "due")).0 is in
        mapped_spelled text kind later DueLine (numbered_in text kind later) x refl h (λ n small t. (small, t ∙ ap (λ (k : List ℕ). numbered k n) same))
    by_due false is h = by_rip (bytes_eq kind (codes "rip")) refl h

-- A text that is read is the text of what it is read as.
pub scenario_line_spelled : (text : List ℕ) (x : ScenarioLine) → scenario_line_of text ≡ Some x → Spelled text x
scenario_line_spelled text x e = by_line (line_of text) refl e
  where
    by_line : (o : Option Line) → line_of text ≡ o → or_other text o ≡ Some x → Spelled text x
    by_line None is h = other_spelled text (word text) (later_words text) x h
    by_line (Some y) is h =
        let s = line_spelled text y is in
        let same : Plain y ≡ x = cc in
        subst (Spelled text) same (s.0, s.1)

-- ---- no line feed

number_low : (n : ℕ) → Above 10 (hex16 n)
number_low n = above_less 10 32 (hex16 n) (omega arith) (number_above n)

-- No character of a line is a line feed.
pub scenario_line_above : (x : ScenarioLine) → ScenarioLineHolds x → Above 10 (scenario_line_text x)
scenario_line_above Second h =
    (omega arith, (omega arith, (omega arith, (omega arith, (omega arith, (omega arith, (omega arith, (omega arith, (omega arith, tt)))))))))
scenario_line_above (DueLine n) h = (omega arith, (omega arith, (omega arith, (omega arith, number_low n))))
scenario_line_above (Rip n) h = (omega arith, (omega arith, (omega arith, (omega arith, number_low n))))
scenario_line_above (Plain x) h = line_above x h
