-- Lines that were printed so far, and one more.
use Rattle.std.proofs.Common.{◌≡◌, ℕ, ◌+◌, List, [], ◌∷◌, ◌++◌, map, take, refl, sym, ap, ◌∙◌, append_assoc, append-nil}
use Rattle.std.specs.List.{flat_map}
use Rattle.std.proofs.lemmas.List.{map_push}
use Rattle.std.proofs.lemmas.Grind.{flat_map-append}
use Rattle.patch_report.specs.declared.line.Line.{Line}
use Rattle.patch_report.specs.Values.{RowValue}
use Rattle.patch_report.specs.Spelling.{line_text, lines_text, row_lines}

-- The text of lines and of lines behind them.
pub lines_joined : (xs ys : List Line) → lines_text (xs ++ ys) ≡ lines_text xs ++ lines_text ys
lines_joined [] ys = refl
lines_joined (x ∷ xs) ys =
    ap (λ (t : List ℕ). line_text x ++ 10 ∷ t) (lines_joined xs ys)
    ∙ sym (append_assoc (line_text x) (10 ∷ lines_text xs) (lines_text ys))

regroup : (a b c d : List ℕ) → ((a ++ b) ++ c) ++ d ≡ a ++ (b ++ (c ++ d))
regroup a b c d = simp append_assoc

-- A line more is printed.
pub each_line : {X : Type 0} (f : X → Line) (xs : List X) (i : ℕ) (x : X) (start before mid after : List ℕ)
    → take (i + 1) xs ≡ take i xs ++ x ∷ [] → before ≡ start ++ lines_text (map f (take i xs))
    → mid ≡ before ++ line_text (f x) → after ≡ mid ++ 10 ∷ []
    → after ≡ start ++ lines_text (map f (take (i + 1) xs))
each_line f xs i x start before mid after t hb hm ha =
    let e : lines_text (map f (take (i + 1) xs)) ≡ lines_text (map f (take i xs)) ++ (line_text (f x) ++ 10 ∷ []) =
    ap (λ l. lines_text (map f l)) t ∙ (ap lines_text (map_push f (take i xs) x) ∙ lines_joined (map f (take i xs)) (f x ∷ [])) in
    ha ∙ (ap (λ (l : List ℕ). l ++ 10 ∷ []) hm ∙ (ap (λ (l : List ℕ). (l ++ line_text (f x)) ++ 10 ∷ []) hb
    ∙ (regroup start (lines_text (map f (take i xs))) (line_text (f x)) (10 ∷ []) ∙ ap (λ (l : List ℕ). start ++ l) (sym e))))

-- A row more is printed.
pub each_row : {X : Type 0} (f : X → RowValue) (xs : List X) (i : ℕ) (x : X) (start before after : List ℕ)
    → take (i + 1) xs ≡ take i xs ++ x ∷ [] → before ≡ start ++ lines_text (flat_map row_lines (map f (take i xs)))
    → after ≡ before ++ lines_text (row_lines (f x))
    → after ≡ start ++ lines_text (flat_map row_lines (map f (take (i + 1) xs)))
each_row f xs i x start before after t hb ha =
    let front : List Line = flat_map row_lines (map f (take i xs)) in
    let e : flat_map row_lines (map f (take (i + 1) xs)) ≡ front ++ row_lines (f x) =
    ap (λ l. flat_map row_lines (map f l)) t ∙ (ap (flat_map row_lines) (map_push f (take i xs) x)
    ∙ (flat_map-append row_lines (map f (take i xs)) (f x ∷ []) ∙ ap (λ (l : List Line). front ++ l) (append-nil (row_lines (f x))))) in
    ha ∙ (ap (λ (l : List ℕ). l ++ lines_text (row_lines (f x))) hb
    ∙ (append_assoc start (lines_text front) (lines_text (row_lines (f x)))
    ∙ ap (λ (l : List ℕ). start ++ l) (sym (ap lines_text e ∙ lines_joined front (row_lines (f x))))))

-- Two lists of lines, one after the other.
pub two : (xs ys : List Line) (start a b : List ℕ) → a ≡ start ++ lines_text xs → b ≡ a ++ lines_text ys
    → b ≡ start ++ lines_text (xs ++ ys)
two xs ys start a b ha hb =
    hb ∙ (ap (λ (l : List ℕ). l ++ lines_text ys) ha ∙ (append_assoc start (lines_text xs) (lines_text ys)
    ∙ ap (λ (l : List ℕ). start ++ l) (sym (lines_joined xs ys))))

-- Three lists of lines, one after the other.
pub three : (xs ys zs : List Line) (start a b c : List ℕ) → a ≡ start ++ lines_text xs → b ≡ a ++ lines_text ys
    → c ≡ b ++ lines_text zs → c ≡ start ++ lines_text (xs ++ (ys ++ zs))
three xs ys zs start a b c ha hb hc =
    let e : lines_text (xs ++ (ys ++ zs)) ≡ lines_text xs ++ (lines_text ys ++ lines_text zs) =
    lines_joined xs (ys ++ zs) ∙ ap (λ (l : List ℕ). lines_text xs ++ l) (lines_joined ys zs) in
    hc ∙ (ap (λ (l : List ℕ). l ++ lines_text zs) hb ∙ (ap (λ (l : List ℕ). (l ++ lines_text ys) ++ lines_text zs) ha
    ∙ (regroup start (lines_text xs) (lines_text ys) (lines_text zs) ∙ ap (λ (l : List ℕ). start ++ l) (sym e))))

-- Four of them.
pub four : (ws xs ys zs : List Line) (start a b c d : List ℕ) → a ≡ start ++ lines_text ws → b ≡ a ++ lines_text xs
    → c ≡ b ++ lines_text ys → d ≡ c ++ lines_text zs → d ≡ start ++ lines_text (ws ++ (xs ++ (ys ++ zs)))
four ws xs ys zs start a b c d ha hb hc hd =
    three xs ys zs a b c d hb hc hd ∙ (ap (λ (l : List ℕ). l ++ lines_text (xs ++ (ys ++ zs))) ha
    ∙ (append_assoc start (lines_text ws) (lines_text (xs ++ (ys ++ zs)))
    ∙ ap (λ (l : List ℕ). start ++ l) (sym (lines_joined ws (xs ++ (ys ++ zs))))))
