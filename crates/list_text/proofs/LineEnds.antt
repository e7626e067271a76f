-- The lines of a text are those that make it up.
use Rattle.std.proofs.Common.{◌≡◌, ℕ, ◌≤◌, List, [], ◌∷◌, ◌++◌, length, Bool, true, false, cond, refl, ap, arith, inl, inr, ◌∙◌, subst}
use Rattle.std.specs.List.{AllByRecursion, onto_first}
use Rattle.std.proofs.lemmas.Bool.Decides.{nat_tests}
use Rattle.list_text.specs.Lines.{is_line_feed, lines}
use Rattle.list_text.specs.Laws.{ended, unended, last_line, HasNoFeed, AreLines, TextsAreLines}

feed_is : (c : ℕ) → is_line_feed c ≡ true → c ≡ 10
feed_is c h = grind (arith, nat_tests)

-- An LF before a text is an empty line before its lines.
feed : (c : ℕ) (cs : List ℕ) (ls : List (List ℕ)) → c ≡ 10 → AreLines cs ls → AreLines (c ∷ cs) ([] ∷ ls)
feed c cs [] p s = record {
  without = (tt, s.without);
  joined = elim s.joined [
    | inl e ↦ inl (λ i. p i ∷ e i)
    | inr e ↦ absurd (let w : 1 ≤ 0 = e.1 in omega arith)
  ];
}
feed c cs (l ∷ ls) p s = record {
  without = (tt, s.without);
  joined = elim s.joined [
    | inl e ↦ inl (λ i. p i ∷ e i)
    | inr e ↦ inr ((λ i. p i ∷ e.0 i), e.1)
  ];
}

-- Another byte is the first of the first line.
byte : (c : ℕ) (cs : List ℕ) (ls : List (List ℕ)) → is_line_feed c ≡ false → AreLines cs ls → AreLines (c ∷ cs) (onto_first c ls)
byte c cs [] h s = record {
  without = ((h, tt), tt);
  joined = elim s.joined [
    | inl e ↦ inr (ap (λ z. c ∷ z) e, omega arith)
    | inr e ↦ absurd (let w : 1 ≤ 0 = e.1 in omega arith)
  ];
}
byte c cs (l ∷ []) h s = record {
  without = ((h, s.without.0), tt);
  joined = elim s.joined [
    | inl e ↦ inl (ap (λ z. c ∷ z) e)
    | inr e ↦ inr (ap (λ z. c ∷ z) e.0, let w : 1 ≤ length l = e.1 in omega arith)
  ];
}
byte c cs (l ∷ m ∷ ls) h s = record {
  without = ((h, s.without.0), s.without.1);
  joined = elim s.joined [
    | inl e ↦ inl (ap (λ z. c ∷ z) e)
    | inr e ↦ inr (ap (λ z. c ∷ z) e.0, e.1)
  ];
}

more : (c : ℕ) (cs : List ℕ) (ls : List (List ℕ)) (b : Bool) → is_line_feed c ≡ b → AreLines cs ls → AreLines (c ∷ cs) (cond b ([] ∷ ls) (onto_first c ls))
more c cs ls true h s = feed c cs ls (feed_is c h) s
more c cs ls false h s = byte c cs ls h s

are_lines : (text : List ℕ) → AreLines text (lines text)
are_lines [] = record { without = tt; joined = inl refl }
are_lines (c ∷ cs) = more c cs (lines cs) (is_line_feed c) refl (are_lines cs)

-- Lines read back.
read_ended : (line rest : List ℕ) → HasNoFeed line → lines (line ++ 10 ∷ rest) ≡ line ∷ lines rest
read_ended [] rest h = refl
read_ended (c ∷ cs) rest h = rw h.0 (rw (read_ended cs rest h.1) refl)

read_last : (line : List ℕ) → HasNoFeed line → 1 ≤ length line → lines line ≡ line ∷ []
read_last [] h some = absurd (omega arith)
read_last (c ∷ []) h some = rw h.0 refl
read_last (c ∷ d ∷ cs) h some = rw h.0 (rw (read_last (d ∷ cs) h.1 (omega arith)) refl)

all_ended : (texts : List (List ℕ)) → AllByRecursion HasNoFeed texts → lines (ended texts) ≡ texts
all_ended [] h = refl
all_ended (line ∷ later) h = read_ended line (ended later) h.0 ∙ ap (λ z. line ∷ z) (all_ended later h.1)

all_unended : (texts : List (List ℕ)) → AllByRecursion HasNoFeed texts → 1 ≤ length (last_line texts) → lines (unended texts) ≡ texts
all_unended [] h some = absurd (omega arith)
all_unended (line ∷ []) h some = read_last line h.0 some
all_unended (line ∷ next ∷ later) h some =
    read_ended line (unended (next ∷ later)) h.0 ∙ ap (λ z. line ∷ z) (all_unended (next ∷ later) h.1 some)

read_back : (text : List ℕ) (texts : List (List ℕ)) → AreLines text texts → lines text ≡ texts
read_back text texts s = elim s.joined [
  | inl e ↦ ap lines e ∙ all_ended texts s.without
  | inr e ↦ ap lines e.0 ∙ all_unended texts s.without e.1
]

-- A text has one list of lines: those that make it up.
pub texts_are_lines : TextsAreLines
texts_are_lines text texts = ((λ h. subst (AreLines text) h (are_lines text)), read_back text texts)
