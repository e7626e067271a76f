-- The starts that are built are read: each form has its length.
use Rattle.std.proofs.Common.{◌≡◌, ◌⊎◌, inl, inr, ℕ, Bool, true, false, List, [], ◌∷◌, Some, sym, ◌∙◌, subst}
use Rattle.std.specs.Prelude.{Contains}
use Rattle.std.specs.List.{AllByRecursion, find}
use Rattle.std.proofs.lemmas.Bool.{cases_Bool, cond-true, cond-false}
use Rattle.std.proofs.lemmas.List.Elements.{All-contains_itself, All-weaker, recursion_from_All}
use Rattle.start_entries.specs.declared.entry.StartEntry.{StartEntry}
use Rattle.start_entries.specs.Laws.{IsBuilt}
use Rattle.start_entries.specs.Listed.{IsSpelledEntry}
use Rattle.start_entries.proofs.BuiltEntries.{listed_spelled}

-- each entry of a built list has its length from a spelling of its form
pub built_spelled : (file : List ℕ) (es : List StartEntry) → IsBuilt file es → AllByRecursion IsSpelledEntry es
built_spelled file es b =
    recursion_from_All IsSpelledEntry es
    (All-weaker (Contains es) IsSpelledEntry (λ e c. listed_spelled file es e b c) es (All-contains_itself es))

-- what holds of the first entry and of the one found among the rest holds of the one found
found_step : (P : StartEntry → Type 0) (p : StartEntry → Bool) (e : StartEntry) (es : List StartEntry) (f : StartEntry) → P e → (find p es ≡ Some f → P f) → (p e ≡ true) ⊎ (p e ≡ false) → find p (e ∷ es) ≡ Some f → P f
found_step P p e es f h g (inl t) q = let k : Some e ≡ Some f = sym (cond-true (p e) (Some e) (find p es) t) ∙ q in let m : e ≡ f = cc in subst P m h
found_step P p e es f h g (inr t) q = g (sym (cond-false (p e) (Some e) (find p es) t) ∙ q)

-- what is found keeps what all keep
pub found_keeps : (P : StartEntry → Type 0) (p : StartEntry → Bool) (es : List StartEntry) (f : StartEntry) → AllByRecursion P es → find p es ≡ Some f → P f
found_keeps P p [] f h q = absurd cc
found_keeps P p (e ∷ es) f h q = found_step P p e es f h.0 (found_keeps P p es f h.1) (cases_Bool (p e)) q
