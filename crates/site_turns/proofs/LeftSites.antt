-- What each turn keeps holds before the first turn, and stays where a site is left.
use Rattle.std.proofs.Common.{◌≡◌, ◌<◌, List, [], ◌∷◌, ◌++◌, refl, sym, ap, ◌∙◌, subst₂, append-nil, arith}
use Rattle.std.specs.Option.{is_some}
use Rattle.std.specs.List.{AllByRecursion, flat_map}
use Rattle.std.proofs.lemmas.Bool.{false≢true}
use Rattle.elf_emit.proofs.WrittenTable.{all_append}
use Rattle.patch_report.specs.Values.{RowValue, WriteValue}
use Rattle.sound_images.specs.Reports.{Line, row_lines, runs_of}
use Rattle.site_turns.specs.States.{Scene, State, passed_over}
use Rattle.site_turns.specs.Choices.{Left, row_of}
use Rattle.site_turns.specs.Folded.{IsKept, IsFolded, IsRowOf}
use Rattle.site_turns.specs.Laws.{HoldsFirst, LeftKeeps}
use Rattle.site_turns.proofs.JoinedLists.{gathered, descended}

-- before the first turn all holds that each turn keeps
pub holds_first : HoldsFirst
holds_first g = record {
  kept = record {
    others = λ x h. refl;
    locked = λ x h. absurd (false≢true h);
    tells = tt;
    even = tt;
    apart = λ x. omega arith;
    owned = λ x h. absurd (false≢true h);
    led = tt;
    once = λ x. omega arith;
    taken = tt;
    alone = λ x. omega arith;
    shut = λ x h. h;
  };
  rows = tt;
  descend = tt;
}

-- a site that is left has a row with no trampoline
left_row : (g : Scene) (t : State) (r : RowValue) → IsFolded g t → IsRowOf g.entries r
    → AllByRecursion (λ (q : RowValue). r.site < q.site) t.rows → row_lines r ≡ [] → runs_of r.outcome ≡ []
    → IsFolded g (passed_over t r)
left_row g t r f o b e w = record {
  kept = subst₂ (λ (ls : List Line) (ws : List WriteValue). IsKept g (record { lock = t.lock; taken = t.taken; lines = ls; runs = ws }))
      (sym ls) (sym ws) f.kept;
  rows = all_append (IsRowOf g.entries) t.rows (r ∷ []) f.rows (o, tt);
  descend = descended t.rows r f.descend b;
}
  where
    ls : flat_map row_lines (t.rows ++ r ∷ []) ≡ flat_map row_lines t.rows
    ls = gathered row_lines t.rows r ∙ ap (λ z. flat_map row_lines t.rows ++ z) e ∙ append-nil (flat_map row_lines t.rows)

    ws : flat_map (λ (q : RowValue). runs_of q.outcome) (t.rows ++ r ∷ []) ≡ flat_map (λ (q : RowValue). runs_of q.outcome) t.rows
    ws = gathered (λ (q : RowValue). runs_of q.outcome) t.rows r
        ∙ ap (λ z. flat_map (λ (q : RowValue). runs_of q.outcome) t.rows ++ z) w
        ∙ append-nil (flat_map (λ (q : RowValue). runs_of q.outcome) t.rows)

-- a site that is left keeps it, for whatever reason
pub left_keeps : LeftKeeps
left_keeps g t site n why f h =
    left_row g t (row_of site n (Left why)) f (record { listed = ap is_some h.entry; own = refl }) h.below refl refl
