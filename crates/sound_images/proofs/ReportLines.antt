-- What a report tells of each trampoline.
use Rattle.std.proofs.Common.{◌≡◌, ℕ, ◌<◌, length, refl, ap, subst}
use Rattle.pun_base.specs.declared.tramp.Tramp.{Tramp}
use Rattle.patch_report.specs.Values.{BodyValue, RowValue, OutcomeValue, patched, left}
use Rattle.patch_report.specs.Bounds.{IsBounded}
use Rattle.patch_report.proofs.ListPlaces.{In, contains_at, in_map, in_flat, from_map, from_flat}
use Rattle.sound_images.specs.Reports.{Line, tramps_of, row_lines, lines}

-- the row of a trampoline
pub record OfRow (v : BodyValue) (l : Line) : Type 0 where
  pub row : RowValue
  pub in_rows : In v.rows row
  pub tramp : In (tramps_of row.outcome) l.tramp
  pub number : row.number ≡ l.number

-- each trampoline of a report is one of a row
pub of_row : (v : BodyValue) (l : Line) → In (lines v) l → OfRow v l
of_row v l h =
    let q = from_flat row_lines v.rows l h in
    let m = from_map (λ (t : Tramp). record { number = q.0.number; tramp = t }) (tramps_of q.0.outcome) l q.2 in
    record {
      row = q.0;
      in_rows = q.1;
      tramp = subst (λ (z : Line). In (tramps_of q.0.outcome) z.tramp) m.2 m.1;
      number = ap (λ (z : Line). z.number) m.2;
    }

-- each trampoline of a row is one of the report's, with the row's number
pub row_line : (v : BodyValue) (r : RowValue) (t : Tramp) → In v.rows r → In (tramps_of r.outcome) t
    → In (lines v) (record { number = r.number; tramp = t })
row_line v r t h k = in_flat row_lines v.rows r (record { number = r.number; tramp = t }) h
    (in_map (λ (t : Tramp). record { number = r.number; tramp = t }) (tramps_of r.outcome) t k)

-- a number is below the count of rows
pub number_low : (v : BodyValue) (l : Line) → IsBounded v → In (lines v) l → l.number < length v.rows
number_low v l b h = let q = of_row v l h in subst (λ (n : ℕ). n < length v.rows) q.number
    (b.numbers q.row (contains_at v.rows q.in_rows.0 q.row q.in_rows.1))

-- a place is a program's
pub place_low : (v : BodyValue) (l : Line) → IsBounded v → In (lines v) l → l.tramp.place < 0x7FFF0000
place_low v l b h = let q = of_row v l h in by_outcome q.row.outcome refl q.tramp
  where
    by_outcome : (o : OutcomeValue) → (of_row v l h).row.outcome ≡ o → In (tramps_of o) l.tramp → l.tramp.place < 0x7FFF0000
    by_outcome (patched p) e k = let q = of_row v l h in b.tramps q.row p l.tramp (contains_at v.rows q.in_rows.0 q.row q.in_rows.1) e
        (contains_at p.tramps k.0 l.tramp k.1)
    by_outcome (left why) e k = let f = k.1 in absurd cc
