-- Rows and the list of their sites: which row is a site's, and which site is new.
use Rattle.std.proofs.Common.{◌≡◌, ℕ, zero, suc, ◌+◌, ◌<◌, Bool, true, false, not, ◌&&◌, ◌||◌, cond, eqb, nat_lt, List, [], ◌∷◌, ◌++◌, length, take, get_or, map, slice_get, Option, Some, None, option_map, refl, sym, ap, subst, ◌∙◌, append-nil, append_assoc, arith}
use Rattle.std.specs.List.{list_any, find, position, position_or_len}
use Rattle.std.proofs.lemmas.List.{map-append}
use Rattle.std.proofs.lemmas.List.Folds.{find_at}
use Rattle.indexmap.specs.IndexSet.{insert_key}
use Rattle.patch_report.specs.declared.row.ReportRow.{ReportRow}
use Rattle.patch_report.specs.Grammar.{is_new, SitesApart}
use Rattle.patch_report.specs.Rows.{row_of, row_with, sites_of}
use Rattle.patch_report.specs.Values.{RowValue, row_value}

-- A site stands among the rows' sites where its row stands.
same_place : (site : ℕ) (rs : List ReportRow) → position_or_len (eqb site) (sites_of rs) ≡ position_or_len (λ r. eqb site r.site) rs
same_place site [] = refl
same_place site (r ∷ rs) = ap (λ n. cond (not (eqb site r.site)) (1 + n) 0) (same_place site rs)

-- The row of a site is the first one with it.
first_row : (site : ℕ) (rs : List ReportRow) → find (λ r. eqb site r.site) rs ≡ row_with site rs
first_row site [] = refl
first_row site (r ∷ rs) = ap (cond (eqb site r.site) (Some r)) (first_row site rs)

-- What a place that was found is.
place_is : (b : Bool) (n i : ℕ) → Some i ≡ cond b (Some n) None → i ≡ n
place_is true n i e = cc
place_is false n i e = absurd cc

-- So the row at the place of a site is its row.
pub row_at_place : (site i : ℕ) (rs : List ReportRow) → Some i ≡ position (eqb site) (sites_of rs) → slice_get rs i ≡ row_with site rs
row_at_place site i rs e =
    let n = position_or_len (eqb site) (sites_of rs) in
    ap (slice_get rs) (place_is (nat_lt n (length (sites_of rs))) n i e ∙ same_place site rs)
    ∙ sym (find_at (λ r. eqb site r.site) rs) ∙ first_row site rs

-- A site is among the rows' sites exactly where it isn't new.
pub is_old : (site : ℕ) (rs : List ReportRow) → list_any (eqb site) (sites_of rs) ≡ not (is_new site (map row_value rs))
is_old site [] = refl
is_old site (r ∷ rs) = split (eqb site r.site) (is_old site rs)
  where
    split : (b : Bool) → list_any (eqb site) (sites_of rs) ≡ not (is_new site (map row_value rs))
        → (b || list_any (eqb site) (sites_of rs)) ≡ not (not b && is_new site (map row_value rs))
    split true e = refl
    split false e = e

-- A site that isn't among them has no row.
pub none_without : (site : ℕ) (rs : List ReportRow) → list_any (eqb site) (sites_of rs) ≡ false → row_with site rs ≡ None
none_without site [] h = refl
none_without site (r ∷ rs) h = split (eqb site r.site) (none_without site rs) h
  where
    split : (b : Bool) → (list_any (eqb site) (sites_of rs) ≡ false → row_with site rs ≡ None)
        → (b || list_any (eqb site) (sites_of rs)) ≡ false → cond b (Some r) (row_with site rs) ≡ None
    split true e k = absurd cc
    split false e k = e k

-- The site of a row that is new goes behind the others.
pub site_pushed : (rs : List ReportRow) (r : ReportRow) → is_new r.site (map row_value rs) ≡ true
    → insert_key eqb (sites_of rs) r.site ≡ sites_of (rs ++ r ∷ [])
site_pushed rs r new =
    ap (λ (b : Bool). cond b (sites_of rs) (sites_of rs ++ r.site ∷ [])) (is_old r.site rs ∙ ap not new)
    ∙ sym (map-append (λ (x : ReportRow). x.site) rs (r ∷ []))

-- A row, or what is found behind it, seen as a value.
mapped_here : (b : Bool) (r : ReportRow) (o : Option ReportRow) (p : Option RowValue) → option_map row_value o ≡ p
    → option_map row_value (cond b (Some r) o) ≡ cond b (Some (row_value r)) p
mapped_here true r o p h = refl
mapped_here false r o p h = h

-- The row of a site, seen as a value.
pub mapped_row : (site : ℕ) (rs : List ReportRow) → option_map row_value (row_with site rs) ≡ row_of site (map row_value rs)
mapped_row site [] = refl
mapped_row site (r ∷ rs) = mapped_here (eqb site r.site) r (row_with site rs) (row_of site (map row_value rs)) (mapped_row site rs)

-- Each row's site is none of those before it, where sites are apart.
pub new_at : (rs : List ReportRow) (i : ℕ) (x : ReportRow) (before : List RowValue) → SitesApart before (map row_value rs)
    → i < length rs → x ≡ get_or rs i x → is_new x.site (before ++ map row_value (take i rs)) ≡ true
new_at [] i x before h lt e = absurd (omega arith)
new_at (r ∷ rs) zero x before h lt e =
    let s : is_new x.site before ≡ true = subst (λ (y : ReportRow). is_new y.site before ≡ true) (sym e) h.0 in
    subst (λ (l : List RowValue). is_new x.site l ≡ true) (sym (append-nil before)) s
new_at (r ∷ rs) (suc i) x before h lt e =
    let k : i < length rs = omega arith in
    let s : is_new x.site ((before ++ row_value r ∷ []) ++ map row_value (take i rs))
    ≡ true = new_at rs i x (before ++ row_value r ∷ []) h.1 k e in
    subst (λ (l : List RowValue). is_new x.site l ≡ true) (append_assoc before (row_value r ∷ []) (map row_value (take i rs))) s
