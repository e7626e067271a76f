-- A patched site is the first line of its row.
use Rattle.std.proofs.Common.{◌≡◌, ℕ, zero, suc, ◌+◌, true, not, ◌&&◌, eqb, List, [], ◌∷◌, Some, refl, sym, ap, ◌∙◌, subst}
use Rattle.std.specs.Prelude.{Contains, slice_get}
use Rattle.std.specs.List.{list_any, AllByRecursion}
use Rattle.std.proofs.lemmas.Bool.{and_parts, eqb-true}
use Rattle.pun_base.specs.declared.tramp.Tramp.{Tramp}
use Rattle.trampoline.specs.Events.{event_length}
use Rattle.patch_report.specs.Values.{BodyValue, RowValue}
use Rattle.patch_report.proofs.ListPlaces.{In, some_is, place_of, from_flat, all_in}
use Rattle.sound_images.specs.Reports.{Line, lines, tramps_of}
use Rattle.sound_images.specs.Rules.{is_own}
use Rattle.sound_images.specs.Rewriting.{Site}
use Rattle.sound_images.specs.Soundness.{first_site, sites_of}
use Rattle.sound_images.proofs.ReportLines.{row_line}

-- a site is the first line of its row
pub record SiteLine (v : BodyValue) (site : Site) : Type 0 where
  pub place : ℕ
  pub line : Line
  pub at : slice_get (lines v) place ≡ Some line
  pub event : line.tramp.event ≡ true
  pub number : line.number ≡ site.number
  pub start : line.tramp.start ≡ site.addr
  pub relocated : line.tramp.place + event_length v.action ≡ site.relocated

-- each patched site is the first line of its row, where each row's first trampoline is its own
pub site_line : (v : BodyValue) (site : Site) → AllByRecursion (λ (r : RowValue). is_own r.site (tramps_of r.outcome) ≡ true) v.rows
    → Contains (sites_of v) site → SiteLine v site
site_line v site own k =
    let p = place_of (sites_of v) site k in
    let q = from_flat (λ (r : RowValue). first_site v.action r (tramps_of r.outcome)) v.rows site p in
    by_tramps q.0 q.1 (tramps_of q.0.outcome) refl (all_in (λ (r : RowValue). is_own r.site
    (tramps_of r.outcome) ≡ true) v.rows q.0 own q.1) q.2
  where
    by_tramps : (r : RowValue) → In v.rows r → (ts : List Tramp) → tramps_of r.outcome ≡ ts
        → is_own r.site (tramps_of r.outcome) ≡ true → In (first_site v.action r (tramps_of r.outcome)) site → SiteLine v site
    by_tramps r h [] e own here = let f = ap (λ (z : List Tramp). slice_get (first_site v.action r z) here.0) e in let g = sym f
        ∙ here.1 in absurd cc
    by_tramps r h (t ∷ ts) e own here =
        let own2 = ap (is_own r.site) (sym e) ∙ own in
        let a = and_parts (eqb t.start r.site && t.event) (not (list_any (λ (u : Tramp). u.event) ts)) own2 in
        let b = and_parts (eqb t.start r.site) t.event a.0 in
        let ln = row_line v r t h (subst (λ (z : List Tramp). In z t) (sym e) (0, refl)) in
        let first = subst (λ (z : List Tramp). In (first_site v.action r z) site) e here in
        let is = only (record { number = r.number; addr = r.site; place = t.place; relocated = t.place + event_length v.action }) first in
        record {
          place = ln.0;
          line = record { number = r.number; tramp = t };
          at = ln.1;
          event = b.1;
          number = ap (λ (z : Site). z.number) is;
          start = eqb-true t.start r.site b.0 ∙ ap (λ (z : Site). z.addr) is;
          relocated = ap (λ (z : Site). z.relocated) is;
        }
      where
        only : (x : Site) → In (x ∷ []) site → x ≡ site
        only x (zero, e) = some_is x site e
        only x (suc i, e) = absurd cc
