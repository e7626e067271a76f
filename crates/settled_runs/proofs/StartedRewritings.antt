-- From where a kernel starts it, a rewriting of a settled file follows the original at its base.
use Rattle.std.proofs.Common.{◌≡◌, ◌⊎◌, inl, inr, ℕ, ◌+◌, true, ◌&&◌, leb, ltb, List, Option, Some, None, refl, sym, ap, ◌∙◌}
use Rattle.std.proofs.lemmas.Bool.{true≢false, and_parts, leb-true, ltb-true}
use Rattle.pun_base.specs.Memory.{Cell, Bytes, or_else, joined}
use Rattle.cpu_state.specs.Bytes.{allows}
use Rattle.start_entries.specs.declared.entry.StartEntry.{StartEntry}
use Rattle.start_entries.specs.Standing.{AreEntries}
use Rattle.image_runs.specs.Listed.{is_listed_byte}
use Rattle.patch_report.proofs.ListPlaces.{found, contains_at}
use Rattle.loader_form.specs.Continuing.{GoesOn}
use Rattle.settle.proofs.TakenFiles.{unrefused_is_taken}
use Rattle.settled_runs.specs.Quiet.{ListsStub}
use Rattle.settled_runs.specs.Started.{SettledIsStarted}
use Rattle.settled_runs.proofs.QuietStub.{settled_goes_on}

-- the image holds each listed byte
listed_held : (m : Bytes) (es : List StartEntry) (x : ℕ) → AreEntries m es → is_listed_byte es x ≡ true → allows 1 (m x) ≡ true
listed_held m es x a h =
    let q = found (λ (e : StartEntry). leb e.addr x && ltb x (e.addr + e.len)) es h in
    let k = and_parts (leb q.is.addr x) (ltb x (q.is.addr + q.is.len)) q.passes in
    ((a.each q.is (contains_at es q.place q.is q.at)).executed x (leb-true q.is.addr x k.0) (ltb-true x (q.is.addr + q.is.len) k.1)).0

-- so no further memory does
none_listed : (original patched further : Bytes) (es : List StartEntry) (x : ℕ) → AreEntries original es
    → (joined original patched x ≡ None) ⊎ (further x ≡ None) → is_listed_byte es x ≡ true → further x ≡ None
none_listed original patched further es x a (inr e) h = e
none_listed original patched further es x a (inl e) h =
    absurd (true≢false (sym (listed_held original es x a h) ∙ ap (allows 1) (first_none (original x) (patched x) e)))
  where
    first_none : (c d : Option Cell) → or_else c d ≡ None → c ≡ None
    first_none None d e = refl
    first_none (Some c) d e = absurd cc

pub settled_is_started : SettledIsStarted
settled_is_started b file r readable h w s t n vs ks c =
    let k = unrefused_is_taken b file readable h in
    let on : GoesOn r s t = record { pair = c.pair; follows = λ is y. w.headline s t c.pair is y } in
    let lists : ListsStub b file c.pair.further r.listed = record {
      starts = w.places;
      apart = λ x y. none_listed r.original r.patched c.pair.further r.listed x w.entries (c.pair.apart x) y;
    } in
    settled_goes_on b file r s t n vs ks k.settleable k.placeable w.original w.entry on
    (record { rcx = c.rcx; rdi = c.rdi; vector = c.vector; lists = lists })
