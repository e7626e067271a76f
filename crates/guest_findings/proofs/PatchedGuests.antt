-- A guest that was patched on a desk of its own.
use Rattle.std.proofs.Common.{◌≡◌, ℕ, ◌==◌, true, List, [], length, Option, Some, None, Ok, Err, refl, sym, ap, ◌∙◌, subst}
use Rattle.std.proofs.lemmas.Bool.{cond-true}
use Rattle.pun_base.specs.Shown.{Files, DeskState}
use Rattle.pun_base.specs.declared.action.Action.TheVariants.{Count}
use Rattle.pun_base.specs.Desk.{Fills}
use Rattle.pun_base.specs.MemDesk.{MemDeskState, new_desk, held_by, seen_desk}
use Rattle.pun_base.proofs.HeldFiles.{bytes_eq-same}
use Rattle.elf_emit.specs.declared.emit.EmitError.TheVariants as emit
use Rattle.patch_report.specs.Values.{ReportValue}
use Rattle.rewrite_core.specs.declared.rewrite.RewriteError.{RewriteError}
use Rattle.rewrite_core.specs.declared.rewrite.RewriteError.TheVariants as rewrite
use Rattle.rewrite_core.specs.Asked.{Asked}
use Rattle.rewrite_core.specs.Judging.{Judges}
use Rattle.rewrite_core.specs.Rewrites.{Rewrites, file_of}
use Rattle.rewrite_core.specs.Followed.{IsFollowed}
use Rattle.guest_gen.specs.Views.{GuestParts}
use Rattle.guest_findings.specs.Generating.{asked_of, IsReady, IsPatch}

-- what is handed on is what is asked of a guest
pub handed : (g : GuestParts) (file starts sites : List ℕ) → file ≡ g.file → starts ≡ g.starts → sites ≡ g.sites
    → record { file = file; starts = starts; sites = sites; action = Count; reserves = [] } ≡ asked_of g
handed g file starts sites p q r = λ i. record { file = p i; starts = q i; sites = r i; action = Count; reserves = [] }

-- on a sure desk, what isn't refused can only want memory
wants_memory : (a : Asked) (name : List ℕ) (s t : DeskState) (e : RewriteError) → s.sure ≡ true
    → ((error : RewriteError) → Judges a (Err error) → ⊥) → Rewrites a name s t (Err e) → e ≡ rewrite.Memory
wants_memory a name s t rewrite.Memory sure u r = refl
wants_memory a name s t (rewrite.Emit emit.WriteFault) sure u r = absurd (r.2.counts.cause.1 sure)
wants_memory a name s t e sure u r = absurd (u e r.0)

-- so it is with a guest, on an empty desk
pub guest_memory : (g : GuestParts) (a : Asked) (name : List ℕ) (d e : MemDeskState) (error : RewriteError) → IsReady g → a ≡ asked_of g
    → d ≡ new_desk [] → Rewrites a name (seen_desk d) (seen_desk e) (Err error) → error ≡ rewrite.Memory
guest_memory g a name d e error h same empty r =
    wants_memory (asked_of g) name (seen_desk d) (seen_desk e) error (ap (λ (x : MemDeskState). length x.fails == 0) empty) h.unrefused
    (subst (λ (x : Asked). Rewrites x name (seen_desk d) (seen_desk e) (Err error)) same r)

-- the name holds the file that was written
held_file : (d e : MemDeskState) (name bytes : List ℕ) → Fills name bytes (seen_desk d) (seen_desk e) (Ok tt)
    → held_by e.files name ≡ Some bytes
held_file d e name bytes f = ap (λ (files : Files). files name) f.held ∙ cond-true _ _ _ (bytes_eq-same name)

-- it holds some file
pub holds_some : (a : Asked) (name : List ℕ) (d e : MemDeskState) (report : ReportValue)
    → Rewrites a name (seen_desk d) (seen_desk e) (Ok report)
    → ◌≡◌ {A = Option (List ℕ)} None (held_by e.files name) → ⊥
holds_some a name d e report r h = let f = held_file d e name (file_of r.0) r.2.holds in absurd cc

-- what it holds is the patched file
pub guest_patched : (g : GuestParts) (a : Asked) (name out : List ℕ) (d e : MemDeskState) (report : ReportValue) → a ≡ asked_of g
    → Rewrites a name (seen_desk d) (seen_desk e) (Ok report) → Some out ≡ held_by e.files name → IsPatch (asked_of g) out report
guest_patched g a name out d e report same r h =
    let f = held_file d e name (file_of r.0) r.2.holds in
    let q : out ≡ file_of r.0 = cc in
    let p : IsPatch a out report =
    record {
      job = r.0;
      judged = r.1;
      out_is = q;
      report_is = r.2.report_is;
      followed = subst (λ (o : List ℕ). IsFollowed a.file a.starts o report) (sym q) r.2.followed;
    } in
    subst (λ (x : Asked). IsPatch x out report) same p
