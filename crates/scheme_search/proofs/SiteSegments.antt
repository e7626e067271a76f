-- A turn's site stands in a segment of an accepted file.
use Rattle.std.proofs.Common.{◌≡◌, ℕ, ◌+◌, ◌-◌, ◌≤◌, true, List, Option, None, sym, ap, ◌∙◌, subst, arith}
use Rattle.std.specs.Prelude.{Contains}
use Rattle.pun_base.specs.Memory.{Cell}
use Rattle.elf_read.specs.declared.segment.Segment.{Segment}
use Rattle.elf_read.specs.Entries.{segments}
use Rattle.elf_read.specs.Code.{is_exec, is_exec_in}
use Rattle.elf_read.specs.Image.{image_of}
use Rattle.elf_read.specs.Refusals.{refusal}
use Rattle.elf_read.proofs.LoadedCode.{exec_is_loaded}
use Rattle.start_entries.specs.declared.entry.StartEntry.{StartEntry}
use Rattle.start_list.specs.declared.turn.Turn.{Turn}
use Rattle.start_entries.specs.Listed.{IsListed}
use Rattle.start_list.specs.Sites.{IsSite}
use Rattle.start_list.specs.TurnViews.{code_segment, is_code_of}
use Rattle.start_list.specs.Turning.{view_of}
use Rattle.start_entries.proofs.BuiltEntries.{all_listed}
use Rattle.start_list.proofs.CodeSegments.{shared_executed, executed_low, executed_found}
use Rattle.scheme_search.specs.declared.site_turn.SiteTurn.{SiteTurn}
use Rattle.scheme_search.proofs.CodeCells.{IsCodeCell, code_cell}
use Rattle.scheme_search.proofs.ListedEntries.{entry_found}
use Rattle.scheme_search.proofs.SiteJumpTargets.{OnSite}

-- A byte that can be executed is one of code.
pub loaded_cell : (file : List ℕ) (x : ℕ) → refusal 0x10000 file ≡ None → is_exec file x ≡ true → IsCodeCell (image_of file x)
loaded_cell file x k e =
    let h = exec_is_loaded 0x10000 file x k e in
    subst (λ (c : Option Cell). IsCodeCell c) (sym h.1.1) (code_cell h.0 h.1.0 h.1.2)

-- A turn's site is a listed start of its file.
pub site_listed : (t : Turn) (site : StartEntry) → refusal 0x10000 t.elf.now.bytes ≡ None → IsSite t site → IsListed t.elf.now.bytes site
site_listed t site k i = all_listed t.elf.now.bytes t.starts.now site k i.built i.listed

-- A site ends below 0x7fff0000.
pub site_low : (t : Turn) (site : StartEntry) → refusal 0x10000 t.elf.now.bytes ≡ None → IsSite t site → site.addr + site.len ≤ 0x7fff0000
site_low t site k i =
    let h = (site_listed t site k i).executed in
    let some = h.some in
    let last = executed_low t.elf.now.bytes (site.addr + (site.len - 1)) k (h.executed (site.len - 1) (omega arith)) in
    omega (arith, last)

-- A segment of code holds it.
pub site_found : (t : Turn) (site : StartEntry) → refusal 0x10000 t.elf.now.bytes ≡ None → IsSite t site → code_segment (segments t.elf.now.bytes) site.addr ≡ None → ⊥
site_found t site k i e =
    let h = (site_listed t site k i).executed in
    let some = h.some in
    let z : site.addr + 0 ≡ site.addr = omega arith in
    executed_found t.elf.now.bytes site.addr (subst (λ (x : ℕ). is_exec t.elf.now.bytes x ≡ true) z (h.executed 0 (omega arith))) e

module _ (here : SiteTurn) where
  abbrev file : List ℕ
  file = here.turn.elf.now.bytes

  abbrev site : StartEntry
  site = here.site

  -- The site is one of the turn's starts.
  pub here_listed : Contains here.turn.starts.now site
  here_listed = (entry_found here.turn.starts.now site.addr site here.stands.listed).0

  -- The site has bytes that can be executed.
  pub here_executed : IsListed file site
  here_executed = all_listed file here.turn.starts.now site here.stands.accepted here.stands.built here_listed

  -- In its segment it is free code, as a jump on it needs.
  pub on_site : OnSite (view_of here.turn) site here.segment
  on_site =
      let k = here.stands.accepted in
      let runs : (x : ℕ) → is_exec_in x here.segment ≡ true → is_exec file x ≡ true =
      λ x h. shared_executed file site.addr x (ap (λ (o : Option Segment). is_code_of o x) here.stands.segment ∙ h) in
      record {
        low = here.stands.low;
        free = here.stands.free;
        segment = here.stands.segment;
        code = λ x h. loaded_cell file x k (runs x h);
        site_code = λ j l. loaded_cell file (site.addr + j) k (here_executed.executed.executed j l);
        below = λ x h. executed_low file x k (runs x h);
      }
