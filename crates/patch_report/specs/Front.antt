-- The line at the front of a text, with the LF behind it: the line, and what stands behind both. Theorems cite it.
use Rattle.std.specs.Prelude.{ℕ, ◌+◌, ◌*◌, ◌/◌, ◌-◌, ◌%◌, ◌^◌, ◌==◌, Bool, true, false, ◌&&◌, nat_le, nat_lt, if◌then◌else◌, List, length, codes, Option, Some, None}
use Rattle.std.specs.List.{before_first, after_first}
use Rattle.list_text.specs.Lines.{is_line_feed}
use Rattle.list_text.specs.Words.{action_of, ◌>>=◌}
use Rattle.pun_base.specs.declared.scheme.Scheme.TheVariants.{B1, B2, T1, T2, T3}
use Rattle.pun_base.specs.Limits.{most_sites}
use Rattle.patch_report.specs.declared.origin.Version.TheVariants.{One, Two}
use Rattle.patch_report.specs.declared.line.Line.{Line}
use Rattle.patch_report.specs.declared.line.Line.TheVariants as line
use Rattle.patch_report.specs.declared.line.Mark.{Mark}
use Rattle.patch_report.specs.declared.line.Mark.TheVariants as mark
use Rattle.patch_report.specs.Grammar.{high_end}
use Rattle.patch_report.specs.Fields.{address_before, behind, bytes_before, decimal_before, entry_before, number_before}

-- A value where the text begins with its word, or what another reading gives.
abbrev pub or_else : {X : Type 0} → Option (List ℕ) → (List ℕ → Option X) → Option X → Option X
or_else None read other = other
or_else (Some later) read other = read later

-- Nothing is left of this line: the value, and what stands behind it.
abbrev pub at_end : {X : Type 0} → X → List ℕ → Option (X × List ℕ)
at_end x later = Some (x, later)

-- The line of the action that the rest of the line names, which may have blanks in it.
unfoldable pub action_front : List ℕ → Option (Line × List ℕ)
action_front text =
    if length (before_first is_line_feed text) == length text then None else do
      action ← action_of (before_first is_line_feed text)
      Some (line.Action action, after_first is_line_feed text)

-- The outcome that the last word of a site's line names.
unfoldable pub mark_front : List ℕ → Option (Mark × List ℕ)
mark_front text =
    or_else (behind (codes "B1\n") text) (at_end (mark.Patched B1))
    (or_else (behind (codes "B2\n") text) (at_end (mark.Patched B2))
    (or_else (behind (codes "T1\n") text) (at_end (mark.Patched T1))
    (or_else (behind (codes "T2\n") text) (at_end (mark.Patched T2))
    (or_else (behind (codes "T3\n") text) (at_end (mark.Patched T3))
    (or_else (behind (codes "NotRelocatable\n") text) (at_end mark.NotRelocatable)
    (or_else (behind (codes "NoPlan\n") text) (at_end mark.NoPlan)
    (or_else (behind (codes "Shared\n") text) (at_end mark.Shared) None)))))))

-- Whether the last word of a trampoline's line says that the event is recorded.
unfoldable pub event_front : List ℕ → Option (Bool × List ℕ)
event_front text =
    or_else (behind (codes "event\n") text) (at_end true)
    (or_else (behind (codes "plain\n") text) (at_end false) None)

-- Lines by what stands behind their first word.
unfoldable pub private_front : List ℕ → Option (Line × List ℕ)
private_front text = do
  lo ← address_before 32 text
  pages ← decimal_before (2 ^ 32) 10 lo.1
  if (lo.0 % 4096 == 0) && (nat_lt 0 pages.0 && (nat_le lo.0 high_end
      && nat_le pages.0 ((high_end - lo.0) / 4096)))
      then Some (line.Private lo.0 (lo.0 + 4096 * pages.0), pages.1) else None

-- At most 65,536 sites.
unfoldable pub sites_front : List ℕ → Option (Line × List ℕ)
sites_front text = do
  count ← decimal_before (2 ^ 32) 10 text
  if nat_le count.0 most_sites then Some (line.Sites count.0, count.1) else None

-- A site, its number, and what became of it.
unfoldable pub site_front : List ℕ → Option (Line × List ℕ)
site_front text = do
  site ← address_before 32 text
  number ← decimal_before (2 ^ 32) 32 site.1
  outcome ← mark_front number.1
  Some (line.Site site.0 number.0 outcome.0, outcome.1)

-- A trampoline, which begins below the high end.
unfoldable pub tramp_front : List ℕ → Option (Line × List ℕ)
tramp_front text = do
  place ← address_before 32 text
  start ← address_before 32 place.1
  event ← event_front start.1
  if nat_lt place.0 high_end then Some (
    line.Tramp (record {
      place = place.0;
      start = start.0;
      event = event.0;
    }),
    event.1,
  ) else None

-- The bytes before and as many after, from an address on.
unfoldable pub write_front : List ℕ → Option (Line × List ℕ)
write_front text = do
  addr ← address_before 32 text
  was ← bytes_before 32 addr.1
  now ← bytes_before 10 was.1
  if length now.0 == length was.0 then Some (line.Write addr.0 was.0 now.0, now.1) else None

-- Punned bytes from an address on.
unfoldable pub pun_front : List ℕ → Option (Line × List ℕ)
pun_front text = do
  addr ← address_before 32 text
  bytes ← bytes_before 10 addr.1
  Some (line.Pun (record { addr = addr.0; bytes = bytes.0 }), bytes.1)

-- A whole page that begins below the high end, and its group.
unfoldable pub page_front : List ℕ → Option (Line × List ℕ)
page_front text = do
  page ← address_before 32 text
  group ← decimal_before (2 ^ 32) 10 page.1
  if (page.0 % 4096 == 0) && nat_lt page.0 high_end then Some (line.Page page.0 group.0, group.1)
      else None

-- The length, `e_phoff`, `e_phnum` and `e_entry` of the original.
unfoldable pub origin_front : List ℕ → Option (Line × List ℕ)
origin_front text = do
  len ← number_before 32 text
  phoff ← number_before 32 len.1
  phnum ← decimal_before (2 ^ 16) 32 phoff.1
  entry ← entry_before 10 phnum.1
  Some (
    line.Origin (record {
      len = len.0;
      phoff = phoff.0;
      phnum = phnum.0;
      entry = entry.0;
    }),
    entry.1,
  )

-- Lines of the version and of what it tells of the original.
unfoldable pub version_front : List ℕ → Option (Line × List ℕ)
version_front text =
    or_else (behind (codes "origin ") text) origin_front
    (or_else (behind (codes "e9report 2\n") text) (at_end (line.Version Two))
    (or_else (behind (codes "e9report 1\n") text) (at_end (line.Version One)) None))

-- Lines before the rows or behind the pages.
unfoldable pub outer_front : List ℕ → Option (Line × List ℕ)
outer_front text =
    or_else (behind (codes "action ") text) action_front
    (or_else (behind (codes "private ") text) private_front
    (or_else (behind (codes "sites ") text) sites_front
    (or_else (behind (codes "end\n") text) (at_end line.End) (version_front text))))

-- The line of the kind that the first word names.
unfoldable pub line_front : List ℕ → Option (Line × List ℕ)
line_front text =
    or_else (behind (codes "write ") text) write_front
    (or_else (behind (codes "tramp ") text) tramp_front
    (or_else (behind (codes "site ") text) site_front
    (or_else (behind (codes "pun ") text) pun_front
    (or_else (behind (codes "page ") text) page_front (outer_front text)))))
