-- What is asked gives the scene: its entries, its bytes, and so many rows as sites.
use Rattle.std.proofs.Common.{◌≡◌, ℕ, zero, suc, ◌-◌, ◌<◌, Bool, true, false, cond, List, [], ◌∷◌, map, length, reverse, take, drop, Option, Some, sym, ap, ◌∙◌, subst, arith}
use Rattle.std.specs.List.{AllByRecursion}
use Rattle.std.proofs.lemmas.List.{length-reverse, length-map}
use Rattle.hex.specs.Hex.{IsBytes}
use Rattle.pun_base.specs.Memory.{Cell}
use Rattle.pun_base.specs.Ranges.{is_within}
use Rattle.cpu_state.specs.Bytes.{byte_of}
use Rattle.elf_read.specs.declared.segment.Segment.{Segment}
use Rattle.elf_read.specs.Entries.{segments, loads}
use Rattle.elf_read.specs.Image.{chunk_of, image, image_of}
use Rattle.start_entries.specs.declared.entry.StartEntry.{StartEntry}
use Rattle.start_entries.specs.Finding.{addresses}
use Rattle.start_entries.specs.Laws.{AreStarts}
use Rattle.start_entries.specs.Standing.{AreEntries}
use Rattle.start_entries.proofs.ImageEntries.{built_are_entries}
use Rattle.site_turns.specs.Modes.{TurnRules}
use Rattle.site_turns.specs.Planning.{Request, Turns, AreTurnsUnder, scene_under, end_under}
use Rattle.site_turns.specs.PlanLaws.{IsAsked}
use Rattle.site_turns.specs.Laws.{SchemeLeads}
use Rattle.site_turns.specs.Folded.{IsFolded}
use Rattle.site_turns.proofs.TurnFold.{turns_keep, rows_long_after}

-- bytes at the front of bytes
take_small : (n : ℕ) (xs : List ℕ) → IsBytes xs → IsBytes (take n xs)
take_small zero xs h k = omega arith
take_small (suc n) [] h k = omega arith
take_small (suc n) (x ∷ xs) h zero = h 0
take_small (suc n) (x ∷ xs) h (suc k) = take_small n xs (λ i. h (suc i)) k

-- bytes after the first ones of bytes are bytes
drop_small : (n : ℕ) (xs : List ℕ) → IsBytes xs → IsBytes (drop n xs)
drop_small zero xs h = h
drop_small (suc n) [] h = h
drop_small (suc n) (x ∷ xs) h = drop_small n xs (λ i. h (suc i))

-- what a file of bytes loads
loaded_small : (file : List ℕ) (ss : List Segment) (x : ℕ) → IsBytes file → byte_of (image (map (chunk_of file) ss) x) < 256
loaded_small file [] x h = omega arith
loaded_small file (s ∷ ss) x h = by_test (is_within s.vaddr s.memsz x) _ (image (map (chunk_of file) ss) x)
    (take_small s.filesz (drop s.offset file) (drop_small s.offset file h) (x - s.vaddr)) (loaded_small file ss x h)
  where
    by_test : (b : Bool) (c : Cell) (rest : Option Cell) → c.byte < 256 → byte_of rest < 256 → byte_of (cond b (Some c) rest) < 256
    by_test true c rest l m = l
    by_test false c rest l m = m

module _ (q : Request) (a : IsAsked q) where
  -- the listed entries are of starts that are not refused
  pub starts_are : AreStarts 0x20000 q.file (addresses q.listed)
  starts_are = record { accepted = a.accepted; ascending = a.built.ascending; none = a.built.none }

  -- the listed entries are entries of the image
  pub entries_are : AreEntries (image_of q.file) q.listed
  entries_are = subst (AreEntries (image_of q.file)) (sym a.built.entries)
      (built_are_entries 0x20000 q.file (addresses q.listed) starts_are)

  -- whose bytes are bytes
  pub image_small : (x : ℕ) → byte_of (image_of q.file x) < 256
  image_small x = loaded_small q.file (loads (segments q.file)) x a.bytes

-- entries whose addresses are the sites, the highest first, are as many as the sites
pub sites_long : (es : List StartEntry) (sites : List ℕ) → addresses es ≡ reverse sites → length es ≡ length sites
sites_long es sites h = sym (length-map es (λ (e : StartEntry). e.addr)) ∙ ap length h ∙ length-reverse sites

module _ (r : TurnRules) (q : Request) (t : Turns) (h : AreTurnsUnder r q t) where
  -- turns leave a row for each site that is asked
  pub rows_long : length (end_under r q t).rows ≡ length q.sites
  rows_long = rows_long_after (scene_under r q t) r.schemes t.entries t.choices h.turns.turns ∙ sites_long t.entries q.sites h.sites

  -- what each turn keeps holds after turns by rules whose schemes lead
  pub folded : AllByRecursion SchemeLeads r.schemes → AreEntries (image_of q.file) q.listed → IsFolded (scene_under r q t) (end_under r q t)
  folded lead A = turns_keep (scene_under r q t) r.schemes t.entries t.choices lead A h.turns.sites h.turns.turns
