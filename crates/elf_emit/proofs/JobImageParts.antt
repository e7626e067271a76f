-- What stands at the addresses of each part of what shows a job, since the parts don't meet.
use Rattle.std.proofs.Common.{◌≡◌, ℕ, ◌+◌, ◌-◌, ◌<◌, ◌≤◌, ◌⊎◌, inl, inr, ◌&&◌, true, false, nat_lt, nat_le, List, [], ◌∷◌, length, map, Option, Some, None, option_map, refl, sym, ap, ◌∙◌, arith}
use Rattle.std.specs.List.{AllByRecursion, list_any}
use Rattle.std.proofs.lemmas.Bool.{and_parts, cases_Bool, cond-true, cond-false, ltb-true, leb-true}
use Rattle.std.proofs.lemmas.Bool.Decides.{nat_tests}
use Rattle.pun_base.specs.Memory.{Cell, Bytes, or_else}
use Rattle.elf_read.specs.Image.{Chunk, chunk_of, holds, cell_in, image, image_of}
use Rattle.elf_read.specs.Accepted.{IsPlaced}
use Rattle.elf_read.proofs.AcceptedFiles.{is_accepted}
use Rattle.elf_emit.specs.declared.runs.Page.{Page}
use Rattle.elf_emit.specs.Job.{Job}
use Rattle.elf_emit.specs.Frames.{olds, private_len}
use Rattle.elf_emit.specs.Layout.{count, written_at, frame_of, layout}
use Rattle.elf_emit.specs.Laws.{IsJob, IsPage, is_on, is_claimed, private_image, page_chunk, pages_image, with_writes, IsPlacedIn, IsZeroElsewhere, HasOriginals, HasPrivate, Loads, Shows}
use Rattle.elf_emit.proofs.StayingSegments.{all_map, or_false, none_any}
use Rattle.elf_emit.proofs.WrittenTable.{all_mapped}
use Rattle.elf_emit.proofs.GroupPages.{pieces_placed, zero_elsewhere}
use Rattle.elf_emit.proofs.FrameAcceptance.{frame_loads}
use Rattle.elf_emit.proofs.PageRuns.{job_frame}
use Rattle.elf_emit.proofs.JobImages.{file_image, file_shows}

-- what each chunk that holds an address tells is so where the image holds it
held_by : {Q : Type 0} (cs : List Chunk) (a : ℕ) (c : Cell) → image cs a ≡ Some c → AllByRecursion (λ k. holds k a ≡ true → Q) cs → Q
held_by [] a c e h = cc
held_by (k ∷ ks) a c e h = elim (cases_Bool (holds k a)) [
  | inl t ↦ h.0 t
  | inr f ↦ held_by ks a c (sym (cond-false (holds k a) (Some (cell_in k a)) (image ks a) f) ∙ e) h.1
]

none_held : (cs : List Chunk) (a : ℕ) → AllByRecursion (λ k. holds k a ≡ false) cs → image cs a ≡ None
none_held [] a h = refl
none_held (k ∷ ks) a h = cond-false (holds k a) (Some (cell_in k a)) (image ks a) h.0 ∙ none_held ks a h.1

-- a range holds no address that isn't in it
below_range : (lo n a : ℕ) → a < lo → (nat_le lo a && nat_lt (a - lo) n) ≡ false
below_range lo n a l = grind (arith, nat_tests)

past : (lo hi a : ℕ) → hi ≤ a → (nat_le lo a && nat_lt (a - lo) (hi - lo)) ≡ false
past lo hi a l = grind (arith, nat_tests)

inside : (lo hi a : ℕ) → lo ≤ a → a < hi → (nat_le lo a && nat_lt (a - lo) (hi - lo)) ≡ true
inside lo hi a l m = grind (arith, nat_tests)

outside_range : (lo hi a : ℕ) → (nat_le lo a && nat_lt a hi) ≡ false → (nat_le lo a && nat_lt (a - lo) (hi - lo)) ≡ false
outside_range lo hi a e = grind (arith, nat_tests)

from_range : (lo n a : ℕ) → (nat_le lo a && nat_lt (a - lo) n) ≡ true → (lo ≤ a) × (a - lo < n)
from_range lo n a e = let k = and_parts (nat_le lo a) (nat_lt (a - lo) n) e in (leb-true lo a k.0, ltb-true (a - lo) n k.1)

no_private : (j : Job) (a : ℕ) → (nat_le j.private_lo a && nat_lt (a - j.private_lo) (private_len (frame_of j))) ≡ false → private_image j a ≡ None
no_private j a e = cond-false (nat_le j.private_lo a && nat_lt (a - j.private_lo) (private_len (frame_of j))) _ None e

-- the pages for code are apart from the table and the private range
abbrev Clear : Job → ℕ → Type 0
Clear j a = (0x20000 ≤ a) × (private_image j a ≡ None)

page_clear : (j : Job) (p : Page) (a : ℕ) → IsPage j.private_lo j.private_hi j.groups p → is_on p a ≡ true → Clear j a
page_clear j p a h t =
    let k = from_range p.addr 4096 a t in let k0 = k.0 in let k1 = k.1 in let l = h.low in
    (omega arith, no_private j a (side h.apart k0 k1))
  where
    side : (p.addr + 4096 ≤ j.private_lo) ⊎ (j.private_hi ≤ p.addr) → p.addr ≤ a → a - p.addr < 4096 → (nat_le j.private_lo a && nat_lt (a - j.private_lo) (private_len (frame_of j))) ≡ false
    side (inl q) m n = below_range j.private_lo (private_len (frame_of j)) a (omega arith)
    side (inr q) m n = past j.private_lo j.private_hi a (omega arith)

on_page : (j : Job) → IsJob j → (a : ℕ) (c : Cell) → pages_image j a ≡ Some c → Clear j a
on_page j h a c e =
    held_by {Q = Clear j a} (map (page_chunk j) j.pages) a c e
    (all_mapped (λ k. holds k a ≡ true → Clear j a) (page_chunk j) j.pages
    (all_map (IsPage j.private_lo j.private_hi j.groups) (λ p. is_on p a ≡ true → Clear j a) j.pages (λ p k t. page_clear j p a k t) h.pages))

-- an original byte is above the table, and at no new address
pub old_low : (j : Job) → AllByRecursion (IsPlaced 0x20000 (length j.orig)) (olds (frame_of j)) → (a : ℕ) (c : Cell) → image_of j.orig a ≡ Some c → 0x20000 ≤ a
old_low j placed a c e =
    held_by {Q = 0x20000 ≤ a} (map (chunk_of j.orig) (olds (frame_of j))) a c e
    (all_mapped (λ k. holds k a ≡ true → 0x20000 ≤ a) (chunk_of j.orig) (olds (frame_of j))
    (all_map (IsPlaced 0x20000 (length j.orig)) (λ s. holds (chunk_of j.orig s) a ≡ true → 0x20000 ≤ a) (olds (frame_of j))
    (λ s k t. let l = k.low in let q = (from_range s.vaddr s.memsz a t).0 in omega arith) placed))

none_some : (o : Option Cell) (c : Cell) → o ≡ None → o ≡ Some c → ⊥
none_some None c n e = cc
none_some (Some d) c n e = cc

not_new : (j : Job) → IsJob j → (a : ℕ) (c : Cell) → image_of j.orig a ≡ Some c → is_claimed j a ≡ false
not_new j h a c e = elim (cases_Bool (is_claimed j a)) [
  | inr f ↦ f
  | inl t ↦ absurd (none_some (image_of j.orig a) c (h.new a t) e)
]

-- an address on no page for code has no byte in their image
pub no_pages : (j : Job) (a : ℕ) → list_any (λ p. is_on p a) j.pages ≡ false → pages_image j a ≡ None
no_pages j a e = none_held (map (page_chunk j) j.pages) a (all_mapped (λ k. holds k a ≡ false) (page_chunk j) j.pages (none_any (λ p. is_on p a) j.pages e))

module _ (j : Job) (m : Bytes) (h : IsJob j) (s : Shows j m) where
  -- the table is below all other parts
  no_table : (a : ℕ) → 0x20000 ≤ a → s.table a ≡ None
  no_table a l = by_cell (s.table a) refl
    where
      by_cell : (o : Option Cell) → s.table a ≡ o → s.table a ≡ None
      by_cell None e = e
      by_cell (Some c) e = let q = s.header a c e in absurd (omega (arith, l, q.1))

  -- what a page for code shows stands there
  page_stands : (a : ℕ) (c : Cell) → pages_image j a ≡ Some c → m a ≡ Some c
  page_stands a c e =
      let k = on_page j h a c e in
      let t = no_table a k.0 in
      s.image a ∙ (λ i. or_else (t i) (or_else (k.1 i) (or_else (e i) (with_writes j.writes (image_of j.orig) a))))

  -- each piece of code stands at its place
  pub code_stands : AllByRecursion (IsPlacedIn m) j.pieces
  code_stands = all_map (IsPlacedIn (pages_image j)) (IsPlacedIn m) j.pieces (λ w q k l. page_stands _ _ (q k l)) (pieces_placed j h)

  zeros_stand : AllByRecursion (IsZeroElsewhere j m) j.pages
  zeros_stand =
      all_map (IsZeroElsewhere j (pages_image j)) (IsZeroElsewhere j m) j.pages (λ p q k l n. page_stands _ _ (q k l n)) (zero_elsewhere j h)

  -- the private range is apart from the table, and comes before all else
  private_stands : HasPrivate j m
  private_stands a l n =
      let low = h.private_low in
      let t = no_table a (omega arith) in
      let p = cond-true (nat_le j.private_lo a && nat_lt (a - j.private_lo) (private_len (frame_of j))) (Some (record { byte = 0; perms = 6 })) None (inside j.private_lo j.private_hi a l n) in
      s.image a ∙ (λ i. or_else (t i) (or_else (p i) (or_else (pages_image j a) (with_writes j.writes (image_of j.orig) a))))

  -- each original byte stands at its address with its permissions, or what was written there in its place
  pub originals_stand : HasOriginals j m
  originals_stand a c e =
      let n = or_false (nat_le j.private_lo a && nat_lt a j.private_hi) (list_any (λ p. is_on p a) j.pages) (not_new j h a c e) in
      let t = no_table a (old_low j (is_accepted 0x20000 j.orig h.accepted).placed a c e) in
      let p = no_private j a (outside_range j.private_lo j.private_hi a n.0) in
      let g = no_pages j a n.1 in
      let w = ap (λ (o : Option Cell). option_map (λ b. record { byte = written_at j.writes a b.byte; perms = b.perms }) o) e in
      s.image a ∙ (λ i. or_else (t i) (or_else (p i) (or_else (g i) (w i))))

-- the patched file of a job whose table isn't too long loads each part of it, starts as the original does, and is accepted
pub layout_loads : (j : Job) → IsJob j → count j ≤ 1024 → Loads j
layout_loads j h few =
    let g = frame_loads (frame_of j) (job_frame j h) few in
    let s : Shows j (image_of (layout j)) = file_shows j h few in
    record {
      image = file_image j h few;
      originals = originals_stand j (image_of (layout j)) h s;
      code = code_stands j (image_of (layout j)) h s;
      zeros = zeros_stand j (image_of (layout j)) h s;
      private = private_stands j (image_of (layout j)) h s;
      entry = g.entry;
      accepted = g.accepted;
    }
