-- What a file loads at an address is of the kind that it loads one below, but where segments begin and end.
use Rattle.std.proofs.Common.{◌≡◌, ◌⊎◌, inl, inr, ℕ, suc, ◌+◌, ◌<◌, ◌≤◌, Bool, true, false, cond, List, [], ◌∷◌, map, length, Option, Some, None, is_some, option_map, refl, ap, arith}
use Rattle.std.specs.List.{list_any, AllByRecursion}
use Rattle.pun_base.specs.Memory.{Cell}
use Rattle.elf_read.specs.declared.segment.Segment.{Segment}
use Rattle.elf_read.specs.Accepted.{IsPlaced}
use Rattle.elf_read.specs.Entries.{loads, segments}
use Rattle.elf_read.specs.Image.{image, image_of, chunk_of, holds, cell_in}
use Rattle.elf_read.specs.Refusals.{refusal}
use Rattle.elf_read.proofs.AcceptedFiles.{is_accepted}
use Rattle.image_check.specs.Parts.{in_span, in_spans, start_span, end_span, private_span, edge_spans}
use Rattle.image_check.proofs.ZeroTails.{IsPast, held_alike, image_on, neither_of, none_mapped, outside}

-- the permissions of a cell, if there is one
abbrev pub kind_of : Option Cell → Option ℕ
kind_of o = option_map (λ (c : Cell). c.perms) o

-- of two cells of one kind both are there or neither is
pub some_on : (o q : Option Cell) → kind_of o ≡ kind_of q → is_some o ≡ is_some q
some_on None None e = refl
some_on None (Some d) e = absurd cc
some_on (Some c) None e = absurd cc
some_on (Some c) (Some d) e = refl

-- the addresses of a segment's edges are left out
record IsInner (s : Segment) (x : ℕ) : Type 0 where
  start : (suc x < s.vaddr) ⊎ (s.vaddr < suc x)
  end : (suc x < s.vaddr + s.memsz) ⊎ (s.vaddr + s.memsz < suc x)

-- outside the spans of its edges, an address is neither the first of a segment nor the one after it
inner_of : (n : ℕ) (s : Segment) (x : ℕ) → IsPlaced 0x10000 n s → in_span (suc x) (start_span s) ≡ false
    → in_span (suc x) (end_span s) ≡ false → IsInner s x
inner_of n s x p b e = record {
  start = outside (suc x) (start_span s) b;
  end = elim (outside (suc x) (end_span s) e) [ inl k ↦ inl (omega (arith, k, p.high)) | inr k ↦ inr (omega (arith, k, p.high)) ];
}

-- outside the spans of their edges, an address is at no edge of any segment
are_inner : (n : ℕ) (ss : List Segment) (x : ℕ) → AllByRecursion (IsPlaced 0x10000 n) ss
    → AllByRecursion (λ s. in_span (suc x) (start_span s) ≡ false) ss
    → AllByRecursion (λ s. in_span (suc x) (end_span s) ≡ false) ss → AllByRecursion (λ s. IsInner s x) ss
are_inner n [] x p b e = tt
are_inner n (s ∷ ss) x p b e = (inner_of n s x p.0 b.0 e.0, are_inner n ss x p.1 b.1 e.1)

-- where an address is at no edge of a segment, the segment holds it and the one below, or neither
held_in : (file : List ℕ) (s : Segment) (x : ℕ) → IsInner s x → holds (chunk_of file s) (suc x) ≡ holds (chunk_of file s) x
held_in file s x p = held_alike file s x (elim p.start [ inl k ↦ inl k | inr k ↦ inr (omega (arith, k)) ]) p.end

-- cells of equal permissions, chosen by equal tests, are of one kind
kind_step : (b e : Bool) (c d : Cell) (o q : Option Cell) → b ≡ e → c.perms ≡ d.perms → kind_of o ≡ kind_of q
    → kind_of (cond b (Some c) o) ≡ kind_of (cond e (Some d) q)
kind_step true true c d o q f g h = ap (λ (z : ℕ). Some z) g
kind_step true false c d o q f g h = absurd cc
kind_step false true c d o q f g h = absurd cc
kind_step false false c d o q f g h = h

-- where an address is at no edge of any segment, what a file loads there and one address below is of one kind
kinds_in : (file : List ℕ) (ss : List Segment) (x : ℕ) → AllByRecursion (λ s. IsInner s x) ss
    → kind_of (image (map (chunk_of file) ss) (suc x)) ≡ kind_of (image (map (chunk_of file) ss) x)
kinds_in file [] x p = refl
kinds_in file (s ∷ ss) x p =
    kind_step (holds (chunk_of file s) (suc x)) (holds (chunk_of file s) x) (cell_in (chunk_of file s) (suc x)) (cell_in (chunk_of file s) x)
    (image (map (chunk_of file) ss) (suc x)) (image (map (chunk_of file) ss) x) (held_in file s x p.0) refl (kinds_in file ss x p.1)

-- outside of the edges the kind goes on
pub file_kind : (file : List ℕ) (x : ℕ) → refusal 0x10000 file ≡ None → in_spans (edge_spans file) (suc x) ≡ false
    → kind_of (image_of file (suc x)) ≡ kind_of (image_of file x)
file_kind file x r h =
    let ss = loads (segments file) in
    let q = neither_of (in_span (suc x)) (map start_span ss) (map end_span ss) h in
    kinds_in file ss x (are_inner (length file) ss x (is_accepted 0x10000 file r).placed (none_mapped (in_span (suc x)) start_span ss q.0)
    (none_mapped (in_span (suc x)) end_span ss q.1))

-- in a range, what the file has of it is left out too
past_in : (lo hi n : ℕ) (s : Segment) (x : ℕ) → IsPlaced 0x10000 n s → lo ≤ suc x → suc x < hi
    → in_span (suc x) (private_span lo hi s) ≡ false → in_span (suc x) (end_span s) ≡ false → IsPast s x
past_in lo hi n s x p l m b e = record {
  backed = elim (outside (suc x) (private_span lo hi s) b) [
    | inl k ↦ inl (omega (arith, k, l))
    | inr k ↦ inr (omega (arith, k, m, p.high, p.sizes))
  ];
  end = elim (outside (suc x) (end_span s) e) [ inl k ↦ inl (omega (arith, k, p.high)) | inr k ↦ inr (omega (arith, k, p.high)) ];
}

-- outside the bytes that the file has in a range and the ends of segments, an address of the range is no byte of the file's and no end
pasts_in : (lo hi n : ℕ) (ss : List Segment) (x : ℕ) → AllByRecursion (IsPlaced 0x10000 n) ss → lo ≤ suc x → suc x < hi
    → AllByRecursion (λ s. in_span (suc x) (private_span lo hi s) ≡ false) ss
    → AllByRecursion (λ s. in_span (suc x) (end_span s) ≡ false) ss → AllByRecursion (λ s. IsPast s x) ss
pasts_in lo hi n [] x p l m b e = tt
pasts_in lo hi n (s ∷ ss) x p l m b e = (past_in lo hi n s x p.0 l m b.0 e.0, pasts_in lo hi n ss x p.1 l m b.1 e.1)

-- in a range, outside of edges and of what the file has there, a file loads what it loads one below
pub private_cell : (file : List ℕ) (lo hi x : ℕ) → refusal 0x10000 file ≡ None → in_spans (edge_spans file) (suc x) ≡ false
    → list_any (in_span (suc x)) (map (private_span lo hi) (loads (segments file))) ≡ false → lo ≤ suc x → suc x < hi
    → image_of file (suc x) ≡ image_of file x
private_cell file lo hi x r h k l m =
    let ss = loads (segments file) in
    let q = neither_of (in_span (suc x)) (map start_span ss) (map end_span ss) h in
    image_on file ss x (pasts_in lo hi (length file) ss x (is_accepted 0x10000 file r).placed l m
    (none_mapped (in_span (suc x)) (private_span lo hi) ss k) (none_mapped (in_span (suc x)) end_span ss q.1))
