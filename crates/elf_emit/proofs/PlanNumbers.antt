-- The places and counts that the code computes are the file's and fit their integers, and what it makes of them is a plan.
use Rattle.std.proofs.Common.{◌≡◌, ℕ, ◌+◌, ◌-◌, ◌*◌, ◌^◌, ◌<◌, ◌≤◌, List, ◌∷◌, ◌++◌, length, map, Err, sym, ap, ◌∙◌, subst, arith}
use Rattle.std.specs.List.{AllByRecursion}
use Rattle.elf_read.specs.declared.segment.Segment.{Segment}
use Rattle.elf_read.specs.Entries.{table}
use Rattle.elf_read.specs.Writing.{load_entry}
use Rattle.elf_emit.specs.declared.table.Sources.{Sources}
use Rattle.elf_emit.specs.declared.patched_file.Places.{Places}
use Rattle.elf_emit.specs.declared.patched_file.Plan.{Plan}
use Rattle.elf_emit.specs.declared.emit.EmitError.{EmitError}
use Rattle.elf_emit.specs.declared.emit.EmitError.TheVariants as emit
use Rattle.elf_emit.specs.Job.{Part, Frame}
use Rattle.elf_emit.specs.Frames.{padded, up, others, olds, renewed, count, moved_part, moved_at, table_at, private_at, private_len, pages_at, with_table, part_load, in_order}
use Rattle.elf_emit.specs.FrameLaws.{IsPart, IsFrame}
use Rattle.elf_emit.specs.Views.{PartFits, HasSources, patches_of, pieces_of}
use Rattle.elf_emit.specs.FramePages.{moved_len}
use Rattle.elf_emit.specs.Index.{Finds, meets_page, shows}
use Rattle.elf_emit.specs.Windows.{IsCodePage}
use Rattle.elf_emit.specs.Plans.{planned, IsPlan}
use Rattle.elf_emit.specs.Emits.{Counts, Makes, Places as Placed}
use Rattle.elf_emit.proofs.StayingSegments.{all_map}
use Rattle.elf_emit.proofs.OriginalFacts.{facts_of, table_bound}
use Rattle.elf_emit.proofs.WrittenTable.{pages_low}
use Rattle.elf_emit.proofs.FrontPages.{length_moved}

moved_is : (f : Frame) (ss : List Segment) → IsFrame f → count f ≤ 1024 → ss ≡ olds f → moved_len ss ss ≡ length (moved_part f)
moved_is f ss h few e = ap (λ (z : List Segment). moved_len z z) e ∙ sym (length_moved f.writes f.orig (olds f) (olds f) (facts_of f h few).inside)

-- the moved segments end below 2^63 + 2^34
pub moved_low : (f : Frame) (ss : List Segment) (at : ℕ) → IsFrame f → count f ≤ 1024 → ss ≡ olds f → at ≡ moved_at f → at + moved_len ss ss < 2 ^ 63 + 2 ^ 34
moved_low f ss at h few e a = let b = table_bound f (facts_of f h few) in let s = h.size in let n = moved_is f ss h few e in omega arith

-- where the moved segments end, the table begins
pub table_place_is : (f : Frame) (ss : List Segment) (at end : ℕ) → IsFrame f → count f ≤ 1024 → ss ≡ olds f → at ≡ moved_at f → end ≡ at + moved_len ss ss → end ≡ table_at f
table_place_is f ss at end h few e a n = let m = moved_is f ss h few e in omega arith

part_fits : (lo hi files at : ℕ) (p : Part) → at < 2 ^ 64 - 2 ^ 45 → files < 2 ^ 33 → IsPart lo hi files p → PartFits at p
part_fits lo hi files at p l f h = let a = h.shown in let b = h.high in let c = h.some in (omega arith, omega arith)

-- each part's place in the file and its size fit 64 bits
pub parts_fit : (f : Frame) (ps : List Part) (at : ℕ) → IsFrame f → count f ≤ 1024 → ps ≡ f.parts → at ≡ pages_at f → AllByRecursion (PartFits at) ps
parts_fit f ps at h few e a =
    let q = pages_low f (facts_of f h few) h in
    subst (λ z. AllByRecursion (PartFits at) z) (sym e)
    (all_map (IsPart f.private_lo f.private_hi f.files) (PartFits at) f.parts (λ p k. part_fits f.private_lo f.private_hi f.files at p (omega arith) h.few_files k) h.parts)

-- the other entries, the parts, the old segments and two more are as many as the table has
pub count_is : (f : Frame) (n : ℕ) (s : Sources) → n ≡ length s.others.items + (2 + (length s.parts.now + length s.loads.now)) → HasSources s f → n ≡ count f
count_is f n s e h = e ∙ (λ i. length (h.others i) + (2 + (length (h.parts i) + length (h.loads i))))

-- what a table with too many entries answers
pub too_many : (f : Frame) (error : EmitError) → Counts f (Err error) → Makes f (Err error)
too_many f (emit.TooManySegments n) h = h
too_many f emit.WriteFault h = h
too_many f emit.Memory h = tt

-- where the pages begin in a file whose table has too many entries
pub nowhere_placed : (f : Frame) (error : EmitError) → Counts f (Err error) → Placed f (Err error)
nowhere_placed f (emit.TooManySegments n) h = h
nowhere_placed f emit.WriteFault h = h
nowhere_placed f emit.Memory h = tt

-- behind the table, filled to whole pages, and the private range begin the pages behind it
pub pages_place_is : (f : Frame) (t n p : ℕ) → t ≡ table_at f → n ≡ count f → p ≡ t + up (56 * n) + private_len f → p ≡ pages_at f
pages_place_is f t n p a c e = e ∙ (λ i. a i + up (56 * c i) + private_len f)

-- where the parts begin, as the code finds them
abbrev pub places_at : ℕ → ℕ → ℕ → ℕ → Places
places_at at n lo hi = record {
  table_at = at;
  table_len = 56 * n;
  private_at = at + up (56 * n);
  pages_at = at + up (56 * n) + (hi - lo);
}

-- where the pages behind the private range begin, as the code finds it
pub place_is : (f : Frame) (n at end : ℕ) (ls : List Segment) (q : Places) (lo hi : ℕ) → IsFrame f → n ≡ count f → count f ≤ 1024 → ls ≡ olds f
    → at ≡ moved_at f → end ≡ at + moved_len ls ls → f.private_lo ≡ lo → f.private_hi ≡ hi → q ≡ places_at end n lo hi → q.pages_at ≡ pages_at f
place_is f n at end ls q lo hi h k few s a t x y e =
    let z = table_place_is f ls at end h few s a t in
    ap (λ (r : Places). r.pages_at) e ∙ (λ i. z i + up (56 * k i) + (sym y i - sym x i))

-- what was made is a plan
pub plan_is : (p : Plan) (s : Sources) (at end : ℕ) → IsFrame (planned p) → AllByRecursion IsCodePage p.changes.pages.items → count (planned p) ≤ 1024
    → HasSources s (planned p) → at ≡ moved_at (planned p) → p.loads.now ≡ s.loads.now
    → p.news.items ≡ renewed s.loads.now at s.loads.now → end ≡ at + moved_len s.loads.now s.loads.now
    → p.places ≡ places_at end p.count p.changes.private.lo p.changes.private.hi
    → p.count ≡ length s.others.items + (2 + (length s.parts.now + length s.loads.now))
    → p.table.items ≡ padded (table (map (with_table p.places.table_at p.places.table_len) s.others.items
    ++ in_order (load_entry 4 p.places.table_at 0x10000 p.places.table_len
    ∷ load_entry 6 p.places.private_at p.changes.private.lo (p.changes.private.hi - p.changes.private.lo)
    ∷ (map (part_load p.places.pages_at) s.parts.now ++ p.news.items))))
    → Finds meets_page (patches_of p.changes.writes.now) p.written.items → Finds meets_page (pieces_of p.changes.built.now) p.code.items → Finds shows p.changes.pages.items p.shown.items
    → IsPlan p
plan_is p s at end frame whole few src a ld nw t pl cn tb w c sh =
    let f : Frame = planned p in
    let e : end ≡ table_at f = table_place_is f s.loads.now at end frame few src.loads a t in
    let tt2 : p.places.table_at ≡ table_at f = ap (λ (q : Places). q.table_at) pl ∙ e in
    let k : p.count ≡ count f = count_is f p.count s cn src in
    let len : p.places.table_len ≡ 56 * count f = ap (λ (q : Places). q.table_len) pl ∙ ap (λ (n : ℕ). 56 * n) k in
    let pr : p.places.private_at ≡ private_at f = ap (λ (q : Places). q.private_at) pl ∙ (λ i. e i + up (56 * k i)) in
    let pg : p.places.pages_at ≡ pages_at f = ap (λ (q : Places). q.pages_at) pl ∙ (λ i. e i + up (56 * k i) + private_len f) in
    let ns : p.news.items ≡ renewed (olds f) (moved_at f) (olds f) = nw ∙ (λ i. renewed (src.loads i) (a i) (src.loads i)) in
    record {
      frame = frame;
      whole = whole;
      few = few;
      loads = ld ∙ src.loads;
      news = ns;
      table_at = tt2;
      private_at = pr;
      pages_at = pg;
      count = k;
      table = tb ∙ (λ i. padded (table (map (with_table (tt2 i) (len i)) (src.others i)
          ++ in_order (load_entry 4 (tt2 i) 0x10000 (len i)
          ∷ load_entry 6 (pr i) p.changes.private.lo (p.changes.private.hi - p.changes.private.lo)
          ∷ (map (part_load (pg i)) (src.parts i) ++ ns i)))));
      written = w;
      code = c;
      shown = sh;
    }
