-- Each page of a job's file is the one that its definition tells.
use Rattle.std.proofs.Common.{◌≡◌, ℕ, ◌+◌, ◌-◌, ◌*◌, ◌/◌, ◌%◌, ◌<◌, ◌≤◌, Bool, true, false, cond, nat_lt, refl, ap, ◌∙◌, arith}
use Rattle.std.proofs.lemmas.Bool.{ltb-false}
use Rattle.elf_emit.specs.Job.{Job}
use Rattle.elf_emit.specs.Frames.{table_at, private_at, pages_at}
use Rattle.elf_emit.specs.Layout.{slice, frame_of, group_page, group_pages}
use Rattle.elf_emit.specs.FramePages as pages
use Rattle.elf_emit.specs.PageByPage.{page_at, file_len, LayoutHasPages}
use Rattle.elf_emit.proofs.OriginalFacts.{facts_of}
use Rattle.elf_emit.proofs.GroupPages.{group_found}
use Rattle.elf_emit.proofs.PageRuns.{job_frame}
use Rattle.elf_emit.proofs.PagesOfLayout.{frame_has_pages, pages_whole}

shared : (j : Job) (at : ℕ) → pages_at (frame_of j) ≤ at → (at - pages_at (frame_of j)) % 4096 ≡ 0 → at < file_len j
    → slice 4096 (at - pages_at (frame_of j)) (group_pages j.pieces j.pages 0 j.groups) ≡ group_page j.pieces j.pages ((at - pages_at (frame_of j)) / 4096)
shared j at l w m =
    let g : ℕ = (at - pages_at (frame_of j)) / 4096 in
    let e : at - pages_at (frame_of j) ≡ 4096 * g = omega (arith, w) in
    let z : 0 + g ≡ g = omega arith in
    ap (λ (x : ℕ). slice 4096 x (group_pages j.pieces j.pages 0 j.groups)) e ∙ group_found j g j.groups 0 (omega (arith, l, m, e))
    ∙ ap (group_page j.pieces j.pages) z

else_same : {X : Type 0} (b : Bool) (x y z : X) → (b ≡ false → y ≡ z) → cond b x y ≡ cond b x z
else_same true x y z h = refl
else_same false x y z h = h refl

same_page : (j : Job) (at : ℕ) → at % 4096 ≡ 0 → pages_at (frame_of j) % 4096 ≡ 0 → at < file_len j → pages.page_at (frame_of j) at ≡ page_at j at
same_page j at w p m =
    else_same (nat_lt at (table_at (frame_of j))) _ _ _ (λ a. else_same (nat_lt at (private_at (frame_of j))) _ _ _ (λ b. else_same (nat_lt at (pages_at (frame_of j))) _ _ _
    (λ d. let l = ltb-false at (pages_at (frame_of j)) d in shared j at l (omega (arith, w, p, l)) m)))

-- a job's file is whole pages, and each is the page that the definition tells
pub layout_has_pages : LayoutHasPages
layout_has_pages j h few =
    let i = job_frame j h in
    let g = frame_has_pages (frame_of j) i few in
    let p = pages_whole (frame_of j) i (facts_of (frame_of j) i few) in
    record {
      size = g.size;
      whole = g.whole;
      page = λ k l. g.page k l ∙ same_page j (4096 * k) (omega arith) p l;
    }
