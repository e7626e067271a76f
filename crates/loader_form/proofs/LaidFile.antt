-- The loader form's file keeps the conditions of a written file.
use Rattle.std.proofs.Common.{◌≡◌, ℕ, ◌+◌, ◌-◌, ◌*◌, ◌<◌, ◌≤◌, List, ◌++◌, length, length-append, replicate, ◌∙◌, arith}
use Rattle.std.specs.List.{AllByRecursion}
use Rattle.std.proofs.lemmas.List.{length-replicate}
use Rattle.elf_emit.specs.Job.{Frame, Job}
use Rattle.elf_emit.specs.Layout.{group_pages}
use Rattle.elf_emit.specs.FrameLaws.{IsPart}
use Rattle.elf_emit.proofs.GroupPages.{length_group_pages}
use Rattle.elf_emit.proofs.FrameAcceptance.{frame_loads}
use Rattle.elf_emit.proofs.PageRuns.{framed_with}
use Rattle.loader_form.specs.Laid.{Laid, stub_of, stub_bytes, loader_frame, IsApart, IsLaid, LaidIsFrame, LoaderLoads}

-- pages that meet nothing are a part of a written file
part_is : (j : Job) (at n first perms files : ℕ) → IsApart j at n → 0 < n → first + n ≤ files → perms < 8
    → IsPart j.private_lo j.private_hi files (record { addr = at; first = first; count = n; perms = perms })
part_is j at n first perms files h some shown p =
    record { low = h.low; high = h.high; whole = h.whole; some = some; shown = shown; perms = p; apart = h.private }

-- the pages after the private range are the group pages, the stub's pages and the save page
body_length : (j : Job) (l : Laid) → IsLaid j l → length (loader_frame j l).body ≡ 4096 * (j.groups + (l.pages + 1))
body_length j l h =
    let g = group_pages j.pieces j.pages 0 j.groups in
    let sb = stub_bytes (stub_of j l) in
    let pad : List ℕ = replicate (4096 * l.pages - length sb) 0 in
    let zs : List ℕ = replicate 4096 0 in
    let a = length_group_pages j 0 j.groups in
    let b = length-replicate {A = ℕ} (4096 * l.pages - length sb) 0 in
    let z = length-replicate {A = ℕ} 4096 0 in
    let r = h.room in
    let e1 : length (sb ++ pad) ≡ 4096 * l.pages = length-append sb pad ∙ omega (arith, b, r) in
    length-append g ((sb ++ pad) ++ zs) ∙ (let e2 = length-append (sb ++ pad) zs in omega (arith, a, e1, e2, z))

-- the loader form's file keeps the conditions of a written file
pub laid_frame : LaidIsFrame
laid_frame j l h k =
    let f : Frame = loader_frame j l in
    let parts : AllByRecursion (IsPart j.private_lo j.private_hi f.files) f.parts = (
      part_is j l.at l.pages j.groups 5 (j.groups + (l.pages + 1)) k.stub k.some (omega arith) (omega arith),
      (part_is j l.save 1 (j.groups + l.pages) 6 (j.groups + (l.pages + 1)) k.save (omega arith) (omega arith) (omega arith), tt),
    ) in
    framed_with j h f.body f.files f.parts f.entry (body_length j l k) (let a = h.few_groups in let b = k.few in omega (arith, a, b)) parts ((k.apart, tt), (tt, tt))
    (k.stub.new, (k.save.new, tt)) (let a = k.stub.high in omega (arith, a))

-- the loader form's file loads its table, the private range, the stub, the save page and the original with what is written, and starts at
-- the stub
pub loader_loads : LoaderLoads
loader_loads j l h k few =
    let g = frame_loads (loader_frame j l) (laid_frame j l h k) few in
    record { image = g.image; entry = g.entry; accepted = g.accepted }
