-- What shows a job: its file's image, and the same image without a table.
use Rattle.std.proofs.Common.{◌≡◌, ℕ, ◌≤◌, ◌-◌, ◌*◌, Bool, true, false, cond, ◌&&◌, nat_lt, nat_le, Some, None, refl, sym, ap, ◌∙◌, arith}
use Rattle.std.proofs.lemmas.Bool.{and_parts, ltb-true, leb-true}
use Rattle.pun_base.specs.Memory.{Cell, or_else}
use Rattle.elf_read.specs.Image.{image_of}
use Rattle.elf_emit.specs.Job.{Job}
use Rattle.elf_emit.specs.Layout.{frame_of, count, layout}
use Rattle.elf_emit.specs.Laws.{IsJob, table_image, private_image, loaded, with_writes, FileShows, BareShows}
use Rattle.elf_emit.proofs.FrameAcceptance.{frame_loads}
use Rattle.elf_emit.proofs.PageRuns.{job_frame, parts_shown}

-- one chunk
one_chunk : (b : Bool) (v p : ℕ) (c : Cell) → cond b (Some (record { byte = v; perms = p })) None ≡ Some c → (b ≡ true) × (c.perms ≡ p)
one_chunk true v p c e = let k : record { byte = v; perms = p } ≡ c = cc in (refl, sym (ap (λ (z : Cell). z.perms) k))
one_chunk false v p c e = absurd cc

-- the image of a job's file is its parts' images together
pub file_image : (j : Job) → IsJob j → count j ≤ 1024 → (a : ℕ) → image_of (layout j) a ≡ loaded j a
file_image j h few a =
    let g = frame_loads (frame_of j) (job_frame j h) few in
    g.image a ∙ (λ i. or_else (table_image j a) (or_else (private_image j a) (or_else (parts_shown j h a i) (with_writes j.writes (image_of j.orig) a))))

-- the written file's image shows a job, where its table isn't too long
pub file_shows : FileShows
file_shows j h few = record {
  table = table_image j;
  image = file_image j h few;
  header = λ a c e. (let q = one_chunk (nat_le 0x10000 a && nat_lt (a - 0x10000) (56 * count j)) _ 4 c e in
      let k = and_parts (nat_le 0x10000 a) (nat_lt (a - 0x10000) (56 * count j)) q.0 in
      let lo = leb-true 0x10000 a k.0 in let hi = ltb-true (a - 0x10000) (56 * count j) k.1 in
      (lo, omega (arith, few, lo, hi), q.1));
}

-- the image without a table shows a job
pub bare_shows : BareShows
bare_shows j h = record { table = λ a. None; image = λ a. refl; header = λ a c e. absurd cc }
