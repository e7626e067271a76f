-- The pages of a file, put one after the other.
use Rattle.std.proofs.Common.{◌≡◌, ℕ, ◌+◌, ◌-◌, ◌*◌, ◌/◌, ◌%◌, ◌<◌, ◌≤◌, List, length, take, drop, Result, Ok, Err, sym, ◌∙◌, subst, arith}
use Rattle.std.specs.Prelude.{OnOk}
use Rattle.pun_base.specs.Shown.{DeskState}
use Rattle.pun_base.specs.Desk.{PutResult, Puts}
use Rattle.pun_base.proofs.JoinedPuts.{piece}
use Rattle.elf_emit.specs.declared.emit.EmitError.{EmitError}
use Rattle.elf_emit.specs.declared.patched_file.Plan.{Plan}
use Rattle.elf_emit.specs.Job.{Job}
use Rattle.elf_emit.specs.Laws.{IsJob, Loads}
use Rattle.elf_emit.specs.Emits.{Emits}
use Rattle.elf_emit.specs.Frames.{slice, layout}
use Rattle.elf_emit.specs.FramePages.{page_at, file_len, HasPages}
use Rattle.elf_emit.specs.Plans.{planned, IsPlan}
use Rattle.elf_emit.proofs.PagesOfLayout.{frame_has_pages}
use Rattle.elf_emit.proofs.JobImageParts.{layout_loads}

-- the pages of a plan's file
pub planned_pages : (p : Plan) → IsPlan p → HasPages (planned p)
planned_pages p h = frame_has_pages (planned p) h.frame h.few

-- the page at a place is the file's part there
page_is : (p : Plan) (at : ℕ) → IsPlan p → at % 4096 ≡ 0 → at < file_len (planned p) → page_at (planned p) at ≡ slice 4096 at (layout (planned p))
page_is p at h w l =
    let e : 4096 * (at / 4096) ≡ at = omega arith in
    sym (subst (λ (x : ℕ). slice 4096 x (layout (planned p)) ≡ page_at (planned p) x) e ((planned_pages p h).page (at / 4096) (omega arith)))

-- what was put, and one page more
pub page_put : (p : Plan) (n page : List ℕ) (at : ℕ) (s t u : DeskState) (q r : PutResult) → IsPlan p → at % 4096 ≡ 0 → at < file_len (planned p) → q ≡ r
    → page ≡ page_at (planned p) at → Puts n (take at (layout (planned p))) s t (Ok tt) → Puts n page t u q → Puts n (take (at + 4096) (layout (planned p))) s u r
page_put p n page at s t u q r h w l e is before after =
    let k : 4096 ≡ at + 4096 - at = omega arith in
    piece n (layout (planned p)) at 4096 s t u q r e before
    (subst (λ (x : ℕ). Puts n (take x (drop at (layout (planned p)))) t u q) k
    (subst (λ (y : List ℕ). Puts n y t u q) (is ∙ page_is p at h w l) after))

-- all is put where the file ends
pub all_put : (p : Plan) (at : ℕ) → IsPlan p → file_len (planned p) ≤ at → length (layout (planned p)) ≤ at
all_put p at h l = let e = (planned_pages p h).size in omega arith

-- what is written of a job loads what it says
pub loads_when : (j : Job) (name : List ℕ) (s t : DeskState) (r : Result (Unit {0}) EmitError) → IsJob j → Emits j name s t r → OnOk r (Loads j)
loads_when j name s t (Ok u) h e = layout_loads j h e.0
loads_when j name s t (Err x) h e = tt
