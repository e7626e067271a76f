use Rattle.std.proofs.Common.{ℕ, List, length, ap, sym, subst, ◌∙◌, ◌<◌, ◌^◌, arith}
use Rattle.elf_emit.specs.Job.{Part}
use Rattle.elf_emit.specs.Frames.{up}
use Rattle.elf_emit.proofs.PlanNumbers.{moved_low, nowhere_placed, place_is}
use Rattle.elf_emit.proofs.emit.pages_place.Goals as goal

pub table_count-requires : goal.table_count-requires
table_count-requires c =
    let w = c.requires.frame.1 in
    (c.requires.frame.0, c.in-Ok.ensures c.requires.frame.0 w.orig w.parts, record { frame = w.frame; few = subst (λ (z : List Part). length z < 2 ^ 31) (sym w.parts) c.requires.few })

pub renewed-requires : goal.renewed-requires
renewed-requires c =
    let w = c.requires.frame.1 in
    let s = c.in-Ok.ensures c.requires.frame.0 w.orig w.parts in
    let a = c.up.ensures ∙ ap (λ (z : List ℕ). up (length z)) (c.file-file.ensures.value ∙ sym w.orig) in
    let b = moved_low c.requires.frame.0 _ c.up.result w.frame (c.in-Ok-table_count.ensures c.requires.frame.0 s).1 s.loads a in
    omega arith

pub places_of-requires : goal.places_of-requires
places_of-requires c =
    let w = c.requires.frame.1 in
    let s = c.in-Ok.ensures c.requires.frame.0 w.orig w.parts in
    let a = c.up.ensures ∙ ap (λ (z : List ℕ). up (length z)) (c.file-file.ensures.value ∙ sym w.orig) in
    let b = moved_low c.requires.frame.0 _ c.up.result w.frame (c.in-Ok-table_count.ensures c.requires.frame.0 s).1 s.loads a in
    let e = c.in-Ok-renewed.ensures.end in omega arith

pub returns-in-Err : goal.returns-in-Err
returns-in-Err c = λ f w. nowhere_placed f c.in-Err.error (c.in-Err.ensures f (c.in-Ok.ensures f w.orig w.parts))

pub returns-in-Ok-renewed : goal.returns-in-Ok-renewed
returns-in-Ok-renewed c = λ f w.
    let s = c.in-Ok.ensures f w.orig w.parts in
    let k = c.in-Ok-table_count.ensures f s in
    let a = c.up.ensures ∙ ap (λ (z : List ℕ). up (length z)) (c.file-file.ensures.value ∙ sym w.orig) in
    (k.1, place_is f _ c.up.result _ _ c.places_of.result c.args.private.lo c.args.private.hi w.frame k.0 k.1 s.loads a c.in-Ok-renewed.ensures.end w.lo w.hi c.places_of.ensures)
