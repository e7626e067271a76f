use Rattle.std.proofs.Common.{◌^◌, ◌<◌, ◌∙◌, ℕ, List, length, sym, ap, subst, arith}
use Rattle.pun_base.specs.declared.range.Range.{Range}
use Rattle.elf_emit.specs.declared.runs.Part.{Part}
use Rattle.elf_emit.specs.FrameLaws.{IsFrame}
use Rattle.site_turns.specs.PlanLaws.{writes_of}
use Rattle.loader_form.specs.Laid.{loader_frame}
use Rattle.loader_form.specs.Lay.{laid_of}
use Rattle.loader_form.specs.Loading.{load_job}
use Rattle.elf_emit.proofs.JobConditions.{emitted}
use Rattle.loader_form.proofs.LoaderRequests.{few_runs, few_groups, is_frame, frame_is_of, all_handed, loads_when, unplaced}
use Rattle.loader_form.proofs.emit.emit_loader.Goals as goal

pub loader_parts-parts-requires : goal.loader_parts-parts-requires
loader_parts-parts-requires g c =
    let size : length c.args.elf.now.bytes < 2 ^ 63 = (let s = c.file-file.type_inv in let e = ap (λ (z : List ℕ). length z) c.file-file.ensures.value in omega arith) in
    let w = c.requires.loading.1 in
    let b = few_groups w size in
    let e = c.count.ensures in
    record { runs = few_runs w size; groups = omega arith }

pub pages_place-requires-clause-frame : goal.pages_place-requires-clause-frame
pages_place-requires-clause-frame g c =
    let size : length c.args.elf.now.bytes < 2 ^ 63 = (let s = c.file-file.type_inv in let e = ap (λ (z : List ℕ). length z) c.file-file.ensures.value in omega arith) in
    let w = c.requires.loading.1 in
    let frame = loader_frame (load_job c.args.elf.now.bytes c.args.planned.now c.args.groups.now) (laid_of c.args.loader.now) in
    let is_of = frame_is_of w size c.count.result c.loader_parts-parts.result c.private-private.result
    c.count.ensures c.loader_parts-parts.ensures c.private-private.ensures in
    (frame, is_of)

pub returns-in-Err-clause-emits : goal.returns-in-Err-clause-emits
returns-in-Err-clause-emits g c =
    let size : length c.args.elf.now.bytes < 2 ^ 63 = (let s = c.file-file.type_inv in let e = ap (λ (z : List ℕ). length z) c.file-file.ensures.value in omega arith) in
    let w = c.requires.loading.1 in
    let frame = loader_frame (load_job c.args.elf.now.bytes c.args.planned.now c.args.groups.now) (laid_of c.args.loader.now) in
    let is_of = frame_is_of w size c.count.result c.loader_parts-parts.result c.private-private.result
    c.count.ensures c.loader_parts-parts.ensures c.private-private.ensures in
    unplaced frame c.args.name.now _ c.in-Err.error (c.in-Err.ensures frame is_of)

pub tail_bytes-requires : goal.tail_bytes-requires
tail_bytes-requires g c =
    let size : length c.args.elf.now.bytes < 2 ^ 63 = (let s = c.file-file.type_inv in let e = ap (λ (z : List ℕ). length z) c.file-file.ensures.value in omega arith) in
    let w = c.requires.loading.1 in
    let frame = loader_frame (load_job c.args.elf.now.bytes c.args.planned.now c.args.groups.now) (laid_of c.args.loader.now) in
    let is_of = frame_is_of w size c.count.result c.loader_parts-parts.result c.private-private.result
    c.count.ensures c.loader_parts-parts.ensures c.private-private.ensures in
    let k = c.in-Ok-pages_place.ensures frame is_of in
    record { loading = c.requires.loading; few = k.0; place = k.1 }

pub emit_tailed-requires-clause-few : goal.emit_tailed-requires-clause-few
emit_tailed-requires-clause-few g c =
    let n = ap (λ (z : List Part). length z) c.loader_parts-parts.ensures in omega (arith, n)

pub emit_tailed-requires-clause-frame : goal.emit_tailed-requires-clause-frame
emit_tailed-requires-clause-frame g c =
    let size : length c.args.elf.now.bytes < 2 ^ 63 = (let s = c.file-file.type_inv in let e = ap (λ (z : List ℕ). length z) c.file-file.ensures.value in omega arith) in
    let w = c.requires.loading.1 in
    let handed = all_handed w size c.deref-2.result.now c.built.result.now c.private-private.result c.deref.result.now c.count.result c.loader_parts-parts.result
    c.from.result (c.deref-2.ensures.value ∙ c.in-Ok.ensures ∙ ap (λ z. writes_of z) c.rows.ensures) c.built.ensures c.private-private.ensures
    (c.deref.ensures.value ∙ c.in-Ok-tail_bytes.ensures) c.count.ensures c.loader_parts-parts.ensures (c.from.ensures ∙ ap (λ (r : Range). r.lo) c.stub.ensures) in
    subst IsFrame (sym handed) (is_frame w size)

pub returns : goal.returns
returns g c =
    let size : length c.args.elf.now.bytes < 2 ^ 63 = (let s = c.file-file.type_inv in let e = ap (λ (z : List ℕ). length z) c.file-file.ensures.value in omega arith) in
    let w = c.requires.loading.1 in
    let frame = loader_frame (load_job c.args.elf.now.bytes c.args.planned.now c.args.groups.now) (laid_of c.args.loader.now) in
    let handed = all_handed w size c.deref-2.result.now c.built.result.now c.private-private.result c.deref.result.now c.count.result c.loader_parts-parts.result
    c.from.result (c.deref-2.ensures.value ∙ c.in-Ok.ensures ∙ ap (λ z. writes_of z) c.rows.ensures) c.built.ensures c.private-private.ensures
    (c.deref.ensures.value ∙ c.in-Ok-tail_bytes.ensures) c.count.ensures c.loader_parts-parts.ensures (c.from.ensures ∙ ap (λ (r : Range). r.lo) c.stub.ensures) in
    let emits = emitted _ frame c.args.name.now _ _ _ c.emit_tailed.ensures handed in
    record { emits = emits; loads = loads_when w size c.args.name.now _ _ c.emit_tailed.result emits }
