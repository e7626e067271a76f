use Rattle.std.proofs.Common.{ℕ, ◌^◌, ◌<◌, List, length, map, sym, ap, ◌∙◌, subst, arith}
use Rattle.page_group.specs.Pages.{AreDisjoint, ends_of}
use Rattle.elf_emit.specs.declared.built.Built.{Built}
use Rattle.elf_emit.specs.Emits.{range_of}
use Rattle.turn_tests.proofs.LoadedFiles.{request, codes_end_low, codes_apart, is_loading, is_written}
use Rattle.turn_tests.proofs.loader_files.loaded.Goals as goal

pub code_ranges-requires : goal.code_ranges-requires
code_ranges-requires g c =
    rw c.built.ensures (codes_end_low c.in-Ok.elf.bytes c.args.file.now c.in-Ok-build.list c.args.sites.now c.args.reserves.now c.in-Ok-plan_all.planned c.in-Ok.ensures.file.0 (λ k. (c.type_inv.file k).fits)
    c.in-Ok.ensures.accepted c.in-Ok-build.ensures.built (omega arith) c.in-Ok-plan_all.ensures.planned)

pub group-requires : goal.group-requires
group-requires g c = record {
  disjoint =
      subst AreDisjoint (sym (ap ends_of c.deref.ensures.value ∙ c.in-Ok-code_ranges.ensures ∙ ap (λ (bs : List Built). map range_of bs) c.built.ensures))
      (codes_apart c.in-Ok.elf.bytes c.args.file.now c.in-Ok-build.list c.args.sites.now c.args.reserves.now c.in-Ok-plan_all.planned c.in-Ok.ensures.file.0 (λ k. (c.type_inv.file k).fits)
      c.in-Ok.ensures.accepted c.in-Ok-build.ensures.built (omega arith) c.in-Ok-plan_all.ensures.planned);
}

pub lay-requires : goal.lay-requires
lay-requires g c =
    codes_end_low c.in-Ok.elf.bytes c.args.file.now c.in-Ok-build.list c.args.sites.now c.args.reserves.now c.in-Ok-plan_all.planned c.in-Ok.ensures.file.0 (λ k. (c.type_inv.file k).fits)
    c.in-Ok.ensures.accepted c.in-Ok-build.ensures.built (omega arith) c.in-Ok-plan_all.ensures.planned

pub emit_loader-requires-clause-loading : goal.emit_loader-requires-clause-loading
emit_loader-requires-clause-loading g c = (
  request c.in-Ok.elf.bytes c.in-Ok-build.list c.args.sites.now c.args.reserves.now,
  is_loading c.in-Ok.elf.bytes c.args.file.now c.in-Ok-build.list c.args.sites.now c.args.reserves.now c.in-Ok-plan_all.planned c.in-Ok.ensures.file.0 (λ k. (c.type_inv.file k).fits)
      c.in-Ok.ensures.accepted c.in-Ok-build.ensures.built (omega arith) c.in-Ok-plan_all.ensures.planned c.in-Ok-group.groups c.in-Ok-lay.loader
      (c.in-Ok-group.ensures.pieces ∙ ap ends_of c.deref.ensures.value ∙ c.in-Ok-code_ranges.ensures ∙ ap (λ (bs : List Built). map range_of bs) c.built.ensures)
      c.in-Ok-group.ensures.grouping c.in-Ok-lay.ensures,
)

pub returns-in-Ok-emit_loader : goal.returns-in-Ok-emit_loader
returns-in-Ok-emit_loader g c =
    let size : length c.in-Ok.elf.bytes < 2 ^ 63 =
    (let s = c.file-bytes.type_inv in let e = ap (λ (z : List ℕ). length z) c.file-bytes.ensures.value in omega arith) in
    is_written c.in-Ok.elf.bytes c.args.file.now c.in-Ok-build.list c.args.sites.now c.args.reserves.now c.in-Ok-plan_all.planned
    c.in-Ok.ensures.file.0 (λ k. (c.type_inv.file k).fits) c.in-Ok.ensures.accepted c.in-Ok-build.ensures.built (omega arith)
    c.in-Ok-plan_all.ensures.planned c.in-Ok-group.groups c.in-Ok-lay.loader c.stub.result _ _
    (c.in-Ok-group.ensures.pieces ∙ ap ends_of c.deref.ensures.value ∙ c.in-Ok-code_ranges.ensures
    ∙ ap (λ (bs : List Built). map range_of bs) c.built.ensures) c.in-Ok-group.ensures.grouping c.in-Ok-lay.ensures size c.stub.ensures c.in-Ok-emit_loader.ensures.emits
