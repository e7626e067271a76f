use Rattle.std.proofs.Common.{inr, Ok, Err, refl}
use Rattle.rewrite_core.specs.Causes.{emit_error}
use Rattle.rewrite_core.specs.Patching.{WritesPatch}
use Rattle.rewrite_core.proofs.PlannedCalls.{by_error, groupable, can_emit_planned, emits_planned}
use Rattle.rewrite_core.proofs.rewrite.write_patch.Goals as goal

pub patch_of-requires : goal.patch_of-requires
patch_of-requires g c = groupable _ c.args.planned c.requires.writable

pub emit-requires-clause-backed : goal.emit-requires-clause-backed
emit-requires-clause-backed g c =
    (can_emit_planned _ _ _ c.in_ok-patch.ensures _ _ c.deref.ensures.value c.deref-2.ensures.value c.requires.writable).backed

pub emit-requires-clause-groups : goal.emit-requires-clause-groups
emit-requires-clause-groups g c =
    (can_emit_planned _ _ _ c.in_ok-patch.ensures _ _ c.deref.ensures.value c.deref-2.ensures.value c.requires.writable).groups_of

pub emit-requires-clause-free : goal.emit-requires-clause-free
emit-requires-clause-free g c =
    (can_emit_planned _ _ _ c.in_ok-patch.ensures _ _ c.deref.ensures.value c.deref-2.ensures.value c.requires.writable).free

pub emit-requires-clause-nothing_there : goal.emit-requires-clause-nothing_there
emit-requires-clause-nothing_there g c =
    (can_emit_planned _ _ _ c.in_ok-patch.ensures _ _ c.deref.ensures.value c.deref-2.ensures.value c.requires.writable).nothing_there

pub returns-in_err-emit-clause-writes : goal.returns-in_err-emit-clause-writes
returns-in_err-emit-clause-writes g c =
    by_error (WritesPatch c.args.elf.now.bytes c.args.planned c.args.name.now _ _) _ (emit_error c.in_err-emit.field-0.0)
    c.from_residual-in_err-emit.ensures.1
    (inr (
      c.in_ok-patch.patch.groups,
      c.in_err-emit.field-0.0,
      c.in_ok-patch.ensures.groups,
      refl,
      emits_planned c.args.elf.now.bytes c.args.planned c.in_ok-patch.patch c.in_ok-patch.ensures _ _ c.deref.ensures.value c.deref-2.ensures.value
          c.args.name.now (g.D.Desk.seen c.args.desk.now) (g.D.Desk.seen c.emit.new.desk) (Err c.in_err-emit.field-0.0) c.in_err-emit.ensures.emits,
    ))

pub returns-clause-writes : goal.returns-clause-writes
returns-clause-writes g c = (
  c.in_ok-patch.ensures,
  emits_planned c.args.elf.now.bytes c.args.planned c.in_ok-patch.patch c.in_ok-patch.ensures _ _ c.deref.ensures.value c.deref-2.ensures.value
      c.args.name.now (g.D.Desk.seen c.args.desk.now) (g.D.Desk.seen c.emit.new.desk) (Ok tt) c.in_ok-emit.ensures.emits,
)
