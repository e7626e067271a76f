use Rattle.std.proofs.Common.{inl, inr, Ok, Err, refl}
use Rattle.rewrite_core.specs.declared.rewrite.RewriteError.TheVariants as rewrite
use Rattle.rewrite_core.specs.Causes.{emit_error}
use Rattle.rewrite_core.proofs.PlannedCalls.{by_error}
use Rattle.loader_form.specs.Laid.{loader_frame}
use Rattle.loader_form.specs.Lay.{laid_of}
use Rattle.loader_form.specs.Loading.{load_job}
use Rattle.rewrite_loader.specs.declared.error.LoaderError.TheVariants.{Rewrite}
use Rattle.rewrite_loader.specs.Causes.{load_error}
use Rattle.rewrite_loader.specs.Writing.{WritesLoader}
use Rattle.rewrite_loader.proofs.WrittenLoaders.{may_group_built, same_groups, loading, emitted_stays}
use Rattle.rewrite_loader.proofs.writing.write_loader.Goals as goal

pub code_groups-requires-clause-placed : goal.code_groups-requires-clause-placed
code_groups-requires-clause-placed g c = (may_group_built _ c.args.planned _ c.built.ensures c.requires.writable).placed

pub code_groups-requires-clause-disjoint : goal.code_groups-requires-clause-disjoint
code_groups-requires-clause-disjoint g c = (may_group_built _ c.args.planned _ c.built.ensures c.requires.writable).disjoint

pub returns-in_err-groups-clause-writes : goal.returns-in_err-groups-clause-writes
returns-in_err-groups-clause-writes g c =
    by_error (WritesLoader _ _ c.args.planned c.args.name.now _ _) _ (Rewrite rewrite.Memory) c.from_residual.ensures.1 (inl (refl, refl))

pub lay-requires : goal.lay-requires
lay-requires g c = c.requires.writable.placed

pub returns-in_err-loader-clause-writes : goal.returns-in_err-loader-clause-writes
returns-in_err-loader-clause-writes g c =
    by_error (WritesLoader _ _ c.args.planned c.args.name.now _ _) _ (load_error c.in_err-loader.field-0.0) c.from_residual-in_err-loader.ensures.1
    (inr (inl (
      record {
        groups = c.in_ok-groups.groups;
        are_groups = same_groups c.args.planned c.in_ok-groups.groups _ c.built.ensures c.in_ok-groups.ensures.pieces c.in_ok-groups.ensures.grouping;
        cause = c.in_err-loader.field-0.0;
        is = refl;
        lays = c.in_err-loader.ensures;
      },
      refl,
    )))

pub emit_loader-requires-clause-loading : goal.emit_loader-requires-clause-loading
emit_loader-requires-clause-loading g c =
    loading _ c.args.reserves.now c.args.planned c.in_ok-groups.groups c.in_ok-loader.loader c.requires.writable
    (same_groups c.args.planned c.in_ok-groups.groups _ c.built.ensures c.in_ok-groups.ensures.pieces c.in_ok-groups.ensures.grouping)
    c.in_ok-loader.ensures

pub returns-in_err-emit_loader-clause-writes : goal.returns-in_err-emit_loader-clause-writes
returns-in_err-emit_loader-clause-writes g c =
    by_error (WritesLoader _ _ c.args.planned c.args.name.now _ _) _ (Rewrite (emit_error c.in_err-emit_loader.field-0.0))
    c.from_residual-in_err-emit_loader.ensures.1
    (inr (inr (record {
      groups = c.in_ok-groups.groups;
      loader = c.in_ok-loader.loader;
      laid = record {
        are_groups = same_groups c.args.planned c.in_ok-groups.groups _ c.built.ensures c.in_ok-groups.ensures.pieces c.in_ok-groups.ensures.grouping;
        laid = c.in_ok-loader.ensures;
      };
      cause = c.in_err-emit_loader.field-0.0;
      is = refl;
      emitted = c.in_err-emit_loader.ensures.emits;
    })))

pub returns-in_err-emit_loader-clause-stays : goal.returns-in_err-emit_loader-clause-stays
returns-in_err-emit_loader-clause-stays g c =
    emitted_stays (loader_frame (load_job c.args.elf.now.bytes c.args.planned c.in_ok-groups.groups) (laid_of c.in_ok-loader.loader))
    c.args.name.now _ _ (Err c.in_err-emit_loader.field-0.0) c.in_err-emit_loader.ensures.emits

pub returns-clause-writes : goal.returns-clause-writes
returns-clause-writes g c = record {
  planned = refl;
  loader = c.in_ok-loader.loader;
  laid = record {
    are_groups = same_groups c.args.planned c.in_ok-groups.groups _ c.built.ensures c.in_ok-groups.ensures.pieces c.in_ok-groups.ensures.grouping;
    laid = c.in_ok-loader.ensures;
  };
  emitted = c.in_ok-emit_loader.ensures.emits;
  loads = c.in_ok-emit_loader.ensures.loads;
}

pub returns-clause-stays : goal.returns-clause-stays
returns-clause-stays g c =
    emitted_stays (loader_frame (load_job c.args.elf.now.bytes c.args.planned c.in_ok-groups.groups) (laid_of c.in_ok-loader.loader))
    c.args.name.now _ _ (Ok tt) c.in_ok-emit_loader.ensures.emits
