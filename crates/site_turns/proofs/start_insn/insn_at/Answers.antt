use Rattle.std.proofs.Common.{take, sym}
use Rattle.site_turns.specs.StartInsns.{IsInsnAt}
use Rattle.site_turns.proofs.TrampolineCodes.{within, spells, low}
use Rattle.site_turns.proofs.start_insn.insn_at.Goals.{After-from}
use Rattle.site_turns.proofs.start_insn.insn_at.Goals as goal

got : (c : After-from) → IsInsnAt c.args.elf.now.bytes c.args.starts.now c.args.start c.in-Some.entry.now c.in-Some-as_ref.insn.now
    (take c.from.result c.window.result.now)
got c = record {
  at = sym c.in-Some.ensures.value;
  form = sym c.in-Some-as_ref.ensures.value;
  bytes = λ j. take (c.from.ensures j) (c.window.ensures j);
}

pub slice_bounds-bytes-end : goal.slice_bounds-bytes-end
slice_bounds-bytes-end c =
    let at = (goal.at.slice_bounds-bytes-end c).After-from in
    within _ _ _ _ _ _ c.requires.accepted c.requires.built (got at) c.from.result c.window.result.now c.from.ensures c.window.ensures

pub returns-clause-spelled : goal.returns-clause-spelled
returns-clause-spelled c = spells _ _ _ _ _ _ c.requires.accepted c.requires.built (got (goal.at.returns-clause-spelled c).After-from)

pub returns-clause-low : goal.returns-clause-low
returns-clause-low c = low _ _ _ _ _ _ c.requires.accepted c.requires.built (got (goal.at.returns-clause-low c).After-from)
