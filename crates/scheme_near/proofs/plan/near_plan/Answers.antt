use Rattle.std.proofs.Common.{◌+◌, ◌-◌, map, refl, arith}
use Rattle.pun_base.specs.Ranges.{is_within}
use Rattle.start_list.specs.PlanJumps.{is_punned}
use Rattle.start_list.specs.Plans.{pun_run}
use Rattle.scheme_search.proofs.JumpBytes.{same_runs}
use Rattle.scheme_near.specs.Choices.{jumps}
use Rattle.scheme_near.proofs.ChosenPlans.{is_ready, is_told}
use Rattle.scheme_near.proofs.plan.near_plan.Goals as goal

pub jump_writes-requires : goal.jump_writes-requires
jump_writes-requires c = is_ready c.args.here.now c.args.choice.now c.requires

pub puns_behind-requires-clause-place : goal.puns_behind-requires-clause-place
puns_behind-requires-clause-place c =
    let k = is_told c.args.here.now c.args.choice.now c.requires in
    let end = k.inner_end in omega (arith, end)

pub returns : goal.returns
returns c =
    let site = c.args.here.now.site in
    let d = c.args.choice.now in
    let e = d.victim in
    let k = is_told c.args.here.now d c.requires in
    let puns = c.puns_behind.ensures in
    record {
      scheme = refl;
      tramps = c.two_tramps.ensures;
      written = c.jump_writes.ensures.runs;
      writes = c.jump_writes.ensures.tells;
      punned = same_runs (is_within (e.addr + e.len) (d.offset + 5 - e.len)) (is_punned (jumps site d)) (map pun_run c.puns_behind.result)
          k.punned puns.runs;
      puns = puns.bytes;
    }
