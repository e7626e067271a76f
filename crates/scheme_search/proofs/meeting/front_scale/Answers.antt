use Rattle.std.proofs.Common.{◌+◌, ◌≤◌, arith}
use Rattle.scheme_search.proofs.MeetingPicks.{power_bounds}
use Rattle.scheme_search.proofs.meeting.front_scale.Goals as goal

pub returns-else-shared_bytes-eq0-clause-some : goal.returns-else-shared_bytes-eq0-clause-some
returns-else-shared_bytes-eq0-clause-some c =
    let some : 1 ≤ c.shared_bytes.result = omega (arith, c.if-shared_bytes-eq0.false) in
    let p = power_bounds (c.args.meeting.now.own + c.args.meeting.now.pads + 1) (omega (arith, some, c.shared_bytes.ensures)) in
    let e = c.value_count.ensures in
    (omega (arith, e, p.0), omega (arith, e, p.1))
