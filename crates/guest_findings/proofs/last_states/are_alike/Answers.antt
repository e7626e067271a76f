use Rattle.std.proofs.Common.{◌≡◌, length, sym}
use Rattle.std.proofs.lemmas.Bool.{not-false}
use Rattle.image_step.specs.Running.{machine_in}
use Rattle.guest_findings.proofs.ComparedRegisters.{same_core}
use Rattle.guest_findings.proofs.last_states.are_alike.Goals as goal

pub returns : goal.returns
returns c =
    let compared : c.core.result ≡ c.core-2.result = same_core c.core.result c.core-2.result (not-false _ (sym c.if-ne.ensures)) in
    let core : (machine_in c.args.one.now).core ≡ (machine_in c.args.other.now).core = cc in
    let rip : (machine_in c.args.one.now).rip ≡ (machine_in c.args.other.now).rip = cc in
    let left : length (machine_in c.args.one.now).world ≡ length (machine_in c.args.other.now).world = cc in
    (λ h. record { core = core; rip = rip; left = left; page = c.have_same_data.ensures.0 h }, λ s. c.have_same_data.ensures.1 s.page)
