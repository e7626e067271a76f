use Rattle.std.proofs.Common.{ap, ◌∙◌}
use Rattle.command_io.specs.Summary.{done_status}
use Rattle.guest_findings.specs.Generating.{findings_of}
use Rattle.guest_findings.proofs.GuestFindings.{is_made, made_ready, findings_true}
use Rattle.inspect_commands.proofs.gen_command.tell_guest.Goals as goal

pub findings-requires : goal.findings-requires
findings-requires c =
    let e = c.in_ok-guest.ensures in
    let m = is_made c.args.seed c.args.blocks c.in_ok-guest.guest c.requires.some c.requires.most e.file e.starts e.sites e.script e.world in
    made_ready c.args.seed c.args.blocks c.in_ok-guest.guest m

pub returns : goal.returns
returns c =
    let e = c.in_ok-guest.ensures in
    let m = is_made c.args.seed c.args.blocks c.in_ok-guest.guest c.requires.some c.requires.most e.file e.starts e.sites e.script e.world in
    record {
      findings = findings_of c.in_ok-found.found;
      are = findings_true c.args.seed c.args.blocks c.in_ok-guest.guest c.in_ok-found.found m c.in_ok-found.ensures;
      told = c.in_ok-gen_text.ensures;
      answered = c.done_status.ensures ∙ ap done_status c.rows.ensures;
    }
