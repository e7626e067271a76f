use Rattle.std.proofs.Common.{◌-◌, arith}
use Rattle.image_check.proofs.FileParts.{rest_is}
use Rattle.image_check.proofs.standing.rest_of.Goals as goal

pub returns : goal.returns
returns c =
    let k = c.if-at-segment.false in
    rest_is c.args.segment.now.offset c.args.segment.now.filesz (c.args.addr - c.args.segment.now.vaddr) c.args.file.now (omega arith)
