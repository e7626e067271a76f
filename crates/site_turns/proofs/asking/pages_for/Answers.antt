use Rattle.std.proofs.Common.{arith}
use Rattle.pun_base.proofs.PrivateLengths.{has_front}
use Rattle.trampoline.proofs.EventData.{few_pages}
use Rattle.site_turns.proofs.asking.pages_for.Goals as goal

pub overflow_cast-private_len : goal.overflow_cast-private_len
overflow_cast-private_len c =
    omega (arith, c.private_len.ensures.value, few_pages c.args.action c.args.sites c.requires.action c.requires.sites)

pub returns-clause-some : goal.returns-clause-some
returns-clause-some c =
    omega (arith, c.private_len.ensures.value, c.div_ceil.ensures, has_front c.args.action c.args.sites)

pub returns-clause-few : goal.returns-clause-few
returns-clause-few c =
    omega (arith, c.private_len.ensures.value, c.div_ceil.ensures, few_pages c.args.action c.args.sites c.requires.action c.requires.sites)
