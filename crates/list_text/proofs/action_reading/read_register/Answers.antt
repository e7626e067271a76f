use Rattle.std.proofs.Common.{◌≡◌, false, [], get_or, sym, ap, ◌∙◌, arith}
use Rattle.std.specs.Str.{bytes_eq}
use Rattle.list_text.specs.ActionWords.{register_names}
use Rattle.list_text.specs.Words.{register_of}
use Rattle.list_text.proofs.ActionNames.{place_passed}
use Rattle.list_text.proofs.action_reading.read_register.Goals as goal

pub loop-reg-preserved : goal.loop-reg-preserved
unfolding register_of
loop-reg-preserved c =
    let name = c.args.name.now in
    let other : bytes_eq (get_or register_names c.loop-reg.reg []) name ≡ false =
    ap (λ l. bytes_eq l name) (sym c.register_name.ensures.value) ∙ (sym c.eq.ensures ∙ c.if-eq.false) in
    c.loop-reg.invariant ∙ place_passed register_names c.loop-reg.reg name (omega arith) other
