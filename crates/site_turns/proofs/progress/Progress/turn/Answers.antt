use Rattle.std.proofs.Common.{refl}
use Rattle.site_turns.proofs.OneTurn.{can_enact, turned, judged_here}
use Rattle.site_turns.proofs.progress.Progress.turn.Goals as goal

pub enact-requires-clause-can : goal.enact-requires-clause-can
enact-requires-clause-can c =
    can_enact c.args.setting.now c.args.site.now c.args.self.now c.judge-outcome.result c.requires.listed
    (judged_here c.args.setting.now c.args.site.now c.args.self.now c.judge-outcome.result c.event_size.result c.threads.result
    c.event_size.ensures.value c.threads.ensures c.judge-outcome.ensures)

pub returns : goal.returns
returns c = λ shut.
    turned c.args.setting.now c.requires.set shut c.args.site.now c.args.number c.requires.listed c.args.self.now c.judge-outcome.result
    c.enact.new.self
    (record { locks = c.enact.new.self.locks; space = c.enact.new.self.space; rows = c.push.new.self })
    (record { site = c.args.site.now.addr; number = c.args.number; outcome = c.judge-outcome.result })
    (judged_here c.args.setting.now c.args.site.now c.args.self.now c.judge-outcome.result c.event_size.result c.threads.result
    c.event_size.ensures.value c.threads.ensures c.judge-outcome.ensures) c.in_ok-enact.ensures refl refl c.in_ok-push.ensures.items refl
