-- What `settle` and `unsettle` do is what a command does that writes one output.
use Rattle.std.proofs.Common.{ℕ, length, Option, Result, refl, arith}
use Rattle.pun_base.specs.Shown.{DeskState, SinkState, Told}
use Rattle.command_words.specs.Words.{SettleNames, UnsettleNames}
use Rattle.command_io.specs.Endings.{Delivers}
use Rattle.command_io.specs.Writing.{KeepsRest, Writes}
use Rattle.command_io.specs.Failing.{Failed, Answer, end_message}
use Rattle.command_io.specs.Works.{AreApart, Ends}
use Rattle.settle_commands.specs.SettleAnswers.{settle_outputs, settled_text, settle_writing}
use Rattle.settle_commands.specs.UnsettleAnswers.{unsettle_outputs, unsettled_text, unsettle_writing}
use Rattle.command_io.proofs.DeliveredTexts.{HasOwnHead}
use Rattle.command_io.proofs.WritingEnds.{IsApart, writes}

settled_head : (base : ℕ) → HasOwnHead (settled_text base)
unfolding settled_text
settled_head base = record { first = 115; rest = _; is = refl; own = λ e. omega arith }

unsettled_head : (len : ℕ) → HasOwnHead (unsettled_text len)
unfolding unsettled_text
unsettled_head len = record { first = 117; rest = _; is = refl; own = λ e. omega arith }

-- their texts and statuses are their own
settle_apart : (n : SettleNames) (base : Option ℕ) → IsApart (settle_writing n base)
settle_apart n base = record { own = λ job. refl; odd = λ status o q. (let z = q.0 in omega arith); head = λ job. settled_head job.base }

unsettle_apart : (n : UnsettleNames) → IsApart (unsettle_writing n)
unsettle_apart n = record { own = λ bytes. refl; odd = λ status o q. (let z = q.0 in omega arith); head = λ bytes. unsettled_head (length bytes) }

-- ends that were printed
pub settle_ended : (n : SettleNames) (base : Option ℕ) (s t : DeskState) (k l : SinkState) (r : Result Answer Failed) (status : ℕ)
    → Told (KeepsRest (settle_outputs n)) s.held t.held → Ends (settle_writing n base) s t r → Delivers (end_message r) k l status
    → Writes (settle_writing n base) s t k l status
settle_ended n base s t k l r status rest e d =
    let apart : AreApart (settle_outputs n) = (λ b. b, tt) in
    writes (settle_writing n base) (settle_apart n base) apart s t k l r status rest e d

pub unsettle_ended : (n : UnsettleNames) (s t : DeskState) (k l : SinkState) (r : Result Answer Failed) (status : ℕ)
    → Told (KeepsRest (unsettle_outputs n)) s.held t.held → Ends (unsettle_writing n) s t r → Delivers (end_message r) k l status
    → Writes (unsettle_writing n) s t k l status
unsettle_ended n s t k l r status rest e d =
    let apart : AreApart (unsettle_outputs n) = (λ b. b, tt) in
    writes (unsettle_writing n) (unsettle_apart n) apart s t k l r status rest e d
