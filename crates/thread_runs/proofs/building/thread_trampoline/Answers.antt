use Rattle.std.proofs.Common.{◌≡◌, ℕ, ◌+◌, [], ◌++◌, List, length, Some, sym, ap, ◌∙◌}
use Rattle.length_decode.proofs.ShapeAnswers.{one_fields}
use Rattle.insn_form.specs.Instruction.{insn_of}
use Rattle.insn_form.specs.Displacing.{falls}
use Rattle.thread_runs.specs.ThreadCode.{event_if, thread_work}
use Rattle.thread_runs.specs.Building.{call_register, work_by, event_of, when_of}
use Rattle.thread_runs.proofs.ThreadTrampolines.{work_is, work_long, event_more}
use Rattle.thread_runs.proofs.building.thread_trampoline.Goals as goal
use Rattle.thread_runs.proofs.building.thread_trampoline.Goals.{After-code}

-- what is written
written : (c : After-code) → c.code.result.bytes ≡ event_if (event_of c.args.event) (when_of c.args.event) c.args.private c.args.number ++ work_by c.in_ok-register.register c.in_ok-work.work.bytes c.in_ok-work.work.falls (c.args.place + c.event_size.result) (c.args.from + length c.args.bytes.now)
written c =
    let w = work_by c.in_ok-register.register c.in_ok-work.work.bytes c.in_ok-work.work.falls (c.args.place + c.event_size.result) (c.args.from + length c.args.bytes.now) in
    c.code.ensures.bytes ∙ c.put_work.ensures ∙ ap (λ (z : List ℕ). z ++ w) (c.put_event_if.ensures.code ∙ ap (λ (z : List ℕ). z ++ event_if (event_of c.args.event) (when_of c.args.event) c.args.private c.args.number) c.new-code.ensures)

pub returns-clause-code : goal.returns-clause-code
returns-clause-code c = λ f i b.
    let s = c.requires.spelled in
    let same = one_fields f s.fields [] [] i.formed s.is.formed (ap (λ bs. bs ++ []) (sym b ∙ s.spelled)) in
    let insn : c.args.insn.now ≡ insn_of f = s.insn ∙ ap insn_of (sym same) in
    let next = c.args.from + length c.args.bytes.now in
    let event = event_if (event_of c.args.event) (when_of c.args.event) c.args.private c.args.number in
    written c ∙ ap (λ (z : List ℕ). event ++ z)
    (work_is (insn_of f) c.args.private f next (c.args.place + c.event_size.result) c.in_ok-register.register c.in_ok-work.work.bytes c.in_ok-work.work.falls
    (ap call_register (sym insn) ∙ c.in_ok-register.ensures) (c.in_ok-work.ensures.code f i b) (c.in_ok-work.ensures.falls ∙ ap falls insn))
    ∙ ap (λ (to : ℕ). event ++ thread_work f next to) (ap (λ z. c.args.place + z) c.event_size.ensures.value)

pub returns-clause-size : goal.returns-clause-size
returns-clause-size c =
    let next = c.args.from + length c.args.bytes.now in
    work_long (event_of c.args.event) (when_of c.args.event) c.args.insn.now (length c.args.bytes.now) c.args.from next (c.args.place + c.event_size.result) c.in_ok-register.register c.in_ok-work.work.bytes c.in_ok-work.work.falls
    c.in_ok-register.ensures c.in_ok-work.ensures.falls c.in_ok-work.ensures.len
    ∙ ap Some (event_more (event_of c.args.event) (when_of c.args.event) c.args.private c.args.number (work_by c.in_ok-register.register c.in_ok-work.work.bytes c.in_ok-work.work.falls (c.args.place + c.event_size.result) next) ∙ sym (ap length (written c)))
