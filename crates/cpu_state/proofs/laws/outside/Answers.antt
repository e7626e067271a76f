use Rattle.cpu_state.proofs.MemoryFrames.{lacking_frame, number_frame, code_frame, put_list_frame, put_list_keeps, put_list_hidden, number_elsewhere}
use Rattle.cpu_state.proofs.laws.outside.Goals as goal

pub returns-clause-read : goal.returns-clause-read
returns-clause-read c = λ set m m' a n e h. record {
  lacking = λ p. lacking_frame set m m' p a n e h;
  number = number_frame set m m' a n e h;
  code = code_frame set m m' a n e h;
}

pub returns-clause-alike : goal.returns-clause-alike
returns-clause-alike c = put_list_frame

pub returns-clause-kept : goal.returns-clause-kept
returns-clause-kept c = put_list_keeps

pub returns-clause-hidden : goal.returns-clause-hidden
returns-clause-hidden c = put_list_hidden

pub returns-clause-elsewhere : goal.returns-clause-elsewhere
returns-clause-elsewhere c = λ set m a bs b n h k. number_elsewhere set m a b n bs h k
