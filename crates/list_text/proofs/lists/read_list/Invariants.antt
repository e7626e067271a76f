use Rattle.std.proofs.Common.{◌≡◌, ◌+◌, ◌≤◌, length}
use Rattle.list_text.specs.Lines.{lines}
use Rattle.list_text.specs.Lists.{judged, list_of}
use Rattle.list_text.proofs.JudgedLines.{after_front}
use Rattle.list_text.proofs.lists.read_list.Given as goal

abbrev pub invariant-loop-rest : goal.invariant-loop-rest
invariant-loop-rest l = record {
  place : l.place ≤ l.limit + 1;
  rest : list_of l.limit l.text ≡ after_front l.numbers.items (judged l.limit l.place l.before (lines l.rest));
}

abbrev pub decreases-loop-rest : goal.decreases-loop-rest
decreases-loop-rest l = length l.rest
