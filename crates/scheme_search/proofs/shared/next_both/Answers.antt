use Rattle.scheme_search.proofs.shared.next_both.Goals as goal

pub returns-then-first : goal.returns-then-first
returns-then-first c =
    let next = c.next_in_turn.ensures in
    record { least = next.least; most = next.most; none = λ y t u low high f h. next.none y u t low high h f }
