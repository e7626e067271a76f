use Rattle.std.proofs.Common.{◌≡◌, ℕ, ◌+◌, ◌<◌, ◌≤◌, false, List, subst, ap, sym, ◌∙◌}
use Rattle.start_entries.specs.declared.entry.StartEntry.{StartEntry}
use Rattle.image_runs.specs.Listed.{are_short, is_listed_byte}
use Rattle.image_step.proofs.AccessesAndStarts.{avoid_all}
use Rattle.image_step.proofs.quieting.is_clear.Goals as goal

pub are_apart-requires-clause-short : goal.are_apart-requires-clause-short
are_apart-requires-clause-short c = ap are_short c.entries.ensures.value ∙ c.requires

pub returns-in-Some : goal.returns-in-Some
returns-in-Some c = λ t.
    let h = c.in-Some.ensures in
    let free : (x : ℕ) → c.args.addr ≤ x → x < c.args.addr + c.args.count → is_listed_byte c.args.starts.now x ≡ false =
    λ x l m. ap (λ (ls : List StartEntry). is_listed_byte ls x) (sym c.entries.ensures.value)
    ∙ c.are_apart.ensures t x l (subst (λ (n : ℕ). x < n) (sym h.1) m) in
    avoid_all (is_listed_byte c.args.starts.now) c.args.addr c.args.count h.0 free
