use Rattle.std.proofs.Common.{◌≡◌, ◌∙◌, ◌++◌, ℕ, [], ◌∷◌, Option, ap}
use Rattle.std.specs.Prelude.{slice_get}
use Rattle.start_entries.specs.Entries.{start_entry}
use Rattle.start_entries.specs.Marking.{reached_with, with_mark}
use Rattle.start_entries.proofs.WindowLengths.{window_short}
use Rattle.start_entries.proofs.StartsSoFar.{listed_on, listed_all, listed_rise}
use Rattle.start_entries.proofs.starts.Starts.list.Goals as goal

pub invariant_of-result : goal.invariant_of-result
invariant_of-result c =
    listed_rise c.args.elf.now.bytes c.args.starts.now c.loop-addr.items.items c.loop-addr.reached c.loop-addr.left.now
    c.requires c.in_default.ensures.cases c.loop-addr.invariant

pub returns : goal.returns
returns c =
    listed_all c.args.elf.now.bytes c.args.starts.now c.loop-addr.items.items c.loop-addr.reached c.loop-addr.left.now
    c.requires c.in_default.ensures.cases c.loop-addr.invariant

pub push_by_window-requires : goal.push_by_window-requires
push_by_window-requires c = rw c.window.ensures (window_short c.args.elf.now.bytes c.in-Some.addr.now)

pub loop-addr-preserved : goal.loop-addr-preserved
loop-addr-preserved c =
    let bytes = c.args.elf.now.bytes in
    let a = c.in-Some.addr.now in
    let next : c.copied-next.result ≡ slice_get c.in-Some.after.now 0 = c.copied-next.ensures ∙ c.first.ensures.value in
    let reached = c.in_ok-reached.ensures.reached bytes c.window.ensures in
    let pushed = c.in_ok-reached.ensures.pushed bytes c.window.ensures in
    listed_on bytes c.args.starts.now c.loop-addr.items.items c.push_by_window.new.items.items c.loop-addr.reached c.in_ok-reached.reached c.loop-addr.left.now a
    c.in-Some.after.now c.in-Some.ensures.cases.0
    (pushed ∙ ap (λ (n : Option ℕ). c.loop-addr.items.items ++ with_mark c.loop-addr.reached n (start_entry bytes a n) ∷ []) next)
    (reached ∙ ap (λ (n : Option ℕ). reached_with c.loop-addr.reached (start_entry bytes a n)) next) c.loop-addr.invariant
