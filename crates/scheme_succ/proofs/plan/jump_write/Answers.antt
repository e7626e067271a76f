use Rattle.std.proofs.Common.{◌≡◌, ℕ, ◌+◌, min, List, ◌++◌, length, take, ap, ◌∙◌, arith, length-take, length-append}
use Rattle.start_list.specs.TurnViews.{memory_now}
use Rattle.start_list.specs.Turning.{view_of}
use Rattle.start_list.specs.Plans.{bytes_from}
use Rattle.scheme_search.proofs.MeetingJumps.{code_of}
use Rattle.scheme_search.proofs.OneJumpBytes.{jump_length}
use Rattle.scheme_search.proofs.WrittenBytes.{spelled_is}
use Rattle.scheme_succ.proofs.ChosenPlans.{is_told}
use Rattle.scheme_succ.proofs.plan.jump_write.Goals as goal

pub spell-front-requires-clause-place : goal.spell-front-requires-clause-place
spell-front-requires-clause-place c =
    (is_told c.args.here.now c.args.victim.now c.requires.beside c.args.choice.now
    c.requires.good).front_end

pub spell-back-requires-clause-place : goal.spell-back-requires-clause-place
spell-back-requires-clause-place c =
    (is_told c.args.here.now c.args.victim.now c.requires.beside c.args.choice.now c.requires.good).back_end

pub write_of-requires-clause-place : goal.write_of-requires-clause-place
write_of-requires-clause-place c = let f =
    (is_told c.args.here.now c.args.victim.now c.requires.beside c.args.choice.now
    c.requires.good).front_end in omega (arith, f)

-- The bytes that are handed on.
handed : (c : goal.After-write_of)
    → c.as_slice-3.result.now ≡ take c.args.here.now.site.len
    (code_of c.args.here.now.site.addr c.args.choice.now.pads 0x40 c.args.choice.now.pick.first)
    ++ take (min c.args.victim.now.len (c.args.choice.now.victim_pads + 5))
    (code_of c.args.victim.now.addr c.args.choice.now.victim_pads c.args.choice.now.pad c.args.choice.now.pick.second)
handed c =
    let k = (is_told c.args.here.now c.args.victim.now c.requires.beside c.args.choice.now
    c.requires.good) in
    let site = c.args.here.now.site in
    let e = c.args.victim.now in
    let d = c.args.choice.now in
    let front_end = k.front_end in
    let back_end = k.back_end in
    let first_low = c.requires.good.placed.0.2.below in
    let second_low = c.requires.good.placed.2.0.2.below in
    let front = spelled_is site.addr d.pads 0x40 d.pick.first c.spell-front.result (omega (arith, front_end))
    (omega (arith, first_low)) c.spell-front.ensures in
    let back = spelled_is e.addr d.victim_pads d.pad d.pick.second c.spell-back.result (omega (arith, back_end))
    (omega (arith, second_low)) c.spell-back.ensures in
    let one : c.try_extend_from_slice.new.self.items ≡ take site.len (code_of site.addr d.pads 0x40 d.pick.first) =
    (rw c.unwrap.ensures at c.try_extend_from_slice.ensures.ok)
    ∙ ap (λ (xs : List ℕ). xs ++ take c.from.result c.as_slice.result.now) c.new-bytes.ensures
    ∙ (λ i. take (c.from.ensures i) ((c.as_slice.ensures.value ∙ front) i)) in
    let two : c.try_extend_from_slice-2.new.self.items ≡ take site.len (code_of site.addr d.pads 0x40 d.pick.first) ++ take
    (min e.len (d.victim_pads + 5)) (code_of e.addr d.victim_pads d.pad d.pick.second) =
    (rw c.unwrap-2.ensures at c.try_extend_from_slice-2.ensures.ok)
    ∙ (λ i. one i ++ take ((c.from-2.ensures ∙ c.victim_written-written.ensures) i) ((c.as_slice-2.ensures.value ∙ back) i)) in
    c.as_slice-3.ensures.value ∙ two

pub returns-clause-after : goal.returns-clause-after
returns-clause-after c = let k =
    (is_told c.args.here.now c.args.victim.now c.requires.beside c.args.choice.now c.requires.good) in
    c.write_of.ensures.after ∙ handed c ∙ k.bytes

pub returns-clause-was : goal.returns-clause-was
returns-clause-was c =
    let k = (is_told c.args.here.now c.args.victim.now c.requires.beside c.args.choice.now
    c.requires.good) in
    let site = c.args.here.now.site in
    let e = c.args.victim.now in
    let d = c.args.choice.now in
    let n = min e.len (d.victim_pads + 5) in
    let short = c.requires.beside.short in
    let a = length-take site.len (code_of site.addr d.pads 0x40 d.pick.first) in
    let b = length-take n (code_of e.addr d.victim_pads d.pad d.pick.second) in
    let f = jump_length d.pads 0x40 (site.addr + d.pads + 5) d.pick.first in
    let g = jump_length d.victim_pads d.pad (e.addr + d.victim_pads + 5) d.pick.second in
    let whole = length-append (take site.len (code_of site.addr d.pads 0x40 d.pick.first))
    (take n (code_of e.addr d.victim_pads d.pad d.pick.second)) in
    let long : length c.as_slice-3.result.now ≡ site.len + n = ap (length {A = ℕ}) (handed c) ∙ omega (arith, whole, a, b, f, g, short) in
    c.write_of.ensures.was ∙ ap (λ j. bytes_from (memory_now (view_of c.args.here.now.turn)) site.addr j) long
