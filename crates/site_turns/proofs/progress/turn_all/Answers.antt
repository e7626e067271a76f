use Rattle.std.proofs.Common.{ℕ, ◌≡◌, ◌-◌, List, ◌∷◌, take, get_or, length, sym, ap, ◌∙◌, subst, arith}
use Rattle.std.specs.Option.{option_copied}
use Rattle.std.proofs.lemmas.List.{take_all, length-take-le}
use Rattle.address_space.specs.Free.{extent_of}
use Rattle.site_turns.specs.States.{Scene}
use Rattle.site_turns.specs.Modes.{schemes_of}
use Rattle.site_turns.specs.Turned.{scene_by}
use Rattle.site_turns.proofs.DescendingTurns.{IsTurning, begun, highest_at, found_next, next_site, turning_next, all_turned}
use Rattle.site_turns.proofs.AppliedPlans.{setting_entries}
use Rattle.site_turns.proofs.progress.turn_all.Goals as goal

pub loop-number-init : goal.loop-number-init
loop-number-init c =
    let sites = c.args.sites.now in
    let g : Scene = scene_by c.args.setting.now (extent_of c.args.setting.now.private ∷ c.args.space.taken) in
    subst (λ (xs : List ℕ). IsTurning g (schemes_of c.args.setting.now.mode) sites xs c.in_ok-progress.progress) (sym (take_all (length sites) sites (omega arith)))
    (begun c.args.setting.now sites c.args.space.taken c.in_ok-progress.progress c.requires.ascend c.requires.listed
    c.in_ok-progress.ensures)

pub unwrap-entry-requires : goal.unwrap-entry-requires
unwrap-entry-requires c =
    let sites = c.args.sites.now in
    let n = c.loop-number.number in
    found_next c.args.setting.now.starts.now (take n sites) (take (n - 1) sites) (get_or sites (n - 1) 0) c.at.result
    (highest_at sites n (omega arith) (omega arith)) c.loop-number.invariant.listed c.at.ensures.value

pub turn-requires-clause-listed : goal.turn-requires-clause-listed
turn-requires-clause-listed c =
    let sites = c.args.sites.now in
    let n = c.loop-number.number in
    (next_site (scene_by c.args.setting.now (extent_of c.args.setting.now.private ∷ c.args.space.taken)) (schemes_of c.args.setting.now.mode) sites (take n sites)
    (take (n - 1) sites) (get_or sites (n - 1) 0) c.loop-number.progress c.unwrap-entry.result.now
    (highest_at sites n (omega arith) (omega arith)) (sym c.at.ensures.value ∙ ap option_copied c.unwrap-entry.ensures)
    c.loop-number.invariant).listed

pub turn-requires-clause-free : goal.turn-requires-clause-free
turn-requires-clause-free c =
    let sites = c.args.sites.now in
    let n = c.loop-number.number in
    (next_site (scene_by c.args.setting.now (extent_of c.args.setting.now.private ∷ c.args.space.taken)) (schemes_of c.args.setting.now.mode) sites (take n sites)
    (take (n - 1) sites) (get_or sites (n - 1) 0) c.loop-number.progress c.unwrap-entry.result.now
    (highest_at sites n (omega arith) (omega arith)) (sym c.at.ensures.value ∙ ap option_copied c.unwrap-entry.ensures)
    c.loop-number.invariant).free

pub loop-number-preserved : goal.loop-number-preserved
loop-number-preserved c =
    let sites = c.args.sites.now in
    let n = c.loop-number.number in
    turning_next (scene_by c.args.setting.now (extent_of c.args.setting.now.private ∷ c.args.space.taken)) (schemes_of c.args.setting.now.mode) sites (take n sites)
    (take (n - 1) sites) (get_or sites (n - 1) 0) _ c.loop-number.progress c.turn.new.self c.unwrap-entry.result.now
    (setting_entries c.args.setting.now c.requires.set) (highest_at sites n (omega arith) (omega arith))
    (sym c.at.ensures.value ∙ ap option_copied c.unwrap-entry.ensures) (sym (length-take-le (n - 1) sites (omega arith)))
    c.loop-number.invariant (c.in_ok-turn.ensures (extent_of c.args.setting.now.private ∷ c.args.space.taken))

pub returns : goal.returns
returns c =
    let sites = c.args.sites.now in
    let none : c.loop-number.number ≡ 0 = omega arith in
    all_turned c.args.setting.now sites (take c.loop-number.number sites) c.args.space.taken c.loop-number.progress
    (ap (λ n. take n sites) none) c.requires.ascend c.requires.listed c.loop-number.invariant
