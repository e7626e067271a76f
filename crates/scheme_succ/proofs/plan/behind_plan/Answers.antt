use Rattle.std.proofs.Common.{◌≡◌, ℕ, ◌+◌, ◌-◌, List, [], ◌∷◌, ◌++◌, length, map, refl, sym, ap, ◌∙◌, subst, arith}
use Rattle.std.proofs.Math.Bool.{or-false}
use Rattle.std.specs.List.{AllByRecursion}
use Rattle.pun_base.specs.declared.plan.Write.{Write}
use Rattle.pun_base.specs.Ranges.{is_within}
use Rattle.start_list.specs.PlanJumps.{is_written, is_punned, after_writes}
use Rattle.start_list.specs.TurnViews.{memory_now}
use Rattle.start_list.specs.Turning.{view_of}
use Rattle.start_list.specs.Plans.{AreRuns, TellsWrite, Run, write_run, pun_run, bytes_from}
use Rattle.scheme_search.proofs.ConsecutiveBytes.{length-bytes_from}
use Rattle.scheme_search.proofs.JumpBytes.{same_runs}
use Rattle.scheme_succ.specs.Choices.{jumps, written_count}
use Rattle.scheme_succ.proofs.ChosenPlans.{is_told}
use Rattle.scheme_succ.proofs.plan.behind_plan.Goals as goal

pub puns_behind-requires-clause-place : goal.puns_behind-requires-clause-place
puns_behind-requires-clause-place c =
    let k = is_told c.args.here.now c.args.victim.now c.requires.beside c.args.choice.now c.requires.good in
    let end = k.back_end in omega (arith, end)

pub returns : goal.returns
returns c =
    let k = (is_told c.args.here.now c.args.victim.now c.requires.beside c.args.choice.now
    c.requires.good) in
    let v = view_of c.args.here.now.turn in
    let site = c.args.here.now.site in
    let e = c.args.victim.now in
    let d = c.args.choice.now in
    let w = c.jump_write.result in
    let both = jumps site e d in
    let m = after_writes (memory_now v) both in
    let n = written_count site e d in
    let some = k.entry.some in
    let puns = c.puns_behind.ensures in
    let one : c.push.new.self ≡ w ∷ [] = c.push.ensures ∙ ap (λ (ws : List Write). ws ++ w ∷ []) c.new-writes.ensures in
    let was = c.jump_write.ensures.was in
    let long : length w.was ≡ n = ap (length {A = ℕ}) was ∙ length-bytes_from (memory_now v) site.addr n in
    let at = c.jump_write.ensures.addr in
    let told : TellsWrite (memory_now v) m w = (
      was ∙ (λ i. bytes_from (memory_now v) (sym at i) (sym long i)),
      c.jump_write.ensures.after ∙ (λ i. bytes_from m (sym at i) (sym long i)),
    ) in
    let run : AreRuns (is_written both) (record { addr = site.addr; size = n } ∷ []) = record {
      ascend = (omega (arith, some), tt, tt);
      told = λ x. or-false (is_within site.addr n x) ∙ k.written x;
    } in
    let runs : AreRuns (is_written both) (map write_run (w ∷ [])) =
    subst (λ (r : Run). AreRuns (is_written both) (r ∷ [])) (λ i. record { addr = sym at i; size = sym long i }) run in
    record {
      scheme = refl;
      tramps = c.two_tramps.ensures;
      written = subst (λ (ws : List Write). AreRuns (is_written both) (map write_run ws)) (sym one) runs;
      writes = subst (λ (ws : List Write). AllByRecursion (TellsWrite (memory_now v) m) ws) (sym one) (told, tt);
      punned = same_runs (is_within (e.addr + e.len) (d.victim_pads + 5 - e.len)) (is_punned both) (map pun_run c.puns_behind.result) k.punned
          puns.runs;
      puns = puns.bytes;
    }
