use Rattle.std.proofs.Common.{◌≡◌, ℕ, ◌+◌, min, true, List, [], ◌∷◌, ◌++◌, length, map, refl, sym, ap, ◌∙◌, subst, arith}
use Rattle.std.specs.List.{AllByRecursion}
use Rattle.pun_base.specs.declared.plan.Write.{Write}
use Rattle.pun_base.specs.declared.tramp.Tramp.{Tramp}
use Rattle.start_list.specs.PlanJumps.{is_written, after_writes}
use Rattle.start_list.specs.TurnViews.{memory_now}
use Rattle.start_list.specs.Turning.{view_of}
use Rattle.start_list.specs.Plans.{AreRuns, TellsWrite, write_run, bytes_from}
use Rattle.scheme_search.specs.Padded.{jumps}
use Rattle.scheme_search.proofs.ConsecutiveBytes.{length-bytes_from}
use Rattle.scheme_search.proofs.OneJumpPlans.{written_run}
use Rattle.scheme_search.proofs.plan.padded_plan.Goals as goal

pub returns : goal.returns
returns c =
    let v = view_of c.args.here.now.turn in
    let site = c.args.here.now.site in
    let p = c.args.pads in
    let t = c.args.place in
    let w = c.jump_write.result in
    let m = after_writes (memory_now v) (jumps site p t) in
    let here_tramp : Tramp = record { place = t; start = site.addr; event = true } in
    let one : c.push-2.new.self ≡ w ∷ [] = c.push-2.ensures ∙ ap (λ (ws : List Write). ws ++ w ∷ []) c.new-writes.ensures in
    let was = c.jump_write.ensures.was in
    let long : length w.was ≡ min site.len (p + 5) = ap (length {A = ℕ}) was ∙ length-bytes_from (memory_now v) site.addr (min site.len (p + 5)) in
    let at = c.jump_write.ensures.addr in
    let told : TellsWrite (memory_now v) m w = (
      was ∙ sym (ap (λ a. bytes_from (memory_now v) a (length w.was)) at ∙ ap (λ n. bytes_from (memory_now v) site.addr n) long),
      c.jump_write.ensures.after ∙ sym (ap (λ a. bytes_from m a (length w.was)) at ∙ ap (λ n. bytes_from m site.addr n) long),
    ) in
    let run : AreRuns (is_written (jumps site p t)) (record { addr = site.addr; size = length w.was } ∷ []) = record {
      ascend = (omega (arith, long), tt, tt);
      told = written_run site p t (length w.was) long;
    } in
    let here : AreRuns (is_written (jumps site p t)) (map write_run (w ∷ [])) =
    subst (λ (a : ℕ). AreRuns (is_written (jumps site p t)) (record { addr = a; size = length w.was } ∷ [])) (sym at) run in
    record {
      named = refl;
      tramps = c.push.ensures ∙ ap (λ (ts : List Tramp). ts ++ here_tramp ∷ []) c.new-tramps.ensures;
      written = subst (λ (ws : List Write). AreRuns (is_written (jumps site p t)) (map write_run ws)) (sym one) here;
      writes = subst (λ (ws : List Write). AllByRecursion (TellsWrite (memory_now v) m) ws) (sym one) (told, tt);
      punned = c.jump_puns.ensures.runs t;
      puns = c.jump_puns.ensures.bytes;
    }
