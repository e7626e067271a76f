-- Whole events: they run and leave what their lists say.
use Rattle.std.proofs.Common.{◌≡◌, ℕ, zero, suc, ◌+◌, ◌≤◌, List, [], ◌∷◌, take, refl, ap, ◌∙◌, arith}
use Rattle.pun_base.specs.Memory.{Bytes}
use Rattle.cpu_state.specs.declared.state.Core.{Core}
use Rattle.insn_form.specs.Machine.{Machine}
use Rattle.insn_form.specs.Touched.{perms_at}
use Rattle.insn_form.specs.Runs.{nowhere}
use Rattle.relocate_insn.proofs.FixedCode.{fixed_on}
use Rattle.relocate_insn.proofs.PrivateRange.{step_perms}
use Rattle.event_steps.proofs.ThreadSteps.{keeps_perms, lacking_on}
use Rattle.event_steps.specs.declared.step.Datum.{Datum}
use Rattle.event_steps.specs.declared.step.EventStep.{EventStep}
use Rattle.event_steps.specs.EventSteps.{Mode, size, long, code}
use Rattle.event_steps.specs.MadeSteps.{StepIn, after, skipped}
use Rattle.event_steps.specs.DoneSteps.{done, address, AreFree}
use Rattle.event_steps.specs.WholeEvents.{left_in, EventsLeave}
use Rattle.event_steps.specs.EventSteps.Mode.{Alone, Shared}
use Rattle.event_steps.proofs.SingleSteps.{some_size}
use Rattle.event_steps.proofs.ListedCode.{step_goes, step_leads, same_code, rest_stands}
use Rattle.event_steps.proofs.LocalSteps.{steps_done}
use Rattle.relocate_insn.specs.Running.{Inside}

-- states within an extent are within each larger one
pub inside_more : (lo hi lo' hi' : ℕ) (xs : List Machine) → lo' ≤ lo → hi ≤ hi' → Inside lo hi xs → Inside lo' hi' xs
inside_more lo hi lo' hi' [] l h i = tt
inside_more lo hi lo' hi' (x ∷ xs) l h i = (omega (arith, i.0), omega (arith, i.1), inside_more lo hi lo' hi' xs l h i.2)

-- a step keeps permissions
pub same_perms : (mode : Mode) (v w : Machine) → StepIn mode v w → (x : ℕ) → perms_at w.mem x ≡ perms_at v.mem x
same_perms Alone v w st = step_perms nowhere v w st
same_perms Shared v w st = keeps_perms st.0 v w st.1

-- so data stay free
pub free_on : (ds : List Datum) (c : Core) (m w : Bytes) → ((x : ℕ) → perms_at w x ≡ perms_at m x) → AreFree ds c m → AreFree ds c w
free_on [] c m w e f = tt
free_on (d ∷ ds) c m w e f = ((λ t. lacking_on 4 m w (address d.place c) d.size e ∙ f.0 t), lacking_on 2 m w (address d.place c) d.size e ∙ f.1, free_on ds c m w e f.2)

pub taken_most : (k : ℕ) (ss : List EventStep) → long (take k ss) ≤ long ss
taken_most zero ss = omega arith
taken_most (suc k) [] = omega arith
taken_most (suc k) (s ∷ ss) = let q = taken_most k ss in omega (arith, q)

-- a whole event
pub events_leave : EventsLeave
events_leave mode ds c zero [] at l v are low r code lie apart free fits b =
    ([], record { run = tt; many = refl; few = omega arith; there = r; inside = tt; beside = b; mem = refl; world = refl; kept = λ x o. refl })
events_leave mode ds c (suc k) [] at l v are low r code lie apart free fits b =
    ([], record { run = tt; many = refl; few = omega arith; there = r; inside = tt; beside = b; mem = refl; world = refl; kept = λ x o. refl })
events_leave mode ds c (suc k) (s ∷ ss) at l v are low r stands lie apart free fits b =
    let q = events_leave mode ds c k ss (at + size s) l v are.3 (omega (arith, low)) (omega (arith, r)) (rest_stands v.mem ds at s ss low stands) lie apart free fits b in
    let e = q.1 in (
      q.0,
      record {
        run = e.run;
        many = e.many;
        few = omega (arith, e.few);
        there = omega (arith, e.there);
        inside = inside_more (at + size s + 1) (at + size s + long ss + 1) (at + 1) (at + long (s ∷ ss) + 1) q.0 (omega arith) (omega arith) e.inside;
        beside = e.beside;
        mem = e.mem;
        world = e.world;
        kept = e.kept;
      },
    )
events_leave mode ds c zero (s ∷ ss) at l v are low r stands lie apart free fits b =
    let w = after ds s ss at v in
    let here : v.rip ≡ at = omega (arith, r) in
    let d = steps_done mode ds c s ss at l v are.0 are.1 lie apart free fits.0 b in
    let st = step_goes mode ds s ss at v are low here stands d.0 in
    let to = step_leads ds s ss at v low are.2 ∙ ap (λ z. at + size s + long (take (skipped s z) ss)) b.core in
    let q = events_leave mode ds c (skipped s l.core) ss (at + size s) (done s l) w are.3 (omega (arith, low)) to
    (fixed_on v.mem w.mem (at + size s) (code ds ss) (same_code mode v w st) (rest_stands v.mem ds at s ss low stands)) lie apart (free_on ds c v.mem w.mem (same_perms mode v w st) free) fits.1 d.1.beside in
    let e = q.1 in
    let n = some_size s in
    let most = taken_most (skipped s l.core) ss in (
      w ∷ q.0,
      record {
        run = (st, e.run);
        many = ap suc e.many;
        few = omega (arith, e.few);
        there = omega (arith, e.there);
        inside = (
          omega (arith, to, n.0),
          omega (arith, to, most),
          inside_more (at + size s + 1) (at + size s + long ss + 1) (at + 1) (at + long (s ∷ ss) + 1) q.0 (omega arith) (omega arith) e.inside,
        );
        beside = e.beside;
        mem = e.mem ∙ ap (left_in ds c (skipped s l.core) ss (done s l)) d.1.mem;
        world = e.world ∙ d.1.world;
        kept = λ x o. e.kept x o ∙ d.1.kept x o;
      },
    )
