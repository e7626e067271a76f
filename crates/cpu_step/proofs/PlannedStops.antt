-- What is planned, by what the code found out.
use Rattle.std.proofs.Common.{◌≡◌, ℕ, Bool, true, false, not, cond, eqb, List, Option, Some, None, unwrap_or, Result, Ok, Err, refl, sym, ap, ◌∙◌}
use Rattle.pun_base.specs.Memory.{Bytes}
use Rattle.cpu_state.specs.declared.state.Core.{Core}
use Rattle.cpu_state.specs.declared.world.Question.{Question}
use Rattle.cpu_state.specs.declared.world.Entry.{Entry}
use Rattle.cpu_state.specs.declared.world.MemWrite.{MemWrite}
use Rattle.insn_form.specs.declared.effect.Out.{Out}
use Rattle.insn_form.specs.declared.effect.Span.{Span}
use Rattle.insn_form.specs.declared.form.Op.{Op}
use Rattle.insn_form.specs.declared.form.Insn.TheVariants.{Exact}
use Rattle.insn_form.specs.Meaning.{effect}
use Rattle.insn_form.specs.Plan.{Differs, lacking_in, number_in, writes_in, unless, ask, same_question, planned, completed, exactly, by_effect}
use Rattle.cpu_step.specs.declared.going.Changes.{Changes}
use Rattle.cpu_step.specs.declared.stop.Stop.{Stop}
use Rattle.cpu_step.specs.declared.stop.Stop.TheVariants.{WorldDiffers}
use Rattle.cpu_step.specs.Changing.{left_by}
use Rattle.cpu_step.specs.Stepping.{Taken, taken_or_stop, judged_insn}
use Rattle.cpu_step.specs.Steps.{number_or_stop, number_or_stop_at, all_or_stop, all_or_stop_at, completed_by, completed_or_stop}

-- the step with registers and flags as they were completed
abbrev with_core : (Core → Taken) → Result Core Stop → Result Taken Stop
with_core t (Ok d) = Ok (t d)
with_core t (Err stop) = Err stop

-- the step of an operation that leaves this
abbrev taken_by : Op → ℕ → Core → List MemWrite → Out → Bool → Core → Taken
taken_by op next c ws o none d = record {
  read = (effect op next c).read;
  write = (effect op next c).write;
  answer_wrote = false;
  core = d;
  rip = unwrap_or o.target next;
  writes = ws;
  used = not none;
}

-- an operation's plan, where memory allows it, by the flags that are completed
agrees : (rip next : ℕ) (q : Question) (op : Op) (c : Core) (ws : List MemWrite) (entry : Option Entry) (o : Out)
    → with_core (taken_by op next c ws o (eqb o.undefined 0)) (completed_or_stop q entry rip o) ≡ taken_or_stop rip q (Exact op) next c (exactly q ws entry o)
agrees rip next q op c ws entry o = by (eqb o.undefined 0)
  where
    by_same : (e : Entry) (b : Bool) → with_core (taken_by op next c ws o false) (cond b (Ok (completed o.undefined o.core e.answer)) (Err (WorldDiffers rip q)))
        ≡ taken_or_stop rip q (Exact op) next c (cond b (Ok (planned (completed o.undefined o.core e.answer) o ws true)) (Err Differs))
    by_same e true = refl
    by_same e false = refl

    by_entry : (x : Option Entry) → with_core (taken_by op next c ws o false) (completed_by q x rip o)
        ≡ taken_or_stop rip q (Exact op) next c (ask q x (λ a. Ok (planned (completed o.undefined o.core a) o ws true)))
    by_entry None = refl
    by_entry (Some e) = by_same e (same_question q e.question)

    by : (b : Bool) → with_core (taken_by op next c ws o b) (cond b (Ok o.core) (completed_by q entry rip o))
        ≡ taken_or_stop rip q (Exact op) next c (cond b (Ok (planned o.core o ws false)) (ask q entry (λ a. Ok (planned (completed o.undefined o.core a) o ws true))))
    by true = refl
    by false = by_entry entry

number_found : (o : Option ℕ) (n k : ℕ) → ◌≡◌ {A = Result ℕ Stop} (Ok n) (number_or_stop_at o k) → (o ≡ None) × (k ≡ n)
number_found None n k h = (refl, let e : n ≡ k = cc in sym e)
number_found (Some a) n k h = absurd cc

all_found : (o : Option ℕ) → ◌≡◌ {A = Result (Unit {0}) Stop} (Ok tt) (all_or_stop_at o) → o ≡ None
all_found None h = refl
all_found (Some a) h = absurd cc

-- Where memory allows the read and the write and the world has no answer, the stop is the one that is judged.
pub stop_planned : (rip next n : ℕ) (q : Question) (op : Op) (c : Core) (m : Bytes) (entry : Option Entry) (x : Changes) (read write : Option Span) (stop : Stop)
    → read ≡ (effect op next c).read → write ≡ (effect op next c).write → Ok n ≡ number_or_stop m read → Ok tt ≡ all_or_stop m write
    → left_by x c ≡ (effect op next c).out n → ◌≡◌ {A = Result Core Stop} (Err stop) (completed_or_stop q entry rip (left_by x c))
    → ◌≡◌ {A = Result Taken Stop} (Err stop) (judged_insn (Exact op) q next c rip m entry)
stop_planned rip next n q op c m entry x read write stop hr hw hn ha ho hc =
    let e = effect op next c in
    let o = left_by x c in
    let found = number_found (lacking_in 4 m read) n (number_in m read) hn in
    let free4 : lacking_in 4 m e.read ≡ None = ap (lacking_in 4 m) (sym hr) ∙ found.0 in
    let free2 : lacking_in 2 m e.write ≡ None = ap (lacking_in 2 m) (sym hw) ∙ all_found (lacking_in 2 m write) ha in
    let number : number_in m e.read ≡ n = ap (number_in m) (sym hr) ∙ found.1 in
    let out : e.out (number_in m e.read) ≡ o = ap e.out number ∙ sym ho in
    let whole : by_effect q e m entry ≡ exactly q (writes_in e.write o.value) entry o =
    λ i. unless (free4 i) (unless (free2 i) (exactly q (writes_in e.write (out i).value) entry (out i))) in
    ap (with_core (taken_by op next c (writes_in e.write o.value) o (eqb o.undefined 0))) hc
    ∙ (agrees rip next q op c (writes_in e.write o.value) entry o ∙ ap (taken_or_stop rip q (Exact op) next c) (sym whole))
