-- A thread's step beside memory that it leaves alone is one without it.
use Rattle.std.proofs.Common.{◌≡◌, ◌⊎◌, inl, inr, ℕ, Bool, true, false, not, ◌&&◌, is_some, List, [], ◌∷◌, length, Option, Some, None, option_map, refl, sym, ap, ap₂, ◌∙◌, true≢false}
use Rattle.std.proofs.Math.Path.{fun_ext}
use Rattle.std.proofs.lemmas.Bool.{and_parts}
use Rattle.pun_base.specs.Memory.{Cell, Bytes, or_else, joined}
use Rattle.length_decode.specs.Spelling.{Fields, spelling}
use Rattle.cpu_state.specs.Bytes.{advanced, allows, avoids, byte_of, Stands}
use Rattle.insn_form.specs.Machine.{Machine, leaves}
use Rattle.insn_form.specs.Step.{IsAt, next_after}
use Rattle.insn_form.specs.Runs.{nowhere}
use Rattle.insn_form.specs.Touched.{reads_none, writes_none}
use Rattle.insn_form.specs.Alike.{IsAlike}
use Rattle.insn_form.proofs.TouchedMemory.{read_and_write, writes_are_held, leaves_nowhere}
use Rattle.event_steps.specs.ThreadSteps.{is_locked_xadd, thread_task, ThreadStepsBy}
use Rattle.event_steps.proofs.Acting.{acted, acting_keep}
use Rattle.event_steps.proofs.ThreadSteps.{keeps_perms}
use Rattle.thread_runs.proofs.AlikeThreadSteps.{alike_thread}
use Rattle.settled_runs.specs.Laws.{beside}
use Rattle.settled_runs.proofs.BesideRuns.{none_of}
use Rattle.settled_threads.specs.Beside.{is_held, IsUnwritable, AreApart, LeavesAlone, ComesBack, StepsComeBack}

outside : (c d : Option Cell) → is_some c ≡ false → or_else c d ≡ d
outside None d e = refl
outside (Some c) d e = absurd (true≢false e)

inside : (c d : Option Cell) → is_some c ≡ true → or_else c d ≡ c
inside None d e = absurd (true≢false (sym e))
inside (Some c) d e = refl

-- a byte after a step beside: that after the step without, or the other memory's own
byte_back : (c t u v : Option Cell) → (is_some c ≡ false → t ≡ u) → (is_some c ≡ true → t ≡ or_else c v) → t ≡ or_else c u
byte_back None t u v e f = e refl
byte_back (Some c) t u v e f = f refl

module _ (w : Bytes) where
  -- beside the memory all is as without it, but for what it holds
  alike : (s : Machine) → IsAlike (is_held w) nowhere (beside w s) s
  alike s = record {
    core = refl;
    world = refl;
    mem = record {
      bytes = λ x h k. outside (w x) (s.mem x) h;
      perms = λ x h. ap (option_map (λ (c : Cell). c.perms)) (outside (w x) (s.mem x) h);
    };
  }

  -- bytes of code that the memory has none of
  stands_back : (bs : List ℕ) (m : Bytes) (a : ℕ) → avoids (is_held w) a (length bs) ≡ true → Stands (joined w m) a bs → Stands m a bs
  stands_back [] m a h s = tt
  stands_back (b ∷ bs) m a h s =
      let p = and_parts (not (is_held w a)) (avoids (is_held w) (advanced a 1) (length bs)) h in
      let e = outside (w a) (m a) (turned (is_held w a) p.0) in
      (ap (allows 1) (sym e) ∙ s.0, ap byte_of (sym e) ∙ s.1, stands_back bs m (advanced a 1) p.1 s.2)
    where
      turned : (b : Bool) → not b ≡ true → b ≡ false
      turned true k = absurd (true≢false (sym k))
      turned false k = refl

  -- none of it can be written beside either
  pub bare : (m : Bytes) → IsUnwritable w → (a : ℕ) → is_held w a ≡ true → allows 2 (joined w m a) ≡ false
  bare m h a e = ap (allows 2) (inside (w a) (m a) e) ∙ h a e

  pub step_back : (f : Fields) (s t : Machine) → IsUnwritable w → LeavesAlone w f (beside w s) → ThreadStepsBy f (beside w s) t → ComesBack w f s t
  step_back f s t h l st =
      let set = is_held w in let v = beside w s in
      let next = next_after s.rip f in let task = thread_task f next in
      let there : IsAt s f = record { spelled = st.at.spelled; here = stands_back (spelling f) s.mem s.rip l.fetched st.at.here } in
      let b = acted (is_locked_xadd f) task next v t st.acts in
      let wr = writes_are_held set task next v b.plain (bare s.mem h) b.acts in
      let all : leaves set task next v ≡ true = read_and_write set task next v ∙ ap₂ (λ p q. p && q) l.unread wr in
      let none = (and_parts (reads_none nowhere task next v) (writes_none nowhere task next v) (sym (read_and_write nowhere task next v) ∙ leaves_nowhere task next v)).0 in
      let q = (alike_thread set nowhere f v s (alike s) refl st.at there all none).0 t st in
      let u = q.0 in let a = q.1.alike in
      let mem : (x : ℕ) → t.mem x ≡ joined w u.mem x =
      λ x. byte_back (w x) (t.mem x) (u.mem x) (s.mem x) (λ e. a.mem.bytes x e refl) (λ e. acting_keep (is_locked_xadd f) task next v t st.acts set all x e) in
      record {
        to = u;
        steps = q.1.other;
        same = λ i. record { core = a.core i; rip = q.1.rip i; mem = fun_ext mem i; world = a.world i };
      }

pub steps_come_back : StepsComeBack
steps_come_back w f s t h a l st = step_back w f s t h l st

-- no step makes the memories meet
pub apart_on : (w : Bytes) (f : Fields) (s t : Machine) → AreApart w s.mem → ThreadStepsBy f s t → AreApart w t.mem
apart_on w f s t h st x = on (h x)
  where
    on : (w x ≡ None) ⊎ (s.mem x ≡ None) → (w x ≡ None) ⊎ (t.mem x ≡ None)
    on (inl e) = inl e
    on (inr e) = inr (none_of w (t.mem x) (s.mem x) (keeps_perms f s t st x) e)
