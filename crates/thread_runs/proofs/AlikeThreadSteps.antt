-- Where one of two states that are alike has a step of a thread, the other has it too.
use Rattle.std.proofs.Common.{◌≡◌, Ok, inl, refl, sym, ap, ◌∙◌, subst}
use Rattle.insn_form.specs.Step.{next_after}
use Rattle.event_steps.specs.ThreadSteps.{is_locked_xadd, thread_task, thread_act}
use Rattle.thread_runs.specs.StepLaws.{IsAlikeThread}
use Rattle.event_steps.proofs.Acting.{acting_alike}
use Rattle.event_steps.proofs.ThreadSteps.{made}

-- where one of two states that are alike and stand at one place has a step of a thread, the other has it too
pub alike_thread : IsAlikeThread
alike_thread hidden stale f s u e rip here there h r =
    let next = next_after s.rip f in
    let n : next ≡ next_after u.rip f = ap (λ a. next_after a f) rip in
    let all = acting_alike hidden stale (is_locked_xadd f) (thread_task f next) next next s u (inl refl) e h r in (
      λ s' st. (let q = all.0 s' st.acts in (
        q.0,
        record { own = st; other = made f u q.0 there (subst (λ a. thread_act f a u ≡ Ok q.0) n q.1); alike = q.2.alike; rip = q.2.own ∙ sym q.2.other },
      )),
      λ u' st. (let q = all.1 u' (subst (λ a. thread_act f a u ≡ Ok u') (sym n) st.acts) in (
        q.0,
        record { own = made f s q.0 here q.1; other = st; alike = q.2.alike; rip = q.2.own ∙ sym q.2.other },
      )),
    )
