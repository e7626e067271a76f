-- The stub after a failure of open or mmap.
use Rattle.std.proofs.Common.{◌≢◌, ◌⊎◌, inl, inr, ℕ, ◌+◌, ◌<◌, ◌≤◌, List, [], ◌∷◌, ◌++◌, length, None, sym, ap, ◌∙◌, subst, arith}
use Rattle.std.proofs.lemmas.List.{append-nil}
use Rattle.insn_form.specs.Machine.{Machine}
use Rattle.loader_form.specs.declared.kernel.MapAnswer.TheVariants as answer
use Rattle.loader_form.specs.Kernel.{Reply, IsAnswer, AreReplies, Move, last_state, last_number, replies_in, MadeInside}
use Rattle.loader_form.specs.Running.{End, EndsSo, NeverThere, StubStops}
use Rattle.loader_form.proofs.EndsByReplies.{ends_at_exit}
use Rattle.loader_form.proofs.WholeStubRuns.{stub_runs}

-- replies that the kernel can give, with one more, are such replies
reply_more : (rs : List Reply) (r : Reply) → AreReplies rs → IsAnswer r.answer → AreReplies (rs ++ r ∷ [])
reply_more [] r h a = (a, tt)
reply_more (x ∷ xs) r h a = (h.0, reply_more xs r h.1 a)

-- an address outside the stub's code is none of it
outside : (lo entry rip : ℕ) → (entry < lo) ⊎ (lo + 4096 ≤ entry) → lo ≤ rip → rip < lo + 4096 → rip ≢ entry
outside lo entry rip (inl k) a b e = omega (arith, k, a, b, e)
outside lo entry rip (inr k) a b e = omega (arith, k, a, b, e)

-- a run in the stub's code stands nowhere else
never_there : (lo entry : ℕ) (s : Machine) (xs : List Move) → (entry < lo) ⊎ (lo + 4096 ≤ entry) → MadeInside lo (lo + 4096) s xs
    → lo ≤ (last_state s xs).rip → (last_state s xs).rip < lo + 4096 → NeverThere entry s xs
never_there lo entry s [] o h p q = outside lo entry s.rip o p q
never_there lo entry s (x ∷ xs) o h p q = (outside lo entry s.rip o h.0 h.1, never_there lo entry x.state xs o h.2 p q)

-- after a failure of open or mmap the stub's next call ends the program with status 127
pub stub_stops : StubStops
stub_stops file b s given e y st ok good short a =
    let r : Reply = record { answer = answer.Failed e; r11 = y } in
    let o = stub_runs file b s (given ++ r ∷ []) st (reply_more given r ok a) in
    let q = ends_at_exit (length b.runs) given e y [] short good in
    let end = subst (λ (z : End). EndsSo file b s z (last_number None o.moves) (last_state s o.moves)) q.0 o.end in
    record {
      moves = o.moves;
      run = o.run;
      few = o.few;
      taken = sym (o.taken ∙ ap (λ (z : List Reply). replies_in o.moves ++ z) q.1 ∙ append-nil (replies_in o.moves));
      exit = end.0;
      apart = λ far. never_there b.at b.entry s o.moves far o.inside end.1 end.2;
    }
