-- A patched file of a settled file follows FILE with any number of threads.
use Rattle.std.proofs.Common.{◌≡◌, ◌⊎◌, inl, inr, ℕ, true, List, [], ◌∷◌, Option, Some, None, refl, sym, ap, ◌∙◌, subst}
use Rattle.std.specs.List.{AllByRecursion}
use Rattle.pun_base.specs.Memory.{Cell, Bytes, or_else, joined}
use Rattle.insn_form.specs.Machine.{Machine}
use Rattle.image_runs.specs.Listed.{is_start}
use Rattle.thread_runs.specs.Ring.{AreKept}
use Rattle.thread_runs.specs.Theorem.{AreCounted, AreCovered}
use Rattle.thread_runs.specs.Threading.{Threading}
use Rattle.thread_runs.specs.Premises.{StandAtStarts}
use Rattle.thread_laws.specs.Beginning.{BirthItem, IsGrowing, GrowingWatch, growing_watch, IsProperGrowing}
use Rattle.thread_laws.specs.ThreadsBegin.{IsGrowingFollowed}
use Rattle.thread_laws.proofs.WaitingThreads.{threads_may_begin}
use Rattle.thread_loader.proofs.LoadedGuests.{starts_threads}
use Rattle.settle.proofs.TakenFiles.{unrefused_is_taken}
use Rattle.settled_runs.specs.Laws.{IsSettledStart, file_start}
use Rattle.settled_runs.specs.Started.{IsKernelPair}
use Rattle.settled_threads.specs.FileRuns.{lone, IsSettledThreading, IsMomentOfFile, SettledThreadsFollow}
use Rattle.settled_threads.proofs.FileGuests.{settled_guests}

-- the original's side of a kernel's start pair is a start of the settled file
kernel_start : (b : ℕ) (file : List ℕ) (r : Threading) (s u : Machine) (n : ℕ) (vs ks : List ℕ) → IsSettledThreading b file r
    → (c : IsKernelPair r.original r.patched r.entry n vs ks s u) → IsSettledStart b file c.pair.further s n vs ks
kernel_start b file r s u n vs ks w c =
    let p = c.pair in
    record {
      processor = p.sized;
      there = p.original_at ∙ w.entry;
      memory = p.original ∙ ap (λ (z : Bytes). joined z p.further) w.original;
      apart = λ x. subst (λ (z : Bytes). (z x ≡ None) ⊎ (p.further x ≡ None)) w.original (first_none (r.original x) (r.patched x) (p.further x) (p.apart x));
      rcx = c.rcx;
      rdi = c.rdi;
      vector = c.vector;
    }
  where
    first_none : (c d e : Option Cell) → (or_else c d ≡ None) ⊎ (e ≡ None) → (c ≡ None) ⊎ (e ≡ None)
    first_none None d e h = inl refl
    first_none (Some c) d e (inl h) = absurd cc
    first_none (Some c) d e (inr h) = inr h

-- in a proper run each thread begins at a listed start
first_stand : (r : Threading) (items : List BirthItem) (x : GrowingWatch) (xs : List GrowingWatch) → IsProperGrowing r items x xs → StandAtStarts r x.watch.threads
first_stand r [] x [] p = p
first_stand r [] x (y ∷ ys) p = absurd p
first_stand r (i ∷ is) x [] p = absurd p
first_stand r (i ∷ is) x (y ∷ ys) p = p.0

module _ (b : ℕ) (file : List ℕ) (r : Threading) (s from : Machine) (stub : List Machine) where
  -- what holds of each moment
  pub all_moments : (f : (x : GrowingWatch) → IsGrowingFollowed r (lone s) x → IsMomentOfFile b file r s from stub x) (xs : List GrowingWatch)
      → AllByRecursion (λ x. IsGrowingFollowed r (lone s) x × AreCounted r x.watch × AreCovered r x.watch × AreKept r x.watch) xs
      → AllByRecursion (λ x. IsMomentOfFile b file r s from stub x × AreCounted r x.watch × AreCovered r x.watch × AreKept r x.watch) xs
  all_moments f [] h = tt
  all_moments f (x ∷ xs) h = ((f x h.0.0, h.0.1, h.0.2, h.0.3), all_moments f xs h.1)

pub settled_threads_follow : SettledThreadsFollow
settled_threads_follow b file r readable none w s u n vs ks c =
    let k = unrefused_is_taken b file readable none in
    let further = c.pair.further in let from = file_start b file further s n vs ks in
    let g = settled_guests b file further s n vs ks k.settleable k.placeable (kernel_start b file r s u n vs ks w c) in
    let starts = (starts_threads r s u c.pair).guests [] tt in
    let all = threads_may_begin r w.entries w.sound in
    record {
      stub = g.stub;
      few = g.few;
      own = g.own;
      there = g.there;
      followed = λ items xs p.
          let at : is_start r.listed r.entry ≡ true = ap (is_start r.listed) (sym c.pair.patched_at) ∙ (first_stand r items (growing_watch (lone u)) xs p).0 in
          all_moments b file r s from g.stub
          (λ x f. record {
            followed = f;
            own = λ is e l. g.runs r.listed is f.states (subst (λ z. IsGrowing r.listed z (lone s) f.states) e f.run) l;
          })
          (growing_watch (lone u) ∷ xs) (all.0 (lone s) (lone u) items xs starts at p);
    }
