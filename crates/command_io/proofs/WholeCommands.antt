-- What reading inputs and then working with them does is what a whole command does that writes.
use Rattle.std.proofs.Common.{◌≡◌, ℕ, inl, inr, List, [], ◌∷◌, Option, None, Result, Ok, Err, IfOk, refl, sym, ap, ◌∙◌, subst, arith}
use Rattle.pun_base.specs.Shown.{Files, DeskState, Rose, Told}
use Rattle.pun_base.specs.Desk.{Fills, Stays}
use Rattle.pun_base.proofs.CallFrames.{stays_same, stays_then, told_on}
use Rattle.command_io.specs.Refusals as refusals
use Rattle.command_io.specs.Inputs.{OnlyReads, Gathered, Missing, TooLong, All, gathered}
use Rattle.command_io.specs.Inspecting.{RefusesAll}
use Rattle.command_io.specs.Writing as writing
use Rattle.command_io.specs.Writing.{Verdict, Accepted, Judging, Writing, OfGathered, IsInputVerdict, BeginsNone, KeepsRest, LeavesPart, IsNext, KeepsBehind}
use Rattle.command_io.specs.Failing.{Failed, Refused, Unread, Unwritten, NoMemory, none_refused, Gathers, Answer}
use Rattle.command_io.specs.Works.{IsOnly, WritesAll, TellsOnly, Finishes, DoesJob, EndsEarly, Works, HasLeft, Ends, Carries}
use Rattle.command_io.proofs.WrittenOutputs.{told_some, told_same, told_keeps, all_leave, all_held, all_cut, all_failed, all_before, all_behind}

-- reading keeps what a desk keeps
only_stays : (s t : DeskState) → OnlyReads s t → Stays s t
only_stays s t r = record {
  reads = r.later;
  writes = let e = r.writes in omega arith;
  sure = r.sure;
  tells = subst (λ (h : Option Files). Told (λ was is. Unit {0}) s.held h) (sym r.held) (told_on s.held);
}

-- what the texts are judged to be is to be said of the inputs
of_texts : {J : Type 0} → (w : Writing J) (files : Files) (texts : List (List ℕ)) (v : Verdict J) → gathered files w.inputs ≡ All texts
    → IsOnly v (w.Judges texts) → IsOnly v (IsInputVerdict w files)
of_texts w files texts v e h = subst (λ (g : Gathered). IsOnly v (OfGathered w.Judges g)) (sym e) h

-- an input that is too long is refused, and nothing else is to be said
long_only : {J : Type 0} → (Judges : Judging J) (g : Gathered) (r : refusals.Refusal) → RefusesAll none_refused g r
    → IsOnly (writing.Refused r) (OfGathered Judges g)
long_only Judges (Missing name) r h = absurd h
long_only Judges (TooLong which) r h = record { so = ap writing.Refused h; alone = λ w k. k ∙ ap writing.Refused (sym h) }
long_only Judges (All texts) r h = absurd h

-- ---- inputs that can't be read

-- nothing but reading was done
only_none : (s t : DeskState) → OnlyReads s t → BeginsNone s t
only_none s t r = record { held = r.held; writes = r.writes }

-- what the end says then
unread_ends : {J : Type 0} → (w : Writing J) (s t : DeskState) (e : Failed) → Gathers w.inputs s t (Err e) → Ends w s t (Err e)
unread_ends w s t (Refused r) g = (only_none s t g.only, λ files h. long_only w.Judges (gathered files w.inputs) r (g.says files h))
unread_ends w s t (Unread name) g = (
  only_none s t g.only,
  record {
    rose = g.cause.1;
    input = g.cause.0;
    reached = λ files h. (g.says files h).0;
    missing = λ files h. (g.says files h).1;
  },
)
unread_ends w s t (Unwritten name) g = absurd g.cause
unread_ends w s t NoMemory g = inl (only_none s t g.only)

-- reading that ends so is the whole command
pub unread : {J : Type 0} → (w : Writing J) (s t : DeskState) (e : Failed) → s.writing ≡ None → Gathers w.inputs s t (Err e)
    → Carries w s t (Err e)
unread w s t e rest g = record {
  at_rest = g.only.writing ∙ rest;
  stays = only_stays s t g.only;
  rest = told_same (KeepsRest w.outputs) s.held t.held (λ files name n. refl) g.only.held;
  ends = unread_ends w s t e g;
}

-- ---- texts that are refused

-- what the end says then
early_ends : {J : Type 0} → (w : Writing J) (texts : List (List ℕ)) (s u t : DeskState) (r : Result Answer Failed) → Gathers w.inputs s u (Ok texts)
    → BeginsNone s t → EndsEarly w texts r → Ends w s t r
early_ends w texts s u t (Err (Refused r)) g n h = (n, λ files e. of_texts w files texts (writing.Refused r) (g.says files e) h)
early_ends w texts s u t (Err NoMemory) g n h = inl n
early_ends w texts s u t (Err (Unread name)) g n h = absurd h
early_ends w texts s u t (Err (Unwritten name)) g n h = absurd h
early_ends w texts s u t (Ok a) g n h = absurd h

-- reading and then refusing is the whole command
early : {J : Type 0} → (w : Writing J) (texts : List (List ℕ)) (s u t : DeskState) (r : Result Answer Failed) → s.writing ≡ None
    → Gathers w.inputs s u (Ok texts) → t ≡ u → EndsEarly w texts r → Carries w s t r
early w texts s u t r rest g e h =
    let held = ap (λ (d : DeskState). d.held) e ∙ g.only.held in
    let writes = ap (λ (d : DeskState). d.write_faults) e ∙ g.only.writes in
    record {
      at_rest = ap (λ (d : DeskState). d.writing) e ∙ g.only.writing ∙ rest;
      stays = stays_then s u t (only_stays s u g.only) (stays_same u t e);
      rest = told_same (KeepsRest w.outputs) s.held t.held (λ files name n. refl) held;
      ends = early_ends w texts s u t r g (record { held = held; writes = writes }) h;
    }

-- ---- a job that is done or cut short

-- what holds anyway holds of a result that is one
pub if_done : {X E : Type 0} → (P : Type 0) (r : Result X E) → P → IfOk r (λ a. P)
if_done P (Ok a) p = p
if_done P (Err e) p = tt

-- a job that is cut short
pub stopped : {J : Type 0} → (w : Writing J) (texts : List (List ℕ)) (s t : DeskState) (job : J) (e : Failed) → IsOnly (Accepted job) (w.Judges texts)
    → WritesAll w.outputs job s t (Err e) → Works w texts s t (Err e)
stopped w texts s t job e v h = inr (job, record { verdict = v; finishes = h; promised = tt })

-- the one output was written, and its answer is told, or memory ran out for it
pub told_behind : {J : Type 0} → (x : List ℕ × (J → List ℕ)) (job : J) (bytes : List ℕ) (answer : Answer) (s t : DeskState)
    → (r : Result Answer Failed) → bytes ≡ x.1 job → Fills x.0 bytes s t (Ok tt) → TellsOnly answer r → Finishes (x ∷ []) job answer s t r
told_behind x job bytes answer s t (Ok a) e f h = (h, (t, subst (λ (b : List ℕ). Fills x.0 b s t (Ok tt)) e f, (refl, tt)))
told_behind x job bytes answer s t (Err NoMemory) e f h = inr (t, subst (λ (b : List ℕ). Fills x.0 b s t (Ok tt)) e f, (refl, tt))
told_behind x job bytes answer s t (Err (Refused r)) e f h = absurd h
told_behind x job bytes answer s t (Err (Unread name)) e f h = absurd h
told_behind x job bytes answer s t (Err (Unwritten name)) e f h = absurd h

-- a failure ends the work as what it is told as does
pub works_as : {J : Type 0} → (w : Writing J) (texts : List (List ℕ)) (s t : DeskState) (e x : Failed) → e ≡ x → Works w texts s t (Err x)
    → Works w texts s t (Err e)
works_as w texts s t e x q h = subst (λ (f : Failed). Works w texts s t (Err f)) (sym q) h

-- what is written or not, of a result of all
wrote : {J : Type 0} → (w : Writing J) (texts : List (List ℕ)) (s t : DeskState) (r : Result Answer Failed) (job : J) → DoesJob w texts s t r job
    → (q : Result (Unit {0}) Failed) × WritesAll w.outputs job s t q
wrote w texts s t (Ok a) job d = (Ok tt, d.finishes.1)
wrote w texts s t (Err e) job d = (Err e, d.finishes)

-- a count that reading left alone
rose_at : (a b c : ℕ) → b ≡ a → Rose b c → Rose a c
rose_at a b c e r = subst (λ (k : ℕ). Rose k c) e r

-- what the end says then
job_ends : {J : Type 0} → (w : Writing J) (texts : List (List ℕ)) (s u t : DeskState) (r : Result Answer Failed) (job : J)
    → Gathers w.inputs s u (Ok texts) → Stays s t → HasLeft w s t job → DoesJob w texts u t r job → Ends w s t r
job_ends w texts s u t (Ok a) job g y l d = record {
  job = job;
  told = d.finishes.0;
  has_left = l;
  written = λ files h. record {
    texts = texts;
    read = g.says files h;
    judged = d.verdict.so;
    outputs = all_held w.outputs job files u t (g.only.held ∙ h) d.finishes.1;
    promised = d.promised;
  };
}
job_ends w texts s u t (Err (Unwritten name)) job g y l d =
    let f = all_failed w.outputs job u t name d.finishes in
    record {
      rose = rose_at _ _ _ g.only.writes f.0;
      unsure = λ z. f.1 (g.only.sure z);
      output = f.2;
      job = job;
      has_left = l;
      next = λ a files h.
          told_some (λ was is. Unit {0}) (λ new. IsNext w.outputs job new name) s.held t.held files h
          (λ new q p. all_before w.outputs job files new u t name a (g.only.held ∙ h) q d.finishes) y.tells;
      behind = λ a files h.
          told_some (λ was is. Unit {0}) (KeepsBehind w.outputs name files) s.held t.held files h
          (λ new q p. all_behind w.outputs job files new u t name a (g.only.held ∙ h) q d.finishes) y.tells;
    }
job_ends w texts s u t (Err NoMemory) job g y l d = inr (job, l)
job_ends w texts s u t (Err (Refused r)) job g y l d = absurd (all_cut w.outputs job u t (Refused r) d.finishes)
job_ends w texts s u t (Err (Unread name)) job g y l d = absurd (all_cut w.outputs job u t (Unread name) d.finishes)

-- the texts are read, and then worked with
pub worked : {J : Type 0} → (w : Writing J) (texts : List (List ℕ)) (s u t : DeskState) (r : Result Answer Failed) → s.writing ≡ None
    → Gathers w.inputs s u (Ok texts) → Works w texts u t r → Carries w s t r
worked w texts s u t r rest g (inl h) = early w texts s u t r rest g h.0 h.1
worked w texts s u t r rest g (inr h) =
    let q = wrote w texts u t r h.0 h.1 in
    let l = all_leave w.outputs h.0 u t q.0 q.1 in
    let stays = stays_then s u t (only_stays s u g.only) l.stays in
    let left : Told (λ old new. LeavesPart old w.outputs h.0 new) s.held t.held =
    subst (λ (o : Option Files). Told (λ old new. LeavesPart old w.outputs h.0 new) o t.held) g.only.held l.left in
    record {
      at_rest = l.at_rest (g.only.writing ∙ rest);
      stays = stays;
      rest = told_keeps w.outputs h.0 s.held t.held left;
      ends = job_ends w texts s u t r h.0 g stays (record {
        verdict = λ files e. of_texts w files texts (Accepted h.0) (g.says files e) h.1.verdict;
        left = left;
      }) h.1;
    }
