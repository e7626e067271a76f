-- What a command that writes answers, tells and leaves, by how it ends.
use Rattle.std.proofs.Common.{◌≡◌, ℕ, ◌⊎◌, inl, inr, Some, Result, Ok, Err, IfSome, sym, ap, ◌∙◌, subst, arith}
use Rattle.pun_base.specs.Shown.{Files, DeskState, SinkState, Rose, Told}
use Rattle.command_io.specs.Messages.{Spoilt}
use Rattle.command_io.specs.Endings.{Delivers}
use Rattle.command_io.specs.Writing.{Verdict, Missing, Accepted, Writing, IsInputVerdict, IsAccepted, Answers, DoneIfFaultless, BeginsNone, KeepsRest, files_after, LeavesPart, ShowsWhole, IsWritten, WriteTells, Writes}
use Rattle.command_io.specs.Writing as writing
use Rattle.command_io.specs.Failing.{Failed, Refused, Unread, Unwritten, NoMemory, Answer, end_message, end_status}
use Rattle.command_io.specs.Works.{IsOnly, HasLeft, AreApart, Ends}
use Rattle.command_io.proofs.DeliveredTexts.{HasOwnHead, delivered, part, read_apart, write_apart, silent_apart}
use Rattle.command_io.proofs.ReadingEnds.{IsOdd, spoilt_odd, failed_odd, end_answered}
use Rattle.command_io.proofs.WrittenOutputs.{told_at}

-- A command's texts and statuses are its own: each status of a job is one of its own, none of these is that of a refusal, a fault
-- or want of memory, and no text begins as the line of a fault does.
pub record IsApart {J : Type 0} (w : Writing J) : Type 0 where
  pub own : (job : J) → w.IsOwn (w.status job)
  pub odd : (status : ℕ) → w.IsOwn status → IsOdd status → ⊥
  pub head : (job : J) → HasOwnHead (w.text job)

-- The status is the end's, or the sink's fault or want of memory made it another.
abbrev IsStatus : Result Answer Failed → SinkState → SinkState → ℕ → Type 0
IsStatus r k l status = (status ≡ end_status r) ⊎ Spoilt k l status

-- ---- what is told, and why

-- what is told at an end has its cause
end_tells : {J : Type 0} → (w : Writing J) (s t : DeskState) (r : Result Answer Failed) → AreApart w.outputs → Ends w s t r
    → IfSome (end_message r) (WriteTells w s t)
end_tells w s t (Ok a) apart e = record {
  job = e.job;
  told = ap (λ (x : Answer). x.0) e.told;
  answered = ap (λ (x : Answer). x.1) e.told;
  written = e.written;
}
end_tells w s t (Err (Refused r)) apart e = λ files h. (e.1 files h).so
end_tells w s t (Err (Unread name)) apart e = e.1
end_tells w s t (Err (Unwritten name)) apart e = record {
  rose = e.rose;
  unsure = e.unsure;
  output = e.output;
  cut_off = λ files h. record { job = e.job; verdict = (e.has_left.verdict files h).so; whole = e.next apart files h };
  behind = e.behind apart;
}
end_tells w s t (Err NoMemory) apart e = tt

-- a status of the command's own, or an odd one
known : {J : Type 0} → (w : Writing J) (s t : DeskState) (k l : SinkState) (r : Result Answer Failed) (status : ℕ) → IsApart w → Ends w s t r
    → IsStatus r k l status → w.IsOwn status ⊎ IsOdd status
known w s t k l r status a e (inr p) = inr (spoilt_odd k l status p)
known w s t k l (Ok x) status a e (inl p) =
    inl (subst w.IsOwn (sym (p ∙ ap (λ (y : Answer). y.1) e.told)) (a.own e.job))
known w s t k l (Err x) status a e (inl p) = inr (failed_odd x status p)

-- ---- by what is to be said of the inputs

-- the sink's own answers are among those of each verdict
spoilt : {J : Type 0} → (w : Writing J) (v : Verdict J) (s t : DeskState) (k l : SinkState) (status : ℕ) → Spoilt k l status
    → Answers w v s t k l status
spoilt w (Missing name) s t k l status h = inr h
spoilt w (writing.Refused refusal) s t k l status h = inr (inr h)
spoilt w (Accepted job) s t k l status (inl h) = inr (inr (inl (h.0, inr h.1)))
spoilt w (Accepted job) s t k l status (inr h) = inr (inr (inr h))

-- so are those of a read that failed
fault_read : {J : Type 0} → (w : Writing J) (v : Verdict J) (s t : DeskState) (k l : SinkState) (status : ℕ) → status ≡ 4
    → Rose s.read_faults t.read_faults → Answers w v s t k l status
fault_read w (Missing name) s t k l status e c = inl (e, c)
fault_read w (writing.Refused refusal) s t k l status e c = inr (inl (e, c))
fault_read w (Accepted job) s t k l status e c = inr (inl (e, c))

-- the answers are those of the verdict that is known
same_answers : {J : Type 0} → (w : Writing J) (files : Files) (u v : Verdict J) (s t : DeskState) (k l : SinkState) (status : ℕ)
    → IsOnly u (IsInputVerdict w files) → IsInputVerdict w files v → Answers w u s t k l status → Answers w v s t k l status
same_answers {J = J} w files u v s t k l status h i a = subst (λ (x : Verdict J). Answers w x s t k l status) (sym (h.alone v i)) a

-- each end answers as its verdict has it
by_verdict : {J : Type 0} → (w : Writing J) (files : Files) (s t : DeskState) (k l : SinkState) (r : Result Answer Failed) (status : ℕ)
    → s.held ≡ Some files → Ends w s t r → IsStatus r k l status → (v : Verdict J) → IsInputVerdict w files v → Answers w v s t k l status
by_verdict w files s t k l r status h e (inr p) v i = spoilt w v s t k l status p
by_verdict w files s t k l (Ok a) status h e (inl p) v i =
    same_answers w files (Accepted e.job) v s t k l status (e.has_left.verdict files h) i (inl (p ∙ ap (λ (y : Answer). y.1) e.told))
by_verdict w files s t k l (Err (Refused r)) status h e (inl p) v i =
    same_answers w files (writing.Refused r) v s t k l status (e.1 files h) i (inl p)
by_verdict w files s t k l (Err (Unread name)) status h e (inl p) v i = fault_read w v s t k l status p e.1.rose
by_verdict w files s t k l (Err (Unwritten name)) status h e (inl p) v i =
    same_answers w files (Accepted e.job) v s t k l status (e.has_left.verdict files h) i (inr (inr (inl (p, inl e.rose))))
by_verdict w files s t k l (Err NoMemory) status h e (inl p) v i = spoilt w v s t k l status (inr p)

-- of a job's answers without a rise of a count
faultless : {J : Type 0} → (w : Writing J) (job : J) (s t : DeskState) (k l : SinkState) (status : ℕ)
    → Answers w (Accepted job) s t k l status → DoneIfFaultless w job s t k l status
faultless w job s t k l status (inl z) a b c = inl z
faultless w job s t k l status (inr (inl q)) a b c = absurd (a q.1)
faultless w job s t k l status (inr (inr (inl (z, inl x)))) a b c = absurd (b x)
faultless w job s t k l status (inr (inr (inl (z, inr x)))) a b c = absurd (c x)
faultless w job s t k l status (inr (inr (inr z))) a b c = inr z

-- ---- what is left

-- the one accepted job is the one whose end is known
same_job : {J : Type 0} → (w : Writing J) (files : Files) (i j : J) (P : J → Type 0) → IsOnly (Accepted j) (IsInputVerdict w files)
    → IsInputVerdict w files (Accepted i) → P j → P i
same_job {J = J} w files i j P h v p =
    let e : ◌≡◌ {A = Verdict J} (Accepted i) (Accepted j) = h.alone (Accepted i) v in
    let k : i ≡ j = cc in subst P (sym k) p

-- what a job left is what the accepted one leaves
job_left : {J : Type 0} → (w : Writing J) (files new : Files) (s t : DeskState) (i j : J) → s.held ≡ Some files → t.held ≡ Some new
    → HasLeft w s t j → IsInputVerdict w files (Accepted i) → LeavesPart files w.outputs i new
job_left w files new s t i j h g l v =
    same_job w files i j (λ x. LeavesPart files w.outputs x new) (l.verdict files h) v
    (told_at (λ a b. LeavesPart a w.outputs j b) s.held t.held files new h g l.left)

-- where nothing was begun, what stood there is left
none_left : {J : Type 0} → (w : Writing J) (files new : Files) (s t : DeskState) (i : J) → s.held ≡ Some files → t.held ≡ Some new
    → BeginsNone s t → LeavesPart files w.outputs i new
none_left w files new s t i h g n = let e = n.held in inl (let k : new ≡ files = cc in k)

-- what is left, by the end
left_at : {J : Type 0} → (w : Writing J) (files : Files) (s t : DeskState) (r : Result Answer Failed) → s.held ≡ Some files → Ends w s t r
    → (i : J) → IsInputVerdict w files (Accepted i) → (new : Files) → t.held ≡ Some new → LeavesPart files w.outputs i new
left_at w files s t (Ok a) h e i v new g = job_left w files new s t i e.job h g e.has_left v
left_at w files s t (Err (Refused r)) h e i v new g = none_left w files new s t i h g e.0
left_at w files s t (Err (Unread name)) h e i v new g = none_left w files new s t i h g e.0
left_at w files s t (Err (Unwritten name)) h e i v new g = job_left w files new s t i e.job h g e.has_left v
left_at w files s t (Err NoMemory) h (inl n) i v new g = none_left w files new s t i h g n
left_at w files s t (Err NoMemory) h (inr e) i v new g = job_left w files new s t i e.0 h g e.1 v

-- inputs that aren't accepted begin no output
unaccepted : {J : Type 0} → (w : Writing J) (files : Files) (s t : DeskState) (r : Result Answer Failed) → s.held ≡ Some files → Ends w s t r
    → (IsAccepted w files → ⊥) → BeginsNone s t
unaccepted w files s t (Ok a) h e n = absurd (n (e.job, (e.has_left.verdict files h).so))
unaccepted w files s t (Err (Refused r)) h e n = e.0
unaccepted w files s t (Err (Unread name)) h e n = e.0
unaccepted w files s t (Err (Unwritten name)) h e n = absurd (n (e.job, (e.has_left.verdict files h).so))
unaccepted w files s t (Err NoMemory) h (inl x) n = x
unaccepted w files s t (Err NoMemory) h (inr e) n = absurd (n (e.0, (e.1.verdict files h).so))

-- nor does a refusal, or a read that failed
not_begun : {J : Type 0} → (w : Writing J) (s t : DeskState) (k l : SinkState) (r : Result Answer Failed) (status : ℕ) → IsApart w → Ends w s t r
    → IsStatus r k l status → (status ≡ 3) ⊎ (status ≡ 4) → BeginsNone s t
not_begun w s t k l r status a e (inr (inl p)) c = let q = p.0 in absurd (omega arith)
not_begun w s t k l r status a e (inr (inr p)) c = absurd (omega arith)
not_begun w s t k l (Ok x) status a e (inl p) c =
    let q = ap (λ (y : Answer). y.1) e.told in
    absurd (a.odd (w.status e.job) (a.own e.job) (omega arith, omega arith))
not_begun w s t k l (Err (Refused r)) status a e (inl p) c = e.0
not_begun w s t k l (Err (Unread name)) status a e (inl p) c = e.0
not_begun w s t k l (Err (Unwritten name)) status a e (inl p) c = absurd (omega arith)
not_begun w s t k l (Err NoMemory) status a e (inl p) c = absurd (omega arith)

-- ---- what shows that the outputs are whole

-- each sign that the outputs are whole is true
all_whole : {J : Type 0} → (w : Writing J) (files : Files) (s t : DeskState) (k l : SinkState) (r : Result Answer Failed) (status : ℕ) → IsApart w
    → s.held ≡ Some files → Ends w s t r → Delivers (end_message r) k l status → (i : J) → IsInputVerdict w files (Accepted i)
    → ShowsWhole w i s t k l status → t.held ≡ Some (files_after files w.outputs i)
all_whole w files s t k l (Ok a) status z h e d i v x =
    same_job w files i e.job (λ j. t.held ≡ Some (files_after files w.outputs j)) (e.has_left.verdict files h) v (e.written files h).outputs
all_whole {J = J} w files s t k l (Err (Refused r)) status z h e d i v x =
    let q : ◌≡◌ {A = Verdict J} (Accepted i) (writing.Refused r) = (e.1 files h).alone (Accepted i) v in absurd cc
all_whole w files s t k l (Err (Unread name)) status z h e d i v (inl x) = absurd (x.1 e.1.rose)
all_whole w files s t k l (Err (Unread name)) status z h e d i v (inr x) =
    absurd (read_apart k l name (w.text i) (z.head i) (part _ 4 k l status d) x)
all_whole w files s t k l (Err (Unwritten name)) status z h e d i v (inl x) = absurd (x.2 e.rose)
all_whole w files s t k l (Err (Unwritten name)) status z h e d i v (inr x) =
    absurd (write_apart k l name (w.text i) (z.head i) (part _ 5 k l status d) x)
all_whole w files s t k l (Err NoMemory) status z h e d i v (inl x) = let a = d.0 in let b = x.0 in absurd (omega arith)
all_whole w files s t k l (Err NoMemory) status z h e d i v (inr x) = absurd (silent_apart k l (w.text i) (z.head i) d.1 x)

-- with a status of its own the command did what it promises
own_done : {J : Type 0} → (w : Writing J) (files : Files) (s t : DeskState) (k l : SinkState) (r : Result Answer Failed) (status : ℕ) → IsApart w
    → s.held ≡ Some files → Ends w s t r → IsStatus r k l status → w.IsOwn status → (job : J) × IsWritten w files t job
own_done w files s t k l r status a h e (inr p) o = absurd (a.odd status o (spoilt_odd k l status p))
own_done w files s t k l (Ok x) status a h e (inl p) o = (e.job, e.written files h)
own_done w files s t k l (Err x) status a h e (inl p) o = absurd (a.odd status o (failed_odd x status p))

-- ---- all of it

-- a command that ended so, and told that
pub writes : {J : Type 0} → (w : Writing J) → IsApart w → AreApart w.outputs → (s t : DeskState) (k l : SinkState)
    → (r : Result Answer Failed) (status : ℕ) → Told (KeepsRest w.outputs) s.held t.held → Ends w s t r → Delivers (end_message r) k l status → Writes w s t k l status
writes w a apart s t k l r status rest e d =
    let p = end_answered r k l status d in
    record {
      told = delivered (WriteTells w s t) (end_message r) k l status (end_tells w s t r apart e) d;
      known = known w s t k l r status a e p;
      rest = rest;
      not_begun = not_begun w s t k l r status a e p;
      held = λ files h. record {
        answer = by_verdict w files s t k l r status h e p;
        faultless = λ job i. faultless w job s t k l status (by_verdict w files s t k l r status h e p (Accepted job) i);
        not_begun = unaccepted w files s t r h e;
        left = left_at w files s t r h e;
        whole = all_whole w files s t k l r status a h e d;
        done = own_done w files s t k l r status a h e p;
      };
    }
