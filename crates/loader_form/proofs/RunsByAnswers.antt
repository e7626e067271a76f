-- The stub's run by a list of answers, step by step.
use Rattle.std.proofs.Common.{◌≡◌, ◌≢◌, ℕ, zero, suc, ◌+◌, ◌^◌, ◌<◌, Bool, true, false, List, [], ◌∷◌, ◌++◌, length, map, drop, get_or, Option, Some, None, Ok, refl, sym, ap, ◌∙◌, subst, arith, true≢false}
use Rattle.std.specs.Borrow.{Bor}
use Rattle.std.specs.Slice.{IsItemAt}
use Rattle.std.proofs.Math.ListN.{drop_of_length-le}
use Rattle.std.proofs.lemmas.List.{drop_more}
use Rattle.pun_base.specs.Memory.{Bytes}
use Rattle.length_decode.specs.Spelling.{Fields}
use Rattle.cpu_state.specs.declared.state.Core.{Core}
use Rattle.insn_form.specs.declared.form.Insn.{Insn}
use Rattle.insn_form.specs.declared.form.Insn.TheVariants.{Exact, Asked, Ending}
use Rattle.insn_form.specs.Instruction.{insn_of}
use Rattle.insn_form.specs.Resolving.{resolved_insn}
use Rattle.insn_form.specs.Operands.{reg, rax}
use Rattle.insn_form.specs.Machine.{Machine, act}
use Rattle.cpu_state.specs.declared.world.Question.{Question}
use Rattle.insn_form.specs.Step.{Step, next_after, task_of, question_of}
use Rattle.insn_form.specs.Runs.{nowhere}
use Rattle.cpu_state.specs.declared.state.State.{State}
use Rattle.cpu_step.specs.Stepping.{machine_of}
use Rattle.cpu_step.proofs.JudgedSteps.{halt_ok}
use Rattle.insn_form.proofs.UniqueSteps.{one_instruction, one_next}
use Rattle.elf_read.specs.Entries.{entry_of}
use Rattle.loader_form.specs.declared.kernel.MapAnswer.{MapAnswer}
use Rattle.loader_form.specs.declared.kernel.StubEnd.{StubEnd}
use Rattle.loader_form.specs.declared.kernel.StubEnd.TheVariants as stub
use Rattle.loader_form.specs.Stub.{Stub}
use Rattle.loader_form.specs.Laid.{stub_of, file_of}
use Rattle.loader_form.specs.Kernel.{Reply, Call, Open, Map, Close, Asks, is_syscall, IsAtCall, IsReplied, StepWith, Move, IsRunWith, last_state, last_number, replies_in}
use Rattle.loader_form.specs.Answers.{answer_of, by_zero, AreAnswers, NeverAt, StandsAt, IsStubRun, IsStubStart, StepsOn}
use Rattle.loader_form.proofs.ToldStubRuns.{AllZero, told_of}
use Rattle.loader_form.proofs.MemoryParts.{laid_starts}

-- so many steps were made, and so many answers used: the end is settled, and what is left of the run leads there
pub record Going (file : List ℕ) (entry : ℕ) (answers : List MapAnswer) (s : Machine) (left : List MapAnswer) (m : Machine) (n : ℕ) : Type 0 where
  pub end : StubEnd
  pub last : Machine
  pub whole : IsStubRun file entry s answers end last
  pub alone : m.world ≡ []
  pub number : Option ℕ
  pub moves : List Move
  pub run : IsRunWith file number m moves
  pub there : last_state m moves ≡ last
  pub rest : List MapAnswer
  pub taken : left ≡ map answer_of (replies_in moves) ++ rest
  pub zero : AllZero (replies_in moves)
  pub before : NeverAt entry m moves
  pub ends : StandsAt file entry rest (last_number number moves) (n + length moves) last end
  pub few : n + length moves < 2 ^ 63

-- from a start of the stub no step is made and no answer is used, and the end is settled
pub going_starts : (file : List ℕ) (entry : ℕ) (s : Machine) (answers : List MapAnswer) → entry < 2 ^ 64 → s.world ≡ [] → IsStubStart file entry s
    → AreAnswers answers → Going file entry answers s answers s 0
going_starts file entry s answers low w h good =
    let j = h.job in
    let l = h.laid in
    let b : Stub = stub_of j l in
    let low' : entry_of j.orig < 2 ^ 64 = subst (λ (z : ℕ). z < 2 ^ 64) h.entry_is low in
    let st = laid_starts j l h.further s h.is_job h.is_laid h.few low' h.start in
    let o = told_of (file_of j l) b s answers st good in
    let run = subst (λ (z : List ℕ). IsRunWith z None s o.moves) (sym h.file_is) o.run in
    let before = subst (λ (z : ℕ). NeverAt z s o.moves) (sym h.entry_is) o.before in
    let ends0 = subst (λ (z : List ℕ). StandsAt z b.entry o.rest (last_number None o.moves) (length o.moves) (last_state s o.moves) o.end) (sym h.file_is) o.ends in
    let ends = subst (λ (z : ℕ). StandsAt file z o.rest (last_number None o.moves) (length o.moves) (last_state s o.moves) o.end) (sym h.entry_is) ends0 in
    let n = o.few in
    let lw = st.low in
    let none : length o.moves ≡ 0 + length o.moves = omega arith in
    record {
      end = o.end;
      last = last_state s o.moves;
      whole = record { moves = o.moves; run = run; there = refl; rest = o.rest; taken = o.taken; before = before; ends = ends };
      alone = w;
      number = None;
      moves = o.moves;
      run = run;
      there = refl;
      rest = o.rest;
      taken = o.taken;
      zero = o.zero;
      before = before;
      ends = subst (λ (z : ℕ). StandsAt file entry o.rest (last_number None o.moves) z (last_state s o.moves) o.end) none ends;
      few = omega (arith, n, lw);
    }

-- in a world without entries a call is no step of the machine
call_stops : (s t : Machine) → s.world ≡ [] → IsAtCall s → Step nowhere s t → ⊥
call_stops s t w h st =
    let f = st.0 in
    let e = one_instruction s h.fields f h.at st.1.at in
    let c : is_syscall (insn_of f) ≡ true = ap (λ (z : Fields). is_syscall (insn_of z)) (sym e) ∙ h.calls in
    by_insn (insn_of f) (question_of f (next_after s.rip f)) (next_after s.rip f) c st.1.acts
  where
    empty : (i : Insn) (q : Question) (next : ℕ) → is_syscall i ≡ true
        → act (record { insn = resolved_insn next i; asks = q }) next (record { core = s.core; rip = s.rip; mem = s.mem; world = [] }) ≡ Ok t → ⊥
    empty (Exact op) q next c e = true≢false (sym c)
    empty (Asked form) q next c e = halt_ok _ t e
    empty Ending q next c e = true≢false (sym c)

    by_insn : (i : Insn) (q : Question) (next : ℕ) → is_syscall i ≡ true → act (record { insn = resolved_insn next i; asks = q }) next s ≡ Ok t → ⊥
    by_insn i q next c e =
        let same : s ≡ record { core = s.core; rip = s.rip; mem = s.mem; world = [] } = λ k. record { core = s.core; rip = s.rip; mem = s.mem; world = w k } in
        empty i q next c (subst (λ (z : Machine). act (record { insn = resolved_insn next i; asks = q }) next z ≡ Ok t) same e)

-- calls that are answered have other numbers than the one that ends the program
no_exit : (file : List ℕ) (k : Option ℕ) (c : Core) (m : Bytes) (x : Call) → Asks file k c m x → reg c rax ≡ 231 → ⊥
no_exit file k c m Open h e = let p = h.0 in omega (arith, p, e)
no_exit file k c m (Map a n o) h e = let p = h.0 in omega (arith, p, e)
no_exit file k c m Close h e = let p = h.0 in omega (arith, p, e)

module _ (file : List ℕ) (entry : ℕ) (answers : List MapAnswer) (s : Machine) where
  -- at the entry nothing is left of the run
  pub going_entry : (left : List MapAnswer) (m : Machine) (n : ℕ) → Going file entry answers s left m n → m.rip ≡ entry
      → IsStubRun file entry s answers (stub.Entry n) m
  going_entry left m n g e = by_moves g.moves g.there g.before g.ends
    where
      by_end : (x : StubEnd) (k : Option ℕ) → StandsAt file entry g.rest k (n + 0) g.last x → m ≡ g.last → IsStubRun file entry s answers x g.last
          → IsStubRun file entry s answers (stub.Entry n) m
      by_end (stub.Entry steps) k h q run =
          let same : steps ≡ n = (let p = h.0 in omega (arith, p)) in
          subst (λ (z : ℕ). IsStubRun file entry s answers (stub.Entry z) m) same (subst (λ (z : Machine). IsStubRun file entry s answers (stub.Entry steps) z) (sym q) run)
      by_end (stub.Exit steps) k h q run = absurd (h.2 (ap (λ (z : Machine). z.rip) (sym q) ∙ e))
      by_end (stub.Short steps) k h q run = absurd (h.3 (ap (λ (z : Machine). z.rip) (sym q) ∙ e))

      by_moves : (xs : List Move) → last_state m xs ≡ g.last → NeverAt entry m xs → StandsAt file entry g.rest (last_number g.number xs) (n + length xs) g.last g.end
          → IsStubRun file entry s answers (stub.Entry n) m
      by_moves [] q b h = by_end g.end g.number h q g.whole
      by_moves (x ∷ xs) q b h = absurd (b.0 e)

  -- behind its first move the run goes on
  going_on : (left more : List MapAnswer) (m : Machine) (n : ℕ) (g : Going file entry answers s left m n) (k : Option ℕ) (t : Machine) (xs : List Move) → t.world ≡ [] → IsRunWith file k t xs
      → last_state t xs ≡ g.last → more ≡ map answer_of (replies_in xs) ++ g.rest → AllZero (replies_in xs) → NeverAt entry t xs
      → StandsAt file entry g.rest (last_number k xs) (n + suc (length xs)) g.last g.end → n + suc (length xs) < 2 ^ 63 → Going file entry answers s more t (n + 1)
  going_on left more m n g k t xs w run q taken zs b h few =
      let c : n + suc (length xs) ≡ n + 1 + length xs = omega arith in
      record {
        end = g.end;
        last = g.last;
        whole = g.whole;
        alone = w;
        number = k;
        moves = xs;
        run = run;
        there = q;
        rest = g.rest;
        taken = taken;
        zero = zs;
        before = b;
        ends = subst (λ (z : ℕ). StandsAt file entry g.rest (last_number k xs) z g.last g.end) c h;
        few = omega (arith, few);
      }

  -- elsewhere one step is made
  pub going_steps : (left : List MapAnswer) (m t : Machine) (n : ℕ) → Going file entry answers s left m n → m.rip ≢ entry → t.world ≡ [] → Step nowhere m t
      → Going file entry answers s left t (n + 1)
  going_steps left m t n g far w st = by_moves g.moves g.run g.there g.taken g.zero g.before g.ends g.few
    where
      by_end : (x : StubEnd) (k : Option ℕ) → StandsAt file entry g.rest k (n + 0) g.last x → m ≡ g.last → ⊥
      by_end (stub.Entry steps) k h q = far (ap (λ (z : Machine). z.rip) q ∙ h.1)
      by_end (stub.Exit steps) k h q = call_stops m t g.alone (subst IsAtCall (sym q) h.1.here) st
      by_end (stub.Short steps) k h q = call_stops m t g.alone (subst IsAtCall (sym q) h.2.here) st

      by_reply : (o : Option Reply) (k : Option ℕ) (u : Machine) (xs : List Move) → StepWith file g.number m o k u → IsRunWith file k u xs → last_state u xs ≡ g.last
          → left ≡ map answer_of (replies_in (record { reply = o; number = k; state = u } ∷ xs)) ++ g.rest
          → AllZero (replies_in (record { reply = o; number = k; state = u } ∷ xs)) → NeverAt entry u xs
          → StandsAt file entry g.rest (last_number k xs) (n + suc (length xs)) g.last g.end → n + suc (length xs) < 2 ^ 63
          → Going file entry answers s left t (n + 1)
      by_reply None k u xs p run q taken zs b h few =
          let e : u ≡ t = one_next task_of nowhere nowhere m u t (p.0, p.1) st in
          subst (λ (z : Machine). Going file entry answers s left z (n + 1)) e
          (going_on left left m n g k u xs (ap (λ (z : Machine). z.world) e ∙ w) run q taken zs b h few)
      by_reply (Some r) k u xs p run q taken zs b h few = absurd (call_stops m t g.alone p.here st)

      by_moves : (xs : List Move) → IsRunWith file g.number m xs → last_state m xs ≡ g.last → left ≡ map answer_of (replies_in xs) ++ g.rest → AllZero (replies_in xs)
          → NeverAt entry m xs → StandsAt file entry g.rest (last_number g.number xs) (n + length xs) g.last g.end → n + length xs < 2 ^ 63
          → Going file entry answers s left t (n + 1)
      by_moves [] run q taken zs b h few = absurd (by_end g.end g.number h q)
      by_moves (x ∷ xs) run q taken zs b h few = by_reply x.reply x.number x.state xs run.0 run.1 q taken zs b.1 h few

  module _ (m : Machine) (n : ℕ) (far : m.rip ≢ entry) (none : (t : Machine) → Step nowhere m t → ⊥) where
    -- the call that ends the program
    pub going_exits : (left : List MapAnswer) → Going file entry answers s left m n → reg m.core rax ≡ 231 → IsStubRun file entry s answers (stub.Exit n) m
    going_exits left g e = by_moves g.moves g.run g.there g.ends
      where
        by_end : (x : StubEnd) (k : Option ℕ) → StandsAt file entry g.rest k (n + 0) g.last x → m ≡ g.last → IsStubRun file entry s answers x g.last
            → IsStubRun file entry s answers (stub.Exit n) m
        by_end (stub.Entry steps) k h q run = absurd (far (ap (λ (z : Machine). z.rip) q ∙ h.1))
        by_end (stub.Exit steps) k h q run =
            let same : steps ≡ n = (let p = h.0 in omega (arith, p)) in
            subst (λ (z : ℕ). IsStubRun file entry s answers (stub.Exit z) m) same (subst (λ (z : Machine). IsStubRun file entry s answers (stub.Exit steps) z) (sym q) run)
        by_end (stub.Short steps) k h q run = absurd (no_exit file k g.last.core g.last.mem h.2.call h.2.asks (ap (λ (z : Machine). reg z.core rax) (sym q) ∙ e))

        by_reply : (o : Option Reply) (k : Option ℕ) (u : Machine) → StepWith file g.number m o k u → ⊥
        by_reply None k u p = none u (p.0, p.1)
        by_reply (Some r) k u p = no_exit file g.number m.core m.mem p.call p.asks e

        by_moves : (xs : List Move) → IsRunWith file g.number m xs → last_state m xs ≡ g.last → StandsAt file entry g.rest (last_number g.number xs) (n + length xs) g.last g.end
            → IsStubRun file entry s answers (stub.Exit n) m
        by_moves [] run q h = by_end g.end g.number h q g.whole
        by_moves (x ∷ xs) run q h = absurd (by_reply x.reply x.number x.state run.0)

    -- an empty list of answers has no first one
    nothing_before : (rs : List MapAnswer) (a : MapAnswer) (as' : List MapAnswer) → ◌≡◌ {A = List MapAnswer} [] (a ∷ as') → ⊥
    nothing_before rs a as' e = cc

    -- a run that stands at another call, for which no answer is left, ends there
    pub going_waits : Going file entry answers s [] m n → (reg m.core rax ≢ 231) → IsStubRun file entry s answers (stub.Short n) m
    going_waits g other = by_moves g.moves g.run g.there g.taken g.ends
      where
        by_end : (x : StubEnd) (k : Option ℕ) → StandsAt file entry g.rest k (n + 0) g.last x → m ≡ g.last → IsStubRun file entry s answers x g.last
            → IsStubRun file entry s answers (stub.Short n) m
        by_end (stub.Entry steps) k h q run = absurd (far (ap (λ (z : Machine). z.rip) q ∙ h.1))
        by_end (stub.Exit steps) k h q run = absurd (other (ap (λ (z : Machine). reg z.core rax) q ∙ h.1.call))
        by_end (stub.Short steps) k h q run =
            let same : steps ≡ n = (let p = h.0 in omega (arith, p)) in
            subst (λ (z : ℕ). IsStubRun file entry s answers (stub.Short z) m) same (subst (λ (z : Machine). IsStubRun file entry s answers (stub.Short steps) z) (sym q) run)

        by_reply : (o : Option Reply) (k : Option ℕ) (u : Machine) (xs : List Move) → StepWith file g.number m o k u
            → [] ≡ map answer_of (replies_in (record { reply = o; number = k; state = u } ∷ xs)) ++ g.rest → ⊥
        by_reply None k u xs p e = none u (p.0, p.1)
        by_reply (Some r) k u xs p e = nothing_before [] r.answer (map answer_of (replies_in xs) ++ g.rest) e

        by_moves : (xs : List Move) → IsRunWith file g.number m xs → last_state m xs ≡ g.last → [] ≡ map answer_of (replies_in xs) ++ g.rest
            → StandsAt file entry g.rest (last_number g.number xs) (n + length xs) g.last g.end → IsStubRun file entry s answers (stub.Short n) m
        by_moves [] run q e h = by_end g.end g.number h q g.whole
        by_moves (x ∷ xs) run q e h = absurd (by_reply x.reply x.number x.state xs run.0 e)

    -- what a reply leads to, and that there is one
    abbrev pub Replies : MapAnswer → List MapAnswer → Type 0
    Replies a more = (number : Option ℕ) × (later : Option ℕ) × (t : Machine) × IsReplied file number m (by_zero a) later t
        × (t.world ≡ [] → Going file entry answers s more t (n + 1))

    -- an answer is left, and used
    pub going_replies : (a : MapAnswer) (more : List MapAnswer) → Going file entry answers s (a ∷ more) m n → (reg m.core rax ≢ 231) → Replies a more
    going_replies a more g other = by_moves g.moves g.run g.there g.taken g.zero g.before g.ends g.few
      where
        by_end : (x : StubEnd) (k : Option ℕ) → StandsAt file entry g.rest k (n + 0) g.last x → m ≡ g.last → a ∷ more ≡ g.rest → ⊥
        by_end (stub.Entry steps) k h q e = far (ap (λ (z : Machine). z.rip) q ∙ h.1)
        by_end (stub.Exit steps) k h q e = other (ap (λ (z : Machine). reg z.core rax) q ∙ h.1.call)
        by_end (stub.Short steps) k h q e = nothing_before [] a more (sym (e ∙ h.1))

        by_reply : (o : Option Reply) (k : Option ℕ) (u : Machine) (xs : List Move) → StepWith file g.number m o k u → IsRunWith file k u xs → last_state u xs ≡ g.last
            → a ∷ more ≡ map answer_of (replies_in (record { reply = o; number = k; state = u } ∷ xs)) ++ g.rest
            → AllZero (replies_in (record { reply = o; number = k; state = u } ∷ xs)) → NeverAt entry u xs
            → StandsAt file entry g.rest (last_number k xs) (n + suc (length xs)) g.last g.end → n + suc (length xs) < 2 ^ 63 → Replies a more
        by_reply None k u xs p run q taken zs b h few = absurd (none u (p.0, p.1))
        by_reply (Some r) k u xs p run q taken zs b h few =
            let same : r ≡ by_zero a = λ i. record { answer = ap (λ (z : List MapAnswer). get_or z 0 a) (sym taken) i; r11 = zs.0 i } in (
              g.number,
              k,
              u,
              subst (λ (z : Reply). IsReplied file g.number m z k u) same p,
              λ w. going_on (a ∷ more) more m n g k u xs w run q (ap (λ (z : List MapAnswer). drop 1 z) taken) zs.1 b h few,
            )

        by_moves : (xs : List Move) → IsRunWith file g.number m xs → last_state m xs ≡ g.last → a ∷ more ≡ map answer_of (replies_in xs) ++ g.rest → AllZero (replies_in xs)
            → NeverAt entry m xs → StandsAt file entry g.rest (last_number g.number xs) (n + length xs) g.last g.end → n + length xs < 2 ^ 63 → Replies a more
        by_moves [] run q taken zs b h few = absurd (by_end g.end g.number h q taken)
        by_moves (x ∷ xs) run q taken zs b h few = by_reply x.reply x.number x.state xs run.0 run.1 q taken zs b.1 h few

-- answers that are left
pub answers_drop : (k : ℕ) (xs : List MapAnswer) → AreAnswers xs → AreAnswers (drop k xs)
answers_drop zero xs h = h
answers_drop (suc k) [] h = tt
answers_drop (suc k) (x ∷ xs) h = answers_drop k xs h.1

-- no step was made, at a state that isn't at the entry
pub record Stopped (file : List ℕ) (entry : ℕ) (answers : List MapAnswer) (s : Machine) (left : List MapAnswer) (m : Machine) (n : ℕ) : Type 0 where
  pub going : Going file entry answers s left m n
  pub far : m.rip ≢ entry
  pub none : (t : Machine) → Step nowhere m t → ⊥

-- a state that makes no step, and isn't at the entry, has stopped
pub stopped : (file : List ℕ) (entry : ℕ) (answers : List MapAnswer) (s : Machine) (left : List MapAnswer) (old new : State) (n : ℕ) (b : Bool)
    → b ≡ false → StepsOn b old new → old.rip ≢ entry → Going file entry answers s left (machine_of old []) n
    → Stopped file entry answers s left (machine_of new []) n
stopped file entry answers s left old new n true e h far g = absurd (true≢false e)
stopped file entry answers s left old new n false e h far g =
    subst (λ (z : State). Stopped file entry answers s left (machine_of z []) n) (sym h.0) (record { going = g; far = far; none = h.1 })

-- after one step more, from a state that isn't at the entry, the same run goes on
pub stepped : (file : List ℕ) (entry : ℕ) (answers : List MapAnswer) (s : Machine) (left : List MapAnswer) (old new : State) (n : ℕ) (b : Bool)
    → b ≡ true → StepsOn b old new → old.rip ≢ entry → Going file entry answers s left (machine_of old []) n
    → Going file entry answers s left (machine_of new []) (n + 1)
stepped file entry answers s left old new n true e h far g =
    going_steps file entry answers s left (machine_of old []) (machine_of new []) n g far refl h
stepped file entry answers s left old new n false e h far g = absurd (true≢false (sym e))

-- the answers that are left, with and without a next one
pub left_more : (xs : List MapAnswer) (k : ℕ) (x : Bor MapAnswer) → IsItemAt xs k (Some x) → drop k xs ≡ x.now ∷ drop (k + 1) xs
left_more xs k x h = drop_more xs k x.now h.3.0 ∙ ap (λ (a : MapAnswer). a ∷ drop (k + 1) xs) (sym h.1)

-- where a list has no element at a place, nothing is left of it there
pub left_none : (xs : List MapAnswer) (k : ℕ) → IsItemAt xs k None → drop k xs ≡ []
left_none xs k h = drop_of_length-le xs h.3
