-- A trampoline at work: the event, then the relocated code, then the jump back.
use Rattle.std.proofs.Common.{◌≡◌, ◌⊎◌, inl, inr, ℕ, ◌+◌, ◌<◌, ◌≤◌, Bool, true, false, cond, List, [], ◌∷◌, ◌++◌, length, length-append, Option, Some, None, IfSome, refl, sym, ap, ◌∙◌, subst, arith}
use Rattle.pun_base.specs.declared.action.Action.{Action}
use Rattle.pun_base.specs.declared.action.Action.TheVariants.{Cover, Count, Ring, When}
use Rattle.pun_base.specs.declared.action.Base.TheVariants as base
use Rattle.cpu_state.specs.Fixed.{IsFixed}
use Rattle.length_decode.specs.Spelling.{Fields, IsInstruction, spelling}
use Rattle.insn_form.specs.declared.form.Insn.{Insn}
use Rattle.insn_form.specs.declared.form.Insn.TheVariants.{Exact, Asked, Ending}
use Rattle.insn_form.specs.declared.form.Op.TheVariants.{Jcc, Loop, Jmp, Call, Ret}
use Rattle.insn_form.specs.Instruction.{insn_of}
use Rattle.insn_form.specs.Displacing.{code_length, displaced_len, falls}
use Rattle.insn_form.specs.Machine.{Machine}
use Rattle.insn_form.specs.Step.{Step, next_after}
use Rattle.insn_form.specs.Runs.{IsRun, last_of}
use Rattle.insn_form.proofs.SpellingSlices.{imm_ends}
use Rattle.relocate_insn.specs.Pieces.{jump_code}
use Rattle.relocate_insn.specs.Relocating.{relocated_code}
use Rattle.relocate_insn.specs.Running.{IsReady, Inside, Works}
use Rattle.relocate_insn.proofs.FixedCode.{SameCode, next_address, fixed_on, fixed_front, fixed_back, run_code}
use Rattle.relocate_insn.proofs.PrivateRange.{private_on}
use Rattle.relocate_insn.proofs.PieceSteps.{gone_to, jump_step}
use Rattle.relocate_insn.proofs.CodeRuns.{relocated_works}
use Rattle.relocate_insn.proofs.RelocatedLengths.{relocated_long}
use Rattle.trampoline.specs.declared.event.Event.{Event}
use Rattle.trampoline.specs.Events.{event_room}
use Rattle.trampoline.specs.Trampolines.{event_part, part_length, back_if, code_of}
use Rattle.trampoline.specs.Running.{room_of, IsEvent, HasData, Recorded, Returns, TrampolinesWork}
use Rattle.trampoline.proofs.TrampolineBytes.{part_long}
use Rattle.trampoline.proofs.JoinedRuns.{run_perms, private_part, run_append, last_append, inside_more, inside_append, join_rip}
use Rattle.trampoline.proofs.EventRuns.{events_recorded}

-- code that falls through has a byte, and few
falling_asked : (copied syscall : Bool) (len n : ℕ) → 0 < len → cond copied (Some (cond syscall (len + 5) len)) None ≡ Some n
    → (0 < n) × (n ≤ len + 6)
falling_asked true true len n k e = let q : len + 5 ≡ n = cc in (omega arith, omega arith)
falling_asked true false len n k e = let q : len ≡ n = cc in (omega arith, omega arith)
falling_asked false syscall len n k e = absurd cc

-- code that falls through has a byte, and six more than the instruction at most
pub falling_long : (i : Insn) (len n : ℕ) → 0 < len → falls i ≡ true → code_length i len ≡ Some n → (0 < n) × (n ≤ len + 6)
falling_long (Exact (Jcc condition rel)) len n k h e = let q : 6 ≡ n = cc in (omega arith, omega arith)
falling_long (Exact (Loop kind rel short)) len n k h e = absurd cc
falling_long (Exact (Jmp target)) len n k h e = absurd cc
falling_long (Exact (Call target)) len n k h e = absurd cc
falling_long (Exact (Ret extra)) len n k h e = absurd cc
falling_long (Exact op) len n k h e = let q : len ≡ n = cc in (omega arith, omega arith)
falling_long (Asked form) len n k h e = falling_asked form.copied form.syscall len n k e
falling_long Ending len n k h e = absurd cc

-- A length that is told under a test is the length itself.
pub kept_length : (b : Bool) (o : Option ℕ) (n : ℕ) → cond b o None ≡ Some n → o ≡ Some n
kept_length true o n e = e
kept_length false o n e = absurd cc

-- the private range has what relocated code needs
room_enough : (event : Option Event) → 24 ≤ room_of event
room_enough None = omega arith
room_enough (Some e) = by_action e.action e.number
  where
    by_action : (action : Action) (number : ℕ) → 24 ≤ event_room action number
    by_action Cover number = omega arith
    by_action Count number = omega arith
    by_action (Ring len) number = omega arith
    by_action (When base.Cover list) number = omega arith
    by_action (When base.Count list) number = omega arith

few_five : (b : Bool) (n : ℕ) → n ≤ cond b 1 5 → n ≤ 5
few_five true n h = omega arith
few_five false n h = h

module _ (event : Option Event) (f : Fields) (from place private k : ℕ) (is : IsInstruction f)
    (d : displaced_len (insn_of f) (length (spelling f)) from ≡ Some k) (lf : from + length (spelling f) ≤ 0x7FFF0000)
    (lp : place + part_length event < 0x7FFF0080) where
  -- the address behind the instruction, the place of the relocated code, that code, and the jump back
  abbrev next : ℕ
  next = from + length (spelling f)

  abbrev to : ℕ
  to = place + part_length event

  abbrev work : List ℕ
  work = relocated_code private f next to

  abbrev back : List ℕ
  back = back_if (falls (insn_of f)) (to + length work) next

  code_long : length work ≡ k
  code_long = relocated_long f private next to k is (kept_length _ (code_length (insn_of f) (length (spelling f))) k d)

  whole_long : place + length (code_of event private f next place) ≡ to + length (work ++ back)
  whole_long = omega (arith, length-append (event_part event private) (work ++ back), part_long event private)

  work_ends : to + length work ≤ place + length (code_of event private f next place)
  work_ends = omega (arith, whole_long, length-append work back)

  some_next : next_after from f ≡ next
  some_next = next_address from (length (spelling f)) (omega arith)

  falling : falls (insn_of f) ≡ true → (0 < length work) × (length work ≤ 21)
  falling h =
      let some : 0 < length (spelling f) = omega (arith, imm_ends f) in
      let q = falling_long (insn_of f) (length (spelling f)) k some h (kept_length _ (code_length (insn_of f) (length (spelling f))) k d) in
      (omega (arith, q.0, code_long), omega (arith, q.1, code_long, is.short))

  module _ (set' : ℕ → Bool) (n : ℕ) (bytes : List ℕ) (s t : Machine) (event_is : IfSome event IsEvent) (room : room_of event ≤ n)
      (ready : IsReady set' private n place (code_of event private f next place) s t) (held : HasData event private n bytes t) where
    recorded : (us : List Machine) × Recorded set' event private n place bytes s t us
    recorded = events_recorded set' event private n place (work ++ back) bytes s t event_is room (omega arith) ready held

    abbrev v : Machine
    v = last_of t recorded.0

    -- the rest of the trampoline still stands behind the event
    rest_stands : IsFixed v.mem to (work ++ back)
    rest_stands =
        let l = part_long event private in
        let there = fixed_back t.mem place (event_part event private) (work ++ back) (omega (arith, l)) ready.stands in
        fixed_on t.mem v.mem to (work ++ back) (run_code t.mem t recorded.0 recorded.1.run (λ x i j. refl))
        (subst (λ (z : ℕ). IsFixed t.mem (place + z) (work ++ back)) l there)

    -- and relocated code is about to run
    work_ready : IsReady set' private 24 to work s v
    work_ready = record {
      processor = ready.processor;
      seen = recorded.1.seen;
      there = recorded.1.there;
      stands = fixed_front v.mem to work back rest_stands;
      range = private_part set' private n 24 v.mem (omega (arith, room, room_enough event))
          (private_on set' private n t.mem v.mem (run_perms t recorded.0 recorded.1.run) ready.range);
    }

    module _ (s' : Machine) (w : Works set' (insn_of f) private (next_after from f) to (length work) s' v) where
      abbrev hi : ℕ
      hi = place + length (code_of event private f next place)

      within : Inside (to + 1) hi w.inner
      within = inside_more (to + 1) (to + length work) (to + 1) hi w.inner (omega arith) work_ends w.inside

      -- the code went where the instruction goes
      gone : w.end.rip ≡ s'.rip → Returns set' private to hi s' v
      gone e = record {
        inner = w.inner;
        end = w.end;
        run = w.run;
        few = few_five (falls (insn_of f)) (length w.inner) w.few;
        inside =
            within;
        seen = join_rip set' s' w.end w.seen e;
        kept = w.kept;
      }

      -- or to its own end, from where the jump goes behind the instruction
      abbrev states : List Machine
      states = w.inner ++ w.end ∷ []

      last : last_of v states ≡ w.end
      last = last_append v w.end w.inner

      jumped : falls (insn_of f) ≡ true → s'.rip ≡ next → w.end.rip ≡ to + length work → Returns set' private to hi s' v
      jumped h own other =
          let q = falling h in
          let stands = fixed_back v.mem to work back (omega (arith, q.1)) rest_stands in
          let jump : IsFixed v.mem (to + length work) (jump_code (to + length work) next) =
          subst (λ (b : Bool). IsFixed v.mem (to + length work) (back_if b (to + length work) next)) h stands in
          let same = subst (λ (z : Machine). SameCode v.mem z.mem) last (run_code v.mem v states w.run (λ x i j. refl)) in
          let step = jump_step w.end (to + length work) next (omega (arith, q.1)) (omega arith) other
          (fixed_on v.mem w.end.mem (to + length work) (jump_code (to + length work) next) same jump) in
          let long : hi ≡ to + length work + 5 = whole_long
          ∙ (let e = length-append work back in let b : length back ≡ 5 = ap (λ (z : Bool). length (back_if z (to + length work) next))
          h in omega (arith, e, b)) in
          record {
            inner = states;
            end = gone_to w.end next;
            run = run_append v states (gone_to w.end next ∷ []) w.run
                (subst (λ (z : Machine). IsRun Step z (gone_to w.end next ∷ [])) (sym last) (step, tt));
            few = (let e = length-append w.inner (w.end ∷ []) in let m : length w.inner ≤ 1 =
                subst (λ (z : Bool). length w.inner ≤ cond z 1 5) h w.few in omega (arith, e, m));
            inside = inside_append (to + 1) hi w.inner (w.end ∷ []) within (omega (arith, other, q.0), omega (arith, other, long), tt);
            seen = join_rip set' s' (gone_to w.end next) w.seen (sym own);
            kept = w.kept;
          }

      returns : Returns set' private to hi s' v
      returns = arrive w.arrives
        where
          arrive : (w.end.rip ≡ s'.rip) ⊎ ((falls (insn_of f) ≡ true) × (s'.rip ≡ next_after from f) × (w.end.rip ≡ to + length work))
              → Returns set' private to hi s' v
          arrive (inl e) = gone e
          arrive (inr e) = jumped e.0 (e.1 ∙ some_next) e.2

-- the law of trampolines, by that of relocated code
pub trampolines : TrampolinesWork
trampolines event f from place private k is event_is d lf lp set' n bytes s t at room ready held =
    let e = recorded event f from place private k is d lf lp set' n bytes s t event_is room ready held in
    let w = work_ready event f from place private k is d lf lp set' n bytes s t event_is room ready held in (
      e.0,
      e.1,
      λ s' st. returns event f from place private k is d lf lp set' n bytes s t event_is room ready held s'
          (relocated_works f from (place + part_length event) private k is d lf lp set' s s' (last_of t e.0) at st w),
    )
