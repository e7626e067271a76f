-- The worked run in which a thread begins meets the premises of the theorem.
use Rattle.std.proofs.Common.{◌≡◌, ◌≢◌, ℕ, zero, suc, Bool, true, false, List, [], ◌∷◌, replicate, Option, Some, None, refl, ap, ◌∙◌, subst, arith}
use Rattle.std.specs.Prelude.{slice_get}
use Rattle.std.specs.Int.Count.{ones}
use Rattle.std.proofs.lemmas.Bool.{false≢true, true≢false}
use Rattle.pun_base.specs.Memory.{Bytes, joined}
use Rattle.pun_base.specs.declared.action.Base.TheVariants.{Cover}
use Rattle.cpu_alu.specs.Sums.{total, carries, overflows}
use Rattle.cpu_alu.specs.Widths.{signed}
use Rattle.cpu_alu.specs.Outcome.{is_even}
use Rattle.length_decode.specs.Spelling.{Fields}
use Rattle.cpu_state.specs.Bytes.{put_list}
use Rattle.cpu_state.specs.Processor.{AreWords}
use Rattle.insn_form.specs.Classes.{template}
use Rattle.insn_form.specs.Filling.{filled}
use Rattle.insn_form.specs.Conditions.{is_met}
use Rattle.insn_form.specs.Meaning.{effect}
use Rattle.insn_form.specs.Machine.{leaves}
use Rattle.insn_form.specs.Step.{next_after}
use Rattle.insn_form.specs.Moved.{rel_bytes}
use Rattle.insn_form.specs.Runs.{nowhere}
use Rattle.relocate_insn.proofs.PieceSteps.{jump_fields, jump_is}
use Rattle.trampoline.specs.Worked.{jump_to_itself}
use Rattle.trampoline.proofs.EventPieces.{mark_fields, mark_is}
use Rattle.thread_runs.specs.ThreadCode.{Kind, Marks, Keeps, code_if}
use Rattle.event_steps.specs.ThreadSteps.{thread_task}
use Rattle.thread_runs.specs.Guest.{Thread, machine_of}
use Rattle.thread_runs.specs.Threading.{is_hidden, has_saved, is_saved_by, ring_of, IsThreadSound}
use Rattle.thread_runs.specs.Watching.{Watched, Watch, EffectStep, stale_after}
use Rattle.thread_runs.specs.Premises.{touches_none}
use Rattle.thread_runs.specs.Theorem.{AreStartGuests}
use Rattle.thread_runs.specs.GuestDeliveries.{Goes}
use Rattle.thread_laws.specs.Beginning.{Does, Begins, GrowingWatch, IsDone, IsBegun, IsProperGrowing}
use Rattle.thread_laws.specs.WorkedGuest.{system_call, patched_image, stacks, caller, parent, child}
use Rattle.thread_laws.specs.WorkedBirth.{cover_code, covering, guest_on, items, IsBirthReal}
use Rattle.thread_laws.proofs.WorkedImages.{call_is, own_call, own_jump, are_entries, sound, small_core, stacks_apart}

-- the code is that of the trampoline
code_is : code_if (Some (Marks Cover)) [] 0x20000 0 jump_to_itself 0x401004 0x2401007 ≡ cover_code
unfolding template filled
code_is = refl

-- the patched image is sound for threads
is_sound : IsThreadSound covering
is_sound = sound 0x401000 (Some (Marks Cover)) [] None cover_code code_is (record { asked = tt; few = omega arith }) (omega arith)
    (refl, refl, refl, (refl, refl, refl, (refl, refl, refl, (refl, refl, refl, (refl, refl, refl, (refl, refl, refl, (refl, refl, refl, (refl, refl, refl, (refl, refl, refl, (refl, refl, refl, (refl, refl, refl, (refl, refl, refl, (refl, refl, refl, tt)))))))))))))
    (λ k e. by_kind k e) (λ n e. absurd (none_some n e))
  where
    by_kind : (k : Kind) → ◌≡◌ {A = Option Kind} (Some (Marks Cover)) (Some k) → ◌≡◌ {A = Option ℕ} None (ring_of k)
    by_kind (Marks b) e = refl
    by_kind (Keeps n) e = cc

    none_some : (n : ℕ) → ◌≡◌ {A = Option ℕ} None (Some n) → ⊥
    none_some n e = cc

abbrev mem0 : Bytes
mem0 = joined (patched_image cover_code) stacks

abbrev mem1 : Bytes
mem1 = put_list mem0 0x20040 (1 ∷ [])

-- a thread that counts as itself
abbrev itself : Thread → Watched
itself t = record { now = t; projected = t }

-- the thread that began, at an address of the trampoline
abbrev inner : ℕ → Watched
inner rip = record { now = record { core = child.core; rip = rip; world = [] }; projected = child }

-- the watched guest after a step by which its threads and its memory are these
abbrev behind : Watch → Watched → Fields → List Watched → Bytes → List EffectStep → Watch
behind w one f ts m log = record { threads = ts; mem = m; stale = stale_after covering w.stale one f (machine_of w.mem one.now); log = log; claims = []; fills = [] }

abbrev log0 : List EffectStep
log0 = record { thread = 0; at = 0x401000; core = caller.core } ∷ []

abbrev w0 : Watch
w0 = record { threads = itself caller ∷ []; mem = mem0; stale = nowhere; log = []; claims = []; fills = [] }

abbrev w1 : Watch
w1 = behind w0 (itself caller) system_call (itself parent ∷ []) mem0 log0

abbrev w2 : Watch
w2 = record { threads = itself parent ∷ itself child ∷ []; mem = mem0; stale = w1.stale; log = log0; claims = []; fills = [] }

abbrev w3 : Watch
w3 = behind w2 (itself child) (jump_fields (rel_bytes 0x401007 0x2401007)) (itself parent ∷ inner 0x2401007 ∷ []) mem0 log0

abbrev w4 : Watch
w4 = behind w3 (inner 0x2401007) (mark_fields 0x20040) (itself parent ∷ inner 0x240100f ∷ []) mem1 log0

abbrev w5 : Watch
w5 = behind w4 (inner 0x240100f) (jump_fields (rel_bytes 0x2401014 0x401002)) (itself parent ∷ itself child ∷ []) mem1
    (record { thread = 0; at = 0x401000; core = caller.core } ∷ record { thread = 1; at = 0x401002; core = child.core } ∷ [])

abbrev x0 : GrowingWatch
x0 = record { watch = w0; made = [] }

abbrev x1 : GrowingWatch
x1 = record { watch = w1; made = Does (Goes 0) ∷ [] }

abbrev x2 : GrowingWatch
x2 = record { watch = w2; made = Does (Goes 0) ∷ Begins child ∷ [] }

abbrev x3 : GrowingWatch
x3 = record { watch = w3; made = Does (Goes 0) ∷ Begins child ∷ [] }

abbrev x4 : GrowingWatch
x4 = record { watch = w4; made = Does (Goes 0) ∷ Begins child ∷ [] }

abbrev x5 : GrowingWatch
x5 = record { watch = w5; made = Does (Goes 0) ∷ Begins child ∷ Does (Goes 1) ∷ [] }

-- no other thread there is
alone : (one : Watched) (P : Watched → Type 0) (j : ℕ) (o : Watched) → j ≢ 0 → slice_get (one ∷ []) j ≡ Some o → P o
alone one P zero o n e = absurd (n refl)
alone one P (suc j) o n e = absurd cc

-- whether a thread stands in its event
abbrev saved_of : Option Watched → Bool
saved_of None = false
saved_of (Some z) = has_saved covering z.now.rip

-- the other thread, behind its call, stands in no event
other_out : (one : Watched) (P : Watched → Type 0) (j : ℕ) (o : Watched) → j ≢ 1 → slice_get (itself parent ∷ one ∷ []) j ≡ Some o → has_saved covering o.now.rip ≡ true → P o
other_out one P zero o n e h = absurd (false≢true (ap (λ (z : Option Watched). saved_of z) e ∙ h))
other_out one P (suc zero) o n e h = absurd (n refl)
other_out one P (suc (suc j)) o n e h = absurd cc

-- SYSCALL touches no hidden byte
quiet_call : (f : Fields) → system_call ≡ f → leaves (is_hidden covering) (thread_task f (next_after 0x401000 f)) (next_after 0x401000 f) (machine_of mem0 caller) ≡ true
unfolding template filled effect
quiet_call f e = subst (λ g. leaves (is_hidden covering) (thread_task g (next_after 0x401000 g)) (next_after 0x401000 g) (machine_of mem0 caller) ≡ true) e refl

-- nor does the jump to itself
quiet_jump : (f : Fields) → jump_to_itself ≡ f → leaves (is_hidden covering) (thread_task f (next_after 0x401002 f)) (next_after 0x401002 f) (machine_of mem1 child) ≡ true
unfolding template filled effect
quiet_jump f e = subst (λ g. leaves (is_hidden covering) (thread_task g (next_after 0x401002 g)) (next_after 0x401002 g) (machine_of mem1 child) ≡ true) e refl

-- the call is a proper step
step0 : IsDone covering (Goes 0) x0 x1
unfolding template filled effect total carries overflows signed is_even ones is_met
step0 = record {
  own = Goes 0 ∷ [];
  item = record {
    step = record {
      one = itself caller;
      there = refl;
      fields = system_call;
      to = machine_of mem0 parent;
      steps = record { at = record { spelled = call_is; here = (refl, refl, (refl, refl, tt)) }; acts = refl };
      after = refl;
    };
    proper = record {
      quiet = λ h. record { known = refl; leaves = λ f i s. quiet_call f (own_call f i s) };
      stand = (refl, tt);
      fresh = λ h. refl;
      saved = λ h. absurd (false≢true h);
      apart = λ j o n g h. alone (itself caller) (λ o. touches_none (is_saved_by covering o.now.core) system_call (machine_of mem0 caller) ≡ true) j o n g;
    };
    made = refl;
  };
  made = refl;
}

-- a thread begins
step1 : IsBegun covering child x1 x2
step1 = record {
  can = record {
    start = refl;
    core = record { count = refl; small = small_core 0 0x401002 0x602000 0x700000 (omega arith) (omega arith) (omega arith) };
    words = tt;
  };
  after = refl;
  made = refl;
}

-- it makes the jump to the trampoline
step2 : IsDone covering (Goes 1) x2 x3
unfolding template filled effect total carries overflows signed is_even ones is_met
step2 = record {
  own = [];
  item = record {
    step = record {
      one = itself child;
      there = refl;
      fields = jump_fields (rel_bytes 0x401007 0x2401007);
      to = machine_of mem0 (inner 0x2401007).now;
      steps = record { at = record { spelled = jump_is _ _ _ _; here = (refl, refl, (refl, refl, (refl, refl, (refl, refl, (refl, refl, tt))))) }; acts = refl };
      after = refl;
    };
    proper = record {
      quiet = λ h. absurd (false≢true h);
      stand = (refl, (refl, tt));
      fresh = λ h. refl;
      saved = λ h. absurd (false≢true h);
      apart = λ j o n g h. other_out (itself child) (λ o. touches_none (is_saved_by covering o.now.core) (jump_fields (rel_bytes 0x401007 0x2401007)) (machine_of mem0 child) ≡ true) j o n g h;
    };
    made = refl;
  };
  made = refl;
}

-- the store
step3 : IsDone covering (Goes 1) x3 x4
unfolding template filled effect total carries overflows signed is_even ones is_met
step3 = record {
  own = [];
  item = record {
    step = record {
      one = inner 0x2401007;
      there = refl;
      fields = mark_fields 0x20040;
      to = machine_of mem1 (inner 0x240100f).now;
      steps = record { at = record { spelled = mark_is 0x20040; here = (refl, refl, (refl, refl, (refl, refl, (refl, refl, (refl, refl, (refl, refl, (refl, refl, (refl, refl, tt)))))))) }; acts = refl };
      after = refl;
    };
    proper = record {
      quiet = λ h. absurd (false≢true h);
      stand = (refl, (refl, tt));
      fresh = λ h. absurd (true≢false h);
      saved = λ h. absurd (false≢true h);
      apart = λ j o n g h. other_out (inner 0x2401007) (λ o. touches_none (is_saved_by covering o.now.core) (mark_fields 0x20040) (machine_of mem0 (inner 0x2401007).now) ≡ true) j o n g h;
    };
    made = refl;
  };
  made = refl;
}

-- the displaced jump, its effect step
step4 : IsDone covering (Goes 1) x4 x5
unfolding template filled effect total carries overflows signed is_even ones is_met
step4 = record {
  own = Goes 1 ∷ [];
  item = record {
    step = record {
      one = inner 0x240100f;
      there = refl;
      fields = jump_fields (rel_bytes 0x2401014 0x401002);
      to = machine_of mem1 child;
      steps = record { at = record { spelled = jump_is _ _ _ _; here = (refl, refl, (refl, refl, (refl, refl, (refl, refl, (refl, refl, tt))))) }; acts = refl };
      after = refl;
    };
    proper = record {
      quiet = λ h. record { known = refl; leaves = λ f i s. quiet_jump f (own_jump f i s) };
      stand = (refl, (refl, tt));
      fresh = λ h. refl;
      saved = λ h. absurd (false≢true h);
      apart = λ j o n g h. other_out (inner 0x240100f) (λ o. touches_none (is_saved_by covering o.now.core) (jump_fields (rel_bytes 0x2401014 0x401002)) (machine_of mem1 (inner 0x240100f).now) ≡ true) j o n g h;
    };
    made = refl;
  };
  made = refl;
}

-- numbers that aren't given have 64 bits
none_given : (n : ℕ) → AreWords (replicate n None)
none_given zero = tt
none_given (suc n) = (tt, none_given n)

-- the two guests are start guests
are_started : AreStartGuests covering (guest_on covering.original) (guest_on covering.patched)
are_started = record {
  threads = refl;
  each = (
    (
      record {
        core = record { count = refl; small = small_core 56 0 0x601000 0 (omega arith) (omega arith) (omega arith) };
        world = ((omega arith, none_given 15), tt);
      },
      refl,
    ),
    tt,
  );
  further = stacks;
  apart = stacks_apart cover_code;
  original = refl;
  patched = refl;
}

-- the run
proper : IsProperGrowing covering items x0 (x1 ∷ x2 ∷ x3 ∷ x4 ∷ x5 ∷ [])
proper = ((refl, tt), step0, ((refl, tt), step1, ((refl, (refl, tt)), step2, ((refl, (refl, tt)), step3, ((refl, (refl, tt)), step4, (refl, (refl, tt)))))))

-- all premises are met
pub birth_is_real : IsBirthReal
birth_is_real = record {
  listed = are_entries;
  sound = is_sound;
  entry = refl;
  met = (
    x1 ∷ x2 ∷ x3 ∷ x4 ∷ x5 ∷ [],
    record { start = are_started; run = proper; cloned = refl; made = refl; covered = refl; first = refl; second = refl },
  );
}
