-- The premises are met by a guest of two threads.
use Rattle.std.proofs.Common.{◌≡◌, ◌≢◌, ◌⊎◌, inl, inr, ℕ, zero, suc, ◌^◌, ◌<◌, true, false, List, [], ◌∷◌, ◌++◌, map, replicate, slice_index, Option, Some, None, refl, sym, ap, ◌∙◌, subst, arith, true≢false}
use Rattle.std.specs.Prelude.{slice_get}
use Rattle.std.specs.Int.Count.{ones}
use Rattle.std.specs.List.{flat_map}
use Rattle.std.proofs.lemmas.Bool.{false≢true, cases_Bool}
use Rattle.pun_base.specs.Memory.{Cell, Bytes, joined, or_else}
use Rattle.cpu_alu.specs.Sums.{total, carries, overflows}
use Rattle.cpu_alu.specs.Widths.{signed}
use Rattle.cpu_alu.specs.Outcome.{is_even}
use Rattle.cpu_alu.specs.declared.flag_word.Flags.{Flags}
use Rattle.cpu_state.specs.Bytes.{Stands, avoids, put_list}
use Rattle.length_decode.specs.Spelling.{Fields, IsInstruction, spelling}
use Rattle.insn_form.specs.Classes.{template}
use Rattle.insn_form.specs.Filling.{filled}
use Rattle.insn_form.specs.Conditions.{is_met}
use Rattle.insn_form.specs.Meaning.{effect}
use Rattle.insn_form.specs.Machine.{leaves, avoids_writes}
use Rattle.insn_form.specs.Step.{next_after}
use Rattle.insn_form.specs.Runs.{nowhere}
use Rattle.insn_form.specs.Moved.{rel_bytes}
use Rattle.elf_read.specs.Plain.{text_image}
use Rattle.relocate_insn.specs.Worked.{is_between}
use Rattle.relocate_insn.proofs.PieceSteps.{jump_fields, jump_is}
use Rattle.relocate_insn.proofs.WorkedStates.{small_zeros}
use Rattle.trampoline.specs.Worked.{jump_to_itself}
use Rattle.sound_images.specs.Reports.{row_lines}
use Rattle.sound_images.proofs.WorkedImage.{inside, between, spread_out}
use Rattle.patch_report.proofs.ListPlaces.{some_is}
use Rattle.site_turns.proofs.CodeSizes.{one_standing}
use Rattle.event_steps.specs.declared.step.EventStep.{EventStep}
use Rattle.event_steps.specs.declared.step.EventStep.TheVariants.{CountUp, Store, Load, IntoAh, IntoAl, FromAl, FromAh}
use Rattle.event_steps.specs.EventSteps.{place_in, fields_of, IsStep}
use Rattle.event_steps.specs.EventSteps.Mode.{Shared}
use Rattle.event_steps.proofs.SingleSteps.{is_step}
use Rattle.thread_runs.specs.ThreadLists.{saving_thread_event}
use Rattle.pun_base.specs.declared.action.Action.TheVariants.{Count}
use Rattle.pun_base.specs.declared.action.Base.TheVariants as base
use Rattle.guest_threads.specs.FromTurns.{site_of}
use Rattle.thread_runs.specs.Guest.{machine_of}
use Rattle.thread_runs.specs.Premises.{IsQuietAt, StandAtStarts, touches_none, reads_nothing_of, IsProper, IsProperRun}
use Rattle.thread_runs.specs.Theorem.{AreStartGuests, CanGo}
use Rattle.thread_runs.specs.ThreadCode.{Marks, saved_from, saved_len}
use Rattle.event_steps.specs.ThreadSteps.{thread_task, ThreadStepsBy}
use Rattle.thread_runs.specs.Threading.{Threading, is_hidden, is_new, in_event, saves, has_saved, is_saved_by}
use Rattle.thread_runs.specs.Watching.{Watched, Watch, stale_after, is_effect, watched_after, Watches}
use Rattle.guest_threads.specs.WorkedFile.{row_text, row_entry, row_value, row_threading}
use Rattle.guest_threads.specs.WorkedGuest.{stack, start_flags, counted_flags, added_flags, core_with, thread_with, guest_on, waiting, schedule, started, ThreadsMeet, entered, DeliveryMeets, IsThreadsReal}
use Rattle.thread_runs.specs.GuestDeliveries.{Goes, Takes}
use Rattle.thread_runs.specs.WatchedDeliveries.{WatchWith, watched_given, IsGiven}
use Rattle.thread_runs.proofs.PlainGuests.{plain, plain_run, run_then}
use Rattle.guest_threads.proofs.WorkedFile.{itself_is, itself_stands, original_path, entries_are_row, listed_are, row_is_threaded}
use Rattle.guest_threads.proofs.WorkedImage.{row_image, patched_path, entry_is, none_at_stacks}

-- a step of the event that counts, and that it is an instruction
abbrev step_fields : EventStep → Fields
step_fields s = fields_of s (place_in (saving_thread_event base.Count [] 0x20000 0).uses s) 0

step_spelled : (s : EventStep) → IsStep Shared (place_in (saving_thread_event base.Count [] 0x20000 0).uses s) s → IsInstruction (step_fields s)
step_spelled s h = is_step Shared s (place_in (saving_thread_event base.Count [] 0x20000 0).uses s) 0 h

-- thread k of two
abbrev picked : ℕ → List Watched → Watched
picked k [] = record { now = record { core = core_with 0 0 start_flags; rip = 0; world = [] }; projected = record { core = core_with 0 0 start_flags; rip = 0; world = [] } }
picked zero (x ∷ xs) = x
picked (suc k) (x ∷ xs) = picked k xs

abbrev pick : ℕ → Watch → Watched
pick k w = picked k w.threads

-- what holds of both of two threads holds of each
of_two : (x y : Watched) (Q : ℕ → Watched → Type 0) → Q 0 x → Q 1 y → (j : ℕ) (o : Watched) → slice_get (x ∷ y ∷ []) j ≡ Some o → Q j o
of_two x y Q a b zero o e = subst (Q 0) (some_is x o e) a
of_two x y Q a b (suc zero) o e = subst (Q 1) (some_is y o e) b
of_two x y Q a b (suc (suc j)) o e = absurd cc

-- what was patched: its images byte by byte, the entry, the site and its place
abbrev counting : Threading
counting = record {
  original = text_image row_text;
  patched = row_image;
  entry = 0x401000;
  listed = row_entry ∷ [];
  sites = record { number = 0; entry = row_entry; place = 0x2401005; event = Some (Marks base.Count); when = [] } ∷ [];
  private = 0x20000;
  ring = None;
}

-- at the start stands the jump to itself
own_fields : (f : Fields) → IsInstruction f → Stands (text_image row_text) 0x401000 (spelling f) → jump_to_itself ≡ f
own_fields f i h = one_standing (text_image row_text) 0x401000 jump_to_itself f itself_is i itself_stands h

abbrev mem0 : Bytes
mem0 = joined row_image stack

abbrev mem1 : Bytes
mem1 = put_list mem0 0x600f78 (0x07 ∷ 0x00 ∷ 0x00 ∷ 0x00 ∷ 0x00 ∷ 0x00 ∷ 0x00 ∷ 0x00 ∷ [])

abbrev mem2 : Bytes
mem2 = put_list mem1 0x20040 (0x01 ∷ 0x00 ∷ 0x00 ∷ 0x00 ∷ 0x00 ∷ 0x00 ∷ 0x00 ∷ 0x00 ∷ [])

abbrev mem3 : Bytes
mem3 = put_list mem2 0x601f78 (0x07 ∷ 0x00 ∷ 0x00 ∷ 0x00 ∷ 0x00 ∷ 0x00 ∷ 0x00 ∷ 0x00 ∷ [])

abbrev mem4 : Bytes
mem4 = put_list mem3 0x20040 (0x02 ∷ 0x00 ∷ 0x00 ∷ 0x00 ∷ 0x00 ∷ 0x00 ∷ 0x00 ∷ 0x00 ∷ [])

-- a thread with these registers at an address, which counts as it stood at the start
abbrev running : ℕ → ℕ → Flags → ℕ → Watched
running rax rsp f rip = record { now = record { core = core_with rax rsp f; rip = rip; world = [] }; projected = thread_with rsp }

-- the two threads after a step of thread k
abbrev behind : ℕ → Watch → Fields → Watched → Watched → Bytes → Watch
behind k w f x y m = record {
  threads = x ∷ y ∷ [];
  mem = m;
  stale = stale_after counting w.stale (pick k w) f (machine_of w.mem (pick k w).now);
  log = w.log;
  claims = w.claims;
  fills = w.fills;
}

abbrev w0 : Watch
w0 = record { threads = waiting 0x601000 ∷ waiting 0x602000 ∷ []; mem = mem0; stale = nowhere; log = []; claims = []; fills = [] }

abbrev w1 : Watch
w1 = behind 0 w0 (jump_fields (rel_bytes 0x401005 0x2401005)) (running 0x7 0x601000 start_flags 0x2401005) (waiting 0x602000) mem0

abbrev w2 : Watch
w2 = behind 0 w1 (step_fields (Store 0)) (running 0x7 0x601000 start_flags 0x240100d) (waiting 0x602000) mem1

abbrev w3 : Watch
w3 = behind 0 w2 (step_fields IntoAh) (running 0x4307 0x601000 start_flags 0x240100e) (waiting 0x602000) mem1

abbrev w4 : Watch
w4 = behind 0 w3 (step_fields IntoAl) (running 0x4301 0x601000 start_flags 0x2401011) (waiting 0x602000) mem1

abbrev w5 : Watch
w5 = behind 0 w4 (step_fields (CountUp true 1)) (running 0x4301 0x601000 counted_flags 0x240101a) (waiting 0x602000) mem2

abbrev w6 : Watch
w6 = behind 1 w5 (jump_fields (rel_bytes 0x401005 0x2401005)) (running 0x4301 0x601000 counted_flags 0x240101a) (running 0x7 0x602000 start_flags 0x2401005) mem2

abbrev w7 : Watch
w7 = behind 1 w6 (step_fields (Store 0)) (running 0x4301 0x601000 counted_flags 0x240101a) (running 0x7 0x602000 start_flags 0x240100d) mem3

abbrev w8 : Watch
w8 = behind 1 w7 (step_fields IntoAh) (running 0x4301 0x601000 counted_flags 0x240101a) (running 0x4307 0x602000 start_flags 0x240100e) mem3

abbrev w9 : Watch
w9 = behind 1 w8 (step_fields IntoAl) (running 0x4301 0x601000 counted_flags 0x240101a) (running 0x4301 0x602000 start_flags 0x2401011) mem3

abbrev w10 : Watch
w10 = behind 1 w9 (step_fields (CountUp true 1)) (running 0x4301 0x601000 counted_flags 0x240101a) (running 0x4301 0x602000 counted_flags 0x240101a) mem4

abbrev w11 : Watch
w11 = behind 1 w10 (step_fields FromAl) (running 0x4301 0x601000 counted_flags 0x240101a) (running 0x4380 0x602000 added_flags 0x240101c) mem4

abbrev w12 : Watch
w12 = behind 1 w11 (step_fields FromAh) (running 0x4301 0x601000 counted_flags 0x240101a) (running 0x4380 0x602000 start_flags 0x240101d) mem4

abbrev w13 : Watch
w13 = behind 1 w12 (step_fields (Load 0)) (running 0x4301 0x601000 counted_flags 0x240101a) (running 0x7 0x602000 start_flags 0x2401025) mem4

abbrev w14 : Watch
w14 = record (behind 1 w13 (jump_fields (rel_bytes 0x240102a 0x401000)) (running 0x4301 0x601000 counted_flags 0x240101a) (waiting 0x602000) mem4) { log = record { thread = 1; at = 0x401000; core = core_with 7 0x602000 start_flags } ∷ [] }

-- the jump to itself touches no hidden byte
quiet_by : (w : Watch) (f : Fields) → jump_to_itself ≡ f → leaves (is_hidden counting) (thread_task f (next_after (pick 1 w).projected.rip f)) (next_after (pick 1 w).projected.rip f) (machine_of w.mem (pick 1 w).projected) ≡ true
unfolding template filled effect
quiet_by w f e = subst (λ g. leaves (is_hidden counting) (thread_task g (next_after (pick 1 w).projected.rip g)) (next_after (pick 1 w).projected.rip g) (machine_of w.mem (pick 1 w).projected) ≡ true) e refl

-- a step of thread k that meets the premises
abbrev Proper : ℕ → Watch → Watch → Type 0
Proper k w v = (m : Watches counting k w v) × IsProper counting k w v m

-- what it is made of, with what it leaves of each of the two threads
made : (k : ℕ) (w v : Watch) (f : Fields) → w.threads ≡ pick 0 w ∷ pick 1 w ∷ [] → slice_get w.threads k ≡ Some (pick k w)
    → ThreadStepsBy f (machine_of w.mem (pick k w).now) (machine_of v.mem (pick k v).now)
    → v ≡ watched_after counting k w (pick k w) f (machine_of v.mem (pick k v).now)
    → (is_effect counting (pick k w).now.rip ≡ true → IsQuietAt counting (machine_of w.mem (pick k w).projected)) → StandAtStarts counting v.threads
    → (in_event counting (pick k w).now.rip ≡ false → reads_nothing_of w.stale f (machine_of w.mem (pick k w).now) ≡ true)
    → (saves counting (pick k w).now.rip ≡ true → avoids (is_new counting) (saved_from counting.ring (pick k w).now.core) (saved_len counting.ring) ≡ true)
    → (0 ≢ k → has_saved counting (pick 0 w).now.rip ≡ true → touches_none (is_saved_by counting (pick 0 w).now.core) f (machine_of w.mem (pick k w).now) ≡ true)
    → (1 ≢ k → has_saved counting (pick 1 w).now.rip ≡ true → touches_none (is_saved_by counting (pick 1 w).now.core) f (machine_of w.mem (pick k w).now) ≡ true)
    → Proper k w v
made k w v f two there steps after quiet stand fresh saved a b = (
  record { one = pick k w; there = there; fields = f; to = machine_of v.mem (pick k v).now; steps = steps; after = after },
  record {
    quiet = quiet;
    stand = stand;
    fresh = fresh;
    saved = saved;
    apart = λ j o n g h. of_two (pick 0 w) (pick 1 w)
        (λ j o. j ≢ k → has_saved counting o.now.rip ≡ true → touches_none (is_saved_by counting o.now.core) f (machine_of w.mem (pick k w).now) ≡ true) a b j o
        (subst (λ (ts : List Watched). slice_get ts j ≡ Some o) two g) n h;
  },
)

-- thread 0 makes the jump to the trampoline, which is a proper step
step0 : Proper 0 w0 w1
unfolding template filled effect total carries overflows signed is_even ones is_met
step0 =
    made 0 w0 w1 (jump_fields (rel_bytes 0x401005 0x2401005)) refl refl
    (record { at = record { spelled = jump_is _ _ _ _; here = (refl, refl, (refl, refl, (refl, refl, (refl, refl, (refl, refl, tt))))) }; acts = refl }) refl
    (λ h. absurd (false≢true h)) (refl, (refl, tt)) (λ h. refl) (λ h. absurd (false≢true h))
    (λ n h. absurd (n refl)) (λ n h. absurd (false≢true h))

-- thread 0 saves rax by a proper step
step1 : Proper 0 w1 w2
unfolding template filled effect total carries overflows signed is_even ones is_met
step1 =
    made 0 w1 w2 (step_fields (Store 0)) refl refl
    (record { at = record { spelled = step_spelled (Store 0) tt; here = (refl, refl, (refl, refl, (refl, refl, (refl, refl, (refl, refl, (refl, refl, (refl, refl, (refl, refl, tt)))))))) }; acts = refl }) refl
    (λ h. absurd (false≢true h)) (refl, (refl, tt)) (λ h. absurd (true≢false h)) (λ h. refl)
    (λ n h. absurd (n refl)) (λ n h. absurd (false≢true h))

-- thread 0 makes LAHF by a proper step
step2 : Proper 0 w2 w3
unfolding template filled effect total carries overflows signed is_even ones is_met
step2 =
    made 0 w2 w3 (step_fields IntoAh) refl refl
    (record { at = record { spelled = step_spelled IntoAh tt; here = (refl, refl, tt) }; acts = refl }) refl
    (λ h. absurd (false≢true h)) (refl, (refl, tt)) (λ h. absurd (true≢false h)) (λ h. absurd (false≢true h))
    (λ n h. absurd (n refl)) (λ n h. absurd (false≢true h))

-- thread 0 makes SETO by a proper step
step3 : Proper 0 w3 w4
unfolding template filled effect total carries overflows signed is_even ones is_met
step3 =
    made 0 w3 w4 (step_fields IntoAl) refl refl
    (record { at = record { spelled = step_spelled IntoAl tt; here = (refl, refl, (refl, refl, (refl, refl, tt))) }; acts = refl }) refl
    (λ h. absurd (false≢true h)) (refl, (refl, tt)) (λ h. absurd (true≢false h)) (λ h. absurd (false≢true h))
    (λ n h. absurd (n refl)) (λ n h. absurd (false≢true h))

-- thread 0 makes LOCK INC by a proper step
step4 : Proper 0 w4 w5
unfolding template filled effect total carries overflows signed is_even ones is_met
step4 =
    made 0 w4 w5 (step_fields (CountUp true 1)) refl refl
    (record { at = record { spelled = step_spelled (CountUp true 1) tt; here = (refl, refl, (refl, refl, (refl, refl, (refl, refl, (refl, refl, (refl, refl, (refl, refl, (refl, refl, (refl, refl, tt))))))))) }; acts = refl }) refl
    (λ h. absurd (false≢true h)) (refl, (refl, tt)) (λ h. absurd (true≢false h)) (λ h. absurd (false≢true h))
    (λ n h. absurd (n refl)) (λ n h. absurd (false≢true h))

-- thread 1 makes the jump to the trampoline, which is a proper step
step5 : Proper 1 w5 w6
unfolding template filled effect total carries overflows signed is_even ones is_met
step5 =
    made 1 w5 w6 (jump_fields (rel_bytes 0x401005 0x2401005)) refl refl
    (record { at = record { spelled = jump_is _ _ _ _; here = (refl, refl, (refl, refl, (refl, refl, (refl, refl, (refl, refl, tt))))) }; acts = refl }) refl
    (λ h. absurd (false≢true h)) (refl, (refl, tt)) (λ h. refl) (λ h. absurd (false≢true h))
    (λ n h. refl) (λ n h. absurd (n refl))

-- thread 1 saves rax by a proper step
step6 : Proper 1 w6 w7
unfolding template filled effect total carries overflows signed is_even ones is_met
step6 =
    made 1 w6 w7 (step_fields (Store 0)) refl refl
    (record { at = record { spelled = step_spelled (Store 0) tt; here = (refl, refl, (refl, refl, (refl, refl, (refl, refl, (refl, refl, (refl, refl, (refl, refl, (refl, refl, tt)))))))) }; acts = refl }) refl
    (λ h. absurd (false≢true h)) (refl, (refl, tt)) (λ h. absurd (true≢false h)) (λ h. refl)
    (λ n h. refl) (λ n h. absurd (n refl))

-- thread 1 makes LAHF by a proper step
step7 : Proper 1 w7 w8
unfolding template filled effect total carries overflows signed is_even ones is_met
step7 =
    made 1 w7 w8 (step_fields IntoAh) refl refl
    (record { at = record { spelled = step_spelled IntoAh tt; here = (refl, refl, tt) }; acts = refl }) refl
    (λ h. absurd (false≢true h)) (refl, (refl, tt)) (λ h. absurd (true≢false h)) (λ h. absurd (false≢true h))
    (λ n h. refl) (λ n h. absurd (n refl))

-- thread 1 makes SETO by a proper step
step8 : Proper 1 w8 w9
unfolding template filled effect total carries overflows signed is_even ones is_met
step8 =
    made 1 w8 w9 (step_fields IntoAl) refl refl
    (record { at = record { spelled = step_spelled IntoAl tt; here = (refl, refl, (refl, refl, (refl, refl, tt))) }; acts = refl }) refl
    (λ h. absurd (false≢true h)) (refl, (refl, tt)) (λ h. absurd (true≢false h)) (λ h. absurd (false≢true h))
    (λ n h. refl) (λ n h. absurd (n refl))

-- thread 1 makes LOCK INC by a proper step
step9 : Proper 1 w9 w10
unfolding template filled effect total carries overflows signed is_even ones is_met
step9 =
    made 1 w9 w10 (step_fields (CountUp true 1)) refl refl
    (record { at = record { spelled = step_spelled (CountUp true 1) tt; here = (refl, refl, (refl, refl, (refl, refl, (refl, refl, (refl, refl, (refl, refl, (refl, refl, (refl, refl, (refl, refl, tt))))))))) }; acts = refl }) refl
    (λ h. absurd (false≢true h)) (refl, (refl, tt)) (λ h. absurd (true≢false h)) (λ h. absurd (false≢true h))
    (λ n h. refl) (λ n h. absurd (n refl))

-- thread 1 makes ADD by a proper step
step10 : Proper 1 w10 w11
unfolding template filled effect total carries overflows signed is_even ones is_met
step10 =
    made 1 w10 w11 (step_fields FromAl) refl refl
    (record { at = record { spelled = step_spelled FromAl tt; here = (refl, refl, (refl, refl, tt)) }; acts = refl }) refl
    (λ h. absurd (false≢true h)) (refl, (refl, tt)) (λ h. absurd (true≢false h)) (λ h. absurd (false≢true h))
    (λ n h. refl) (λ n h. absurd (n refl))

-- thread 1 makes SAHF by a proper step
step11 : Proper 1 w11 w12
unfolding template filled effect total carries overflows signed is_even ones is_met
step11 =
    made 1 w11 w12 (step_fields FromAh) refl refl
    (record { at = record { spelled = step_spelled FromAh tt; here = (refl, refl, tt) }; acts = refl }) refl
    (λ h. absurd (false≢true h)) (refl, (refl, tt)) (λ h. absurd (true≢false h)) (λ h. absurd (false≢true h))
    (λ n h. refl) (λ n h. absurd (n refl))

-- thread 1 restores rax by a proper step
step12 : Proper 1 w12 w13
unfolding template filled effect total carries overflows signed is_even ones is_met
step12 =
    made 1 w12 w13 (step_fields (Load 0)) refl refl
    (record { at = record { spelled = step_spelled (Load 0) tt; here = (refl, refl, (refl, refl, (refl, refl, (refl, refl, (refl, refl, (refl, refl, (refl, refl, (refl, refl, tt)))))))) }; acts = refl }) refl
    (λ h. absurd (false≢true h)) (refl, (refl, tt)) (λ h. absurd (true≢false h)) (λ h. absurd (false≢true h))
    (λ n h. refl) (λ n h. absurd (n refl))

-- thread 1 makes the jump that is displaced, its effect step, which is proper
step13 : Proper 1 w13 w14
unfolding template filled effect total carries overflows signed is_even ones is_met
step13 =
    made 1 w13 w14 (jump_fields (rel_bytes 0x240102a 0x401000)) refl refl
    (record { at = record { spelled = jump_is _ _ _ _; here = (refl, refl, (refl, refl, (refl, refl, (refl, refl, (refl, refl, tt))))) }; acts = refl }) refl
    (λ h. record { known = refl; leaves = λ f i s. quiet_by w13 f (own_fields f i s) }) (refl, (refl, tt)) (λ h. refl) (λ h. absurd (false≢true h))
    (λ n h. refl) (λ n h. absurd (n refl))

abbrev watches : List Watch
watches = w1 ∷ w2 ∷ w3 ∷ w4 ∷ w5 ∷ w6 ∷ w7 ∷ w8 ∷ w9 ∷ w10 ∷ w11 ∷ w12 ∷ w13 ∷ w14 ∷ []

-- from the eighth step on, and the whole run
late : IsProperRun counting (1 ∷ 1 ∷ 1 ∷ 1 ∷ 1 ∷ 1 ∷ 1 ∷ []) w7 (w8 ∷ w9 ∷ w10 ∷ w11 ∷ w12 ∷ w13 ∷ w14 ∷ [])
late = ((refl, (refl, tt)), step7, ((refl, (refl, tt)), step8, ((refl, (refl, tt)), step9, ((refl, (refl, tt)), step10, ((refl, (refl, tt)), step11, ((refl, (refl, tt)), step12, ((refl, (refl, tt)), step13, (refl, (refl, tt)))))))))

-- the fourteen steps are a proper run
proper : IsProperRun counting schedule (started counting) watches
proper = ((refl, (refl, tt)), step0, ((refl, (refl, tt)), step1, ((refl, (refl, tt)), step2, ((refl, (refl, tt)), step3, ((refl, (refl, tt)), step4, ((refl, (refl, tt)), step5, ((refl, (refl, tt)), step6, late)))))))

-- the registers of a thread at the start are below 2^64
small_start : (p r : ℕ) → p < 2 ^ 64 → slice_index (7 ∷ 0 ∷ 0 ∷ 0 ∷ p ∷ replicate 11 0) r < 2 ^ 64
small_start p zero h = omega arith
small_start p (suc zero) h = omega arith
small_start p (suc (suc zero)) h = omega arith
small_start p (suc (suc (suc zero))) h = omega arith
small_start p (suc (suc (suc (suc zero)))) h = h
small_start p (suc (suc (suc (suc (suc r))))) h = small_zeros 11 r

-- the stack meets neither image
apart : (x : ℕ) → (joined (text_image row_text) row_image x ≡ None) ⊎ (stack x ≡ None)
apart x = elim (cases_Bool (is_between 0x600000 0x602000 x)) [
  | inl b ↦ (let q = inside 0x600000 0x602000 x b in
      let n = none_at_stacks x q.0 q.1 in
      inl (ap (λ (o : Option Cell). or_else o (row_image x)) n.0 ∙ n.1))
  | inr b ↦ inr (spread_out 0x600000 0x602000 6 [] x (λ a c. true≢false (sym (between 0x600000 0x602000 x a c) ∙ b)))
]

-- the two guests are start guests
are_started : AreStartGuests counting (guest_on counting.original) (guest_on counting.patched)
are_started = record {
  threads = refl;
  each = (
    (record { core = record { count = refl; small = λ r. small_start 0x601000 r (omega arith) }; world = tt }, refl),
    ((record { core = record { count = refl; small = λ r. small_start 0x602000 r (omega arith) }; world = tt }, refl), tt),
  );
  further = stack;
  apart = apart;
  original = refl;
  patched = refl;
}

-- the jump to itself touches no hidden byte, in any memory
quiet_start : (m : Bytes) (f : Fields) → jump_to_itself ≡ f → leaves (is_hidden counting) (thread_task f (next_after 0x401000 f)) (next_after 0x401000 f) (machine_of m (thread_with 0x601000)) ≡ true
unfolding template filled effect
quiet_start m f e = subst (λ g. leaves (is_hidden counting) (thread_task g (next_after 0x401000 g)) (next_after 0x401000 g) (machine_of m (thread_with 0x601000)) ≡ true) e refl

-- thread 0 can go at the start
can_go : CanGo counting (started counting) (waiting 0x601000) (guest_on counting.original)
unfolding template filled effect
can_go = record {
  stands = refl;
  fields = jump_to_itself;
  to = record { core = core_with 7 0x601000 start_flags; rip = 0x401000; mem = (guest_on counting.original).mem; world = [] };
  steps = record { at = record { spelled = itself_is; here = (refl, refl, (refl, refl, tt)) }; acts = refl };
  quiet = record { known = refl; leaves = λ f i s. quiet_start (guest_on counting.original).mem f (own_fields f i s) };
  ends = refl;
  read = λ h. refl;
  written = λ h. refl;
  old = λ h. refl;
  unread = λ h. refl;
  fresh = refl;
}

-- two threads meet the premises by these fourteen steps
met : ThreadsMeet counting watches
met = record { start = are_started; run = proper; one = refl; two = refl; effects = refl; back = refl; goes = can_go }

-- the watched guest after the delivery
abbrev given_at_last : WatchWith
given_at_last = record { watch = watched_given 1 (waiting 0x602000) entered w14; made = Goes 1 ∷ Takes 1 entered ∷ [] }

-- the delivery meets the premises
is_given : IsGiven counting 1 entered (plain w14) given_at_last
is_given = record {
  one = waiting 0x602000;
  there = refl;
  fits = record { here = refl; there = refl; core = record { count = refl; small = λ r. small_entered r }; held = refl; apart = refl };
  old = refl;
  apart = λ j o n g h. of_two (pick 0 w14) (pick 1 w14) (λ j o. j ≢ 1 → avoids_writes (is_saved_by counting o.now.core) entered.writes ≡ true) (λ n. refl) (λ n. absurd (n refl)) j o g n;
  after = refl;
  made = refl;
}
  where
    small_entered : (r : ℕ) → slice_index (9 ∷ 0 ∷ 0 ∷ 0 ∷ 0x601f78 ∷ replicate 11 0) r < 2 ^ 64
    small_entered zero = omega arith
    small_entered (suc zero) = omega arith
    small_entered (suc (suc zero)) = omega arith
    small_entered (suc (suc (suc zero))) = omega arith
    small_entered (suc (suc (suc (suc zero)))) = omega arith
    small_entered (suc (suc (suc (suc (suc r))))) = small_zeros 11 r

-- a delivery is made after fourteen steps
delivered : DeliveryMeets counting (map plain watches ++ given_at_last ∷ [])
delivered = record {
  run = run_then counting (map Goes schedule) (plain w0) (map plain watches) (Takes 1 entered) given_at_last (plain_run counting schedule w0 watches proper) is_given (refl, (refl, tt));
  made = refl;
}

-- the rewriting that is counted is that of the row's files
is_row : counting ≡ row_threading
is_row = λ i. record {
  original = original_path i;
  patched = patched_path i;
  entry = sym entry_is i;
  listed = sym entries_are_row i;
  sites = flat_map (site_of Count (sym entries_are_row i)) (flat_map row_lines (row_value ∷ []));
  private = 0x20000;
  ring = None;
}

-- a run of two threads of the row's written file meets all premises of the theorem
pub threads_are_real : IsThreadsReal
threads_are_real = record {
  listed = listed_are;
  sound = row_is_threaded.followed.sound;
  met = subst (λ (r : Threading). (ws : List Watch) × ThreadsMeet r ws) is_row (watches, met);
  delivered = subst (λ (r : Threading). (xs : List WatchWith) × DeliveryMeets r xs) is_row (map plain watches ++ given_at_last ∷ [], delivered);
}
