-- The worked run under a condition meets the premises of the theorem.
use Rattle.std.proofs.Common.{◌≡◌, ℕ, true, false, List, [], ◌∷◌, Option, Some, None, refl, arith}
use Rattle.std.specs.Int.Count.{ones}
use Rattle.std.proofs.lemmas.Bool.{false≢true, true≢false}
use Rattle.pun_base.specs.Memory.{Bytes, joined}
use Rattle.pun_base.specs.declared.action.Base.TheVariants.{Count}
use Rattle.cpu_alu.specs.Sums.{total, carries, overflows}
use Rattle.cpu_alu.specs.Widths.{signed}
use Rattle.cpu_alu.specs.Outcome.{is_even}
use Rattle.cpu_alu.specs.declared.flag_word.Flags.{Flags}
use Rattle.cpu_state.specs.Bytes.{put_list}
use Rattle.insn_form.specs.Classes.{template}
use Rattle.insn_form.specs.Filling.{filled}
use Rattle.insn_form.specs.Conditions.{is_met}
use Rattle.insn_form.specs.Meaning.{effect}
use Rattle.insn_form.specs.Moved.{rel_bytes}
use Rattle.relocate_insn.proofs.PieceSteps.{jump_fields, jump_is}
use Rattle.trampoline.specs.Worked.{jump_to_itself}
use Rattle.thread_runs.specs.ThreadCode.{Kind, Marks, Keeps, code_if}
use Rattle.thread_runs.specs.Guest.{machine_of}
use Rattle.thread_runs.specs.Threading.{is_hidden, ring_of, IsThreadSound}
use Rattle.thread_runs.specs.Watching.{EffectStep, Claim, Fill, Watch}
use Rattle.thread_runs.specs.Premises.{IsProperRun}
use Rattle.thread_laws.specs.WorkedGuest.{patched_image, stacks, flags}
use Rattle.thread_laws.specs.WorkedRuns.{step_of, rcx_is_five, count_code, counting, ConditionIsReal}
use Rattle.thread_laws.proofs.WorkedImages.{own_jump, are_entries, sound, guests_started}
use Rattle.thread_laws.proofs.WorkedSteps.{add_flag, add_flag_is, compare, compare_is, count, count_is, jump_over, jump_over_is, lahf, lahf_is, load_rax, load_rax_is, sahf, sahf_is, save_rax, save_rax_is, seto, seto_is, outside, running, both_outside, behind, quiet_jump, Proper, first_steps, second_steps}

-- the code is that of the trampoline
code_is : code_if (Some (Marks Count)) (rcx_is_five ∷ []) 0x20000 0 jump_to_itself 0x401004 0x2401007 ≡ count_code
unfolding template filled
code_is = refl

-- the patched image is sound for threads
is_sound : IsThreadSound counting
is_sound = sound 0x401002 (Some (Marks Count)) (rcx_is_five ∷ []) None count_code code_is (record { asked = (omega arith, omega arith, tt); few = omega arith }) (omega arith)
    (refl, refl, refl, (refl, refl, refl, (refl, refl, refl, (refl, refl, refl, (refl, refl, refl, (refl, refl, refl, (refl, refl, refl, (refl, refl, refl, (refl, refl, refl, (refl, refl, refl, (refl, refl, refl, (refl, refl, refl, (refl, refl, refl, (refl, refl, refl, (refl, refl, refl, (refl, refl, refl, (refl, refl, refl, (refl, refl, refl, (refl, refl, refl, (refl, refl, refl, (refl, refl, refl, (refl, refl, refl, (refl, refl, refl, (refl, refl, refl, (refl, refl, refl, (refl, refl, refl, (refl, refl, refl, (refl, refl, refl, (refl, refl, refl, (refl, refl, refl, (refl, refl, refl, (refl, refl, refl, (refl, refl, refl, (refl, refl, refl, (refl, refl, refl, (refl, refl, refl, (refl, refl, refl, (refl, refl, refl, (refl, refl, refl, (refl, refl, refl, (refl, refl, refl, (refl, refl, refl, (refl, refl, refl, (refl, refl, refl, (refl, refl, refl, (refl, refl, refl, tt))))))))))))))))))))))))))))))))))))))))))))))
    (λ k e. by_kind k e) (λ n e. absurd (none_some n e))
  where
    by_kind : (k : Kind) → ◌≡◌ {A = Option Kind} (Some (Marks Count)) (Some k) → ◌≡◌ {A = Option ℕ} None (ring_of k)
    by_kind (Marks b) e = refl
    by_kind (Keeps n) e = cc

    none_some : (n : ℕ) → ◌≡◌ {A = Option ℕ} None (Some n) → ⊥
    none_some n e = cc

abbrev flags1 : Flags
flags1 = record { cf = false; pf = true; af = false; zf = true; sf = false; of = false; rest = 0 }

abbrev flags2 : Flags
flags2 = record { cf = false; pf = false; af = false; zf = false; sf = false; of = false; rest = 0 }

abbrev flags3 : Flags
flags3 = record { cf = false; pf = false; af = true; zf = false; sf = true; of = true; rest = 0 }

abbrev mem0 : Bytes
mem0 = joined (patched_image count_code) stacks

abbrev mem1 : Bytes
mem1 = put_list mem0 0x600f78 (0x07 ∷ 0x00 ∷ 0x00 ∷ 0x00 ∷ 0x00 ∷ 0x00 ∷ 0x00 ∷ 0x00 ∷ [])

abbrev mem2 : Bytes
mem2 = put_list mem1 0x20040 (0x01 ∷ 0x00 ∷ 0x00 ∷ 0x00 ∷ 0x00 ∷ 0x00 ∷ 0x00 ∷ 0x00 ∷ [])

abbrev mem3 : Bytes
mem3 = put_list mem2 0x601778 (0x07 ∷ 0x00 ∷ 0x00 ∷ 0x00 ∷ 0x00 ∷ 0x00 ∷ 0x00 ∷ 0x00 ∷ [])

abbrev log0 : List EffectStep
log0 = []

abbrev log1 : List EffectStep
log1 = step_of 0 0x5 0x601000 ∷ []

abbrev log2 : List EffectStep
log2 = step_of 0 0x5 0x601000 ∷ step_of 1 0x6 0x601800 ∷ []

abbrev claims0 : List Claim
claims0 = []

abbrev fills0 : List Fill
fills0 = []

abbrev w0 : Watch
w0 = both_outside mem0

abbrev w1 : Watch
w1 = behind counting w0 (outside 0x5 0x601000) (jump_fields (rel_bytes 0x401007 0x2401007)) ((running 0x7 0x5 0x601000 flags 0x2401007) ∷ (outside 0x6 0x601800) ∷ []) mem0 log0 claims0 fills0

abbrev w2 : Watch
w2 = behind counting w1 (running 0x7 0x5 0x601000 flags 0x2401007) save_rax ((running 0x7 0x5 0x601000 flags 0x240100f) ∷ (outside 0x6 0x601800) ∷ []) mem1 log0 claims0 fills0

abbrev w3 : Watch
w3 = behind counting w2 (running 0x7 0x5 0x601000 flags 0x240100f) lahf ((running 0x4307 0x5 0x601000 flags 0x2401010) ∷ (outside 0x6 0x601800) ∷ []) mem1 log0 claims0 fills0

abbrev w4 : Watch
w4 = behind counting w3 (running 0x4307 0x5 0x601000 flags 0x2401010) seto ((running 0x4301 0x5 0x601000 flags 0x2401013) ∷ (outside 0x6 0x601800) ∷ []) mem1 log0 claims0 fills0

abbrev w5 : Watch
w5 = behind counting w4 (running 0x4301 0x5 0x601000 flags 0x2401013) compare ((running 0x4301 0x5 0x601000 flags1 0x240101a) ∷ (outside 0x6 0x601800) ∷ []) mem1 log0 claims0 fills0

abbrev w6 : Watch
w6 = behind counting w5 (running 0x4301 0x5 0x601000 flags1 0x240101a) jump_over ((running 0x4301 0x5 0x601000 flags1 0x240101c) ∷ (outside 0x6 0x601800) ∷ []) mem1 log0 claims0 fills0

abbrev w7 : Watch
w7 = behind counting w6 (running 0x4301 0x5 0x601000 flags1 0x240101c) count ((running 0x4301 0x5 0x601000 flags2 0x2401025) ∷ (outside 0x6 0x601800) ∷ []) mem2 log0 claims0 fills0

abbrev w8 : Watch
w8 = behind counting w7 (running 0x4301 0x5 0x601000 flags2 0x2401025) add_flag ((running 0x4380 0x5 0x601000 flags3 0x2401027) ∷ (outside 0x6 0x601800) ∷ []) mem2 log0 claims0 fills0

abbrev w9 : Watch
w9 = behind counting w8 (running 0x4380 0x5 0x601000 flags3 0x2401027) sahf ((running 0x4380 0x5 0x601000 flags 0x2401028) ∷ (outside 0x6 0x601800) ∷ []) mem2 log0 claims0 fills0

abbrev w10 : Watch
w10 = behind counting w9 (running 0x4380 0x5 0x601000 flags 0x2401028) load_rax ((running 0x7 0x5 0x601000 flags 0x2401030) ∷ (outside 0x6 0x601800) ∷ []) mem2 log0 claims0 fills0

abbrev w11 : Watch
w11 = behind counting w10 (running 0x7 0x5 0x601000 flags 0x2401030) (jump_fields (rel_bytes 0x2401035 0x401002)) ((outside 0x5 0x601000) ∷ (outside 0x6 0x601800) ∷ []) mem2 log1 claims0 fills0

abbrev w12 : Watch
w12 = behind counting w11 (outside 0x6 0x601800) (jump_fields (rel_bytes 0x401007 0x2401007)) ((outside 0x5 0x601000) ∷ (running 0x7 0x6 0x601800 flags 0x2401007) ∷ []) mem2 log1 claims0 fills0

abbrev w13 : Watch
w13 = behind counting w12 (running 0x7 0x6 0x601800 flags 0x2401007) save_rax ((outside 0x5 0x601000) ∷ (running 0x7 0x6 0x601800 flags 0x240100f) ∷ []) mem3 log1 claims0 fills0

abbrev w14 : Watch
w14 = behind counting w13 (running 0x7 0x6 0x601800 flags 0x240100f) lahf ((outside 0x5 0x601000) ∷ (running 0x4307 0x6 0x601800 flags 0x2401010) ∷ []) mem3 log1 claims0 fills0

abbrev w15 : Watch
w15 = behind counting w14 (running 0x4307 0x6 0x601800 flags 0x2401010) seto ((outside 0x5 0x601000) ∷ (running 0x4301 0x6 0x601800 flags 0x2401013) ∷ []) mem3 log1 claims0 fills0

abbrev w16 : Watch
w16 = behind counting w15 (running 0x4301 0x6 0x601800 flags 0x2401013) compare ((outside 0x5 0x601000) ∷ (running 0x4301 0x6 0x601800 flags2 0x240101a) ∷ []) mem3 log1 claims0 fills0

abbrev w17 : Watch
w17 = behind counting w16 (running 0x4301 0x6 0x601800 flags2 0x240101a) jump_over ((outside 0x5 0x601000) ∷ (running 0x4301 0x6 0x601800 flags2 0x2401025) ∷ []) mem3 log1 claims0 fills0

abbrev w18 : Watch
w18 = behind counting w17 (running 0x4301 0x6 0x601800 flags2 0x2401025) add_flag ((outside 0x5 0x601000) ∷ (running 0x4380 0x6 0x601800 flags3 0x2401027) ∷ []) mem3 log1 claims0 fills0

abbrev w19 : Watch
w19 = behind counting w18 (running 0x4380 0x6 0x601800 flags3 0x2401027) sahf ((outside 0x5 0x601000) ∷ (running 0x4380 0x6 0x601800 flags 0x2401028) ∷ []) mem3 log1 claims0 fills0

abbrev w20 : Watch
w20 = behind counting w19 (running 0x4380 0x6 0x601800 flags 0x2401028) load_rax ((outside 0x5 0x601000) ∷ (running 0x7 0x6 0x601800 flags 0x2401030) ∷ []) mem3 log1 claims0 fills0

abbrev w21 : Watch
w21 = behind counting w20 (running 0x7 0x6 0x601800 flags 0x2401030) (jump_fields (rel_bytes 0x2401035 0x401002)) ((outside 0x5 0x601000) ∷ (outside 0x6 0x601800) ∷ []) mem3 log2 claims0 fills0

-- thread 0: the jump to the trampoline
step0 : Proper counting 0 w0 w1
unfolding template filled effect total carries overflows signed is_even ones is_met
step0 =
    first_steps counting w0 w1 (jump_fields (rel_bytes 0x401007 0x2401007)) (machine_of mem0 (running 0x7 0x5 0x601000 flags 0x2401007).now) (outside 0x5 0x601000) (outside 0x6 0x601800) refl (jump_is _ _ _ _) (refl, refl, (refl, refl, (refl, refl, (refl, refl, (refl, refl, tt))))) refl refl
    (λ h. absurd (false≢true h)) (refl, (refl, tt)) (λ h. refl) (λ h. absurd (false≢true h)) (λ h. refl)

-- thread 0: MOV [rsp - 136], rax
step1 : Proper counting 0 w1 w2
unfolding template filled effect total carries overflows signed is_even ones is_met
step1 =
    first_steps counting w1 w2 save_rax (machine_of mem1 (running 0x7 0x5 0x601000 flags 0x240100f).now) (running 0x7 0x5 0x601000 flags 0x2401007) (outside 0x6 0x601800) refl save_rax_is (refl, refl, (refl, refl, (refl, refl, (refl, refl, (refl, refl, (refl, refl, (refl, refl, (refl, refl, tt)))))))) refl refl
    (λ h. absurd (false≢true h)) (refl, (refl, tt)) (λ h. absurd (true≢false h)) (λ h. refl) (λ h. refl)

-- thread 0: LAHF
step2 : Proper counting 0 w2 w3
unfolding template filled effect total carries overflows signed is_even ones is_met
step2 =
    first_steps counting w2 w3 lahf (machine_of mem1 (running 0x4307 0x5 0x601000 flags 0x2401010).now) (running 0x7 0x5 0x601000 flags 0x240100f) (outside 0x6 0x601800) refl lahf_is (refl, refl, tt) refl refl
    (λ h. absurd (false≢true h)) (refl, (refl, tt)) (λ h. absurd (true≢false h)) (λ h. absurd (false≢true h)) (λ h. refl)

-- thread 0: SETO al
step3 : Proper counting 0 w3 w4
unfolding template filled effect total carries overflows signed is_even ones is_met
step3 =
    first_steps counting w3 w4 seto (machine_of mem1 (running 0x4301 0x5 0x601000 flags 0x2401013).now) (running 0x4307 0x5 0x601000 flags 0x2401010) (outside 0x6 0x601800) refl seto_is (refl, refl, (refl, refl, (refl, refl, tt))) refl refl
    (λ h. absurd (false≢true h)) (refl, (refl, tt)) (λ h. absurd (true≢false h)) (λ h. absurd (false≢true h)) (λ h. refl)

-- thread 0: CMP rcx, 5
step4 : Proper counting 0 w4 w5
unfolding template filled effect total carries overflows signed is_even ones is_met
step4 =
    first_steps counting w4 w5 compare (machine_of mem1 (running 0x4301 0x5 0x601000 flags1 0x240101a).now) (running 0x4301 0x5 0x601000 flags 0x2401013) (outside 0x6 0x601800) refl compare_is (refl, refl, (refl, refl, (refl, refl, (refl, refl, (refl, refl, (refl, refl, (refl, refl, tt))))))) refl refl
    (λ h. absurd (false≢true h)) (refl, (refl, tt)) (λ h. absurd (true≢false h)) (λ h. absurd (false≢true h)) (λ h. refl)

-- thread 0: JNE over the nine bytes behind it
step5 : Proper counting 0 w5 w6
unfolding template filled effect total carries overflows signed is_even ones is_met
step5 =
    first_steps counting w5 w6 jump_over (machine_of mem1 (running 0x4301 0x5 0x601000 flags1 0x240101c).now) (running 0x4301 0x5 0x601000 flags1 0x240101a) (outside 0x6 0x601800) refl jump_over_is (refl, refl, (refl, refl, tt)) refl refl
    (λ h. absurd (false≢true h)) (refl, (refl, tt)) (λ h. absurd (true≢false h)) (λ h. absurd (false≢true h)) (λ h. refl)

-- thread 0: LOCK INC of the eight bytes at 0x20040
step6 : Proper counting 0 w6 w7
unfolding template filled effect total carries overflows signed is_even ones is_met
step6 =
    first_steps counting w6 w7 count (machine_of mem2 (running 0x4301 0x5 0x601000 flags2 0x2401025).now) (running 0x4301 0x5 0x601000 flags1 0x240101c) (outside 0x6 0x601800) refl count_is (refl, refl, (refl, refl, (refl, refl, (refl, refl, (refl, refl, (refl, refl, (refl, refl, (refl, refl, (refl, refl, tt))))))))) refl refl
    (λ h. absurd (false≢true h)) (refl, (refl, tt)) (λ h. absurd (true≢false h)) (λ h. absurd (false≢true h)) (λ h. refl)

-- thread 0: ADD al, 7F
step7 : Proper counting 0 w7 w8
unfolding template filled effect total carries overflows signed is_even ones is_met
step7 =
    first_steps counting w7 w8 add_flag (machine_of mem2 (running 0x4380 0x5 0x601000 flags3 0x2401027).now) (running 0x4301 0x5 0x601000 flags2 0x2401025) (outside 0x6 0x601800) refl add_flag_is (refl, refl, (refl, refl, tt)) refl refl
    (λ h. absurd (false≢true h)) (refl, (refl, tt)) (λ h. absurd (true≢false h)) (λ h. absurd (false≢true h)) (λ h. refl)

-- thread 0: SAHF
step8 : Proper counting 0 w8 w9
unfolding template filled effect total carries overflows signed is_even ones is_met
step8 =
    first_steps counting w8 w9 sahf (machine_of mem2 (running 0x4380 0x5 0x601000 flags 0x2401028).now) (running 0x4380 0x5 0x601000 flags3 0x2401027) (outside 0x6 0x601800) refl sahf_is (refl, refl, tt) refl refl
    (λ h. absurd (false≢true h)) (refl, (refl, tt)) (λ h. absurd (true≢false h)) (λ h. absurd (false≢true h)) (λ h. refl)

-- thread 0: MOV rax, [rsp - 136]
step9 : Proper counting 0 w9 w10
unfolding template filled effect total carries overflows signed is_even ones is_met
step9 =
    first_steps counting w9 w10 load_rax (machine_of mem2 (running 0x7 0x5 0x601000 flags 0x2401030).now) (running 0x4380 0x5 0x601000 flags 0x2401028) (outside 0x6 0x601800) refl load_rax_is (refl, refl, (refl, refl, (refl, refl, (refl, refl, (refl, refl, (refl, refl, (refl, refl, (refl, refl, tt)))))))) refl refl
    (λ h. absurd (false≢true h)) (refl, (refl, tt)) (λ h. absurd (true≢false h)) (λ h. absurd (false≢true h)) (λ h. refl)

-- thread 0: the displaced jump, its effect step
step10 : Proper counting 0 w10 w11
unfolding template filled effect total carries overflows signed is_even ones is_met
step10 =
    first_steps counting w10 w11 (jump_fields (rel_bytes 0x2401035 0x401002)) (machine_of mem2 (outside 0x5 0x601000).now) (running 0x7 0x5 0x601000 flags 0x2401030) (outside 0x6 0x601800) refl (jump_is _ _ _ _) (refl, refl, (refl, refl, (refl, refl, (refl, refl, (refl, refl, tt))))) refl refl
    (λ h. record { known = refl; leaves = λ f i s. quiet_jump (is_hidden counting) mem2 0x5 0x601000 f (own_jump f i s) }) (refl, (refl, tt)) (λ h. refl) (λ h. absurd (false≢true h)) (λ h. refl)

-- thread 1: the jump to the trampoline
step11 : Proper counting 1 w11 w12
unfolding template filled effect total carries overflows signed is_even ones is_met
step11 =
    second_steps counting w11 w12 (jump_fields (rel_bytes 0x401007 0x2401007)) (machine_of mem2 (running 0x7 0x6 0x601800 flags 0x2401007).now) (outside 0x5 0x601000) (outside 0x6 0x601800) refl (jump_is _ _ _ _) (refl, refl, (refl, refl, (refl, refl, (refl, refl, (refl, refl, tt))))) refl refl
    (λ h. absurd (false≢true h)) (refl, (refl, tt)) (λ h. refl) (λ h. absurd (false≢true h)) (λ h. refl)

-- thread 1: MOV [rsp - 136], rax
step12 : Proper counting 1 w12 w13
unfolding template filled effect total carries overflows signed is_even ones is_met
step12 =
    second_steps counting w12 w13 save_rax (machine_of mem3 (running 0x7 0x6 0x601800 flags 0x240100f).now) (outside 0x5 0x601000) (running 0x7 0x6 0x601800 flags 0x2401007) refl save_rax_is (refl, refl, (refl, refl, (refl, refl, (refl, refl, (refl, refl, (refl, refl, (refl, refl, (refl, refl, tt)))))))) refl refl
    (λ h. absurd (false≢true h)) (refl, (refl, tt)) (λ h. absurd (true≢false h)) (λ h. refl) (λ h. refl)

-- thread 1: LAHF
step13 : Proper counting 1 w13 w14
unfolding template filled effect total carries overflows signed is_even ones is_met
step13 =
    second_steps counting w13 w14 lahf (machine_of mem3 (running 0x4307 0x6 0x601800 flags 0x2401010).now) (outside 0x5 0x601000) (running 0x7 0x6 0x601800 flags 0x240100f) refl lahf_is (refl, refl, tt) refl refl
    (λ h. absurd (false≢true h)) (refl, (refl, tt)) (λ h. absurd (true≢false h)) (λ h. absurd (false≢true h)) (λ h. refl)

-- thread 1: SETO al
step14 : Proper counting 1 w14 w15
unfolding template filled effect total carries overflows signed is_even ones is_met
step14 =
    second_steps counting w14 w15 seto (machine_of mem3 (running 0x4301 0x6 0x601800 flags 0x2401013).now) (outside 0x5 0x601000) (running 0x4307 0x6 0x601800 flags 0x2401010) refl seto_is (refl, refl, (refl, refl, (refl, refl, tt))) refl refl
    (λ h. absurd (false≢true h)) (refl, (refl, tt)) (λ h. absurd (true≢false h)) (λ h. absurd (false≢true h)) (λ h. refl)

-- thread 1: CMP rcx, 5
step15 : Proper counting 1 w15 w16
unfolding template filled effect total carries overflows signed is_even ones is_met
step15 =
    second_steps counting w15 w16 compare (machine_of mem3 (running 0x4301 0x6 0x601800 flags2 0x240101a).now) (outside 0x5 0x601000) (running 0x4301 0x6 0x601800 flags 0x2401013) refl compare_is (refl, refl, (refl, refl, (refl, refl, (refl, refl, (refl, refl, (refl, refl, (refl, refl, tt))))))) refl refl
    (λ h. absurd (false≢true h)) (refl, (refl, tt)) (λ h. absurd (true≢false h)) (λ h. absurd (false≢true h)) (λ h. refl)

-- thread 1: JNE over the nine bytes behind it
step16 : Proper counting 1 w16 w17
unfolding template filled effect total carries overflows signed is_even ones is_met
step16 =
    second_steps counting w16 w17 jump_over (machine_of mem3 (running 0x4301 0x6 0x601800 flags2 0x2401025).now) (outside 0x5 0x601000) (running 0x4301 0x6 0x601800 flags2 0x240101a) refl jump_over_is (refl, refl, (refl, refl, tt)) refl refl
    (λ h. absurd (false≢true h)) (refl, (refl, tt)) (λ h. absurd (true≢false h)) (λ h. absurd (false≢true h)) (λ h. refl)

-- thread 1: ADD al, 7F
step17 : Proper counting 1 w17 w18
unfolding template filled effect total carries overflows signed is_even ones is_met
step17 =
    second_steps counting w17 w18 add_flag (machine_of mem3 (running 0x4380 0x6 0x601800 flags3 0x2401027).now) (outside 0x5 0x601000) (running 0x4301 0x6 0x601800 flags2 0x2401025) refl add_flag_is (refl, refl, (refl, refl, tt)) refl refl
    (λ h. absurd (false≢true h)) (refl, (refl, tt)) (λ h. absurd (true≢false h)) (λ h. absurd (false≢true h)) (λ h. refl)

-- thread 1: SAHF
step18 : Proper counting 1 w18 w19
unfolding template filled effect total carries overflows signed is_even ones is_met
step18 =
    second_steps counting w18 w19 sahf (machine_of mem3 (running 0x4380 0x6 0x601800 flags 0x2401028).now) (outside 0x5 0x601000) (running 0x4380 0x6 0x601800 flags3 0x2401027) refl sahf_is (refl, refl, tt) refl refl
    (λ h. absurd (false≢true h)) (refl, (refl, tt)) (λ h. absurd (true≢false h)) (λ h. absurd (false≢true h)) (λ h. refl)

-- thread 1: MOV rax, [rsp - 136]
step19 : Proper counting 1 w19 w20
unfolding template filled effect total carries overflows signed is_even ones is_met
step19 =
    second_steps counting w19 w20 load_rax (machine_of mem3 (running 0x7 0x6 0x601800 flags 0x2401030).now) (outside 0x5 0x601000) (running 0x4380 0x6 0x601800 flags 0x2401028) refl load_rax_is (refl, refl, (refl, refl, (refl, refl, (refl, refl, (refl, refl, (refl, refl, (refl, refl, (refl, refl, tt)))))))) refl refl
    (λ h. absurd (false≢true h)) (refl, (refl, tt)) (λ h. absurd (true≢false h)) (λ h. absurd (false≢true h)) (λ h. refl)

-- thread 1: the displaced jump, its effect step
step20 : Proper counting 1 w20 w21
unfolding template filled effect total carries overflows signed is_even ones is_met
step20 =
    second_steps counting w20 w21 (jump_fields (rel_bytes 0x2401035 0x401002)) (machine_of mem3 (outside 0x6 0x601800).now) (outside 0x5 0x601000) (running 0x7 0x6 0x601800 flags 0x2401030) refl (jump_is _ _ _ _) (refl, refl, (refl, refl, (refl, refl, (refl, refl, (refl, refl, tt))))) refl refl
    (λ h. record { known = refl; leaves = λ f i s. quiet_jump (is_hidden counting) mem3 0x6 0x601800 f (own_jump f i s) }) (refl, (refl, tt)) (λ h. refl) (λ h. absurd (false≢true h)) (λ h. refl)

abbrev watches : List Watch
watches = w1 ∷ w2 ∷ w3 ∷ w4 ∷ w5 ∷ w6 ∷ w7 ∷ w8 ∷ w9 ∷ w10 ∷ w11 ∷ w12 ∷ w13 ∷ w14 ∷ w15 ∷ w16 ∷ w17 ∷ w18 ∷ w19 ∷ w20 ∷ w21 ∷ []

part14 : IsProperRun counting (1 ∷ 1 ∷ 1 ∷ 1 ∷ 1 ∷ 1 ∷ 1 ∷ []) w14 (w15 ∷ w16 ∷ w17 ∷ w18 ∷ w19 ∷ w20 ∷ w21 ∷ [])
part14 = ((refl, (refl, tt)), step14, ((refl, (refl, tt)), step15, ((refl, (refl, tt)), step16, ((refl, (refl, tt)), step17, ((refl, (refl, tt)), step18, ((refl, (refl, tt)), step19, ((refl, (refl, tt)), step20, (refl, (refl, tt)))))))))

part7 : IsProperRun counting (0 ∷ 0 ∷ 0 ∷ 0 ∷ 1 ∷ 1 ∷ 1 ∷ 1 ∷ 1 ∷ 1 ∷ 1 ∷ 1 ∷ 1 ∷ 1 ∷ []) w7 (w8 ∷ w9 ∷ w10 ∷ w11 ∷ w12 ∷ w13 ∷ w14 ∷ w15 ∷ w16 ∷ w17 ∷ w18 ∷ w19 ∷ w20 ∷ w21 ∷ [])
part7 = ((refl, (refl, tt)), step7, ((refl, (refl, tt)), step8, ((refl, (refl, tt)), step9, ((refl, (refl, tt)), step10, ((refl, (refl, tt)), step11, ((refl, (refl, tt)), step12, ((refl, (refl, tt)), step13, part14)))))))

part0 : IsProperRun counting (0 ∷ 0 ∷ 0 ∷ 0 ∷ 0 ∷ 0 ∷ 0 ∷ 0 ∷ 0 ∷ 0 ∷ 0 ∷ 1 ∷ 1 ∷ 1 ∷ 1 ∷ 1 ∷ 1 ∷ 1 ∷ 1 ∷ 1 ∷ 1 ∷ []) w0 (w1 ∷ w2 ∷ w3 ∷ w4 ∷ w5 ∷ w6 ∷ w7 ∷ w8 ∷ w9 ∷ w10 ∷ w11 ∷ w12 ∷ w13 ∷ w14 ∷ w15 ∷ w16 ∷ w17 ∷ w18 ∷ w19 ∷ w20 ∷ w21 ∷ [])
part0 = ((refl, (refl, tt)), step0, ((refl, (refl, tt)), step1, ((refl, (refl, tt)), step2, ((refl, (refl, tt)), step3, ((refl, (refl, tt)), step4, ((refl, (refl, tt)), step5, ((refl, (refl, tt)), step6, part7)))))))

-- all premises are met
pub condition_is_real : ConditionIsReal
condition_is_real = record {
  listed = are_entries;
  sound = is_sound;
  met = (watches, record { start = guests_started 0x401002 (Some (Marks Count)) (rcx_is_five ∷ []) None count_code refl; run = part0; effects = refl; counter = refl });
}
