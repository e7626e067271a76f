-- The worked run that keeps a ring meets the premises of the theorem.
use Rattle.std.proofs.Common.{◌≡◌, true, false, List, [], ◌∷◌, Some, refl, sym, ap, subst, arith}
use Rattle.std.specs.Int.Count.{ones}
use Rattle.std.proofs.lemmas.Bool.{false≢true, true≢false}
use Rattle.pun_base.specs.Memory.{Bytes, joined}
use Rattle.cpu_alu.specs.Sums.{total, carries, overflows}
use Rattle.cpu_alu.specs.Widths.{signed}
use Rattle.cpu_alu.specs.Outcome.{is_even}
use Rattle.cpu_alu.specs.declared.flag_word.Flags.{Flags}
use Rattle.cpu_state.specs.Bytes.{put_list}
use Rattle.insn_form.specs.Classes.{template}
use Rattle.insn_form.specs.Filling.{filled}
use Rattle.insn_form.specs.Conditions.{is_met}
use Rattle.insn_form.specs.Meaning.{effect}
use Rattle.insn_form.specs.Moved.{rel_bytes}
use Rattle.relocate_insn.proofs.PieceSteps.{jump_fields, jump_is}
use Rattle.trampoline.specs.Worked.{jump_to_itself}
use Rattle.patch_report.proofs.ListPlaces.{some_is}
use Rattle.sound_images.proofs.WorkedImage.{only, spread_out}
use Rattle.thread_runs.specs.ThreadCode.{Keeps, code_if}
use Rattle.thread_runs.specs.Guest.{machine_of}
use Rattle.thread_runs.specs.Threading.{is_hidden, ring_of, ThreadSite, IsRingSound, IsThreadSound}
use Rattle.thread_runs.specs.Watching.{EffectStep, Claim, Fill, Watch}
use Rattle.thread_runs.specs.Premises.{IsProperRun}
use Rattle.thread_laws.specs.WorkedGuest.{text, patched_image, site_with, stacks, flags}
use Rattle.thread_laws.specs.WorkedRuns.{step_of, ring_code, keeping, RingIsReal}
use Rattle.thread_laws.proofs.WorkedImages.{own_jump, are_entries, sound, in_private, guests_started}
use Rattle.thread_laws.proofs.WorkedSteps.{add_flag, add_flag_is, claim, claim_is, fill, fill_is, lahf, lahf_is, load_flags, load_flags_is, load_rax, load_rax_is, one, one_is, reduce, reduce_is, sahf, sahf_is, save_flags, save_flags_is, save_rax, save_rax_is, seto, seto_is, outside, running, both_outside, behind, quiet_jump, Proper, first_steps, second_steps}

-- the code is that of the trampoline
code_is : code_if (Some (Keeps 256)) [] 0x20000 0 jump_to_itself 0x401004 0x2401007 ≡ ring_code
unfolding template filled
code_is = refl

-- the ring is sound for threads
ring_sound : IsRingSound keeping 256
ring_sound = record {
  size = refl;
  zeros = λ x l h. (in_private ring_code x (omega (arith, l)) (omega (arith, h)), spread_out 0x401000 0x401007 5 text x (λ a b. omega (arith, h, a)));
  low = omega arith;
  numbers = λ s c h. let e = ap (λ (z : ThreadSite). z.number) (only (site_with (Some (Keeps 256)) []) s c) in omega (arith, e);
  always = λ s c h. ap (λ (z : ThreadSite). z.when) (sym (only (site_with (Some (Keeps 256)) []) s c));
}

-- so is the patched image
is_sound : IsThreadSound keeping
is_sound = sound 0x401002 (Some (Keeps 256)) [] (Some 256) ring_code code_is (record { asked = tt; few = omega arith }) (omega arith)
    (refl, refl, refl, (refl, refl, refl, (refl, refl, refl, (refl, refl, refl, (refl, refl, refl, (refl, refl, refl, (refl, refl, refl, (refl, refl, refl, (refl, refl, refl, (refl, refl, refl, (refl, refl, refl, (refl, refl, refl, (refl, refl, refl, (refl, refl, refl, (refl, refl, refl, (refl, refl, refl, (refl, refl, refl, (refl, refl, refl, (refl, refl, refl, (refl, refl, refl, (refl, refl, refl, (refl, refl, refl, (refl, refl, refl, (refl, refl, refl, (refl, refl, refl, (refl, refl, refl, (refl, refl, refl, (refl, refl, refl, (refl, refl, refl, (refl, refl, refl, (refl, refl, refl, (refl, refl, refl, (refl, refl, refl, (refl, refl, refl, (refl, refl, refl, (refl, refl, refl, (refl, refl, refl, (refl, refl, refl, (refl, refl, refl, (refl, refl, refl, (refl, refl, refl, (refl, refl, refl, (refl, refl, refl, (refl, refl, refl, (refl, refl, refl, (refl, refl, refl, (refl, refl, refl, (refl, refl, refl, (refl, refl, refl, (refl, refl, refl, (refl, refl, refl, (refl, refl, refl, (refl, refl, refl, (refl, refl, refl, (refl, refl, refl, (refl, refl, refl, (refl, refl, refl, (refl, refl, refl, (refl, refl, refl, (refl, refl, refl, (refl, refl, refl, (refl, refl, refl, (refl, refl, refl, (refl, refl, refl, (refl, refl, refl, (refl, refl, refl, (refl, refl, refl, (refl, refl, refl, (refl, refl, refl, (refl, refl, refl, (refl, refl, refl, (refl, refl, refl, tt))))))))))))))))))))))))))))))))))))))))))))))))))))))))))))))))))))))))
    (λ k e. ap ring_of (some_is (Keeps 256) k e)) (λ n e. subst (IsRingSound keeping) (some_is 256 n e) ring_sound)

abbrev flags1 : Flags
flags1 = record { cf = false; pf = false; af = false; zf = false; sf = false; of = false; rest = 0 }

abbrev flags2 : Flags
flags2 = record { cf = false; pf = false; af = true; zf = false; sf = true; of = true; rest = 0 }

abbrev mem0 : Bytes
mem0 = joined (patched_image ring_code) stacks

abbrev mem1 : Bytes
mem1 = put_list mem0 0x600f78 (0x07 ∷ 0x00 ∷ 0x00 ∷ 0x00 ∷ 0x00 ∷ 0x00 ∷ 0x00 ∷ 0x00 ∷ [])

abbrev mem2 : Bytes
mem2 = put_list mem1 0x600f70 (0x01 ∷ 0x43 ∷ 0x00 ∷ 0x00 ∷ 0x00 ∷ 0x00 ∷ 0x00 ∷ 0x00 ∷ [])

abbrev mem3 : Bytes
mem3 = put_list mem2 0x20040 (0x01 ∷ 0x00 ∷ 0x00 ∷ 0x00 ∷ [])

abbrev mem4 : Bytes
mem4 = put_list mem3 0x601778 (0x07 ∷ 0x00 ∷ 0x00 ∷ 0x00 ∷ 0x00 ∷ 0x00 ∷ 0x00 ∷ 0x00 ∷ [])

abbrev mem5 : Bytes
mem5 = put_list mem4 0x601770 (0x01 ∷ 0x43 ∷ 0x00 ∷ 0x00 ∷ 0x00 ∷ 0x00 ∷ 0x00 ∷ 0x00 ∷ [])

abbrev mem6 : Bytes
mem6 = put_list mem5 0x20040 (0x02 ∷ 0x00 ∷ 0x00 ∷ 0x00 ∷ [])

abbrev mem7 : Bytes
mem7 = put_list mem6 0x20048 (0x01 ∷ 0x00 ∷ 0x00 ∷ 0x00 ∷ [])

abbrev log0 : List EffectStep
log0 = []

abbrev log1 : List EffectStep
log1 = step_of 1 0x6 0x601800 ∷ []

abbrev claims0 : List Claim
claims0 = []

abbrev claims1 : List Claim
claims1 = record { thread = 0; number = 0 } ∷ []

abbrev claims2 : List Claim
claims2 = record { thread = 0; number = 0 } ∷ record { thread = 1; number = 0 } ∷ []

abbrev fills0 : List Fill
fills0 = []

abbrev fills1 : List Fill
fills1 = record { claim = 1; claimed = 2 } ∷ []

abbrev w0 : Watch
w0 = both_outside mem0

abbrev w1 : Watch
w1 = behind keeping w0 (outside 0x5 0x601000) (jump_fields (rel_bytes 0x401007 0x2401007)) ((running 0x7 0x5 0x601000 flags 0x2401007) ∷ (outside 0x6 0x601800) ∷ []) mem0 log0 claims0 fills0

abbrev w2 : Watch
w2 = behind keeping w1 (running 0x7 0x5 0x601000 flags 0x2401007) save_rax ((running 0x7 0x5 0x601000 flags 0x240100f) ∷ (outside 0x6 0x601800) ∷ []) mem1 log0 claims0 fills0

abbrev w3 : Watch
w3 = behind keeping w2 (running 0x7 0x5 0x601000 flags 0x240100f) lahf ((running 0x4307 0x5 0x601000 flags 0x2401010) ∷ (outside 0x6 0x601800) ∷ []) mem1 log0 claims0 fills0

abbrev w4 : Watch
w4 = behind keeping w3 (running 0x4307 0x5 0x601000 flags 0x2401010) seto ((running 0x4301 0x5 0x601000 flags 0x2401013) ∷ (outside 0x6 0x601800) ∷ []) mem1 log0 claims0 fills0

abbrev w5 : Watch
w5 = behind keeping w4 (running 0x4301 0x5 0x601000 flags 0x2401013) save_flags ((running 0x4301 0x5 0x601000 flags 0x240101b) ∷ (outside 0x6 0x601800) ∷ []) mem2 log0 claims0 fills0

abbrev w6 : Watch
w6 = behind keeping w5 (running 0x4301 0x5 0x601000 flags 0x240101b) one ((running 0x1 0x5 0x601000 flags 0x2401020) ∷ (outside 0x6 0x601800) ∷ []) mem2 log0 claims0 fills0

abbrev w7 : Watch
w7 = behind keeping w6 (running 0x1 0x5 0x601000 flags 0x2401020) claim ((running 0x0 0x5 0x601000 flags1 0x2401029) ∷ (outside 0x6 0x601800) ∷ []) mem3 log0 claims1 fills0

abbrev w8 : Watch
w8 = behind keeping w7 (outside 0x6 0x601800) (jump_fields (rel_bytes 0x401007 0x2401007)) ((running 0x0 0x5 0x601000 flags1 0x2401029) ∷ (running 0x7 0x6 0x601800 flags 0x2401007) ∷ []) mem3 log0 claims1 fills0

abbrev w9 : Watch
w9 = behind keeping w8 (running 0x7 0x6 0x601800 flags 0x2401007) save_rax ((running 0x0 0x5 0x601000 flags1 0x2401029) ∷ (running 0x7 0x6 0x601800 flags 0x240100f) ∷ []) mem4 log0 claims1 fills0

abbrev w10 : Watch
w10 = behind keeping w9 (running 0x7 0x6 0x601800 flags 0x240100f) lahf ((running 0x0 0x5 0x601000 flags1 0x2401029) ∷ (running 0x4307 0x6 0x601800 flags 0x2401010) ∷ []) mem4 log0 claims1 fills0

abbrev w11 : Watch
w11 = behind keeping w10 (running 0x4307 0x6 0x601800 flags 0x2401010) seto ((running 0x0 0x5 0x601000 flags1 0x2401029) ∷ (running 0x4301 0x6 0x601800 flags 0x2401013) ∷ []) mem4 log0 claims1 fills0

abbrev w12 : Watch
w12 = behind keeping w11 (running 0x4301 0x6 0x601800 flags 0x2401013) save_flags ((running 0x0 0x5 0x601000 flags1 0x2401029) ∷ (running 0x4301 0x6 0x601800 flags 0x240101b) ∷ []) mem5 log0 claims1 fills0

abbrev w13 : Watch
w13 = behind keeping w12 (running 0x4301 0x6 0x601800 flags 0x240101b) one ((running 0x0 0x5 0x601000 flags1 0x2401029) ∷ (running 0x1 0x6 0x601800 flags 0x2401020) ∷ []) mem5 log0 claims1 fills0

abbrev w14 : Watch
w14 = behind keeping w13 (running 0x1 0x6 0x601800 flags 0x2401020) claim ((running 0x0 0x5 0x601000 flags1 0x2401029) ∷ (running 0x1 0x6 0x601800 flags1 0x2401029) ∷ []) mem6 log0 claims2 fills0

abbrev w15 : Watch
w15 = behind keeping w14 (running 0x1 0x6 0x601800 flags1 0x2401029) reduce ((running 0x0 0x5 0x601000 flags1 0x2401029) ∷ (running 0x1 0x6 0x601800 flags1 0x240102c) ∷ []) mem6 log0 claims2 fills0

abbrev w16 : Watch
w16 = behind keeping w15 (running 0x1 0x6 0x601800 flags1 0x240102c) fill ((running 0x0 0x5 0x601000 flags1 0x2401029) ∷ (running 0x1 0x6 0x601800 flags1 0x2401037) ∷ []) mem7 log0 claims2 fills1

abbrev w17 : Watch
w17 = behind keeping w16 (running 0x1 0x6 0x601800 flags1 0x2401037) load_flags ((running 0x0 0x5 0x601000 flags1 0x2401029) ∷ (running 0x4301 0x6 0x601800 flags1 0x240103f) ∷ []) mem7 log0 claims2 fills1

abbrev w18 : Watch
w18 = behind keeping w17 (running 0x4301 0x6 0x601800 flags1 0x240103f) add_flag ((running 0x0 0x5 0x601000 flags1 0x2401029) ∷ (running 0x4380 0x6 0x601800 flags2 0x2401041) ∷ []) mem7 log0 claims2 fills1

abbrev w19 : Watch
w19 = behind keeping w18 (running 0x4380 0x6 0x601800 flags2 0x2401041) sahf ((running 0x0 0x5 0x601000 flags1 0x2401029) ∷ (running 0x4380 0x6 0x601800 flags 0x2401042) ∷ []) mem7 log0 claims2 fills1

abbrev w20 : Watch
w20 = behind keeping w19 (running 0x4380 0x6 0x601800 flags 0x2401042) load_rax ((running 0x0 0x5 0x601000 flags1 0x2401029) ∷ (running 0x7 0x6 0x601800 flags 0x240104a) ∷ []) mem7 log0 claims2 fills1

abbrev w21 : Watch
w21 = behind keeping w20 (running 0x7 0x6 0x601800 flags 0x240104a) (jump_fields (rel_bytes 0x240104f 0x401002)) ((running 0x0 0x5 0x601000 flags1 0x2401029) ∷ (outside 0x6 0x601800) ∷ []) mem7 log1 claims2 fills1

-- thread 0: the jump to the trampoline
step0 : Proper keeping 0 w0 w1
unfolding template filled effect total carries overflows signed is_even ones is_met
step0 =
    first_steps keeping w0 w1 (jump_fields (rel_bytes 0x401007 0x2401007)) (machine_of mem0 (running 0x7 0x5 0x601000 flags 0x2401007).now) (outside 0x5 0x601000) (outside 0x6 0x601800) refl (jump_is _ _ _ _) (refl, refl, (refl, refl, (refl, refl, (refl, refl, (refl, refl, tt))))) refl refl
    (λ h. absurd (false≢true h)) (refl, (refl, tt)) (λ h. refl) (λ h. absurd (false≢true h)) (λ h. refl)

-- thread 0: MOV [rsp - 136], rax
step1 : Proper keeping 0 w1 w2
unfolding template filled effect total carries overflows signed is_even ones is_met
step1 =
    first_steps keeping w1 w2 save_rax (machine_of mem1 (running 0x7 0x5 0x601000 flags 0x240100f).now) (running 0x7 0x5 0x601000 flags 0x2401007) (outside 0x6 0x601800) refl save_rax_is (refl, refl, (refl, refl, (refl, refl, (refl, refl, (refl, refl, (refl, refl, (refl, refl, (refl, refl, tt)))))))) refl refl
    (λ h. absurd (false≢true h)) (refl, (refl, tt)) (λ h. absurd (true≢false h)) (λ h. refl) (λ h. refl)

-- thread 0: LAHF
step2 : Proper keeping 0 w2 w3
unfolding template filled effect total carries overflows signed is_even ones is_met
step2 =
    first_steps keeping w2 w3 lahf (machine_of mem1 (running 0x4307 0x5 0x601000 flags 0x2401010).now) (running 0x7 0x5 0x601000 flags 0x240100f) (outside 0x6 0x601800) refl lahf_is (refl, refl, tt) refl refl
    (λ h. absurd (false≢true h)) (refl, (refl, tt)) (λ h. absurd (true≢false h)) (λ h. refl) (λ h. refl)

-- thread 0: SETO al
step3 : Proper keeping 0 w3 w4
unfolding template filled effect total carries overflows signed is_even ones is_met
step3 =
    first_steps keeping w3 w4 seto (machine_of mem1 (running 0x4301 0x5 0x601000 flags 0x2401013).now) (running 0x4307 0x5 0x601000 flags 0x2401010) (outside 0x6 0x601800) refl seto_is (refl, refl, (refl, refl, (refl, refl, tt))) refl refl
    (λ h. absurd (false≢true h)) (refl, (refl, tt)) (λ h. absurd (true≢false h)) (λ h. refl) (λ h. refl)

-- thread 0: MOV [rsp - 144], rax
step4 : Proper keeping 0 w4 w5
unfolding template filled effect total carries overflows signed is_even ones is_met
step4 =
    first_steps keeping w4 w5 save_flags (machine_of mem2 (running 0x4301 0x5 0x601000 flags 0x240101b).now) (running 0x4301 0x5 0x601000 flags 0x2401013) (outside 0x6 0x601800) refl save_flags_is (refl, refl, (refl, refl, (refl, refl, (refl, refl, (refl, refl, (refl, refl, (refl, refl, (refl, refl, tt)))))))) refl refl
    (λ h. absurd (false≢true h)) (refl, (refl, tt)) (λ h. absurd (true≢false h)) (λ h. refl) (λ h. refl)

-- thread 0: MOV eax, 1
step5 : Proper keeping 0 w5 w6
unfolding template filled effect total carries overflows signed is_even ones is_met
step5 =
    first_steps keeping w5 w6 one (machine_of mem2 (running 0x1 0x5 0x601000 flags 0x2401020).now) (running 0x4301 0x5 0x601000 flags 0x240101b) (outside 0x6 0x601800) refl one_is (refl, refl, (refl, refl, (refl, refl, (refl, refl, (refl, refl, tt))))) refl refl
    (λ h. absurd (false≢true h)) (refl, (refl, tt)) (λ h. absurd (true≢false h)) (λ h. absurd (false≢true h)) (λ h. refl)

-- thread 0: LOCK XADD of the four bytes at 0x20040 with eax
step6 : Proper keeping 0 w6 w7
unfolding template filled effect total carries overflows signed is_even ones is_met
step6 =
    first_steps keeping w6 w7 claim (machine_of mem3 (running 0x0 0x5 0x601000 flags1 0x2401029).now) (running 0x1 0x5 0x601000 flags 0x2401020) (outside 0x6 0x601800) refl claim_is (refl, refl, (refl, refl, (refl, refl, (refl, refl, (refl, refl, (refl, refl, (refl, refl, (refl, refl, (refl, refl, tt))))))))) refl refl
    (λ h. absurd (false≢true h)) (refl, (refl, tt)) (λ h. absurd (true≢false h)) (λ h. absurd (false≢true h)) (λ h. refl)

-- thread 1: the jump to the trampoline
step7 : Proper keeping 1 w7 w8
unfolding template filled effect total carries overflows signed is_even ones is_met
step7 =
    second_steps keeping w7 w8 (jump_fields (rel_bytes 0x401007 0x2401007)) (machine_of mem3 (running 0x7 0x6 0x601800 flags 0x2401007).now) (running 0x0 0x5 0x601000 flags1 0x2401029) (outside 0x6 0x601800) refl (jump_is _ _ _ _) (refl, refl, (refl, refl, (refl, refl, (refl, refl, (refl, refl, tt))))) refl refl
    (λ h. absurd (false≢true h)) (refl, (refl, tt)) (λ h. refl) (λ h. absurd (false≢true h)) (λ h. refl)

-- thread 1: MOV [rsp - 136], rax
step8 : Proper keeping 1 w8 w9
unfolding template filled effect total carries overflows signed is_even ones is_met
step8 =
    second_steps keeping w8 w9 save_rax (machine_of mem4 (running 0x7 0x6 0x601800 flags 0x240100f).now) (running 0x0 0x5 0x601000 flags1 0x2401029) (running 0x7 0x6 0x601800 flags 0x2401007) refl save_rax_is (refl, refl, (refl, refl, (refl, refl, (refl, refl, (refl, refl, (refl, refl, (refl, refl, (refl, refl, tt)))))))) refl refl
    (λ h. absurd (false≢true h)) (refl, (refl, tt)) (λ h. absurd (true≢false h)) (λ h. refl) (λ h. refl)

-- thread 1: LAHF
step9 : Proper keeping 1 w9 w10
unfolding template filled effect total carries overflows signed is_even ones is_met
step9 =
    second_steps keeping w9 w10 lahf (machine_of mem4 (running 0x4307 0x6 0x601800 flags 0x2401010).now) (running 0x0 0x5 0x601000 flags1 0x2401029) (running 0x7 0x6 0x601800 flags 0x240100f) refl lahf_is (refl, refl, tt) refl refl
    (λ h. absurd (false≢true h)) (refl, (refl, tt)) (λ h. absurd (true≢false h)) (λ h. refl) (λ h. refl)

-- thread 1: SETO al
step10 : Proper keeping 1 w10 w11
unfolding template filled effect total carries overflows signed is_even ones is_met
step10 =
    second_steps keeping w10 w11 seto (machine_of mem4 (running 0x4301 0x6 0x601800 flags 0x2401013).now) (running 0x0 0x5 0x601000 flags1 0x2401029) (running 0x4307 0x6 0x601800 flags 0x2401010) refl seto_is (refl, refl, (refl, refl, (refl, refl, tt))) refl refl
    (λ h. absurd (false≢true h)) (refl, (refl, tt)) (λ h. absurd (true≢false h)) (λ h. refl) (λ h. refl)

-- thread 1: MOV [rsp - 144], rax
step11 : Proper keeping 1 w11 w12
unfolding template filled effect total carries overflows signed is_even ones is_met
step11 =
    second_steps keeping w11 w12 save_flags (machine_of mem5 (running 0x4301 0x6 0x601800 flags 0x240101b).now) (running 0x0 0x5 0x601000 flags1 0x2401029) (running 0x4301 0x6 0x601800 flags 0x2401013) refl save_flags_is (refl, refl, (refl, refl, (refl, refl, (refl, refl, (refl, refl, (refl, refl, (refl, refl, (refl, refl, tt)))))))) refl refl
    (λ h. absurd (false≢true h)) (refl, (refl, tt)) (λ h. absurd (true≢false h)) (λ h. refl) (λ h. refl)

-- thread 1: MOV eax, 1
step12 : Proper keeping 1 w12 w13
unfolding template filled effect total carries overflows signed is_even ones is_met
step12 =
    second_steps keeping w12 w13 one (machine_of mem5 (running 0x1 0x6 0x601800 flags 0x2401020).now) (running 0x0 0x5 0x601000 flags1 0x2401029) (running 0x4301 0x6 0x601800 flags 0x240101b) refl one_is (refl, refl, (refl, refl, (refl, refl, (refl, refl, (refl, refl, tt))))) refl refl
    (λ h. absurd (false≢true h)) (refl, (refl, tt)) (λ h. absurd (true≢false h)) (λ h. absurd (false≢true h)) (λ h. refl)

-- thread 1: LOCK XADD of the four bytes at 0x20040 with eax
step13 : Proper keeping 1 w13 w14
unfolding template filled effect total carries overflows signed is_even ones is_met
step13 =
    second_steps keeping w13 w14 claim (machine_of mem6 (running 0x1 0x6 0x601800 flags1 0x2401029).now) (running 0x0 0x5 0x601000 flags1 0x2401029) (running 0x1 0x6 0x601800 flags 0x2401020) refl claim_is (refl, refl, (refl, refl, (refl, refl, (refl, refl, (refl, refl, (refl, refl, (refl, refl, (refl, refl, (refl, refl, tt))))))))) refl refl
    (λ h. absurd (false≢true h)) (refl, (refl, tt)) (λ h. absurd (true≢false h)) (λ h. absurd (false≢true h)) (λ h. refl)

-- thread 1: MOVZX eax, al
step14 : Proper keeping 1 w14 w15
unfolding template filled effect total carries overflows signed is_even ones is_met
step14 =
    second_steps keeping w14 w15 reduce (machine_of mem6 (running 0x1 0x6 0x601800 flags1 0x240102c).now) (running 0x0 0x5 0x601000 flags1 0x2401029) (running 0x1 0x6 0x601800 flags1 0x2401029) refl reduce_is (refl, refl, (refl, refl, (refl, refl, tt))) refl refl
    (λ h. absurd (false≢true h)) (refl, (refl, tt)) (λ h. absurd (true≢false h)) (λ h. absurd (false≢true h)) (λ h. refl)

-- thread 1: MOV [4 * rax + 0x20044], 1
step15 : Proper keeping 1 w15 w16
unfolding template filled effect total carries overflows signed is_even ones is_met
step15 =
    second_steps keeping w15 w16 fill (machine_of mem7 (running 0x1 0x6 0x601800 flags1 0x2401037).now) (running 0x0 0x5 0x601000 flags1 0x2401029) (running 0x1 0x6 0x601800 flags1 0x240102c) refl fill_is (refl, refl, (refl, refl, (refl, refl, (refl, refl, (refl, refl, (refl, refl, (refl, refl, (refl, refl, (refl, refl, (refl, refl, (refl, refl, tt))))))))))) refl refl
    (λ h. absurd (false≢true h)) (refl, (refl, tt)) (λ h. absurd (true≢false h)) (λ h. absurd (false≢true h)) (λ h. refl)

-- thread 1: MOV rax, [rsp - 144]
step16 : Proper keeping 1 w16 w17
unfolding template filled effect total carries overflows signed is_even ones is_met
step16 =
    second_steps keeping w16 w17 load_flags (machine_of mem7 (running 0x4301 0x6 0x601800 flags1 0x240103f).now) (running 0x0 0x5 0x601000 flags1 0x2401029) (running 0x1 0x6 0x601800 flags1 0x2401037) refl load_flags_is (refl, refl, (refl, refl, (refl, refl, (refl, refl, (refl, refl, (refl, refl, (refl, refl, (refl, refl, tt)))))))) refl refl
    (λ h. absurd (false≢true h)) (refl, (refl, tt)) (λ h. absurd (true≢false h)) (λ h. absurd (false≢true h)) (λ h. refl)

-- thread 1: ADD al, 7F
step17 : Proper keeping 1 w17 w18
unfolding template filled effect total carries overflows signed is_even ones is_met
step17 =
    second_steps keeping w17 w18 add_flag (machine_of mem7 (running 0x4380 0x6 0x601800 flags2 0x2401041).now) (running 0x0 0x5 0x601000 flags1 0x2401029) (running 0x4301 0x6 0x601800 flags1 0x240103f) refl add_flag_is (refl, refl, (refl, refl, tt)) refl refl
    (λ h. absurd (false≢true h)) (refl, (refl, tt)) (λ h. absurd (true≢false h)) (λ h. absurd (false≢true h)) (λ h. refl)

-- thread 1: SAHF
step18 : Proper keeping 1 w18 w19
unfolding template filled effect total carries overflows signed is_even ones is_met
step18 =
    second_steps keeping w18 w19 sahf (machine_of mem7 (running 0x4380 0x6 0x601800 flags 0x2401042).now) (running 0x0 0x5 0x601000 flags1 0x2401029) (running 0x4380 0x6 0x601800 flags2 0x2401041) refl sahf_is (refl, refl, tt) refl refl
    (λ h. absurd (false≢true h)) (refl, (refl, tt)) (λ h. absurd (true≢false h)) (λ h. absurd (false≢true h)) (λ h. refl)

-- thread 1: MOV rax, [rsp - 136]
step19 : Proper keeping 1 w19 w20
unfolding template filled effect total carries overflows signed is_even ones is_met
step19 =
    second_steps keeping w19 w20 load_rax (machine_of mem7 (running 0x7 0x6 0x601800 flags 0x240104a).now) (running 0x0 0x5 0x601000 flags1 0x2401029) (running 0x4380 0x6 0x601800 flags 0x2401042) refl load_rax_is (refl, refl, (refl, refl, (refl, refl, (refl, refl, (refl, refl, (refl, refl, (refl, refl, (refl, refl, tt)))))))) refl refl
    (λ h. absurd (false≢true h)) (refl, (refl, tt)) (λ h. absurd (true≢false h)) (λ h. absurd (false≢true h)) (λ h. refl)

-- thread 1: the displaced jump, its effect step
step20 : Proper keeping 1 w20 w21
unfolding template filled effect total carries overflows signed is_even ones is_met
step20 =
    second_steps keeping w20 w21 (jump_fields (rel_bytes 0x240104f 0x401002)) (machine_of mem7 (outside 0x6 0x601800).now) (running 0x0 0x5 0x601000 flags1 0x2401029) (running 0x7 0x6 0x601800 flags 0x240104a) refl (jump_is _ _ _ _) (refl, refl, (refl, refl, (refl, refl, (refl, refl, (refl, refl, tt))))) refl refl
    (λ h. record { known = refl; leaves = λ f i s. quiet_jump (is_hidden keeping) mem7 0x6 0x601800 f (own_jump f i s) }) (refl, (refl, tt)) (λ h. refl) (λ h. absurd (false≢true h)) (λ h. refl)

abbrev watches : List Watch
watches = w1 ∷ w2 ∷ w3 ∷ w4 ∷ w5 ∷ w6 ∷ w7 ∷ w8 ∷ w9 ∷ w10 ∷ w11 ∷ w12 ∷ w13 ∷ w14 ∷ w15 ∷ w16 ∷ w17 ∷ w18 ∷ w19 ∷ w20 ∷ w21 ∷ []

part14 : IsProperRun keeping (1 ∷ 1 ∷ 1 ∷ 1 ∷ 1 ∷ 1 ∷ 1 ∷ []) w14 (w15 ∷ w16 ∷ w17 ∷ w18 ∷ w19 ∷ w20 ∷ w21 ∷ [])
part14 = ((refl, (refl, tt)), step14, ((refl, (refl, tt)), step15, ((refl, (refl, tt)), step16, ((refl, (refl, tt)), step17, ((refl, (refl, tt)), step18, ((refl, (refl, tt)), step19, ((refl, (refl, tt)), step20, (refl, (refl, tt)))))))))

part7 : IsProperRun keeping (1 ∷ 1 ∷ 1 ∷ 1 ∷ 1 ∷ 1 ∷ 1 ∷ 1 ∷ 1 ∷ 1 ∷ 1 ∷ 1 ∷ 1 ∷ 1 ∷ []) w7 (w8 ∷ w9 ∷ w10 ∷ w11 ∷ w12 ∷ w13 ∷ w14 ∷ w15 ∷ w16 ∷ w17 ∷ w18 ∷ w19 ∷ w20 ∷ w21 ∷ [])
part7 = ((refl, (refl, tt)), step7, ((refl, (refl, tt)), step8, ((refl, (refl, tt)), step9, ((refl, (refl, tt)), step10, ((refl, (refl, tt)), step11, ((refl, (refl, tt)), step12, ((refl, (refl, tt)), step13, part14)))))))

part0 : IsProperRun keeping (0 ∷ 0 ∷ 0 ∷ 0 ∷ 0 ∷ 0 ∷ 0 ∷ 1 ∷ 1 ∷ 1 ∷ 1 ∷ 1 ∷ 1 ∷ 1 ∷ 1 ∷ 1 ∷ 1 ∷ 1 ∷ 1 ∷ 1 ∷ 1 ∷ []) w0 (w1 ∷ w2 ∷ w3 ∷ w4 ∷ w5 ∷ w6 ∷ w7 ∷ w8 ∷ w9 ∷ w10 ∷ w11 ∷ w12 ∷ w13 ∷ w14 ∷ w15 ∷ w16 ∷ w17 ∷ w18 ∷ w19 ∷ w20 ∷ w21 ∷ [])
part0 = ((refl, (refl, tt)), step0, ((refl, (refl, tt)), step1, ((refl, (refl, tt)), step2, ((refl, (refl, tt)), step3, ((refl, (refl, tt)), step4, ((refl, (refl, tt)), step5, ((refl, (refl, tt)), step6, part7)))))))

-- all premises are met
pub ring_is_real : RingIsReal
ring_is_real = record {
  listed = are_entries;
  sound = is_sound;
  met = (
    watches,
    record {
      start = guests_started 0x401002 (Some (Keeps 256)) [] (Some 256) ring_code refl;
      run = part0;
      effects = refl;
      claims = refl;
      fills = refl;
      position = refl;
      unfilled = refl;
      filled = refl;
    },
  );
}
