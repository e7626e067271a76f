-- The worked run through the trampoline of a victim meets the premises of the theorem.
use Rattle.std.proofs.Common.{◌≡◌, ℕ, true, List, [], ◌∷◌, Option, Some, None, refl, arith}
use Rattle.std.specs.Int.Count.{ones}
use Rattle.std.proofs.lemmas.Bool.{false≢true}
use Rattle.pun_base.specs.Memory.{Bytes, joined}
use Rattle.cpu_alu.specs.Sums.{total, carries, overflows}
use Rattle.cpu_alu.specs.Widths.{signed}
use Rattle.cpu_alu.specs.Outcome.{is_even}
use Rattle.insn_form.specs.Classes.{template}
use Rattle.insn_form.specs.Filling.{filled}
use Rattle.insn_form.specs.Conditions.{is_met}
use Rattle.insn_form.specs.Meaning.{effect}
use Rattle.insn_form.specs.Moved.{rel_bytes}
use Rattle.relocate_insn.proofs.PieceSteps.{jump_fields, jump_is}
use Rattle.trampoline.specs.Worked.{jump_to_itself}
use Rattle.thread_runs.specs.ThreadCode.{Kind, code_if}
use Rattle.thread_runs.specs.Guest.{machine_of}
use Rattle.thread_runs.specs.Threading.{is_hidden, IsThreadSound}
use Rattle.thread_runs.specs.Watching.{EffectStep, Claim, Fill, Watch}
use Rattle.thread_runs.specs.Premises.{IsProperRun}
use Rattle.thread_laws.specs.WorkedGuest.{patched_image, stacks, flags}
use Rattle.thread_laws.specs.WorkedRuns.{step_of, victim_code, displacing, VictimIsReal}
use Rattle.thread_laws.proofs.WorkedImages.{own_jump, are_entries, sound, guests_started}
use Rattle.thread_laws.proofs.WorkedSteps.{outside, running, both_outside, behind, quiet_jump, Proper, first_steps, second_steps}

-- the code is that of the trampoline
code_is : code_if None [] 0x20000 0 jump_to_itself 0x401004 0x2401007 ≡ victim_code
unfolding template filled
code_is = refl

-- the patched image is sound for threads
is_sound : IsThreadSound displacing
is_sound = sound 0x401002 None [] None victim_code code_is (record { asked = tt; few = omega arith }) (omega arith)
    (refl, refl, refl, (refl, refl, refl, (refl, refl, refl, (refl, refl, refl, (refl, refl, refl, tt)))))
    (λ k e. absurd (no_kind k e)) (λ n e. absurd (none_some n e))
  where
    no_kind : (k : Kind) → ◌≡◌ {A = Option Kind} None (Some k) → ⊥
    no_kind k e = cc

    none_some : (n : ℕ) → ◌≡◌ {A = Option ℕ} None (Some n) → ⊥
    none_some n e = cc

abbrev mem0 : Bytes
mem0 = joined (patched_image victim_code) stacks

abbrev log0 : List EffectStep
log0 = []

abbrev log1 : List EffectStep
log1 = step_of 0 0x5 0x601000 ∷ []

abbrev claims0 : List Claim
claims0 = []

abbrev fills0 : List Fill
fills0 = []

abbrev w0 : Watch
w0 = both_outside mem0

abbrev w1 : Watch
w1 = behind displacing w0 (outside 0x5 0x601000) (jump_fields (rel_bytes 0x401007 0x2401007)) ((running 0x7 0x5 0x601000 flags 0x2401007) ∷ (outside 0x6 0x601800) ∷ []) mem0 log0 claims0 fills0

abbrev w2 : Watch
w2 = behind displacing w1 (outside 0x6 0x601800) (jump_fields (rel_bytes 0x401007 0x2401007)) ((running 0x7 0x5 0x601000 flags 0x2401007) ∷ (running 0x7 0x6 0x601800 flags 0x2401007) ∷ []) mem0 log0 claims0 fills0

abbrev w3 : Watch
w3 = behind displacing w2 (running 0x7 0x5 0x601000 flags 0x2401007) (jump_fields (rel_bytes 0x240100c 0x401002)) ((outside 0x5 0x601000) ∷ (running 0x7 0x6 0x601800 flags 0x2401007) ∷ []) mem0 log1 claims0 fills0

-- thread 0: the jump to the trampoline
step0 : Proper displacing 0 w0 w1
unfolding template filled effect total carries overflows signed is_even ones is_met
step0 =
    first_steps displacing w0 w1 (jump_fields (rel_bytes 0x401007 0x2401007)) (machine_of mem0 (running 0x7 0x5 0x601000 flags 0x2401007).now) (outside 0x5 0x601000) (outside 0x6 0x601800) refl (jump_is _ _ _ _) (refl, refl, (refl, refl, (refl, refl, (refl, refl, (refl, refl, tt))))) refl refl
    (λ h. absurd (false≢true h)) (refl, (refl, tt)) (λ h. refl) (λ h. absurd (false≢true h)) (λ h. refl)

-- thread 1: the jump to the trampoline
step1 : Proper displacing 1 w1 w2
unfolding template filled effect total carries overflows signed is_even ones is_met
step1 =
    second_steps displacing w1 w2 (jump_fields (rel_bytes 0x401007 0x2401007)) (machine_of mem0 (running 0x7 0x6 0x601800 flags 0x2401007).now) (running 0x7 0x5 0x601000 flags 0x2401007) (outside 0x6 0x601800) refl (jump_is _ _ _ _) (refl, refl, (refl, refl, (refl, refl, (refl, refl, (refl, refl, tt))))) refl refl
    (λ h. absurd (false≢true h)) (refl, (refl, tt)) (λ h. refl) (λ h. absurd (false≢true h)) (λ h. refl)

-- thread 0: the displaced jump, its effect step
step2 : Proper displacing 0 w2 w3
unfolding template filled effect total carries overflows signed is_even ones is_met
step2 =
    first_steps displacing w2 w3 (jump_fields (rel_bytes 0x240100c 0x401002)) (machine_of mem0 (outside 0x5 0x601000).now) (running 0x7 0x5 0x601000 flags 0x2401007) (running 0x7 0x6 0x601800 flags 0x2401007) refl (jump_is _ _ _ _) (refl, refl, (refl, refl, (refl, refl, (refl, refl, (refl, refl, tt))))) refl refl
    (λ h. record { known = refl; leaves = λ f i s. quiet_jump (is_hidden displacing) mem0 0x5 0x601000 f (own_jump f i s) }) (refl, (refl, tt)) (λ h. refl) (λ h. absurd (false≢true h)) (λ h. refl)

abbrev watches : List Watch
watches = w1 ∷ w2 ∷ w3 ∷ []

part0 : IsProperRun displacing (0 ∷ 1 ∷ 0 ∷ []) w0 (w1 ∷ w2 ∷ w3 ∷ [])
part0 = ((refl, (refl, tt)), step0, ((refl, (refl, tt)), step1, ((refl, (refl, tt)), step2, (refl, (refl, tt)))))

-- all premises are met
pub victim_is_real : VictimIsReal
victim_is_real = record {
  listed = are_entries;
  sound = is_sound;
  met = (watches, record { start = guests_started 0x401002 None [] None victim_code refl; run = part0; effects = refl; inside = refl });
}
