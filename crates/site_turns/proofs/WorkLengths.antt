-- Code that does an instruction's work has bytes.
use Rattle.std.proofs.Common.{◌≡◌, ℕ, ◌+◌, ◌≤◌, cond, ◌&&◌, Option, Some, None, refl, arith}
use Rattle.std.specs.Option.{option_map}
use Rattle.insn_form.specs.declared.form.Insn.{Insn}
use Rattle.insn_form.specs.Displacing.{is_low, falls, code_length, displaced_len, insn_rip}
use Rattle.insn_form.specs.Moved.{direct_target}
use Rattle.trampoline.proofs.TrampolineRuns.{kept_length}
use Rattle.patch_report.proofs.ListPlaces.{some_is}
use Rattle.start_list.specs.TurnViews.{TurnView}
use Rattle.start_list.specs.Forms.{Trampoline, work_by, work_length}
use Rattle.start_list.specs.Admissible.{size_of}
use Rattle.sound_images.proofs.RelatedStates.{code_some}

-- what a sum of an option is made of
pub added_to : (f : ℕ → ℕ) (o : Option ℕ) (n : ℕ) → option_map f o ≡ Some n → (k : ℕ) × (o ≡ Some k) × (f k ≡ n)
added_to f None n e = absurd cc
added_to f (Some k) n e = (k, refl, some_is (f k) n e)

-- the code that does an instruction's work, with the jump back, has a byte where the instruction has one
pub work_least : (o : Option Insn) (len a n : ℕ) → work_by o len a ≡ Some n → 1 ≤ len → 1 ≤ n
work_least None len a n e l = absurd cc
work_least (Some i) len a n e l =
    let q = added_to (λ n. n + cond (falls i) 5 0) (displaced_len i len a) n e in
    let d = kept_length (is_low (a + len) (direct_target i) && is_low (a + len) (insn_rip i)) (code_length i len) q.0 q.1 in
    let s = code_some i len q.0 l d in
    let m = q.2 in
    omega (arith, s, m)

-- a trampoline has bytes
pub size_least : (v : TurnView) (u : Trampoline) (n : ℕ) → size_of v u ≡ Some n → 1 ≤ u.entry.len → 1 ≤ n
size_least v u n e l =
    let q = added_to (λ n. cond u.event v.event_size 0 + n) (work_length u.entry) n e in
    let s = work_least u.entry.form u.entry.len u.entry.addr q.0 q.1 l in
    let m = q.2 in
    omega (arith, s, m)
