-- The same instruction over memories that are alike: outside a hidden set, stale bytes alone may have other values. Theorems cite it.
use Rattle.std.specs.Prelude.{◌≡◌, ◌⊎◌, ℕ, Bool, true, false, not, ◌&&◌, ◌==◌, Option, Ok, Err, unwrap_or, is_some}
use Rattle.length_decode.specs.Spelling.{Fields}
use Rattle.pun_base.specs.Memory.{Bytes}
use Rattle.cpu_state.specs.declared.world.Question.{Question}
use Rattle.insn_form.specs.declared.form.AskedForm.{AskedForm}
use Rattle.insn_form.specs.declared.form.Insn.{Insn}
use Rattle.insn_form.specs.Plan.{Halt}
use Rattle.insn_form.specs.Machine.{Machine, Task, act, leaves}
use Rattle.insn_form.specs.Step.{IsAt, StepsAs, next_after}
use Rattle.insn_form.specs.Laws.{is_steady}
use Rattle.insn_form.specs.Touched.{reads_none, writes_none, perms_at}
use Rattle.insn_form.specs.Again.{always_goes, with_rcx, syscall_task}
use Rattle.insn_form.specs.Runs.{nowhere}

-- outside a hidden set the memories hold the same, but for the values of stale bytes
pub record AreAlike (hidden stale : ℕ → Bool) (m w : Bytes) : Type 0 where
  pub bytes : (x : ℕ) → hidden x ≡ false → stale x ≡ false → m x ≡ w x
  pub perms : (x : ℕ) → hidden x ≡ false → perms_at m x ≡ perms_at w x

-- the instruction, or an answer to it, writes the byte at an address
abbrev pub writes_at : Task → ℕ → Machine → ℕ → Bool
writes_at t next s x = not (writes_none (λ a. x == a) t next s)

-- stale bytes that were not written are still stale
abbrev pub still : (ℕ → Bool) → (ℕ → Bool) → ℕ → Bool
still stale written x = stale x && not (written x)

-- the states are alike, wherever they stand
pub record IsAlike (hidden stale : ℕ → Bool) (s u : Machine) : Type 0 where
  pub core : s.core ≡ u.core
  pub world : s.world ≡ u.world
  pub mem : AreAlike hidden stale s.mem u.mem

-- they are alike, and both went to one target, or where there is none each to the address after its own instruction
pub record GoesAlike (hidden stale : ℕ → Bool) (i : Insn) (next next' : ℕ) (s u : Machine) : Type 0 where
  pub alike : IsAlike hidden stale s u
  pub target : Option ℕ
  pub own : s.rip ≡ unwrap_or target next
  pub other : u.rip ≡ unwrap_or target next'
  pub gone : always_goes i ≡ true → is_some target ≡ true

-- An instruction that leaves the hidden set alone and reads no stale byte has a step in both states or in neither, and in
-- neither for the same reason. It stands at one place in both, or it uses its own place at most to go on behind itself.
-- What it writes is stale no more.
abbrev pub IsAlikeAct : Type 0
IsAlikeAct = (hidden stale : ℕ → Bool) (t : Task) (next next' : ℕ) (s u : Machine) → (next ≡ next') ⊎ (is_steady t.insn ≡ true)
    → IsAlike hidden stale s u → leaves hidden t next s ≡ true → reads_none stale t next s ≡ true
    → ((s' : Machine) → act t next s ≡ Ok s' → (u' : Machine) × (act t next' u ≡ Ok u') × GoesAlike hidden (still stale (writes_at t next s)) t.insn next next' s' u')
    × ((u' : Machine) → act t next' u ≡ Ok u' → (s' : Machine) × (act t next s ≡ Ok s') × GoesAlike hidden (still stale (writes_at t next s)) t.insn next next' s' u')
    × ((h : Halt) → act t next s ≡ Err h → act t next' u ≡ Err h)

-- SYSCALL elsewhere: they are alike but for rcx, which has the address after its own place in each
pub record GoesAlikeBehind (hidden stale : ℕ → Bool) (next next' : ℕ) (s u : Machine) : Type 0 where
  pub alike : IsAlike hidden stale s (with_rcx next u)
  pub own : s.rip ≡ next
  pub other : u.rip ≡ next'

-- SYSCALL that leaves the hidden set alone has a step in both states or in neither, and acts alike but for rcx
abbrev pub IsAlikeSyscall : Type 0
IsAlikeSyscall = (hidden stale : ℕ → Bool) (form : AskedForm) (asks : Question) (next next' : ℕ) (s u : Machine) → form.syscall ≡ true
    → IsAlike hidden stale s u → leaves hidden (syscall_task form asks) next s ≡ true
    → ((s' : Machine) → act (syscall_task form asks) next s ≡ Ok s' → (u' : Machine) × (act (syscall_task form asks) next' u ≡ Ok u') × GoesAlikeBehind hidden (still stale (writes_at (syscall_task form asks) next s)) next next' s' u')
    × ((u' : Machine) → act (syscall_task form asks) next' u ≡ Ok u' → (s' : Machine) × (act (syscall_task form asks) next s ≡ Ok s') × GoesAlikeBehind hidden (still stale (writes_at (syscall_task form asks) next s)) next next' s' u')

-- what a step from the original leads to and what it leads to in the other state, from one place
pub record StepsAlike (tasks : Fields → ℕ → Task) (hidden stale : ℕ → Bool) (f : Fields) (s u s' u' : Machine) : Type 0 where
  pub own : StepsAs tasks nowhere f s s'
  pub other : StepsAs tasks nowhere f u u'
  pub alike : IsAlike hidden (still stale (writes_at (tasks f (next_after s.rip f)) (next_after s.rip f) s)) s' u'
  pub rip : s'.rip ≡ u'.rip

-- The step of an instruction that stands at one place in both states: where one of them has it, the other has it too.
abbrev pub IsAlikeStep : Type 0
IsAlikeStep = (tasks : Fields → ℕ → Task) (hidden stale : ℕ → Bool) (f : Fields) (s u : Machine) → IsAlike hidden stale s u → s.rip ≡ u.rip → IsAt s f → IsAt u f
    → leaves hidden (tasks f (next_after s.rip f)) (next_after s.rip f) s ≡ true → reads_none stale (tasks f (next_after s.rip f)) (next_after s.rip f) s ≡ true
    → ((s' : Machine) → StepsAs tasks nowhere f s s' → (u' : Machine) × StepsAlike tasks hidden stale f s u s' u')
    × ((u' : Machine) → StepsAs tasks nowhere f u u' → (s' : Machine) × StepsAlike tasks hidden stale f s u s' u')

-- a byte that isn't written stays
abbrev pub IsUnwrittenAt : Type 0
IsUnwrittenAt = (t : Task) (next : ℕ) (s s' : Machine) (x : ℕ) → writes_at t next s x ≡ false → act t next s ≡ Ok s' → s'.mem x ≡ s.mem x

-- what an instruction reads doesn't depend on where it stands
abbrev pub ReadsAnywhere : Type 0
ReadsAnywhere = (set : ℕ → Bool) (t : Task) (next next' : ℕ) (s : Machine) → reads_none set t next s ≡ reads_none set t next' s

-- nor does what it writes
abbrev pub WritesAnywhere : Type 0
WritesAnywhere = (set : ℕ → Bool) (t : Task) (next next' : ℕ) (s : Machine) → writes_none set t next s ≡ writes_none set t next' s
