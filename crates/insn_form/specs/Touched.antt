-- Which bytes an instruction touches, and what it leaves of memory. Theorems cite it.
use Rattle.std.specs.Prelude.{◌≡◌, ◌↔◌, ℕ, Bool, true, false, ◌&&◌, ◌||◌, List, [], ◌∷◌, length, Option, Some, None, Ok, option_map}
use Rattle.pun_base.specs.Memory.{Cell, Bytes, without}
use Rattle.cpu_state.specs.declared.state.Core.{Core}
use Rattle.cpu_state.specs.declared.world.Entry.{Entry}
use Rattle.cpu_state.specs.declared.world.MemWrite.{MemWrite}
use Rattle.cpu_state.specs.Bytes.{allows, within}
use Rattle.insn_form.specs.declared.effect.Span.{Span}
use Rattle.insn_form.specs.declared.form.Insn.{Insn}
use Rattle.insn_form.specs.declared.form.Insn.TheVariants.{Exact, Asked, Ending}
use Rattle.insn_form.specs.Meaning.{effect}
use Rattle.insn_form.specs.Machine.{Machine, Task, first, act, avoids_span, avoids_answer, leaves}
use Rattle.insn_form.specs.Laws.{Keeps}
use Rattle.insn_form.specs.Runs.{nowhere}

-- what an asked instruction reads is the world's to know: it counts as reading nothing
abbrev pub reads_avoid : (ℕ → Bool) → Insn → ℕ → Core → Bool
reads_avoid set (Exact op) next c = avoids_span set (effect op next c).read
reads_avoid set (Asked form) next c = true
reads_avoid set Ending next c = true

-- what an instruction or an answer to it writes has no address of the set
abbrev pub writes_avoid : (ℕ → Bool) → Insn → ℕ → Core → Option Entry → Bool
writes_avoid set (Exact op) next c entry = avoids_span set (effect op next c).write
writes_avoid set (Asked form) next c entry = avoids_answer set entry
writes_avoid set Ending next c entry = true

-- the instruction reads as data no byte of the set
abbrev pub reads_none : (ℕ → Bool) → Task → ℕ → Machine → Bool
reads_none set t next s = reads_avoid set t.insn next s.core

-- it writes none, nor does an answer to it
abbrev pub writes_none : (ℕ → Bool) → Task → ℕ → Machine → Bool
writes_none set t next s = writes_avoid set t.insn next s.core (first s.world)

-- to leave a set alone is to read none of it and to write none of it
abbrev pub IsReadAndWrite : Type 0
IsReadAndWrite = (set : ℕ → Bool) (t : Task) (next : ℕ) (s : Machine) → leaves set t next s ≡ (reads_none set t next s && writes_none set t next s)

-- each instruction leaves the empty set alone
abbrev pub LeavesNowhere : Type 0
LeavesNowhere = (t : Task) (next : ℕ) (s : Machine) → leaves nowhere t next s ≡ true

-- what leaves a set alone does so with each smaller one
abbrev pub IsNarrowed : Type 0
IsNarrowed = (p q : ℕ → Bool) (t : Task) (next : ℕ) (s : Machine) → ((a : ℕ) → q a ≡ true → p a ≡ true) → leaves p t next s ≡ true → leaves q t next s ≡ true

-- to leave two sets together alone is to leave each of them alone
abbrev pub IsUnited : Type 0
IsUnited = (p q : ℕ → Bool) (t : Task) (next : ℕ) (s : Machine) → (leaves (λ a. p a || q a) t next s ≡ true) ↔ ((leaves p t next s ≡ true) × (leaves q t next s ≡ true))

-- an instruction that acts reads bytes that are held with R, and no other
abbrev pub ReadsHeld : Type 0
ReadsHeld = (set : ℕ → Bool) (t : Task) (next : ℕ) (s s' : Machine) → ((a : ℕ) → set a ≡ true → allows 4 (s.mem a) ≡ false) → act t next s ≡ Ok s' → reads_none set t next s ≡ true

-- it writes bytes that are held with W, and no other
abbrev pub WritesHeld : Type 0
WritesHeld = (set : ℕ → Bool) (t : Task) (next : ℕ) (s s' : Machine) → ((a : ℕ) → set a ≡ true → allows 2 (s.mem a) ≡ false) → act t next s ≡ Ok s' → writes_none set t next s ≡ true

-- so it leaves alone what isn't held
abbrev pub TouchesHeld : Type 0
TouchesHeld = (set : ℕ → Bool) (t : Task) (next : ℕ) (s s' : Machine) → ((a : ℕ) → set a ≡ true → s.mem a ≡ None) → act t next s ≡ Ok s' → leaves set t next s ≡ true

-- the permissions of the byte at an address
abbrev pub perms_at : Bytes → ℕ → Option ℕ
perms_at m a = option_map (λ (c : Cell). c.perms) (m a)

-- no instruction changes permissions, or which addresses are held
abbrev pub KeepsPermissions : Type 0
KeepsPermissions = (t : Task) (next : ℕ) (s s' : Machine) → act t next s ≡ Ok s' → (a : ℕ) → perms_at s'.mem a ≡ perms_at s.mem a

-- no instruction changes a byte that isn't held with W
abbrev pub IsGuarded : Type 0
IsGuarded = (t : Task) (next : ℕ) (s s' : Machine) → act t next s ≡ Ok s' → (a : ℕ) → allows 2 (s.mem a) ≡ false → s'.mem a ≡ s.mem a

-- no instruction changes a byte of a set of which it writes none, whatever it reads
abbrev pub IsUnwritten : Type 0
IsUnwritten = (set : ℕ → Bool) (t : Task) (next : ℕ) (s s' : Machine) → writes_none set t next s ≡ true → act t next s ≡ Ok s' → Keeps set s s'

-- a span, if there is one, lies in the set
abbrev pub within_span : (ℕ → Bool) → Option Span → Bool
within_span set None = true
within_span set (Some s) = within set s.addr s.size

-- so do writes
abbrev pub within_writes : (ℕ → Bool) → List MemWrite → Bool
within_writes set [] = true
within_writes set (w ∷ ws) = within set w.addr (length w.bytes) && within_writes set ws

-- so does what an answer writes
abbrev pub within_answer : (ℕ → Bool) → Option Entry → Bool
within_answer set None = true
within_answer set (Some e) = within_writes set e.answer.writes

-- so does what an instruction or an answer to it writes
abbrev pub writes_within : (ℕ → Bool) → Insn → ℕ → Core → Option Entry → Bool
writes_within set (Exact op) next c entry = within_span set (effect op next c).write
writes_within set (Asked form) next c entry = within_answer set entry
writes_within set Ending next c entry = true

-- an instruction that writes into a set alone isn't seen in memory outside it
abbrev pub IsHidden : Type 0
IsHidden = (set : ℕ → Bool) (t : Task) (next : ℕ) (s s' : Machine) → writes_within set t.insn next s.core (first s.world) ≡ true → act t next s ≡ Ok s' → without set s'.mem ≡ without set s.mem
