-- What the instruction of a task does where it loads what it read: memory, place and world are as without that.
use Rattle.std.proofs.Common.{◌≡◌, ◌⊎◌, ℕ, ◌^◌, ◌<◌, Bool, true, false, Result, Ok, Err, refl, sym, ap, ◌∙◌, subst, arith}
use Rattle.std.proofs.lemmas.Bool.{and_parts}
use Rattle.pun_base.specs.Memory.{Bytes}
use Rattle.cpu_alu.specs.declared.operation.Width.TheVariants.{W32}
use Rattle.cpu_alu.specs.Widths.{cut}
use Rattle.cpu_state.specs.Bytes.{allows}
use Rattle.insn_form.specs.declared.form.Insn.{Insn}
use Rattle.insn_form.specs.declared.form.Insn.TheVariants.{Exact, Asked, Ending}
use Rattle.insn_form.specs.Operands.{with_reg, rax}
use Rattle.insn_form.specs.Meaning.{effect}
use Rattle.insn_form.specs.declared.form.Op.{Op}
use Rattle.insn_form.specs.declared.form.Op.TheVariants.{Leave}
use Rattle.insn_form.specs.Plan.{Halt, number_in}
use Rattle.insn_form.specs.Machine.{Machine, Task, act, leaves}
use Rattle.insn_form.specs.Processor.{IsProcessorState}
use Rattle.insn_form.specs.Laws.{Keeps, is_steady}
use Rattle.insn_form.specs.Touched.{reads_none, writes_none, reads_avoid, perms_at}
use Rattle.insn_form.specs.Alike.{IsAlike, GoesAlike, writes_at, still}
use Rattle.insn_form.proofs.AlikeMemories.{number_in_alike, alike_act}
use Rattle.insn_form.proofs.FrameRule.{keep}
use Rattle.insn_form.proofs.TouchedMemory.{keeps_permissions, guarded, unwritten, read_and_write}
use Rattle.insn_form.proofs.RegisterSizes.{after, reg_sized}
use Rattle.event_steps.specs.ThreadSteps.{number_read, loaded, exchanged, acting}

-- what an instruction leads to, by what it leads to without loading
abbrev pub result_of : Bool → Task → ℕ → Machine → Machine → Machine
result_of false t next s u = u
result_of true t next s u = loaded t next s u

-- an instruction that acts, and what it leads to without loading
pub record Acted (x : Bool) (t : Task) (next : ℕ) (s v : Machine) : Type 0 where
  pub plain : Machine
  pub acts : act t next s ≡ Ok plain
  pub after : v ≡ result_of x t next s plain

-- the states of two good results are equal
pub same_state : (u v : Machine) → ◌≡◌ {A = Result Machine Halt} (Ok u) (Ok v) → u ≡ v
same_state u v e = cc

-- what acts does so without loading
pub acted : (x : Bool) (t : Task) (next : ℕ) (s v : Machine) → acting x t next s ≡ Ok v → Acted x t next s v
acted x t next s v e = by_result (act t next s) refl x e
  where
    by_result : (r : Result Machine Halt) → act t next s ≡ r → (x : Bool) → exchanged x t next s r ≡ Ok v → Acted x t next s v
    by_result (Ok u) h false k = record { plain = u; acts = h; after = sym (same_state u v k) }
    by_result (Ok u) h true k = record { plain = u; acts = h; after = sym (same_state (loaded t next s u) v k) }
    by_result (Err z) h false k = absurd cc
    by_result (Err z) h true k = absurd cc

-- what acts without loading acts with it
pub acts_on : (x : Bool) (t : Task) (next : ℕ) (s u : Machine) → act t next s ≡ Ok u → acting x t next s ≡ Ok (result_of x t next s u)
acts_on false t next s u e = e
acts_on true t next s u e = ap (exchanged true t next s) e

-- loading leaves memory
same_mem : (x : Bool) (t : Task) (next : ℕ) (s u : Machine) → (result_of x t next s u).mem ≡ u.mem
same_mem false t next s u = refl
same_mem true t next s u = refl

-- it leaves the instruction pointer
same_rip : (x : Bool) (t : Task) (next : ℕ) (s u : Machine) → (result_of x t next s u).rip ≡ u.rip
same_rip false t next s u = refl
same_rip true t next s u = refl

-- it leaves the world
same_world : (x : Bool) (t : Task) (next : ℕ) (s u : Machine) → (result_of x t next s u).world ≡ u.world
same_world false t next s u = refl
same_world true t next s u = refl

module _ (x : Bool) (t : Task) (next : ℕ) (s v : Machine) (e : acting x t next s ≡ Ok v) where
  -- without loading
  pub base : Acted x t next s v
  base = acted x t next s v e

  -- memory is that without loading
  pub mem_is : v.mem ≡ base.plain.mem
  mem_is = ap (λ (z : Machine). z.mem) base.after ∙ same_mem x t next s base.plain

  -- so is the instruction pointer
  pub rip_is : v.rip ≡ base.plain.rip
  rip_is = ap (λ (z : Machine). z.rip) base.after ∙ same_rip x t next s base.plain

  -- so is the world
  pub world_is : v.world ≡ base.plain.world
  world_is = ap (λ (z : Machine). z.world) base.after ∙ same_world x t next s base.plain

  -- no permissions change
  pub acting_perms : (a : ℕ) → perms_at v.mem a ≡ perms_at s.mem a
  acting_perms a = ap (λ (m : Bytes). perms_at m a) mem_is ∙ keeps_permissions t next s base.plain base.acts a

  -- no byte changes that isn't held with W
  pub acting_guarded : (a : ℕ) → allows 2 (s.mem a) ≡ false → v.mem a ≡ s.mem a
  acting_guarded a h = ap (λ (m : Bytes). m a) mem_is ∙ guarded t next s base.plain base.acts a h

  -- a set of which no byte is written keeps its bytes
  pub acting_unwritten : (set : ℕ → Bool) → writes_none set t next s ≡ true → Keeps set s v
  acting_unwritten set h = λ a k. ap (λ (m : Bytes). m a) mem_is ∙ unwritten set t next s base.plain h base.acts a k

  -- so does one that is left alone
  pub acting_keep : (set : ℕ → Bool) → leaves set t next s ≡ true → Keeps set s v
  acting_keep set h = λ a k. ap (λ (m : Bytes). m a) mem_is ∙ keep set t next s base.plain h base.acts a k

  -- a processor's state leads to one
  pub acting_after : next < 2 ^ 64 → IsProcessorState s → IsProcessorState v
  acting_after l h = subst IsProcessorState (sym base.after) (by_kind x)
    where
      plain_state : IsProcessorState base.plain
      plain_state = after t next s base.plain l h base.acts

      by_kind : (x : Bool) → IsProcessorState (result_of x t next s base.plain)
      by_kind false = plain_state
      by_kind true = record { core = reg_sized base.plain.core rax (cut W32 (number_read t.insn next s.core s.mem)) plain_state.core (omega arith); world = plain_state.world }

-- where an operation reads doesn't depend on its place
op_reads_there : (op : Op) (next next' : ℕ) (s : Machine) → number_in s.mem (effect op next s.core).read ≡ number_in s.mem (effect op next' s.core).read
unfolding effect
op_reads_there Leave next next' s = refl
op_reads_there op next next' s = refl

-- what is read doesn't depend on the place
read_anywhere : (i : Insn) (next next' : ℕ) (s : Machine) → number_read i next s.core s.mem ≡ number_read i next' s.core s.mem
read_anywhere (Exact op) next next' s = op_reads_there op next next' s
read_anywhere (Asked form) next next' s = refl
read_anywhere Ending next next' s = refl

-- an instruction reads the same number in states that are alike, where what it reads is neither hidden nor stale
read_alike : (hidden stale : ℕ → Bool) (i : Insn) (next : ℕ) (s u : Machine) → IsAlike hidden stale s u → reads_avoid hidden i next s.core ≡ true → reads_avoid stale i next s.core ≡ true
    → number_read i next s.core s.mem ≡ number_read i next u.core u.mem
read_alike hidden stale (Exact op) next s u e h r =
    number_in_alike hidden stale s.mem u.mem e.mem (effect op next s.core).read h r ∙ ap (λ c. number_read (Exact op) next c u.mem) e.core
read_alike hidden stale (Asked form) next s u e h r = refl
read_alike hidden stale Ending next s u e h r = refl

-- states that went alike do so after loading the same
loaded_alike : (hidden stale : ℕ → Bool) (x : Bool) (t : Task) (next next' : ℕ) (s u s' u' : Machine) → number_read t.insn next s.core s.mem ≡ number_read t.insn next' u.core u.mem
    → GoesAlike hidden stale t.insn next next' s' u' → GoesAlike hidden stale t.insn next next' (result_of x t next s s') (result_of x t next' u u')
loaded_alike hidden stale false t next next' s u s' u' n g = g
loaded_alike hidden stale true t next next' s u s' u' n g = record {
  alike = record { core = λ i. with_reg (g.alike.core i) rax (cut W32 (n i)); world = g.alike.world; mem = g.alike.mem };
  target = g.target;
  own = g.own;
  other = g.other;
  gone = g.gone;
}

-- an instruction that leaves the hidden set alone and reads no stale byte has a step in both states or in neither, and loads the same
pub acting_alike : (hidden stale : ℕ → Bool) (x : Bool) (t : Task) (next next' : ℕ) (s u : Machine) → (next ≡ next') ⊎ (is_steady t.insn ≡ true)
    → IsAlike hidden stale s u → leaves hidden t next s ≡ true → reads_none stale t next s ≡ true
    → ((s' : Machine) → acting x t next s ≡ Ok s' → (u' : Machine) × (acting x t next' u ≡ Ok u') × GoesAlike hidden (still stale (writes_at t next s)) t.insn next next' s' u')
    × ((u' : Machine) → acting x t next' u ≡ Ok u' → (s' : Machine) × (acting x t next s ≡ Ok s') × GoesAlike hidden (still stale (writes_at t next s)) t.insn next next' s' u')
acting_alike hidden stale x t next next' s u place e h r =
    let all = alike_act hidden stale t next next' s u place e h r in
    let apart = (and_parts (reads_none hidden t next s) (writes_none hidden t next s) (sym (read_and_write hidden t next s) ∙ h)).0 in
    let same = read_alike hidden stale t.insn next s u e apart r ∙ read_anywhere t.insn next next' u in
    let still' = still stale (writes_at t next s) in (
      λ s' k. (let b = acted x t next s s' k in let q = all.0 b.plain b.acts in (
        result_of x t next' u q.0,
        acts_on x t next' u q.0 q.1,
        subst (λ z. GoesAlike hidden still' t.insn next next' z (result_of x t next' u q.0)) (sym b.after) (loaded_alike hidden still' x t next next' s u b.plain q.0 same q.2),
      )),
      λ u' k. (let b = acted x t next' u u' k in let q = all.1 b.plain b.acts in (
        result_of x t next s q.0,
        acts_on x t next s q.0 q.1,
        subst (λ z. GoesAlike hidden still' t.insn next next' (result_of x t next s q.0) z) (sym b.after) (loaded_alike hidden still' x t next next' s u q.0 b.plain same q.2),
      )),
    )
