-- One jump on a site, after pads: the rules of an admissible plan for it, and the plan as it is answered. Theorems cite it.
use Rattle.std.specs.Prelude.{◌≡◌, ℕ, pos, ◌≤ℤ◌, ◌<ℤ◌, true, List, [], ◌∷◌, map}
use Rattle.std.specs.List.{AllByRecursion}
use Rattle.pun_base.specs.declared.scheme.Scheme.{Scheme}
use Rattle.pun_base.specs.declared.outcome.Plan.{Plan}
use Rattle.cpu_state.specs.Fixed.{IsFixed}
use Rattle.byte_locks.specs.declared.lock.Lock.TheVariants.{Free}
use Rattle.jump_form.specs.declared.window.Targets.{Targets}
use Rattle.start_entries.specs.declared.entry.StartEntry.{StartEntry}
use Rattle.start_list.specs.TurnViews.{TurnView, memory_now, share_segment}
use Rattle.start_list.specs.PlanJumps.{Jump, padded_jump, is_written, is_punned, after_writes}
use Rattle.start_list.specs.Forms.{for_site}
use Rattle.start_list.specs.Admissible.{ArePlaced}
use Rattle.start_list.specs.Plans.{AreRuns, write_run, pun_run, TellsWrite, TellsPun, tramp_of}

-- The one jump: p pads of 40, to the target t.
abbrev pub jumps : StartEntry → ℕ → ℕ → List Jump
jumps site p t = padded_jump site.addr site.len p 0x40 t ∷ []

-- The one jump to t writes free bytes, puns bytes of the site's segment, and stands after the
-- writes, and the site's trampoline is free at t.
pub record Reaches (v : TurnView) (site : StartEntry) (p t : ℕ) : Type 0 where
  pub free : (a : ℕ) → is_written (jumps site p t) a ≡ true → v.lock a ≡ Free
  pub punned : (a : ℕ) → is_punned (jumps site p t) a ≡ true → share_segment v.segments site.addr a ≡ true
  pub stands : AllByRecursion (λ j. IsFixed (after_writes (memory_now v) (jumps site p t)) j.at j.bytes) (jumps site p t)
  pub placed : ArePlaced v (for_site site t ∷ [])

-- An address of a window of targets at which the site's trampoline is free.
pub record IsTarget (v : TurnView) (site : StartEntry) (w : Targets) (t : ℕ) : Type 0 where
  pub from : w.lo ≤ℤ pos t
  pub before : pos t <ℤ w.hi
  pub placed : ArePlaced v (for_site site t ∷ [])

-- The plan tells the scheme, the trampoline, and the jump's maximal runs of written and of punned bytes.
pub record IsPaddedPlan (v : TurnView) (site : StartEntry) (scheme : Scheme) (p t : ℕ) (plan : Plan) : Type 0 where
  pub named : plan.scheme ≡ scheme
  pub tramps : plan.tramps ≡ map tramp_of (for_site site t ∷ [])
  pub written : AreRuns (is_written (jumps site p t)) (map write_run plan.writes)
  pub writes : AllByRecursion (TellsWrite (memory_now v) (after_writes (memory_now v) (jumps site p t))) plan.writes
  pub punned : AreRuns (is_punned (jumps site p t)) (map pun_run plan.puns)
  pub puns : AllByRecursion (TellsPun (memory_now v)) plan.puns
