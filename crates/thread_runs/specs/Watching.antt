-- A patched guest that is watched: as which thread each counts, which bytes are stale, which effect steps were made. Theorems cite it.
use Rattle.std.specs.Prelude.{◌≡◌, ℕ, suc, ◌+◌, ◌==◌, Bool, true, false, ◌||◌, if◌then◌else◌, List, [], ◌∷◌, ◌++◌, length, map, Option, Some, None, unwrap_or, slice_get, slice_set}
use Rattle.std.specs.List.{list_any}
use Rattle.pun_base.specs.Memory.{Bytes}
use Rattle.length_decode.specs.Spelling.{Fields}
use Rattle.cpu_state.specs.declared.state.Core.{Core}
use Rattle.insn_form.specs.declared.form.Insn.{Insn}
use Rattle.insn_form.specs.declared.form.Insn.TheVariants.{Exact, Asked, Ending}
use Rattle.insn_form.specs.Operands.{with_reg, rcx}
use Rattle.insn_form.specs.Resolving.{resolved_insn}
use Rattle.insn_form.specs.Meaning.{effect}
use Rattle.insn_form.specs.Plan.{number_in}
use Rattle.insn_form.specs.Machine.{Machine}
use Rattle.insn_form.specs.Step.{next_after}
use Rattle.insn_form.specs.Runs.{nowhere}
use Rattle.event_steps.specs.ThreadSteps.{thread_task, ThreadStepsBy}
use Rattle.insn_form.specs.Alike.{writes_at, still}
use Rattle.thread_runs.specs.Work.{is_syscall}
use Rattle.thread_runs.specs.Guest.{Thread, Guest, machine_of, thread_of}
use Rattle.thread_runs.specs.Threading.{Threading, ThreadSite, is_kept, in_event, saves, relocated_at, is_saved_by, claiming_at, is_filling}

-- a watched thread: the thread, and its projection, the thread of the original as which it counts
pub record Watched : Type 0 where
  pub now : Thread
  pub projected : Thread

-- an effect step: the number of the thread, the address of the original's instruction, and the registers, flags
-- and bases of the original's thread before it
pub record EffectStep : Type 0 where
  pub thread : ℕ
  pub at : ℕ
  pub core : Core

-- a claim of a ring's slot: the number of the thread, and that of the site at whose event it claimed the slot
pub record Claim : Type 0 where
  pub thread : ℕ
  pub number : ℕ

-- a fill of a slot: how many claims were made before the one of the thread that fills it, and how many were made so far
pub record Fill : Type 0 where
  pub claim : ℕ
  pub claimed : ℕ

-- a watched guest: its threads, its memory, the stale bytes and the effect steps
pub record Watch : Type 0 where
  pub threads : List Watched
  pub mem : Bytes
  pub stale : ℕ → Bool
  -- the effect steps so far, in order
  pub log : List EffectStep
  -- the claims of a ring's slots so far, and the fills, each in order
  pub claims : List Claim
  pub fills : List Fill

-- the guest that is watched
abbrev pub guest_of : Watch → Guest
guest_of w = record { threads = map (λ t. t.now) w.threads; mem = w.mem }

-- at the start each thread counts as itself, and no byte is stale
abbrev pub watch_of : Guest → Watch
watch_of g = record { threads = map (λ t. record { now = t; projected = t }) g.threads; mem = g.mem; stale = nowhere; log = []; claims = []; fills = [] }

-- the address to which an instruction with absolute addresses leads, from these registers and with this memory
abbrev pub leads_to : Insn → ℕ → Core → Bytes → ℕ
leads_to (Exact op) next c m = unwrap_or ((effect op next c).out (number_in m (effect op next c).read)).target next
leads_to (Asked form) next c m = next
leads_to Ending next c m = next

-- the thread after the effect step of a relocated instruction: at the address to which the
-- instruction leads, with its registers and flags as they are, but with the next address in rcx
-- after a SYSCALL
abbrev pub led_on : Option Insn → ℕ → Thread → Bytes → Machine → Thread
led_on None next t m to = thread_of to
led_on (Some i) next t m to = record {
  core = if is_syscall i then with_reg to.core rcx next else to.core;
  rip = leads_to (resolved_insn next i) next t.core m;
  world = to.world;
}

-- the projection after a step at an address at which a site's relocated code begins, or as it is,
-- where none does
abbrev pub behind : Option ThreadSite → Watched → Bytes → Machine → Thread
behind None one m to = one.projected
behind (Some s) one m to = led_on s.entry.form (s.entry.addr + s.entry.len) one.projected m to

-- The projection after a step: at a kept start, and by the first instruction of relocated code, the
-- step is an effect step, and the projection goes on. At all other addresses it stays.
abbrev pub projection : Threading → Watched → Bytes → Machine → Thread
projection r one m to = if is_kept r one.now.rip then thread_of to else behind (relocated_at r.sites one.now.rip) one m to

-- a site is there
abbrev pub is_there : Option ThreadSite → Bool
is_there None = false
is_there (Some s) = true

-- a step at the address is an effect step
abbrev pub is_effect : Threading → ℕ → Bool
is_effect r x = is_kept r x || is_there (relocated_at r.sites x)

-- the stale bytes after a step: what an event saves becomes stale; what a step outside an event
-- writes, or an answer to it, is no longer stale
abbrev pub stale_after : Threading → (ℕ → Bool) → Watched → Fields → Machine → ℕ → Bool
stale_after r stale one f s x =
    if saves r one.now.rip then stale x || is_saved_by r one.now.core x
    else (if in_event r one.now.rip then stale x else still stale (writes_at (thread_task f (next_after s.rip f)) (next_after s.rip f) s) x)

-- the effect steps so far, with this step where it is one
abbrev pub logged : Threading → ℕ → Watched → List EffectStep → List EffectStep
logged r k one log = if is_effect r one.now.rip then log ++ record { thread = k; at = one.projected.rip; core = one.projected.core } ∷ [] else log

-- the claim is one of thread k
abbrev pub is_by : ℕ → Claim → Bool
is_by k c = c.thread == k

-- how many claims were made before the last one of thread k
abbrev pub last_claim : ℕ → List Claim → ℕ
last_claim k [] = 0
last_claim k (c ∷ cs) = if list_any (is_by k) cs then suc (last_claim k cs) else 0

-- the claims after a step of thread k at LOCK XADD of a site's event, or at another instruction
abbrev pub claims_of : ℕ → Option ThreadSite → List Claim → List Claim
claims_of k None cs = cs
claims_of k (Some s) cs = cs ++ record { thread = k; number = s.number } ∷ []

-- the claims so far, with the one that this step makes, where it makes one
abbrev pub claims_after : Threading → ℕ → Watched → List Claim → List Claim
claims_after r k one cs = claims_of k (claiming_at r.sites one.now.rip) cs

-- the fills so far, with the one that this step makes, where it makes one: a thread fills the slot that it claimed last
abbrev pub fills_after : Threading → ℕ → Watched → List Claim → List Fill → List Fill
fills_after r k one cs fs = if is_filling r one.now.rip then fs ++ record { claim = last_claim k cs; claimed = length cs } ∷ [] else fs

-- the watched guest after a step of thread k
abbrev pub watched_after : Threading → ℕ → Watch → Watched → Fields → Machine → Watch
watched_after r k w one f to = record {
  threads = slice_set w.threads k (record { now = thread_of to; projected = projection r one w.mem to });
  mem = to.mem;
  stale = stale_after r w.stale one f (machine_of w.mem one.now);
  log = logged r k one w.log;
  claims = claims_after r k one w.claims;
  fills = fills_after r k one w.claims w.fills;
}

-- one step of thread k of a watched guest
pub record Watches (r : Threading) (k : ℕ) (w v : Watch) : Type 0 where
  pub one : Watched
  pub there : slice_get w.threads k ≡ Some one
  pub fields : Fields
  pub to : Machine
  pub steps : ThreadStepsBy fields (machine_of w.mem one.now) to
  pub after : v ≡ watched_after r k w one fields to
