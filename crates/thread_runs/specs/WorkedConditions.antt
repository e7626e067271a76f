-- Events under a condition, worked out: their bytes, and where a thread goes in them. Worked examples alone cite it.
use Rattle.std.specs.Prelude.{◌≡◌, ℕ, true, false, List, [], ◌∷◌, replicate, take, Some}
use Rattle.pun_base.specs.declared.action.Base.TheVariants.{Cover, Count}
use Rattle.pun_base.specs.declared.action.CompareOp.TheVariants.{Eq, Lt, Gt}
use Rattle.pun_base.specs.declared.action.Comparison.{Comparison}
use Rattle.cpu_state.specs.declared.state.Core.{Core}
use Rattle.thread_runs.specs.ThreadCode.{Marks, thread_event, event_len}
use Rattle.event_steps.specs.declared.step.EventStep.TheVariants.{CountUp, Store, Load, IntoAh, IntoAl, FromAl, FromAh, Compare, CompareAt, SkipIf}
use Rattle.event_steps.specs.EventSteps.{long}
use Rattle.event_steps.specs.DoneSteps.{started, ended}
use Rattle.event_steps.specs.WholeEvents.{made_in}
use Rattle.event_steps.specs.Interleaved.{Listed}
use Rattle.thread_runs.specs.ThreadLists.{saving_thread_event}

-- rax == 5
abbrev pub rax_is_5 : Comparison
rax_is_5 = record { reg = 0; op = Eq; value = 5 }

-- r9 < 256
abbrev pub r9_is_low : Comparison
r9_is_low = record { reg = 9; op = Lt; value = 256 }

-- rsp > 0x1000
abbrev pub rsp_is_high : Comparison
rsp_is_high = record { reg = 4; op = Gt; value = 0x1000 }

-- both of the first two
abbrev pub both : List Comparison
both = rax_is_5 ∷ r9_is_low ∷ []

-- registers with these values of rax and r9, and zeros else
abbrev pub core_by : ℕ → ℕ → Core
core_by rax r9 = record {
  regs = rax ∷ 0 ∷ 0 ∷ 0 ∷ 0 ∷ 0 ∷ 0 ∷ 0 ∷ 0 ∷ r9 ∷ replicate 6 0;
  flags = record { cf = false; pf = false; af = false; zf = false; sf = false; of = false; rest = 0 };
  fs = 0;
  gs = 0;
}

-- the list of the event that counts under both, of site 0
abbrev pub counted : Listed
counted = saving_thread_event Count both 0x20000 0

-- Events of a private range at 0x20000.
pub record ConditionsAreWorked : Type 0 where
  -- one that counts under both comparisons, for site 0: the saved rax is compared, and then r9
  pub counts : thread_event Count both 0x20000 0
      ≡ 0x48 ∷ 0x89 ∷ 0x84 ∷ 0x24 ∷ 0x78 ∷ 0xff ∷ 0xff ∷ 0xff ∷ 0x9f ∷ 0x0f ∷ 0x90 ∷ 0xc0
      ∷ 0x48 ∷ 0x81 ∷ 0xbc ∷ 0x24 ∷ 0x78 ∷ 0xff ∷ 0xff ∷ 0xff ∷ 0x05 ∷ 0x00 ∷ 0x00 ∷ 0x00 ∷ 0x75 ∷ 0x12
      ∷ 0x49 ∷ 0x81 ∷ 0xf9 ∷ 0x00 ∷ 0x01 ∷ 0x00 ∷ 0x00 ∷ 0x73 ∷ 0x09
      ∷ 0xf0 ∷ 0x48 ∷ 0xff ∷ 0x04 ∷ 0x25 ∷ 0x40 ∷ 0x00 ∷ 0x02 ∷ 0x00
      ∷ 0x04 ∷ 0x7f ∷ 0x9e ∷ 0x48 ∷ 0x8b ∷ 0x84 ∷ 0x24 ∷ 0x78 ∷ 0xff ∷ 0xff ∷ 0xff ∷ []
  pub counts_long : event_len (Some (Marks Count)) both ≡ 55
  -- one that covers under a comparison of rsp, for site 3
  pub covers : thread_event Cover (rsp_is_high ∷ []) 0x20000 3
      ≡ 0x48 ∷ 0x89 ∷ 0x84 ∷ 0x24 ∷ 0x78 ∷ 0xff ∷ 0xff ∷ 0xff ∷ 0x9f ∷ 0x0f ∷ 0x90 ∷ 0xc0
      ∷ 0x48 ∷ 0x81 ∷ 0xfc ∷ 0x00 ∷ 0x10 ∷ 0x00 ∷ 0x00 ∷ 0x76 ∷ 0x08
      ∷ 0xc6 ∷ 0x04 ∷ 0x25 ∷ 0x43 ∷ 0x00 ∷ 0x02 ∷ 0x00 ∷ 0x01
      ∷ 0x04 ∷ 0x7f ∷ 0x9e ∷ 0x48 ∷ 0x8b ∷ 0x84 ∷ 0x24 ∷ 0x78 ∷ 0xff ∷ 0xff ∷ 0xff ∷ []
  pub covers_long : event_len (Some (Marks Cover)) (rsp_is_high ∷ []) ≡ 40
  -- without a condition each is as before
  pub plain : thread_event Cover [] 0x20000 3 ≡ 0xc6 ∷ 0x04 ∷ 0x25 ∷ 0x43 ∷ 0x00 ∷ 0x02 ∷ 0x00 ∷ 0x01 ∷ []
  pub plain_long : event_len (Some (Marks Count)) [] ≡ 32
  -- the first comparison stands behind SETO, the second behind its jump, and what marks behind that
  pub steps : counted.steps ≡ Store 0 ∷ IntoAh ∷ IntoAl ∷ CompareAt 0 5 ∷ SkipIf 5 3 ∷ Compare 9 256 ∷ SkipIf 3 1 ∷ CountUp true 1 ∷ FromAl ∷ FromAh ∷ Load 0 ∷ []
  pub second_at : long (take 5 counted.steps) ≡ 26
  pub marks_at : long (take 7 counted.steps) ≡ 35
  pub behind : long (take 8 counted.steps) ≡ 44
  -- where both hold, a thread makes all eleven steps, and marks
  pub made : made_in 0 counted.steps (started (core_by 5 255) (5 ∷ 0 ∷ [])) ≡ 11
  pub marks : (ended 0 counted.steps (started (core_by 5 255) (5 ∷ 0 ∷ []))).marked ≡ true
  -- where one fails, the jump behind it leads over the mark
  pub first_fails : made_in 0 counted.steps (started (core_by 6 255) (6 ∷ 0 ∷ [])) ≡ 8
  pub first_unmarked : (ended 0 counted.steps (started (core_by 6 255) (6 ∷ 0 ∷ []))).marked ≡ false
  pub second_fails : made_in 0 counted.steps (started (core_by 5 256) (5 ∷ 0 ∷ [])) ≡ 10
  pub second_unmarked : (ended 0 counted.steps (started (core_by 5 256) (5 ∷ 0 ∷ []))).marked ≡ false
