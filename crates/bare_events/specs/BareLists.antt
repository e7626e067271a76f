-- Events that save nothing in memory, as lists of steps. Theorems cite it. p is the first address of the private range, i the number of the site.
use Rattle.std.specs.Prelude.{◌≡◌, ℕ, zero, suc, ◌+◌, ◌*◌, false, List, [], ◌∷◌, ◌++◌, length}
use Rattle.pun_base.specs.declared.action.Base.{Base}
use Rattle.pun_base.specs.declared.action.Base.TheVariants as base
use Rattle.pun_base.specs.declared.action.Comparison.{Comparison}
use Rattle.killing.specs.declared.place.Place.{Place}
use Rattle.killing.specs.declared.place.Place.TheVariants as place
use Rattle.event_steps.specs.declared.step.EventStep.{EventStep}
use Rattle.event_steps.specs.declared.step.EventStep.TheVariants.{CountUp, Keep, Give, IntoAh, IntoAl, FromAl, FromAh}
use Rattle.event_steps.specs.EventSteps.{long, code}
use Rattle.event_steps.specs.Interleaved.{Killed, Listed}
use Rattle.event_steps.specs.Interleaved.Killed.{Five, Six, Register}
use Rattle.cond_action.specs.Codes.{count_up, comparing, recording}
use Rattle.cond_action.specs.CondLists.{counter_at, marked_datum, marking_step, register_checks}

-- what an event that uses a place may leave changed
abbrev pub changed : Place → Killed
changed place.FiveFlags = Five
changed place.SixFlags = Six
changed (place.Register r) = Register r

-- the event that counts and changes five flags: INC of the site's counter
abbrev pub flags_count : ℕ → ℕ → Listed
flags_count p i = record { uses = marked_datum base.Count p i ∷ []; steps = CountUp false 0 ∷ []; kills = Five }

-- INC with the flags kept in ax: LAHF and SETO al before it, ADD al, 7F and SAHF behind it
abbrev pub kept_count : List EventStep → List EventStep
kept_count rest = IntoAh ∷ IntoAl ∷ CountUp false 0 ∷ FromAl ∷ FromAh ∷ rest

-- with rax alone, or with rax kept in another register meanwhile
abbrev pub register_steps : ℕ → List EventStep
register_steps zero = kept_count []
register_steps (suc q) = Keep (suc q) ∷ kept_count (Give (suc q) ∷ [])

-- the event that counts and changes one register
abbrev pub register_count : ℕ → ℕ → ℕ → Listed
register_count r p i = record { uses = marked_datum base.Count p i ∷ []; steps = register_steps r; kills = Register r }

-- the event under a condition that changes six flags: comparisons, each with a jump behind the event, and what marks
abbrev pub flags_when : Base → List Comparison → ℕ → ℕ → Listed
flags_when b cs p i = record { uses = marked_datum b p i ∷ []; steps = register_checks cs ++ (marking_step b false 0 ∷ []); kills = Six }

-- the code of a list
abbrev pub code_of_list : Listed → List ℕ
code_of_list e = code e.uses e.steps

-- The bytes of these events.
pub record BareBytes : Type 0 where
  -- INC qword [counter]
  pub count : (p i : ℕ) → code_of_list (flags_count p i) ≡ count_up (counter_at p i)
  -- LAHF; SETO al; INC; ADD al, 7F; SAHF
  pub rax : (p i : ℕ) → code_of_list (register_count 0 p i) ≡ 0x9f ∷ 0x0f ∷ 0x90 ∷ 0xc0 ∷ (count_up (counter_at p i) ++ (0x04 ∷ 0x7f ∷ 0x9e ∷ []))
  -- the same between MOV rdi, rax and MOV rax, rdi
  pub rdi : (p i : ℕ) → code_of_list (register_count 7 p i)
      ≡ 0x48 ∷ 0x89 ∷ 0xc7 ∷ 0x9f ∷ 0x0f ∷ 0x90 ∷ 0xc0 ∷ (count_up (counter_at p i) ++ (0x04 ∷ 0x7f ∷ 0x9e ∷ 0x48 ∷ 0x89 ∷ 0xf8 ∷ []))
  -- and between MOV r11, rax and MOV rax, r11
  pub r11 : (p i : ℕ) → code_of_list (register_count 11 p i)
      ≡ 0x49 ∷ 0x89 ∷ 0xc3 ∷ 0x9f ∷ 0x0f ∷ 0x90 ∷ 0xc0 ∷ (count_up (counter_at p i) ++ (0x04 ∷ 0x7f ∷ 0x9e ∷ 0x4c ∷ 0x89 ∷ 0xd8 ∷ []))
  -- comparisons, each with a jump, and what records
  pub when : (b : Base) (cs : List Comparison) (p i : ℕ) → code_of_list (flags_when b cs p i) ≡ comparing cs ++ recording b p i
  pub sizes : (q p i : ℕ) → (long (flags_count p i).steps ≡ 8) × (long (register_count 0 p i).steps ≡ 15) × (long (register_count (suc q) p i).steps ≡ 21)
  pub when_size : (b : Base) (cs : List Comparison) (p i : ℕ) → long (flags_when b cs p i).steps ≡ 9 * length cs + 8
