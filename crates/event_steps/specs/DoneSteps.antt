-- What steps of an event do by themselves, and to the data in memory. Theorems cite it.
use Rattle.std.specs.Prelude.{◌≡◌, ℕ, zero, suc, ◌+◌, ◌*◌, ◌-◌, ◌%◌, ◌^◌, ◌<◌, ◌≤◌, ◌==◌, Bool, true, false, ◌||◌, if◌then◌else◌, List, [], ◌∷◌, None, slice_index, slice_set}
use Rattle.cpu_alu.specs.declared.operation.Width.TheVariants.{W32, W64}
use Rattle.cpu_alu.specs.declared.operation.AluOp.TheVariants.{Add, Sub, Inc}
use Rattle.cpu_alu.specs.Arithmetic.{arithmetic}
use Rattle.cpu_state.specs.declared.state.Core.{Core}
use Rattle.cpu_state.specs.Bytes.{advanced, lacking, number_at, put_list, bytes_of}
use Rattle.pun_base.specs.Memory.{Bytes}
use Rattle.insn_form.specs.declared.form.Op.TheVariants.{Sahf, Lahf}
use Rattle.insn_form.specs.Operands.{reg, with_reg, with_flags, rax, rsp}
use Rattle.insn_form.specs.FlagsBack.{core_after, seto_al, add_al}
use Rattle.insn_form.specs.Machine.{Machine}
use Rattle.event_steps.specs.declared.step.Place.{Place}
use Rattle.event_steps.specs.declared.step.Datum.{Datum}
use Rattle.event_steps.specs.declared.step.EventStep.{EventStep}
use Rattle.event_steps.specs.EventSteps.{Mode, datum_of, datum, place_in, IsStep, taken, HasDatum}
use Rattle.event_steps.specs.MadeSteps.{after, Can, skipped}
use Rattle.event_steps.specs.declared.step.Place.TheVariants.{At, Below}
use Rattle.event_steps.specs.declared.step.EventStep.TheVariants.{Cover, CountUp, Store, Load, StoreLow, LoadLow, Keep, Give, Raise, IntoAh, IntoAl, FromAl, FromAh, Compare, CompareAt, SetLow, NextLow, CompareLow, Reduce, Put, Claim}

-- What a step does by itself: registers and flags, the number that each datum holds, and whether the event has marked.
pub record Local : Type 0 where
  pub core : Core
  pub held : List ℕ
  pub marked : Bool

-- what an event begins with
abbrev pub started : Core → List ℕ → Local
started c xs = record { core = c; held = xs; marked = false }

-- the number of a step's datum
abbrev pub datum_held : EventStep → Local → ℕ
datum_held s l = slice_index l.held (datum_of s)

-- registers and flags after a step
abbrev pub core_done : EventStep → ℕ → Core → Core
core_done (CountUp locked k) x c = with_flags c (arithmetic Inc W64 (x % 2 ^ 64) 1 c.flags).flags
core_done (Load k) x c = with_reg c rax (x % 2 ^ 64)
core_done (LoadLow k) x c = with_reg c rax (x % 2 ^ 32)
core_done (Keep r) x c = with_reg c r (reg c rax % 2 ^ 64)
core_done (Give r) x c = with_reg c rax (reg c r % 2 ^ 64)
core_done Raise x c = with_reg c rax ((reg c rax + 1) % 2 ^ 64)
core_done (SetLow n) x c = with_reg c rax n
core_done NextLow x c = with_reg c rax ((reg c rax + 1) % 2 ^ 32)
core_done (CompareLow n) x c = with_flags c (arithmetic Sub W32 (reg c rax % 2 ^ 32) n c.flags).flags
core_done (Reduce true) x c = with_reg c rax (reg c rax % 2 ^ 16)
core_done (Reduce false) x c = with_reg c rax (reg c rax % 2 ^ 8)
core_done (Claim k) x c = with_reg (with_flags c (arithmetic Add W32 (x % 2 ^ 32) (reg c rax % 2 ^ 32) c.flags).flags) rax (x % 2 ^ 32)
core_done IntoAh x c = core_after Lahf 0 c
core_done IntoAl x c = core_after seto_al 0 c
core_done FromAl x c = core_after add_al 0 c
core_done FromAh x c = core_after Sahf 0 c
core_done (Compare r n) x c = with_flags c (arithmetic Sub W64 (reg c r % 2 ^ 64) n c.flags).flags
core_done (CompareAt k n) x c = with_flags c (arithmetic Sub W64 (x % 2 ^ 64) n c.flags).flags
core_done s x c = c

-- the number that it writes to its datum, if it writes one
abbrev pub is_writing : EventStep → Bool
is_writing (Cover k) = true
is_writing (CountUp locked k) = true
is_writing (Store k) = true
is_writing (StoreLow k) = true
is_writing (Claim k) = true
is_writing s = false

abbrev pub number_done : EventStep → ℕ → Core → ℕ
number_done (CountUp locked k) x c = (x + 1) % 2 ^ 64
number_done (Store k) x c = reg c rax % 2 ^ 64
number_done (StoreLow k) x c = reg c rax % 2 ^ 32
number_done (Claim k) x c = (x + reg c rax) % 2 ^ 32
number_done s x c = 1

-- it marks
abbrev pub is_marking : EventStep → Bool
is_marking (Cover k) = true
is_marking (CountUp locked k) = true
is_marking (Put k n) = true
is_marking s = false

-- all together
abbrev pub done : EventStep → Local → Local
done s l = record {
  core = core_done s (datum_held s l) l.core;
  held = if is_writing s then slice_set l.held (datum_of s) (number_done s (datum_held s l) l.core) else l.held;
  marked = is_marking s || l.marked;
}

-- what steps do one after the other, where the first k are left out
abbrev pub ended : ℕ → List EventStep → Local → Local
ended k [] l = l
ended (suc k) (s ∷ ss) l = ended k ss l
ended zero (s ∷ ss) l = ended (skipped s l.core) ss (done s l)

-- the first address of a datum
abbrev pub address : Place → Core → ℕ
address (At a) c = a
address (Below d) c = advanced (reg c rsp) (2 ^ 64 - d)

-- it lies low, or not far below rsp
abbrev pub IsLow : Place → ℕ → Type 0
IsLow (At a) n = a + n ≤ 0x7FFF0000
IsLow (Below d) n = (0 < d) × (d ≤ 2 ^ 31)

abbrev pub AreLow : List Datum → Type 0
AreLow [] = Unit {0}
AreLow (d ∷ ds) = IsLow d.place d.size × AreLow ds

-- x is one of n addresses from a on
abbrev pub is_one_of : ℕ → ℕ → ℕ → Bool
is_one_of a zero x = false
is_one_of a (suc n) x = (x == a) || is_one_of (advanced a 1) n x

-- an address is a byte of one of them
abbrev pub is_in : List Datum → Core → ℕ → Bool
is_in [] c x = false
is_in (d ∷ ds) c x = is_one_of (address d.place c) d.size x || is_in ds c x

-- none of them shares a byte with another
abbrev pub AreApart : List Datum → Core → Type 0
AreApart [] c = Unit {0}
AreApart (d ∷ ds) c = ((x : ℕ) → is_one_of (address d.place c) d.size x ≡ true → is_in ds c x ≡ false) × AreApart ds c

-- each can be written, and each number read
abbrev pub AreFree : List Datum → Core → Bytes → Type 0
AreFree [] c m = Unit {0}
AreFree (d ∷ ds) c m = (d.number ≡ true → lacking 4 m (address d.place c) d.size ≡ None) × (lacking 2 m (address d.place c) d.size ≡ None) × AreFree ds c m

-- each that is a number holds one
abbrev pub Hold : List Datum → Core → Bytes → List ℕ → Type 0
Hold [] c m xs = xs ≡ []
Hold (d ∷ ds) c m [] = ⊥
Hold (d ∷ ds) c m (x ∷ xs) = (d.number ≡ true → number_at m (address d.place c) d.size ≡ x) × Hold ds c m xs

-- an element of an array has its place in it
abbrev pub FitsIn : List Datum → EventStep → Local → Type 0
FitsIn ds (Put k n) l = 4 * reg l.core rax + 4 ≤ (datum ds k).size
FitsIn ds s l = Unit {0}

-- memory after a step
abbrev pub mem_done : List Datum → Core → EventStep → Local → Bytes → Bytes
mem_done ds c (Put k n) l m = put_list m (address (datum ds k).place c + 4 * reg l.core rax) (bytes_of 4 n)
mem_done ds c s l m = if is_writing s then put_list m (address (place_in ds s) c) (bytes_of (taken s) (number_done s (datum_held s l) l.core)) else m

-- A state beside what steps do by themselves: its registers and flags are these, and each datum holds its number. rsp is that of a core c, which
-- tells where data below rsp lie.
pub record StandsBy (ds : List Datum) (c : Core) (l : Local) (v : Machine) : Type 0 where
  pub core : v.core ≡ l.core
  pub stack : reg l.core rsp ≡ reg c rsp
  pub hold : Hold ds c v.mem l.held

-- One step of an event, also among other threads: the state behind it is as the step says, and of memory its datum alone has changed.
pub record IsDone (ds : List Datum) (c : Core) (s : EventStep) (l : Local) (v w : Machine) : Type 0 where
  pub beside : StandsBy ds c (done s l) w
  pub mem : w.mem ≡ mem_done ds c s l v.mem
  pub world : w.world ≡ v.world
  pub kept : (x : ℕ) → is_in ds c x ≡ false → w.mem x ≡ v.mem x

-- where the data are held and apart, a step is done as it says
abbrev pub StepsAreDone : Type 0
StepsAreDone = (mode : Mode) (ds : List Datum) (c : Core) (s : EventStep) (ss : List EventStep) (at : ℕ) (l : Local) (v : Machine)
    → IsStep mode (place_in ds s) s → HasDatum ds s → AreLow ds → AreApart ds c → AreFree ds c v.mem → FitsIn ds s l → StandsBy ds c l v
    → Can ds s ss at v × IsDone ds c s l v (after ds s ss at v)
