-- Deliveries: what comes upon a thread between two instructions, and runs in which they are made. For any step relation.
-- Theorems cite it.
use Rattle.std.specs.Prelude.{◌≡◌, true, List, [], ◌∷◌, Option, Some, None}
use Rattle.cpu_state.specs.Processor.{IsProcessorCore}
use Rattle.start_entries.specs.declared.entry.StartEntry.{StartEntry}
use Rattle.insn_form.specs.Plan.{lacking_writes}
use Rattle.insn_form.specs.Machine.{Machine, put_all, avoids_writes}
use Rattle.insn_form.specs.Runs.{StepRelation, nowhere}
pub use Rattle.image_runs.specs.declared.delivery.Delivery.{Delivery}
use Rattle.image_runs.specs.Listed.{is_start, is_listed_byte}
use Rattle.image_runs.specs.Quiet.{IsQuietStep}

-- The state after it: the delivery's in place of its own, and the writes made. The answers that are left stay.
abbrev pub delivered : Delivery → Machine → Machine
delivered d s = record { core = d.core; rip = d.rip; mem = put_all s.mem d.writes; world = s.world }

-- A delivery fits a state: both stand at a listed start, the registers are a processor's, and each byte that is written is
-- held with W, as one that an answer writes is, and is of no listed instruction.
pub record Fits (listed : List StartEntry) (s : Machine) (d : Delivery) : Type 0 where
  pub here : is_start listed s.rip ≡ true
  pub there : is_start listed d.rip ≡ true
  pub core : IsProcessorCore d.core
  pub held : lacking_writes s.mem d.writes ≡ None
  pub apart : avoids_writes (is_listed_byte listed) d.writes ≡ true

-- An item of a run: a step, told by the state after it, or a delivery.
pub data Item : Type 0 where
  Stepped : Machine → Item
  Taken : Delivery → Item

-- The state after an item.
abbrev pub after : Machine → Item → Machine
after s (Stepped t) = t
after s (Taken d) = delivered d s

-- The last state of a run of items.
abbrev pub end_of : Machine → List Item → Machine
end_of s [] = s
end_of s (i ∷ is) = end_of (after s i) is

-- The delivery of an item, if it is one.
abbrev pub taken : Item → Option Delivery
taken (Stepped t) = None
taken (Taken d) = Some d

-- Each item leads on: a step as this relation of states says, and a delivery fits.
abbrev pub IsItem : (Machine → Machine → Type 0) → List StartEntry → Machine → Item → Type 0
IsItem Leads listed s (Stepped t) = Leads s t
IsItem Leads listed s (Taken d) = Fits listed s d

-- So does each of a list.
abbrev pub AreItems : (Machine → Machine → Type 0) → List StartEntry → Machine → List Item → Type 0
AreItems Leads listed s [] = Unit {0}
AreItems Leads listed s (i ∷ is) = IsItem Leads listed s i × AreItems Leads listed (after s i) is

-- A run with deliveries, whatever its steps read and write.
abbrev pub IsRunWith : StepRelation → List StartEntry → Machine → List Item → Type 0
IsRunWith Step listed s is = AreItems (Step nowhere) listed s is

-- It is quiet: each step is, and it ends at a listed start. (So each state stands at one.)
abbrev pub IsQuietWith : StepRelation → List StartEntry → Machine → List Item → Type 0
IsQuietWith Step listed s is = AreItems (IsQuietStep Step listed) listed s is × (is_start listed (end_of s is).rip ≡ true)

-- The states at which a step was made.
abbrev pub stepped_at : Machine → List Item → List Machine
stepped_at s [] = []
stepped_at s (Stepped t ∷ is) = s ∷ stepped_at t is
stepped_at s (Taken d ∷ is) = stepped_at (delivered d s) is
