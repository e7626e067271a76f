-- Guests upon whose threads something is delivered between two instructions, and interleaved runs in which it is. Theorems cite it.
use Rattle.std.specs.Prelude.{◌≡◌, ℕ, List, [], ◌∷◌, Some, slice_get, slice_set}
use Rattle.insn_form.specs.Machine.{put_all}
use Rattle.start_entries.specs.declared.entry.StartEntry.{StartEntry}
use Rattle.image_runs.specs.declared.delivery.Delivery.{Delivery}
use Rattle.image_runs.specs.Deliveries.{Fits}
use Rattle.thread_runs.specs.Guest.{Thread, Guest, machine_of, Moves}

-- an item of a guest's run: a step of thread k, or a delivery to it
pub data GuestItem : Type 0 where
  Goes : ℕ → GuestItem
  Takes : ℕ → Delivery → GuestItem

-- the thread after a delivery to it: the delivery's registers, flags, bases and instruction pointer
-- in place of its own; the answers that are left stay
abbrev pub given : Delivery → Thread → Thread
given d t = record { core = d.core; rip = d.rip; world = t.world }

-- a delivery to thread k, which fits the machine that the thread is with the memory that all share
pub record Receives (listed : List StartEntry) (k : ℕ) (d : Delivery) (g h : Guest) : Type 0 where
  pub thread : Thread
  pub there : slice_get g.threads k ≡ Some thread
  pub fits : Fits listed (machine_of g.mem thread) d
  pub after : h ≡ record { threads = slice_set g.threads k (given d thread); mem = put_all g.mem d.writes }

-- an item leads from one guest to another
abbrev pub LeadsBy : List StartEntry → GuestItem → Guest → Guest → Type 0
LeadsBy listed (Goes k) g h = Moves k g h
LeadsBy listed (Takes k d) g h = Receives listed k d g h

-- the guests after g, one for each item
abbrev pub IsInterleavedWith : List StartEntry → List GuestItem → Guest → List Guest → Type 0
IsInterleavedWith listed [] g [] = Unit {0}
IsInterleavedWith listed [] g (h ∷ hs) = ⊥
IsInterleavedWith listed (i ∷ is) g [] = ⊥
IsInterleavedWith listed (i ∷ is) g (h ∷ hs) = LeadsBy listed i g h × IsInterleavedWith listed is h hs
