-- Events: which were due, which came, and what they leave in the data part. Theorems cite it.
use Rattle.std.specs.Prelude.{ℕ, ◌==◌, if◌then◌else◌, List, [], ◌∷◌, flat_map, map, Option}
use Rattle.trampoline.specs.Events.{Seen, bytes_at, record_of}
use Rattle.insn_form.specs.Machine.{Machine}
use Rattle.sound_images.specs.Rewriting.{Rewriting}

-- The numbers of the list's elements that have this address, in order.
abbrev pub numbers_at : {X : Type 0} → (X → ℕ) → (X → ℕ) → List X → ℕ → List ℕ
numbers_at number addr [] a = []
numbers_at number addr (x ∷ xs) a =
    if addr x == a then number x ∷ numbers_at number addr xs a else numbers_at number addr xs a

-- The numbers of the patched sites at an address.
abbrev pub sites_at : Rewriting → ℕ → List ℕ
sites_at r a = numbers_at (λ x. x.number) (λ x. x.addr) r.sites a

-- The numbers of the event trampolines that begin at an address.
abbrev pub events_at : Rewriting → ℕ → List ℕ
events_at r a = numbers_at (λ x. x.number) (λ x. x.place) r.event_tramps a

-- Numbers as events, each with these registers before it.
abbrev pub events_of : List ℕ → List ℕ → List Seen
events_of regs numbers = map (λ i. record { number = i; regs = regs }) numbers

-- The events of the states at which a step of the original was made: for each of them that stands at a patched site
-- the site's number, with the registers, in order.
abbrev pub due_events : Rewriting → List Machine → List Seen
due_events r states = flat_map (λ s. events_of s.core.regs (sites_at r s.rip)) states

-- The log of these states: the numbers of their events.
abbrev pub log : Rewriting → List Machine → List ℕ
log r states = map (λ e. e.number) (due_events r states)

-- The passes of a run of the patched image: the numbers of the event trampolines at whose first address one
-- of its states stands, in order.
abbrev pub passes : Rewriting → List Machine → List ℕ
passes r states = flat_map (λ s. events_at r s.rip) states

-- The record of events: what they leave of a data part that was all zeros.
abbrev pub record_for : Rewriting → List Seen → List ℕ
record_for r events = record_of r.action r.data_len events

-- The data part of a state of the patched image.
abbrev pub data_of : Rewriting → Machine → List (Option ℕ)
data_of r s = bytes_at s.mem r.data_lo r.data_len
