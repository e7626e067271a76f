-- To what the stub leads: the parts of memory at its last state, the start pair there, and the original's headline from there on. Theorems cite it.
use Rattle.std.specs.Prelude.{◌≡◌, ◌⊎◌, ℕ, ◌+◌, ◌*◌, ◌<◌, ◌≤◌, List, length, take, Option, Some, None}
use Rattle.pun_base.specs.Memory.{Cell, Bytes, joined}
use Rattle.insn_form.specs.Machine.{Machine}
use Rattle.insn_form.specs.Processor.{IsProcessorState}
use Rattle.insn_form.specs.Step.{Step}
use Rattle.image_runs.specs.Quiet.{IsStartPair}
use Rattle.sound_images.specs.Rewriting.{Rewriting}
use Rattle.image_runs.specs.Deliveries.{Item, end_of, IsQuietWith}
use Rattle.sound_images.specs.Headline.{FollowsWith, BeforeWith, Headline}
use Rattle.loader_form.specs.Stub.{Stub}
use Rattle.loader_form.specs.Starting.{IsStart}
use Rattle.loader_form.specs.Kernel.{Reply, AreReplies, Move, IsRunWith, last_state}
use Rattle.loader_form.specs.Running.{all_mapped, IsAtEntry, AreGiven}

-- No memory.
abbrev pub nothing : Bytes
nothing x = None

-- The memory that the stub's runs show.
abbrev pub pages_of : List ℕ → Stub → Bytes
pages_of file b = all_mapped file b.runs nothing

-- The sound image: what the table loads of the original and of the private range, and what the runs show.
abbrev pub whole_image : List ℕ → Stub → Bytes → Bytes
whole_image file b base = joined base (pages_of file b)

-- A start state of the stub in parts: what the original's side needs of the written file's image
-- (base), the rest of that image, which is the table, the stub and the save page, and further
-- memory. None of these parts holds an address of a run.
pub record HasParts (file : List ℕ) (b : Stub) (original base rest further : Bytes) (s : Machine) : Type 0 where
  pub parts : (x : ℕ) → s.mem x ≡ joined base (joined rest further) x
  pub bare : (x : ℕ) → (pages_of file b x ≡ None) ⊎ (s.mem x ≡ None)
  -- the save page isn't in the first part, and the original is
  pub save : (x : ℕ) → b.save ≤ x → x < b.save + 4096 → base x ≡ None
  pub within : (x : ℕ) → base x ≡ None → original x ≡ None

-- The second cell, where the first is none.
abbrev pub or_not : Option Cell → Option Cell → Option Cell
or_not None c = c
or_not (Some d) c = None

-- The part of a memory that stands beside an image.
abbrev pub beside : Bytes → Bytes → Bytes
beside image m x = or_not (image x) (m x)

-- The original as it starts beside the stub's last state: table, stub and save page are further memory of both sides.
abbrev pub original_start : List ℕ → Stub → Bytes → Bytes → Machine → Machine
original_start file b original base t =
    record { core = t.core; rip = b.entry; mem = joined original (beside (whole_image file b base) t.mem); world = t.world }

-- The original as it starts beside the stub's last state and that state are a start pair.
abbrev pub PairsAtEntry : Type 0
PairsAtEntry =
    (file : List ℕ) (b : Stub) (original base rest further : Bytes) (s t : Machine) → IsStart file b s → IsProcessorState s
    → HasParts file b original base rest further s → IsAtEntry file b s t
    → IsStartPair original (whole_image file b base) b.entry (original_start file b original base t) t

-- At the entry further memory is as it was at the start, outside the save page.
abbrev pub KeepsFurther : Type 0
KeepsFurther =
    (file : List ℕ) (b : Stub) (original base rest further : Bytes) (s t : Machine) → HasParts file b original base rest further s
    → IsAtEntry file b s t → (x : ℕ) → (x < b.save) ⊎ (b.save + 4096 ≤ x) → base x ≡ None → rest x ≡ None → pages_of file b x ≡ None
    → t.mem x ≡ further x

-- What a run of the stub leads to: to the entry, in so many steps at most, where P holds of the original as it starts beside the stub's last
-- state, and of that state.
pub record IsLedOn (file : List ℕ) (b : Stub) (original base : Bytes) (P : Machine → Machine → Type 0) (s : Machine) : Type 0 where
  pub moves : List Move
  pub run : IsRunWith file None s moves
  pub few : length moves ≤ 36 + 12 * length b.runs
  pub reaches : IsAtEntry file b s (last_state s moves)
  pub on : P (original_start file b original base (last_state s moves)) (last_state s moves)

-- Where no open and no mmap fails, and each call has a reply, the stub leads to a start pair of the original and the sound image.
abbrev pub LoaderLeadsOn : Type 0
LoaderLeadsOn =
    (file : List ℕ) (b : Stub) (original base rest further : Bytes) (s : Machine) (replies : List Reply)
    → IsStart file b s → IsProcessorState s → HasParts file b original base rest further s
    → AreReplies replies → length b.runs + 2 ≤ length replies → AreGiven (take (length b.runs + 1) replies)
    → IsLedOn file b original base (IsStartPair original (whole_image file b base) b.entry) s

-- Two states are a start pair, from which the headline holds.
pub record GoesOn (r : Rewriting) (s u : Machine) : Type 0 where
  pub pair : IsStartPair r.original r.patched r.entry s u
  pub follows : (is : List Item) → IsQuietWith Step r.listed s is
      → (us : List Item) × FollowsWith Step r s is u us × BeforeWith Step r s is (end_of u us)

-- A run of the stub leads to the entry, and from there the headline holds.
abbrev pub IsFollowedBy : List ℕ → Stub → Bytes → Rewriting → Machine → Type 0
IsFollowedBy file b base r s = IsLedOn file b r.original base (GoesOn r) s

-- Where no open and no mmap fails, and each call has a reply, the headline of an image that follows
-- the original holds from the stub's last state on.
abbrev pub LoaderIsFollowed : Type 0
LoaderIsFollowed =
    (file : List ℕ) (b : Stub) (base rest further : Bytes) (r : Rewriting) (s : Machine) (replies : List Reply)
    → IsStart file b s → IsProcessorState s → HasParts file b r.original base rest further s
    → r.patched ≡ whole_image file b base → r.entry ≡ b.entry → Headline Step r
    → AreReplies replies → length b.runs + 2 ≤ length replies → AreGiven (take (length b.runs + 1) replies)
    → IsFollowedBy file b base r s
