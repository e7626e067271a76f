-- That the settled file's run is quiet where FILE's is: so the theorem of a patched file applies to it. Theorems cite it.
use Rattle.std.specs.Prelude.{◌≡◌, ℕ, ◌+◌, ◌*◌, ◌≤◌, ◌==◌, true, List, ◌++◌, length, map, None}
use Rattle.std.specs.List.{list_any}
use Rattle.pun_base.specs.Memory.{Bytes}
use Rattle.start_entries.specs.declared.entry.StartEntry.{StartEntry}
use Rattle.insn_form.specs.Machine.{Machine}
use Rattle.insn_form.specs.Step.{Step}
use Rattle.insn_form.specs.Runs.{IsPath, last_of}
use Rattle.image_runs.specs.Listed.{is_known_start, is_listed_byte}
use Rattle.insn_form.specs.Operands.{reg}
use Rattle.image_runs.specs.Quiet.{IsQuiet, IsStartPair}
use Rattle.image_runs.specs.Deliveries.{Item, Stepped, Taken, end_of, IsQuietWith}
use Rattle.sound_images.specs.Rewriting.{Rewriting}
use Rattle.sound_images.specs.Headline.{Follows, Before, PlainHeadline, FollowsWith, BeforeWith}
use Rattle.loader_form.specs.Continuing.{GoesOn}
use Rattle.elf_read.specs.Image.{image_of}
use Rattle.settled_runs.specs.Vector.{IsVector}
use Rattle.elf_read.specs.Entries.{entry_of, segments}
use Rattle.settle.specs.Settled.{stub_at, settled, front_image}
use Rattle.settle.specs.Laws.{IsSettleable, IsPlaceable}
use Rattle.settled_runs.specs.Laws.{stub_places, StubStep, IsSettledStart, beside, file_start}

-- Starts that list each instruction of the stub, and no byte of further memory.
pub record ListsStub (b : ℕ) (file : List ℕ) (further : Bytes) (listed : List StartEntry) : Type 0 where
  pub starts : (k : ℕ) → list_any (λ j. j == k) stub_places ≡ true → is_known_start listed (stub_at b (length (segments file)) + k) ≡ true
  pub apart : (x : ℕ) → is_listed_byte listed x ≡ true → further x ≡ None

-- An item of a run, with further memory in front of that of each state.
abbrev pub item_beside : Bytes → Item → Item
item_beside w (Stepped t) = Stepped (beside w t)
item_beside w (Taken d) = Taken d

-- The items of the settled file's run: the stub's steps, and then those of a run of FILE, beside the front.
abbrev pub settled_items : ℕ → List ℕ → List Machine → List Item → List Item
settled_items b file stub is = map Stepped stub ++ map (item_beside (front_image b file)) is

-- The stub's steps lead to FILE's start beside the front, and with each quiet run of FILE from there they are a quiet run of the settled file.
pub record QuietlyFollows (b : ℕ) (file : List ℕ) (further : Bytes) (s : Machine) (n : ℕ) (vs ks : List ℕ) (listed : List StartEntry) : Type 0 where
  pub stub : List Machine
  pub few : length stub ≤ 9 + 4 * length vs + 12 * length ks
  pub own : IsPath (StubStep s.rip) s stub
  pub there : last_of s stub ≡ beside (front_image b file) (file_start b file further s n vs ks)
  pub runs : (us : List Machine) → IsQuiet Step listed (file_start b file further s n vs ks) us → IsQuiet Step listed s (stub ++ map (beside (front_image b file)) us)
  -- whatever is delivered there, and the same is delivered here
  pub delivered : (is : List Item) → IsQuietWith Step listed (file_start b file further s n vs ks) is → IsQuietWith Step listed s (settled_items b file stub is)

abbrev pub SettledIsQuiet : Type 0
SettledIsQuiet =
    (b : ℕ) (file : List ℕ) (further : Bytes) (s : Machine) (n : ℕ) (vs ks : List ℕ) (listed : List StartEntry)
    → IsSettleable b file → IsPlaceable b file → IsSettledStart b file further s n vs ks → ListsStub b file further listed
    → QuietlyFollows b file further s n vs ks listed

-- What a patched file of the settled file does for a run of FILE: it follows the stub's steps and that run.
pub record IsPatchedFor (b : ℕ) (file : List ℕ) (r : Rewriting) (s t : Machine) (us : List Machine) : Type 0 where
  pub stub : List Machine
  pub own : IsPath (StubStep s.rip) s stub
  pub states : List Machine
  pub follows : Follows Step r s (stub ++ map (beside (front_image b file)) us) t states
  pub before : Before Step r s (stub ++ map (beside (front_image b file)) us) (last_of t states)

-- With the headline of a patched file of the settled file: from each start pair with a kernel's vector, for each quiet run of FILE at the base
-- there is a run of the patched file that follows it.
abbrev pub SettledIsPatched : Type 0
SettledIsPatched =
    (b : ℕ) (file : List ℕ) (r : Rewriting) (s t : Machine) (n : ℕ) (vs ks : List ℕ) → IsSettleable b file → IsPlaceable b file
    → r.original ≡ image_of (settled b file) → r.entry ≡ entry_of (settled b file) → PlainHeadline Step r
    → (p : IsStartPair r.original r.patched r.entry s t) → reg s.core 1 ≡ 0 → reg s.core 7 ≡ 0 → IsVector p.further (reg s.core 4) n vs ks → ListsStub b file p.further r.listed
    → (us : List Machine) → IsQuiet Step r.listed (file_start b file p.further s n vs ks) us → IsPatchedFor b file r s t us

-- ---- with deliveries

-- A state in which a kernel starts a settled file, as the original's side of a start pair: rcx and rdi are 0, the vector is in further memory,
-- and the starts list the stub.
pub record IsKernelStart (b : ℕ) (file : List ℕ) (further : Bytes) (listed : List StartEntry) (s : Machine) (n : ℕ) (vs ks : List ℕ) : Type 0 where
  pub rcx : reg s.core 1 ≡ 0
  pub rdi : reg s.core 7 ≡ 0
  pub vector : IsVector further (reg s.core 4) n vs ks
  pub lists : ListsStub b file further listed

-- What a patched file of the settled file does for a run of FILE with deliveries: it follows the stub's steps and that run, and what is delivered
-- to FILE is delivered to it.
pub record IsPatchedWith (b : ℕ) (file : List ℕ) (r : Rewriting) (s t : Machine) (is : List Item) : Type 0 where
  pub stub : List Machine
  pub own : IsPath (StubStep s.rip) s stub
  pub items : List Item
  pub follows : FollowsWith Step r s (settled_items b file stub is) t items
  pub before : BeforeWith Step r s (settled_items b file stub is) (end_of t items)

-- For each quiet run of FILE at the base beside this further memory, with deliveries, there is a run from t that follows it.
abbrev pub FollowsOn : ℕ → List ℕ → Rewriting → Bytes → ℕ → List ℕ → List ℕ → Machine → Machine → Type 0
FollowsOn b file r further n vs ks s t =
    (is : List Item) → IsQuietWith Step r.listed (file_start b file further s n vs ks) is → IsPatchedWith b file r s t is

-- Two states are a start pair, from which it is so.
pub record GoesOnSettled (b : ℕ) (file : List ℕ) (r : Rewriting) (n : ℕ) (vs ks : List ℕ) (s t : Machine) : Type 0 where
  pub pair : IsStartPair r.original r.patched r.entry s t
  pub follows : FollowsOn b file r pair.further n vs ks s t

-- Where the headline holds from a start pair of the settled file and a patched one, with a kernel's vector, it is so.
abbrev pub SettledGoesOn : Type 0
SettledGoesOn =
    (b : ℕ) (file : List ℕ) (r : Rewriting) (s t : Machine) (n : ℕ) (vs ks : List ℕ) → IsSettleable b file → IsPlaceable b file
    → r.original ≡ image_of (settled b file) → r.entry ≡ entry_of (settled b file)
    → (g : GoesOn r s t) → IsKernelStart b file g.pair.further r.listed s n vs ks → FollowsOn b file r g.pair.further n vs ks s t
