-- What a guest of a settled file does from where a kernel starts it, and what a guest of its patched file does. Theorems cite it.
use Rattle.std.specs.Prelude.{◌≡◌, ℕ, ◌+◌, ◌*◌, ◌≤◌, List, [], ◌∷◌, ◌++◌, length, map, drop, None}
use Rattle.std.specs.List.{AllByRecursion}
use Rattle.pun_base.specs.Memory.{Bytes}
use Rattle.start_entries.specs.declared.entry.StartEntry.{StartEntry}
use Rattle.start_entries.specs.Standing.{AreEntries}
use Rattle.insn_form.specs.Machine.{Machine}
use Rattle.insn_form.specs.Runs.{IsPath, last_of}
use Rattle.elf_read.specs.Entries.{entry_of}
use Rattle.elf_read.specs.Image.{image_of}
use Rattle.thread_runs.specs.Guest.{Guest, thread_of}
use Rattle.thread_runs.specs.GuestDeliveries.{Goes}
use Rattle.thread_runs.specs.Ring.{AreKept}
use Rattle.thread_runs.specs.Theorem.{AreCounted, AreCovered}
use Rattle.thread_runs.specs.Threading.{Threading, IsThreadSound}
use Rattle.thread_laws.specs.Beginning.{BirthItem, Does, IsGrowing, GrowingWatch, growing_watch, IsProperGrowing}
use Rattle.thread_laws.specs.ThreadsBegin.{IsGrowingFollowed}
use Rattle.settle.specs.Settled.{settled, front_image}
use Rattle.settle.specs.Refusals.{settle_refusal}
use Rattle.settle.specs.Laws.{IsReadable, IsSettleable, IsPlaceable}
use Rattle.settled_runs.specs.Laws.{StubStep, IsSettledStart, beside, file_start}
use Rattle.settled_runs.specs.Started.{IsKernelPair}
use Rattle.settled_threads.specs.Beside.{guest_beside, RunLeaves}

-- A guest of one thread.
abbrev pub lone : Machine → Guest
lone s = record { threads = thread_of s ∷ []; mem = s.mem }

-- As many steps of the first thread as there are states.
abbrev pub first_steps : List Machine → List BirthItem
first_steps ts = map (λ t. Does (Goes 0)) ts

-- Guests that are the stub's steps of one thread, and then a run of FILE's guest, beside the front.
pub record IsRunOfFile (w : Bytes) (listed : List StartEntry) (from : Machine) (stub : List Machine) (is : List BirthItem) (hs : List Guest) : Type 0 where
  pub states : List Guest
  pub run : IsGrowing listed is (lone from) states
  pub same : hs ≡ map lone stub ++ map (guest_beside w) states

-- The stub's steps lead to FILE's start beside the front. Each run of the settled file's guest that begins with them, and then leaves the front
-- alone, is them and a run of FILE's guest at that base.
pub record IsFileGuest (b : ℕ) (file : List ℕ) (further : Bytes) (s : Machine) (n : ℕ) (vs ks : List ℕ) : Type 0 where
  pub stub : List Machine
  pub few : length stub ≤ 9 + 4 * length vs + 12 * length ks
  pub own : IsPath (StubStep s.rip) s stub
  pub there : last_of s stub ≡ beside (front_image b file) (file_start b file further s n vs ks)
  pub runs : (listed : List StartEntry) (is : List BirthItem) (hs : List Guest) → IsGrowing listed (first_steps stub ++ is) (lone s) hs
      → RunLeaves (front_image b file) is (lone (last_of s stub)) (drop (length stub) hs)
      → IsRunOfFile (front_image b file) listed (file_start b file further s n vs ks) stub is hs

abbrev pub SettledGuests : Type 0
SettledGuests =
    (b : ℕ) (file : List ℕ) (further : Bytes) (s : Machine) (n : ℕ) (vs ks : List ℕ)
    → IsSettleable b file → IsPlaceable b file → IsSettledStart b file further s n vs ks → IsFileGuest b file further s n vs ks

-- What was patched for threads is what `settle` writes of a file at a base, by entries of its image, and it is sound.
pub record IsSettledThreading (b : ℕ) (file : List ℕ) (r : Threading) : Type 0 where
  pub original : r.original ≡ image_of (settled b file)
  pub entry : r.entry ≡ entry_of (settled b file)
  pub entries : AreEntries r.original r.listed
  pub sound : IsThreadSound r

-- A moment of a run of the patched file's guest follows a run of the settled file's, and that is one of FILE's where it begins with the stub's
-- steps and then leaves the front alone.
pub record IsMomentOfFile (b : ℕ) (file : List ℕ) (r : Threading) (s from : Machine) (stub : List Machine) (x : GrowingWatch) : Type 0 where
  pub followed : IsGrowingFollowed r (lone s) x
  pub own : (is : List BirthItem) → x.made ≡ first_steps stub ++ is
      → RunLeaves (front_image b file) is (lone (last_of s stub)) (drop (length stub) followed.states)
      → IsRunOfFile (front_image b file) r.listed from stub is followed.states

-- Each proper run of the patched file's guest, which starts with one thread, with deliveries and threads that begin, is so at each moment, and
-- counted, covered and kept.
pub record ThreadsFollowFile (b : ℕ) (file : List ℕ) (r : Threading) (further : Bytes) (n : ℕ) (vs ks : List ℕ) (s u : Machine) : Type 0 where
  pub stub : List Machine
  pub few : length stub ≤ 9 + 4 * length vs + 12 * length ks
  pub own : IsPath (StubStep s.rip) s stub
  pub there : last_of s stub ≡ beside (front_image b file) (file_start b file further s n vs ks)
  pub followed : (items : List BirthItem) (xs : List GrowingWatch) → IsProperGrowing r items (growing_watch (lone u)) xs
      → AllByRecursion (λ x. IsMomentOfFile b file r s (file_start b file further s n vs ks) stub x × AreCounted r x.watch × AreCovered r x.watch × AreKept r x.watch)
      (growing_watch (lone u) ∷ xs)

-- It is so from where a kernel starts them.
abbrev pub SettledThreadsFollow : Type 0
SettledThreadsFollow =
    (b : ℕ) (file : List ℕ) (r : Threading) → IsReadable file → settle_refusal b file ≡ None → IsSettledThreading b file r
    → (s u : Machine) (n : ℕ) (vs ks : List ℕ) → (c : IsKernelPair r.original r.patched r.entry n vs ks s u)
    → ThreadsFollowFile b file r c.pair.further n vs ks s u
