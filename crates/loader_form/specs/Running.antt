-- The stub at work: how it ends by the kernel's replies. Theorems cite it.
use Rattle.std.specs.Prelude.{◌≡◌, ◌≢◌, ◌⊎◌, ℕ, zero, suc, ◌+◌, ◌*◌, ◌<◌, ◌≤◌, List, [], ◌∷◌, ◌++◌, length, take, Option, None}
use Rattle.pun_base.specs.Memory.{Bytes}
use Rattle.insn_form.specs.Machine.{Machine}
use Rattle.insn_form.specs.Touched.{perms_at}
use Rattle.loader_form.specs.declared.kernel.MapAnswer.{MapAnswer}
use Rattle.loader_form.specs.declared.kernel.MapAnswer.TheVariants as answer
use Rattle.loader_form.specs.Stub.{Run, Stub}
use Rattle.loader_form.specs.Starting.{IsStart}
use Rattle.loader_form.specs.Kernel.{Reply, AreReplies, IsAnswer, mapped, Move, IsRunWith, last_state, last_number, replies_in, MadeInside, IsExit, IsWaiting}

-- Memory in which each run's bytes of the file are mapped.
abbrev pub all_mapped : List ℕ → List Run → Bytes → Bytes
all_mapped file [] m = m
all_mapped file (r ∷ rs) m = all_mapped file rs (mapped file r.place r.size r.offset m)

-- How a run of the stub ends: at the original's entry, at the call that ends the program, or at
-- another call that has no reply.
pub data End : Type 0 where
  AtEntry : End
  AtExit : End
  AtCall : End

-- How an answer to open or mmap lets the run end: a failure ends the program.
abbrev pub end_by : MapAnswer → End → End
end_by (answer.Ok n) e = e
end_by (answer.Failed n) e = AtExit

-- How the stub ends by its replies, with n runs left to map and then close, whose failure is
-- ignored.
abbrev pub end_from : ℕ → List Reply → End
end_from n [] = AtCall
end_from zero (r ∷ rs) = AtEntry
end_from (suc n) (r ∷ rs) = end_by r.answer (end_from n rs)

-- How the stub ends by its replies: to open first, then to an mmap for each of n runs, then to
-- close.
abbrev pub stub_end : ℕ → List Reply → End
stub_end n [] = AtCall
stub_end n (r ∷ rs) = end_by r.answer (end_from n rs)

-- The replies that are left after an answer to open or mmap: all that follow it, where it is a
-- failure, else those left later.
abbrev pub left_by : MapAnswer → List Reply → List Reply → List Reply
left_by (answer.Ok n) rs later = later
left_by (answer.Failed e) rs later = rs

-- The replies that are left, with n runs left to map and then close.
abbrev pub left_from : ℕ → List Reply → List Reply
left_from n [] = []
left_from zero (r ∷ rs) = rs
left_from (suc n) (r ∷ rs) = left_by r.answer rs (left_from n rs)

-- The replies that are left when the stub ends: those after the first failure of open or mmap, or
-- after the reply to close.
abbrev pub stub_left : ℕ → List Reply → List Reply
stub_left n [] = []
stub_left n (r ∷ rs) = left_by r.answer rs (left_from n rs)

-- The state at the entry: registers, flags, bases and world are the start's, and memory is the
-- start's with all runs mapped, but for the bytes of the save page.
pub record IsAtEntry (file : List ℕ) (b : Stub) (s t : Machine) : Type 0 where
  pub core : t.core ≡ s.core
  pub world : t.world ≡ s.world
  pub there : t.rip ≡ b.entry
  pub memory : (x : ℕ) → (x < b.save) ⊎ (b.save + 4096 ≤ x) → t.mem x ≡ all_mapped file b.runs s.mem x
  pub save : (x : ℕ) → perms_at t.mem x ≡ perms_at (all_mapped file b.runs s.mem) x

-- What holds of the last state of a run with this end.
abbrev pub EndsSo : List ℕ → Stub → Machine → End → Option ℕ → Machine → Type 0
EndsSo file b s AtEntry number t = IsAtEntry file b s t
EndsSo file b s AtExit number t = IsExit 127 t × (b.at ≤ t.rip) × (t.rip < b.at + 4096)
EndsSo file b s AtCall number t = IsWaiting file number t × (b.at ≤ t.rip) × (t.rip < b.at + 4096)

-- What the stub does by these replies: a run that takes the first of them, with each step made in
-- the stub's code. So after a failure of open or mmap no call is made but the one that ends the
-- program.
pub record Ends (file : List ℕ) (b : Stub) (s : Machine) (replies : List Reply) : Type 0 where
  pub moves : List Move
  pub run : IsRunWith file None s moves
  pub few : length moves ≤ 36 + 12 * length b.runs
  pub inside : MadeInside b.at (b.at + 4096) s moves
  pub taken : replies ≡ replies_in moves ++ stub_left (length b.runs) replies
  pub end : EndsSo file b s (stub_end (length b.runs) replies) (last_number None moves) (last_state s moves)

-- The theorem of the stub: whatever the kernel replies, the stub runs to one of its ends.
abbrev pub StubRuns : Type 0
StubRuns = (file : List ℕ) (b : Stub) (s : Machine) (replies : List Reply) → IsStart file b s → AreReplies replies → Ends file b s replies

-- An answer is no failure.
abbrev pub IsGiven : MapAnswer → Type 0
IsGiven (answer.Ok n) = Unit {0}
IsGiven (answer.Failed e) = ⊥

-- No answer of these replies is a failure.
abbrev pub AreGiven : List Reply → Type 0
AreGiven [] = Unit {0}
AreGiven (r ∷ rs) = IsGiven r.answer × AreGiven rs

-- Where open and each mmap succeed, and there is a reply to close, the stub ends at the entry.
abbrev pub EndsAtEntry : Type 0
EndsAtEntry = (n : ℕ) (rs : List Reply) → n + 2 ≤ length rs → AreGiven (take (n + 1) rs) → stub_end n rs ≡ AtEntry

-- With a reply to each call the stub never waits.
abbrev pub NeverWaits : Type 0
NeverWaits = (n : ℕ) (rs : List Reply) → n + 2 ≤ length rs → stub_end n rs ≢ AtCall

-- Where a failure of open or of mmap comes after replies that are none, the stub ends at the exit,
-- and the replies after the failure are left.
abbrev pub EndsAtExit : Type 0
EndsAtExit =
    (n : ℕ) (rs : List Reply) (e y : ℕ) (later : List Reply) → length rs ≤ n → AreGiven rs
    → (stub_end n (rs ++ record { answer = answer.Failed e; r11 = y } ∷ later) ≡ AtExit)
    × (stub_left n (rs ++ record { answer = answer.Failed e; r11 = y } ∷ later) ≡ later)

-- No state of a run stands at an address.
abbrev pub NeverThere : ℕ → Machine → List Move → Type 0
NeverThere a s [] = s.rip ≢ a
NeverThere a s (x ∷ xs) = (s.rip ≢ a) × NeverThere a x.state xs

-- The stub after a failure of open or mmap: the replies that its run takes end with the failure,
-- its next call ends the program with status 127, and the run is never at the original's entry,
-- where that lies outside the stub's code.
pub record Stops (file : List ℕ) (b : Stub) (s : Machine) (replies : List Reply) : Type 0 where
  pub moves : List Move
  pub run : IsRunWith file None s moves
  pub few : length moves ≤ 36 + 12 * length b.runs
  pub taken : replies_in moves ≡ replies
  pub exit : IsExit 127 (last_state s moves)
  pub apart : (b.entry < b.at) ⊎ (b.at + 4096 ≤ b.entry) → NeverThere b.entry s moves

-- The stub stops where open or mmap fails after replies that are no failures.
abbrev pub StubStops : Type 0
StubStops =
    (file : List ℕ) (b : Stub) (s : Machine) (given : List Reply) (e y : ℕ) → IsStart file b s → AreReplies given → AreGiven given
    → length given ≤ length b.runs → IsAnswer (answer.Failed e)
    → Stops file b s (given ++ record { answer = answer.Failed e; r11 = y } ∷ [])
