-- What a command has to tell at its end, and what of it comes out. Theorems cite it. k and l are what the sink shows before and after.
use Rattle.std.specs.Prelude.{◌≡◌, ℕ, ◌≤◌, ◌⊎◌, List, ◌++◌, take, Some}
use Rattle.pun_base.specs.Shown.{SinkState, Told, Rose}
use Rattle.command_io.specs.Refusals as refusals
use Rattle.command_io.specs.Refusals.{refusal_text}
use Rattle.command_io.specs.Ends.{read_fault_text, write_fault_text}

-- ---- what the sink has grown by

-- The sink has grown by this text, where it tells.
abbrev pub Prints : List ℕ → SinkState → SinkState → Type 0
Prints text k l = Told (λ old new. new ≡ old ++ text) k.written l.written

-- The sink has grown by a prefix of this text, where it tells.
abbrev pub PrintsPart : List ℕ → SinkState → SinkState → Type 0
PrintsPart text k l = Told (λ old new. (n : ℕ) × (new ≡ old ++ take n text)) k.written l.written

-- The sink tells, and has grown by at least one byte of this text.
pub record PrintsSome (text : List ℕ) (k l : SinkState) : Type 0 where
  pub old : List ℕ
  pub count : ℕ
  pub some : 1 ≤ count
  pub before : k.written ≡ Some old
  pub after : l.written ≡ Some (old ++ take count text)

-- The sink failed, or memory ran out: then the status is 5 or 6, whatever it would have been.
abbrev pub Spoilt : SinkState → SinkState → ℕ → Type 0
Spoilt k l status = ((status ≡ 5) × Rose k.faults l.faults) ⊎ (status ≡ 6)

-- A text came out whole, and its status is answered; or the sink failed or memory ran out, and a
-- prefix of it came out.
abbrev pub ComesOut : List ℕ → ℕ → SinkState → SinkState → ℕ → Type 0
ComesOut text code k l status =
    ((status ≡ code) × Prints text k l) ⊎ (Spoilt k l status × PrintsPart text k l)

-- Memory ran out, and nothing was printed.
abbrev pub IsSilent : SinkState → SinkState → ℕ → Type 0
IsSilent k l status = (status ≡ 6) × (l ≡ k)

-- ---- what there is to tell

-- What a command found, as a text with its status; a refusal; or the name that couldn't be read, or
-- written.
pub data Message : Type 0 where
  Answer : (text : List ℕ) (status : ℕ) → Message
  Refused : (refusal : refusals.Refusal) → Message
  Unread : (name : List ℕ) → Message
  Unwritten : (name : List ℕ) → Message

-- What is printed of a message.
abbrev pub message_text : Message → List ℕ
message_text (Answer text status) = text
message_text (Refused refusal) = refusal_text refusal
message_text (Unread name) = read_fault_text name
message_text (Unwritten name) = write_fault_text name

-- The status of a message.
abbrev pub message_status : Message → ℕ
message_status (Answer text status) = status
message_status (Refused refusal) = 3
message_status (Unread name) = 4
message_status (Unwritten name) = 5

-- Whatever was printed and answered, it is of one message of which this holds; or memory ran out, and
-- nothing was printed.
abbrev pub TellsOne : (Message → Type 0) → SinkState → SinkState → ℕ → Type 0
TellsOne Holds k l status =
    ((m : Message) × Holds m × ComesOut (message_text m) (message_status m) k l status)
    ⊎ IsSilent k l status
