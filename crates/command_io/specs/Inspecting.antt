-- Commands that only read: what they answer of their inputs. Theorems cite it. In all of it s and t are what the desk shows before and
-- after, k and l what the sink shows.
use Rattle.std.specs.Prelude.{◌≡◌, ℕ, ◌≤◌, ◌⊎◌, List, Some}
use Rattle.pun_base.specs.Shown.{Files, DeskState, SinkState}
use Rattle.command_io.specs.Refusals as refusals
use Rattle.command_io.specs.Refusals.{Refusal}
use Rattle.command_io.specs.Messages.{Message, Answer, Refused, Unread, Unwritten, TellsOne}
use Rattle.command_io.specs.Inputs.{Inputs, Gathered, Missing, TooLong, All, gathered, WhereTold, OnlyReads, IsHindered, IsUnread}

-- A command is known by the texts of its inputs that it accepts, by those that it refuses, and how, by the text and the
-- status that it answers of those that it accepts, and by these statuses.
abbrev pub Accepting : Type 1
Accepting = List (List ℕ) → Type 0

-- The texts that a command refuses, and how.
abbrev pub Refusing : Type 1
Refusing = List (List ℕ) → Refusal → Type 0

-- The text and the status that a command answers of texts.
abbrev pub Telling : Type 1
Telling = List (List ℕ) → List ℕ → ℕ → Type 0

-- What is gathered is refused so: the first input that is too long, or else as its texts are.
abbrev pub RefusesAll : Refusing → Gathered → Refusal → Type 0
RefusesAll Refuses (Missing name) r = ⊥
RefusesAll Refuses (TooLong which) r = r ≡ refusals.TooLong which
RefusesAll Refuses (All texts) r = Refuses texts r

-- What is gathered is answered so.
abbrev pub TellsAll : Telling → Gathered → List ℕ → ℕ → Type 0
TellsAll Tells (All texts) text status = Tells texts text status
TellsAll Tells other text status = ⊥

-- What is gathered is accepted.
abbrev pub AcceptsAll : Accepting → Gathered → Type 0
AcceptsAll Accepts (All texts) = Accepts texts
AcceptsAll Accepts other = ⊥

-- ---- what a command does

-- What the command tells has its cause.
abbrev pub InspectTells : Inputs → Refusing → Telling → (ℕ → Type 0) → DeskState → DeskState → Message
    → Type 0
InspectTells xs Refuses Tells IsOwn s t (Answer text status) =
    IsOwn status × WhereTold s (λ files. TellsAll Tells (gathered files xs) text status)
InspectTells xs Refuses Tells IsOwn s t (Refused r) =
    WhereTold s (λ files. RefusesAll Refuses (gathered files xs) r)
InspectTells xs Refuses Tells IsOwn s t (Unread name) = IsUnread xs s t name
InspectTells xs Refuses Tells IsOwn s t (Unwritten name) = ⊥

-- What a command does where the desk tells what it holds, by its inputs.
pub record InspectsHeld (files : Files) (xs : Inputs) (Accepts : Accepting) (Refuses : Refusing) (IsOwn : ℕ → Type 0) (s t : DeskState) (k l : SinkState) (status : ℕ) : Type 0 where
  pub accepted : AcceptsAll Accepts (gathered files xs) → IsOwn status ⊎ IsHindered s t k l status
  pub refusal : (r : Refusal) → RefusesAll Refuses (gathered files xs) r → (status ≡ 3) ⊎ IsHindered s t k l status
  pub missing : (name : List ℕ) → gathered files xs ≡ Missing name → IsHindered s t k l status

-- What a command does with these inputs.
pub record Inspects (xs : Inputs) (Accepts : Accepting) (Refuses : Refusing) (Tells : Telling) (IsOwn : ℕ → Type 0) (s t : DeskState) (k l : SinkState) (status : ℕ) : Type 0 where
  -- what is printed and answered
  pub told : TellsOne (InspectTells xs Refuses Tells IsOwn s t) k l status
  pub known : IsOwn status ⊎ ((3 ≤ status) × (status ≤ 6))
  pub only : OnlyReads s t
  pub held : (files : Files) → s.held ≡ Some files
      → InspectsHeld files xs Accepts Refuses IsOwn s t k l status
