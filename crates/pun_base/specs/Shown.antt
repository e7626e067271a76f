-- What a desk and a sink show, apart from what they answer. Theorems cite it.
use Rattle.std.specs.Prelude.{◌≡◌, ℕ, ◌-◌, ◌^◌, ◌<◌, ◌⊎◌, Bool, List, Option, Some, None, if◌then◌else◌}
use Rattle.std.specs.Str.{bytes_eq}

-- From names to the bytes that they hold; a name that isn't held has none.
abbrev pub Files : Type 0
Files = List ℕ → Option (List ℕ)

-- The name holds these bytes, and each other name what it held.
abbrev pub with_file : Files → List ℕ → List ℕ → Files
with_file files name bytes other = if bytes_eq name other then Some bytes else files other

-- The five meanings of a desk.
pub record DeskState : Type 0 where
  -- what the names hold, where the desk tells it
  pub held : Option Files
  -- the name that is being written
  pub writing : Option (List ℕ)
  -- how many reads have failed, and how many begins, puts and ends
  pub read_faults : ℕ
  pub write_faults : ℕ
  -- whether `begin`, `put` and `end` never fail; where it tells what is held, `read` then fails at names that aren't
  pub sure : Bool

-- The two meanings of a sink.
pub record SinkState : Type 0 where
  -- what was written, where the sink tells it
  pub written : Option (List ℕ)
  -- how many writes have failed
  pub faults : ℕ

-- What is told goes on being told, and changes so. What isn't told may do as it likes.
abbrev pub Told : {X : Type 0} → (X → X → Type 0) → Option X → Option X → Type 0
Told P None new = Unit {0}
Told P (Some old) None = ⊥
Told P (Some old) (Some new) = P old new

-- A count rose in a call: it is greater after the call, or stands at the end of its type.
abbrev pub Rose : ℕ → ℕ → Type 0
Rose old new = (old < new) ⊎ (new ≡ 2 ^ 64 - 1)
