-- The file that was settled, from what was written for it. Theorems cite it.
use Rattle.std.specs.Prelude.{◌≡◌, ℕ, ◌-◌, ◌&&◌, is_none, if◌then◌else◌, List, drop, Option, Some, None}
use Rattle.std.specs.Str.{bytes_eq}
use Rattle.pun_base.specs.Field.{field}
use Rattle.elf_read.specs.Entries.{table_count}
use Rattle.settle.specs.declared.error.UnsettleError.{UnsettleError}
use Rattle.settle.specs.declared.error.UnsettleError.TheVariants.{NotSettled, Memory}
use Rattle.settle.specs.Lengths.{front_len}
use Rattle.settle.specs.Settled.{settled}
use Rattle.settle.specs.Refusals.{settle_refusal}

-- The base that a settled file tells: `p_paddr` of its first entry.
abbrev pub base_in : List ℕ → ℕ
base_in out = field 8 88 out

-- What stands behind the front.
abbrev pub behind_front : List ℕ → List ℕ
behind_front out = drop (front_len (table_count out - 1)) out

-- The file that was settled, where these bytes are a settled file: those are that are what is written for what stands behind their front, at the
-- base that they tell, which is refused by no rule.
abbrev pub unsettled : List ℕ → Option (List ℕ)
unsettled out =
    if is_none (settle_refusal (base_in out) (behind_front out)) && bytes_eq (settled (base_in out) (behind_front out)) out
    then Some (behind_front out) else None

-- An error is that these bytes are no settled file; want of memory may come in place of any answer.
abbrev pub NotUndone : List ℕ → UnsettleError → Type 0
NotUndone out Memory = Unit {0}
NotUndone out NotSettled = unsettled out ≡ None
