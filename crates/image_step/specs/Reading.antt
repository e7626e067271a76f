-- The line that a text is the text of. Theorems cite it.
use Rattle.std.specs.Prelude.{ℕ, zero, suc, ◌+◌, ◌-◌, ◌&&◌, nat_lt, if◌then◌else◌, List, length, codes, Option, Some, None, option_map, option_and_then}
use Rattle.std.specs.Result.{result_ok}
use Rattle.std.specs.Str.{bytes_eq}
use Rattle.std.specs.Int.{w64, from_be_bytes}
use Rattle.hex.specs.Hex.{decode_of, decode_sized}
use Rattle.cpu_state.specs.declared.script_regions.RegionBody.TheVariants.{Zeros, Bytes}
use Rattle.image_step.specs.declared.line.Line.{Line}
use Rattle.image_step.specs.declared.line.Line.TheVariants as line
use Rattle.image_step.specs.Spelling.{line_text, name}
use Rattle.image_step.specs.Grammar.{is_within, line_fits}
use Rattle.list_text.specs.Blanks.{word, later_words}
use Rattle.image_step.specs.Drafts.{read_one}
use Rattle.image_step.specs.Taking.{Draft, taken}

-- The number of 64 bits that sixteen hexadecimal digits tell, the highest first.
unfoldable pub number_in : List ℕ → Option ℕ
number_in digits = option_map (from_be_bytes w64) (result_ok (decode_sized digits 8))

-- Some bytes, where they are at least one and at most so many.
abbrev pub counted : ℕ → Option (List ℕ) → Option (List ℕ)
counted most None = None
counted most (Some bs) = if is_within most (length bs) then Some bs else None

-- At least one byte, and at most so many.
unfoldable pub bytes_in : ℕ → List ℕ → Option (List ℕ)
bytes_in most digits = counted most (result_ok (decode_of digits))

-- The place of a name among the n names from the kth on.
abbrev pub place_from : ℕ → ℕ → List ℕ → Option ℕ
place_from zero k text = None
place_from (suc n) k text = if bytes_eq text (name k) then Some k else place_from n (k + 1) text

-- The place of a name among the nineteen.
unfoldable pub name_in : List ℕ → Option ℕ
name_in text = place_from 19 0 text

-- The permissions that a word tells; those of `r--` where it is none of the other three.
unfoldable pub permission_in : List ℕ → ℕ
permission_in text =
    if bytes_eq text (codes "rw-") then 6 else (if bytes_eq text (codes "r-x") then 5 else (if bytes_eq text (codes "rwx") then 7 else 4))

-- The line of a region of zeros from lo up to hi, where lo is below hi.
abbrev pub zeros_with : ℕ → ℕ → ℕ → Option Line
zeros_with perms lo hi = if nat_lt lo hi then Some (line.Region (record { lo = lo; perms = perms; body = Zeros (hi - lo) })) else None

-- Lines by what stands behind their first word. Zeros: where they begin, where they end, their permissions.
unfoldable pub zeros_in : List ℕ → Option Line
zeros_in text =
    option_and_then (λ lo. option_and_then (λ hi. zeros_with (permission_in (later_words (later_words text))) lo hi) (number_in (word (later_words text))))
    (number_in (word text))

-- A region of bytes: where it begins, its permissions, its bytes.
unfoldable pub region_in : List ℕ → Option Line
region_in text =
    option_and_then (λ lo. option_map (λ bs. line.Region (record { lo = lo; perms = permission_in (word (later_words text)); body = Bytes bs }))
    (bytes_in 4096 (later_words (later_words text)))) (number_in (word text))

-- An address, or that there is none.
unfoldable pub address_in : List ℕ → Option (Option ℕ)
address_in text = if bytes_eq text (codes "-") then Some None else option_map (λ a. Some a) (number_in text)

-- A question: the bytes of an instruction, and an address or none.
unfoldable pub ask_in : List ℕ → Option Line
ask_in text =
    option_and_then (λ bs. option_map (λ a. line.Ask (record { bytes = bs; addr = a })) (address_in (later_words text)))
    (bytes_in 15 (word text))

-- What is given to a name.
unfoldable pub set_in : List ℕ → Option Line
set_in text = option_and_then (λ k. option_map (λ v. line.Set k v) (number_in (later_words text))) (name_in (word text))

-- A write: its address, and its bytes.
unfoldable pub mem_in : List ℕ → Option Line
mem_in text =
    option_and_then (λ a. option_map (λ bs. line.Mem (record { addr = a; bytes = bs })) (bytes_in 4096 (later_words text)))
    (number_in (word text))

-- The value of a name; here the first word is the name.
unfoldable pub value_in : List ℕ → List ℕ → Option Line
value_in kind text = option_and_then (λ k. option_map (λ v. line.Value k v) (number_in text)) (name_in kind)

-- The line of the kind that the first word names.
unfoldable pub line_behind : List ℕ → List ℕ → Option Line
line_behind kind text =
    if bytes_eq kind (codes "e9world") then Some line.Version
    else (if bytes_eq kind (codes "zero") then zeros_in text
    else (if bytes_eq kind (codes "bytes") then region_in text
    else (if bytes_eq kind (codes "ask") then ask_in text
    else (if bytes_eq kind (codes "set") then set_in text
    else (if bytes_eq kind (codes "mem") then mem_in text
    else (if bytes_eq kind (codes "end") then Some line.End else value_in kind text))))))

-- A line counts where it is within its bounds and the text is its text.
abbrev pub checked : List ℕ → Option Line → Option Line
checked text None = None
checked text (Some x) = if line_fits x && bytes_eq (line_text x) text then Some x else None

-- The line whose text this is, within its bounds, where there is one.
unfoldable pub line_of : List ℕ → Option Line
line_of text = checked text (line_behind (word text) (later_words text))

-- ---- lines one after the other

-- A draft with the first line of a text, where that is a script's and goes on with it, and what stands behind it.
unfoldable pub read_script_line : Draft → List ℕ → Option (Draft × List ℕ)
read_script_line d text = read_one taken line_of d text
