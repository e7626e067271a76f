-- Entries marked in one pass, by how far those before them reach. Contracts of private functions alone cite it.
-- An entry is marked by where those before it end and where the next one begins.
use Rattle.std.specs.Prelude.{ℕ, ◌+◌, nat_lt, Bool, false, if◌then◌else◌, ◌||◌, List, [], ◌∷◌, Option, Some, None, slice_get}
use Rattle.insn_form.specs.declared.form.Insn.{Insn}
use Rattle.start_entries.specs.declared.entry.StartEntry.{StartEntry}
use Rattle.start_entries.specs.Entries.{start_entry}

-- The next start, if there is one, is below an address.
abbrev pub is_next_below : Option ℕ → ℕ → Bool
is_next_below None n = false
is_next_below (Some next) n = nat_lt next n

-- An entry, marked where it begins before those before it end, or ends after the next start.
abbrev pub with_mark : ℕ → Option ℕ → StartEntry → StartEntry
with_mark reached next e = record {
  addr = e.addr;
  len = e.len;
  form = e.form;
  shared = nat_lt e.addr reached || is_next_below next (e.addr + e.len);
}

-- The entry with this address, length and form, marked so.
abbrev pub marked_entry : ℕ → Option ℕ → ℕ → ℕ → Option Insn → StartEntry
marked_entry reached next addr len form = with_mark reached next (record { addr = addr; len = len; form = form; shared = false })

-- The higher of two addresses.
abbrev pub further : ℕ → ℕ → ℕ
further reached n = if nat_lt reached n then n else reached

-- The address that entries reach with one more, after those that reach an address.
abbrev pub reached_with : ℕ → StartEntry → ℕ
reached_with reached e = further reached (e.addr + e.len)

-- The entries of all starts, marked in one pass, where the entries before them end at an address.
abbrev pub marks_from : List ℕ → ℕ → List ℕ → List StartEntry
marks_from file reached [] = []
marks_from file reached (a ∷ after) =
    with_mark reached (slice_get after 0) (start_entry file a (slice_get after 0))
    ∷ marks_from file (further reached ((start_entry file a (slice_get after 0)).addr + (start_entry file a (slice_get after 0)).len)) after
