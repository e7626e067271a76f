-- The addresses of entries are the starts.
use Rattle.std.proofs.Common.{◌≡◌, ℕ, List, [], ◌∷◌, Option, Result, Ok, Err, refl, ◌∙◌}
use Rattle.std.specs.Prelude.{slice_get}
use Rattle.length_decode.specs.declared.field_bytes.Stop.{Stop}
use Rattle.length_decode.specs.Spelling.{Fields}
use Rattle.start_entries.specs.Entries.{start_entry, unmarked_of, entries_of, entry_by, reading_at}
use Rattle.start_entries.specs.Finding.{addresses}
use Rattle.start_entries.proofs.MarkedEntries.{marked_addresses}

-- the entry of a start has the start's address, whatever is read there
addr_by : (file : List ℕ) (a : ℕ) (next : Option ℕ) (r : Result Fields Stop) → (entry_by file a next r).addr ≡ a
addr_by file a next (Ok f) = refl
addr_by file a next (Err s) = refl

-- The address of a start's entry is the start.
pub addr-entry : (file : List ℕ) (a : ℕ) (next : Option ℕ) → (start_entry file a next).addr ≡ a
unfolding start_entry
addr-entry file a next = addr_by file a next (reading_at file a)

-- The addresses of entries that aren't marked yet are the starts.
pub addresses-unmarked : (file starts : List ℕ) → addresses (unmarked_of file starts) ≡ starts
addresses-unmarked file [] = refl
addresses-unmarked file (a ∷ after) = λ i. addr-entry file a (slice_get after 0) i ∷ addresses-unmarked file after i

-- The addresses of all entries are the starts.
pub addresses-entries : (file starts : List ℕ) → addresses (entries_of file starts) ≡ starts
addresses-entries file starts = marked_addresses (unmarked_of file starts) (unmarked_of file starts) ∙ addresses-unmarked file starts
