-- What holds of each entry of a built list: its bytes can be executed, and its form has its length.
use Rattle.std.proofs.Common.{◌≡◌, ℕ, zero, suc, ◌<◌, List, [], ◌∷◌, length, get_or, Option, Some, None, Result, Ok, Err, refl, sym, subst, arith}
use Rattle.std.specs.Prelude.{slice_get, Contains}
use Rattle.std.specs.List.{AllByRecursion}
use Rattle.elf_read.specs.Code.{window}
use Rattle.length_decode.specs.declared.field_bytes.Stop.{Stop}
use Rattle.length_decode.specs.Spelling.{Fields, IsInstruction, parts_of}
use Rattle.insn_form.specs.declared.form.Insn.{Insn}
use Rattle.insn_form.specs.Instruction.{insn_of}
use Rattle.start_entries.specs.declared.entry.StartEntry.{StartEntry}
use Rattle.start_entries.specs.Entries.{reading_at, entry_by, start_entry, unmarked_of, entries_of}
use Rattle.start_entries.specs.Finding.{addresses}
use Rattle.start_entries.specs.Laws.{IsBuilt, IsExecuted}
use Rattle.start_entries.specs.Listed.{AllListed, IsSpelledEntry}
use Rattle.insn_form.proofs.SpelledFronts.{front_read, read_same}
use Rattle.start_entries.proofs.MarkedEntries.{all_marked}
use Rattle.start_entries.proofs.ExecutedEntries.{known_begins, all_executed}

-- What holds of all holds of each.
pub all_at : {X : Type 0} (P : X → Type 0) (xs : List X) (x : X) → AllByRecursion P xs → Contains xs x → P x
all_at {X} P xs x h c = subst (λ (y : X). P y) c.2 (at xs c.0 h c.1)
  where
    at : (ys : List X) (k : ℕ) → AllByRecursion P ys → k < length ys → P (get_or ys k x)
    at [] k h l = absurd (omega arith)
    at (y ∷ ys) zero h l = h.0
    at (y ∷ ys) (suc k) h l = at ys k h.1 (omega arith)

-- equal options hold equal instructions
insn_same : (i j : Insn) → Some i ≡ Some j → j ≡ i
insn_same i j e = cc

-- nothing isn't something
none_some : (i : Insn) → None ≡ Some i → ⊥
none_some i e = cc

-- the entry by what is read at a start has the form of an instruction of its length
spelled_by : (file : List ℕ) (a : ℕ) (next : Option ℕ) (t : Result Fields Stop) → reading_at file a ≡ t → IsSpelledEntry (entry_by file a next t)
unfolding reading_at
spelled_by file a next (Ok g) e i h =
    let b = known_begins file a g e in
    let same = read_same (window file a) b.spelled.fields g (front_read (window file a) (parts_of g) b) e in
    record { fields = g; is = subst (λ (f : Fields). IsInstruction f) same b.spelled.is; insn = insn_same (insn_of g) i h; size = refl }
spelled_by file a next (Err s) e i h = absurd (none_some i h)

-- the entry of a start has the form of an instruction of its length
spelled_entry : (file : List ℕ) (a : ℕ) (next : Option ℕ) → IsSpelledEntry (start_entry file a next)
unfolding start_entry
spelled_entry file a next = spelled_by file a next (reading_at file a) refl

-- each unmarked entry of starts has the form of an instruction of its length
unmarked_spelled : (file starts : List ℕ) → AllByRecursion IsSpelledEntry (unmarked_of file starts)
unmarked_spelled file [] = tt
unmarked_spelled file (a ∷ after) = (spelled_entry file a (slice_get after 0), unmarked_spelled file after)

-- each entry of starts has the form of an instruction of its length
all_spelled : (file starts : List ℕ) → AllByRecursion IsSpelledEntry (entries_of file starts)
all_spelled file starts =
    all_marked IsSpelledEntry (unmarked_of file starts) (unmarked_of file starts) (λ e h. h) (unmarked_spelled file starts)

-- Each entry of a list that was built of an accepted file can be executed, and has the form of an instruction of its length.
pub all_listed : AllListed
all_listed file es e k b c =
    let executed = all_executed 0x10000 file (addresses es) (record { accepted = k; ascending = b.ascending; none = b.none }) in
    record {
      executed = all_at (IsExecuted file) es e (subst (λ (xs : List StartEntry). AllByRecursion (IsExecuted file) xs) (sym b.entries) executed) c;
      spelled = all_at IsSpelledEntry es e (subst (λ (xs : List StartEntry). AllByRecursion IsSpelledEntry xs) (sym b.entries) (all_spelled file (addresses es))) c;
    }

-- Each entry has the form of an instruction of its length.
pub listed_spelled : (file : List ℕ) (es : List StartEntry) (e : StartEntry) → IsBuilt file es → Contains es e → IsSpelledEntry e
listed_spelled file es e b c = all_at IsSpelledEntry es e (subst (λ (xs : List StartEntry). AllByRecursion IsSpelledEntry xs) (sym b.entries) (all_spelled file (addresses es))) c
