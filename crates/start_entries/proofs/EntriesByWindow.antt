-- The entry of a start, by how its window begins.
use Rattle.std.proofs.Common.{◌≡◌, ◌↔◌, ◌⊎◌, inl, inr, ℕ, ◌≤◌, List, [], ◌∷◌, ◌++◌, length, false, Option, Some, None, Ok, Err, sym, ap, ◌∙◌, subst}
use Rattle.std.specs.Prelude.{Result, IfOk, OnOk}
use Rattle.elf_read.specs.Code.{window}
use Rattle.length_decode.specs.declared.instruction_parts.Parts.{Parts}
use Rattle.length_decode.specs.declared.instruction_parts.Shape.{Shape}
use Rattle.length_decode.specs.declared.instruction_parts.Shape.TheVariants.{Unknown, Short}
use Rattle.length_decode.specs.Parse.{parse}
use Rattle.length_decode.specs.Spelling.{Fields, BeginsWith, BeginsWithNone, IsShort}
use Rattle.insn_form.specs.declared.form.Insn.{Insn}
use Rattle.insn_form.specs.Instruction.{insn_of}
use Rattle.start_entries.specs.declared.entry.StartEntry.{StartEntry}
use Rattle.start_entries.specs.Marking.{reached_with, with_mark}
use Rattle.start_entries.specs.Entries.{before_next, entry_by, start_entry, reading_at}
use Rattle.insn_form.proofs.SpelledFronts.{front_read, unread}
use Rattle.start_entries.proofs.WindowLengths.{window_short, length-window}

-- where a window begins with an instruction, the start's entry has that instruction's length and form
pub known_entry : (file : List ℕ) (a : ℕ) (next : Option ℕ) (w : List ℕ) (p : Parts) (i : Insn) → w ≡ window file a → BeginsWith w p → ((f : Fields) → parse w ≡ Ok f → i ≡ insn_of f) → record { addr = a; len = p.len; form = Some i; shared = false } ≡ start_entry file a next
unfolding start_entry reading_at
known_entry file a next w p i e b h =
    let s = b.spelled in
    let r = front_read w p b in
    let n = ap (λ (q : Parts). q.len) s.divided in
    let same : record { addr = a; len = p.len; form = Some i; shared = false } ≡ entry_by file a next (Ok s.fields) = λ j. record { addr = a; len = n j; form = Some (h s.fields r j); shared = false } in
    same ∙ sym (ap (entry_by file a next) (sym (ap parse e) ∙ r))

-- where a window begins with none, the start's entry has no form, and reaches through the window or to the next start
pub unknown_entry : (file : List ℕ) (a : ℕ) (next : Option ℕ) (w : List ℕ) (n : ℕ) → w ≡ window file a → BeginsWithNone w → n ≡ before_next a next (length w) → record { addr = a; len = n; form = None; shared = false } ≡ start_entry file a next
unfolding start_entry reading_at
unknown_entry file a next w n e b h =
    let short = subst (λ (z : List ℕ). length z ≤ 15) (sym e) (window_short file a) in
    let r = unread w short b in
    let l = h ∙ ap (before_next a next) (ap length e ∙ length-window file a) in
    let same : record { addr = a; len = n; form = None; shared = false } ≡ entry_by file a next (Err r.0) = λ j. record { addr = a; len = l j; form = None; shared = false } in
    same ∙ sym (ap (entry_by file a next) (sym (ap parse e) ∙ r.1))

-- a shape that tells no instruction
pub told_none : (w : List ℕ) (s : Shape) → ((s ≡ Unknown) ↔ (BeginsWithNone w × (IsShort w → ⊥))) → ((s ≡ Short) ↔ IsShort w) → (s ≡ Unknown) ⊎ (s ≡ Short) → BeginsWithNone w
told_none w s u t (inl e) = (u.0 e).0
told_none w s u t (inr e) = (t.0 e).none

-- where an entry was appended, that of the window's start was
pub entry_pushed : {E : Type 0} (r : Result ℕ E) (old new : List StartEntry) (w : List ℕ) (a reached : ℕ) (next : Option ℕ) (e : StartEntry)
    → ((file : List ℕ) → w ≡ window file a → e ≡ start_entry file a next) → OnOk r (new ≡ old ++ with_mark reached next e ∷ [])
    → OnOk r ((file : List ℕ) → w ≡ window file a → new ≡ old ++ with_mark reached next (start_entry file a next) ∷ [])
entry_pushed (Ok x) old new w a reached next e is p = λ file at. p ∙ ap (λ (z : StartEntry). old ++ with_mark reached next z ∷ []) (is file at)
entry_pushed (Err x) old new w a reached next e is p = p

-- and what the entries reach with it is what they reach with that of the window's start
pub entry_reached : {E : Type 0} (r : Result ℕ E) (w : List ℕ) (a reached : ℕ) (next : Option ℕ) (e : StartEntry)
    → ((file : List ℕ) → w ≡ window file a → e ≡ start_entry file a next) → IfOk r (λ n. n ≡ reached_with reached e)
    → IfOk r (λ n. (file : List ℕ) → w ≡ window file a → n ≡ reached_with reached (start_entry file a next))
entry_reached (Ok x) w a reached next e is p = λ file at. p ∙ ap (reached_with reached) (is file at)
entry_reached (Err x) w a reached next e is p = p
