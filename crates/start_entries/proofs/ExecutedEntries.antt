-- Each byte of an entry can be executed.
use Rattle.std.proofs.Common.{◌≡◌, ℕ, ◌<◌, ◌≤◌, true, List, [], ◌∷◌, ◌++◌, length, option_to_list, Option, Some, None, Result, Ok, Err, refl, arith, length-append}
use Rattle.std.specs.Prelude.{slice_get}
use Rattle.std.specs.List.{AllByRecursion}
use Rattle.std.specs.List.Sorted.{IsStrictlyIncreasing}
use Rattle.elf_read.specs.Code.{is_exec, window}
use Rattle.elf_read.specs.Refusals.{refusal}
use Rattle.elf_read.proofs.LoadedCode.{window_is_loaded}
use Rattle.length_decode.specs.declared.field_bytes.Stop.{Stop}
use Rattle.length_decode.specs.Rules.{escape_bytes}
use Rattle.length_decode.specs.Spelling.{Fields, spelling, parts_of, BeginsWith}
use Rattle.start_entries.specs.declared.entry.StartEntry.{StartEntry}
use Rattle.start_entries.specs.Entries.{reading_at, reach, entry_by, start_entry, unmarked_of}
use Rattle.start_entries.specs.Refusals.{first_refusal}
use Rattle.start_entries.specs.Laws.{AreStarts, IsExecuted, AllExecuted}
use Rattle.insn_form.proofs.SpelledFronts.{front_within, read_begins}
use Rattle.start_entries.proofs.WindowLengths.{length-window, window_short, backed_some}
use Rattle.start_entries.proofs.AscendingEntries.{increasing_rest}
use Rattle.start_entries.proofs.MarkedEntries.{all_marked}
use Rattle.start_entries.proofs.JudgedStarts.{is_judged, next_above}

-- what is read stands at the front of its window
pub known_begins : (file : List ℕ) (a : ℕ) (f : Fields) → reading_at file a ≡ Ok f → BeginsWith (window file a) (parts_of f)
unfolding reading_at
known_begins file a f e = read_begins (window file a) f (window_short file a) e

-- an instruction has an opcode byte
some_between : (xs ys zs : List ℕ) (b : ℕ) → 1 ≤ length (xs ++ (ys ++ (b ∷ zs)))
some_between xs ys zs b = omega (arith, length-append xs (ys ++ (b ∷ zs)), length-append ys (b ∷ zs))

-- an instruction has a byte at least
pub spelling_some : (f : Fields) → 1 ≤ length (spelling f)
spelling_some f = some_between f.prefixes (escape_bytes f.escape) (option_to_list f.modrm ++ (option_to_list f.sib ++ (f.disp ++ f.imm))) f.opcode

record Bounds (n most : ℕ) : Type 0 where
  some : 1 ≤ n
  most_is : n ≤ most

-- an instruction that begins a window is at least one byte long and at most as long as the window
known_bounds : (file : List ℕ) (a : ℕ) (f : Fields) → BeginsWith (window file a) (parts_of f) → Bounds (length (spelling f)) (length (window file a))
known_bounds file a f b = record { some = spelling_some f; most_is = front_within (window file a) (parts_of f) b }

-- a start of unknown length reaches at least one byte far and at most as far as its window
reach_bounds : (file : List ℕ) (a : ℕ) (next : Option ℕ) → is_exec file a ≡ true → ((n : ℕ) → next ≡ Some n → a < n) → Bounds (reach file a next) (length (window file a))
reach_bounds file a None e h = let w = length-window file a in let s = backed_some file a e in record { some = omega arith; most_is = omega arith }
reach_bounds file a (Some n) e h = let w = length-window file a in let s = backed_some file a e in let l = h n refl in record { some = omega arith; most_is = omega arith }

-- an entry that is at most as long as its window has bytes that can be executed
executed_by : (low : ℕ) (file : List ℕ) (e : StartEntry) → refusal low file ≡ None → Bounds e.len (length (window file e.addr)) → IsExecuted file e
executed_by low file e r b =
    let w = length-window file e.addr in
    record {
      some = b.some;
      most = omega (arith, w, b.most_is);
      executed = λ k l. (window_is_loaded low file e.addr k r (omega (arith, b.most_is, l))).0;
    }

-- the entry by what is read at a start that can be executed is executed
entry_by_reading : (low : ℕ) (file : List ℕ) (a : ℕ) (next : Option ℕ) (t : Result Fields Stop) → refusal low file ≡ None → is_exec file a ≡ true → ((n : ℕ) → next ≡ Some n → a < n) → reading_at file a ≡ t → IsExecuted file (entry_by file a next t)
entry_by_reading low file a next (Ok f) r e h q = executed_by low file (entry_by file a next (Ok f)) r (known_bounds file a f (known_begins file a f q))
entry_by_reading low file a next (Err s) r e h q = executed_by low file (entry_by file a next (Err s)) r (reach_bounds file a next e h)

-- the entry of a start that can be executed is executed
entry_executed : (low : ℕ) (file : List ℕ) (a : ℕ) (next : Option ℕ) → refusal low file ≡ None → is_exec file a ≡ true → ((n : ℕ) → next ≡ Some n → a < n) → IsExecuted file (start_entry file a next)
unfolding start_entry
entry_executed low file a next r e h = entry_by_reading low file a next (reading_at file a) r e h refl

-- the unmarked entries of starts of which none is refused are executed
executed_from : (low : ℕ) (file starts : List ℕ) → refusal low file ≡ None → IsStrictlyIncreasing starts → first_refusal file starts ≡ None → AllByRecursion (IsExecuted file) (unmarked_of file starts)
executed_from low file [] r s h = tt
executed_from low file (a ∷ after) r s h =
    let j = is_judged file a after h in
    (entry_executed low file a (slice_get after 0) r j.exec (λ n e. next_above a after n s e), executed_from low file after r (increasing_rest a after s) j.later)

-- each byte of an entry that isn't marked yet can be executed
pub unmarked_executed : (low : ℕ) (file starts : List ℕ) → AreStarts low file starts → AllByRecursion (IsExecuted file) (unmarked_of file starts)
unmarked_executed low file starts h = executed_from low file starts h.accepted h.ascending h.none

-- each byte of an entry can be executed
pub all_executed : AllExecuted
all_executed low file starts h =
    all_marked (IsExecuted file) (unmarked_of file starts) (unmarked_of file starts)
    (λ e x. record { some = x.some; most = x.most; executed = x.executed }) (unmarked_executed low file starts h)
