-- Something of a list passes a test exactly where something is counted by it.
use Rattle.std.proofs.Common.{◌≡◌, ℕ, ◌+◌, Bool, true, false, ltb, List, [], ◌∷◌, refl, sym, ap, ◌∙◌, cond, arith}
use Rattle.std.specs.Prelude.{◌||◌, ◌==◌}
use Rattle.std.specs.List.{list_any, count_by}
use Rattle.std.proofs.lemmas.Bool.Decides.{nat_tests}
use Rattle.patch_report.specs.Values.{BodyValue}
use Rattle.sound_images.specs.Reports.{is_written, times_written, starts_line, times_started, in_run, runs, lines}
pub use Rattle.patch_report.proofs.ListPlaces.{count_cons}

-- an element passes or more than none of the rest are counted, exactly where more than none are counted of all
by_count_step : (b : Bool) (rest : Bool) (n : ℕ) → rest ≡ ltb 0 n → (b || rest) ≡ ltb 0 (cond b 1 0 + n)
by_count_step true rest n h = grind (arith, nat_tests)
by_count_step false rest n h = h ∙ ap (λ z. ltb 0 z) (omega arith)

-- something passes exactly where one at least is counted
pub by_count : {X : Type 0} (p : X → Bool) (xs : List X) → list_any p xs ≡ ltb 0 (count_by p xs)
by_count p [] = refl
by_count p (x ∷ xs) = by_count_step (p x) (list_any p xs) (count_by p xs) (by_count p xs) ∙ ap (λ z. ltb 0 z) (sym (count_cons p x xs))

-- an address is written exactly where it is in one run at least
pub written_by_count : (v : BodyValue) (x : ℕ) → is_written v x ≡ ltb 0 (times_written v x)
written_by_count v x = by_count (in_run x) (runs v)

-- an address is the start of a trampoline exactly where it is that of one at least
pub started_by_count : (v : BodyValue) (x : ℕ) → starts_line v x ≡ ltb 0 (times_started v x)
started_by_count v x = by_count (λ l. l.tramp.start == x) (lines v)
