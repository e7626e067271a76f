-- What the stub's run tells.
use Rattle.std.proofs.Common.{◌≡◌, ◌⊎◌, inl, inr, ℕ, zero, suc, ◌+◌, ◌*◌, ◌<◌, ◌≤◌, List, [], ◌∷◌, ◌++◌, length, map, length-append, append_assoc, Option, None, refl, ap, ◌∙◌, subst, arith}
use Rattle.std.proofs.lemmas.List.{map-append}
use Rattle.insn_form.specs.Machine.{Machine}
use Rattle.loader_form.specs.declared.kernel.MapAnswer.{MapAnswer}
use Rattle.loader_form.specs.declared.kernel.MapAnswer.TheVariants as answer
use Rattle.loader_form.specs.declared.kernel.StubEnd.{StubEnd}
use Rattle.loader_form.specs.declared.kernel.StubEnd.TheVariants as stub
use Rattle.loader_form.specs.Stub.{Stub}
use Rattle.loader_form.specs.Kernel.{Reply, AreReplies, Move, IsRunWith, last_state, last_number, replies_in, MadeInside}
use Rattle.loader_form.specs.Running.{End, AtEntry, AtExit, AtCall, end_by, end_from, stub_end, left_by, left_from, stub_left, EndsSo, Ends, NeverThere}
use Rattle.loader_form.specs.Answers.{answer_of, by_zero, AreAnswers, NeverAt, StandsAt, IsKind, IsEntryInside, StubIsTold}
use Rattle.loader_form.specs.Starting.{IsStart}
use Rattle.loader_form.proofs.StubPaths.{replies_append}
use Rattle.loader_form.proofs.FirstAt.{FirstAt, first_at, no_step_there, ends_elsewhere, front_runs, front_inside}
use Rattle.loader_form.proofs.WholeStubRuns.{stub_runs}

-- answers that the kernel can give make such replies
replies_good : (xs : List MapAnswer) → AreAnswers xs → AreReplies (map by_zero xs)
replies_good [] h = tt
replies_good (x ∷ xs) h = (h.0, replies_good xs h.1)

-- the answers of replies made of answers are those answers
answers_back : (xs : List MapAnswer) → xs ≡ map answer_of (map by_zero xs)
answers_back [] = refl
answers_back (x ∷ xs) = ap (λ (z : List MapAnswer). x ∷ z) (answers_back xs)

-- at a call that waits nothing is left
by_none : (v : MapAnswer) (e : End) (rs later : List Reply) → end_by v e ≡ AtCall → (e ≡ AtCall → later ≡ []) → left_by v rs later ≡ []
by_none (answer.Ok n) e rs later q go = go q
by_none (answer.Failed n) e rs later q go = absurd cc

-- where the stub waits with runs left to map, no reply is left
from_none : (n : ℕ) (rs : List Reply) → end_from n rs ≡ AtCall → left_from n rs ≡ []
from_none n [] q = refl
from_none zero (r ∷ rs) q = absurd cc
from_none (suc n) (r ∷ rs) q = by_none r.answer (end_from n rs) rs (left_from n rs) q (from_none n rs)

-- where the stub waits, no reply is left
left_none : (n : ℕ) (rs : List Reply) → stub_end n rs ≡ AtCall → stub_left n rs ≡ []
left_none n [] q = refl
left_none n (r ∷ rs) q = by_none r.answer (end_from n rs) rs (left_from n rs) q (from_none n rs)

-- no reply leaves anything in r11
abbrev pub AllZero : List Reply → Type 0
AllZero [] = Unit {0}
AllZero (r ∷ rs) = (r.r11 ≡ 0) × AllZero rs

-- replies made of answers leave zero in r11
all_zero : (xs : List MapAnswer) → AllZero (map by_zero xs)
all_zero [] = tt
all_zero (x ∷ xs) = (refl, all_zero xs)

-- where all of two joined lists of replies leave zero in r11, all of the first do
zero_front : (rs qs : List Reply) → AllZero (rs ++ qs) → AllZero rs
zero_front [] qs h = tt
zero_front (r ∷ rs) qs h = (h.0, zero_front rs qs h.1)

-- what is said of the stub's run by a list of answers, and the run itself
pub record Told (file : List ℕ) (b : Stub) (s : Machine) (answers : List MapAnswer) : Type 0 where
  pub end : StubEnd
  pub moves : List Move
  pub run : IsRunWith file None s moves
  pub few : length moves ≤ 36 + 12 * length b.runs
  pub rest : List MapAnswer
  pub taken : answers ≡ map answer_of (replies_in moves) ++ rest
  pub zero : AllZero (replies_in moves)
  pub before : NeverAt b.entry s moves
  pub ends : StandsAt file b.entry rest (last_number None moves) (length moves) (last_state s moves) end
  pub kind : IsKind (stub_end (length b.runs) (map by_zero answers)) end ⊎ IsEntryInside b end

module _ (file : List ℕ) (b : Stub) (s : Machine) (xs : List MapAnswer) where
  abbrev Kind : StubEnd → Type 0
  Kind x = IsKind (stub_end (length b.runs) (map by_zero xs)) x ⊎ IsEntryInside b x

  -- a run that takes a front of the replies, up to where it ends so
  told_by : (x : StubEnd) (moves : List Move) (left : List Reply) → IsRunWith file None s moves → length moves ≤ 36 + 12 * length b.runs
      → map by_zero xs ≡ replies_in moves ++ left → NeverAt b.entry s moves
      → StandsAt file b.entry (map answer_of left) (last_number None moves) (length moves) (last_state s moves) x → Kind x → Told file b s xs
  told_by x moves left run few taken before ends kind = record {
    end = x;
    moves = moves;
    run = run;
    few = few;
    rest = map answer_of left;
    taken = answers_back xs ∙ ap (map answer_of) taken ∙ map-append answer_of (replies_in moves) left;
    zero = zero_front (replies_in moves) left (subst AllZero taken (all_zero xs));
    before = before;
    ends = ends;
    kind = kind;
  }

  -- the first moment at the entry comes before the end to which the answers lead, or is that end
  told_at : (o : Ends file b s (map by_zero xs)) → FirstAt b.entry s o.moves → Told file b s xs
  told_at o f =
      let left = stub_left (length b.runs) (map by_zero xs) in
      let run = subst (λ (z : List Move). IsRunWith file None s z) f.split o.run in
      let inside = subst (λ (z : List Move). MadeInside b.at (b.at + 4096) s z) f.split o.inside in
      let end = subst (λ (z : List Move). EndsSo file b s (stub_end (length b.runs) (map by_zero xs)) (last_number None z) (last_state s z)) f.split o.end in
      let taken = o.taken ∙ ap (λ (z : List Move). replies_in z ++ left) f.split ∙ ap (λ (z : List Reply). z ++ left) (replies_append f.front f.back)
      ∙ append_assoc (replies_in f.front) (replies_in f.back) left in
      let n = ap length f.split ∙ length-append f.front f.back in
      let few = o.few in
      told_by (stub.Entry (length f.front)) f.front (replies_in f.back ++ left) (front_runs file None s f.front f.back run) (omega (arith, n, few)) taken f.before
      (refl, f.there) (by_end (stub_end (length b.runs) (map by_zero xs)) (last_number None (f.front ++ f.back)) inside end)
    where
      within : MadeInside b.at (b.at + 4096) s (f.front ++ f.back) → b.at ≤ (last_state s (f.front ++ f.back)).rip
          → (last_state s (f.front ++ f.back)).rip < b.at + 4096 → (b.at ≤ b.entry) × (b.entry < b.at + 4096)
      within h p q = subst (λ (z : ℕ). (b.at ≤ z) × (z < b.at + 4096)) f.there (front_inside b.at (b.at + 4096) s f.front f.back h p q)

      by_end : (e : End) (k : Option ℕ) → MadeInside b.at (b.at + 4096) s (f.front ++ f.back) → EndsSo file b s e k (last_state s (f.front ++ f.back))
          → IsKind e (stub.Entry (length f.front)) ⊎ IsEntryInside b (stub.Entry (length f.front))
      by_end AtEntry k h end = inl tt
      by_end AtExit k h end = inr (within h end.1 end.2)
      by_end AtCall k h end = inr (within h end.1 end.2)

  -- a run that never stands at the entry ends as the answers lead
  told_whole : (o : Ends file b s (map by_zero xs)) → NeverThere b.entry s o.moves → Told file b s xs
  told_whole o never =
      let rs = map by_zero xs in
      let left = stub_left (length b.runs) rs in
      let w = by_end (stub_end (length b.runs) rs) left (last_number None o.moves) o.end (left_none (length b.runs) rs) in
      told_by w.0 o.moves left o.run o.few o.taken (no_step_there b.entry s o.moves never) w.1 (inl w.2)
    where
      by_end : (e : End) (left : List Reply) (k : Option ℕ) → EndsSo file b s e k (last_state s o.moves) → (e ≡ AtCall → left ≡ [])
          → (x : StubEnd) × StandsAt file b.entry (map answer_of left) k (length o.moves) (last_state s o.moves) x × IsKind e x
      by_end AtEntry left k end none = absurd (ends_elsewhere b.entry s o.moves never end.there)
      by_end AtExit left k end none = (stub.Exit (length o.moves), (refl, end.0, ends_elsewhere b.entry s o.moves never), tt)
      by_end AtCall left k end none =
          (stub.Short (length o.moves), (refl, ap (map answer_of) (none refl), end.0, ends_elsewhere b.entry s o.moves never), tt)

  -- from its start the stub has a run by each list of answers, and this is told of it
  pub told_of : IsStart file b s → AreAnswers xs → Told file b s xs
  told_of st good =
      let o = stub_runs file b s (map by_zero xs) st (replies_good xs good) in
      by_moves o (first_at b.entry s o.moves)
    where
      by_moves : (o : Ends file b s (map by_zero xs)) → FirstAt b.entry s o.moves ⊎ NeverThere b.entry s o.moves → Told file b s xs
      by_moves o (inl first) = told_at o first
      by_moves o (inr never) = told_whole o never

-- each list of answers leads to the end that it tells, or the entry comes before, where it lies in the stub's code
pub stub_told : StubIsTold
stub_told file b s xs st good =
    let o = told_of file b s xs st good in
    record {
      end = o.end;
      last = last_state s o.moves;
      run = record { moves = o.moves; run = o.run; there = refl; rest = o.rest; taken = o.taken; before = o.before; ends = o.ends };
      kind = o.kind;
    }
