-- What each step does to registers, flags and its datum.
use Rattle.std.proofs.Common.{◌≡◌, ◌⊎◌, inl, inr, ℕ, zero, suc, ◌+◌, ◌*◌, ◌-◌, ◌%◌, ◌^◌, ◌<◌, ◌≤◌, Bool, true, false, List, [], ◌∷◌, length, Some, None, cond, refl, sym, ap, ◌∙◌, subst, arith, true≢false}
use Rattle.std.proofs.lemmas.Int.{ints}
use Rattle.std.proofs.lemmas.Bool.{or_parts, or_left, or_right, false_from_ne_true, false≢true}
use Rattle.std.proofs.lemmas.List.{get_or-set_other}
use Rattle.std.specs.Prelude.{if◌then◌else◌, slice_index, slice_set}
use Rattle.std.specs.Int.{cast_signed, w32}
use Rattle.pun_base.specs.Memory.{Bytes}
use Rattle.cpu_alu.specs.declared.operation.Width.TheVariants.{W32, W64}
use Rattle.cpu_alu.specs.declared.operation.AluOp.TheVariants.{Add, Sub, Inc}
use Rattle.cpu_alu.specs.Arithmetic.{arithmetic}
use Rattle.cpu_alu.specs.Sums.{total}
use Rattle.cpu_alu.specs.Sums.Way.{Plus}
use Rattle.cpu_state.specs.declared.state.Core.{Core}
use Rattle.cpu_state.specs.Bytes.{advanced, allows, lacking, number_at, put_list, bytes_of}
use Rattle.cpu_state.proofs.Readback.{bytes_of_length, read_back}
use Rattle.insn_form.specs.Operands.{word_of, reg, with_reg, with_flags, rax, rsp, place}
use Rattle.insn_form.specs.Filling.{integer_of, immediate}
use Rattle.insn_form.specs.Conditions.{is_met}
use Rattle.insn_form.specs.Meaning.{effect}
use Rattle.insn_form.specs.Machine.{Machine}
use Rattle.insn_form.specs.Exactly.{HasOperands}
use Rattle.insn_form.proofs.TaskCopies.{low_word, four_signed}
use Rattle.relocate_insn.specs.Pieces.{four}
use Rattle.relocate_insn.proofs.PieceSteps.{four_word, fixed_place, pushed_word}
use Rattle.event_steps.specs.DoneSteps.{is_one_of, FitsIn, mem_done, Local, datum_held, core_done, is_writing, number_done, done, address, IsLow, AreLow, is_in, AreApart, AreFree, Hold, StandsBy, IsDone, StepsAreDone}
use Rattle.event_steps.specs.declared.step.Place.{Place}
use Rattle.event_steps.specs.declared.step.Datum.{Datum}
use Rattle.event_steps.specs.declared.step.EventStep.{EventStep}
use Rattle.event_steps.specs.EventSteps.{Mode, datum, datum_of, place_in, size, over, form_of, element_of, IsFixedPlace, op_of, IsStep, IsNumber, HasDatum, taken}
use Rattle.event_steps.specs.MadeSteps.{after_step, Can, after}
use Rattle.event_steps.proofs.ByteRanges.{number_on, put_elsewhere, range_first, range_rest}
use Rattle.event_steps.specs.declared.step.Place.TheVariants.{At, Below}
use Rattle.event_steps.specs.declared.step.EventStep.TheVariants.{Cover, CountUp, Store, Load, StoreLow, LoadLow, Keep, Give, Raise, IntoAh, IntoAl, FromAl, FromAh, Compare, CompareAt, SetLow, NextLow, CompareLow, Reduce, Put, Claim, SkipIf}

-- so many bytes below: the four bytes of the displacement are that much less than nothing
below_word : (d : ℕ) → 0 < d → d ≤ 2 ^ 31 → word_of (integer_of (four (2 ^ 32 - d))) ≡ 2 ^ 64 - d
below_word d h k = ap word_of (four_signed (2 ^ 32 - d) (omega arith)) ∙ high (low_word (2 ^ 32 - d) (omega arith))
  where
    high : ((2 ^ 32 - d < 2 ^ 31) × (word_of (cast_signed w32 (2 ^ 32 - d)) ≡ 2 ^ 32 - d)) ⊎ ((2 ^ 31 ≤ 2 ^ 32 - d) × (word_of (cast_signed w32 (2 ^ 32 - d)) ≡ 2 ^ 32 - d + (2 ^ 64 - 2 ^ 32)))
        → word_of (cast_signed w32 (2 ^ 32 - d)) ≡ 2 ^ 64 - d
    high (inl q) = absurd (omega (arith, q.0))
    high (inr q) = q.1 ∙ omega arith

-- a datum's operand stands at its address
pub form_place : (p : Place) (n : ℕ) (c : Core) → IsLow p n → place c (form_of p) ≡ address p c
form_place (At a) n c h = fixed_place c a (omega (arith, h))
form_place (Below d) n c h = ap (λ w. ((reg c 4 + 0 * 1 + w) % 2 ^ 64 + 0) % 2 ^ 64) (below_word d h.0 h.1) ∙ cut_once (reg c 4)
  where
    cut_once : (x : ℕ) → ((x + 0 * 1 + (2 ^ 64 - d)) % 2 ^ 64 + 0) % 2 ^ 64 ≡ (x + (2 ^ 64 - d)) % 2 ^ 64
    cut_once x = omega arith

pub low_address : (p : Place) (n : ℕ) (c : Core) → IsLow p n → address p c < 2 ^ 64
low_address (At a) n c h = omega (arith, h)
low_address (Below d) n c h = omega arith

-- the datum of a step, among others
pub datum_free : (ds : List Datum) (k : ℕ) (c : Core) (m : Bytes) → AreFree ds c m → k < length ds
    → ((datum ds k).number ≡ true → lacking 4 m (address (datum ds k).place c) (datum ds k).size ≡ None) × (lacking 2 m (address (datum ds k).place c) (datum ds k).size ≡ None)
datum_free [] k c m h l = absurd (omega (arith, l))
datum_free (d ∷ ds) zero c m h l = (h.0, h.1)
datum_free (d ∷ ds) (suc k) c m h l = datum_free ds k c m h.2 (omega (arith, l))

pub datum_out : (ds : List Datum) (k : ℕ) (c : Core) (x : ℕ) → k < length ds → is_in ds c x ≡ false → is_one_of (address (datum ds k).place c) (datum ds k).size x ≡ false
datum_out [] k c x l h = absurd (omega (arith, l))
datum_out (d ∷ ds) zero c x l h = (or_parts (is_one_of (address d.place c) d.size x) (is_in ds c x) h).0
datum_out (d ∷ ds) (suc k) c x l h = datum_out ds k c x (omega (arith, l)) (or_parts (is_one_of (address d.place c) d.size x) (is_in ds c x) h).1

pub datum_holds : (ds : List Datum) (k : ℕ) (c : Core) (m : Bytes) (xs : List ℕ) → Hold ds c m xs → k < length ds → (datum ds k).number ≡ true → number_at m (address (datum ds k).place c) (datum ds k).size ≡ slice_index xs k
datum_holds [] k c m xs h l n = absurd (omega (arith, l))
datum_holds (d ∷ ds) k c m [] h l n = absurd h
datum_holds (d ∷ ds) zero c m (x ∷ xs) h l n = h.0 n
datum_holds (d ∷ ds) (suc k) c m (x ∷ xs) h l n = datum_holds ds k c m xs h.1 (omega (arith, l)) n

-- where their bytes stay they hold what they held
pub hold_on : (ds : List Datum) (c : Core) (m w : Bytes) (xs : List ℕ) → ((x : ℕ) → is_in ds c x ≡ true → w x ≡ m x) → Hold ds c m xs → Hold ds c w xs
hold_on [] c m w xs e h = h
hold_on (d ∷ ds) c m w [] e h = h
hold_on (d ∷ ds) c m w (x ∷ xs) e h = (
  λ n. number_on m w (address d.place c) d.size (λ y k. e y (or_left (is_one_of (address d.place c) d.size y) (is_in ds c y) k)) ∙ h.0 n,
  hold_on ds c m w xs (λ y k. e y (or_right (is_one_of (address d.place c) d.size y) (is_in ds c y) k)) h.1,
)

-- a number that is put at a datum is held there, and the others hold what they held
pub hold_put : (ds : List Datum) (c : Core) (m : Bytes) (xs : List ℕ) (k v : ℕ) → AreApart ds c → lacking 2 m (address (datum ds k).place c) (datum ds k).size ≡ None → AreLow ds → Hold ds c m xs → k < length ds
    → (datum ds k).size ≤ 8
    → Hold ds c (put_list m (address (datum ds k).place c) (bytes_of (datum ds k).size v)) (slice_set xs k (v % 2 ^ (8 * (datum ds k).size)))
hold_put [] c m xs k v a f l h n z = absurd (omega (arith, n))
hold_put (d ∷ ds) c m [] k v a f l h n z = absurd h
hold_put (d ∷ ds) c m (x ∷ xs) zero v a f l h n z = (
  λ t. read_back m 2 (address d.place c) d.size v (low_address d.place d.size c l.0) z f,
  hold_on ds c m (put_list m (address d.place c) (bytes_of d.size v)) xs
      (λ y k. put_elsewhere m (address d.place c) d.size (bytes_of d.size v) y (bytes_of_length d.size v) (false_from_ne_true _ (λ e. true≢false (sym k ∙ a.0 y e)))) h.1,
)
hold_put (d ∷ ds) c m (x ∷ xs) (suc k) v a f l h n z = (
  λ t. number_on m (put_list m (address (datum ds k).place c) (bytes_of (datum ds k).size v)) (address d.place c) d.size
      (λ y i. put_elsewhere m (address (datum ds k).place c) (datum ds k).size (bytes_of (datum ds k).size v) y (bytes_of_length (datum ds k).size v)
      (datum_out ds k c y (omega (arith, n)) (a.0 y i)))
      ∙ h.0 t,
  hold_put ds c m xs k v a.1 f l.1 h.1 (omega (arith, n)) z,
)

-- with equal stack pointers a datum is at one address
pub same_address : (p : Place) (c d : Core) → reg c rsp ≡ reg d rsp → address p c ≡ address p d
same_address (At a) c d e = refl
same_address (Below b) c d e = ap (λ x. (x + (2 ^ 64 - b)) % 2 ^ 64) e

-- each datum that is named lies low, and where none is there the one that is taken for it
pub any_low : (ds : List Datum) (k : ℕ) → AreLow ds → IsLow (datum ds k).place (datum ds k).size
any_low [] k h = omega arith
any_low (d ∷ ds) zero h = h.0
any_low (d ∷ ds) (suc k) h = any_low ds k h.1

at_place : (ds : List Datum) (k : ℕ) (c d : Core) → AreLow ds → reg c rsp ≡ reg d rsp → place c (form_of (datum ds k).place) ≡ address (datum ds k).place d
at_place ds k c d l e = form_place (datum ds k).place (datum ds k).size c (any_low ds k l) ∙ same_address (datum ds k).place c d e

free_of : (ds : List Datum) (k n : ℕ) (c : Core) (m : Bytes) → AreFree ds c m → IsNumber ds k n
    → (lacking 4 m (address (datum ds k).place c) n ≡ None) × (lacking 2 m (address (datum ds k).place c) n ≡ None)
free_of ds k n c m f h = subst (λ z. (lacking 4 m (address (datum ds k).place c) z ≡ None) × (lacking 2 m (address (datum ds k).place c) z ≡ None)) h.1 (let q = datum_free ds k c m f h.0 in (q.0 h.2, q.1))

held_of : (ds : List Datum) (k n : ℕ) (c : Core) (m : Bytes) (xs : List ℕ) → Hold ds c m xs → IsNumber ds k n → number_at m (address (datum ds k).place c) n ≡ slice_index xs k
held_of ds k n c m xs f h = subst (λ z. number_at m (address (datum ds k).place c) z ≡ slice_index xs k) h.1 (datum_holds ds k c m xs f h.0 h.2)

-- ---- one step

-- numbers that are cut twice
twice : (x : ℕ) → x % 2 ^ 64 % 2 ^ 64 ≡ x % 2 ^ 64
twice x = omega arith

twice_low : (x : ℕ) → x % 2 ^ 32 % 2 ^ 32 ≡ x % 2 ^ 32
twice_low x = omega arith

thrice : (x : ℕ) → x % 2 ^ 64 % 2 ^ 64 % 2 ^ 64 ≡ x % 2 ^ 64
thrice x = omega arith

raised : (x : ℕ) → (x + 0 * 1 + 1) % 2 ^ 64 % 2 ^ 64 ≡ (x + 1) % 2 ^ 64
raised x = omega arith

one_more : (v : ℕ) → total Plus W64 (v % 2 ^ 64 % 2 ^ 64) 1 false ≡ (v + 1) % 2 ^ 64
unfolding total
one_more v = grind (arith, ints)

low_number : (n : ℕ) → n < 2 ^ 31 → immediate W32 (four n) % 2 ^ 32 % 2 ^ 32 ≡ n
low_number n h = ap (λ z. z % 2 ^ 32 % 2 ^ 32 % 2 ^ 32) (four_word n h) ∙ (let e : n % 2 ^ 32 % 2 ^ 32 % 2 ^ 32 ≡ n = omega arith in e)

low_immediate : (n : ℕ) → n < 2 ^ 31 → immediate W32 (four n) % 2 ^ 32 ≡ n
low_immediate n h = ap (λ z. z % 2 ^ 32 % 2 ^ 32) (four_word n h) ∙ (let e : n % 2 ^ 32 % 2 ^ 32 ≡ n = omega arith in e)

raised_low : (x : ℕ) → (x + 0 * 1 + 1) % 2 ^ 64 % 2 ^ 32 ≡ (x + 1) % 2 ^ 32
raised_low x = omega arith

wide_low : (x : ℕ) → x % 2 ^ 16 % 2 ^ 32 ≡ x % 2 ^ 16
wide_low x = omega arith

byte_low : (x : ℕ) → x % 2 ^ 8 % 2 ^ 32 ≡ x % 2 ^ 8
byte_low x = omega arith

sum_low : (x y : ℕ) → total Plus W32 (x % 2 ^ 32 % 2 ^ 32) (y % 2 ^ 32 % 2 ^ 32) false ≡ (x + y) % 2 ^ 32
unfolding total
sum_low x y = grind (arith, ints)

-- registers and flags after a step, by what its datum holds
pub core_is : (mode : Mode) (s : EventStep) (p : Place) (n d next : ℕ) (v : Machine) → IsStep mode p s → IsLow p n
    → (after_step s p d next v).core ≡ core_done s (number_at v.mem (address p v.core) (taken s)) v.core
unfolding effect
core_is mode (Cover k) p n d next v h l = refl
core_is mode (CountUp b k) p n d next v h l =
    let e = form_place p n v.core l in
    ap (λ a. with_flags v.core (arithmetic Inc W64 (number_at v.mem a 8 % 2 ^ 64) 1 v.core.flags).flags) e
core_is mode (Store k) p n d next v h l = refl
core_is mode (Load k) p n d next v h l =
    let e = form_place p n v.core l in
    ap (λ a. with_reg v.core rax (number_at v.mem a 8 % 2 ^ 64 % 2 ^ 64)) e ∙ ap (with_reg v.core rax) (twice (number_at v.mem (address p v.core) 8))
core_is mode (StoreLow k) p n d next v h l = refl
core_is mode (LoadLow k) p n d next v h l =
    let e = form_place p n v.core l in
    ap (λ a. with_reg v.core rax (number_at v.mem a 4 % 2 ^ 32 % 2 ^ 32)) e ∙ ap (with_reg v.core rax) (twice_low (number_at v.mem (address p v.core) 4))
core_is mode (Keep r) p n d next v h l = ap (with_reg v.core r) (twice (reg v.core rax))
core_is mode (Give r) p n d next v h l = ap (with_reg v.core rax) (twice (reg v.core r))
core_is mode Raise p n d next v h l = ap (with_reg v.core rax) (raised (reg v.core rax))
core_is mode (SetLow i) p n d next v h l = ap (with_reg v.core rax) (low_number i h)
core_is mode NextLow p n d next v h l = ap (with_reg v.core rax) (raised_low (reg v.core rax))
core_is mode (CompareLow i) p n d next v h l = ap (λ z. with_flags v.core (arithmetic Sub W32 (reg v.core rax % 2 ^ 32) z v.core.flags).flags) (low_immediate i h)
core_is mode (Reduce true) p n d next v h l = ap (with_reg v.core rax) (wide_low (reg v.core rax))
core_is mode (Reduce false) p n d next v h l = ap (with_reg v.core rax) (byte_low (reg v.core rax))
core_is mode (Put k i) p n d next v h l = refl
core_is mode (Claim k) p n d next v h l =
    let e = form_place p n v.core l in
    let a = address p v.core in
    (λ j. with_reg (with_flags v.core (arithmetic Add W32 (number_at v.mem (e j) 4 % 2 ^ 32) (reg v.core rax % 2 ^ 32) v.core.flags).flags) rax (number_at v.mem (e j) 4 % 2 ^ 32))
core_is mode IntoAh p n d next v h l = refl
core_is mode IntoAl p n d next v h l = refl
core_is mode FromAl p n d next v h l = refl
core_is mode FromAh p n d next v h l = refl
core_is mode (Compare r i) p n d next v h l = ap (λ z. with_flags v.core (arithmetic Sub W64 (reg v.core r % 2 ^ 64) z v.core.flags).flags) (pushed_word i h.1)
core_is mode (CompareAt k i) p n d next v h l =
    let e = form_place p n v.core l in
    let q = pushed_word i h in
    λ j. with_flags v.core (arithmetic Sub W64 (number_at v.mem (e j) 8 % 2 ^ 64) (q j) v.core.flags).flags
core_is mode (SkipIf cc k) p n d next v h l = refl

-- a step that puts a number into an array
abbrev pub is_putting : EventStep → Bool
is_putting (Put k i) = true
is_putting s = false

-- memory after it, where it doesn't
pub mem_is : (mode : Mode) (s : EventStep) (p : Place) (n d next : ℕ) (v : Machine) → is_putting s ≡ false → IsStep mode p s → IsLow p n
    → (after_step s p d next v).mem ≡ (if is_writing s then put_list v.mem (address p v.core) (bytes_of (taken s) (number_done s (number_at v.mem (address p v.core) (taken s)) v.core)) else v.mem)
unfolding effect
mem_is mode (Cover k) p n d next v o h l = ap (λ a. put_list v.mem a (1 ∷ [])) (form_place p n v.core l)
mem_is mode (CountUp b k) p n d next v o h l =
    let e = form_place p n v.core l in
    ap (λ a. put_list v.mem a (bytes_of 8 (total Plus W64 (number_at v.mem a 8 % 2 ^ 64 % 2 ^ 64) 1 false))) e
    ∙ ap (λ z. put_list v.mem (address p v.core) (bytes_of 8 z)) (one_more (number_at v.mem (address p v.core) 8))
mem_is mode (Store k) p n d next v o h l = ap (λ a. put_list v.mem a (bytes_of 8 (reg v.core rax % 2 ^ 64))) (form_place p n v.core l)
mem_is mode (StoreLow k) p n d next v o h l = ap (λ a. put_list v.mem a (bytes_of 4 (reg v.core rax % 2 ^ 32))) (form_place p n v.core l)
mem_is mode (Claim k) p n d next v o h l =
    let e = form_place p n v.core l in
    ap (λ a. put_list v.mem a (bytes_of 4 (total Plus W32 (number_at v.mem a 4 % 2 ^ 32 % 2 ^ 32) (reg v.core rax % 2 ^ 32 % 2 ^ 32) false))) e
    ∙ ap (λ z. put_list v.mem (address p v.core) (bytes_of 4 z)) (sum_low (number_at v.mem (address p v.core) 4) (reg v.core rax))
mem_is mode (Reduce true) p n d next v o h l = refl
mem_is mode (Reduce false) p n d next v o h l = refl
mem_is mode (Put k i) p n d next v o h l = absurd (true≢false o)
mem_is mode s p n d next v o h l = refl

-- its operands are those of its datum
pub can_is : (s : EventStep) (ds : List Datum) (d next : ℕ) (c : Core) (v : Machine) → is_putting s ≡ false → HasDatum ds s → AreLow ds → AreFree ds c v.mem → reg v.core rsp ≡ reg c rsp
    → HasOperands v next (op_of s (place_in ds s) d next)
unfolding effect
can_is (Cover k) ds d next c v o h l f e =
    let a = at_place ds k v.core c l e in let q = free_of ds k 1 c v.mem f h in
    record { read = refl; write = ap (λ a. lacking 2 v.mem a 1) a ∙ q.1 }
can_is (CountUp b k) ds d next c v o h l f e =
    let a = at_place ds k v.core c l e in let q = free_of ds k 8 c v.mem f h in
    record { read = ap (λ a. lacking 4 v.mem a 8) a ∙ q.0; write = ap (λ a. lacking 2 v.mem a 8) a ∙ q.1 }
can_is (Store k) ds d next c v o h l f e =
    let a = at_place ds k v.core c l e in let q = free_of ds k 8 c v.mem f h in
    record { read = refl; write = ap (λ a. lacking 2 v.mem a 8) a ∙ q.1 }
can_is (Load k) ds d next c v o h l f e =
    let a = at_place ds k v.core c l e in let q = free_of ds k 8 c v.mem f h in
    record { read = ap (λ a. lacking 4 v.mem a 8) a ∙ q.0; write = refl }
can_is (StoreLow k) ds d next c v o h l f e =
    let a = at_place ds k v.core c l e in let q = free_of ds k 4 c v.mem f h in
    record { read = refl; write = ap (λ a. lacking 2 v.mem a 4) a ∙ q.1 }
can_is (LoadLow k) ds d next c v o h l f e =
    let a = at_place ds k v.core c l e in let q = free_of ds k 4 c v.mem f h in
    record { read = ap (λ a. lacking 4 v.mem a 4) a ∙ q.0; write = refl }
can_is (CompareAt k i) ds d next c v o h l f e =
    let a = at_place ds k v.core c l e in let q = free_of ds k 8 c v.mem f h in
    record { read = ap (λ a. lacking 4 v.mem a 8) a ∙ q.0; write = refl }
can_is (Claim k) ds d next c v o h l f e =
    let a = at_place ds k v.core c l e in let q = free_of ds k 4 c v.mem f h in
    record { read = ap (λ a. lacking 4 v.mem a 4) a ∙ q.0; write = ap (λ a. lacking 2 v.mem a 4) a ∙ q.1 }
can_is (Reduce true) ds d next c v o h l f e = record { read = refl; write = refl }
can_is (Reduce false) ds d next c v o h l f e = record { read = refl; write = refl }
can_is (Put k i) ds d next c v o h l f e = absurd (true≢false o)
can_is s ds d next c v o h l f e = record { read = refl; write = refl }

-- where it has its operands, what it writes can be written
can_write : (s : EventStep) (ds : List Datum) (d next : ℕ) (c : Core) (v : Machine) → AreLow ds → reg v.core rsp ≡ reg c rsp → HasOperands v next (op_of s (place_in ds s) d next) → is_writing s ≡ true
    → lacking 2 v.mem (address (place_in ds s) c) (taken s) ≡ None
unfolding effect
can_write (Cover k) ds d next c v l e o w = ap (λ a. lacking 2 v.mem a 1) (sym (at_place ds k v.core c l e)) ∙ o.write
can_write (CountUp b k) ds d next c v l e o w = ap (λ a. lacking 2 v.mem a 8) (sym (at_place ds k v.core c l e)) ∙ o.write
can_write (Store k) ds d next c v l e o w = ap (λ a. lacking 2 v.mem a 8) (sym (at_place ds k v.core c l e)) ∙ o.write
can_write (StoreLow k) ds d next c v l e o w = ap (λ a. lacking 2 v.mem a 4) (sym (at_place ds k v.core c l e)) ∙ o.write
can_write (Claim k) ds d next c v l e o w = ap (λ a. lacking 2 v.mem a 4) (sym (at_place ds k v.core c l e)) ∙ o.write
can_write s ds d next c v l e o w = absurd (false≢true w)

-- rsp stays
pub stack_stays : (mode : Mode) (s : EventStep) (p : Place) (x : ℕ) (c : Core) → IsStep mode p s → reg (core_done s x c) rsp ≡ reg c rsp
unfolding effect is_met
stack_stays mode (Load k) p x c h = get_or-set_other c.regs 0 4 _ 0 (λ e. absurd cc)
stack_stays mode (LoadLow k) p x c h = get_or-set_other c.regs 0 4 _ 0 (λ e. absurd cc)
stack_stays mode (Keep r) p x c h = get_or-set_other c.regs r 4 _ 0 (λ e. h.1 (sym e))
stack_stays mode (Give r) p x c h = get_or-set_other c.regs 0 4 _ 0 (λ e. absurd cc)
stack_stays mode Raise p x c h = get_or-set_other c.regs 0 4 _ 0 (λ e. absurd cc)
stack_stays mode (SetLow i) p x c h = get_or-set_other c.regs 0 4 _ 0 (λ e. absurd cc)
stack_stays mode NextLow p x c h = get_or-set_other c.regs 0 4 _ 0 (λ e. absurd cc)
stack_stays mode (Reduce true) p x c h = get_or-set_other c.regs 0 4 _ 0 (λ e. absurd cc)
stack_stays mode (Reduce false) p x c h = get_or-set_other c.regs 0 4 _ 0 (λ e. absurd cc)
stack_stays mode (Claim k) p x c h = get_or-set_other c.regs 0 4 _ 0 (λ e. absurd cc)
stack_stays mode IntoAh p x c h = get_or-set_other c.regs 0 4 _ 0 (λ e. absurd cc)
stack_stays mode IntoAl p x c h = get_or-set_other c.regs 0 4 _ 0 (λ e. absurd cc)
stack_stays mode FromAl p x c h = get_or-set_other c.regs 0 4 _ 0 (λ e. absurd cc)
stack_stays mode FromAh p x c h = refl
stack_stays mode s p x c h = refl

-- ---- a step and its datum

-- what it makes of the number that its datum holds
same_core : (ds : List Datum) (s : EventStep) (c d : Core) (m : Bytes) (l : Local) → HasDatum ds s → Hold ds c m l.held
    → core_done s (number_at m (address (place_in ds s) c) (taken s)) d ≡ core_done s (datum_held s l) d
same_core ds (CountUp b k) c d m l h f = ap (λ x. core_done (CountUp b k) x d) (held_of ds k 8 c m l.held f h)
same_core ds (Load k) c d m l h f = ap (λ x. core_done (Load k) x d) (held_of ds k 8 c m l.held f h)
same_core ds (LoadLow k) c d m l h f = ap (λ x. core_done (LoadLow k) x d) (held_of ds k 4 c m l.held f h)
same_core ds (CompareAt k i) c d m l h f = ap (λ x. core_done (CompareAt k i) x d) (held_of ds k 8 c m l.held f h)
same_core ds (Claim k) c d m l h f = ap (λ x. core_done (Claim k) x d) (held_of ds k 4 c m l.held f h)
same_core ds (Reduce true) c d m l h f = refl
same_core ds (Reduce false) c d m l h f = refl
same_core ds s c d m l h f = refl

same_number : (ds : List Datum) (s : EventStep) (c d : Core) (m : Bytes) (l : Local) → HasDatum ds s → Hold ds c m l.held
    → number_done s (number_at m (address (place_in ds s) c) (taken s)) d ≡ number_done s (datum_held s l) d
same_number ds (CountUp b k) c d m l h f = ap (λ x. number_done (CountUp b k) x d) (held_of ds k 8 c m l.held f h)
same_number ds (Claim k) c d m l h f = ap (λ x. number_done (Claim k) x d) (held_of ds k 4 c m l.held f h)
same_number ds s c d m l h f = refl

-- the number fits
number_fits : (s : EventStep) (x : ℕ) (c : Core) → number_done s x c % 2 ^ (8 * taken s) ≡ number_done s x c
number_fits (CountUp b k) x c = twice (x + 1)
number_fits (Store k) x c = twice (reg c rax)
number_fits (StoreLow k) x c = twice_low (reg c rax)
number_fits (Claim k) x c = twice_low (x + reg c rax)
number_fits s x c = refl

-- its datum holds it, and the others hold what they held
hold_number : (ds : List Datum) (c : Core) (m : Bytes) (xs : List ℕ) (k n y : ℕ) → IsNumber ds k n → n ≤ 8 → AreApart ds c → lacking 2 m (address (datum ds k).place c) n ≡ None → AreLow ds → Hold ds c m xs
    → y % 2 ^ (8 * n) ≡ y → Hold ds c (put_list m (address (datum ds k).place c) (bytes_of n y)) (slice_set xs k y)
hold_number ds c m xs k n y h few a f l b e =
    let q = h.1 in
    let g = subst (λ z. lacking 2 m (address (datum ds k).place c) z ≡ None) (sym q) f in
    subst (λ z. Hold ds c (put_list m (address (datum ds k).place c) (bytes_of n y)) (slice_set xs k z)) e
    (subst (λ z. Hold ds c (put_list m (address (datum ds k).place c) (bytes_of z y)) (slice_set xs k (y % 2 ^ (8 * z)))) q (hold_put ds c m xs k y a g l b h.0 (omega (arith, q, few))))

hold_done : (ds : List Datum) (c : Core) (m : Bytes) (xs : List ℕ) (s : EventStep) (y : ℕ) → HasDatum ds s → AreApart ds c
    → (is_writing s ≡ true → lacking 2 m (address (place_in ds s) c) (taken s) ≡ None) → AreLow ds → Hold ds c m xs → y % 2 ^ (8 * taken s) ≡ y
    → Hold ds c (if is_writing s then put_list m (address (place_in ds s) c) (bytes_of (taken s) y) else m) (if is_writing s then slice_set xs (datum_of s) y else xs)
hold_done ds c m xs (Cover k) y h a f l b e = hold_number ds c m xs k 1 y h (omega arith) a (f refl) l b e
hold_done ds c m xs (CountUp t k) y h a f l b e = hold_number ds c m xs k 8 y h (omega arith) a (f refl) l b e
hold_done ds c m xs (Store k) y h a f l b e = hold_number ds c m xs k 8 y h (omega arith) a (f refl) l b e
hold_done ds c m xs (StoreLow k) y h a f l b e = hold_number ds c m xs k 4 y h (omega arith) a (f refl) l b e
hold_done ds c m xs (Claim k) y h a f l b e = hold_number ds c m xs k 4 y h (omega arith) a (f refl) l b e
hold_done ds c m xs s y h a f l b e = b

-- each other byte stays
out_of : (ds : List Datum) (k n : ℕ) (c : Core) (x : ℕ) → IsNumber ds k n → is_in ds c x ≡ false → is_one_of (address (datum ds k).place c) n x ≡ false
out_of ds k n c x h o = subst (λ z. is_one_of (address (datum ds k).place c) z x ≡ false) h.1 (datum_out ds k c x h.0 o)

kept_done : (ds : List Datum) (c : Core) (m : Bytes) (s : EventStep) (y x : ℕ) → HasDatum ds s → is_in ds c x ≡ false
    → (if is_writing s then put_list m (address (place_in ds s) c) (bytes_of (taken s) y) else m) x ≡ m x
kept_done ds c m (Cover k) y x h o = put_elsewhere m (address (datum ds k).place c) 1 (bytes_of 1 y) x (bytes_of_length 1 y) (out_of ds k 1 c x h o)
kept_done ds c m (CountUp b k) y x h o = put_elsewhere m (address (datum ds k).place c) 8 (bytes_of 8 y) x (bytes_of_length 8 y) (out_of ds k 8 c x h o)
kept_done ds c m (Store k) y x h o = put_elsewhere m (address (datum ds k).place c) 8 (bytes_of 8 y) x (bytes_of_length 8 y) (out_of ds k 8 c x h o)
kept_done ds c m (StoreLow k) y x h o = put_elsewhere m (address (datum ds k).place c) 4 (bytes_of 4 y) x (bytes_of_length 4 y) (out_of ds k 4 c x h o)
kept_done ds c m (Claim k) y x h o = put_elsewhere m (address (datum ds k).place c) 4 (bytes_of 4 y) x (bytes_of_length 4 y) (out_of ds k 4 c x h o)
kept_done ds c m s y x h o = refl

-- ---- an element of an array

-- a part of bytes that can be written can be written
part_free : (p : ℕ) (m : Bytes) (a n k : ℕ) → k ≤ n → lacking p m a n ≡ None → lacking p m a k ≡ None
part_free p m a n zero l h = refl
part_free p m a zero (suc k) l h = absurd (omega (arith, l))
part_free p m a (suc n) (suc k) l h = by_test (allows p (m a)) (part_free p m (advanced a 1) n k (omega (arith, l))) h
  where
    by_test : (b : Bool) → (lacking p m (advanced a 1) n ≡ None → lacking p m (advanced a 1) k ≡ None) → cond b (lacking p m (advanced a 1) n) (Some a) ≡ None → cond b (lacking p m (advanced a 1) k) (Some a) ≡ None
    by_test true go e = go e
    by_test false go e = absurd cc

inner_free : (p : ℕ) (m : Bytes) (a n j k : ℕ) → j + k ≤ n → a + n < 2 ^ 64 → lacking p m a n ≡ None → lacking p m (a + j) k ≡ None
inner_free p m a n zero k l low h = let e : a ≡ a + 0 = omega arith in subst (λ z. lacking p m z k ≡ None) e (part_free p m a n k (omega (arith, l)) h)
inner_free p m a zero (suc j) k l low h = absurd (omega (arith, l))
inner_free p m a (suc n) (suc j) k l low h =
    let e : a + 1 + j ≡ a + suc j = omega arith in
    let b : advanced a 1 ≡ a + 1 = omega (arith, low) in
    subst (λ z. lacking p m z k ≡ None) e
    (inner_free p m (a + 1) n j k (omega (arith, l)) (omega (arith, low)) (by_test (allows p (m a)) (λ q. subst (λ z. lacking p m z n ≡ None) b q) h))
  where
    by_test : (b : Bool) → (lacking p m (advanced a 1) n ≡ None → lacking p m (a + 1) n ≡ None) → cond b (lacking p m (advanced a 1) n) (Some a) ≡ None → lacking p m (a + 1) n ≡ None
    by_test true go e = go e
    by_test false go e = absurd cc

-- what isn't one of a range's bytes is none of a part of it
part_out : (a n j k x : ℕ) → j + k ≤ n → a + n < 2 ^ 64 → is_one_of a n x ≡ false → is_one_of (a + j) k x ≡ false
part_out a n j k x l low h = false_from_ne_true (is_one_of (a + j) k x) (λ e.
    let b : a + j ≡ (a + j) % 2 ^ 64 = omega (arith, l, low) in
    let q = range_rest a j k x (omega (arith, low)) (subst (λ z. is_one_of z k x ≡ true) b e) in
    let d : j + k + (n - (j + k)) ≡ n = omega (arith, l) in
    true≢false (sym (subst (λ z. is_one_of a z x ≡ true) d (range_first a (j + k) (n - (j + k)) x q)) ∙ h))

-- where each byte but an array's stays, numbers are held
hold_filled : (ds : List Datum) (c : Core) (m w : Bytes) (xs : List ℕ) (k : ℕ) → AreApart ds c → k < length ds → (datum ds k).number ≡ false
    → ((x : ℕ) → is_one_of (address (datum ds k).place c) (datum ds k).size x ≡ false → w x ≡ m x) → Hold ds c m xs → Hold ds c w xs
hold_filled [] c m w xs k a n z e h = absurd (omega (arith, n))
hold_filled (d ∷ ds) c m w [] k a n z e h = absurd h
hold_filled (d ∷ ds) c m w (x ∷ xs) zero a n z e h =
    ((λ t. absurd (true≢false (sym t ∙ z))), hold_on ds c m w xs (λ y i. e y (false_from_ne_true _ (λ o. true≢false (sym i ∙ a.0 y o)))) h.1)
hold_filled (d ∷ ds) c m w (x ∷ xs) (suc k) a n z e h = (
  (λ t. number_on m w (address d.place c) d.size (λ y i. e y (datum_out ds k c y (omega (arith, n)) (a.0 y i))) ∙ h.0 t),
  hold_filled ds c m w xs k a.1 (omega (arith, n)) z e h.1,
)

-- the place of an element
element_place : (a n : ℕ) (c : Core) → a + n ≤ 0x7FFF0000 → 4 * reg c rax + 4 ≤ n → place c (element_of (At a)) ≡ a + 4 * reg c rax
element_place a n c h l = ap (λ w. ((0 + reg c rax * 4 + w) % 2 ^ 64 + 0) % 2 ^ 64) (four_word a (omega (arith, h, l)))
    ∙ (let e : ((0 + reg c rax * 4 + a) % 2 ^ 64 + 0) % 2 ^ 64 ≡ a + 4 * reg c rax = omega (arith, h, l) in e)

-- the element that it is put into
element_at : (ds : List Datum) (k a : ℕ) (c : Core) (l : Local) (v : Machine) → (datum ds k).place ≡ At a → AreLow ds → 4 * reg l.core rax + 4 ≤ (datum ds k).size → v.core ≡ l.core
    → (a + (datum ds k).size ≤ 0x7FFF0000) × (place v.core (element_of (At a)) ≡ a + 4 * reg l.core rax)
element_at ds k a c l v e low fits b =
    let n = (datum ds k).size in
    let lw : a + n ≤ 0x7FFF0000 = subst (λ (p : Place). IsLow p n) e (any_low ds k low) in
    let same : reg v.core rax ≡ reg l.core rax = ap (λ (z : Core). reg z rax) b in
    (lw, element_place a n v.core lw (omega (arith, same, fits)) ∙ ap (λ z. a + 4 * z) same)

-- it can be written where the array can be
put_can : (ds : List Datum) (c : Core) (k i d next : ℕ) (l : Local) (v : Machine) → IsFixedPlace (datum ds k).place → k < length ds → AreLow ds → AreFree ds c v.mem → 4 * reg l.core rax + 4 ≤ (datum ds k).size
    → v.core ≡ l.core → HasOperands v next (op_of (Put k i) (datum ds k).place d next)
unfolding effect
put_can ds c k i d next l v at has low free fits b = by_place (datum ds k).place refl at
  where
    by_place : (p : Place) → (datum ds k).place ≡ p → IsFixedPlace p → HasOperands v next (op_of (Put k i) (datum ds k).place d next)
    by_place (Below q) e t = absurd t
    by_place (At a) e t =
        let n = (datum ds k).size in
        let x = element_at ds k a c l v e low fits b in
        let lw = x.0 in
        let f = subst (λ (p : Place). lacking 2 v.mem (address p c) n ≡ None) e (datum_free ds k c v.mem free has).1 in
        subst (λ (p : Place). HasOperands v next (op_of (Put k i) p d next)) (sym e)
        (record { read = refl; write = ap (λ z. lacking 2 v.mem z 4) x.1 ∙ inner_free 2 v.mem a n (4 * reg l.core rax) 4 fits (omega (arith, lw)) f })

put_done : (ds : List Datum) (c : Core) (k i d next : ℕ) (l : Local) (v : Machine) → IsFixedPlace (datum ds k).place → i < 2 ^ 31 → (k < length ds) × ((datum ds k).number ≡ false) → AreLow ds → AreApart ds c
    → 4 * reg l.core rax + 4 ≤ (datum ds k).size → StandsBy ds c l v → IsDone ds c (Put k i) l v (after_step (Put k i) (datum ds k).place d next v)
unfolding effect
put_done ds c k i d next l v at small has low apart fits b = by_place (datum ds k).place refl at
  where
    by_place : (p : Place) → (datum ds k).place ≡ p → IsFixedPlace p → IsDone ds c (Put k i) l v (after_step (Put k i) (datum ds k).place d next v)
    by_place (Below q) e t = absurd t
    by_place (At a) e t =
        let n = (datum ds k).size in
        let x = element_at ds k a c l v e low fits b.core in
        let lw = x.0 in
        let w : Bytes = put_list v.mem (a + 4 * reg l.core rax) (bytes_of 4 i) in
        let mem : (after_step (Put k i) (At a) d next v).mem ≡ w = (λ j. put_list v.mem (x.1 j) (bytes_of 4 (low_immediate i small j))) in
        let stays : (y : ℕ) → is_one_of (address (datum ds k).place c) n y ≡ false → w y ≡ v.mem y =
        (λ y o. put_elsewhere v.mem (a + 4 * reg l.core rax) 4 (bytes_of 4 i) y (bytes_of_length 4 i)
        (part_out a n (4 * reg l.core rax) 4 y fits (omega (arith, lw)) (subst (λ (p : Place). is_one_of (address p c) n y ≡ false) e o))) in
        subst (λ (p : Place). IsDone ds c (Put k i) l v (after_step (Put k i) p d next v)) (sym e) (record {
          beside = record { core = b.core; stack = b.stack; hold = subst (λ (m : Bytes). Hold ds c m l.held) (sym mem) (hold_filled ds c v.mem w l.held k apart has.0 has.1 stays b.hold) };
          mem = mem ∙ (λ j. put_list v.mem (address (sym e j) c + 4 * reg l.core rax) (bytes_of 4 i));
          world = refl;
          kept = λ y o. ap (λ (m : Bytes). m y) mem ∙ stays y (datum_out ds k c y has.0 o);
        })

-- memory after a step that puts nothing into an array
plain_mem : (ds : List Datum) (c : Core) (s : EventStep) (l : Local) (m : Bytes) → is_putting s ≡ false
    → mem_done ds c s l m ≡ (if is_writing s then put_list m (address (place_in ds s) c) (bytes_of (taken s) (number_done s (datum_held s l) l.core)) else m)
plain_mem ds c (Put k i) l m o = absurd (true≢false o)
plain_mem ds c s l m o = refl

-- a step is done as it says
plain_done : (mode : Mode) (ds : List Datum) (c : Core) (s : EventStep) (d next : ℕ) (l : Local) (v : Machine) → is_putting s ≡ false → IsStep mode (place_in ds s) s → HasDatum ds s → AreLow ds → AreApart ds c
    → HasOperands v next (op_of s (place_in ds s) d next) → StandsBy ds c l v → IsDone ds c s l v (after_step s (place_in ds s) d next v)
plain_done mode ds c s d next l v puts h has low apart can b =
    let p = place_in ds s in
    let n = (datum ds (datum_of s)).size in
    let lw = any_low ds (datum_of s) low in
    let stack : reg v.core rsp ≡ reg c rsp = ap (λ z. reg z rsp) b.core ∙ b.stack in
    let a = same_address p v.core c stack in
    let y = number_done s (datum_held s l) l.core in
    let w = after_step s p d next v in
    let core : w.core ≡ core_done s (datum_held s l) l.core = core_is mode s p n d next v h lw ∙ ap (λ z. core_done s (number_at v.mem z (taken s)) v.core) a ∙ same_core ds s c v.core v.mem l has b.hold
    ∙ ap (core_done s (datum_held s l)) b.core in
    let number : number_done s (number_at v.mem (address p v.core) (taken s)) v.core ≡ y = ap (λ z. number_done s (number_at v.mem z (taken s)) v.core) a ∙ same_number ds s c v.core v.mem l has b.hold
    ∙ ap (number_done s (datum_held s l)) b.core in
    let mem : w.mem ≡ (if is_writing s then put_list v.mem (address p c) (bytes_of (taken s) y) else v.mem) =
    mem_is mode s p n d next v puts h lw ∙ (λ i. if is_writing s then put_list v.mem (a i) (bytes_of (taken s) (number i)) else v.mem) in
    record {
      beside = record {
        core = core;
        stack = stack_stays mode s p (datum_held s l) l.core h ∙ b.stack;
        hold = subst (λ (m : Bytes). Hold ds c m (done s l).held) (sym mem)
            (hold_done ds c v.mem l.held s y has apart (can_write s ds d next c v low stack can) low b.hold (number_fits s (datum_held s l) l.core));
      };
      mem = mem ∙ sym (plain_mem ds c s l v.mem puts);
      world = world_stays s p d next v;
      kept = λ x o. ap (λ (m : Bytes). m x) mem ∙ kept_done ds c v.mem s y x has o;
    }
  where
    world_stays : (s : EventStep) (p : Place) (d next : ℕ) (v : Machine) → (after_step s p d next v).world ≡ v.world
    world_stays (Claim k) p d next v = refl
    world_stays s p d next v = refl

-- a step has its operands where the data are free
step_can : (mode : Mode) (ds : List Datum) (c : Core) (s : EventStep) (ss : List EventStep) (at : ℕ) (l : Local) (v : Machine) → IsStep mode (place_in ds s) s → HasDatum ds s → AreLow ds → AreFree ds c v.mem
    → FitsIn ds s l → StandsBy ds c l v → Can ds s ss at v
step_can mode ds c s ss at l v h has low free fits b = by_kind (is_putting s) refl
  where
    put : (s : EventStep) → is_putting s ≡ true → IsStep mode (place_in ds s) s → HasDatum ds s → FitsIn ds s l → Can ds s ss at v
    put (Put k i) o h has fits = put_can ds c k i (over (Put k i) ss) (at + size (Put k i)) l v h.0 has.0 low free fits b.core
    put s o h has fits = absurd (false≢true o)

    by_kind : (t : Bool) → is_putting s ≡ t → Can ds s ss at v
    by_kind false o = can_is s ds (over s ss) (at + size s) c v o has low free (ap (λ z. reg z rsp) b.core ∙ b.stack)
    by_kind true o = put s o h has fits

-- and where it has them it is done as it says
pub step_done : (mode : Mode) (ds : List Datum) (c : Core) (s : EventStep) (ss : List EventStep) (at : ℕ) (l : Local) (v : Machine) → IsStep mode (place_in ds s) s → HasDatum ds s → AreLow ds → AreApart ds c
    → FitsIn ds s l → StandsBy ds c l v → Can ds s ss at v → IsDone ds c s l v (after ds s ss at v)
step_done mode ds c s ss at l v h has low apart fits b can = by_kind (is_putting s) refl
  where
    put : (s : EventStep) → is_putting s ≡ true → IsStep mode (place_in ds s) s → HasDatum ds s → FitsIn ds s l → IsDone ds c s l v (after ds s ss at v)
    put (Put k i) o h has fits = put_done ds c k i (over (Put k i) ss) (at + size (Put k i)) l v h.0 h.1 has low apart fits b
    put s o h has fits = absurd (false≢true o)

    by_kind : (t : Bool) → is_putting s ≡ t → IsDone ds c s l v (after ds s ss at v)
    by_kind false o = plain_done mode ds c s (over s ss) (at + size s) l v o h has low apart can b
    by_kind true o = put s o h has fits

pub steps_done : StepsAreDone
steps_done mode ds c s ss at l v h has low apart free fits b =
    let can = step_can mode ds c s ss at l v h has low free fits b in
    (can, step_done mode ds c s ss at l v h has low apart fits b can)
