-- Events as lists have the code of events; those that cover and that count are recorded by the law of lists.
use Rattle.std.proofs.Common.{◌≡◌, inr, ℕ, suc, ◌+◌, ◌-◌, ◌*◌, ◌%◌, ◌^◌, ◌<◌, ◌≤◌, Bool, List, [], ◌∷◌, ◌++◌, map, take, drop, Some, refl, sym, ap, ◌∙◌, arith}
use Rattle.std.proofs.lemmas.List.{set_split, get_or-set_same, length-set}
use Rattle.pun_base.specs.Memory.{Bytes}
use Rattle.pun_base.specs.declared.action.Base.{Base}
use Rattle.pun_base.specs.declared.action.Base.TheVariants as base
use Rattle.cpu_state.specs.Bytes.{number_at, put_list, bytes_of}
use Rattle.cpu_state.proofs.Readback.{bytes_of_length}
use Rattle.insn_form.specs.Operands.{reg, with_reg, rax}
use Rattle.relocate_insn.proofs.PrivateRange.{put_away}
use Rattle.trampoline.specs.Events.{bytes_at, base_mark, event_code, base_room}
use Rattle.trampoline.proofs.DataParts.{splice, field_written, number_part, bytes_size, bytes_keep}
use Rattle.event_steps.proofs.FlagsInAx.{twice, same_reg}
use Rattle.event_steps.specs.EventSteps.{long}
use Rattle.trampoline.specs.Recording.{SaysEnough, any_data}
use Rattle.trampoline.specs.EventLists.{cover_event, count_event, event_of, AreLists}
use Rattle.cond_action.proofs.ListedConditions.{cond_code_is}
use Rattle.trampoline.proofs.PrivateData.{listed_recorded}
use Rattle.pun_base.specs.declared.action.Action.{Action}
use Rattle.pun_base.specs.declared.action.Action.TheVariants as action
use Rattle.pun_base.specs.Actions.{listed}
use Rattle.insn_form.specs.Machine.{Machine}
use Rattle.relocate_insn.specs.Running.{IsReady}
use Rattle.trampoline.specs.Running.{Recorded}

-- the code of each is the event's
pub are_lists : AreLists
are_lists action.Cover p i = refl
are_lists action.Count p i = refl
are_lists (action.Ring len) p i = refl
are_lists (action.When b list) p i = cond_code_is p i b (listed list)

-- 1 in the byte of a site is the mark
pub covered : (p i n : ℕ) (w : Bytes) (bytes : List ℕ) → 64 + (i + 1) ≤ n → p + n ≤ 0x7FFF0000 → bytes_at w (p + 64) (n - 64) ≡ map Some bytes
    → bytes_at (put_list w (p + 64 + i) (1 ∷ [])) (p + 64) (n - 64) ≡ map Some (base_mark base.Cover i bytes)
covered p i n w bytes room low held =
    let long = bytes_size w (p + 64) (n - 64) bytes held in
    let k : i + 1 ≡ suc i = omega arith in
    splice w (p + 64) i (n - 64) bytes (1 ∷ []) (omega (arith, low, room)) (omega (arith, room)) held
    ∙ ap (λ z. map Some (take i bytes ++ (1 ∷ drop z bytes))) k ∙ ap (map Some) (sym (set_split bytes i 1 (omega (arith, long, room))))

-- the event that covers says enough
pub cover_says : (p i n : ℕ) → 64 + (i + 1) ≤ n → SaysEnough (cover_event p i) p n any_data (λ regs bytes. base_mark base.Cover i bytes)
cover_says p i n room = record {
  steps = (tt, (omega arith, refl, refl), omega arith, tt);
  laid = ((omega arith, omega (arith, room)), tt);
  few = omega arith;
  fits = λ c m bytes h low held good. (tt, tt);
  restores = λ c m h. refl;
  marked = λ c m bytes h low held good. covered p i n m bytes room low held;
}

-- one more in the counter of a site is the mark
pub counted : (p i n : ℕ) (m w : Bytes) (bytes : List ℕ) → 64 + (8 * i + 8) ≤ n → p + n ≤ 0x7FFF0000 → bytes_at m (p + 64) (n - 64) ≡ map Some bytes
    → bytes_at w (p + 64) (n - 64) ≡ map Some bytes → bytes_at (put_list w (p + 64 + 8 * i) (bytes_of 8 ((number_at m (p + 64 + 8 * i) 8 + 1) % 2 ^ 64))) (p + 64) (n - 64) ≡ map Some (base_mark base.Count i bytes)
counted p i n m w bytes room low held still =
    let a = p + 64 + 8 * i in
    let k = number_part m (p + 64) (8 * i) (n - 64) bytes 8 (omega (arith, low, room)) (omega (arith, room)) held in
    ap (λ z. bytes_at (put_list w a (bytes_of 8 ((z + 1) % 2 ^ 64))) (p + 64) (n - 64)) k
    ∙ field_written w (p + 64) (n - 64) bytes a (8 * i) 8 _ (omega (arith, low, room)) (omega (arith, room)) refl still

-- the event that counts says enough
pub count_says : (p i n : ℕ) → 64 + (8 * i + 8) ≤ n → SaysEnough (count_event p i) p n any_data (λ regs bytes. base_mark base.Count i bytes)
count_says p i n room = record {
  steps = (tt, (omega arith, refl, refl), omega arith, (tt, (omega arith, refl, refl), omega arith, (tt, tt, omega arith, (tt, (omega arith, refl, refl), omega arith, (tt, (omega arith, refl, refl), omega arith, tt)))));
  laid = ((omega arith, omega (arith, room)), ((omega arith, omega (arith, room)), tt));
  few = omega arith;
  fits = λ c m bytes h low held good. (tt, (tt, (tt, (tt, (tt, tt)))));
  restores = λ c m h. (
      let y = number_at m (p + 64 + 8 * i) 8 in
      let e : reg c rax % 2 ^ 64 % 2 ^ 64 ≡ reg c rax = cut (reg c rax) (h.small 0) in
      ap (λ z. with_reg z rax (reg c rax % 2 ^ 64 % 2 ^ 64)) (twice c (y % 2 ^ 64) _) ∙ twice c _ (reg c rax % 2 ^ 64 % 2 ^ 64) ∙ same_reg c _ e);
  marked = λ c m bytes h low held good. (
      let y = number_at m (p + 64 + 8 * i) 8 in
      let a = p + 64 + 8 * i in
      let own = bytes_of 8 (reg c rax % 2 ^ 64) in
      let wide = bytes_of_length 8 (reg c rax % 2 ^ 64) in
      let m1 = put_list m p own in
      let still = bytes_keep m m1 (p + 64) (n - 64) (λ x i j. put_away m p own x (omega (arith, wide, low, room)) (inr (omega (arith, wide)))) ∙ held in
      let d = with_reg c rax (y % 2 ^ 64) in
      let s1 : reg d rax ≡ y % 2 ^ 64 = get_or-set_same c.regs 0 (y % 2 ^ 64) 0 (omega (arith, h.count)) in
      let v = (reg d rax + 1) % 2 ^ 64 in
      let s2 : reg (with_reg d rax v) rax ≡ v = get_or-set_same d.regs 0 v 0 (omega (arith, h.count, length-set c.regs 0 (y % 2 ^ 64))) in
      ap (λ z. bytes_at (put_list m1 a (bytes_of 8 (z % 2 ^ 64))) (p + 64) (n - 64)) (s2 ∙ ap (λ z. (z + 1) % 2 ^ 64) s1)
      ∙ ap (λ z. bytes_at (put_list m1 a (bytes_of 8 z)) (p + 64) (n - 64)) (up y) ∙ counted p i n m m1 bytes room low held still);
}
  where
    cut : (x : ℕ) → x < 2 ^ 64 → x % 2 ^ 64 % 2 ^ 64 ≡ x
    cut x l = omega (arith, l)

    up : (y : ℕ) → (y % 2 ^ 64 + 1) % 2 ^ 64 % 2 ^ 64 ≡ (y + 1) % 2 ^ 64
    up y = omega arith

-- the action of a base without a condition
abbrev pub plain : Base → Action
plain base.Cover = action.Cover
plain base.Count = action.Count

-- what `EventsAreRecorded` says of the events that cover and that count
abbrev pub PlainEventsAreRecorded : Type 0
PlainEventsAreRecorded = (set : ℕ → Bool) (b : Base) (i private n place : ℕ) (rest bytes : List ℕ) (s t : Machine) → base_room b i ≤ n → place + long (event_of b private i).steps < 2 ^ 31
    → IsReady set private n place (event_code (plain b) private i ++ rest) s t → bytes_at t.mem (private + 64) (n - 64) ≡ map Some bytes
    → (us : List Machine) × Recorded set (Some (record { action = plain b; number = i })) private n place bytes s t us

-- So they are recorded, by the one law.
pub plain_recorded : PlainEventsAreRecorded
plain_recorded set' base.Cover i private n place rest bytes s t room low ready held =
    let q = listed_recorded set' (cover_event private i) private n place any_data (λ regs xs. base_mark base.Cover i xs) rest bytes s t (cover_says private i n room) low ready held refl in
    let e = q.1 in
    (q.0, record { run = e.run; few = e.few; there = e.there; inside = e.inside; seen = λ j. record { core = e.core j; rip = 0; mem = e.hidden j; world = e.world j }; marked = e.marked; kept = e.kept })
plain_recorded set' base.Count i private n place rest bytes s t room low ready held =
    let q = listed_recorded set' (count_event private i) private n place any_data (λ regs xs. base_mark base.Count i xs) rest bytes s t (count_says private i n room) low ready held refl in
    let e = q.1 in
    (q.0, record { run = e.run; few = e.few; there = e.there; inside = e.inside; seen = λ j. record { core = e.core j; rip = 0; mem = e.hidden j; world = e.world j }; marked = e.marked; kept = e.kept })
