-- Events under a condition are recorded by the law of lists.
use Rattle.std.proofs.Common.{◌≡◌, inr, ℕ, zero, suc, ◌+◌, ◌-◌, ◌*◌, ◌%◌, ◌^◌, ◌<◌, ◌≤◌, Bool, true, false, not, if◌then◌else◌, List, [], ◌∷◌, ◌++◌, length, map, Some, set, refl, sym, ap, ◌∙◌, subst, arith, true≢false}
use Rattle.std.proofs.lemmas.Bool.{and_from, and_left, and_right}
use Rattle.std.proofs.lemmas.List.{set-set, get_or-set_same}
use Rattle.pun_base.specs.Memory.{Bytes}
use Rattle.pun_base.specs.Actions.{listed, AreComparisons}
use Rattle.pun_base.specs.declared.action.Base.{Base}
use Rattle.pun_base.specs.declared.action.Base.TheVariants as base
use Rattle.pun_base.specs.declared.action.Comparison.{Comparison}
use Rattle.pun_base.specs.declared.action.Comparisons.{Comparisons}
use Rattle.pun_base.specs.declared.action.Comparisons.TheVariants.{One, Two, Three}
use Rattle.cpu_alu.specs.declared.flag_word.Flags.{Flags}
use Rattle.cpu_alu.specs.declared.operation.Width.TheVariants.{W64}
use Rattle.cpu_alu.specs.declared.operation.AluOp.TheVariants.{Sub, Inc}
use Rattle.cpu_alu.specs.Arithmetic.{arithmetic}
use Rattle.cpu_state.specs.declared.state.Core.{Core}
use Rattle.cpu_state.specs.Bytes.{number_at, put_list, bytes_of}
use Rattle.cpu_state.specs.Processor.{IsProcessorCore}
use Rattle.insn_form.specs.Operands.{reg, with_reg, with_flags, rax}
use Rattle.insn_form.specs.Conditions.{is_met}
use Rattle.cond_action.specs.Conditions.{compares, all_hold}
use Rattle.cond_action.specs.Codes.{failing}
use Rattle.trampoline.proofs.FailedComparisons.{fails, failing_low}
use Rattle.cpu_state.proofs.Readback.{bytes_of_length}
use Rattle.insn_form.specs.Meaning.{effect}
use Rattle.insn_form.specs.FlagsBack.{kept_in_ax, given_back}
use Rattle.insn_form.proofs.KeptFlags.{gives_flags}
use Rattle.insn_form.proofs.RegisterSizes.{reg_sized}
use Rattle.relocate_insn.specs.Running.{IsReady, Inside}
use Rattle.relocate_insn.proofs.PrivateRange.{put_away}
use Rattle.trampoline.specs.EventLists.{mark_at, mark_len, marking_step, register_checks, cond_event}
use Rattle.trampoline.specs.Events.{bytes_at, base_mark, base_room, event_code, event_length}
use Rattle.trampoline.proofs.DataParts.{bytes_keep}
use Rattle.event_steps.proofs.FlagsInAx.{same_reg, cut}
use Rattle.event_steps.specs.declared.step.Datum.{Datum}
use Rattle.event_steps.specs.declared.step.EventStep.{EventStep}
use Rattle.event_steps.specs.EventSteps.{long, AreSteps}
use Rattle.event_steps.specs.MadeSteps.{skipped}
use Rattle.event_steps.specs.DoneSteps.{Local, started, done, ended, FitsIn}
use Rattle.event_steps.specs.WholeEvents.{left_in, FitAll}
use Rattle.event_steps.specs.EventSteps.Mode.{Alone}
use Rattle.event_steps.specs.declared.step.EventStep.TheVariants.{Compare, SkipIf, Put, Load, LoadLow, FromAl, FromAh}
use Rattle.trampoline.specs.Recording.{AreLaid, SaysEnough, coming, any_data}
use Rattle.event_steps.proofs.LocalSteps.{is_putting}
use Rattle.trampoline.proofs.PrivateData.{listed_recorded}
use Rattle.cond_action.proofs.ListedConditions.{register_over, cond_code_is}
use Rattle.trampoline.proofs.PlainEvents.{covered, counted}
use Rattle.pun_base.specs.declared.action.Action.TheVariants as action
use Rattle.insn_form.specs.Machine.{Machine}
use Rattle.trampoline.specs.Running.{Recorded}

-- registers and numbers with other flags
abbrev pub flagged : Local → Flags → Local
flagged l f = record { core = with_flags l.core f; held = l.held; marked = l.marked }

-- What holds in front of steps that are left out, and of comparisons and jumps, if it does behind them, holds in front of a condition's checks, if it
-- does in front of what marks where all hold, and behind it where one fails.
module _ (Q : ℕ → List EventStep → Local → Type 0) (on : (s : EventStep) (k : ℕ) (ss : List EventStep) (l : Local) → Q k ss l → Q (suc k) (s ∷ ss) l)
    (compare : (r n : ℕ) (ss : List EventStep) (l : Local) → Q 0 ss (done (Compare r n) l) → Q 0 (Compare r n ∷ ss) l)
    (skip : (cc k : ℕ) (ss : List EventStep) (l : Local) → Q (skipped (SkipIf cc k) l.core) ss l → Q 0 (SkipIf cc k ∷ ss) l)
    (mark : EventStep) (back : List EventStep) where
  over_checks : (cs : List Comparison) (l : Local) → Q 0 back l → Q (2 * length cs + 1) (register_checks cs ++ (mark ∷ back)) l
  over_checks [] l q = on mark 0 back l q
  over_checks (c ∷ cs) l q =
      let e : suc (suc (2 * length cs + 1)) ≡ 2 * suc (length cs) + 1 = omega arith in
      subst (λ (k : ℕ). Q k (register_checks (c ∷ cs) ++ (mark ∷ back)) l) e
      (on (Compare c.reg c.value) (suc (2 * length cs + 1)) (SkipIf (failing c.op) (2 * length cs + 1) ∷ (register_checks cs ++ (mark ∷ back))) l
      (on (SkipIf (failing c.op) (2 * length cs + 1)) (2 * length cs + 1) (register_checks cs ++ (mark ∷ back)) l (over_checks cs l q)))

  pub checked : (cs : List Comparison) (l : Local) → AreComparisons cs → ((r : ℕ) → reg l.core r < 2 ^ 64)
      → ((f : Flags) → f.rest ≡ l.core.flags.rest → all_hold cs l.core.regs ≡ true → Q 0 (mark ∷ back) (flagged l f))
      → ((f : Flags) → f.rest ≡ l.core.flags.rest → all_hold cs l.core.regs ≡ false → Q 0 back (flagged l f)) → Q 0 (register_checks cs ++ (mark ∷ back)) l
  checked [] l are small all none = all l.core.flags refl refl
  checked (c ∷ cs) l are small all none =
      let f1 = (arithmetic Sub W64 (reg l.core c.reg % 2 ^ 64) c.value l.core.flags).flags in
      let rest = register_checks cs ++ (mark ∷ back) in
      let b = compares c.op (reg l.core c.reg) c.value in
      compare c.reg c.value (SkipIf (failing c.op) (2 * length cs + 1) ∷ rest) l
      (skip (failing c.op) (2 * length cs + 1) rest (flagged l f1)
      (by_test b refl (fails c.op (reg l.core c.reg) c.value l.core.flags (small c.reg) are.1)
      (λ e. checked cs (flagged l f1) are.2 small (λ f r h. all f r (and_from b (all_hold cs l.core.regs) e h)) (λ f r h. none f r (and_right b (all_hold cs l.core.regs) h)))
      (λ e. over_checks cs (flagged l f1) (none f1 refl (and_left b (all_hold cs l.core.regs) e)))))
    where
      by_test : (b : Bool) → compares c.op (reg l.core c.reg) c.value ≡ b
          → is_met (failing c.op) (arithmetic Sub W64 (reg l.core c.reg % 2 ^ 64) c.value l.core.flags).flags ≡ not (compares c.op (reg l.core c.reg) c.value)
          → (compares c.op (reg l.core c.reg) c.value ≡ true
          → Q 0 (register_checks cs ++ (mark ∷ back)) (flagged l (arithmetic Sub W64 (reg l.core c.reg % 2 ^ 64) c.value l.core.flags).flags))
          → (compares c.op (reg l.core c.reg) c.value ≡ false
          → Q (2 * length cs + 1) (register_checks cs ++ (mark ∷ back)) (flagged l (arithmetic Sub W64 (reg l.core c.reg % 2 ^ 64) c.value l.core.flags).flags))
          → Q (if is_met (failing c.op) (arithmetic Sub W64 (reg l.core c.reg % 2 ^ 64) c.value l.core.flags).flags then 2 * length cs + 1 else 0) (register_checks cs ++ (mark ∷ back))
          (flagged l (arithmetic Sub W64 (reg l.core c.reg % 2 ^ 64) c.value l.core.flags).flags)
      by_test true e m go by =
          subst (λ (z : Bool). Q (if z then 2 * length cs + 1 else 0) (register_checks cs ++ (mark ∷ back)) (flagged l (arithmetic Sub W64 (reg l.core c.reg % 2 ^ 64) c.value l.core.flags).flags))
          (sym (m ∙ ap not e)) (go e)
      by_test false e m go by =
          subst (λ (z : Bool). Q (if z then 2 * length cs + 1 else 0) (register_checks cs ++ (mark ∷ back)) (flagged l (arithmetic Sub W64 (reg l.core c.reg % 2 ^ 64) c.value l.core.flags).flags))
          (sym (m ∙ ap not e)) (by e)

-- the checks are steps, if those behind them are
checks_are : (b : Base) (n : ℕ) (ds : List Datum) (cs : List Comparison) (back : List EventStep) → AreComparisons cs → length cs ≤ 3 → AreSteps Alone ds (marking_step b false n ∷ back)
    → AreSteps Alone ds (register_checks cs ++ (marking_step b false n ∷ back))
checks_are b n ds [] back a few h = h
checks_are b n ds (c ∷ cs) back a few h =
    let q = register_over b false n cs back in
    ((a.0, a.1), tt, omega arith, (failing_low c.op, tt, omega (arith, q, few), checks_are b n ds cs back a.2 (omega (arith, few)) h))

-- what marks and what gives back are steps
rest_are : (b : Base) (cs : List Comparison) (p i : ℕ) → AreSteps Alone (cond_event b cs p i).uses (marking_step b false 2 ∷ LoadLow 1 ∷ FromAl ∷ FromAh ∷ Load 0 ∷ [])
rest_are base.Cover cs p i = (tt, (omega arith, refl, refl), omega arith, (tt, (omega arith, refl, refl), omega arith, (tt, tt, omega arith, (tt, tt, omega arith, (tt, (omega arith, refl, refl), omega arith, tt)))))
rest_are base.Count cs p i = (tt, (omega arith, refl, refl), omega arith, (tt, (omega arith, refl, refl), omega arith, (tt, tt, omega arith, (tt, tt, omega arith, (tt, (omega arith, refl, refl), omega arith, tt)))))

-- how many there are
checks_many : (cs : List Comparison) (rest : List EventStep) → length (register_checks cs ++ rest) ≡ 2 * length cs + length rest
checks_many [] rest = omega arith
checks_many (c ∷ cs) rest = let q = checks_many cs rest in omega (arith, q)

-- and how long they are
checks_size : (b : Base) (cs : List Comparison) (n : ℕ) (back : List EventStep) → long (register_checks cs ++ (marking_step b false n ∷ back)) ≡ 9 * length cs + 8 + long back
checks_size base.Cover [] n back = omega arith
checks_size base.Count [] n back = omega arith
checks_size b (c ∷ cs) n back = let q = checks_size b cs n back in omega (arith, q)

-- rax back beside the flags in ax: all is as before
pub rax_back : (c : Core) (x : ℕ) → x ≡ reg c rax → with_reg (kept_in_ax c) rax x ≡ c
unfolding effect is_met
rax_back c x e =
    let q = set-set (set c.regs 0 _) 0 _ x ∙ set-set c.regs 0 _ x in
    (λ j. record { regs = q j; flags = c.flags; fs = c.fs; gs = c.gs }) ∙ same_reg c x e

-- the flags back from the number in which they are saved, and then rax
pub low_back : (c : Core) (f : Flags) (y x : ℕ) → IsProcessorCore c → f.rest ≡ c.flags.rest → y ≡ reg (kept_in_ax c) rax % 2 ^ 32 → x ≡ reg c rax
    → with_reg (given_back (with_reg (with_flags c f) rax (y % 2 ^ 32))) rax x ≡ c
unfolding effect is_met
low_back c f y x h r e k =
    let d = with_reg (with_flags c f) rax (y % 2 ^ 32) in
    let hd = reg_sized (with_flags c f) rax (y % 2 ^ 32) (record { count = h.count; small = h.small }) (omega arith) in
    let here : reg d rax ≡ y % 2 ^ 32 = get_or-set_same c.regs 0 (y % 2 ^ 32) 0 (omega (arith, h.count)) in
    let low : reg d rax % 2 ^ 16 ≡ reg (kept_in_ax c) rax % 2 ^ 16 = ap (λ z. z % 2 ^ 16) (here ∙ ap (λ z. z % 2 ^ 32) e) ∙ cuts (reg (kept_in_ax c) rax) in
    let flags = gives_flags c d h hd low r in
    let regs = set-set (set c.regs 0 (y % 2 ^ 32)) 0 _ x ∙ set-set c.regs 0 (y % 2 ^ 32) x in
    (λ j. record { regs = regs j; flags = flags j; fs = c.fs; gs = c.gs }) ∙ same_reg c x k
  where
    cuts : (z : ℕ) → z % 2 ^ 32 % 2 ^ 32 % 2 ^ 16 ≡ z % 2 ^ 16
    cuts z = omega arith

-- rax is a number of 64 bits
pub rax_is : (c : Core) → IsProcessorCore c → reg c rax % 2 ^ 64 % 2 ^ 64 ≡ reg c rax
rax_is c h = ap (λ z. z % 2 ^ 64) (cut (reg c rax) (h.small 0)) ∙ cut (reg c rax) (h.small 0)

-- the step that marks marks the data part
marked_left : (b : Base) (cs : List Comparison) (p i n : ℕ) (c : Core) (f : Flags) (x y : ℕ) (u : Bool) (m w : Bytes) (bytes : List ℕ) → base_room b i ≤ n → p + n ≤ 0x7FFF0000
    → bytes_at m (p + 64) (n - 64) ≡ map Some bytes → bytes_at w (p + 64) (n - 64) ≡ map Some bytes
    → bytes_at (left_in (cond_event b cs p i).uses c 0 (marking_step b false 2 ∷ LoadLow 1 ∷ FromAl ∷ FromAh ∷ Load 0 ∷ [])
    (record { core = with_flags c f; held = x ∷ y ∷ number_at m (mark_at b p i) (mark_len b) ∷ []; marked = u }) w) (p + 64) (n - 64) ≡ map Some (base_mark b i bytes)
marked_left base.Cover cs p i n c f x y u m w bytes room low held still = covered p i n w bytes room low still
marked_left base.Count cs p i n c f x y u m w bytes room low held still = counted p i n m w bytes room low held still

-- it lies behind what is saved
laid_by : (b : Base) (cs : List Comparison) (p i n : ℕ) → base_room b i ≤ n → AreLaid p (p + n) (cond_event b cs p i).uses
laid_by base.Cover cs p i n room = ((omega arith, omega (arith, room)), ((omega arith, omega (arith, room)), ((omega arith, omega (arith, room)), tt)))
laid_by base.Count cs p i n room = ((omega arith, omega (arith, room)), ((omega arith, omega (arith, room)), ((omega arith, omega (arith, room)), tt)))

room_enough : (b : Base) (i n : ℕ) → base_room b i ≤ n → 64 ≤ n
room_enough base.Cover i n room = omega (arith, room)
room_enough base.Count i n room = omega (arith, room)

-- steps that put no number into an array
abbrev pub ArePlain : List EventStep → Type 0
ArePlain [] = Unit {0}
ArePlain (s ∷ ss) = (is_putting s ≡ false) × ArePlain ss

fits_plain : (ds : List Datum) (s : EventStep) (m : Local) → is_putting s ≡ false → FitsIn ds s m
fits_plain ds (Put k i) m h = absurd (true≢false h)
fits_plain ds s m h = tt

mark_plain : (b : Base) (t : Bool) (k : ℕ) → is_putting (marking_step b t k) ≡ false
mark_plain base.Cover t k = refl
mark_plain base.Count t k = refl

-- no check puts a number into an array
checks_fit : (ds : List Datum) (cs : List Comparison) (k : ℕ) (rest : List EventStep) (l : Local) → ((j : ℕ) (m : Local) → FitAll ds j rest m) → FitAll ds k (register_checks cs ++ rest) l
checks_fit ds [] k rest l h = h k l
checks_fit ds (c ∷ cs) zero rest l h = (tt, (tt, checks_fit ds cs _ rest _ h))
checks_fit ds (c ∷ cs) (suc zero) rest l h = (tt, checks_fit ds cs _ rest _ h)
checks_fit ds (c ∷ cs) (suc (suc k)) rest l h = checks_fit ds cs k rest l h

pub no_puts : (ds : List Datum) (ss : List EventStep) → ArePlain ss → (j : ℕ) (m : Local) → FitAll ds j ss m
no_puts ds [] h j m = tt
no_puts ds (s ∷ ss) h (suc j) m = no_puts ds ss h.1 j m
no_puts ds (s ∷ ss) h zero m = (fits_plain ds s m h.0, no_puts ds ss h.1 (skipped s m.core) (done s m))

-- what gives back gives all back, also behind the mark
gives : (c : Core) (f : Flags) (x : ℕ) (u : Bool) → IsProcessorCore c → f.rest ≡ c.flags.rest
    → (ended 0 (LoadLow 1 ∷ FromAl ∷ FromAh ∷ Load 0 ∷ []) (record { core = with_flags c f; held = (reg c rax % 2 ^ 64) ∷ (reg (kept_in_ax c) rax % 2 ^ 32) ∷ x ∷ []; marked = u })).core ≡ c
gives c f x u h r = low_back c f (reg (kept_in_ax c) rax % 2 ^ 32) (reg c rax % 2 ^ 64 % 2 ^ 64) h r refl (rax_is c h)

gives_marked : (b : Base) (c : Core) (f : Flags) (x : ℕ) (u : Bool) → IsProcessorCore c → f.rest ≡ c.flags.rest
    → (ended 0 (marking_step b false 2 ∷ LoadLow 1 ∷ FromAl ∷ FromAh ∷ Load 0 ∷ []) (record { core = with_flags c f; held = (reg c rax % 2 ^ 64) ∷ (reg (kept_in_ax c) rax % 2 ^ 32) ∷ x ∷ []; marked = u })).core ≡ c
gives_marked base.Cover c f x u h r = gives c f 1 true h r
gives_marked base.Count c f x u h r = gives c (arithmetic Inc W64 (x % 2 ^ 64) 1 f).flags ((x + 1) % 2 ^ 64) true h r

module _ (b : Base) (cs : List Comparison) (p i : ℕ) where
  abbrev ds : List Datum
  ds = (cond_event b cs p i).uses

  abbrev back : List EventStep
  back = LoadLow 1 ∷ FromAl ∷ FromAh ∷ Load 0 ∷ []

  abbrev mark_step : EventStep
  mark_step = marking_step b false 2

  abbrev checking : List EventStep
  checking = register_checks cs ++ (mark_step ∷ back)

  -- in front of the checks: registers and flags are as before, and what is saved is held
  abbrev saved : Core → Bytes → List ℕ
  saved c m = (reg c rax % 2 ^ 64) ∷ (reg (kept_in_ax c) rax % 2 ^ 32) ∷ number_at m (mark_at b p i) (mark_len b) ∷ []

  abbrev ready : Core → Bytes → Local
  ready c m = started c (saved c m)

  -- memory there
  abbrev saved_in : Core → Bytes → Bytes
  saved_in c m = put_list (put_list m p (bytes_of 8 (reg c rax % 2 ^ 64))) (p + 8) (bytes_of 4 (reg (kept_in_ax c) rax % 2 ^ 32))

  module _ (are : AreComparisons cs) (few : length cs ≤ 3) where
    -- it restores
    restores : (c : Core) (m : Bytes) → IsProcessorCore c → (ended 0 (cond_event b cs p i).steps (coming ds c m)).core ≡ c
    restores c m h =
        ap (λ (z : Core). (ended 0 checking (started z (saved c m))).core) (rax_back c (reg c rax % 2 ^ 64 % 2 ^ 64) (rax_is c h))
        ∙ checked (λ k ss l. (ended k ss l).core ≡ c) (λ s k ss l q. q) (λ r n ss l q. q) (λ cc k ss l q. q) mark_step back cs (ready c m) are h.small
        (λ f r a. gives_marked b c f (number_at m (mark_at b p i) (mark_len b)) false h r) (λ f r a. gives c f (number_at m (mark_at b p i) (mark_len b)) false h r)

    -- the data part is as before where rax and the flags are saved
    still : (n : ℕ) (c : Core) (m : Bytes) (bytes : List ℕ) → 64 ≤ n → p + n ≤ 0x7FFF0000 → bytes_at m (p + 64) (n - 64) ≡ map Some bytes → bytes_at (saved_in c m) (p + 64) (n - 64) ≡ map Some bytes
    still n c m bytes enough low held =
        let own = bytes_of 8 (reg c rax % 2 ^ 64) in
        let word = bytes_of 4 (reg (kept_in_ax c) rax % 2 ^ 32) in
        let w1 = bytes_of_length 8 (reg c rax % 2 ^ 64) in
        let w2 = bytes_of_length 4 (reg (kept_in_ax c) rax % 2 ^ 32) in
        bytes_keep m (saved_in c m) (p + 64) (n - 64)
        (λ x k l. put_away (put_list m p own) (p + 8) word x (omega (arith, w2, low, enough)) (inr (omega (arith, w2))) ∙ put_away m p own x (omega (arith, w1, low, enough)) (inr (omega (arith, w1))))
        ∙ held

    -- it marks where all comparisons hold
    marks_by : (n : ℕ) (c : Core) (m : Bytes) (bytes : List ℕ) → IsProcessorCore c → base_room b i ≤ n → 64 ≤ n → p + n ≤ 0x7FFF0000 → bytes_at m (p + 64) (n - 64) ≡ map Some bytes
        → bytes_at (left_in ds c 0 (cond_event b cs p i).steps (coming ds c m) m) (p + 64) (n - 64) ≡ map Some (if all_hold cs c.regs then base_mark b i bytes else bytes)
    marks_by n c m bytes h room enough low held =
        ap (λ (z : Core). bytes_at (left_in ds c 0 checking (started z (saved c m)) (saved_in c m)) (p + 64) (n - 64)) (rax_back c (reg c rax % 2 ^ 64 % 2 ^ 64) (rax_is c h))
        ∙ checked (λ k ss l. bytes_at (left_in ds c k ss l (saved_in c m)) (p + 64) (n - 64) ≡ map Some (if all_hold cs c.regs then base_mark b i bytes else bytes)) (λ s k ss l q. q) (λ r n ss l q. q)
        (λ cc k ss l q. q) mark_step back cs (ready c m) are h.small
        (λ f r a. marked_left b cs p i n c f (reg c rax % 2 ^ 64) (reg (kept_in_ax c) rax % 2 ^ 32) false m (saved_in c m) bytes room low held (still n c m bytes enough low held) ∙ ap (λ (z : Bool). map Some (if z then base_mark b i bytes else bytes)) (sym a))
        (λ f r a. still n c m bytes enough low held ∙ ap (λ (z : Bool). map Some (if z then base_mark b i bytes else bytes)) (sym a))

    -- so it says enough
    pub cond_says : (n : ℕ) → base_room b i ≤ n → SaysEnough (cond_event b cs p i) p n any_data (λ regs bytes. if all_hold cs regs then base_mark b i bytes else bytes)
    cond_says n room = record {
      steps = (tt, (omega arith, refl, refl), omega arith, (tt, tt, omega arith, (tt, tt, omega arith, (tt, (omega arith, refl, refl), omega arith, (tt, (omega arith, refl, refl), omega arith, checks_are b 2 ds cs back are few (rest_are b cs p i))))));
      laid = laid_by b cs p i n room;
      few = (let q = checks_many cs (mark_step ∷ back) in omega (arith, q, few));
      fits = λ c m bytes h low held good. (tt, (tt, (tt, (tt, (tt, checks_fit ds cs 0 (mark_step ∷ back) _ (no_puts ds (mark_step ∷ back) (mark_plain b false 2, (refl, (refl, (refl, (refl, tt)))))))))));
      restores = λ c m h. restores c m h;
      marked = λ c m bytes h low held good. marks_by n c m bytes h room (room_enough b i n room) low held;
    }

-- at most three comparisons are listed
few_listed : (list : Comparisons) → length (listed list) ≤ 3
few_listed (One a) = omega arith
few_listed (Two a b) = omega arith
few_listed (Three a b c) = omega arith

-- what `EventsAreRecorded` says of the events under a condition
abbrev pub WhenEventsAreRecorded : Type 0
WhenEventsAreRecorded = (set : ℕ → Bool) (b : Base) (list : Comparisons) (i private n place : ℕ) (rest bytes : List ℕ) (s t : Machine) → AreComparisons (listed list) → base_room b i ≤ n
    → place + event_length (action.When b list) < 2 ^ 31 → IsReady set private n place (event_code (action.When b list) private i ++ rest) s t → bytes_at t.mem (private + 64) (n - 64) ≡ map Some bytes
    → (us : List Machine) × Recorded set (Some (record { action = action.When b list; number = i })) private n place bytes s t us

-- and is recorded
pub when_recorded : WhenEventsAreRecorded
when_recorded set' b list i private n place rest bytes s t are room low ready held =
    let cs = listed list in
    let e = cond_event b cs private i in
    let z : long e.steps ≡ 53 + 9 * length cs = (let k = checks_size b cs 2 (LoadLow 1 ∷ FromAl ∷ FromAh ∷ Load 0 ∷ []) in omega (arith, k)) in
    let q = listed_recorded set' e private n place any_data (λ regs xs. if all_hold cs regs then base_mark b i xs else xs) rest bytes s t (cond_says b cs private i are (few_listed list) n room) (omega (arith, z, low))
    (subst (λ (code : List ℕ). IsReady set' private n place (code ++ rest) s t) (sym (cond_code_is private i b cs)) ready) held refl in
    let r = q.1 in (
      q.0,
      record {
        run = r.run;
        few = r.few;
        there = r.there ∙ ap (λ k. place + k) z;
        inside = subst (λ k. Inside (place + 1) (place + k + 1) q.0) z r.inside;
        seen = λ j. record { core = r.core j; rip = 0; mem = r.hidden j; world = r.world j };
        marked = r.marked;
        kept = r.kept;
      },
    )
