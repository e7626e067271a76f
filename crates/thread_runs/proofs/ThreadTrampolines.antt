-- A trampoline for threads as it is written.
use Rattle.std.proofs.Common.{◌≡◌, ℕ, ◌+◌, ◌≤◌, Bool, true, false, not, cond, eqb, List, [], ◌∷◌, ◌++◌, length, length-append, Option, Some, None, refl, sym, ap, ◌∙◌, arith}
use Rattle.std.specs.Option.{option_map}
use Rattle.std.proofs.lemmas.List.{append-nil}
use Rattle.pun_base.specs.declared.action.Base.{Base}
use Rattle.pun_base.specs.declared.action.Base.TheVariants.{Cover, Count}
use Rattle.pun_base.specs.declared.action.Action.{Action}
use Rattle.pun_base.specs.declared.action.Action.TheVariants as action
use Rattle.pun_base.specs.declared.action.Comparison.{Comparison}
use Rattle.pun_base.specs.declared.action.Comparisons.{Comparisons}
use Rattle.pun_base.specs.declared.action.Comparisons.TheVariants.{One, Two, Three}
use Rattle.pun_base.specs.Actions.{listed}
use Rattle.length_decode.specs.Spelling.{Fields}
use Rattle.insn_form.specs.declared.form.Spot.TheVariants.{Reg, High, Mem}
use Rattle.insn_form.specs.declared.form.Target.TheVariants.{Rel, Through}
use Rattle.insn_form.specs.declared.form.Op.TheVariants.{Jmp, Call}
use Rattle.insn_form.specs.declared.form.Insn.{Insn}
use Rattle.insn_form.specs.declared.form.Insn.TheVariants.{Exact, Asked, Ending}
use Rattle.insn_form.specs.Displacing.{is_low, displaced_len, falls}
use Rattle.relocate_insn.specs.Relocating.{relocated_by}
use Rattle.relocate_insn.proofs.CodeRuns.{told_low}
use Rattle.trampoline.specs.Trampolines.{back_if}
use Rattle.trampoline.proofs.TrampolineBytes.{back_long}
use Rattle.thread_runs.specs.ThreadCode.{Kind, Marks, Keeps, thread_relocated, call_reg_code, thread_event, checking_len, restoring_code, marking_code, marking_len, checking_code, saving_event, saving_len, event_len, event_if}
use Rattle.thread_runs.specs.Building.{call_register, some_register, work_by, when_of, size_if}
use Rattle.thread_runs.proofs.ComparisonCode.{checking_few, checking_long}
use Rattle.thread_runs.proofs.WorkSize.{call_long}

-- the code after an event, as it is written, is the work of the definition
pub work_is : (x : Insn) (p : ℕ) (f : Fields) (next to : ℕ) (r : Option ℕ) (work : List ℕ) (goes : Bool) → call_register x ≡ Some r → work ≡ relocated_by x p f next to → goes ≡ falls x
    → work_by r work goes to next ≡ thread_relocated x f next to ++ back_if (falls x) (to + length (thread_relocated x f next to)) next
work_is (Exact (Call (Through (Reg a)))) p f next to r work goes h e g = by_rsp (eqb a 4) h
  where
    by_rsp : (b : Bool) → some_register (cond b None (Some a)) ≡ Some r → work_by r work goes to next ≡ call_reg_code a next ++ []
    by_rsp true k = absurd cc
    by_rsp false k = let q : Some a ≡ r = cc in ap (λ z. work_by z work goes to next) (sym q) ∙ sym (append-nil (call_reg_code a next))
work_is (Exact (Call (Through (High a)))) p f next to r work goes h e g = absurd cc
work_is (Exact (Call (Through (Mem m)))) p f next to r work goes h e g = absurd cc
work_is (Exact (Call (Rel z))) p f next to r work goes h e g = let q : r ≡ None = cc in λ i. work_by (q i) (e i) (g i) to next
work_is (Exact (Jmp (Rel z))) p f next to r work goes h e g = let q : r ≡ None = cc in λ i. work_by (q i) (e i) (g i) to next
work_is (Exact (Jmp (Through o))) p f next to r work goes h e g = let q : r ≡ None = cc in λ i. work_by (q i) (e i) (g i) to next
work_is (Exact op) p f next to r work goes h e g = let q : r ≡ None = cc in λ i. work_by (q i) (e i) (g i) to next
work_is (Asked form) p f next to r work goes h e g = let q : r ≡ None = cc in λ i. work_by (q i) (e i) (g i) to next
work_is Ending p f next to r work goes h e g = let q : r ≡ None = cc in λ i. work_by (q i) (e i) (g i) to next

-- a trampoline that calls through no register has as many bytes as its size says
plain : (b : Option Kind) (cs : List Comparison) (x : Insn) (len addr next to : ℕ) (r : Option ℕ) (work : List ℕ) (goes : Bool) → r ≡ None → goes ≡ falls x → displaced_len x len addr ≡ Some (length work)
    → option_map (λ n. event_len b cs + n + cond (falls x) 5 0) (displaced_len x len addr) ≡ Some (event_len b cs + length (work_by r work goes to next))
plain b cs x len addr next to r work goes q g d =
    let l : length (work_by r work goes to next) ≡ length work + length (back_if goes (to + length work) next) = ap (λ z. length (work_by z work goes to next)) q ∙ length-append work (back_if goes (to + length work) next) in
    let back : length (back_if goes (to + length work) next) ≡ cond (falls x) 5 0 = back_long goes (to + length work) next ∙ ap (λ z. cond z 5 0) g in
    ap (option_map (λ n. event_len b cs + n + cond (falls x) 5 0)) d ∙ ap Some (omega (arith, l, back))

-- the work has as many bytes as the relocated code of elsewhere and the jump back
pub work_long : (b : Option Kind) (cs : List Comparison) (x : Insn) (len addr next to : ℕ) (r : Option ℕ) (work : List ℕ) (goes : Bool) → call_register x ≡ Some r → goes ≡ falls x → displaced_len x len addr ≡ Some (length work)
    → size_if b cs x len addr ≡ Some (event_len b cs + length (work_by r work goes to next))
work_long b cs (Exact (Call (Through (Reg a)))) len addr next to r work goes h g d = by_rsp (eqb a 4) h
  where
    n39 : 39 ≡ length work
    n39 = let k = (told_low (is_low (addr + len) None) (is_low (addr + len) None) (Some 39) (length work) d).2 in cc

    by_rsp : (c : Bool) → some_register (cond c None (Some a)) ≡ Some r → option_map (λ n. event_len b cs + n + 0) (cond (not c) (displaced_len (Exact (Call (Through (Reg a)))) len addr) None) ≡ Some (event_len b cs + length (work_by r work goes to next))
    by_rsp true k = absurd cc
    by_rsp false k =
        let q : Some a ≡ r = cc in
        let l : length (work_by r work goes to next) ≡ 39 = ap (λ z. length (work_by z work goes to next)) (sym q) ∙ call_long a next in
        ap Some (omega (arith, l))
work_long b cs (Exact (Call (Through (High a)))) len addr next to r work goes h g d = absurd cc
work_long b cs (Exact (Call (Through (Mem m)))) len addr next to r work goes h g d = absurd cc
work_long b cs (Exact (Call (Rel z))) len addr next to r work goes h g d = let q : r ≡ None = cc in plain b cs (Exact (Call (Rel z))) len addr next to r work goes q g d
work_long b cs (Exact op) len addr next to r work goes h g d = let q : r ≡ None = cc in plain b cs (Exact op) len addr next to r work goes q g d
work_long b cs (Asked form) len addr next to r work goes h g d = let q : r ≡ None = cc in plain b cs (Asked form) len addr next to r work goes q g d
work_long b cs Ending len addr next to r work goes h g d = let q : r ≡ None = cc in plain b cs Ending len addr next to r work goes q g d

-- the instruction that marks has as many bytes as it is said
mark_bytes : (b : Base) (p i : ℕ) → length (marking_code b p i) ≡ marking_len b
mark_bytes Cover p i = refl
mark_bytes Count p i = refl

-- an event that saves rax has as many bytes as it is said
saving_long : (b : Base) (cs : List Comparison) (p i : ℕ) → length (saving_event b cs p i) ≡ saving_len b cs
saving_long b cs p i = omega (
  arith,
  length-append (checking_code cs (marking_len b)) (marking_code b p i ++ restoring_code),
  length-append (marking_code b p i) restoring_code,
  checking_long cs (marking_len b),
  mark_bytes b p i,
)

-- an event has as many bytes as it is said
pub event_long : (b : Option Kind) (cs : List Comparison) (p i : ℕ) → length (event_if b cs p i) ≡ event_len b cs
event_long (Some (Marks Cover)) [] p i = refl
event_long (Some (Marks Cover)) (c ∷ cs) p i = saving_long Cover (c ∷ cs) p i
event_long (Some (Marks Count)) cs p i = saving_long Count cs p i
event_long (Some (Keeps n)) cs p i = refl
event_long None cs p i = refl

-- a trampoline has the bytes of its event, where there is one, and those after it
pub event_more : (b : Option Kind) (cs : List Comparison) (p i : ℕ) (w : List ℕ) → event_len b cs + length w ≡ length (event_if b cs p i ++ w)
event_more b cs p i w = let n = event_long b cs p i in omega (arith, n, length-append (event_if b cs p i) w)

-- a condition that is asked has a comparison: the event saves rax
pub asked_code : (b : Base) (list : Comparisons) (p i : ℕ) → thread_event b (listed list) p i ≡ saving_event b (listed list) p i
asked_code Cover (One x) p i = refl
asked_code Cover (Two x y) p i = refl
asked_code Cover (Three x y z) p i = refl
asked_code Count list p i = refl

-- and has these bytes
pub asked_len : (b : Base) (list : Comparisons) → event_len (Some (Marks b)) (listed list) ≡ 23 + marking_len b + checking_len (listed list)
asked_len Cover (One x) = omega arith
asked_len Cover (Two x y) = omega arith
asked_len Cover (Three x y z) = omega arith
asked_len Count list = omega arith

-- it has up to three
pub listed_few : (event : Option Action) → length (when_of event) ≤ 3
listed_few None = omega arith
listed_few (Some action.Cover) = omega arith
listed_few (Some action.Count) = omega arith
listed_few (Some (action.Ring n)) = omega arith
listed_few (Some (action.When b (One x))) = omega arith
listed_few (Some (action.When b (Two x y))) = omega arith
listed_few (Some (action.When b (Three x y z))) = omega arith

-- no event has more than 74 bytes
pub event_few : (e : Option Kind) (cs : List Comparison) → length cs ≤ 3 → event_len e cs ≤ 74
event_few (Some (Marks Cover)) [] h = omega arith
event_few (Some (Marks Cover)) (c ∷ cs) h = let n = checking_few (c ∷ cs) in omega (arith, h, n)
event_few (Some (Marks Count)) cs h = let n = checking_few cs in omega (arith, h, n)
event_few (Some (Keeps n)) cs h = omega arith
event_few None cs h = omega arith
