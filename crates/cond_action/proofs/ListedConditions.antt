-- The event under a condition as a list has the code of one, and its steps can be written.
use Rattle.std.proofs.Common.{◌≡◌, ℕ, suc, ◌+◌, ◌*◌, Bool, true, false, List, [], ◌∷◌, ◌++◌, length, take, ◌≤◌, refl, sym, ap, ◌∙◌, arith}
use Rattle.std.proofs.lemmas.Bool.{and_from}
use Rattle.std.proofs.lemmas.List.{append_assoc}
use Rattle.std.specs.List.{list_all}
use Rattle.pun_base.specs.declared.action.Base.{Base}
use Rattle.pun_base.specs.declared.action.Base.TheVariants as base
use Rattle.pun_base.specs.declared.action.CompareOp.{CompareOp}
use Rattle.pun_base.specs.declared.action.CompareOp.TheVariants.{Eq, Ne, Lt, Le, Gt, Ge}
use Rattle.pun_base.specs.declared.action.Comparison.{Comparison}
use Rattle.pun_base.specs.declared.action.Comparisons.{Comparisons}
use Rattle.pun_base.specs.declared.action.Comparisons.TheVariants.{One, Two, Three}
use Rattle.pun_base.specs.Actions.{listed}
use Rattle.relocate_insn.specs.Pieces.{load_rax}
use Rattle.event_steps.specs.declared.step.Datum.{Datum}
use Rattle.event_steps.specs.declared.step.EventStep.{EventStep}
use Rattle.event_steps.specs.EventSteps.{long, code, has_condition}
use Rattle.event_steps.specs.declared.step.EventStep.TheVariants.{FromAl, FromAh, Load, LoadLow, SkipIf}
use Rattle.cond_action.specs.Codes.{keep_flags, give_back, compare_code, failing, comparing, recording, cond_code}
use Rattle.cond_action.specs.CondLists.{marking_step, register_checks, cond_event}

-- checks of registers jump over those behind them and the step that marks
pub register_over : (b : Base) (t : Bool) (n : ℕ) (cs : List Comparison) (back : List EventStep) → long (take (2 * length cs + 1) (register_checks cs ++ (marking_step b false n ∷ back))) ≡ 9 * length cs + 8
register_over base.Cover t n [] back = refl
register_over base.Count t n [] back = refl
register_over b t n (c ∷ cs) back =
    let e : 2 * suc (length cs) + 1 ≡ suc (suc (2 * length cs + 1)) = omega arith in
    let q = register_over b t n cs back in
    ap (λ z. long (take z (register_checks (c ∷ cs) ++ (marking_step b false n ∷ back)))) e ∙ omega (arith, q)

register_code : (b : Base) (n : ℕ) (ds : List Datum) (cs : List Comparison) (back : List EventStep)
    → code ds (register_checks cs ++ (marking_step b false n ∷ back)) ≡ comparing cs ++ code ds (marking_step b false n ∷ back)
register_code b n ds [] back = refl
register_code b n ds (c ∷ cs) back =
    let rest = code ds (marking_step b false n ∷ back) in
    let tail = (0x70 + failing c.op) ∷ (9 * length cs + 8) ∷ comparing cs in
    (λ j. compare_code c.reg c.value ++ ((0x70 + failing c.op) ∷ register_over b false n cs back j ∷ register_code b n ds cs back j))
    ∙ sym (append_assoc (compare_code c.reg c.value) tail rest)

pub cond_code_is : (p i : ℕ) (b : Base) (cs : List Comparison) → code (cond_event b cs p i).uses (cond_event b cs p i).steps ≡ cond_code b cs p i
cond_code_is p i b cs = ap (λ z. keep_flags p ++ (load_rax p ++ z))
    (register_code b 2 (cond_event b cs p i).uses cs (LoadLow 1 ∷ FromAl ∷ FromAh ∷ Load 0 ∷ []) ∙ ap (λ z. comparing cs ++ z) (mark_code b))
  where
    mark_code : (b : Base) → code (cond_event b cs p i).uses (marking_step b false 2 ∷ LoadLow 1 ∷ FromAl ∷ FromAh ∷ Load 0 ∷ []) ≡ recording b p i ++ give_back p
    mark_code base.Cover = refl
    mark_code base.Count = refl

-- the jumps of comparisons have conditions
failing_is : (op : CompareOp) (k : ℕ) → has_condition (SkipIf (failing op) k) ≡ true
failing_is Eq k = refl
failing_is Ne k = refl
failing_is Lt k = refl
failing_is Le k = refl
failing_is Gt k = refl
failing_is Ge k = refl

mark_is : (b : Base) → list_all has_condition (marking_step b false 2 ∷ LoadLow 1 ∷ FromAl ∷ FromAh ∷ Load 0 ∷ []) ≡ true
mark_is base.Cover = refl
mark_is base.Count = refl

checks_are : (b : Base) (cs : List Comparison) → list_all has_condition (register_checks cs ++ (marking_step b false 2 ∷ LoadLow 1 ∷ FromAl ∷ FromAh ∷ Load 0 ∷ [])) ≡ true
checks_are b [] = mark_is b
checks_are b (c ∷ cs) = and_from (has_condition (SkipIf (failing c.op) (2 * length cs + 1))) _ (failing_is c.op (2 * length cs + 1)) (checks_are b cs)

pub conditions_are : (b : Base) (cs : List Comparison) (p i : ℕ) → list_all has_condition (cond_event b cs p i).steps ≡ true
conditions_are b cs p i = checks_are b cs

-- and its steps are at most 80 bytes
pub few_bytes : (b : Base) (list : Comparisons) (p i : ℕ) → long (cond_event b (listed list) p i).steps ≤ 80
few_bytes base.Cover (One x) p i = omega arith
few_bytes base.Cover (Two x y) p i = omega arith
few_bytes base.Cover (Three x y z) p i = omega arith
few_bytes base.Count (One x) p i = omega arith
few_bytes base.Count (Two x y) p i = omega arith
few_bytes base.Count (Three x y z) p i = omega arith
