-- The word that names an action. Theorems cite it.
use Rattle.std.specs.Prelude.{ℕ, List, [], ◌∷◌, ◌++◌, get_or, codes}
use Rattle.std.specs.Fmt.{decimal}
use Rattle.pun_base.specs.Actions.{listed}
use Rattle.pun_base.specs.declared.action.Action.{Action}
use Rattle.pun_base.specs.declared.action.Action.TheVariants.{Cover, Count, Ring, When}
use Rattle.pun_base.specs.declared.action.Base.{Base}
use Rattle.pun_base.specs.declared.action.Base.TheVariants as base
use Rattle.pun_base.specs.declared.action.CompareOp.{CompareOp}
use Rattle.pun_base.specs.declared.action.CompareOp.TheVariants.{Eq, Ne, Lt, Le, Gt, Ge}
use Rattle.pun_base.specs.declared.action.Comparison.{Comparison}

-- The registers' names in the order of their codes (Intel SDM, volume 2, table 2-4).
abbrev pub register_names : List (List ℕ)
register_names =
    codes "rax" ∷ codes "rcx" ∷ codes "rdx" ∷ codes "rbx" ∷ codes "rsp" ∷ codes "rbp" ∷ codes "rsi" ∷ codes "rdi"
    ∷ codes "r8" ∷ codes "r9" ∷ codes "r10" ∷ codes "r11" ∷ codes "r12" ∷ codes "r13" ∷ codes "r14" ∷ codes "r15" ∷ []

-- The name of a register.
abbrev pub register_name : ℕ → List ℕ
register_name reg = get_or register_names reg []

-- The sign of a comparison.
abbrev pub op_name : CompareOp → List ℕ
op_name Eq = codes "=="
op_name Ne = codes "!="
op_name Lt = codes "<"
op_name Le = codes "<="
op_name Gt = codes ">"
op_name Ge = codes ">="

-- A register, an operator and a number, parted by blanks.
abbrev pub comparison_text : Comparison → List ℕ
comparison_text c = register_name c.reg ++ (codes " " ++ (op_name c.op ++ (codes " " ++ decimal c.value)))

-- Comparisons, joined by `and`.
abbrev pub condition_text : List Comparison → List ℕ
condition_text [] = []
condition_text (c ∷ []) = comparison_text c
condition_text (c ∷ d ∷ cs) = comparison_text c ++ (codes " and " ++ condition_text (d ∷ cs))

-- The word of cover and of count, the two that a condition may stand with.
abbrev pub base_name : Base → List ℕ
base_name base.Cover = codes "cover"
base_name base.Count = codes "count"

-- The word of an action.
abbrev pub action_word : Action → List ℕ
action_word Cover = codes "cover"
action_word Count = codes "count"
action_word (Ring len) = codes "ring:" ++ decimal len
action_word (When b list) = base_name b ++ (codes " when " ++ condition_text (listed list))
