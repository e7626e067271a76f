-- Under a condition the record is that of the base over the events that meet it.
use Rattle.std.proofs.Common.{◌≡◌, ℕ, Bool, true, false, cond, List, [], ◌∷◌, replicate, refl, ap, ◌∙◌}
use Rattle.std.specs.Prelude.{filter, if◌then◌else◌}
use Rattle.pun_base.specs.declared.action.Action.{Action}
use Rattle.pun_base.specs.declared.action.Action.TheVariants.{When}
use Rattle.pun_base.specs.declared.action.Base.{Base}
use Rattle.pun_base.specs.declared.action.Base.TheVariants as base
use Rattle.pun_base.specs.declared.action.Comparisons.{Comparisons}
use Rattle.cond_action.specs.Conditions.{holds}
use Rattle.trampoline.specs.Events.{Seen, base_mark, mark, marked}
use Rattle.list_text.specs.Words.{always}
use Rattle.rewrite_core.specs.Glosses.{WhenRecord}

-- a base's mark is that of its action
mark_always : (b : Base) (i : ℕ) (regs bytes : List ℕ) → base_mark b i bytes ≡ mark (always b) i regs bytes
mark_always base.Cover i regs bytes = refl
mark_always base.Count i regs bytes = refl

-- each event is recorded where its registers meet the condition, and otherwise is none
marked_when : (b : Base) (list : Comparisons) (events : List Seen) (bytes : List ℕ)
    → marked (When b list) events bytes ≡ marked (always b) (filter (λ (e : Seen). holds list e.regs) events) bytes
marked_when b list [] bytes = refl
marked_when b list (e ∷ es) bytes =
    by_test (filter (λ (x : Seen). holds list x.regs) es) (holds list e.regs) (marked_when b list es (base_mark b e.number bytes))
    (marked_when b list es bytes)
  where
    by_test : (met : List Seen) (t : Bool)
        → marked (When b list) es (base_mark b e.number bytes) ≡ marked (always b) met (base_mark b e.number bytes)
        → marked (When b list) es bytes ≡ marked (always b) met bytes
        → marked (When b list) es (if t then base_mark b e.number bytes else bytes)
        ≡ marked (always b) (cond t (e ∷ met) met) bytes
    by_test met true h k = h ∙ ap (marked (always b) met) (mark_always b e.number e.regs bytes)
    by_test met false h k = k

-- under a condition the record is that of the base over the events whose registers meet it
pub when_same : WhenRecord
when_same r events b list w =
    ap (λ (z : Action). marked z events (replicate r.data_len 0)) w ∙ marked_when b list events (replicate r.data_len 0)
