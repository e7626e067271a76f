-- The bytes of events that use a place alone.
use Rattle.std.proofs.Common.{◌≡◌, ℕ, ◌+◌, ◌*◌, false, List, [], ◌∷◌, ◌++◌, length, refl, sym, ap, ◌∙◌, arith}
use Rattle.std.proofs.lemmas.List.{append_assoc}
use Rattle.pun_base.specs.declared.action.Base.{Base}
use Rattle.pun_base.specs.declared.action.Base.TheVariants as base
use Rattle.pun_base.specs.declared.action.Comparison.{Comparison}
use Rattle.event_steps.specs.declared.step.Datum.{Datum}
use Rattle.event_steps.specs.EventSteps.{long, code}
use Rattle.cond_action.specs.Codes.{compare_code, failing, comparing, recording}
use Rattle.cond_action.specs.CondLists.{marking_step, register_checks}
use Rattle.cond_action.proofs.ListedConditions.{register_over}
use Rattle.bare_events.specs.BareLists.{flags_when, BareBytes}

checks_code : (b : Base) (ds : List Datum) (cs : List Comparison) → code ds (register_checks cs ++ (marking_step b false 0 ∷ [])) ≡ comparing cs ++ code ds (marking_step b false 0 ∷ [])
checks_code b ds [] = refl
checks_code b ds (c ∷ cs) =
    let tail = (0x70 + failing c.op) ∷ (9 * length cs + 8) ∷ comparing cs in
    (λ j. compare_code c.reg c.value ++ ((0x70 + failing c.op) ∷ register_over b false 0 cs [] j ∷ checks_code b ds cs j))
    ∙ sym (append_assoc (compare_code c.reg c.value) tail (code ds (marking_step b false 0 ∷ [])))

mark_code : (b : Base) (p i : ℕ) → code (flags_when b [] p i).uses (marking_step b false 0 ∷ []) ≡ recording b p i
mark_code base.Cover p i = refl
mark_code base.Count p i = refl

when_long : (b : Base) (cs : List Comparison) → long (register_checks cs ++ (marking_step b false 0 ∷ [])) ≡ 9 * length cs + 8
when_long base.Cover [] = refl
when_long base.Count [] = refl
when_long b (c ∷ cs) = let q = when_long b cs in omega (arith, q)

pub bare_bytes : BareBytes
bare_bytes = record {
  count = λ p i. refl;
  rax = λ p i. refl;
  rdi = λ p i. refl;
  r11 = λ p i. refl;
  when = λ b cs p i. checks_code b (flags_when b [] p i).uses cs ∙ ap (λ z. comparing cs ++ z) (mark_code b p i);
  sizes = λ q p i. (refl, refl, refl);
  when_size = λ b cs p i. when_long b cs;
}
