-- The lists of the events of threads have their code.
use Rattle.std.proofs.Common.{◌≡◌, ℕ, zero, suc, ◌+◌, ◌*◌, Bool, true, false, not, eqb, if◌then◌else◌, List, [], ◌∷◌, ◌++◌, length, take, refl, sym, ap, ◌∙◌, arith}
use Rattle.std.proofs.lemmas.List.{append_assoc}
use Rattle.pun_base.specs.declared.action.Base.{Base}
use Rattle.pun_base.specs.declared.action.Base.TheVariants as base
use Rattle.pun_base.specs.declared.action.Comparison.{Comparison}
use Rattle.length_decode.specs.Spelling.{spelling}
use Rattle.cond_action.specs.Codes.{failing}
use Rattle.thread_runs.specs.ThreadCode.{saving_code, restoring_code, marking_code, marking_len, compare_with, compare_len, checking_len, checking_code, saving_event, ring_event, keep_ax, load_one, claiming_code, position_at, take_ax}
use Rattle.trampoline.specs.Events.{put_slot}
use Rattle.event_steps.specs.declared.step.Datum.{Datum}
use Rattle.event_steps.specs.declared.step.EventStep.{EventStep}
use Rattle.event_steps.specs.EventSteps.{size, long, over, fields_of, code, place_in}
use Rattle.event_steps.specs.declared.step.EventStep.TheVariants.{FromAl, FromAh, Store, Load, IntoAh, IntoAl, SetLow, Claim, Reduce, Put, SkipIf}
use Rattle.event_steps.specs.declared.step.Place.TheVariants.{At, Below}
use Rattle.thread_runs.specs.ThreadLists.{thread_ring_list, eight_below, comparing_step, checks, saving_thread_event, AreThreadLists}
use Rattle.trampoline.specs.EventLists.{marked_datum, marking_step}

-- the code of a comparison, and how long it is
compare_is : (r n d : ℕ) (ds : List Datum) → spelling (fields_of (comparing_step r n) (place_in (eight_below 136 ∷ ds) (comparing_step r n)) d) ≡ compare_with r n
compare_is zero n d ds = refl
compare_is (suc r) n d ds = refl

pub compare_size : (r n : ℕ) → size (comparing_step r n) ≡ compare_len r
compare_size zero n = refl
compare_size (suc r) n = refl

pub mark_size : (b : Base) → size (marking_step b true 1) ≡ marking_len b
mark_size base.Cover = refl
mark_size base.Count = refl

-- comparisons jump over those behind them and the step that marks
pub checks_over : (b : Base) (cs : List Comparison) (back : List EventStep) → long (take (2 * length cs + 1) (checks cs ++ (marking_step b true 1 ∷ back))) ≡ checking_len cs + marking_len b
checks_over b [] back = let q = mark_size b in omega (arith, q)
checks_over b (c ∷ cs) back =
    let n : 2 * suc (length cs) + 1 ≡ suc (suc (2 * length cs + 1)) = omega arith in
    let q = checks_over b cs back in
    let s = compare_size c.reg c.value in
    ap (λ z. long (take z (checks (c ∷ cs) ++ (marking_step b true 1 ∷ back)))) n ∙ omega (arith, q, s)

-- their code is that of events of threads
checks_code : (b : Base) (ds : List Datum) (cs : List Comparison) (back : List EventStep)
    → code (eight_below 136 ∷ ds) (checks cs ++ (marking_step b true 1 ∷ back)) ≡ checking_code cs (marking_len b) ++ code (eight_below 136 ∷ ds) (marking_step b true 1 ∷ back)
checks_code b ds [] back = refl
checks_code b ds (c ∷ cs) back =
    let rest = code (eight_below 136 ∷ ds) (marking_step b true 1 ∷ back) in
    let tail = (0x70 + failing c.op) ∷ (checking_len cs + marking_len b) ∷ checking_code cs (marking_len b) in
    (λ j. compare_is c.reg c.value (over (comparing_step c.reg c.value) (SkipIf (failing c.op) (2 * length cs + 1) ∷ (checks cs ++ (marking_step b true 1 ∷ back)))) ds j ++ ((0x70 + failing c.op) ∷ checks_over b cs back j ∷ checks_code b ds cs back j))
    ∙ sym (append_assoc (compare_with c.reg c.value) tail rest)

when_code : (p i : ℕ) (b : Base) (cs : List Comparison) → code (saving_thread_event b cs p i).uses (saving_thread_event b cs p i).steps ≡ saving_event b cs p i
when_code p i b cs = ap (λ z. saving_code ++ z) (checks_code b (marked_datum b p i ∷ []) cs (FromAl ∷ FromAh ∷ Load 0 ∷ []) ∙ ap (λ z. checking_code cs (marking_len b) ++ z) (mark_code b))
  where
    mark_code : (b : Base) → code (eight_below 136 ∷ marked_datum b p i ∷ []) (marking_step b true 1 ∷ FromAl ∷ FromAh ∷ Load 0 ∷ []) ≡ marking_code b p i ++ restoring_code
    mark_code base.Cover = refl
    mark_code base.Count = refl

-- and that of a ring
ring_code : (p i n : ℕ) → code (thread_ring_list n p i).uses (thread_ring_list n p i).steps ≡ ring_event n p i
ring_code p i n = by_kind (eqb n 256)
  where
    by_kind : (b : Bool) → spelling (fields_of (Store 0) (Below 136) 0) ++ (spelling (fields_of IntoAh (Below 136) 0) ++ (spelling (fields_of IntoAl (Below 136) 0) ++ (spelling (fields_of (Store 1) (Below 144) 0) ++ (spelling (fields_of (SetLow 1) (Below 136) 0)
        ++ (spelling (fields_of (Claim 2) (At (p + 64)) 0) ++ (spelling (fields_of (Reduce (not b)) (Below 136) 0) ++ code (thread_ring_list n p i).uses (Put 3 (i + 1) ∷ Load 1 ∷ FromAl ∷ FromAh ∷ Load 0 ∷ [])))))))
        ≡ saving_code ++ (keep_ax ++ (load_one ++ (claiming_code (position_at p) ++ ((0x0f ∷ (if b then 0xb6 else 0xb7) ∷ 0xc0 ∷ []) ++ (put_slot (p + 68) (i + 1) ++ (take_ax ++ restoring_code))))))
    by_kind true = refl
    by_kind false = refl

-- so each has
pub are_thread_lists : AreThreadLists
are_thread_lists p i = record { cover = refl; saving = when_code p i; ring = λ n. ring_code p i n }
