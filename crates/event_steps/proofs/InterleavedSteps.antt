-- Threads in events, while others step in between.
use Rattle.std.proofs.Common.{◌≡◌, inl, inr, ℕ, zero, suc, ◌+◌, ◌^◌, ◌<◌, Bool, true, false, List, [], ◌∷◌, take, drop, refl, sym, ap, ◌∙◌, subst, arith}
use Rattle.pun_base.specs.Memory.{Bytes}
use Rattle.cpu_state.specs.declared.state.Core.{Core}
use Rattle.cpu_state.specs.Bytes.{number_at}
use Rattle.cpu_state.specs.Fixed.{IsFixed}
use Rattle.insn_form.specs.Machine.{Machine}
use Rattle.relocate_insn.proofs.FixedCode.{fixed_on}
use Rattle.event_steps.proofs.ByteRanges.{number_on}
use Rattle.event_steps.specs.declared.step.Place.{Place}
use Rattle.event_steps.specs.declared.step.Datum.{Datum}
use Rattle.event_steps.specs.declared.step.EventStep.{EventStep}
use Rattle.event_steps.specs.EventSteps.{size, long, code, AreSteps}
use Rattle.event_steps.specs.MadeSteps.{skipped, after}
use Rattle.event_steps.specs.DoneSteps.{Local, started, done, address, Hold, StandsBy}
use Rattle.event_steps.specs.EventSteps.Mode.{Shared}
use Rattle.event_steps.specs.declared.step.Place.TheVariants.{At, Below}
use Rattle.event_steps.specs.Interleaved.{Listed, numbers_in, IsKeptAt, AreKept, Meanwhile, Reaches, IsIn, IsWell, ComesIn, GoesOn, CanGoOn, is_own_place, IsOwn, StaysIn}
use Rattle.event_steps.proofs.ListedCode.{step_told, step_goes, step_leads, same_code, rest_stands}
use Rattle.event_steps.proofs.LocalSteps.{steps_done, step_done}

-- data hold what they hold
pub held_now : (ds : List Datum) (c : Core) (m : Bytes) → Hold ds c m (numbers_in ds c m)
held_now [] c m = refl
held_now (d ∷ ds) c m = ((λ t. refl), held_now ds c m)

-- what stays while others step stays while they step on
kept_at : (n : Bool) (p : Place) (x y z : ℕ) → IsKeptAt n p x y → IsKeptAt n p y z → IsKeptAt n p x z
kept_at true (Below d) x y z h k = k ∙ h
kept_at true (At a) x y z h k = tt
kept_at false p x y z h k = tt

are_kept : (ds : List Datum) (xs ys zs : List ℕ) → AreKept ds xs ys → AreKept ds ys zs → AreKept ds xs zs
are_kept [] xs ys zs h k = (h.0, k.1)
are_kept (d ∷ ds) [] ys zs h k = absurd h
are_kept (d ∷ ds) (x ∷ xs) [] zs h k = absurd h
are_kept (d ∷ ds) (x ∷ xs) (y ∷ ys) [] h k = absurd k
are_kept (d ∷ ds) (x ∷ xs) (y ∷ ys) (z ∷ zs) h k = (kept_at d.number d.place x y z h.0 k.0, are_kept ds xs ys zs h.1 k.1)

meanwhile : (ds : List Datum) (l m n : Local) → Meanwhile ds l m → Meanwhile ds m n → Meanwhile ds l n
meanwhile ds l m n h k = (k.0 ∙ h.0, k.1 ∙ h.1, are_kept ds l.held m.held n.held h.2 k.2)

-- so a thread reaches with what it reaches with before
pub reaches_on : (ds : List Datum) (k : ℕ) (ss rest : List EventStep) (l m n : Local) → Reaches ds k ss rest l m → Meanwhile ds m n → Reaches ds k ss rest l n
reaches_on ds zero [] rest l m n h k = (h.0, meanwhile ds l m n h.1 k)
reaches_on ds (suc j) [] rest l m n h k = (h.0, meanwhile ds l m n h.1 k)
reaches_on ds (suc j) (s ∷ ss) rest l m n h k = reaches_on ds j ss rest l m n h k
reaches_on ds zero (s ∷ ss) rest l m n (inl h) k = inl (h.0, meanwhile ds l m n h.1 k)
reaches_on ds zero (s ∷ ss) rest l m n (inr h) k = inr (h.0, h.1, reaches_on ds (skipped s h.0.core) ss rest (done s h.0) m n h.2 k)

-- what it holds stays while none steps
kept_self : (n : Bool) (p : Place) (x : ℕ) → IsKeptAt n p x x
kept_self true (Below d) x = refl
kept_self true (At a) x = tt
kept_self false p x = tt

pub all_kept : (ds : List Datum) (c : Core) (m : Bytes) (xs : List ℕ) → Hold ds c m xs → AreKept ds xs xs
all_kept [] c m xs h = (h, h)
all_kept (d ∷ ds) c m [] h = absurd h
all_kept (d ∷ ds) c m (x ∷ xs) h = (kept_self d.number d.place x, all_kept ds c m xs h.1)

-- a thread in front of steps reaches the first that isn't left out
reaches_here : (ds : List Datum) (k : ℕ) (ss : List EventStep) (l : Local) → AreKept ds l.held l.held → Reaches ds k ss (drop k ss) l l
reaches_here ds zero [] l h = (refl, (refl, refl, h))
reaches_here ds (suc k) [] l h = (refl, (refl, refl, h))
reaches_here ds zero (s ∷ ss) l h = inl (refl, (refl, refl, h))
reaches_here ds (suc k) (s ∷ ss) l h = reaches_here ds k ss l h

same_head : (s t : EventStep) (ss ts : List EventStep) → s ∷ ss ≡ t ∷ ts → s ≡ t
same_head s t ss ts e = cc

same_tail : (s t : EventStep) (ss ts : List EventStep) → s ∷ ss ≡ t ∷ ts → ss ≡ ts
same_tail s t ss ts e = cc

-- and by one step more the next one
pub reaches_more : (ds : List Datum) (k : ℕ) (ss : List EventStep) (s : EventStep) (rest : List EventStep) (l m : Local) → Reaches ds k ss (s ∷ rest) l m
    → AreKept ds (done s m).held (done s m).held → Reaches ds k ss (drop (skipped s m.core) rest) l (done s m)
reaches_more ds zero [] s rest l m h k = absurd (nothing h.0)
  where
    nothing : s ∷ rest ≡ [] → ⊥
    nothing e = absurd cc
reaches_more ds (suc j) [] s rest l m h k = absurd (nothing h.0)
  where
    nothing : s ∷ rest ≡ [] → ⊥
    nothing e = absurd cc
reaches_more ds (suc j) (t ∷ ss) s rest l m h k = reaches_more ds j ss s rest l m h k
reaches_more ds zero (t ∷ ss) s rest l m (inl h) k =
    let e = same_head s t rest ss h.0 in
    let q = same_tail s t rest ss h.0 in
    inr (
      m,
      h.1,
      subst (λ (u : EventStep). Reaches ds (skipped u m.core) ss (drop (skipped s m.core) rest) (done u m) (done s m)) e
          (subst (λ (us : List EventStep). Reaches ds (skipped s m.core) us (drop (skipped s m.core) rest) (done s m) (done s m)) q (reaches_here ds (skipped s m.core) rest (done s m) k)),
    )
reaches_more ds zero (t ∷ ss) s rest l m (inr h) k = inr (h.0, h.1, reaches_more ds (skipped t h.0.core) ss s rest (done t h.0) m h.2 k)

-- the steps in front of which it stands are the last ones, and their code stands
pub record IsLast (ds : List Datum) (at : ℕ) (ss rest : List EventStep) (m : Bytes) : Type 0 where
  steps : AreSteps Shared ds rest
  place : ℕ
  here : place + long rest ≡ at + long ss
  stands : IsFixed m place (code ds rest)

pub last_ones : (ds : List Datum) (k : ℕ) (ss rest : List EventStep) (l n : Local) (at : ℕ) (m : Bytes) → Reaches ds k ss rest l n → AreSteps Shared ds ss → at + long ss < 2 ^ 31
    → IsFixed m at (code ds ss) → IsLast ds at ss rest m
last_ones ds zero [] rest l n at m h a low c = subst (λ (us : List EventStep). IsLast ds at [] us m) (sym h.0) (record { steps = tt; place = at; here = refl; stands = tt })
last_ones ds (suc j) [] rest l n at m h a low c = subst (λ (us : List EventStep). IsLast ds at [] us m) (sym h.0) (record { steps = tt; place = at; here = refl; stands = tt })
last_ones ds (suc j) (s ∷ ss) rest l n at m h a low c =
    let q = last_ones ds j ss rest l n (at + size s) m h a.3 (omega (arith, low)) (rest_stands m ds at s ss low c) in
    record { steps = q.steps; place = q.place; here = omega (arith, q.here); stands = q.stands }
last_ones ds zero (s ∷ ss) rest l n at m (inl h) a low c = subst (λ (us : List EventStep). IsLast ds at (s ∷ ss) us m) (sym h.0) (record { steps = a; place = at; here = refl; stands = c })
last_ones ds zero (s ∷ ss) rest l n at m (inr h) a low c =
    let q = last_ones ds (skipped s h.0.core) ss rest (done s h.0) n (at + size s) m h.2 a.3 (omega (arith, low)) (rest_stands m ds at s ss low c) in
    record { steps = q.steps; place = q.place; here = omega (arith, q.here); stands = q.stands }

-- a thread that comes to an event is in it
pub comes_in : ComesIn
comes_in e place v r c =
    let now = started v.core (numbers_in e.uses v.core v.mem) in
    let h = held_now e.uses v.core v.mem in
    record {
      began = numbers_in e.uses v.core v.mem;
      now = now;
      came = reaches_here e.uses 0 e.steps now (all_kept e.uses v.core v.mem now.held h);
      beside = record { core = refl; stack = refl; hold = h };
      rip = ap (λ z. z + long e.steps) r;
      stands = c;
    }

-- at which step it stands
at_step : (e : Listed) (place : ℕ) (c : Core) (s : EventStep) (rest : List EventStep) (v : Machine) → IsWell e place c → IsIn e place c (s ∷ rest) v → IsLast e.uses place e.steps (s ∷ rest) v.mem
at_step e place c s rest v w h = last_ones e.uses 0 e.steps (s ∷ rest) (started c h.began) h.now place v.mem h.came w.steps w.below h.stands

-- how far the steps behind those that are left out reach
dropped : (k : ℕ) (ss : List EventStep) → long (take k ss) + long (drop k ss) ≡ long ss
dropped zero ss = omega arith
dropped (suc k) [] = refl
dropped (suc k) (s ∷ ss) = let q = dropped k ss in omega (arith, q)

-- each step that it makes is that step's
pub goes_on : GoesOn
goes_on e place c s rest v w well h fits st =
    let ds = e.uses in
    let q = at_step e place c s rest v well h in
    let r : v.rip ≡ q.place = (let a = h.rip in let b = q.here in omega (arith, a, b)) in
    let low : q.place + long (s ∷ rest) < 2 ^ 31 = (let b = q.here in let l = well.below in omega (arith, b, l)) in
    let t = step_told Shared ds s rest q.place v w q.steps low r q.stands st in
    let d = step_done Shared ds c s rest q.place h.now v q.steps.0 q.steps.1 well.low well.apart fits h.beside t.0 in
    let same = h.beside.core in
    let more = reaches_more ds 0 e.steps s rest (started c h.began) h.now h.came (all_kept ds c (after ds s rest q.place v).mem (done s h.now).held d.beside.hold) in
    let leads = step_leads ds s rest q.place v low q.steps.2 in
    let far = dropped (skipped s v.core) rest in (
      record {
        began = h.began;
        now = done s h.now;
        came = subst (λ (z : Core). Reaches ds 0 e.steps (drop (skipped s z) rest) (started c h.began) (done s h.now)) (sym same) more;
        beside = subst (StandsBy ds c (done s h.now)) (sym t.1) d.beside;
        rip = (let a = ap (λ (z : Machine). z.rip) t.1 ∙ leads in let b = q.here in omega (arith, a, b, far));
        stands = fixed_on v.mem w.mem place (code ds e.steps) (same_code Shared v w st) h.stands;
      },
      ap (λ (z : Machine). z.mem) t.1 ∙ d.mem,
      ap (λ (z : Machine). z.world) t.1 ∙ d.world,
    )

-- it can make it
pub can_go_on : CanGoOn
can_go_on e place c s rest v well free h fits =
    let ds = e.uses in
    let q = at_step e place c s rest v well h in
    let r : v.rip ≡ q.place = (let a = h.rip in let b = q.here in omega (arith, a, b)) in
    let low : q.place + long (s ∷ rest) < 2 ^ 31 = (let b = q.here in let l = well.below in omega (arith, b, l)) in
    let d = steps_done Shared ds c s rest q.place h.now v q.steps.0 q.steps.1 well.low well.apart free fits h.beside in
    (after ds s rest q.place v, step_goes Shared ds s rest q.place v q.steps low r q.stands d.0)

-- while others keep its own data those hold what they held
own_stay : (ds : List Datum) (c : Core) (m w : Bytes) (xs : List ℕ) → ((x : ℕ) → IsOwn ds c x → w x ≡ m x) → Hold ds c m xs → AreKept ds xs (numbers_in ds c w)
own_stay [] c m w xs k h = (h, refl)
own_stay (d ∷ ds) c m w [] k h = absurd h
own_stay (d ∷ ds) c m w (x ∷ xs) k h = (one d.number refl d.place refl, own_stay ds c m w xs (λ y o. k y (inr o)) h.1)
  where
    z : ℕ
    z = number_at w (address d.place c) d.size

    one : (n : Bool) → d.number ≡ n → (p : Place) → d.place ≡ p → IsKeptAt d.number d.place x z
    one true t (Below b) e =
        subst (λ (q : Bool). IsKeptAt q d.place x z) (sym t) (subst (λ (q : Place). IsKeptAt true q x z) (sym e)
        (number_on m w (address d.place c) d.size (λ y i. k y (inl (ap is_own_place e, i))) ∙ h.0 t))
    one true t (At a) e = subst (λ (q : Bool). IsKeptAt q d.place x z) (sym t) (subst (λ (q : Place). IsKeptAt true q x z) (sym e) tt)
    one false t p e = subst (λ (q : Bool). IsKeptAt q d.place x z) (sym t) tt

-- and it stays in front of its steps
pub stays_in : StaysIn
stays_in e place c rest v w h core rip same own =
    let ds = e.uses in
    let now : Local = record { core = h.now.core; held = numbers_in ds c w.mem; marked = h.now.marked } in
    record {
      began = h.began;
      now = now;
      came = reaches_on ds 0 e.steps rest (started c h.began) h.now now h.came (refl, refl, own_stay ds c v.mem w.mem h.now.held own h.beside.hold);
      beside = record { core = core ∙ h.beside.core; stack = h.beside.stack; hold = held_now ds c w.mem };
      rip = ap (λ z. z + long rest) rip ∙ h.rip;
      stands = fixed_on v.mem w.mem place (code ds e.steps) same h.stands;
    }
