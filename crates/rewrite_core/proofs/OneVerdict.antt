-- An input is judged in one way at most.
use Rattle.std.proofs.Common.{◌≡◌, ◌↔◌, ℕ, inl, inr, true, List, [], ◌∷◌, Option, Some, None, Result, Ok, Err, refl, sym, ap, ◌∙◌, subst, arith}
use Rattle.std.specs.List.{AllByRecursion}
use Rattle.std.specs.List.Sorted.{IsStrictlyIncreasing}
use Rattle.std.specs.Option.{is_some}
use mathlib.Core.List.{reverse_aux}
use Rattle.std.proofs.lemmas.Bool.{cond-true}
use Rattle.elf_read.specs.Refusals.{refusal}
use Rattle.elf_read.specs.declared.refusal.ElfError.{ElfError}
use Rattle.elf_emit.specs.Job as written
use Rattle.elf_emit.specs.declared.emit.EmitError.TheVariants as emit
use Rattle.start_entries.specs.declared.entry.StartEntry.{StartEntry}
use Rattle.start_entries.specs.declared.refusal.StartError.{StartError}
use Rattle.start_entries.specs.Entries.{entries_of}
use Rattle.start_entries.specs.Finding.{addresses, entry_at}
use Rattle.start_entries.specs.Refusals.{first_refusal}
use Rattle.start_entries.proofs.StartsSoFar.{addresses-entries}
use Rattle.pun_base.specs.Least.{Least}
use Rattle.address_space.specs.Fit.{FitsPages}
use Rattle.site_turns.specs.declared.error.TurnError.TheVariants as turn
use Rattle.site_turns.specs.PrivateRange.{pages_for}
use Rattle.site_turns.specs.States.{Scene}
use Rattle.site_turns.specs.Laws.{AreSites}
use Rattle.site_turns.specs.Modes.{TurnRules, event_rules}
use Rattle.site_turns.specs.Planning.{Request, Turns, AreTurnsUnder, first_unlisted, taken_at_first, private_pages, scene_under}
use Rattle.site_turns.specs.PlanLaws.{IsAsked}
use Rattle.site_turns.proofs.RequestScene.{sites_long}
use Rattle.rewrite_core.specs.Asked.{Asked, IsInOrder, request_of}
use Rattle.rewrite_core.specs.Judging.{Job, IsJobFor, HasStarts, writing_of, IsPlanRefused, JudgesPlanBy, JudgesTable, JudgesBy}
use Rattle.rewrite_core.specs.declared.rewrite.RewriteError.{RewriteError}
use Rattle.rewrite_core.specs.declared.rewrite.RewriteError.TheVariants as rewrite
use Rattle.rewrite_core.specs.Laws.{JudgesInTurn, JudgedInTurn, AreJudgedOnce, PlannedOnce, JudgedOnce}
use Rattle.rewrite_core.proofs.OneJob.{job_once}

-- what holds of all in a list, turned round in front of another, holds of all in both
pub all_round : {X : Type 0} (P : X → Type 0) (xs ys : List X) → AllByRecursion P (reverse_aux xs ys)
    → AllByRecursion P xs × AllByRecursion P ys
all_round P [] ys h = (tt, h)
all_round P (x ∷ xs) ys h = let k = all_round P xs (x ∷ ys) h in ((k.1.0, k.0), k.1.1)

-- a site is listed
abbrev pub IsListed : List StartEntry → ℕ → Type 0
IsListed es s = is_some (entry_at es s) ≡ true

-- where a scene's sites are these entries, each is listed
pub are_listed : (g : Scene) (es : List StartEntry) → AreSites g es → AllByRecursion (IsListed g.entries) (addresses es)
are_listed g [] h = tt
are_listed g (e ∷ es) h = (ap (λ (o : Option StartEntry). is_some o) h.0, are_listed g es h.2)

-- where each site is listed, none is missing
pub none_unlisted : (es : List StartEntry) (ss : List ℕ) → AllByRecursion (IsListed es) ss → first_unlisted es ss ≡ None
none_unlisted es [] h = refl
none_unlisted es (s ∷ ss) h = cond-true (is_some (entry_at es s)) (first_unlisted es ss) (Some s) h.0 ∙ none_unlisted es ss h.1

-- where a request has turns by any rules, each site is listed
pub all_listed : (r : TurnRules) (q : Request) (t : Turns) → AreTurnsUnder r q t → first_unlisted q.listed q.sites ≡ None
all_listed r q t h =
    let listed = subst (λ (ss : List ℕ). AllByRecursion (IsListed q.listed) ss) h.sites
    (are_listed (scene_under r q t) t.entries h.turns.sites) in
    none_unlisted q.listed q.sites (all_round (IsListed q.listed) q.sites [] listed).0

-- where a request has turns by any rules, there is a private range
pub has_private : (r : TurnRules) (q : Request) (t : Turns) → AreTurnsUnder r q t
    → Least (FitsPages (taken_at_first q) (private_pages q)) None → ⊥
has_private r q t h none =
    none t.private.lo
    (subst (λ (n : ℕ). FitsPages (taken_at_first q) (pages_for q.action n) t.private.lo) (sites_long t.entries q.sites h.sites)
    h.turns.private.least.good)

-- the request of an input in order whose starts are not refused can be planned
pub asked_of : (a : Asked) → IsInOrder a → HasStarts a → IsAsked (request_of a)
asked_of a o h =
    let same : addresses (entries_of a.file a.starts) ≡ a.starts = addresses-entries a.file a.starts in
    record {
      bytes = o.bytes;
      accepted = h.accepted;
      built = record {
        ascending = subst (λ (z : List ℕ). IsStrictlyIncreasing z) (sym same) o.starts;
        entries = ap (entries_of a.file) (sym same);
        none = ap (first_refusal a.file) same ∙ h.none;
      };
      few = o.few;
    }

-- ---- the plan

-- a refused file
file_first : (a : Asked) (e : ElfError) (w : RewriteError) → refusal 0x20000 a.file ≡ Some e → IsPlanRefused a w → rewrite.Elf e ≡ w
file_first a e (rewrite.Elf f) x y = let k : e ≡ f = cc in ap rewrite.Elf k
file_first a e (rewrite.Start f) x y = let k = y.0 in absurd cc
file_first a e (rewrite.Turn (turn.NotListed site)) x y = let k = y.0.accepted in absurd cc
file_first a e (rewrite.Turn (turn.NoPrivate pages)) x y = let k = y.0.accepted in absurd cc
file_first a e other x y = absurd y

-- a refused start of an accepted file
start_first : (a : Asked) (e : StartError) (w : RewriteError) → refusal 0x20000 a.file ≡ None → first_refusal a.file a.starts ≡ Some e
    → IsPlanRefused a w → rewrite.Start e ≡ w
start_first a e (rewrite.Elf f) r x y = absurd cc
start_first a e (rewrite.Start f) r x y = let k = y.1 in let i : e ≡ f = cc in ap rewrite.Start i
start_first a e (rewrite.Turn (turn.NotListed site)) r x y = let k = y.0.none in absurd cc
start_first a e (rewrite.Turn (turn.NoPrivate pages)) r x y = let k = y.0.none in absurd cc
start_first a e other r x y = absurd y

-- a site that isn't listed
site_first : (a : Asked) (s : ℕ) (w : RewriteError) → HasStarts a → first_unlisted (request_of a).listed a.sites ≡ Some s → IsPlanRefused a w
    → rewrite.Turn (turn.NotListed s) ≡ w
site_first a s (rewrite.Elf f) h x y = let k = h.accepted in absurd cc
site_first a s (rewrite.Start f) h x y = let k = h.none in let i = y.1 in absurd cc
site_first a s (rewrite.Turn (turn.NotListed site)) h x y =
    let k = y.1 in let i : s ≡ site = cc in ap (λ z. rewrite.Turn (turn.NotListed z)) i
site_first a s (rewrite.Turn (turn.NoPrivate pages)) h x y = let k = y.1.0 in absurd cc
site_first a s other h x y = absurd y

-- where no private range is left, the plan is refused for this and for nothing else
range_first : (a : Asked) (n : ℕ) (w : RewriteError) → HasStarts a → first_unlisted (request_of a).listed a.sites ≡ None
    → n ≡ private_pages (request_of a) → IsPlanRefused a w → rewrite.Turn (turn.NoPrivate n) ≡ w
range_first a n (rewrite.Elf f) h x p y = let k = h.accepted in absurd cc
range_first a n (rewrite.Start f) h x p y = let k = h.none in let i = y.1 in absurd cc
range_first a n (rewrite.Turn (turn.NotListed site)) h x p y = let k = y.1 in absurd cc
range_first a n (rewrite.Turn (turn.NoPrivate pages)) h x p y =
    let i : n ≡ pages = p ∙ sym y.1.1 in ap (λ z. rewrite.Turn (turn.NoPrivate z)) i
range_first a n other h x p y = absurd y

-- there is one reason at most why a plan is refused
refused_once : (a : Asked) (e f : RewriteError) → IsPlanRefused a e → IsPlanRefused a f → e ≡ f
refused_once a (rewrite.Elf e) f x y = file_first a e f x y
refused_once a (rewrite.Start e) f x y = start_first a e f x.0 x.1 y
refused_once a (rewrite.Turn (turn.NotListed s)) f x y = site_first a s f x.0 x.1 y
refused_once a (rewrite.Turn (turn.NoPrivate n)) f x y = range_first a n f x.0 x.1.0 x.1.1 y
refused_once a other f x y = absurd x

-- where a request has turns by any rules, its plan isn't refused
not_refused : (a : Asked) (e : RewriteError) (r : TurnRules) (t : Turns) → HasStarts a → AreTurnsUnder r (request_of a) t → IsPlanRefused a e → ⊥
not_refused a (rewrite.Elf f) r t h x y = let k = h.accepted in absurd cc
not_refused a (rewrite.Start f) r t h x y = let k = h.none in let l = y.1 in absurd cc
not_refused a (rewrite.Turn (turn.NotListed site)) r t h x y = let k = all_listed r (request_of a) t x in let l = y.1 in absurd cc
not_refused a (rewrite.Turn (turn.NoPrivate pages)) r t h x y = has_private r (request_of a) t x y.1.2
not_refused a other r t h x y = y

-- ---- and then the table, for any kind of rewriting whose jobs have turns, and of which a request has one at most

module _ {J : Type 0} (IsJob : Request → J → Type 0) (writing : J → written.Job) (rules : Request → TurnRules)
    (turned : (q : Request) (j : J) → IsJob q j → (t : Turns) × AreTurnsUnder (rules q) q t)
    (once : (q : Request) (i j : J) → IsAsked q → IsJob q i → IsJob q j → i ≡ j) where
  -- a refused plan and a planned job are two verdicts
  no_both : (a : Asked) (e : RewriteError) (j : J) → JudgesPlanBy IsJob a (Err e) → JudgesPlanBy IsJob a (Ok j) → ⊥
  no_both a e j x y = let t = turned (request_of a) j y.1 in not_refused a e (rules (request_of a)) t.0 y.0 t.1 x

  -- of two verdicts on an input's plan the first is the second
  pub plan_once : AreJudgedOnce (JudgesPlanBy IsJob)
  plan_once a (Err e) (Err f) o x y = ap Err (refused_once a e f x y)
  plan_once a (Err e) (Ok j) o x y = absurd (no_both a e j x y)
  plan_once a (Ok i) (Err f) o x y = absurd (no_both a f i y x)
  plan_once a (Ok i) (Ok j) o x y = ap Ok (once (request_of a) i j (asked_of a o x.0) x.1 y.1)

  -- the parts of a verdict
  in_turn : (a : Asked) (v : Result J RewriteError) → JudgesBy IsJob writing a v → JudgesInTurn IsJob writing a v
  in_turn a (Err (rewrite.Emit (emit.TooManySegments n))) x = inr (x.1.job, (x.0, x.1.is_job), (x.1.many, x.1.told))
  in_turn a (Err (rewrite.Emit emit.WriteFault)) x = absurd x
  in_turn a (Err (rewrite.Emit emit.Memory)) x = absurd x
  in_turn a (Err error) x = inl (error, refl, x)
  in_turn a (Ok job) x = inr (job, (x.0, x.1.is_job), (refl, x.1.few))

  -- a refused plan is a refusal
  refused_plan : (a : Asked) (error : RewriteError) → IsPlanRefused a error → JudgesBy IsJob writing a (Err error)
  refused_plan a (rewrite.Emit error) x = absurd x
  refused_plan a error x = x

  -- a planned job is judged by its table
  judged_table : (a : Asked) (job : J) (v : Result J RewriteError) → JudgesPlanBy IsJob a (Ok job) → JudgesTable writing job v
      → JudgesBy IsJob writing a v
  judged_table a job (Err (rewrite.Emit (emit.TooManySegments n))) x t =
      (x.0, record { job = job; is_job = x.1; many = t.0; told = t.1 })
  judged_table a job (Err other) x t = absurd t
  judged_table a job (Ok other) x t =
      subst (λ (j : J). JudgesBy IsJob writing a (Ok j)) (sym t.0) (x.0, record { is_job = x.1; few = t.1 })

  -- to be judged by plan and table is to be judged by the plan first and then by the table
  pub judged_by_turn : (a : Asked) (v : Result J RewriteError) → JudgesBy IsJob writing a v ↔ JudgesInTurn IsJob writing a v
  judged_by_turn a v = (in_turn a v, back)
    where
      back : JudgesInTurn IsJob writing a v → JudgesBy IsJob writing a v
      back (inl x) = subst (JudgesBy IsJob writing a) (sym x.1) (refused_plan a x.0 x.2)
      back (inr x) = judged_table a x.0 v x.1 x.2

  -- of two verdicts on one table the first is the second
  table_once : (job : J) (v w : Result J RewriteError) → JudgesTable writing job v → JudgesTable writing job w → v ≡ w
  table_once job (Err (rewrite.Emit (emit.TooManySegments n))) (Err (rewrite.Emit (emit.TooManySegments m))) x y =
      ap (λ z. Err (rewrite.Emit (emit.TooManySegments z))) (x.1 ∙ sym y.1)
  table_once job (Err (rewrite.Emit (emit.TooManySegments n))) (Err other) x y = absurd y
  table_once job (Err (rewrite.Emit (emit.TooManySegments n))) (Ok other) x y = absurd (omega (arith, x.0, y.1))
  table_once job (Err other) w x y = absurd x
  table_once job (Ok i) (Err (rewrite.Emit (emit.TooManySegments m))) x y = absurd (omega (arith, x.1, y.0))
  table_once job (Ok i) (Err other) x y = absurd y
  table_once job (Ok i) (Ok j) x y = ap Ok (x.0 ∙ sym y.0)

  -- of two verdicts by plan and table the first is the second
  turn_once : (a : Asked) (v w : Result J RewriteError) → IsInOrder a → JudgesInTurn IsJob writing a v → JudgesInTurn IsJob writing a w → v ≡ w
  turn_once a v w o (inl x) (inl y) =
      let e : x.0 ≡ y.0 = refused_once a x.0 y.0 x.2 y.2 in x.1 ∙ ap Err e ∙ sym y.1
  turn_once a v w o (inl x) (inr y) = absurd (no_both a x.0 y.0 x.2 y.1)
  turn_once a v w o (inr x) (inl y) = absurd (no_both a y.0 x.0 y.2 x.1)
  turn_once a v w o (inr x) (inr y) =
      let k : x.0 ≡ y.0 = once (request_of a) x.0 y.0 (asked_of a o x.1.0) x.1.1 y.1.1 in
      table_once y.0 v w (subst (λ (j : J). JudgesTable writing j v) k x.2) y.2

  -- of two verdicts on an input the first is the second
  pub verdict_once : AreJudgedOnce (JudgesBy IsJob writing)
  verdict_once a v w o x y = turn_once a v w o (in_turn a v x) (in_turn a w y)

-- ---- as `rewrite` judges

-- a job has turns
pub job_turned : (q : Request) (j : Job) → IsJobFor q j → (t : Turns) × AreTurnsUnder (event_rules q.action) q t
job_turned q j h = (h.turns, h.is_planned.turns)

-- of two plans of an input the first is the second
pub planned_once : PlannedOnce
planned_once = plan_once IsJobFor writing_of (λ q. event_rules q.action) job_turned job_once

-- an input is judged by the plan first and then by the table
pub judged_in_turn : JudgedInTurn
judged_in_turn = judged_by_turn IsJobFor writing_of (λ q. event_rules q.action) job_turned job_once

-- of two verdicts on an input the first is the second
pub judged_once : JudgedOnce
judged_once = verdict_once IsJobFor writing_of (λ q. event_rules q.action) job_turned job_once
