-- Turns at two states that no turn tells apart have the same plans.
use Rattle.std.proofs.Common.{inl, inr, ℕ, ◌≤◌, List, [], ◌∷◌, ◌++◌, map, None, sym, ap, ◌∙◌, subst}
use Rattle.std.specs.List.{AllByRecursion}
use Rattle.pun_base.specs.declared.scheme.Scheme.{Scheme}
use Rattle.pun_base.specs.declared.outcome.Plan.{Plan}
use Rattle.byte_locks.specs.declared.lock.Lock.{Lock}
use Rattle.address_space.specs.declared.extent.Extent.{Extent}
use Rattle.patch_report.specs.Values.{RowValue, Immovable, Unplanned, Shared}
use Rattle.start_entries.specs.declared.entry.StartEntry.{StartEntry}
use Rattle.start_entries.specs.Standing.{AreEntries}
use Rattle.start_list.specs.TurnViews.{TurnView}
use Rattle.start_list.specs.Forms.{Candidate, B1, B2, T1, T2, T3, Trampoline, jumps_of, trampolines_of, MayBeVictim, HasForm}
use Rattle.start_list.specs.Admissible.{IsPlaced, ArePlaced, IsAllowed, HasRoom, IsAdmissible, IsFirst}
use Rattle.start_list.specs.Plans.{IsPlanOf, FirstPlan}
use Rattle.site_turns.specs.States.{Scene, State, view_at, lock_after, extent_for}
use Rattle.site_turns.specs.Choices.{Choice, Apply, Left, NoneOf, FirstOf, IsChoice, row_of, after}
use Rattle.site_turns.specs.Turned.{HasSameFree, SameState}
use Rattle.site_turns.proofs.FreeRanges.{same_behind, same_trans, same_sym}
use Rattle.site_turns.proofs.WorkLengths.{size_least}

-- the view with another list of what is taken
abbrev pub with_taken : TurnView → List Extent → TurnView
with_taken v us = record {
  image = v.image;
  segments = v.segments;
  entries = v.entries;
  lock = v.lock;
  taken = us;
  event_size = v.event_size;
  can = v.can;
}

module _ (v : TurnView) (us : List Extent) (site : StartEntry) where
  abbrev w : TurnView
  w = with_taken v us

  -- a victim may be patched beside any taken ranges
  victim_same : (e : StartEntry) → MayBeVictim v site e → MayBeVictim w site e
  victim_same e h = record { listed = h.listed; beside = h.beside; movable = h.movable; untouched = h.untouched }

  -- a candidate has its form beside any taken ranges
  form_same : (c : Candidate) → HasForm v site c → HasForm w site c
  form_same (B1 t) h = h
  form_same (B2 t) h = h
  form_same (T1 p t) h = h
  form_same (T2 e p q pad x t u) h = record {
    short = h.short;
    pads = h.pads;
    victim = victim_same e h.victim;
    behind = h.behind;
    victim_pads = h.victim_pads;
    rex = h.rex;
    one_pad = h.one_pad;
    few = h.few;
    shared = h.shared;
  }
  form_same (T3 e i x t u) h = record {
    room = h.room;
    victim = victim_same e h.victim;
    above = h.above;
    inside = h.inside;
    near = h.near;
    unlisted = h.unlisted;
    shared = h.shared;
  }

  -- a candidate is allowed beside any taken ranges
  allowed_same : (c : Candidate) → IsAllowed v site c → IsAllowed w site c
  allowed_same c h = record { form = form_same c h.form; free = h.free; punned = h.punned; stands = h.stands }

  -- a plan is that of its candidate beside any taken ranges
  told_same : (c : Candidate) (plan : Plan) → IsPlanOf v site c plan → IsPlanOf w site c plan
  told_same c plan h = record {
    scheme = h.scheme;
    tramps = h.tramps;
    written = h.written;
    writes = h.writes;
    punned = h.punned;
    puns = h.puns;
  }

-- the instructions of a plan's trampolines have bytes
abbrev HaveBytes : List Trampoline → Type 0
HaveBytes us = AllByRecursion (λ (u : Trampoline). 1 ≤ u.entry.len) us

-- the trampolines of a candidate with a form displace instructions of at least one byte
have_bytes : (v : TurnView) (site : StartEntry) → AreEntries v.image v.entries → 1 ≤ site.len → (c : Candidate) → HasForm v site c
    → HaveBytes (trampolines_of site c)
have_bytes v site A s (B1 t) h = (s, tt)
have_bytes v site A s (B2 t) h = (s, tt)
have_bytes v site A s (T1 p t) h = (s, tt)
have_bytes v site A s (T2 e p q pad x t u) h = (s, ((A.each e h.victim.listed).some, tt))
have_bytes v site A s (T3 e i x t u) h = (s, ((A.each e h.victim.listed).some, tt))

-- a trampoline is placed beside any taken ranges that leave the same addresses free
placed_one : (v : TurnView) (us : List Extent) (t : Trampoline) → HasSameFree v.taken us → 1 ≤ t.entry.len → IsPlaced v t
    → IsPlaced (with_taken v us) t
placed_one v us t f b h = (h.0, h.1, (f t.place h.0 (size_least v t h.0 h.1 b)).0 h.2)

-- trampolines are placed beside any taken ranges that leave the same addresses free
placed_same : (v : TurnView) (us : List Extent) (ts : List Trampoline) → HasSameFree v.taken us → HaveBytes ts → ArePlaced v ts
    → ArePlaced (with_taken v us) ts
placed_same v us [] f b h = tt
placed_same v us (t ∷ ts) f b h = (placed_one v us t f b.0 h.0, h.1, placed_same v us ts f b.1 h.2)

-- there is room for trampolines beside any taken ranges that leave the same addresses free
room_same : (v : TurnView) (us : List Extent) (ts : List Trampoline) → HasSameFree v.taken us → HaveBytes ts → HasRoom v ts
    → HasRoom (with_taken v us) ts
room_same v us [] f b h = h
room_same v us (t ∷ ts) f b h = placed_one v us t f b.0 h

-- plans that are admissible, and the first, by two lists that leave the same free
module _ (v : TurnView) (us : List Extent) (site : StartEntry) (A : AreEntries v.image v.entries) (s : 1 ≤ site.len) (f : HasSameFree
    v.taken us) where
  abbrev x : TurnView
  x = with_taken v us

  -- a plan that is admissible with one list of what is taken is so with another that leaves the same free
  pub admissible_same : (c : Candidate) → IsAdmissible v site c → IsAdmissible x site c
  admissible_same c h = record {
    site_may = h.site_may;
    allowed = allowed_same v us site c h.allowed;
    placed = placed_same v us (trampolines_of site c) f (have_bytes v site A s c h.allowed.form) h.placed;
    least = λ two d better a r.
        h.least two d better (allowed_same x v.taken site d a)
        (room_same x v.taken (trampolines_of site d) (same_sym v.taken us f) (have_bytes x site A s d a.form) r);
  }

-- a scheme's first admissible candidate is its first beside any taken ranges that leave the same addresses free
first_same : (v : TurnView) (us : List Extent) (site : StartEntry) (A : AreEntries v.image v.entries) (s : 1 ≤ site.len) (f : HasSameFree
    v.taken us)
    (k : Scheme) (c : Candidate) → IsFirst v site k c → IsFirst (with_taken v us) site k c
first_same v us site A s f k c h = record {
  scheme = h.scheme;
  admissible = admissible_same v us site A s f c h.admissible;
  first = λ d e a. h.first d e (admissible_same (with_taken v us) v.taken site A s (same_sym v.taken us f) d a);
}

-- a scheme without a plan has none beside any taken ranges that leave the same addresses free
none_same : (v : TurnView) (us : List Extent) (site : StartEntry) (A : AreEntries v.image v.entries) (s : 1 ≤ site.len) (f : HasSameFree
    v.taken us)
    (k : Scheme) → FirstPlan v site k None → FirstPlan (with_taken v us) site k None
none_same v us site A s f k h = λ c e a. h c e (admissible_same (with_taken v us) v.taken site A s (same_sym v.taken us f) c a)

module _ (v : TurnView) (us : List Extent) (site : StartEntry) (A : AreEntries v.image v.entries) (s : 1 ≤ site.len) (f : HasSameFree
    v.taken us) where
  -- the first plan of some schemes is so beside taken ranges that leave the same addresses free
  first_of_same : (ss : List Scheme) (c : Candidate) (plan : Plan) → FirstOf v site ss c plan → FirstOf (with_taken v us) site ss c plan
  first_of_same [] c plan h = h
  first_of_same (k ∷ ss) c plan (inl h) = inl (first_same v us site A s f k c h.0, told_same v us site c plan h.1)
  first_of_same (k ∷ ss) c plan (inr h) = inr (none_same v us site A s f k h.0, first_of_same ss c plan h.1)

  -- where no scheme has a plan, none has beside taken ranges that leave the same addresses free
  none_of_same : (ss : List Scheme) → NoneOf v site ss → NoneOf (with_taken v us) site ss
  none_of_same [] h = h
  none_of_same (k ∷ ss) h = (none_same v us site A s f k h.0, none_of_same ss h.1)

  -- the rules give the same choice beside taken ranges that leave the same addresses free
  choice_taken : (ss : List Scheme) (x : Choice) → IsChoice v ss site x → IsChoice (with_taken v us) ss site x
  choice_taken ss (Apply c plan) h = (h.0, first_of_same ss c plan h.1)
  choice_taken ss (Left Immovable) h = h
  choice_taken ss (Left Unplanned) h = (h.0, h.1, none_of_same ss h.2)
  choice_taken ss (Left Shared) h = h

-- the rules give the same choices at two states that no turn tells apart
pub choice_same : (g : Scene) (ss : List Scheme) (t u : State) (site : StartEntry) (x : Choice) → AreEntries g.image g.entries
    → 1 ≤ site.len
    → SameState t u → IsChoice (view_at g t) ss site x → IsChoice (view_at g u) ss site x
choice_same g ss t u site x A s k h =
    let e : (ℕ → Lock) → TurnView = λ l. record {
      image = g.image;
      segments = g.segments;
      entries = g.entries;
      lock = l;
      taken = t.taken;
      event_size = (view_at g t).event_size;
      can = g.can;
    } in
    choice_taken (e u.lock) u.taken site A s k.free ss x (subst (λ (l : ℕ → Lock). IsChoice (e l) ss site x) k.lock h)

-- the same choice leads from two states that no turn tells apart to two such states, with its row
pub after_same : (g : Scene) (t u : State) (site : StartEntry) (n : ℕ) (x : Choice) → SameState t u
    → SameState (after g t site n x) (after g u site n x)
after_same g t u site n (Apply c plan) k = record {
  lock = ap (λ (l : ℕ → Lock). lock_after l (jumps_of site c)) k.lock;
  free = same_behind (map (extent_for (view_at g t)) (trampolines_of site c)) t.taken u.taken k.free;
  rows = ap (λ (rs : List RowValue). rs ++ row_of site n (Apply c plan) ∷ []) k.rows;
}
after_same g t u site n (Left why) k = record {
  lock = k.lock;
  free = k.free;
  rows = ap (λ (rs : List RowValue). rs ++ row_of site n (Left why) ∷ []) k.rows;
}

-- that no turn tells two states apart is transitive
pub state_trans : (t u w : State) → SameState t u → SameState u w → SameState t w
state_trans t u w h k = record { lock = h.lock ∙ k.lock; free = same_trans t.taken u.taken w.taken h.free k.free; rows = h.rows ∙ k.rows }

-- that no turn tells two states apart is symmetric
pub state_sym : (t u : State) → SameState t u → SameState u t
state_sym t u h = record { lock = sym h.lock; free = same_sym t.taken u.taken h.free; rows = sym h.rows }
