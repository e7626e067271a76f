-- The turns of all sites, from the highest to the lowest.
use Rattle.std.proofs.Common.{◌≡◌, ◌⊎◌, inl, inr, ℕ, ◌+◌, ◌-◌, ◌<◌, ◌≤◌, true, not, cond, List, [], ◌∷◌, ◌++◌, map, reverse, length, take, get_or, option_to_list, Option, Some, None, Bor, refl, sym, ap, ◌∙◌, subst, arith, append_assoc, append-nil, length-append}
use Rattle.std.specs.Prelude.{Contains}
use Rattle.std.specs.Option.{is_some, option_copied}
use Rattle.std.specs.List.{AllByRecursion}
use Rattle.std.specs.List.Sorted.{IsStrictlyIncreasing}
use Rattle.std.proofs.lemmas.Bool.{and_parts, false≢true}
use Rattle.std.proofs.lemmas.List.{map-append, reverse-append, take_more}
use Rattle.byte_locks.specs.declared.lock.Lock.{Lock}
use Rattle.byte_locks.specs.Locking.{lock_at}
use Rattle.address_space.specs.declared.extent.Extent.{Extent}
use Rattle.address_space.specs.Free.{extent_of}
use Rattle.elf_emit.proofs.WrittenTable.{all_append}
use Rattle.elf_emit.proofs.StayingSegments.{all_map}
use Rattle.patch_report.specs.Values.{RowValue, row_value}
use Rattle.start_entries.specs.declared.entry.StartEntry.{StartEntry}
use Rattle.start_entries.specs.Finding.{addresses, entry_at}
use Rattle.start_entries.specs.Standing.{AreEntries}
use Rattle.start_list.specs.PlanJumps.{written, is_spanned, is_written, is_punned}
use Rattle.start_list.specs.Forms.{jumps_of, MayBeSite}
use Rattle.start_list.proofs.UntouchedEntries.{ends_below}
use Rattle.start_entries.proofs.AscendingEntries.{increasing_rest, first_below}
use Rattle.sound_images.proofs.ReadInstructions.{found_address}
use Rattle.site_turns.specs.declared.setting.Setting.{Setting}
use Rattle.site_turns.specs.declared.progress.Progress.{Progress}
use Rattle.site_turns.specs.States.{Scene, State, first_state, view_at}
use Rattle.site_turns.specs.Choices.{Choice, Apply, Left, IsChoice, row_of, after, IsTurns, state_after}
use Rattle.site_turns.specs.Folded.{is_locked}
use Rattle.site_turns.specs.Laws.{AreSites}
use Rattle.pun_base.specs.declared.scheme.Scheme.{Scheme}
use Rattle.site_turns.specs.Modes.{schemes_of}
use Rattle.site_turns.specs.Planning.{first_unlisted, HasFewRuns}
use Rattle.site_turns.specs.Turned.{IsFreeIn, scene_by, state_of, SameState, HasTurned, HasBegun, HasAllTurned}
use Rattle.site_turns.proofs.LockedBytes.{lock_cases, spanned_above, written_above, begin_at, admissible, free_unless}
use Rattle.site_turns.proofs.PlansWithOneJump.{entry_listed}
use Rattle.site_turns.proofs.AlikeStates.{choice_same, after_same, state_trans, state_sym}
use Rattle.site_turns.proofs.TurnFold.{after_rows}

-- the entries of sites, the highest first
abbrev pub rest : List StartEntry → List ℕ → List StartEntry
rest es [] = []
rest es (s ∷ ss) = rest es ss ++ option_to_list (entry_at es s)

-- each of some sites has an entry
abbrev pub AreListed : List StartEntry → List ℕ → Type 0
AreListed es ss = AllByRecursion (λ s. is_some (entry_at es s) ≡ true) ss

-- where no site of a list is unlisted, the first is listed, and none of the rest is unlisted
listed_by : (o : Option StartEntry) (r : Option ℕ) (s : ℕ) → cond (is_some o) r (Some s) ≡ None → (is_some o ≡ true) × (r ≡ None)
listed_by None r s e = absurd cc
listed_by (Some x) r s e = (refl, e)

-- where none is unlisted, each is listed
pub all_listed : (es : List StartEntry) (ss : List ℕ) → first_unlisted es ss ≡ None → AreListed es ss
all_listed es [] e = tt
all_listed es (s ∷ ss) e = let q = listed_by (entry_at es s) (first_unlisted es ss) s e in (q.0, all_listed es ss q.1)

-- an entry that is there makes a list of one
one_entry : (o : Option StartEntry) → is_some o ≡ true → length (option_to_list o) ≡ 1
one_entry None h = absurd (false≢true h)
one_entry (Some e) h = refl

-- listed sites have one entry each
pub rest_long : (es : List StartEntry) (ss : List ℕ) → AreListed es ss → length (rest es ss) ≡ length ss
rest_long es [] h = refl
rest_long es (s ∷ ss) h =
    omega (arith, length-append (rest es ss) (option_to_list (entry_at es s)), one_entry (entry_at es s) h.0, rest_long es ss h.1)

-- the entry of the highest site comes first
pub rest_last : (es : List StartEntry) (below : List ℕ) (site : ℕ) (e : StartEntry) → entry_at es site ≡ Some e
    → rest es (below ++ site ∷ []) ≡ e ∷ rest es below
rest_last es [] site e h = ap (λ (o : Option StartEntry). option_to_list o) h
rest_last es (b ∷ bs) site e h = ap (λ (xs : List StartEntry). xs ++ option_to_list (entry_at es b)) (rest_last es bs site e h)

-- the entry found at an address makes a list of that one address
one_address : (es : List StartEntry) (s : ℕ) (o : Option StartEntry) → entry_at es s ≡ o → is_some o ≡ true
    → addresses (option_to_list o) ≡ s ∷ []
one_address es s None e h = absurd (false≢true h)
one_address es s (Some x) e h = ap (λ a. a ∷ []) (found_address es s x e)

-- the addresses of listed sites' entries are the sites, from the last to the first
pub rest_addresses : (es : List StartEntry) (ss : List ℕ) → AreListed es ss → addresses (rest es ss) ≡ reverse ss
rest_addresses es [] h = refl
rest_addresses es (s ∷ ss) h =
    map-append (λ (e : StartEntry). e.addr) (rest es ss) (option_to_list (entry_at es s))
    ∙ (λ i. rest_addresses es ss h.1 i ++ one_address es s (entry_at es s) refl h.0 i)
    ∙ sym (reverse-append (s ∷ []) ss)

-- ascending sites are all above the first
one_above : (es : List StartEntry) (a s : ℕ) (o : Option StartEntry) → entry_at es s ≡ o → a < s
    → AllByRecursion (λ (e : StartEntry). a < e.addr) (option_to_list o)
one_above es a s None e l = tt
one_above es a s (Some x) e l = (let q = found_address es s x e in omega (arith, q, l), tt)

-- the entries of sites above an address lie above that address
rest_above : (es : List StartEntry) (a : ℕ) (ss : List ℕ) → AllByRecursion (λ x. a < x) ss
    → AllByRecursion (λ (e : StartEntry). a < e.addr) (rest es ss)
rest_above es a [] h = tt
rest_above es a (s ∷ ss) h =
    all_append (λ (e : StartEntry). a < e.addr) (rest es ss) (option_to_list (entry_at es s)) (rest_above es a ss h.1) (one_above es a s
    (entry_at es s) refl h.0)

-- sites that descend do so with a listed entry appended that lies below them all
sites_more : (g : Scene) (es : List StartEntry) (e : StartEntry) → AreSites g es → entry_at g.entries e.addr ≡ Some e
    → AllByRecursion (λ (f : StartEntry). e.addr < f.addr) es → AreSites g (es ++ e ∷ [])
sites_more g [] e h k a = (k, tt, tt)
sites_more g (d ∷ es) e h k a = (
  h.0,
  all_append (λ (f : StartEntry). f.addr < d.addr) es (e ∷ []) h.1 (a.0, tt),
  sites_more g es e h.2 k a.1,
)

-- sites that descend do so with what is found at a lower address appended
sites_by : (g : Scene) (es : List StartEntry) (s : ℕ) (o : Option StartEntry) → entry_at g.entries s ≡ o → AreSites g es
    → AllByRecursion (λ (f : StartEntry). s < f.addr) es → AreSites g (es ++ option_to_list o)
sites_by g es s None e h a = subst (λ (xs : List StartEntry). AreSites g xs) (sym (append-nil es)) h
sites_by g es s (Some x) e h a =
    let q : x.addr ≡ s = found_address g.entries s x e in
    sites_more g es x h (ap (entry_at g.entries) q ∙ e) (subst (λ z. AllByRecursion (λ (f : StartEntry). z < f.addr) es) (sym q) a)

-- the entries of ascending sites are those at their addresses, and descend
pub rest_sites : (g : Scene) (ss : List ℕ) → IsStrictlyIncreasing ss → AreSites g (rest g.entries ss)
rest_sites g [] h = tt
rest_sites g (s ∷ ss) h =
    sites_by g (rest g.entries ss) s (entry_at g.entries s) refl (rest_sites g ss (increasing_rest s ss h))
    (rest_above g.entries s ss (first_below s ss h))

-- sites below an entry that may be patched end at it or below
all_below : (g : Scene) (es : List StartEntry) (e : StartEntry) → AreEntries g.image g.entries → AreSites g es → Contains g.entries e
    → MayBeSite e → AllByRecursion (λ (f : StartEntry). f.addr < e.addr) es
    → AllByRecursion (λ (f : StartEntry). f.addr + f.len ≤ e.addr) es
all_below g [] e A s c m b = tt
all_below g (f ∷ es) e A s c m b =
    (ends_below g.image g.entries A f e (entry_listed g.entries f.addr f s.0) c (inr m) b.0, all_below g es e A s.2 c m b.1)

-- what is locked after a turn was locked before, or the site may be patched, and it lies there or above
locked_after : (g : Scene) (ss : List Scheme) (t : State) (e : StartEntry) (n : ℕ) (x : Choice) (y : ℕ) → IsChoice (view_at g t) ss e x
    → is_locked ((after g t e n x).lock y) ≡ true → (MayBeSite e × (e.addr ≤ y)) ⊎ (is_locked (t.lock y) ≡ true)
locked_after g ss t e n (Apply c plan) y h k =
    let a = admissible (view_at g t) e ss c plan h.1 in
    let b = begin_at (view_at g t) e c a.allowed.form in
    elim (lock_cases (written (jumps_of e c) y) (is_punned (jumps_of e c) y) (t.lock y) k) [
      | inl w ↦ inl (a.site_may, written_above e.addr (jumps_of e c) y b w)
      | inr (inl p) ↦ inl (
        a.site_may,
        spanned_above e.addr (jumps_of e c) y b
            (and_parts (is_spanned (jumps_of e c) y) (not (is_written (jumps_of e c) y)) p).0,
      )
      | inr (inr l) ↦ inr l
    ]
locked_after g ss t e n (Left why) y h k = inr k

-- some turns are done, and those of the sites left are to come
pub record IsTurning (g : Scene) (ss : List Scheme) (sites left : List ℕ) (p : Progress) : Type 0 where
  pub done : List Choice
  pub state : State
  pub same : SameState state (state_of p)
  pub turns : (xs : List Choice) → IsTurns g ss state (rest g.entries left) xs
      → IsTurns g ss (first_state g) (rest g.entries sites) (done ++ xs)
  pub end : (xs : List Choice) → state_after g (first_state g) (rest g.entries sites) (done ++ xs)
      ≡ state_after g state (rest g.entries left) xs
  pub free : (x : ℕ) → is_locked (state.lock x) ≡ true
      → AllByRecursion (λ (f : StartEntry). f.addr + f.len ≤ x) (rest g.entries left)
  pub few : AllByRecursion (λ r. HasFewRuns r.outcome) state.rows
  pub places : AreSites g (rest g.entries left)
  pub listed : AreListed g.entries left

-- before the first turn none is done, and all sites are left
pub begun : (s : Setting) (sites : List ℕ) (taken : List Extent) (p : Progress) → IsStrictlyIncreasing sites
    → first_unlisted s.starts.now sites ≡ None → HasBegun taken s.private p
    → IsTurning (scene_by s (extent_of s.private ∷ taken)) (schemes_of s.mode) sites sites p
begun s sites taken p up none h =
    let g : Scene = scene_by s (extent_of s.private ∷ taken) in
    record {
      done = [];
      state = first_state g;
      same = record { lock = sym h.lock; free = h.free; rows = ap (map row_value) (sym h.rows) };
      turns = λ xs k. k;
      end = λ xs. refl;
      free = λ x k. absurd (false≢true k);
      few = tt;
      places = rest_sites g sites up;
      listed = all_listed s.starts.now sites none;
    }

-- where all sites are listed, those before the last are, and the last is
listed_front : (es : List StartEntry) (below : List ℕ) (site : ℕ) → AreListed es (below ++ site ∷ [])
    → AreListed es below × (is_some (entry_at es site) ≡ true)
listed_front es [] site h = (tt, h.0)
listed_front es (b ∷ bs) site h = let q = listed_front es bs site h.1 in ((h.0, q.0), q.1)

-- the next site is a start, and is free
pub record IsNextSite (g : Scene) (below : List ℕ) (p : Progress) (e : StartEntry) : Type 0 where
  pub listed : Contains g.entries e
  pub free : IsFreeIn (lock_at p.locks) e
  pub number : length (rest g.entries below) ≡ length below

-- the highest of the sites left is a start, its bytes are free, and its number is how many sites are below it
pub next_site : (g : Scene) (ss : List Scheme) (sites left below : List ℕ) (site : ℕ) (p : Progress) (e : StartEntry) → left ≡ below ++ site ∷ []
    → entry_at g.entries site ≡ Some e → IsTurning g ss sites left p → IsNextSite g below p e
next_site g ss sites left below site p e l at h =
    let first : rest g.entries left ≡ e ∷ rest g.entries below = ap (rest g.entries) l ∙ rest_last g.entries below site e at in
    record {
      listed = entry_listed g.entries site e at;
      free = λ k m. free_unless (lock_at p.locks (e.addr + k)) (λ q.
          let ends = h.free (e.addr + k) (ap (λ (f : ℕ → Lock). is_locked (f (e.addr + k))) h.same.lock ∙ q) in
          let here : e.addr + e.len ≤ e.addr + k =
          (subst (λ (xs : List StartEntry). AllByRecursion (λ (f : StartEntry). f.addr + f.len ≤ e.addr + k) xs) first ends).0 in
          absurd (omega (arith, here, m)));
      number = rest_long g.entries below (listed_front g.entries below site (subst (λ (xs : List ℕ). AreListed g.entries xs) l h.listed)).0;
    }

-- the highest of n sites stands last
pub highest_at : (sites : List ℕ) (n : ℕ) → 0 < n → n ≤ length sites
    → take n sites ≡ take (n - 1) sites ++ get_or sites (n - 1) 0 ∷ []
highest_at sites n some fits =
    let e : n ≡ n - 1 + 1 = omega arith in ap (λ m. take m sites) e ∙ take_more sites (n - 1) 0 (omega arith)

-- the turns of the sites below are to come once the turn of the highest one that was left is done
pub turning_next : (g : Scene) (ss : List Scheme) (sites left below : List ℕ) (site n : ℕ) (p q : Progress) (e : StartEntry) → AreEntries g.image g.entries
    → left ≡ below ++ site ∷ [] → entry_at g.entries site ≡ Some e → n ≡ length below
    → IsTurning g ss sites left p → HasTurned g ss e n p q → IsTurning g ss sites below q
turning_next g ss sites left below site n p q e A l at num h t =
    let es = g.entries in
    let first : rest es left ≡ e ∷ rest es below = ap (rest es) l ∙ rest_last es below site e at in
    let next = next_site g ss sites left below site p e l at h in
    let same_number : n ≡ length (rest es below) = num ∙ sym next.number in
    let x : Choice = t.choice in
    let new : State = after g h.state e (length (rest es below)) x in
    let some : 1 ≤ e.len = (A.each e next.listed).some in
    let is : IsChoice (view_at g h.state) ss e x =
    choice_same g ss (state_of p) h.state e x A some (state_sym h.state (state_of p)
    h.same) t.is in
    let places : AreSites g (e ∷ rest es below) = subst (λ (xs : List StartEntry). AreSites g xs) first h.places in
    let more : (xs : List Choice) → (h.done ++ x ∷ []) ++ xs ≡ h.done ++ x ∷ xs = λ xs. append_assoc h.done (x ∷ []) xs in
    let rows : new.rows ≡ h.state.rows ++ row_of e (length (rest es below)) x ∷ [] = after_rows g h.state e (length (rest es below)) x in
    record {
      done = h.done ++ x ∷ [];
      state = new;
      same = state_trans new (after g (state_of p) e (length (rest es below)) x) (state_of q)
          (after_same g h.state (state_of p) e (length (rest es below)) x h.same)
          (subst (λ (m : ℕ). SameState (after g (state_of p) e m x) (state_of q)) same_number t.same);
      turns = λ xs k.
          subst (λ (ys : List Choice). IsTurns g ss (first_state g) (rest es sites) ys) (sym (more xs))
          (h.turns (x ∷ xs) (subst (λ (ys : List StartEntry). IsTurns g ss h.state ys (x ∷ xs)) (sym first) (is, k)));
      end = λ xs.
          ap (state_after g (first_state g) (rest es sites)) (more xs) ∙ h.end (x ∷ xs)
          ∙ ap (λ (ys : List StartEntry). state_after g h.state ys (x ∷ xs)) first;
      free = λ y k. elim (locked_after g ss h.state e (length (rest es below)) x y is k) [
        | inl a ↦ all_map (λ (f : StartEntry). f.addr + f.len ≤ e.addr) (λ (f : StartEntry). f.addr + f.len ≤ y) (rest es below)
            (λ f m. let l = a.1 in omega (arith, m, l)) (all_below g (rest es below) e A places.2 next.listed a.0 places.1)
        | inr b ↦ (subst (λ (xs : List StartEntry). AllByRecursion (λ (f : StartEntry). f.addr + f.len ≤ y) xs) first (h.free y b)).1
      ];
      few = subst (λ (rs : List RowValue). AllByRecursion (λ r. HasFewRuns r.outcome) rs) (sym rows)
          (all_append (λ (r : RowValue). HasFewRuns r.outcome) h.state.rows (row_of e (length (rest es below)) x ∷ []) h.few (t.few, tt));
      places = places.2;
      listed = (listed_front es below site (subst (λ (xs : List ℕ). AreListed es xs) l h.listed)).0;
    }

-- where no site is left, all turns are done
pub all_turned : (s : Setting) (sites left : List ℕ) (taken : List Extent) (p : Progress) → left ≡ [] → IsStrictlyIncreasing sites
    → first_unlisted s.starts.now sites ≡ None
    → IsTurning (scene_by s (extent_of s.private ∷ taken)) (schemes_of s.mode) sites left p → HasAllTurned s sites taken p
all_turned s sites left taken p l up none h =
    let g : Scene = scene_by s (extent_of s.private ∷ taken) in
    let k : IsTurning g (schemes_of s.mode) sites [] p =
    subst (λ (xs : List ℕ). IsTurning g (schemes_of s.mode) sites xs p) l h in
    let listed = all_listed s.starts.now sites none in
    record {
      entries = rest s.starts.now sites;
      choices = k.done ++ [];
      addressed = rest_addresses s.starts.now sites listed;
      listed = rest_sites g sites up;
      turns = k.turns [] tt;
      state = state_trans _ k.state (state_of p)
          (subst (λ (t : State). SameState t k.state) (sym (k.end [])) (record {
            lock = refl;
            free = λ a n i. (λ f. f, λ f. f);
            rows = refl;
          })) k.same;
      few = subst (λ (rs : List RowValue). AllByRecursion (λ r. HasFewRuns r.outcome) rs) k.same.rows k.few;
    }

-- what a reference to something shows is something
copied_some : (o : Option (Bor StartEntry)) → is_some (option_copied o) ≡ true → is_some o ≡ true
copied_some None h = h
copied_some (Some x) h = refl

-- the next site is found
pub found_next : (es : List StartEntry) (left below : List ℕ) (site : ℕ) (o : Option (Bor StartEntry)) → left ≡ below ++ site ∷ []
    → AreListed es left
    → option_copied o ≡ entry_at es site → is_some o ≡ true
found_next es left below site o l h e =
    copied_some o (ap is_some e ∙ (listed_front es below site (subst (λ (xs : List ℕ). AreListed es xs) l h)).1)
