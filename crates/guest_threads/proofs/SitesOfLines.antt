-- Sites for threads that come of lines: each of one line and the entry at its start, with the event of one action.
use Rattle.std.proofs.Common.{◌≡◌, ℕ, zero, suc, ◌+◌, ◌<◌, ◌≤◌, Bool, true, false, ◌&&◌, eqb, leb, ltb, List, [], ◌∷◌, Option, Some, None, refl, sym, ap, ◌∙◌, subst, arith}
use Rattle.std.specs.Prelude.{Contains, slice_get}
use Rattle.std.specs.Option.{is_some, option_map, option_to_list}
use Rattle.std.specs.List.{list_any, flat_map, AllByRecursion}
use Rattle.std.proofs.lemmas.Bool.{and_from, eqb-true, le-leb, lt-ltb, true≢false}
use Rattle.pun_base.specs.declared.action.Action.{Action}
use Rattle.pun_base.specs.declared.action.Base.{Base}
use Rattle.pun_base.specs.declared.action.Base.TheVariants.{Cover, Count}
use Rattle.start_entries.specs.declared.entry.StartEntry.{StartEntry}
use Rattle.start_entries.specs.Finding.{entry_at}
use Rattle.patch_report.proofs.ListPlaces.{In, any_at, contains_at, place_of, finds, in_flat, from_flat, all_in, some_is}
use Rattle.sound_images.specs.Reports.{Line}
use Rattle.site_turns.specs.Modes.{thread_event_of}
use Rattle.thread_runs.specs.Building.{kind_of, event_of}
use Rattle.thread_runs.specs.ThreadCode.{Kind, Marks}
use Rattle.trampoline.specs.EventLists.{mark_at, mark_len}
use Rattle.thread_runs.specs.Threading.{ThreadSite}
use Rattle.guest_threads.specs.FromTurns.{site_with, site_of, HaveRoom}

-- the only element of a list made of an option
one_of : {X Y : Type 0} (f : X → Y) (o : Option X) (y : Y) → In (option_to_list (option_map f o)) y → (x : X) × (o ≡ Some x) × (f x ≡ y)
one_of f None y c = absurd (none c.0 c.1)
  where
    none : (i : ℕ) → slice_get [] i ≡ Some y → ⊥
    none i e = cc
one_of f (Some x) y c = (x, refl, by_place c.0 c.1)
  where
    by_place : (i : ℕ) → slice_get (f x ∷ []) i ≡ Some y → f x ≡ y
    by_place zero e = some_is (f x) y e
    by_place (suc i) e = absurd cc

-- where a trampoline's event is there, the trampoline has one
event_some : (a : Action) (e : Bool) → is_some (event_of (thread_event_of a e)) ≡ true → e ≡ true
event_some a true h = refl
event_some a false h = absurd (true≢false (sym h))

-- what an event marks begins no lower than the private range
pub mark_in : (b : Base) (p i : ℕ) → p ≤ mark_at b p i
mark_in Cover p i = omega arith
mark_in Count p i = omega arith

module _ (action : Action) (entries : List StartEntry) (ls : List Line) where
  -- their sites
  abbrev sites : List ThreadSite
  sites = flat_map (site_of action entries) ls

  -- a line and the entry at its start, of which a site comes
  pub record Of (s : ThreadSite) : Type 0 where
    pub line : Line
    pub in_lines : In ls line
    pub entry : StartEntry
    pub at : entry_at entries line.tramp.start ≡ Some entry
    pub is : site_with action line entry ≡ s
    pub listed : Contains entries entry
    pub addr : entry.addr ≡ line.tramp.start

  -- each site comes of such
  pub of_site : (s : ThreadSite) → Contains sites s → Of s
  of_site s c =
      let q = from_flat (site_of action entries) ls s (place_of sites s c) in
      let o = one_of (site_with action q.0) (entry_at entries q.0.tramp.start) s q.2 in
      let f = finds (λ (e : StartEntry). eqb e.addr q.0.tramp.start) entries o.0 o.1 in
      record {
        line = q.0;
        in_lines = q.1;
        entry = o.0;
        at = o.1;
        is = o.2;
        listed = contains_at entries f.place o.0 f.at;
        addr = eqb-true o.0.addr q.0.tramp.start f.passes;
      }

  -- two sites of one line are one
  pub one_line : (s t : ThreadSite) (o : Of s) (p : Of t) → o.in_lines.0 ≡ p.in_lines.0 → s ≡ t
  one_line s t o p e =
      let l : o.line ≡ p.line = some_is o.line p.line (sym o.in_lines.1 ∙ ap (slice_get ls) e ∙ p.in_lines.1) in
      let n : o.entry ≡ p.entry = some_is o.entry p.entry (sym o.at ∙ ap (λ (z : Line). entry_at entries z.tramp.start) l ∙ p.at) in
      sym o.is ∙ (λ i. site_with action (l i) (n i)) ∙ p.is

  -- where lines with one start have one index, each start has one site
  pub once : ((i j : ℕ) (l m : Line) → slice_get ls i ≡ Some l → slice_get ls j ≡ Some m → l.tramp.start ≡ m.tramp.start → i ≡ j)
      → (s t : ThreadSite) → Contains sites s → Contains sites t → s.entry.addr ≡ t.entry.addr → s ≡ t
  once index s t c k e =
      let o = of_site s c in
      let p = of_site t k in
      let a : o.line.tramp.start ≡ s.entry.addr = sym o.addr ∙ ap (λ (z : ThreadSite). z.entry.addr) o.is in
      let b : p.line.tramp.start ≡ t.entry.addr = sym p.addr ∙ ap (λ (z : ThreadSite). z.entry.addr) p.is in
      one_line s t o p (index o.in_lines.0 p.in_lines.0 o.line p.line o.in_lines.1 p.in_lines.1 (a ∙ e ∙ sym b))

  -- a site with an event comes of a line with one
  with_event : (s : ThreadSite) (o : Of s) → is_some s.event ≡ true → o.line.tramp.event ≡ true
  with_event s o u = event_some action o.line.tramp.event (ap (λ (z : ThreadSite). is_some z.event) o.is ∙ u)

  -- where lines with an event and one number have one index, each number has one site
  pub numbers : ((i j : ℕ) (l m : Line) → slice_get ls i ≡ Some l → slice_get ls j ≡ Some m → l.tramp.event ≡ true → m.tramp.event ≡ true
      → l.number ≡ m.number → i ≡ j) → (s t : ThreadSite) → Contains sites s → Contains sites t → is_some s.event ≡ true → is_some t.event ≡ true
      → s.number ≡ t.number → s ≡ t
  numbers index s t c k u v e =
      let o = of_site s c in
      let p = of_site t k in
      one_line s t o p (index o.in_lines.0 p.in_lines.0 o.line p.line o.in_lines.1 p.in_lines.1 (with_event s o u) (with_event t p v)
      (ap (λ (z : ThreadSite). z.number) o.is ∙ e ∙ sym (ap (λ (z : ThreadSite). z.number) p.is)))

  -- each event is the action's
  event_is : (s : ThreadSite) → Contains sites s → is_some s.event ≡ true → s.event ≡ Some (kind_of action)
  event_is s c u =
      let o = of_site s c in
      sym (ap (λ (z : ThreadSite). z.event) o.is) ∙ ap (λ (b : Bool). event_of (thread_event_of action b)) (with_event s o u)

  -- so all are of one kind
  pub kinds : (s t : ThreadSite) → Contains sites s → Contains sites t → is_some s.event ≡ true → is_some t.event ≡ true → s.event ≡ t.event
  kinds s t c k u v = event_is s c u ∙ sym (event_is t k v)

  -- the action's
  pub kind_is : (s : ThreadSite) → Contains sites s → (k : Kind) → s.event ≡ Some k → kind_of action ≡ k
  kind_is s c k v = some_is (kind_of action) k (sym (event_is s c (ap is_some v)) ∙ v)

  -- what each event marks lies where there is room for what the lines' events write to
  pub room_of : (lo hi : ℕ) → HaveRoom (kind_of action) lo hi ls → (s : ThreadSite) → Contains sites s → (b : Base) → s.event ≡ Some (Marks b)
      → mark_at b lo s.number + mark_len b ≤ hi
  room_of lo hi room s c b v =
      let o = of_site s c in
      let each : AllByRecursion (λ (l : Line). mark_at b lo l.number + mark_len b ≤ hi) ls =
      subst (λ (k : Kind). HaveRoom k lo hi ls) (kind_is s c (Marks b) v) room in
      subst (λ (z : ThreadSite). mark_at b lo z.number + mark_len b ≤ hi) o.is (all_in _ ls o.line each o.in_lines)

  -- a byte of the instruction at a line's start is one of a site's
  pub owned_in : (l : Line) (e : StartEntry) (x : ℕ) → In ls l → entry_at entries l.tramp.start ≡ Some e → e.addr ≤ x → x < e.addr + e.len
      → list_any (λ (s : ThreadSite). leb s.entry.addr x && ltb x (s.entry.addr + s.entry.len)) sites ≡ true
  owned_in l e x h at low high =
      let s : ThreadSite = site_with action l e in
      let c : In (site_of action entries l) s =
      (0, ap (λ (q : Option StartEntry). slice_get (option_to_list (option_map (site_with action l) q)) 0) at) in
      let i = in_flat (site_of action entries) ls l s h c in
      any_at (λ (s : ThreadSite). leb s.entry.addr x && ltb x (s.entry.addr + s.entry.len)) sites i.0 s i.1
      (and_from (leb e.addr x) (ltb x (e.addr + e.len)) (le-leb e.addr x low) (lt-ltb x (e.addr + e.len) high))
