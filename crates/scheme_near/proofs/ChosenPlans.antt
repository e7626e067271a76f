-- The admissible plans of scheme T3 with a given place in a victim are those that are chosen of two jumps that meet.
use Rattle.std.proofs.Common.{◌≡◌, ℕ, ◌+◌, ◌-◌, ◌<◌, ◌≤◌, min, false, is_some, List, [], ◌∷◌, ◌++◌, take, drop, replicate, Some, refl, sym, ap, ◌∙◌, subst, arith}
use Rattle.pun_base.specs.Memory.{Bytes}
use Rattle.pun_base.specs.Ranges.{is_within}
use Rattle.pun_base.specs.declared.scheme.Scheme.TheVariants as scheme
use Rattle.elf_read.specs.declared.segment.Segment.{Segment}
use Rattle.insn_form.specs.Moved.{rel_bytes}
use Rattle.start_entries.specs.declared.entry.StartEntry.{StartEntry}
use Rattle.start_list.specs.Turning.{view_of}
use Rattle.start_list.specs.TurnViews.{TurnView, memory_now}
use Rattle.start_list.specs.PlanJumps.{Jump, is_written, is_punned, after_writes}
use Rattle.start_entries.specs.Finding.{entry_at}
use Rattle.start_list.specs.Forms.{Candidate, B1, B2, T1, T2, T3, scheme_of, work_length, MayBeVictim, IsNear, shared_inside, low_displacement, trampolines_of, MayBeSite}
use Rattle.start_list.specs.Admissible.{IsAllowed, IsAdmissible, IsBetter, HasRoom, IsFirst, IsNoLater, tuple_of}
use Rattle.start_list.specs.Plans.{AreRuns, bytes_from}
use Rattle.scheme_search.specs.declared.meeting.Meeting.{Meeting}
use Rattle.scheme_search.specs.declared.shared.Pick.{Pick}
use Rattle.scheme_search.specs.declared.site_turn.SiteTurn.{SiteTurn}
use Rattle.scheme_search.specs.Order.{IsFirstBy}
use Rattle.scheme_search.specs.Shared.{pick_order, by_pick}
use Rattle.scheme_search.specs.Meetings.{Meets, MeetsBack, IsChosen, IsMeeting, shared_count}
use Rattle.scheme_search.proofs.SiteJumpTargets.{OnSite}
use Rattle.scheme_search.proofs.OneJumpBytes.{jump_length}
use Rattle.scheme_search.proofs.WrittenBytes.{taken_fixed, bytes_from-append}
use Rattle.scheme_search.proofs.ListedEntries.{one_entry}
use Rattle.scheme_search.proofs.SiteSegments.{on_site}
use Rattle.scheme_search.proofs.NeighbourEntries.{IsEntry, is_entry, placed_site, is_admissible, entry_low, are_chosen}
use Rattle.scheme_search.proofs.MeetingBytes.{meeting_ends}
use Rattle.scheme_near.specs.declared.choice.Choice.{Choice}
use Rattle.scheme_near.specs.Choices.{IsOpen, IsMeetingOf, IsBeside, IsGood, IsGoodOf, IsGoodAt, candidate, jumps, whole_order}
use Rattle.scheme_near.specs.Written.{IsReady}
use Rattle.scheme_near.proofs.AllowedPlans.{allowed, meet, is_open, inner_low, one_run, front_run, back_run, three_runs, punned_run}

module _ (v : TurnView) (site e : StartEntry) (s : Segment) (g : OnSite v site s) (w : IsEntry v e) (room : 2 ≤ site.len)
    (above : site.addr + site.len ≤ e.addr)
    (victim : MayBeVictim v site e) (only : (f : StartEntry) → MayBeVictim v site f → f.addr ≡ e.addr
    → f ≡ e) (i : ℕ) (inside : (2 ≤ i) × (i < e.len)) (near : e.addr + i ≤ site.addr + 129)
    (unlisted : is_some (entry_at v.entries (e.addr + i)) ≡ false)
    (o : IsOpen v site e i) (m : Meeting) (is : IsMeetingOf v e i m) (work other : ℕ) (is_work : work_length site ≡ Some work)
    (is_other : work_length e ≡ Some other) (may : MayBeSite site) where
  -- How many bytes the site's trampoline has.
  abbrev size : ℕ
  size = v.event_size + work

  -- What is chosen of the meeting.
  abbrev Chosen : Pick → Type 0
  Chosen = IsChosen v.taken (MeetsBack m) size other

  -- As many bytes are shared as the form says.
  same_count : shared_count m ≡ shared_inside e i
  same_count =
      let a = is.own in
      let b = is.pads in
      let c = is.ends.back_own in
      let j = inside.0 in
      let f = inside.1 in
      omega (arith, a, b, c, f, j)

  -- The tuple is one of the scheme's.
  form_of : (x t : ℕ) → x ≡ low_displacement (shared_count m) m.back_next t → IsNear v site e i x t
  form_of x t h = record {
    room = room;
    victim = victim;
    above = above;
    inside = inside;
    near = omega (arith, near);
    unlisted = unlisted;
    shared = h ∙ (λ j. low_displacement (same_count j) (is.ends.back j) t);
  }

  -- Where the victim's own jump ends.
  front_is : m.front_next ≡ e.addr + 0 + 5
  front_is = let a = is.front in omega arith

  -- Where the jump inside ends.
  back_is : m.back_next ≡ e.addr + i + 0 + 5
  back_is = let a = is.ends.back in omega arith

  -- Where the victim ends.
  behind_is : e.addr + e.len ≡ e.addr + i + (e.len - i)
  behind_is = let j = inside.1 in omega arith

  -- The fixed bytes are those after the victim.
  fixed_is : m.fixed ≡ bytes_from (memory_now v) (e.addr + i + (e.len - i)) (4 - min (e.len - i - 1) 4)
  fixed_is = is.ends.fixed ∙ (λ j. bytes_from (memory_now v) (behind_is j) (4 - is.ends.back_own j))

  -- Where the jumps meet, the plan is allowed.
  meets_allowed : (x t u : ℕ) → Meets m x u t → IsAllowed v site (T3 e i x t u)
  meets_allowed x t u h =
      allowed v site e s g w room above i inside t u o x (form_of x t h.shared)
      ((λ j. drop (sym is.own j) (rel_bytes (sym front_is j) u)) ∙ h.front
      ∙ (λ j. take (4 - is.own j) (replicate (is.pads j) (is.byte j) ++ 0xE9 ∷ rel_bytes (back_is j) t)))
      ((λ j. drop (sym is.ends.back_own j) (rel_bytes (sym back_is j) t)) ∙ h.back ∙ fixed_is)

  -- Where the plan is allowed, the jumps meet.
  allowed_meets : (x t u : ℕ) → IsAllowed v site (T3 e i x t u) → Meets m x u t
  allowed_meets x t u h =
      let k = meet v site e s g w room above i inside t u o h.stands in
      record {
        front = (λ j. drop (is.own j) (rel_bytes (front_is j) u)) ∙ k.0
            ∙ (λ j. take (4 - sym is.own j) (replicate (sym is.pads j) (sym is.byte j) ++ 0xE9 ∷ rel_bytes (sym back_is j) t));
        back = (λ j. drop (is.ends.back_own j) (rel_bytes (back_is j) t)) ∙ k.1 ∙ sym fixed_is;
        shared = h.form.shared ∙ (λ j. low_displacement (sym same_count j) (sym is.ends.back j) t);
      }

  -- An admissible plan is chosen.
  pub admissible_chosen : (x t u : ℕ) → IsAdmissible v site (T3 e i x t u) → Chosen (record { x = x; first = t; second = u })
  admissible_chosen x t u h =
      are_chosen v site e work other is_work is_other (MeetsBack m) x t u (allowed_meets x t u h.allowed) h.placed
      (λ r y l k placed. h.least (omega arith) (T3 e i x r y) (record { scheme = refl; front = refl; lower = l })
      (meets_allowed x r y k) placed)

  -- Equal tuples have equal entries.
  front_parts : (a b c a' b' c' : ℕ) → a ∷ b ∷ c ∷ [] ≡ a' ∷ b' ∷ c' ∷ [] → (a ≡ a') × (b ≡ b') × (c ≡ c')
  front_parts a b c a' b' c' h = (cc, cc, cc)

  -- No plan that is better than what is chosen is allowed and has room.
  no_better : (x t u : ℕ) → Chosen (record { x = x; first = t; second = u }) → (d : Candidate) → IsBetter (T3 e i x t u) d
      → IsAllowed v site d → HasRoom v (trampolines_of site d) → ⊥
  no_better x t u h (B1 r) b ok r' = let z = b.scheme in cc
  no_better x t u h (B2 r) b ok r' = let z = b.scheme in cc
  no_better x t u h (T1 k r) b ok r' = let z = b.scheme in cc
  no_better x t u h (T2 f p' q' pad' x' r y) b ok r' = let z = b.scheme in cc
  no_better x t u h (T3 f i' x' r y) b ok r' =
      let k = front_parts f.addr i' x' e.addr i x b.front in
      let same = only f ok.form.victim k.0 in
      let here : IsAllowed v site (T3 e i x r y) =
      subst (λ (c : Candidate). IsAllowed v site c) (λ j. T3 (same j) (k.1 j) (k.2 j) r y) ok in
      let low = h.least r y (allowed_meets x r y here) (placed_site v site e work other is_work is_other r r') in
      let l = b.lower in omega (arith, low, l)

  -- What is chosen is admissible.
  pub chosen_admissible : (x t u : ℕ) → Chosen (record { x = x; first = t; second = u }) → IsAdmissible v site (T3 e i x t u)
  chosen_admissible x t u h =
      is_admissible v site e work other is_work is_other (T3 e i x t u) x t u refl may (MeetsBack m) h
      (meets_allowed x t u h.allowed) (no_better x t u h)

  -- A good choice with these numbers is chosen.
  good_chosen : (c : Choice) → IsGoodAt v site e i c → Chosen c.pick
  good_chosen c h =
      let same = only c.victim h.0.0.allowed.form.victim h.0.1 in
      let a : IsAdmissible v site (T3 e i c.pick.x c.pick.first c.pick.second) =
      subst (λ (d : Candidate). IsAdmissible v site d) (λ j. T3 (same j) (h.1 j) c.pick.x c.pick.first c.pick.second) h.0.0 in
      admissible_chosen c.pick.x c.pick.first c.pick.second a

  -- Where none is chosen, none is good.
  pub none_chosen : ((k : Pick) → Chosen k → ⊥) → (c : Choice) → IsGoodAt v site e i c → ⊥
  none_chosen none c h = none c.pick (good_chosen c h)

  -- What is chosen first is the first good choice.
  pub first_chosen : (k : Pick) → IsFirstBy pick_order Chosen k → IsFirstBy (by_pick (λ (d : Choice). d.pick)) (IsGoodAt v site e i) (record {
    victim =
        e;
    offset = i;
    pick = k;
  })
  first_chosen k h = record {
    good = ((chosen_admissible k.x k.first k.second h.good, refl), refl);
    first = λ c good. h.first c.pick (good_chosen c good);
  }

-- The numbers of a victim's own jump and the one inside it are those of two jumps that meet.
pub is_meeting : (here : SiteTurn) (e : StartEntry) → IsBeside here e → (i : ℕ) → (2 ≤ i) × (i < e.len) → (m : Meeting)
    → IsMeetingOf (view_of here.turn) e i m → IsMeeting m
is_meeting here e b i inside m is =
    let low = entry_low here e b.victim.listed in
    let j = inside.0 in
    let l = inside.1 in
    let f = is.front in
    let n = is.own in
    let k = is.pads in
    let y = is.byte in
    let o = is.ends.back_own in
    meeting_ends (view_of here.turn) e i m is.ends l low (omega arith, omega arith) (omega arith) (omega arith) (omega arith)
    (omega (arith, n, k, o, j, l))

module _ (here : SiteTurn) (e : StartEntry) (b : IsBeside here e) (room : 2 ≤ here.site.len) where
  -- The turn as a plan is judged on it.
  abbrev view : TurnView
  view = view_of here.turn

  -- There is one entry with the victim's address.
  pub only_one : (f : StartEntry) → MayBeVictim view here.site f → f.addr ≡ e.addr → f ≡ e
  only_one f h a = one_entry here.turn.starts.now e f here.stands.built.ascending b.victim.listed h.listed a

  -- What is chosen of the meeting is the first good choice.
  pub first_with : (j : ℕ) → (2 ≤ j) × (j < e.len) → e.addr + j ≤ here.site.addr + 129 → is_some (entry_at here.turn.starts.now (e.addr + j)) ≡ false
      → IsOpen view here.site e j
      → (m : Meeting) → IsMeetingOf view e j m → (other : ℕ) → work_length e ≡ Some other
      → (k : Pick) → IsFirstBy pick_order (IsChosen here.turn.space.now.taken (MeetsBack m) (here.turn.event_size + here.work) other) k
      → IsFirstBy (by_pick (λ (d : Choice). d.pick)) (IsGoodAt view here.site e j) (record { victim = e; offset = j; pick = k })
  first_with j inside near unlisted o m is other is_other k h =
      let w = is_entry here e b.victim.listed in
      first_chosen view here.site e here.segment (on_site here) w room b.above b.victim only_one j inside near unlisted o m is here.work other here.stands.work is_other here.stands.may k h

  -- Where nothing is chosen of the meeting, none is good.
  pub none_with : (j : ℕ) → (2 ≤ j) × (j < e.len) → e.addr + j ≤ here.site.addr + 129 → is_some (entry_at here.turn.starts.now (e.addr + j)) ≡ false
      → IsOpen view here.site e j
      → (m : Meeting) → IsMeetingOf view e j m → (other : ℕ) → work_length e ≡ Some other
      → ((k : Pick) → IsChosen here.turn.space.now.taken (MeetsBack m) (here.turn.event_size + here.work) other k → ⊥) → (c : Choice)
      → IsGoodAt view here.site e j c → ⊥
  none_with j inside near unlisted o m is other is_other none c h =
      let w = is_entry here e b.victim.listed in
      none_chosen view here.site e here.segment (on_site here) w room b.above b.victim only_one j inside near unlisted o m is here.work other here.stands.work is_other here.stands.may none c h

  -- A good choice is one of this victim and this place.
  at_here : (j : ℕ) (c : Choice) → IsGoodAt view here.site e j c → IsAdmissible view here.site (T3 e j c.pick.x c.pick.first c.pick.second)
  at_here j c h =
      let same = only_one c.victim h.0.0.allowed.form.victim h.0.1 in
      subst (λ (d : Candidate). IsAdmissible view here.site d) (λ k. T3 (same k) (h.1 k) c.pick.x c.pick.first c.pick.second) h.0.0

  -- A good choice has an open victim, a near place in it, and one that isn't listed.
  pub good_open : (j : ℕ) (c : Choice) → IsGoodAt view here.site e j c → IsOpen view here.site e j
  good_open j c h =
      let a = at_here j c h in
      let w = is_entry here e b.victim.listed in
      is_open view here.site e here.segment (on_site here) w room b.above j a.allowed.form.inside c.pick.first c.pick.second a.allowed.free a.allowed.punned

  -- The place of a good choice lies in the victim.
  pub good_inside : (c : Choice) → IsGoodOf view here.site e c → (2 ≤ c.offset) × (c.offset < e.len)
  good_inside c h = (at_here c.offset c (h, refl)).allowed.form.inside

module _ (here : SiteTurn) where
  -- A candidate of the scheme, as a choice.
  as_choice : (c : Candidate) → scheme_of c ≡ scheme.T3 → (d : Choice) × (c ≡ candidate d)
  as_choice (B1 r) h = absurd (cc)
  as_choice (B2 r) h = absurd (cc)
  as_choice (T1 p r) h = absurd (cc)
  as_choice (T2 e p q pad x r u) h = absurd (cc)
  as_choice (T3 e j x r u) h = (record { victim = e; offset = j; pick = record { x = x; first = r; second = u } }, refl)

  -- Each admissible plan of the scheme is a good choice.
  pub good_choice : (c : Candidate) → scheme_of c ≡ scheme.T3 → IsAdmissible (view_of here.turn) here.site c
      → (d : Choice) × (c ≡ candidate d) × IsGood (view_of here.turn) here.site d
  good_choice c h a = let d = as_choice c h in (d.0, d.1, subst (λ (k : Candidate). IsAdmissible (view_of here.turn) here.site k) d.1 a)

  -- The first good choice is the first admissible plan of the scheme.
  pub first_of_all : (d : Choice) → IsFirstBy whole_order (IsGood (view_of here.turn) here.site) d → IsFirst (view_of here.turn) here.site scheme.T3 (candidate d)
  first_of_all d h = record {
    scheme = refl;
    admissible = h.good;
    first = λ c s q.
        let k = good_choice c s q in
        subst (λ (z : Candidate). IsNoLater (tuple_of (candidate d)) (tuple_of z)) (sym k.1) (h.first k.0 k.2);
  }

module _ (here : SiteTurn) (c : Choice) (good : IsGood (view_of here.turn) here.site c) where
  -- The victim.
  abbrev e : StartEntry
  e = c.victim

  -- The three jumps.
  abbrev three : List Jump
  three = jumps here.site c

  -- Memory after the writes.
  abbrev memory : Bytes
  memory = after_writes (memory_now (view_of here.turn)) three

  -- How many bytes the victim's own jump has before the jump inside.
  abbrev outer_count : ℕ
  outer_count = min c.offset 5

  -- How many bytes the jump inside has in the victim.
  abbrev inner_count : ℕ
  inner_count = min (e.len - c.offset) 5

  -- What the plan of a good choice tells.
  pub record IsTold : Type 0 where
    pub entry : IsEntry (view_of here.turn) e
    pub room : 2 ≤ here.site.len
    pub above : here.site.addr + here.site.len ≤ e.addr
    pub inside : (2 ≤ c.offset) × (c.offset < e.len)
    pub near : e.addr + c.offset ≤ here.site.addr + 129
    pub inner_end : e.addr + c.offset + 5 ≤ 0x7fff0000
    pub one : here.site.addr + 2 ≡ e.addr → c.offset ≤ 5 → AreRuns (is_written three) (record {
      addr = here.site.addr;
      size =
          2 + (outer_count + inner_count);
    } ∷ [])
    pub front : here.site.addr + 2 ≡ e.addr → 5 < c.offset → AreRuns (is_written three) (record {
      addr = here.site.addr;
      size =
          2 + outer_count;
    } ∷ record { addr = e.addr + c.offset; size = inner_count } ∷ [])
    pub back : here.site.addr + 2 < e.addr → c.offset ≤ 5 → AreRuns (is_written three) (record { addr = here.site.addr; size = 2 } ∷ record {
      addr =
          e.addr;
      size = outer_count + inner_count;
    } ∷ [])
    pub apart : here.site.addr + 2 < e.addr → 5 < c.offset → AreRuns (is_written three) (record {
      addr = here.site.addr;
      size =
          2;
    } ∷ record { addr = e.addr; size = outer_count } ∷ record { addr = e.addr + c.offset; size = inner_count } ∷ [])
    pub punned : (x : ℕ) → is_within (e.addr + e.len) (c.offset + 5 - e.len) x ≡ is_punned three x
    pub shorts : 0xEB ∷ (e.addr + c.offset - (here.site.addr + 2)) ∷ [] ≡ bytes_from memory here.site.addr 2
    pub outers : take outer_count (0xE9 ∷ rel_bytes (e.addr + 5) c.pick.second) ≡ bytes_from memory e.addr outer_count
    pub inners : take inner_count (0xE9 ∷ rel_bytes (e.addr + c.offset + 5) c.pick.first) ≡ bytes_from memory
        (e.addr + c.offset) inner_count

  -- A good choice tells that.
  pub is_told : IsTold
  is_told =
      let v = view_of here.turn in
      let f = good.allowed.form in
      let w = is_entry here e f.victim.listed in
      let j = c.offset in
      let x = c.pick.first in
      let y = c.pick.second in
      let o = is_open v here.site e here.segment (on_site here) w f.room f.above j f.inside x y good.allowed.free good.allowed.punned in
      let low = inner_low v here.site e here.segment (on_site here) w f.room f.above j f.inside x y o in
      let n = f.near in
      let short_end = f.room in
      let over = f.above in
      let short = taken_fixed memory here.site.addr 2 (0xEB ∷ (e.addr + j - (here.site.addr + 2)) ∷ []) (omega (arith, low, over))
      (omega arith) good.allowed.stands.0 in
      let zero_inner : e.addr + j + 5 ≡ e.addr + j + 0 + 5 = omega arith in
      let zero_outer : e.addr + 5 ≡ e.addr + 0 + 5 = omega arith in
      let inner = taken_fixed memory (e.addr + j) (min (e.len - j) 5) (0xE9 ∷ rel_bytes (e.addr + j + 0 + 5) x)
      (omega (arith, low, jump_length 0 0x40 (e.addr + j + 0 + 5) x))
      (omega (arith, jump_length 0 0x40 (e.addr + j + 0 + 5) x)) good.allowed.stands.1.0 in
      let outer = taken_fixed memory e.addr (min j 5) (0xE9 ∷ rel_bytes (e.addr + 0 + 5) y)
      (omega (arith, low, jump_length 0 0x40 (e.addr + 0 + 5) y))
      (omega (arith, jump_length 0 0x40 (e.addr + 0 + 5) y)) good.allowed.stands.1.1.0 in
      record {
        entry = w;
        room = f.room;
        above = f.above;
        inside = f.inside;
        near = omega (arith, n);
        inner_end = low;
        one = one_run v here.site e here.segment (on_site here) w f.room f.above j f.inside x y;
        front = front_run v here.site e here.segment (on_site here) w f.room f.above j f.inside x y;
        back = back_run v here.site e here.segment (on_site here) w f.room f.above j f.inside x y;
        apart = three_runs v here.site e here.segment (on_site here) w f.room f.above j f.inside x y;
        punned = punned_run v here.site e here.segment (on_site here) w f.room f.above j f.inside x y;
        shorts = short;
        outers = ap (λ a. take (min j 5) (0xE9 ∷ rel_bytes a y)) zero_outer ∙ outer;
        inners = ap (λ a. take (min (e.len - j) 5) (0xE9 ∷ rel_bytes a x)) zero_inner ∙ inner;
      }

  -- Where the victim's two jumps touch, their bytes stand as one piece.
  pub outer_inner : IsTold → c.offset ≤ 5 → take outer_count (0xE9 ∷ rel_bytes (e.addr + 5) c.pick.second) ++ take inner_count
      (0xE9 ∷ rel_bytes (e.addr + c.offset + 5) c.pick.first) ≡ bytes_from memory e.addr (outer_count + inner_count)
  outer_inner k few =
      let at : e.addr + c.offset ≡ e.addr + outer_count = omega arith in
      (λ j. k.outers j ++ k.inners j) ∙ ap (λ a. bytes_from memory e.addr outer_count ++ bytes_from memory a inner_count) at
      ∙ sym (bytes_from-append memory e.addr outer_count inner_count)

  -- Where the short jump and the victim's own touch, their bytes stand as one piece.
  pub short_outer : IsTold → here.site.addr + 2 ≡ e.addr → (0xEB ∷ (e.addr + c.offset - (here.site.addr + 2)) ∷ []) ++ take outer_count
      (0xE9 ∷ rel_bytes (e.addr + 5) c.pick.second) ≡ bytes_from memory here.site.addr (2 + outer_count)
  short_outer k touch =
      (λ j. k.shorts j ++ k.outers j) ∙ ap (λ a. bytes_from memory here.site.addr 2 ++ bytes_from memory a outer_count) (sym touch)
      ∙ sym (bytes_from-append memory here.site.addr 2 outer_count)

  -- Where all three jumps touch, their bytes stand as one piece.
  pub short_all : IsTold → here.site.addr + 2 ≡ e.addr → c.offset ≤ 5
      → (0xEB ∷ (e.addr + c.offset - (here.site.addr + 2)) ∷ []) ++
      (take outer_count (0xE9 ∷ rel_bytes (e.addr + 5) c.pick.second) ++ take inner_count
      (0xE9 ∷ rel_bytes (e.addr + c.offset + 5) c.pick.first)) ≡ bytes_from memory here.site.addr (2 + (outer_count + inner_count))
  short_all k touch few =
      (λ j. k.shorts j ++ outer_inner k few j)
      ∙ ap (λ a. bytes_from memory here.site.addr 2 ++ bytes_from memory a (outer_count + inner_count)) (sym touch)
      ∙ sym (bytes_from-append memory here.site.addr 2 (outer_count + inner_count))

-- A good choice is ready to be written.
pub is_ready : (here : SiteTurn) (c : Choice) → IsGood (view_of here.turn) here.site c → IsReady here c
is_ready here c good =
    let k = is_told here c good in
    let w = k.entry in
    let low = w.low in
    let room = k.room in
    let above = k.above in
    let first = good.placed.0.2.below in
    let second = good.placed.2.0.2.below in
    record {
      good = good;
      above = omega arith;
      near = k.near;
      inside = k.inside;
      low = k.inner_end;
      end = low;
      long = w.most;
      places = (omega (arith, first), omega (arith, second));
    }
