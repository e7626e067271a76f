-- The admissible plans of scheme T2 with given pads are those that are chosen of two jumps that meet.
use Rattle.std.proofs.Common.{◌≡◌, ℕ, ◌+◌, ◌-◌, ◌<◌, ◌≤◌, min, List, [], ◌∷◌, ◌++◌, take, drop, replicate, Some, refl, sym, ap, ◌∙◌, subst, arith}
use Rattle.std.specs.Prelude.{Contains}
use Rattle.pun_base.specs.Memory.{Bytes}
use Rattle.pun_base.specs.Ranges.{is_within}
use Rattle.pun_base.specs.declared.scheme.Scheme.TheVariants as scheme
use Rattle.elf_read.specs.declared.segment.Segment.{Segment}
use Rattle.insn_form.specs.Moved.{rel_bytes}
use Rattle.start_entries.specs.declared.entry.StartEntry.{StartEntry}
use Rattle.start_list.specs.Turning.{view_of}
use Rattle.start_list.specs.TurnViews.{TurnView, memory_now}
use Rattle.start_list.specs.PlanJumps.{Jump, is_written, is_punned, after_writes}
use Rattle.start_list.specs.Forms.{Candidate, B1, B2, T1, T2, T3, scheme_of, work_length, MayBeVictim, IsBehind, shared_behind, low_displacement, trampolines_of, MayBeSite}
use Rattle.start_list.specs.Admissible.{IsAllowed, IsAdmissible, IsBetter, HasRoom, IsFirst, IsNoLater, tuple_of}
use Rattle.start_list.specs.Plans.{bytes_from}
use Rattle.scheme_search.specs.declared.meeting.Meeting.{Meeting}
use Rattle.scheme_search.specs.declared.shared.Pick.{Pick}
use Rattle.scheme_search.specs.declared.site_turn.SiteTurn.{SiteTurn}
use Rattle.scheme_search.specs.Order.{IsFirstBy}
use Rattle.scheme_search.specs.Shared.{pick_order, by_pick}
use Rattle.scheme_search.specs.Meetings.{Meets, MeetsFront, IsChosen, IsMeeting, shared_count}
use Rattle.scheme_search.proofs.SiteJumpTargets.{OnSite}
use Rattle.scheme_search.proofs.OneJumpBytes.{jump_length}
use Rattle.scheme_search.proofs.WrittenBytes.{taken_fixed, bytes_from-append}
use Rattle.scheme_search.proofs.MeetingJumps.{code_of}
use Rattle.scheme_search.proofs.ListedEntries.{one_entry}
use Rattle.scheme_search.proofs.SiteSegments.{on_site}
use Rattle.scheme_search.proofs.NeighbourEntries.{IsEntry, is_entry, placed_site, is_admissible, entry_low, are_chosen}
use Rattle.scheme_search.proofs.MeetingBytes.{meeting_ends}
use Rattle.scheme_succ.specs.declared.choice.Choice.{Choice}
use Rattle.scheme_succ.specs.Choices.{IsOpen, IsMeetingOf, IsBeside, IsGood, IsGoodBehind, IsGoodWith, candidate, jumps, written_count, whole_order}
use Rattle.scheme_succ.proofs.AllowedPlans.{allowed, meet, is_open, back_low, front_end, written_run, punned_run}

module _ (v : TurnView) (site e : StartEntry) (s : Segment) (g : OnSite v site s) (w : IsEntry v e)
    (behind : e.addr ≡ site.addr + site.len) (short : site.len ≤ 4)
    (victim : MayBeVictim v site e) (only : (f : StartEntry) → MayBeVictim v site f → f.addr ≡ e.addr
    → f ≡ e) (p q pad : ℕ) (inside : p < site.len) (few : (q ≤ 4) × (q < e.len)) (rex : (0x40 ≤ pad) × (pad ≤ 0x4F)) (one_pad : q ≡ 0
    → pad ≡ 0x40) (two : shared_behind site e p q ≤ 2)
    (o : IsOpen v site e q) (m : Meeting) (is : IsMeetingOf v site e p q pad m) (work other : ℕ) (is_work : work_length site ≡ Some work)
    (is_other : work_length e ≡ Some other) (may : MayBeSite site) where
  -- How many bytes the site's trampoline has.
  abbrev size : ℕ
  size = v.event_size + work

  -- What is chosen of the meeting.
  abbrev Chosen : Pick → Type 0
  Chosen = IsChosen v.taken (MeetsFront m) size other

  -- As many bytes are shared as the form says.
  same_count : shared_count m ≡ shared_behind site e p q
  same_count =
      let a = is.own in
      let b = is.pads in
      let c = is.ends.back_own in
      let f = few.1 in
      omega (arith, a, b, c, f)

  -- The tuple is one of the scheme's.
  form_of : (x u : ℕ) → x ≡ low_displacement (shared_count m) m.back_next u → IsBehind v site e p q pad x u
  form_of x u h = record {
    short = short;
    pads = inside;
    victim = victim;
    behind = behind;
    victim_pads = few;
    rex = rex;
    one_pad = one_pad;
    few = two;
    shared = h ∙ (λ i. low_displacement (same_count i) (is.ends.back i) u);
  }

  -- Where the jumps meet, the plan is allowed.
  meets_allowed : (x t u : ℕ) → Meets m x t u → IsAllowed v site (T2 e p q pad x t u)
  meets_allowed x t u h =
      allowed v site e s g w behind short p q pad inside few t u o x (form_of x u h.shared)
      ((λ i. drop (sym is.own i) (rel_bytes (sym is.front i) t)) ∙ h.front
      ∙ (λ i. take (4 - is.own i) (replicate (is.pads i) (is.byte i) ++ 0xE9 ∷ rel_bytes (is.ends.back i) u)))
      ((λ i. drop (sym is.ends.back_own i) (rel_bytes (sym is.ends.back i) u)) ∙ h.back ∙ is.ends.fixed
      ∙ (λ i. bytes_from (memory_now v) (e.addr + e.len) (4 - is.ends.back_own i)))

  -- Where the plan is allowed, the jumps meet.
  allowed_meets : (x t u : ℕ) → IsAllowed v site (T2 e p q pad x t u) → Meets m x t u
  allowed_meets x t u h =
      let k = meet v site e s g w behind short p q pad inside few t u o h.stands in
      record {
        front = (λ i. drop (is.own i) (rel_bytes (is.front i) t)) ∙ k.0
            ∙ (λ i. take (4 - sym is.own i) (replicate (sym is.pads i) (sym is.byte i) ++ 0xE9 ∷ rel_bytes (sym is.ends.back i) u));
        back = (λ i. drop (is.ends.back_own i) (rel_bytes (is.ends.back i) u)) ∙ k.1
            ∙ sym (is.ends.fixed ∙ (λ i. bytes_from (memory_now v) (e.addr + e.len) (4 - is.ends.back_own i)));
        shared = h.form.shared ∙ (λ i. low_displacement (sym same_count i) (sym is.ends.back i) u);
      }

  -- An admissible plan is chosen.
  pub admissible_chosen : (x t u : ℕ) → IsAdmissible v site (T2 e p q pad x t u) → Chosen (record { x = x; first = t; second = u })
  admissible_chosen x t u h =
      are_chosen v site e work other is_work is_other (MeetsFront m) x t u (allowed_meets x t u h.allowed) h.placed
      (λ r y l k placed. h.least (omega arith) (T2 e p q pad x r y) (record { scheme = refl; front = refl; lower = l })
      (meets_allowed x r y k) placed)

  -- Equal tuples have equal entries.
  front_parts : (a b c d a' b' c' d' : ℕ) → a ∷ b ∷ c ∷ d ∷ [] ≡ a' ∷ b' ∷ c' ∷ d' ∷ [] → (a ≡ a') × (b ≡ b') × (c ≡ c') × (d ≡ d')
  front_parts a b c d a' b' c' d' h = (cc, cc, cc, cc)

  -- No plan that is better than what is chosen is allowed and has room.
  no_better : (x t u : ℕ) → Chosen (record { x = x; first = t; second = u }) → (d : Candidate) → IsBetter (T2 e p q pad x t u) d
      → IsAllowed v site d → HasRoom v (trampolines_of site d) → ⊥
  no_better x t u h (B1 r) b ok room = let z = b.scheme in cc
  no_better x t u h (B2 r) b ok room = let z = b.scheme in cc
  no_better x t u h (T1 k r) b ok room = let z = b.scheme in cc
  no_better x t u h (T2 f p' q' pad' x' r y) b ok room =
      let k = front_parts p' q' pad' x' p q pad x b.front in
      let same = only f ok.form.victim (ok.form.behind ∙ sym behind) in
      let here : IsAllowed v site (T2 e p q pad x r y) =
      subst (λ (c : Candidate). IsAllowed v site c) (λ i. T2 (same i) (k.0 i) (k.1 i) (k.2 i) (k.3 i) r y) ok in
      let low = h.least r y (allowed_meets x r y here) (placed_site v site e work other is_work is_other r room) in
      let l = b.lower in omega (arith, low, l)
  no_better x t u h (T3 f i x' r y) b ok room = let z = b.scheme in cc

  -- What is chosen is admissible.
  pub chosen_admissible : (x t u : ℕ) → Chosen (record { x = x; first = t; second = u }) → IsAdmissible v site (T2 e p q pad x t u)
  chosen_admissible x t u h =
      is_admissible v site e work other is_work is_other (T2 e p q pad x t u) x t u refl may (MeetsFront m) h
      (meets_allowed x t u h.allowed) (no_better x t u h)

  -- A good choice with these numbers is chosen.
  good_chosen : (c : Choice) → IsGoodWith v site e p q pad c → Chosen c.pick
  good_chosen c h =
      let a : IsAdmissible v site (T2 e p q pad c.pick.x c.pick.first c.pick.second) =
      subst (λ (d : Candidate). IsAdmissible v site d) (λ i. T2 e (h.0.0.1 i) (h.0.1 i)
      (h.1 i) c.pick.x c.pick.first c.pick.second) h.0.0.0 in
      admissible_chosen c.pick.x c.pick.first c.pick.second a

  -- Where none is chosen, none is good.
  pub none_chosen : ((k : Pick) → Chosen k → ⊥) → (c : Choice) → IsGoodWith v site e p q pad c → ⊥
  none_chosen none c h = none c.pick (good_chosen c h)

  -- What is chosen first is the first good choice.
  pub first_chosen : (k : Pick) → IsFirstBy pick_order Chosen k → IsFirstBy (by_pick (λ (d : Choice). d.pick)) (IsGoodWith v site e p q pad) (record {
    pads =
        p;
    victim_pads = q;
    pad = pad;
    pick = k;
  })
  first_chosen k h = record {
    good = (((chosen_admissible k.x k.first k.second h.good, refl), refl), refl);
    first = λ c good. h.first c.pick (good_chosen c good);
  }

-- The numbers of a site's jump and its victim's, by their pads, are those of two jumps that meet.
pub is_meeting : (here : SiteTurn) (e : StartEntry) → IsBeside here e → (p q pad : ℕ) → p < here.site.len
    → (q ≤ 4) × (q < e.len) → pad ≤ 0x4F → shared_behind here.site e p q ≤ 2 → (m : Meeting)
    → IsMeetingOf (view_of here.turn) here.site e p q pad m → IsMeeting m
is_meeting here e b p q pad inside few rex two m is =
    let low = entry_low here e b.victim.listed in
    let at = b.behind in
    let short = b.short in
    let q4 = few.0 in
    let qm = few.1 in
    let f = is.front in
    let n = is.own in
    let k = is.pads in
    let y = is.byte in
    let o = is.ends.back_own in
    meeting_ends (view_of here.turn) e q m is.ends qm low (omega arith, omega arith) (omega arith) (omega arith) (omega arith)
    (omega (arith, n, k, o, two, qm))

module _ (here : SiteTurn) (e : StartEntry) (b : IsBeside here e) where
  -- The turn as a plan is judged on it.
  abbrev view : TurnView
  view = view_of here.turn

  -- There is one entry with the victim's address.
  only_one : (f : StartEntry) → MayBeVictim view here.site f → f.addr ≡ e.addr → f ≡ e
  only_one f h a = one_entry here.turn.starts.now e f here.stands.built.ascending b.victim.listed h.listed a

  -- What is chosen of the meeting is the first good choice.
  pub first_with : (p q pad : ℕ) → p < here.site.len → (q ≤ 4) × (q < e.len) → (0x40 ≤ pad) × (pad ≤ 0x4F) → (q ≡ 0 → pad ≡ 0x40)
      → shared_behind here.site e p q ≤ 2 → IsOpen view here.site e q
      → (m : Meeting) → IsMeetingOf view here.site e p q pad m → (other : ℕ) → work_length e ≡ Some other
      → (k : Pick) → IsFirstBy pick_order (IsChosen here.turn.space.now.taken (MeetsFront m) (here.turn.event_size + here.work) other) k
      → IsFirstBy (by_pick (λ (d : Choice). d.pick)) (IsGoodWith view here.site e p q pad) (record { pads = p; victim_pads = q; pad = pad; pick = k })
  first_with p q pad inside few rex one_pad two o m is other is_other k h =
      let w = is_entry here e b.victim.listed in
      first_chosen view here.site e here.segment (on_site here) w b.behind b.short b.victim only_one p q pad
      inside few rex one_pad two o m is here.work other here.stands.work is_other here.stands.may k h

  -- Where nothing is chosen of the meeting, none is good.
  pub none_with : (p q pad : ℕ) → p < here.site.len → (q ≤ 4) × (q < e.len) → (0x40 ≤ pad) × (pad ≤ 0x4F) → (q ≡ 0 → pad ≡ 0x40)
      → shared_behind here.site e p q ≤ 2 → IsOpen view here.site e q
      → (m : Meeting) → IsMeetingOf view here.site e p q pad m → (other : ℕ) → work_length e ≡ Some other
      → ((k : Pick) → IsChosen here.turn.space.now.taken (MeetsFront m) (here.turn.event_size + here.work) other k → ⊥) → (c : Choice)
      → IsGoodWith view here.site e p q pad c → ⊥
  none_with p q pad inside few rex one_pad two o m is other is_other none c h =
      let w = is_entry here e b.victim.listed in
      none_chosen view here.site e here.segment (on_site here) w b.behind b.short b.victim only_one p q pad
      inside few rex one_pad two o m is here.work other here.stands.work is_other here.stands.may none c h

  -- A good choice has an open victim.
  pub good_open : (p q : ℕ) (c : Choice) → IsGoodBehind view here.site e p q c → IsOpen view here.site e q
  good_open p q c h =
      let a : IsAdmissible view here.site (T2 e p q c.pad c.pick.x c.pick.first c.pick.second) =
      subst (λ (d : Candidate). IsAdmissible view here.site d) (λ j. T2 e (h.0.1 j) (h.1 j) c.pad c.pick.x c.pick.first c.pick.second) h.0.0 in
      let w = is_entry here e b.victim.listed in
      let f = a.allowed.form in
      is_open view here.site e here.segment (on_site here) w b.behind b.short p q c.pad f.pads f.victim_pads c.pick.first
      c.pick.second a.allowed.free a.allowed.punned

module _ (here : SiteTurn) (e : StartEntry) (b : IsBeside here e) (c : Choice) (good : IsGood (view_of here.turn) here.site e c) where
  -- The two jumps.
  abbrev both : List Jump
  both = jumps here.site e c

  -- Memory after the writes.
  abbrev memory : Bytes
  memory = after_writes (memory_now (view_of here.turn)) both

  -- What the plan of a good choice tells.
  pub record IsTold : Type 0 where
    pub entry : IsEntry (view_of here.turn) e
    pub front_end : here.site.addr + c.pads + 5 ≤ 0x7fff0000
    pub back_end : e.addr + c.victim_pads + 5 ≤ 0x7fff0000
    pub written : (x : ℕ) → is_within here.site.addr (written_count here.site e c) x ≡ is_written both x
    pub punned : (x : ℕ) → is_within (e.addr + e.len) (c.victim_pads + 5 - e.len) x ≡ is_punned both x
    pub bytes : take here.site.len (code_of here.site.addr c.pads 0x40 c.pick.first) ++ take (min e.len (c.victim_pads + 5))
        (code_of e.addr c.victim_pads c.pad c.pick.second)
        ≡ bytes_from memory here.site.addr (written_count here.site e c)

  -- A good choice tells that.
  pub is_told : IsTold
  is_told =
      let v = view_of here.turn in
      let w = is_entry here e b.victim.listed in
      let f = good.allowed.form in
      let p = c.pads in
      let q = c.victim_pads in
      let x = c.pick.first in
      let y = c.pick.second in
      let o = is_open v here.site e here.segment (on_site here) w b.behind b.short p q c.pad f.pads f.victim_pads x y good.allowed.free good.allowed.punned in
      let back = back_low v here.site e here.segment (on_site here) w b.behind b.short p q c.pad f.pads f.victim_pads x y o in
      let front = front_end v here.site e here.segment (on_site here) w b.behind b.short p q c.pad f.pads f.victim_pads x y o in
      let n = min e.len (q + 5) in
      let long = jump_length p 0x40 (here.site.addr + p + 5) x in
      let wide = jump_length q c.pad (e.addr + q + 5) y in
      let inside = f.pads in
      let short = b.short in
      let first = taken_fixed memory here.site.addr here.site.len (code_of here.site.addr p 0x40 x) (omega (arith, front, long))
      (omega (arith, long, short)) good.allowed.stands.0 in
      let second = taken_fixed memory e.addr n (code_of e.addr q c.pad y) (omega (arith, back, wide))
      (omega (arith, wide)) good.allowed.stands.1.0 in
      record {
        entry = w;
        front_end = front;
        back_end = back;
        written = written_run v here.site e here.segment (on_site here) w b.behind b.short p q c.pad f.pads f.victim_pads x y;
        punned = punned_run v here.site e here.segment (on_site here) w b.behind b.short p q c.pad f.pads f.victim_pads x y;
        bytes = (λ j. first j ++ second j) ∙ ap (λ a. bytes_from memory here.site.addr here.site.len ++ bytes_from memory a n) b.behind
            ∙ sym (bytes_from-append memory here.site.addr here.site.len n);
      }

module _ (here : SiteTurn) where
  -- A candidate of the scheme, as a choice.
  as_choice : (c : Candidate) → scheme_of c ≡ scheme.T2 → (e : StartEntry) × ((d : Choice) × (c ≡ candidate e d))
  as_choice (B1 r) h = absurd (cc)
  as_choice (B2 r) h = absurd (cc)
  as_choice (T1 p r) h = absurd (cc)
  as_choice (T2 e p q pad x r u) h = (
    e,
    (
      record {
        pads = p;
        victim_pads = q;
        pad = pad;
        pick = record {
          x = x;
          first = r;
          second =
              u;
        };
      },
      refl,
    ),
  )
  as_choice (T3 e j x r u) h = absurd (cc)

  -- An admissible one has its victim right after the site.
  pub record IsBehindSite (c : Candidate) : Type 0 where
    pub short : here.site.len ≤ 4
    pub entry : StartEntry
    pub choice : Choice
    pub is : c ≡ candidate entry choice
    pub listed : Contains here.turn.starts.now entry
    pub at : entry.addr ≡ here.site.addr + here.site.len
    pub victim : MayBeVictim (view_of here.turn) here.site entry
    pub good : IsGood (view_of here.turn) here.site entry choice

  -- Each admissible plan of the scheme has its victim so.
  pub behind_site : (c : Candidate) → scheme_of c ≡ scheme.T2 → IsAdmissible (view_of here.turn) here.site c → IsBehindSite c
  behind_site c h a =
      let d = as_choice c h in
      let good = subst (λ (k : Candidate). IsAdmissible (view_of here.turn) here.site k) d.1.1 a in
      record {
        short = good.allowed.form.short;
        entry = d.0;
        choice = d.1.0;
        is = d.1.1;
        listed = good.allowed.form.victim.listed;
        at = good.allowed.form.behind;
        victim = good.allowed.form.victim;
        good = good;
      }

  -- The victim of each is the one that is listed there.
  pub same_entry : (e : StartEntry) → Contains here.turn.starts.now e → e.addr ≡ here.site.addr + here.site.len → (c : Candidate) (k : IsBehindSite c)
      → k.entry ≡ e
  same_entry e l a c k = one_entry here.turn.starts.now e k.entry here.stands.built.ascending l k.listed (k.at ∙ sym a)

  -- The choice of an admissible plan is good for the entry that is listed right after the site.
  pub good_of : (e : StartEntry) → Contains here.turn.starts.now e → e.addr ≡ here.site.addr + here.site.len → (c : Candidate) (k : IsBehindSite c)
      → IsGood (view_of here.turn) here.site e k.choice
  good_of e l a c k = subst (λ (f : StartEntry). IsGood (view_of here.turn) here.site f k.choice) (same_entry e l a c k) k.good

  -- The first good choice is the first admissible plan of the scheme.
  pub first_of_all : (e : StartEntry) → Contains here.turn.starts.now e → e.addr ≡ here.site.addr + here.site.len → (d : Choice)
      → IsFirstBy whole_order (IsGood (view_of here.turn) here.site e) d → IsFirst (view_of here.turn) here.site scheme.T2 (candidate e d)
  first_of_all e l a d h = record {
    scheme = refl;
    admissible = h.good;
    first = λ c s q.
        let k = behind_site c s q in
        let is : c ≡ candidate e k.choice = k.is ∙ ap (λ (f : StartEntry). candidate f k.choice) (same_entry e l a c k) in
        subst (λ (z : Candidate). IsNoLater (tuple_of (candidate e d)) (tuple_of z)) (sym is) (h.first k.choice (good_of e l a c k));
  }
