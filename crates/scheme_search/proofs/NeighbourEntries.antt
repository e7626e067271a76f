-- Listed entries beside a site, and where the trampolines of a site and a victim are free.
use Rattle.std.proofs.Common.{◌≡◌, ◌⊎◌, inl, inr, ℕ, ◌+◌, ◌-◌, ◌<◌, ◌≤◌, List, [], ◌∷◌, Option, Some, option_map, sym, ap, ◌∙◌, subst, arith}
use Rattle.std.specs.Prelude.{Contains}
use Rattle.std.proofs.lemmas.Bool.{cases_lt}
use Rattle.std.proofs.lemmas.Option.{same_Some}
use Rattle.pun_base.specs.Memory.{Cell}
use Rattle.cpu_state.specs.Bytes.{with_byte}
use Rattle.insn_form.specs.declared.form.Insn.{Insn}
use Rattle.insn_form.specs.Displacing.{IsSpelledBy}
use Rattle.address_space.specs.Free.{IsFree}
use Rattle.start_entries.specs.declared.entry.StartEntry.{StartEntry}
use Rattle.start_list.specs.Forms.{Candidate, Trampoline, MayBeSite, work_length, trampolines_of, for_site, for_victim}
use Rattle.start_list.specs.Admissible.{IsPlaced, ArePlaced, IsAllowed, IsBetter, HasRoom, IsAdmissible}
use Rattle.start_list.specs.TurnViews.{TurnView}
use Rattle.start_list.specs.Turning.{view_of}
use Rattle.start_entries.proofs.BuiltEntries.{all_listed}
use Rattle.start_list.proofs.CodeSegments.{executed_low}
use Rattle.scheme_search.specs.declared.site_turn.SiteTurn.{SiteTurn}
use Rattle.scheme_search.specs.Meetings.{IsChosen}
use Rattle.scheme_search.proofs.SiteSegments.{loaded_cell}
use Rattle.scheme_search.proofs.CodeCells.{IsCodeCell, IsFixedByte, written_cell, written_byte}

-- A listed entry has bytes of code below 0x7fff0000.
pub record IsEntry (v : TurnView) (e : StartEntry) : Type 0 where
  pub some : 1 ≤ e.len
  pub most : e.len ≤ 15
  pub low : e.addr + e.len ≤ 0x7fff0000
  pub code : (k : ℕ) → k < e.len → IsCodeCell (v.image (e.addr + k))
  pub spelled : (i : Insn) → e.form ≡ Some i → IsSpelledBy i e.len

-- A listed entry of a site's turn is one.
pub is_entry : (here : SiteTurn) (e : StartEntry) → Contains here.turn.starts.now e → IsEntry (view_of here.turn) e
is_entry here e c =
    let file = here.turn.elf.now.bytes in
    let k = here.stands.accepted in
    let h = all_listed file here.turn.starts.now e k here.stands.built c in
    let some = h.executed.some in
    let last = executed_low file (e.addr + (e.len - 1)) k (h.executed.executed (e.len - 1) (omega arith)) in
    record {
      some = some;
      most = h.executed.most;
      low = omega (arith, last);
      code = λ j l. loaded_cell file (e.addr + j) k (h.executed.executed j l);
      spelled = h.spelled;
    }

-- A listed instruction ends below 0x7fff0000.
pub entry_low : (here : SiteTurn) (e : StartEntry) → Contains here.turn.starts.now e → e.addr + e.len ≤ 0x7fff0000
entry_low here e c = (is_entry here e c).low

-- What is written on a byte of code stands there as code.
pub fixed_written : (b : ℕ) (c : Option Cell) → IsCodeCell c → IsFixedByte (with_byte b c) b
fixed_written b c h = record { code = written_cell b c h; byte = written_byte b c h }

-- The two trampolines by their sizes.
module _ (v : TurnView) (site e : StartEntry) (work other : ℕ) (is_work : work_length site ≡ Some work)
    (is_other : work_length e ≡ Some other) where
  -- How many bytes the site's trampoline has.
  site_size : option_map (λ n. v.event_size + n) (work_length site) ≡ Some (v.event_size + work)
  site_size = ap (option_map (λ n. v.event_size + n)) is_work

  -- How many the victim's has.
  victim_size : option_map (λ n. 0 + n) (work_length e) ≡ Some other
  victim_size = ap (option_map (λ n. 0 + n)) is_other ∙ (let q : 0 + other ≡ other = omega arith in ap Some q)

  -- The site's trampoline is placed where so many bytes are free.
  pub site_placed : (t : ℕ) → IsFree v.taken t (v.event_size + work) → IsPlaced v (for_site site t)
  site_placed t f = (v.event_size + work, site_size, f)

  -- The site's trampoline is placed only where so many bytes are free.
  pub placed_site : (t : ℕ) → IsPlaced v (for_site site t) → IsFree v.taken t (v.event_size + work)
  placed_site t (n, q, f) = subst (λ (k : ℕ). IsFree v.taken t k) (same_Some n (v.event_size + work) (sym q ∙ site_size)) f

  -- Both are placed where their bytes are free and don't meet.
  pub are_placed : (t u : ℕ) → IsFree v.taken t (v.event_size + work) → IsFree v.taken u other
      → (u + other ≤ t) ⊎ (t + (v.event_size + work) ≤ u) → ArePlaced v (for_site site t ∷ for_victim e u ∷ [])
  are_placed t u f g away = (
    site_placed t f,
    (
      λ n m q r.
          let a = same_Some n (v.event_size + work) (sym q ∙ site_size) in
          let b = same_Some m other (sym r ∙ victim_size) in
          elim away [ inl l ↦ inr (omega (arith, l, b)) | inr l ↦ inl (omega (arith, l, a)) ],
      tt,
    ),
    ((other, victim_size, g), tt, tt),
  )

  -- A plan of two trampolines is admissible where it is allowed, both are free and don't meet, and none is better.
  pub is_admissible : (c : Candidate) (x t u : ℕ) → trampolines_of site c ≡ for_site site t ∷ for_victim e u ∷ [] → MayBeSite site
      → (Allows : ℕ → ℕ → ℕ → Type 0) → IsChosen v.taken Allows (v.event_size + work) other (record { x = x; first = t; second = u })
      → IsAllowed v site c → ((d : Candidate) → IsBetter c d → IsAllowed v site d → HasRoom v (trampolines_of site d) → ⊥)
      → IsAdmissible v site c
  is_admissible c x t u is may Allows h allowed none = record {
    site_may = may;
    allowed = allowed;
    placed = subst (λ (ts : List Trampoline). ArePlaced v ts) (sym is) (are_placed t u h.first h.second h.away);
    least = λ some. none;
  }

  -- What two placed trampolines are.
  pub record AreTwo (t u : ℕ) : Type 0 where
    pub first : IsFree v.taken t (v.event_size + work)
    pub second : IsFree v.taken u other
    pub away : (u + other ≤ t) ⊎ (t + (v.event_size + work) ≤ u)

  -- Where both are placed their bytes are free and don't meet.
  pub placed_are : (t u : ℕ) → ArePlaced v (for_site site t ∷ for_victim e u ∷ []) → AreTwo t u
  placed_are t u h = record {
    first = placed_site t h.0;
    second = (let r = h.2.0 in subst (λ (k : ℕ). IsFree v.taken u k) (same_Some r.0 other (sym r.1 ∙ victim_size)) r.2);
    away = elim (h.1.0 (v.event_size + work) other site_size victim_size) [ inl l ↦ inr l | inr l ↦ inl l ];
  }

  -- Two places that the value allows are chosen where both are placed, and no lower one for the first that a value allows is.
  pub are_chosen : (Allows : ℕ → ℕ → ℕ → Type 0) (x t u : ℕ) → Allows x t u → ArePlaced v (for_site site t ∷ for_victim e u ∷ [])
      → ((r y : ℕ) → r < t → Allows x r y → IsPlaced v (for_site site r) → ⊥)
      → IsChosen v.taken Allows (v.event_size + work) other (record { x = x; first = t; second = u })
  are_chosen Allows x t u allowed placed none =
      let two = placed_are t u placed in
      record {
        allowed = allowed;
        first = two.first;
        second = two.second;
        away = two.away;
        least = λ r y k f. elim (cases_lt r t) [ inl l ↦ absurd (none r y l k (site_placed r f)) | inr l ↦ l ];
      }
