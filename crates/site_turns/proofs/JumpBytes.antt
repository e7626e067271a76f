-- The bytes of a plan's jumps, and where those lie that are punned.
use Rattle.std.proofs.Common.{◌≡◌, ◌⊎◌, inl, inr, ℕ, zero, suc, ◌+◌, ◌-◌, ◌^◌, ◌<◌, ◌≤◌, min, Bool, true, false, not, ◌&&◌, List, [], ◌∷◌, ◌++◌, length, replicate, slice_index, Some, refl, sym, ap, ◌∙◌, subst, arith}
use Rattle.std.specs.Option.{is_some}
use Rattle.std.specs.List.{AllByRecursion}
use Rattle.std.proofs.lemmas.Bool.{or_cases, or_left, or_right, cases_lt, false≢true}
use Rattle.hex.specs.Hex.{IsBytes}
use Rattle.pun_base.specs.Memory.{Bytes}
use Rattle.pun_base.specs.Ranges.{is_within}
use Rattle.cpu_state.specs.Bytes.{advanced, byte_of}
use Rattle.cpu_state.specs.Fixed.{IsFixed}
use Rattle.insn_form.specs.Moved.{rel_bytes}
use Rattle.relocate_insn.proofs.FixedCode.{next_address}
use Rattle.patch_report.proofs.ListPlaces.{In, some_is}
use Rattle.start_entries.specs.declared.entry.StartEntry.{StartEntry}
use Rattle.start_entries.specs.Finding.{entry_at}
use Rattle.start_entries.specs.Standing.{AreEntries}
use Rattle.start_list.specs.TurnViews.{TurnView}
use Rattle.start_list.specs.PlanJumps.{Jump, padded_jump, short_jump, written_by, written, is_written, is_spanned, is_punned}
use Rattle.start_list.specs.Forms.{Candidate, B1, B2, T1, T2, T3, jumps_of, HasForm}
use Rattle.scheme_search.proofs.OneJumpBytes.{jump_length, within_parts, within_true}
use Rattle.site_turns.proofs.PlanRuns.{any_one}
use Rattle.site_turns.proofs.LeadingPlans.{or_some, some_or, or_other, some_if}
use Rattle.site_turns.proofs.PlansWithOneJump.{entry_listed}

-- four displacement bytes are bytes
rel_small : (next t : ℕ) → IsBytes (rel_bytes next t)
rel_small next t zero = omega arith
rel_small next t (suc zero) = omega arith
rel_small next t (suc (suc zero)) = omega arith
rel_small next t (suc (suc (suc zero))) = omega arith
rel_small next t (suc (suc (suc (suc k)))) = omega arith

-- the bytes of a padded jump are bytes
padded_small : (p pad next t : ℕ) → pad < 256 → IsBytes (replicate p pad ++ 0xE9 ∷ rel_bytes next t)
padded_small zero pad next t l zero = omega arith
padded_small zero pad next t l (suc k) = rel_small next t k
padded_small (suc p) pad next t l zero = l
padded_small (suc p) pad next t l (suc k) = padded_small p pad next t l k

-- the bytes of a short jump are bytes
short_small : (at room target : ℕ) → target ≤ at + 2 + 127 → IsBytes (short_jump at room target).bytes
short_small at room target l zero = omega arith
short_small at room target l (suc zero) = omega arith
short_small at room target l (suc (suc k)) = omega arith

-- the bytes of a plan's jumps are bytes
pub jumps_small : (v : TurnView) (site : StartEntry) (c : Candidate) → HasForm v site c
    → AllByRecursion (λ (j : Jump). IsBytes j.bytes) (jumps_of site c)
jumps_small v site (B1 t) f = (padded_small 0 0x40 (site.addr + 0 + 5) t (omega arith), tt)
jumps_small v site (B2 t) f = (padded_small 0 0x40 (site.addr + 0 + 5) t (omega arith), tt)
jumps_small v site (T1 p t) f = (padded_small p 0x40 (site.addr + p + 5) t (omega arith), tt)
jumps_small v site (T2 e p q pad x t u) f =
    let r = f.rex in
    (padded_small p 0x40 (site.addr + p + 5) t (omega arith), (padded_small q pad (e.addr + q + 5) u (omega (arith, r.1)), tt))
jumps_small v site (T3 e i x t u) f = (
  short_small site.addr site.len (e.addr + i) f.near,
  (padded_small 0 0x40 (e.addr + i + 0 + 5) t (omega arith), (padded_small 0 0x40 (e.addr + 0 + 5) u (omega arith), tt)),
)

-- fixed code stands byte by byte
pub fixed_byte : (m : Bytes) (a : ℕ) (bs : List ℕ) (k : ℕ) → a + length bs < 2 ^ 64 → IsFixed m a bs → k < length bs
    → byte_of (m (a + k)) ≡ slice_index bs k
fixed_byte m a [] k l h i = absurd (omega (arith, i))
fixed_byte m a (b ∷ bs) zero l h i = let z : a + 0 ≡ a = omega arith in ap (λ x. byte_of (m x)) z ∙ h.2
fixed_byte m a (b ∷ bs) (suc k) l h i =
    let n : advanced a 1 ≡ a + 1 = next_address a 1 (omega arith) in
    let e : a + suc k ≡ a + 1 + k = omega arith in
    ap (λ x. byte_of (m x)) e ∙ fixed_byte m (a + 1) bs k (omega arith) (subst (λ (z : ℕ). IsFixed m z bs) n h.3) (omega arith)

-- what one of the jumps writes is written
pub writes_it : (js : List Jump) (j : Jump) (x : ℕ) → In js j → is_within j.at (min j.room (length j.bytes)) x ≡ true
    → is_written js x ≡ true
writes_it [] j x c w = let e = c.1 in absurd cc
writes_it (i ∷ js) j x (zero, e) w =
    let k : i ≡ j = some_is i j e in
    some_or (written_by i x) (written js x) (subst (λ (z : Jump). is_some (written_by z x) ≡ true) (sym k)
    (some_if (is_within j.at (min j.room (length j.bytes)) x) (slice_index j.bytes (x - j.at)) ∙ w))
writes_it (i ∷ js) j x (suc n, e) w = or_other (written_by i x) (written js x) (writes_it js j x (n, e) w)

-- a listed entry stands low
entry_low : (v : TurnView) (site : StartEntry) → AreEntries v.image v.entries → entry_at v.entries site.addr ≡ Some site
    → site.addr ≤ 0x7FFF0000
entry_low v site A E = let l = (A.each site (entry_listed v.entries site.addr site E)).low in omega (arith, l)

-- what is written is spanned
pub written_spanned : (js : List Jump) (x : ℕ) → is_written js x ≡ true → is_spanned js x ≡ true
written_spanned [] x w = absurd (false≢true w)
written_spanned (j ∷ js) x w = elim (or_some (written_by j x) (written js x) w) [
  | inl i ↦ (let k = within_parts j.at (min j.room (length j.bytes)) x
      (sym (some_if (is_within j.at (min j.room (length j.bytes)) x) (slice_index j.bytes (x - j.at))) ∙ i) in
      or_left (is_within j.at (length j.bytes) x) (is_spanned js x) (within_true j.at (length j.bytes) x k.0 (omega (arith, k.1))))
  | inr i ↦ or_right (is_within j.at (length j.bytes) x) (is_spanned js x) (written_spanned js x i)
]

-- what is punned is spanned, and not written
both_parts : (s w : Bool) → (s && not w) ≡ true → (s ≡ true) × (w ≡ true → ⊥)
both_parts true true h = absurd (false≢true h)
both_parts true false h = (refl, λ e. false≢true e)
both_parts false w h = absurd (false≢true h)

-- what jumps pun they span, and don't write
pub punned_parts : (js : List Jump) (x : ℕ) → is_punned js x ≡ true → (is_spanned js x ≡ true) × (is_written js x ≡ true → ⊥)
punned_parts js x h = both_parts (is_spanned js x) (is_written js x) h

-- punned bytes lie among sixteen from an address on
pub record Window (js : List Jump) : Type 0 where
  pub lo : ℕ
  pub low : lo ≤ 0x7FFF0000
  pub within : (x : ℕ) → is_punned js x ≡ true → (lo ≤ x) × (x < lo + 16)

-- the punned bytes of one jump lie among sixteen from an address on
one_window : (site : StartEntry) (p t : ℕ) → site.addr ≤ 0x7FFF0000 → p ≤ 3 → Window (padded_jump site.addr site.len p 0x40 t ∷ [])
one_window site p t l few =
    let j = padded_jump site.addr site.len p 0x40 t in
    let long = jump_length p 0x40 (site.addr + p + 5) t in
    record {
      lo = site.addr;
      low = l;
      within = λ x h.
          let k = within_parts site.addr (length j.bytes) x (any_one (is_within j.at (length j.bytes) x) (punned_parts (j ∷ []) x h).0) in
          (k.0, omega (arith, long, k.1));
    }

-- the punned bytes of two jumps that begin close to one another lie among sixteen from an address on
two_window : (site e : StartEntry) (p q pad t u : ℕ) → site.addr ≤ 0x7FFF0000 → p ≤ 3 → q ≤ 4 → site.addr ≤ e.addr → e.addr ≤ site.addr + 4
    → Window (padded_jump site.addr site.len p 0x40 t ∷ padded_jump e.addr e.len q pad u ∷ [])
two_window site e p q pad t u l few less a b =
    let i = padded_jump site.addr site.len p 0x40 t in
    let j = padded_jump e.addr e.len q pad u in
    let long = jump_length p 0x40 (site.addr + p + 5) t in
    let other = jump_length q pad (e.addr + q + 5) u in
    record {
      lo = site.addr;
      low = l;
      within = λ x h. elim (or_cases (is_within i.at (length i.bytes) x) (is_spanned (j ∷ []) x) (punned_parts (i ∷ j ∷ []) x h).0) [
        | inl w ↦ (let k = within_parts site.addr (length i.bytes) x w in (k.0, omega (arith, long, k.1)))
        | inr w ↦ (let k = within_parts e.addr (length j.bytes) x (any_one (is_within j.at (length j.bytes) x) w) in
            (omega (arith, k.0, a), omega (arith, other, k.1, b, less)))
      ];
    }

-- a short jump over bytes of its own, and two jumps on a victim
abbrev near_jumps : StartEntry → StartEntry → ℕ → ℕ → ℕ → List Jump
near_jumps site e i t u =
    short_jump site.addr site.len (e.addr + i) ∷ padded_jump (e.addr + i) (e.len - i) 0 0x40 t ∷ padded_jump e.addr e.len 0 0x40 u ∷ []

-- the punned bytes of a short jump and two jumps on a victim lie among sixteen from an address on
near_window : (site e : StartEntry) (i t u : ℕ) → 2 ≤ site.len → e.addr + e.len ≤ 0x7FFF0000 → i < e.len → Window (near_jumps site e i t u)
near_window site e i t u room low less = elim (cases_lt e.len 5) [
  | inl s ↦ record {
    lo = e.addr;
    low = omega (arith, low);
    within = λ x h. elim (parts x h) [
      | inl k ↦ (omega (arith, k.0), omega (arith, k.1, s, less))
      | inr k ↦ (k.0, omega (arith, k.1))
    ];
  }
  | inr s ↦ record {
    lo = e.addr + i;
    low = omega (arith, low, less);
    within = λ x h. elim (parts x h) [
      | inl k ↦ (k.0, omega (arith, k.1))
      | inr k ↦ absurd (omega (arith, k.1, k.2, s))
    ];
  }
]
  where
    -- a punned byte is of the jump inside the victim, or of the one at its start and after it
    parts : (x : ℕ) → is_punned (near_jumps site e i t u) x ≡ true
        → ((e.addr + i ≤ x) × (x < e.addr + i + 5)) ⊎ ((e.addr ≤ x) × (x < e.addr + 5) × (e.addr + e.len ≤ x))
    parts x h =
        let a = short_jump site.addr site.len (e.addr + i) in
        let b = padded_jump (e.addr + i) (e.len - i) 0 0x40 t in
        let c = padded_jump e.addr e.len 0 0x40 u in
        let js = near_jumps site e i t u in
        let p = punned_parts js x h in
        elim (or_cases (is_within a.at (length a.bytes) x) (is_spanned (b ∷ c ∷ []) x) p.0) [
          | inl w ↦ (let k = within_parts site.addr 2 x w in
              absurd (p.1 (writes_it js a x (0, refl) (within_true site.addr (min site.len 2) x k.0 (omega (arith, k.1, room))))))
          | inr w ↦ elim (or_cases (is_within b.at (length b.bytes) x) (is_spanned (c ∷ []) x) w) [
            | inl v ↦ inl (within_parts (e.addr + i) 5 x v)
            | inr v ↦ (let k = within_parts e.addr 5 x (any_one (is_within c.at (length c.bytes) x) v) in
                elim (cases_lt x (e.addr + e.len)) [
                  | inl y ↦ absurd (p.1 (writes_it js c x (2, refl) (within_true e.addr (min e.len 5) x k.0 (omega (arith, k.1, y)))))
                  | inr y ↦ inr (k.0, k.1, y)
                ])
          ]
        ]

-- the punned bytes of any plan lie among sixteen from an address on
pub window : (v : TurnView) (site : StartEntry) (c : Candidate) → AreEntries v.image v.entries → entry_at v.entries site.addr ≡ Some site
    → HasForm v site c → Window (jumps_of site c)
window v site (B1 t) A E f = one_window site 0 t (entry_low v site A E) (omega arith)
window v site (B2 t) A E f = one_window site 0 t (entry_low v site A E) (omega arith)
window v site (T1 p t) A E f = one_window site p t (entry_low v site A E) (omega (arith, f.0, f.2))
window v site (T2 e p q pad x t u) A E f =
    let short = f.short in
    let pads = f.pads in
    let behind = f.behind in
    two_window site e p q pad t u (entry_low v site A E) (omega (arith, short, pads)) f.victim_pads.0 (omega (arith, behind))
    (omega (arith, behind, short))
window v site (T3 e i x t u) A E f = near_window site e i t u f.room (A.each e f.victim.listed).low f.inside.1
