-- From single steps to runs: what a relation between the two states has to keep so that the headline holds.
use Rattle.std.proofs.Common.{◌≡◌, inl, inr, ℕ, ◌≤◌, Bool, true, false, ◌&&◌, eqb, List, [], ◌∷◌, ◌++◌, length, map, Some, refl, sym, ap, ap₂, ◌∙◌}
use Rattle.std.specs.Prelude.{Contains}
use Rattle.std.specs.Option.{is_some}
use Rattle.std.proofs.lemmas.Bool.{and_parts, or_cases, or_left, or_right}
use Rattle.std.proofs.lemmas.List.{append-nil, map-append}
use Rattle.std.proofs.lemmas.List.Concat.{flat_map-append}
use Rattle.start_entries.specs.declared.entry.StartEntry.{StartEntry}
use Rattle.insn_form.specs.Machine.{Machine}
use Rattle.insn_form.specs.Runs.{IsRun, last_of}
use Rattle.image_runs.specs.Listed.{is_start, is_known_start, is_listed_byte}
use Rattle.sound_images.specs.Rewriting.{Site, Rewriting, shown}
use Rattle.trampoline.specs.Events.{Seen}
use Rattle.sound_images.specs.Events.{sites_at, events_at, events_of, due_events, log, passes, record_for, data_of}
use Rattle.sound_images.specs.Headline.{Reaches}

-- none of these states stands at a listed start
abbrev pub Hidden : Rewriting → List Machine → Type 0
Hidden r [] = Unit {0}
Hidden r (x ∷ xs) = (is_start r.listed x.rip ≡ false) × Hidden r xs

-- the patched steps that match one step of the original from s to t, where these events came before
pub record Block (Step : (ℕ → Bool) → Machine → Machine → Type 0) (r : Rewriting) (I : List Seen → Machine → Machine → Type 0)
    (events : List Seen) (s t u : Machine) : Type 0 where
  pub inner : List Machine
  pub end : Machine
  pub run : IsRun Step u (inner ++ end ∷ [])
  pub few : length inner ≤ 23
  pub hidden : Hidden r inner
  pub passed : passes r inner ≡ log r (s ∷ [])
  pub kept : I (events ++ due_events r (s ∷ [])) t end

-- what I has to be: it tells that two outside states look alike and that the record is right, and it is kept
pub record Keeps (Step : (ℕ → Bool) → Machine → Machine → Type 0) (r : Rewriting)
    (I : List Seen → Machine → Machine → Type 0) : Type 0 where
  pub seen : (events : List Seen) (s u : Machine) → I events s u → shown r u ≡ shown r s
  pub part : (events : List Seen) (s u : Machine) → I events s u → data_of r u ≡ map Some (record_for r events)
  pub block : (events : List Seen) (s t u : Machine) → I events s u → is_known_start r.listed s.rip ≡ true
      → Step (is_listed_byte r.listed) s t → Block Step r I events s t u
  pub before : (events : List Seen) (s u : Machine) → I events s u → (site : Site) → Contains r.sites site → site.addr ≡ s.rip
      → (vs : List Machine) × Reaches Step r site s events u vs
  pub unpassed : (u : Machine) → is_start r.listed u.rip ≡ true → passes r (u ∷ []) ≡ []

-- a known start is a start
pub known_start : (ls : List StartEntry) (a : ℕ) → is_known_start ls a ≡ true → is_start ls a ≡ true
known_start [] a h = h
known_start (l ∷ ls) a h = elim (or_cases ((eqb l.addr a) && is_some l.form) (is_known_start ls a) h) [
  | inl k ↦ or_left (eqb l.addr a) (is_start ls a) (and_parts (eqb l.addr a) (is_some l.form) k).0
  | inr k ↦ or_right (eqb l.addr a) (is_start ls a) (known_start ls a k)
]

-- the events of two runs, one after the other, are those of each
pub due_append : (r : Rewriting) (xs ys : List Machine) → due_events r (xs ++ ys) ≡ due_events r xs ++ due_events r ys
due_append r xs ys = flat_map-append (λ (s : Machine). events_of s.core.regs (sites_at r s.rip)) xs ys

-- the log of two runs, one after the other, is that of each
pub log_append : (r : Rewriting) (xs ys : List Machine) → log r (xs ++ ys) ≡ log r xs ++ log r ys
log_append r xs ys = ap (map (λ (e : Seen). e.number)) (due_append r xs ys)
    ∙ map-append (λ (e : Seen). e.number) (due_events r xs) (due_events r ys)

-- the passes of two runs, one after the other, are those of each
pub passes_append : (r : Rewriting) (xs ys : List Machine) → passes r (xs ++ ys) ≡ passes r xs ++ passes r ys
passes_append r xs ys = flat_map-append (λ (s : Machine). events_at r s.rip) xs ys

-- two runs, one after the other, are one
pub joined_run : (Step : (ℕ → Bool) → Machine → Machine → Type 0) (u v : Machine) (xs ys : List Machine) → IsRun Step u (xs ++ v ∷ [])
    → IsRun Step v ys → IsRun Step u (xs ++ v ∷ ys)
joined_run Step u v [] ys p q = (p.0, q)
joined_run Step u v (x ∷ xs) ys p q = (p.0, joined_run Step x v xs ys p.1 q)

-- which ends in the second one's last state
pub last_joined : (u v : Machine) (xs ys : List Machine) → last_of u (xs ++ v ∷ ys) ≡ last_of v ys
last_joined u v [] ys = refl
last_joined u v (x ∷ xs) ys = last_joined x v xs ys

-- no event is passed at a start
pub no_pass : (r : Rewriting) (before before' : List Machine) (u : Machine) → passes r before' ≡ log r before → passes r (u ∷ []) ≡ []
    → passes r (before' ++ u ∷ []) ≡ log r before
no_pass r before before' u e p = passes_append r before' (u ∷ []) ∙ ap₂ (λ (x y : List ℕ). x ++ y) e p ∙ append-nil (log r before)

-- the passes with those of one step
pub passes_more : (r : Rewriting) (before before' inner : List Machine) (s u : Machine) → passes r (before' ++ u ∷ []) ≡ log r before
    → passes r inner ≡ log r (s ∷ []) → passes r ((before' ++ u ∷ []) ++ inner) ≡ log r (before ++ s ∷ [])
passes_more r before before' inner s u e p = passes_append r (before' ++ u ∷ []) inner ∙ ap₂ (λ (x y : List ℕ). x ++ y) e p
    ∙ sym (log_append r before (s ∷ []))
