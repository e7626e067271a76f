-- A start pair of a sound image, and the headline.
use Rattle.std.proofs.Common.{◌≡◌, inl, inr, ℕ, ◌+◌, ◌-◌, ◌<◌, ◌≤◌, Bool, true, false, not, ◌&&◌, cond, [], Option, Some, None, refl, sym, ap, ap₂, ◌∙◌, arith}
use Rattle.std.specs.Option.{is_some}
use Rattle.std.proofs.lemmas.Bool.{or_parts, or_right, false_from_ne_true, true≢false, false≢true}
use Rattle.pun_base.specs.Memory.{Cell, Bytes, without, or_else, joined}
use Rattle.cpu_state.specs.Bytes.{allows}
use Rattle.insn_form.specs.Machine.{Machine}
use Rattle.insn_form.specs.Step.{Step}
use Rattle.trampoline.proofs.EventData.{zeros_data}
use Rattle.trampoline.proofs.EventPieces.{no_jump}
use Rattle.trampoline.proofs.TrampolineRuns.{trampolines}
use Rattle.patch_report.specs.Bounds.{IsBounded}
use Rattle.patch_report.proofs.ReportBounds.{bounded}
use Rattle.sound_images.specs.Reports.{is_written}
use Rattle.sound_images.specs.Rules.{Case}
use Rattle.image_runs.specs.Listed.{is_listed_byte}
use Rattle.sound_images.specs.Rewriting.{Rewriting, is_new}
use Rattle.image_runs.specs.Quiet.{IsStartPair}
use Rattle.sound_images.specs.Soundness.{rewriting_of, SoundIsFollowed}
use Rattle.sound_images.proofs.DeliveredRuns.{headline_with}
use Rattle.sound_images.proofs.DeliveredStates.{fits_too, related_delivered}
use Rattle.sound_images.proofs.LoadedCode.{zero_part}
use Rattle.sound_images.proofs.SoundFacts.{Holds, holds}
use Rattle.sound_images.proofs.RelatedStates.{hidden_at, Related, some_parts, new_if, allowed_some, listed_byte}
use Rattle.sound_images.proofs.FollowedSteps.{keeps}

-- the first of two maps, where it holds an address, is what both hold there
pub held_first : (o q : Option Cell) → is_some o ≡ true → or_else o q ≡ o
held_first None q e = absurd (false≢true e)
held_first (Some c) q e = refl

module _ (c : Case) (B : IsBounded c.report) (S : Holds c) where
  abbrev R : Rewriting
  R = rewriting_of c

  -- the length of the private range
  abbrev size : ℕ
  size = c.report.private.1 - c.report.private.0

  -- what a view doesn't leave out is the same in both images
  kept_or_gone : (x : ℕ) → hidden_at R x ≡ false → c.patched x ≡ c.original x
  kept_or_gone x h =
      let q = or_parts (is_listed_byte c.listed x) (is_new R x) h in
      by_held (c.original x) refl q.0 q.1
    where
      not_new : (o : Option Cell) → (is_some o && not (is_some (c.original x))) ≡ false → c.original x ≡ None → o ≡ c.original x
      not_new None e f = sym f
      not_new (Some d) e f = absurd (true≢false (sym (ap (λ (z : Option Cell). not (is_some z)) f) ∙ e))

      by_held : (o : Option Cell) → c.original x ≡ o → is_listed_byte c.listed x ≡ false → is_new R x ≡ false → c.patched x ≡ c.original x
      by_held None e f g = not_new (c.patched x) g e
      by_held (Some d) e f g =
          S.kept x (ap is_some e) (false_from_ne_true (is_written c.report x)
          (λ w. let o = S.owned x w in true≢false (sym (listed_byte c.listed o.entry x o.in_list o.above o.below) ∙ f)))

  -- a start pair is related
  pub started : (a b : Machine) → IsStartPair R.original R.patched R.entry a b → Related R c.report.private.0 size [] a b
  started a b p = record {
    seen = λ i. record { core = p.core i; rip = (p.patched_at ∙ sym p.original_at) i; mem = mem i; world = p.world i };
    own = λ x e w. at_a x ∙ held_first (c.original x) (p.further x) (allowed_some 1 (c.original x) e);
    other = λ x e w. at_b x ∙ held_first (c.patched x) (p.further x) (allowed_some 1 (c.patched x) e);
    bare = λ x e. let q = some_parts (c.patched x) (c.original x) e in at_a x ∙ ap₂ or_else q.1 (apart x q.0);
    range = record {
      inside = λ x a b. let z = S.zeros x a (omega (arith, b)) in or_right (is_listed_byte c.listed x) (is_new R x)
          (new_if (c.patched x) (c.original x) (ap is_some z.0) z.1);
      read = λ x a b. ap (allows 4) (zero_at x a (omega (arith, b)));
      written = λ x a b. ap (allows 2) (zero_at x a (omega (arith, b)));
      low = omega (arith, B.end, B.range);
    };
    part = zero_part b.mem (c.report.private.0 + 64) (size - 64) (λ x a b. zero_at x (omega arith) (omega (arith, b, B.range)));
    is_data = zeros_data c.report.action (size - 64) B.action;
    processor = p.sized;
  }
    where
      at_a : (x : ℕ) → a.mem x ≡ joined c.original p.further x
      at_a x = ap (λ (m : Bytes). m x) p.original

      at_b : (x : ℕ) → b.mem x ≡ joined c.patched p.further x
      at_b x = ap (λ (m : Bytes). m x) p.patched

      some_joined : (o q : Option Cell) → or_else o q ≡ None → is_some q ≡ true → ⊥
      some_joined None None f e = false≢true e
      some_joined None (Some d) f e = cc
      some_joined (Some d) q f e = cc

      apart : (x : ℕ) → is_some (c.patched x) ≡ true → p.further x ≡ None
      apart x e = elim (p.apart x) [ inl f ↦ absurd (some_joined (c.original x) (c.patched x) f e) | inr f ↦ f ]

      zero_at : (x : ℕ) → c.report.private.0 ≤ x → x < c.report.private.1 → b.mem x ≡ Some (record { byte = 0; perms = 6 })
      zero_at x lo hi = let z = (S.zeros x lo hi).0 in at_b x ∙ held_first (c.patched x) (p.further x) (ap is_some z) ∙ z

      either : (t : Bool) (o q : Option Cell) → (t ≡ false → o ≡ q) → cond t None o ≡ cond t None q
      either true o q h = refl
      either false o q h = h refl

      mem : without (hidden_at R) b.mem ≡ without (hidden_at R) a.mem
      mem = λ i x. either (hidden_at R x) (b.mem x) (a.mem x) (λ e. at_b x ∙ ap (λ z. or_else z (p.further x)) (kept_or_gone x e)
          ∙ sym (at_a x)) i

-- the data part lies in the private range
within : (lo n x : ℕ) → lo + 64 ≤ x → x < lo + 64 + (n - 64) → (lo ≤ x) × (x < lo + n)
within lo n x a b = (omega arith, omega (arith, a, b))

-- a sound image runs as the original does, from the original's entry point, whatever is delivered
pub sound_followed : SoundIsFollowed
sound_followed c A g s =
    let B = bounded c.report g in
    let S = holds c A B s in
    let r = rewriting_of c in
    let lo = c.report.private.0 in
    let n = c.report.private.1 - c.report.private.0 in (
      S.entry,
      λ a b p is q. headline_with Step r (Related r lo n) (record {
        steps = keeps c A B S trampolines no_jump;
        takes = λ events s u d h f. (
          fits_too r lo n (within lo n) events s u d h f,
          related_delivered r lo n (within lo n) events s u d h f,
        );
      }) a b is (started c B S a b p) q,
    )
