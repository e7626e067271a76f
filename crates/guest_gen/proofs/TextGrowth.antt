-- Texts that grow by instructions and by blocks.
use Rattle.std.proofs.Common.{◌≡◌, ℕ, suc, ◌+◌, ◌-◌, ◌*◌, ◌<◌, ◌≤◌, List, [], ◌∷◌, ◌++◌, length, ap, sym, subst, ◌∙◌, arith, append_assoc, append-nil, length-append}
use Rattle.guest_gen.specs.declared.instruction.GuestInsn.{GuestInsn}
use Rattle.guest_gen.specs.declared.draft.Text.{Text}
use Rattle.guest_gen.specs.Instructions.{text_start, spelled}
use Rattle.guest_gen.specs.Blocks.{block_at, after_block, blocks_from}
use Rattle.guest_gen.specs.Texts.{text_from, starts_from, all_of, site_at, sites_from}
use Rattle.guest_gen.specs.Growing.{Grown, behind}

-- a sum of three
behind_two : (at : ℕ) (a t : List ℕ) → at + length a + length t ≡ at + length (a ++ t)
behind_two at a t = let e = length-append a t in omega arith

-- instructions behind instructions
pub text_append : (at : ℕ) (xs ys : List GuestInsn) → text_from at (xs ++ ys) ≡ text_from at xs ++ text_from
    (at + length (text_from at xs)) ys
text_append at [] ys = let e : at ≡ at + 0 = omega arith in ap (λ (z : ℕ). text_from z ys) e
text_append at (x ∷ xs) ys =
    let a = spelled x at in
    let t = text_from (at + length a) xs in
    ap (λ (z : List ℕ). a ++ z) (text_append (at + length a) xs ys)
    ∙ sym (append_assoc a t (text_from (at + length a + length t) ys))
    ∙ ap (λ (z : ℕ). (a ++ t) ++ text_from z ys) (behind_two at a t)

-- and their starts
pub starts_append : (at : ℕ) (xs ys : List GuestInsn) → starts_from at (xs ++ ys) ≡ starts_from at xs ++ starts_from
    (at + length (text_from at xs)) ys
starts_append at [] ys = let e : at ≡ at + 0 = omega arith in ap (λ (z : ℕ). starts_from z ys) e
starts_append at (x ∷ xs) ys =
    let a = spelled x at in
    let t = text_from (at + length a) xs in
    ap (λ (z : List ℕ). at ∷ z) (starts_append (at + length a) xs ys
    ∙ ap (λ (z : ℕ). starts_from (at + length a) xs ++ starts_from z ys) (behind_two at a t))

-- no instruction changes nothing
pub grown_nil : (t : Text) → Grown [] t t
grown_nil t = record { bytes = sym (append-nil t.bytes.items); starts = sym (append-nil t.starts.items) }

-- where a text ends that has grown
pub behind_grown : (xs : List GuestInsn) (t u : Text) → Grown xs t u → behind u ≡ behind t + length (text_from (behind t) xs)
behind_grown xs t u g =
    let e = ap (λ (z : List ℕ). text_start + length z) g.bytes in
    e ∙ sym (behind_two text_start t.bytes.items (text_from (behind t) xs))

-- what grew twice
pub grown_twice : (xs ys : List GuestInsn) (t u v : Text) → Grown xs t u → Grown ys u v → Grown (xs ++ ys) t v
grown_twice xs ys t u v g h =
    let b = behind_grown xs t u g in
    record {
      bytes = h.bytes ∙ (λ i. g.bytes i ++ text_from (b i) ys)
          ∙ append_assoc t.bytes.items (text_from (behind t) xs) (text_from (behind t + length (text_from (behind t) xs)) ys)
          ∙ ap (λ (z : List ℕ). t.bytes.items ++ z) (sym (text_append (behind t) xs ys));
      starts = h.starts ∙ (λ i. g.starts i ++ starts_from (b i) ys)
          ∙ append_assoc t.starts.items (starts_from (behind t) xs) (starts_from (behind t + length (text_from (behind t) xs)) ys)
          ∙ ap (λ (z : List ℕ). t.starts.items ++ z) (sym (starts_append (behind t) xs ys));
    }

-- a text that grew from nothing
pub whole_text : (is : List GuestInsn) (t v : Text) → t.bytes.items ≡ [] → t.starts.items ≡ [] → Grown is t v
    → (v.bytes.items ≡ text_from text_start is) × (v.starts.items ≡ starts_from text_start is)
whole_text is t v e f g = (
  g.bytes ∙ ap (λ (z : List ℕ). z ++ text_from (text_start + length z) is) e,
  g.starts ∙ (λ i. f i ++ starts_from (text_start + length (e i)) is),
)

-- the first instructions of a list were appended, and these are left
pub record Appended (all left : List GuestInsn) (first now : Text) : Type 0 where
  pub few : length now.bytes.items + 8 * length left ≤ length first.bytes.items + 8 * length all
  pub grown : (v : Text) → Grown left now v → Grown all first v

-- one more
pub appended_one : (all left : List GuestInsn) (x : GuestInsn) (first now next : Text) → Appended all (x ∷ left) first now
    → Grown (x ∷ []) now next
    → length next.bytes.items ≤ length now.bytes.items + 8 → Appended all left first next
appended_one all left x first now next a g l = record {
  few = let f = a.few in omega arith;
  grown = λ v h. a.grown v (grown_twice (x ∷ []) left now next v g h);
}

-- all in the end
pub appended_all : (all left : List GuestInsn) (first now : Text) → length left ≡ 0 → Appended all left first now → Grown all first now
appended_all all [] first now e a = a.grown now (grown_nil now)
appended_all all (x ∷ left) first now e a = absurd (omega arith)

-- blocks up to an index were drawn and appended, and the others are left
pub record Drafted (seed n every : ℕ) (first now : Text) (x index : ℕ) (found : List ℕ) : Type 0 where
  pub few : length now.bytes.items ≤ 8 + 24 * index
  pub grown : (v : Text) → Grown (all_of (blocks_from x (n - index))) now v → Grown (all_of (blocks_from seed n)) first v
  pub sites : found ++ sites_from every index (behind now) (blocks_from x (n - index)) ≡ sites_from every 0 (behind first)
      (blocks_from seed n)

-- one more
pub drafted_more : (seed n every : ℕ) (first now next : Text) (x index : ℕ) (sites later : List ℕ)
    → Drafted seed n every first now x index sites → index < n
    → Grown (block_at x) now next → length next.bytes.items ≤ length now.bytes.items + 24
    → later ≡ sites ++ site_at every index (behind now)
    → Drafted seed n every first next (after_block x) (index + 1) later
drafted_more seed n every first now next x index sites later d l g k s =
    let m = n - (index + 1) in
    let e : n - index ≡ suc m = omega arith in
    let b = block_at x in
    let bs = blocks_from (after_block x) m in
    record {
      few = let f = d.few in omega arith;
      grown = λ v h. d.grown v (subst (λ (z : ℕ). Grown (all_of (blocks_from x z)) now v) (sym e)
          (grown_twice b (all_of bs) now next v g h));
      sites =
          (λ i. s i ++ sites_from every (index + 1) (behind_grown b now next g i) bs)
          ∙ append_assoc sites (site_at every index (behind now)) (sites_from every (index + 1)
          (behind now + length (text_from (behind now) b)) bs)
          ∙ (let w : sites ++ sites_from every index (behind now) (blocks_from x (n - index)) ≡ sites ++ sites_from every index
          (behind now) (b ∷ bs) =
          ap (λ (z : ℕ). sites ++ sites_from every index (behind now) (blocks_from x z)) e in
          sym w ∙ d.sites);
    }

-- all in the end
pub drafted_all : (seed n every : ℕ) (first now : Text) (x index : ℕ) (sites : List ℕ) → Drafted seed n every first now x index sites
    → n ≤ index
    → Grown (all_of (blocks_from seed n)) first now × (sites ≡ sites_from every 0 (behind first) (blocks_from seed n))
drafted_all seed n every first now x index sites d l =
    let e : n - index ≡ 0 = omega arith in (
      d.grown now (subst (λ (z : ℕ). Grown (all_of (blocks_from x z)) now now) (sym e) (grown_nil now)),
      sym (append-nil sites) ∙ (let w : sites ++ sites_from every index (behind now) (blocks_from x (n - index)) ≡ sites ++ [] =
          ap (λ (z : ℕ). sites ++ sites_from every index (behind now) (blocks_from x z)) e in sym w ∙ d.sites),
    )
