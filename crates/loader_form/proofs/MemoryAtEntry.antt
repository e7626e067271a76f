-- Memory at the entry, in parts, and the headline from there on.
use Rattle.std.proofs.Common.{◌≡◌, ◌⊎◌, inl, inr, ℕ, ◌+◌, ◌-◌, ◌<◌, ◌≤◌, Bool, true, false, ◌&&◌, cond, List, [], ◌∷◌, length, Option, Some, None, refl, sym, ap, ◌∙◌, subst, true≢false}
use Rattle.std.proofs.Math.Path.{fun_ext}
use Rattle.std.specs.Prelude.{nat_le, nat_lt, slice_index}
use Rattle.pun_base.specs.Memory.{Cell, Bytes, or_else, joined}
use Rattle.cpu_state.specs.Bytes.{allows}
use Rattle.cpu_state.specs.Processor.{IsProcessorCore, GiveWords}
use Rattle.insn_form.specs.Machine.{Machine}
use Rattle.insn_form.specs.Processor.{IsProcessorState}
use Rattle.insn_form.specs.Step.{Step}
use Rattle.image_runs.specs.Quiet.{IsStartPair}
use Rattle.sound_images.specs.Rewriting.{Rewriting}
use Rattle.sound_images.specs.Headline.{Headline}
use Rattle.loader_form.specs.Stub.{Run, Stub}
use Rattle.loader_form.specs.Kernel.{mapped, last_state, last_number}
use Rattle.loader_form.specs.Starting.{IsStart}
use Rattle.loader_form.specs.Running.{all_mapped, End, IsAtEntry, EndsSo}
use Rattle.loader_form.specs.Continuing.{nothing, pages_of, whole_image, HasParts, or_not, beside, original_start, IsLedOn, GoesOn, PairsAtEntry, KeepsFurther, LoaderLeadsOn, LoaderIsFollowed}
use Rattle.loader_form.proofs.StubLengths.{side}
use Rattle.loader_form.proofs.EndsByReplies.{ends_at_entry}
use Rattle.loader_form.proofs.WholeStubRuns.{stub_runs}

-- which of three cells is taken first doesn't depend on how they are joined
or_assoc : (a b c : Option Cell) → or_else a (or_else b c) ≡ or_else (or_else a b) c
or_assoc None b c = refl
or_assoc (Some x) b c = refl

-- runs over a map are what they show, and else the map
mapped_parts : (file : List ℕ) (place size offset : ℕ) (m : Bytes) (x : ℕ) → mapped file place size offset m x ≡ or_else (mapped file place size offset nothing x) (m x)
mapped_parts file place size offset m x = by_test (nat_le place x && nat_lt x (place + size))
  where
    by_test : (t : Bool) → cond t (Some (record { byte = slice_index file (offset + (x - place)); perms = 5 })) (m x)
        ≡ or_else (cond t (Some (record { byte = slice_index file (offset + (x - place)); perms = 5 })) None) (m x)
    by_test true = refl
    by_test false = refl

-- memory with all runs mapped shows their bytes, and elsewhere what it was
pub all_parts : (file : List ℕ) (rs : List Run) (m : Bytes) (x : ℕ) → all_mapped file rs m x ≡ or_else (all_mapped file rs nothing x) (m x)
all_parts file [] m x = refl
all_parts file (r ∷ rs) m x =
    let p = all_mapped file rs nothing x in
    let w = mapped file r.place r.size r.offset nothing in
    all_parts file rs (mapped file r.place r.size r.offset m) x ∙ ap (or_else p) (mapped_parts file r.place r.size r.offset m x)
    ∙ or_assoc p (w x) (m x) ∙ ap (λ z. or_else z (m x)) (sym (all_parts file rs w x))

-- where two cells joined are none, each of them is
none_left : (a b : Option Cell) → or_else a b ≡ None → (a ≡ None) × (b ≡ None)
none_left None b e = (refl, e)
none_left (Some c) b e = absurd cc

module _ (file : List ℕ) (b : Stub) (original base rest further : Bytes) (s t : Machine) (h : HasParts file b original base rest further s)
    (e : IsAtEntry file b s t) where
  abbrev pages : Bytes
  pages = pages_of file b

  abbrev image : Bytes
  image = whole_image file b base

  -- outside the save page memory at the entry is what the runs show, over what was there at the start
  outer : (x : ℕ) → (x < b.save) ⊎ (b.save + 4096 ≤ x) → t.mem x ≡ or_else (pages x) (s.mem x)
  outer x o = e.memory x o ∙ all_parts file b.runs s.mem x

  -- outside the save page and the image further memory is at the entry as it was at the start
  further_same : (x : ℕ) → (x < b.save) ⊎ (b.save + 4096 ≤ x) → base x ≡ None → rest x ≡ None → pages x ≡ None → t.mem x ≡ further x
  further_same x o p q r =
      outer x o ∙ ap (λ z. or_else z (s.mem x)) r ∙ h.parts x ∙ ap (λ z. or_else z (or_else (rest x) (further x))) p ∙ ap (λ z. or_else z (further x)) q

  module _ (st : IsStart file b s) where
    -- the image stands there
    shown : (x : ℕ) (c : Cell) → image x ≡ Some c → t.mem x ≡ Some c
    shown x c i = by_base (base x) refl
      where
        by_side : (o : Option Cell) → base x ≡ o → ((b.save ≤ x) × (x < b.save + 4096)) ⊎ ((x < b.save) ⊎ (b.save + 4096 ≤ x)) → (y : (s.mem x ≡ None) → ⊥)
            → (pages x ≡ None) → s.mem x ≡ Some c → t.mem x ≡ Some c
        by_side o q (inl k) y p z = absurd (some_none (sym i ∙ ap (λ v. or_else v (pages x)) (h.save x k.0 k.1) ∙ p))
          where
            some_none : ◌≡◌ {A = Option Cell} (Some c) None → ⊥
            some_none v = absurd cc
        by_side o q (inr k) y p z = outer x k ∙ ap (λ v. or_else v (s.mem x)) p ∙ z

        by_bare : (d : Cell) → base x ≡ Some d → (pages x ≡ None) ⊎ (s.mem x ≡ None) → t.mem x ≡ Some c
        by_bare d q (inl p) =
            let same : Some d ≡ Some c = sym (ap (λ v. or_else v (pages x)) q) ∙ i in
            let held : s.mem x ≡ Some c = h.parts x ∙ ap (λ v. or_else v (or_else (rest x) (further x))) q ∙ same in
            by_side (Some d) q (side b.save (b.save + 4096) x) (λ v. absurd (let w = sym v ∙ held in cc)) p held
        by_bare d q (inr p) = absurd (let w = sym p ∙ h.parts x ∙ ap (λ v. or_else v (or_else (rest x) (further x))) q in cc)

        by_empty : (pages x ≡ None) ⊎ (s.mem x ≡ None) → pages x ≡ Some c → ((b.save ≤ x) × (x < b.save + 4096)) ⊎ ((x < b.save) ⊎ (b.save + 4096 ≤ x))
            → t.mem x ≡ Some c
        by_empty (inl p) q k = absurd (let w = sym p ∙ q in cc)
        by_empty (inr p) q (inl k) = absurd (true≢false (sym (st.read x k.0 k.1) ∙ ap (allows 4) p))
        by_empty (inr p) q (inr k) = outer x k ∙ ap (λ v. or_else v (s.mem x)) q

        by_base : (o : Option Cell) → base x ≡ o → t.mem x ≡ Some c
        by_base None q = by_empty (h.bare x) (sym (ap (λ v. or_else v (pages x)) q) ∙ i) (side b.save (b.save + 4096) x)
        by_base (Some d) q = by_bare d q (h.bare x)

    -- memory at the entry is the image and what stands beside it
    split_at : (o : Option Cell) (x : ℕ) → image x ≡ o → t.mem x ≡ or_else (image x) (or_not (image x) (t.mem x))
    split_at None x q = sym (ap (λ v. or_else v (or_not v (t.mem x))) q)
    split_at (Some c) x q = shown x c q ∙ sym (ap (λ v. or_else v (or_not v (t.mem x))) q)

    -- the original and the image don't meet what stands beside the image
    apart_at : (o : Option Cell) (x : ℕ) → image x ≡ o → (joined original image x ≡ None) ⊎ (beside image t.mem x ≡ None)
    apart_at (Some c) x q = inr (ap (λ v. or_not v (t.mem x)) q)
    apart_at None x q =
        let p = none_left (base x) (pages x) q in
        inl (ap (λ v. or_else v (image x)) (h.within x p.0) ∙ q)

    -- the original as it starts and the stub's last state are a start pair
    pair : IsProcessorState s → IsStartPair original image b.entry (original_start file b original base t) t
    pair sized = record {
      sized = record {
        core = subst IsProcessorCore (sym e.core) sized.core;
        world = subst GiveWords (sym e.world) sized.world;
      };
      core = refl;
      world = refl;
      original_at = refl;
      patched_at = e.there;
      further = beside image t.mem;
      apart = λ x. apart_at (image x) x refl;
      original = refl;
      patched = fun_ext (λ x. split_at (image x) x refl);
    }

-- the original as it starts there and the stub's last state are a start pair
pub pairs_at_entry : PairsAtEntry
pairs_at_entry file b original base rest further s t st sized h e = pair file b original base rest further s t h e st sized

-- further memory is the same at the entry
pub keeps_further : KeepsFurther
keeps_further file b original base rest further s t h e x o p q r = further_same file b original base rest further s t h e x o p q r

-- where no open and no mmap fails, the stub leads to a start pair
pub loader_leads : LoaderLeadsOn
loader_leads file b original base rest further s replies st sized h ok long given =
    let o = stub_runs file b s replies st ok in
    let e = ends_at_entry (length b.runs) replies long given in
    let t = last_state s o.moves in
    let there : IsAtEntry file b s t = subst (λ (z : End). EndsSo file b s z (last_number None o.moves) t) e o.end in
    record {
      moves = o.moves;
      run = o.run;
      few = o.few;
      reaches = there;
      on = pairs_at_entry file b original base rest further s t st sized h there;
    }

-- what follows from what holds at the entry holds there
pub led_with : (file : List ℕ) (b : Stub) (original base : Bytes) (P Q : Machine → Machine → Type 0) (s : Machine)
    → ((a u : Machine) → P a u → Q a u) → IsLedOn file b original base P s → IsLedOn file b original base Q s
led_with file b original base P Q s f h =
    let t = last_state s h.moves in
    record { moves = h.moves; run = h.run; few = h.few; reaches = h.reaches; on = f (original_start file b original base t) t h.on }

-- from a start pair the headline holds
pub goes_on : (r : Rewriting) (m : Bytes) (entry : ℕ) → r.patched ≡ m → r.entry ≡ entry → Headline Step r
    → (a u : Machine) → IsStartPair r.original m entry a u → GoesOn r a u
goes_on r m entry same there head a u p0 =
    let p1 = subst (λ (z : Bytes). IsStartPair r.original z entry a u) (sym same) p0 in
    let p = subst (λ (z : ℕ). IsStartPair r.original r.patched z a u) (sym there) p1 in
    record { pair = p; follows = λ is q. head a u p is q }

-- where no open and no mmap fails, the headline of a followed image holds from the stub's last state on
pub loader_followed : LoaderIsFollowed
loader_followed file b base rest further r s replies st sized h same entry head ok long given =
    led_with file b r.original base (IsStartPair r.original (whole_image file b base) b.entry) (GoesOn r) s
    (goes_on r (whole_image file b base) b.entry same entry head)
    (loader_leads file b r.original base rest further s replies st sized h ok long given)
