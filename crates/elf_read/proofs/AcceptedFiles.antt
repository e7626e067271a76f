-- What the rules leave of a file that breaks none.
use Rattle.std.proofs.Common.{◌≡◌, ℕ, ◌+◌, ◌*◌, ◌<◌, ◌≤◌, Bool, true, false, cond, not, nat_lt, ◌&&◌, List, [], ◌∷◌, length, Option, Some, None, refl, sym, ◌∙◌, arith, eqb-true}
use Rattle.std.specs.List.{AllByRecursion, position, position_from}
use Rattle.std.proofs.lemmas.Bool.{and_parts, ltb-true, leb-false, ltb-false, cond-false}
use Rattle.std.proofs.lemmas.Bool.Decides.{nat_tests}
use Rattle.std.proofs.lemmas.Iterator.Adapters.{position_from-zero}
use Rattle.elf_read.specs.declared.segment.Segment.{Segment}
use Rattle.elf_read.specs.declared.refusal.ElfError.{ElfError}
use Rattle.elf_read.specs.Entries.{table_place, table_count, segments, is_load, loads}
use Rattle.elf_read.specs.Refusals.{is_dynamic, is_outside, is_oversized, is_misaligned, is_high, is_low, is_behind, first_page, last_page, first_unordered, first_broken, header_rules, by_entry, or_later, header_refusal, entry_refusal, refusal}
use Rattle.elf_read.specs.Accepted.{IsPlaced, Ascends, IsAccepted}

-- entries of which none breaks a rule
abbrev pub NoneBreaks : (Segment → Bool) → List Segment → Type 0
NoneBreaks p ss = AllByRecursion (λ s. p s ≡ false) ss

some_none : (i : ℕ) → ◌≡◌ {A = Option ℕ} (Some i) None → ⊥
some_none i e = cc

rest_none : (b : Bool) (i : ℕ) (o : Option ℕ) → cond b (Some i) o ≡ None → (b ≡ false) × (o ≡ None)
rest_none true i o h = absurd (some_none i h)
rest_none false i o h = (refl, h)

none_from : (p : Segment → Bool) (i : ℕ) (ss : List Segment) → position_from p i ss ≡ None → NoneBreaks p ss
none_from p i [] h = tt
none_from p i (s ∷ ss) h =
    let k = rest_none (p s) i (position_from p (i + 1) ss) h in (k.0, none_from p (i + 1) ss k.1)

-- where the search for an entry that breaks a rule finds none, none breaks it
pub none_breaks : (p : Segment → Bool) (ss : List Segment) → position p ss ≡ None → NoneBreaks p ss
none_breaks p ss h = none_from p 0 ss (sym (position_from-zero p ss) ∙ h)

from_none : (p : Segment → Bool) (i : ℕ) (ss : List Segment) → NoneBreaks p ss → position_from p i ss ≡ None
from_none p i [] h = refl
from_none p i (s ∷ ss) h = cond-false (p s) _ _ h.0 ∙ from_none p (i + 1) ss h.1

-- where none breaks the rule, the search finds none
pub position-none : (p : Segment → Bool) (ss : List Segment) → NoneBreaks p ss → position p ss ≡ None
position-none p ss h = position_from-zero p ss ∙ from_none p 0 ss h

-- Where each test of a list of rules fails, none is broken.
pub none_broken : (rules : List (Bool × ElfError)) → AllByRecursion (λ r. r.0 ≡ false) rules → first_broken rules ≡ None
none_broken [] h = refl
none_broken (r ∷ rs) h = cond-false r.0 (Some r.1) (first_broken rs) h.0 ∙ none_broken rs h.1

-- the seven rules of entries, where none is broken
pub no_entry : (o : Option ℕ) (e : ℕ → ElfError) (later : Option ElfError) → by_entry o e later ≡ None → (o ≡ None) × (later ≡ None)
no_entry None e later h = (refl, h)
no_entry (Some i) e later h = cc

record KeepRules (low len : ℕ) (ss : List Segment) : Type 0 where
  dynamic : position is_dynamic ss ≡ None
  outside : position (is_outside len) ss ≡ None
  oversized : position is_oversized ss ≡ None
  misaligned : position is_misaligned ss ≡ None
  high : position is_high ss ≡ None
  low_ones : position (is_low low) ss ≡ None
  unordered : first_unordered 0 None ss ≡ None

keep_rules : (low len : ℕ) (ss : List Segment) → entry_refusal low len ss ≡ None → KeepRules low len ss
unfolding entry_refusal
keep_rules low len ss h =
    let a = no_entry (position is_dynamic ss) _ _ h in
    let b = no_entry (position (is_outside len) ss) _ _ a.1 in
    let d = no_entry (position is_oversized ss) _ _ b.1 in
    let e = no_entry (position is_misaligned ss) _ _ d.1 in
    let f = no_entry (position is_high ss) _ _ e.1 in
    let g = no_entry (position (is_low low) ss) _ _ f.1 in
    let k = no_entry (first_unordered 0 None ss) _ _ g.1 in
    record { dynamic = a.0; outside = b.0; oversized = d.0; misaligned = e.0; high = f.0; low_ones = g.0; unordered = k.0 }

no_refusal : (low len : ℕ) (ss : List Segment) → KeepRules low len ss → entry_refusal low len ss ≡ None
unfolding entry_refusal
no_refusal low len ss h = rw (h.dynamic, h.outside, h.oversized, h.misaligned, h.high, h.low_ones, h.unordered) refl

-- a lower bound of addresses refuses no more
not_lower : (low lower : ℕ) (s : Segment) (b : Bool) → lower ≤ low → b && nat_lt s.vaddr low ≡ false → b && nat_lt s.vaddr lower ≡ false
not_lower low lower s b l h = grind (arith, nat_tests)

none_lower : (low lower : ℕ) (ss : List Segment) → lower ≤ low → NoneBreaks (is_low low) ss → NoneBreaks (is_low lower) ss
none_lower low lower [] l h = tt
none_lower low lower (s ∷ ss) l h = (not_lower low lower s (is_load s) l h.0, none_lower low lower ss l h.1)

refused_lower : (low lower len : ℕ) (ss : List Segment) → lower ≤ low → entry_refusal low len ss ≡ None → entry_refusal lower len ss ≡ None
refused_lower low lower len ss l h =
    let k = keep_rules low len ss h in
    no_refusal lower len ss (record {
      dynamic = k.dynamic;
      outside = k.outside;
      oversized = k.oversized;
      misaligned = k.misaligned;
      high = k.high;
      low_ones = position-none (is_low lower) ss (none_lower low lower ss l (none_breaks (is_low low) ss k.low_ones));
      unordered = k.unordered;
    })

-- where the first of two refusals, or else the second, is none, both are none
pub both_none : (h e : Option ElfError) → or_later h e ≡ None → (h ≡ None) × (e ≡ None)
both_none None e q = (refl, q)
both_none (Some x) e q = cc

-- of two refusals that are none the first, or else the second, is none
pub or_none : (h e : Option ElfError) → h ≡ None → e ≡ None → or_later h e ≡ None
or_none h e p q = rw (p, q) refl

-- a file that is accepted above one address is accepted above a lower one
pub accepted_lower : (low lower : ℕ) (bytes : List ℕ) → lower ≤ low → refusal low bytes ≡ None → refusal lower bytes ≡ None
accepted_lower low lower bytes l h =
    let k = both_none (header_refusal bytes) (entry_refusal low (length bytes) (segments bytes)) h in
    or_none (header_refusal bytes) (entry_refusal lower (length bytes) (segments bytes)) k.0 (refused_lower low lower (length bytes) (segments bytes) l k.1)

-- one nonempty PT_LOAD
pub and_false : (a b : Bool) → a ≡ true → a && b ≡ false → b ≡ false
and_false true b e h = h
and_false false b e h = cc

not_false : (b : Bool) → not b ≡ false → b ≡ true
not_false true h = refl
not_false false h = cc

placed : (low len : ℕ) (s : Segment) → is_load s ≡ true → is_outside len s ≡ false → is_oversized s ≡ false → is_misaligned s ≡ false → is_high s ≡ false → is_low low s ≡ false → IsPlaced low len s
placed low len s l o v m h w =
    let k = and_parts _ _ l in
    record {
      nonempty = ltb-true _ _ k.1;
      in_file = ltb-false _ _ (and_false _ _ k.0 o);
      sizes = ltb-false _ _ (and_false _ _ k.0 v);
      aligned = eqb-true _ _ (not_false _ (and_false _ _ l m));
      high = ltb-false _ _ (and_false _ _ l h);
      low = ltb-false _ _ (and_false _ _ l w);
    }

placed_step : (low len : ℕ) (s : Segment) (ss : List Segment) (b : Bool) → is_load s ≡ b → (is_load s ≡ true → IsPlaced low len s) → AllByRecursion (IsPlaced low len) (loads ss) → AllByRecursion (IsPlaced low len) (cond b (s ∷ loads ss) (loads ss))
placed_step low len s ss false e f r = r
placed_step low len s ss true e f r = (f e, r)

all_placed : (low len : ℕ) (ss : List Segment) → NoneBreaks (is_outside len) ss → NoneBreaks is_oversized ss → NoneBreaks is_misaligned ss → NoneBreaks is_high ss → NoneBreaks (is_low low) ss → AllByRecursion (IsPlaced low len) (loads ss)
all_placed low len [] o v m h w = tt
all_placed low len (s ∷ ss) o v m h w =
    placed_step low len s ss (is_load s) refl (λ l. placed low len s l o.0 v.0 m.0 h.0 w.0) (all_placed low len ss o.1 v.1 m.1 h.1 w.1)

-- their order
abbrev pub page_after : Option Segment → ℕ
page_after None = 0
page_after (Some s) = last_page s + 1

not_behind : (before : Option Segment) (s : Segment) → is_behind before s ≡ false → page_after before ≤ first_page s
not_behind None s h = omega arith
not_behind (Some b) s h = let l = leb-false _ _ h in omega arith

load_nonempty : (s : Segment) → is_load s ≡ true → 0 < s.memsz
load_nonempty s e = ltb-true _ _ (and_parts _ _ e).1

ascending_step : (i : ℕ) (before : Option Segment) (s : Segment) (ss : List Segment) (b : Bool) (x y : Option ℕ) → is_load s ≡ b → cond b (cond (is_behind before s) (Some i) x) y ≡ None → (x ≡ None → Ascends (last_page s + 1) (loads ss)) → (y ≡ None → Ascends (page_after before) (loads ss)) → Ascends (page_after before) (cond b (s ∷ loads ss) (loads ss))
ascending_step i before s ss false x y e h f g = g h
ascending_step i before s ss true x y e h f g =
    let k = rest_none (is_behind before s) i x h in (not_behind before s k.0, load_nonempty s e, f k.1)

ascending : (i : ℕ) (before : Option Segment) (ss : List Segment) → first_unordered i before ss ≡ None → Ascends (page_after before) (loads ss)
ascending i before [] h = tt
ascending i before (s ∷ ss) h =
    ascending_step i before s ss (is_load s) (first_unordered (i + 1) (Some s) ss) (first_unordered (i + 1) before ss) refl h
    (λ e. ascending (i + 1) (Some s) ss e) (λ e. ascending (i + 1) before ss e)

-- the header
no_rule_first : (b : Bool) (e : ElfError) (rs : List (Bool × ElfError)) (later : Option ElfError) → cond b (Some e) later ≡ None → (later ≡ None → AllByRecursion (λ r. r.0 ≡ false) rs) → (b ≡ false) × AllByRecursion (λ r. r.0 ≡ false) rs
no_rule_first true e rs later h f = cc
no_rule_first false e rs later h f = (refl, f h)

-- where no rule of a list is found broken, each of its tests fails
pub no_rule : (rules : List (Bool × ElfError)) → first_broken rules ≡ None → AllByRecursion (λ r. r.0 ≡ false) rules
no_rule [] h = tt
no_rule (r ∷ rs) h = no_rule_first r.0 r.1 rs (first_broken rs) h (λ e. no_rule rs e)

header_kept : (bytes : List ℕ) → header_refusal bytes ≡ None → (64 ≤ length bytes) × (table_place bytes + 56 * table_count bytes ≤ length bytes)
unfolding header_refusal
header_kept bytes h =
    let k = no_rule (header_rules bytes) h in (ltb-false _ _ k.0, ltb-false _ _ k.1.1.1.1.1.1.1.0)

-- a file that breaks no rule keeps what the rules leave of it: its table in the file, its loaded entries placed and ascending
pub is_accepted : (low : ℕ) (bytes : List ℕ) → refusal low bytes ≡ None → IsAccepted low bytes
is_accepted low bytes h =
    let k = both_none (header_refusal bytes) (entry_refusal low (length bytes) (segments bytes)) h in
    let p = header_kept bytes k.0 in
    let r = keep_rules low (length bytes) (segments bytes) k.1 in
    let ss = segments bytes in
    record {
      header = p.0;
      table = p.1;
      placed =
          all_placed low (length bytes) ss (none_breaks (is_outside (length bytes)) ss r.outside) (none_breaks is_oversized ss r.oversized)
          (none_breaks is_misaligned ss r.misaligned) (none_breaks is_high ss r.high) (none_breaks (is_low low) ss r.low_ones);
      ascends = ascending 0 None ss r.unordered;
    }
