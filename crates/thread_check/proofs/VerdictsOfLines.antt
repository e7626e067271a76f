-- What the trampolines and the rules of any patched image show, as a verdict of the rules for threads.
use Rattle.std.proofs.Common.{◌≡◌, ◌≢◌, ◌⊎◌, inl, inr, ℕ, ◌+◌, ◌-◌, ◌≤◌, Bool, true, false, cond, not, ◌&&◌, ◌||◌, eqb, leb, ltb, List, length, slice_index, Option, Some, None, refl, sym, ap, ◌∙◌, subst, arith}
use Rattle.std.specs.Prelude.{count_by, slice_get}
use Rattle.std.specs.Option.{is_some, option_map}
use Rattle.std.specs.List.{list_any}
use Rattle.std.proofs.lemmas.Bool.{cases_order, and_parts, and_from, or_cases, or_right, eqb-true, leb-true, ltb-true, le-leb, lt-ltb, false_from_ne_true, false≢true, true≢false}
use Rattle.std.proofs.lemmas.Option.{slice_get-map}
use Rattle.pun_base.specs.Memory.{Cell}
use Rattle.length_decode.specs.Spelling.{Fields}
use Rattle.insn_form.specs.declared.form.Insn.{Insn}
use Rattle.insn_form.specs.Displacing.{displaced_len}
use Rattle.trampoline.specs.Atomic.{is_atomic, back, can_by}
use Rattle.start_entries.specs.declared.entry.StartEntry.{StartEntry}
use Rattle.start_entries.specs.Finding.{entry_at}
use Rattle.start_entries.specs.Leading.{Leads}
use Rattle.start_entries.specs.Standing.{AreEntries}
use Rattle.patch_report.specs.Grammar.{IsTold}
use Rattle.patch_report.proofs.ListPlaces.{In, found, contains_at, place_of, counted_twice, all_in}
use Rattle.image_check.specs.declared.placed_code.PlacedCode.{PlacedCode}
use Rattle.image_check.specs.CodeParts.{in_code}
use Rattle.image_check.specs.Parts.{line_of}
use Rattle.sound_images.specs.Reports.{Line, lines, times_started, in_private, on_page}
use Rattle.sound_images.specs.Rules.{Case, HasCodeWith, LiesInWith, HoldsCode, is_expected, is_unexpected, displaced_by, displaced_from, displaced_at, EntryFails}
use Rattle.image_check.specs.declared.rule.Rule.TheVariants as rule
use Rattle.image_check.specs.declared.verdict.Verdict.{Verdict}
use Rattle.image_check.specs.declared.verdict.Verdict.TheVariants.{Yes, No}
use Rattle.image_check.specs.Verdict.{FailsBy, IsLeastOf}
use Rattle.image_check.proofs.CodeRule.{two_places, held_back, mapped}
use Rattle.sound_images.proofs.LeadingBytes.{leads_or_not}
use Rattle.image_check.proofs.NearCounts.{any_moved, count_moved}
use Rattle.site_turns.specs.Modes.{IsShared}
use Rattle.site_turns.proofs.CodeSizes.{one_standing}
use Rattle.thread_check.specs.ThreadRules.{moved_from, ThreadLineFails, ThreadEntryFails, thread_coding, ThreadCodeFails, ThreadFails}
use Rattle.thread_check.specs.ThreadVerdict.{IsThreadVerdict}
use Rattle.thread_check.specs.ThreadSoundness.{IsThreadCaseFollowed}
use Rattle.thread_check.specs.LineParts.{is_new_code, IsSoundLine, IsBrokenLine, IsLineFailure, IsSoundCode, first_overlap, AreSoundLines, IsLinesVerdict, IsEventsVerdict, IsSoundImage, ImageFails, IsImageVerdict, first_failure, whole}
use Rattle.thread_check.proofs.LandingJumps.{leads_too, leads_for}
use Rattle.thread_check.proofs.HeldCode.{IsHeld, each_held, one_broken}
use Rattle.thread_check.proofs.PlacesApart.{HaveBytes, in_one, in_two}
use Rattle.thread_check.proofs.RulesForThreads.{thread_case_is_followed}

-- a trampoline has one code
one_code : (c : Case) (l : Line) (f g : List ℕ) → HasCodeWith (thread_coding c.report) c l f → HasCodeWith (thread_coding c.report) c l g → f ≡ g
one_code c l f g h k =
    h.is ∙ ap (λ (x : Fields). thread_coding c.report l x) (one_standing c.original l.tramp.start h.fields k.fields h.spelled k.spelled h.stands k.stands) ∙ sym k.is

-- an original byte, or that there is none, by a test that fails
by_cell : (o d : Option Cell) (b : ℕ) → is_new_code o d b ≡ false → (IsHeld d b → ⊥) ⊎ (is_some o ≡ true)
by_cell None d b h = inl (λ e. true≢false (sym (held_back d b e) ∙ h))
by_cell (Some c) d b h = inr refl

module _ (c : Case) (M : IsSoundImage c) where
  -- where the original has a byte, no page of the report is
  no_page : (x : ℕ) → is_some (c.original x) ≡ true → on_page c.report x ≡ false
  no_page x h = false_from_ne_true (on_page c.report x) (λ p. M.ranges x (inr (or_on p, inr (inl (x, refl, h)))))
    where
      or_on : on_page c.report x ≡ true → (in_private c.report x || on_page c.report x) ≡ true
      or_on p = or_right (in_private c.report x) (on_page c.report x) p

  -- where code is held and the original has no byte, a page of the report is
  a_page : (x b : ℕ) → IsHeld (c.patched x) b → c.original x ≡ None → on_page c.report x ≡ true
  a_page x b h n =
      let d : Cell = record { byte = b; perms = 5 } in
      let e : is_expected c.report x d ≡ true = true_unless (is_expected c.report x d) (λ f. M.ranges x (inl ((λ i. is_unexpected c.report x (n i) (h i)) ∙ f))) in
      elim (or_cases (leb 0x10000 x && (ltb x 0x1E000 && false)) ((in_private c.report x && (eqb b 0 && false)) || (on_page c.report x && true)) e) [
        | inl k ↦ absurd (false≢true (and_parts (ltb x 0x1E000) false (and_parts (leb 0x10000 x) (ltb x 0x1E000 && false) k).1).1)
        | inr k ↦ elim (or_cases (in_private c.report x && (eqb b 0 && false)) (on_page c.report x && true) k) [
          | inl j ↦ absurd (false≢true (and_parts (eqb b 0) false (and_parts (in_private c.report x) (eqb b 0 && false) j).1).1)
          | inr j ↦ (and_parts (on_page c.report x) true j).0
        ]
      ]
    where
      true_unless : (b : Bool) → (not b ≡ true → ⊥) → b ≡ true
      true_unless true k = refl
      true_unless false k = absurd (k refl)

  -- a broken byte of a trampoline's code breaks rule 4
  broken_fails : (i : ℕ) (l : Line) (x : ℕ) → slice_get (lines c.report) i ≡ Some l → IsBrokenLine c l x → ThreadCodeFails c x
  broken_fails i l x h b =
      let q = one_broken c.original c.patched l.tramp.place b.code x b.first in
      let s = q.at in
      let k = q.inside in
      let has = b.code_is.has in
      let at : LiesInWith (thread_coding c.report) c i x = record {
        line = l;
        listed = h;
        code = b.code;
        has = has;
        low = omega (arith, s);
        high = omega (arith, s, k);
      } in
      let z : q.place ≡ x - l.tramp.place = omega (arith, s) in
      let fails : is_new_code (c.original x) (c.patched x) (slice_index b.code (x - l.tramp.place)) ≡ false =
      ap (λ (y : ℕ). is_new_code (c.original x) (c.patched x) (slice_index b.code y)) (sym z) ∙ q.fails in (
        i,
        at,
        elim (by_cell (c.original x) (c.patched x) (slice_index b.code (x - l.tramp.place)) fails) [
          | inl n ↦ inl n
          | inr o ↦ inr (inr (no_page x o))
        ],
      )

  module _ (sorted : List PlacedCode) (L : AreSoundLines c sorted) where
    abbrev codes : List PlacedCode
    codes = L.codes

    -- the trampoline at an index, with its code
    record At (i : ℕ) (l : Line) : Type 0 where
      code : PlacedCode
      is : slice_get codes i ≡ Some code
      line : line_of code.line ≡ l
      sound : IsSoundLine c l code.bytes

    -- each trampoline of the report has its code
    at_index : (i : ℕ) (l : Line) → slice_get (lines c.report) i ≡ Some l → At i l
    at_index i l h =
        let m = mapped (slice_get codes i) l (sym (slice_get-map (λ (p : PlacedCode). line_of p.line) codes i)
        ∙ ap (λ (z : List Line). slice_get z i) L.lines_are ∙ h) in
        record {
          code = m.0;
          is = m.1;
          line = m.2;
          sound = subst (λ (z : Line). IsSoundLine c z m.0.bytes) m.2 (all_in (IsSoundCode c) codes m.0 L.each (i, m.1));
        }

    -- a code at an index is that of a trampoline of the report
    of_index : (i : ℕ) (p : PlacedCode) → slice_get codes i ≡ Some p → slice_get (lines c.report) i ≡ Some (line_of p.line)
    of_index i p e =
        sym (ap (λ (z : List Line). slice_get z i) L.lines_are) ∙ slice_get-map (λ (p : PlacedCode). line_of p.line) codes i
        ∙ ap (option_map (λ (p : PlacedCode). line_of p.line)) e

    -- an address that lies in the code of a trampoline is in its code
    lies : (i x : ℕ) (at : LiesInWith (thread_coding c.report) c i x) → (q : At i at.line) → in_code x q.code ≡ true
    lies i x at q =
        let p = q.code in
        let bytes = one_code c at.line at.code p.bytes at.has q.sound.code_is.has in
        let place : p.line.tramp.place ≡ at.line.tramp.place = ap (λ (z : Line). z.tramp.place) q.line in
        let n = ap length bytes in
        let lo = at.low in
        let hi = at.high in
        and_from (leb p.line.tramp.place x) (ltb x (p.line.tramp.place + length p.bytes)) (le-leb p.line.tramp.place x (omega (arith, place, lo)))
        (lt-ltb x (p.line.tramp.place + length p.bytes) (omega (arith, place, hi, n)))

    -- no code is empty
    have_bytes : HaveBytes sorted
    have_bytes = false_from_ne_true (list_any (λ (p : PlacedCode). eqb (length p.bytes) 0) sorted) (λ t.
        let f = found (λ (p : PlacedCode). eqb (length p.bytes) 0) codes (sym (any_moved (λ (p : PlacedCode). eqb (length p.bytes) 0) codes sorted L.moved) ∙ t) in
        let n = eqb-true (length f.is.bytes) 0 f.passes in
        let k = (all_in (IsSoundCode c) codes f.is L.each (f.place, f.at)).code_is.some in
        absurd (omega (arith, n, k)))

    -- two codes that meet break rule 4
    overlap_fails : (x : ℕ) → first_overlap 0 sorted ≡ Some x → ThreadCodeFails c x
    overlap_fails x h =
        let two : 2 ≤ count_by (in_code x) sorted = in_two x sorted L.rise have_bytes h in
        let same = count_moved (in_code x) codes sorted L.moved in
        let t = two_places (in_code x) codes (omega (arith, two, same)) in
        let below = t.below in
        let one = lies_in t.first t.one t.at_first t.one_passes in
        let other = lies_in t.second t.other t.at_second t.other_passes in
        (t.first, one, inr (inl (t.second, (λ e. absurd (omega (arith, e, below))), other)))
      where
        lies_in : (i : ℕ) (p : PlacedCode) → slice_get codes i ≡ Some p → in_code x p ≡ true → LiesInWith (thread_coding c.report) c i x
        lies_in i p e t =
            let q = and_parts (leb p.line.tramp.place x) (ltb x (p.line.tramp.place + length p.bytes)) t in
            record {
              line = line_of p.line;
              listed = of_index i p e;
              code = p.bytes;
              has = (all_in (IsSoundCode c) codes p L.each (i, e)).code_is.has;
              low = leb-true p.line.tramp.place x q.0;
              high = ltb-true x (p.line.tramp.place + length p.bytes) q.1;
            }

    module _ (apart : first_overlap 0 sorted ≡ None) where
      -- rule 3 of any patched image fails for no trampoline
      entry_holds : (l : Line) → In (lines c.report) l
          → ((displaced_at c.listed l.tramp.start ≡ None) ⊎ (2 ≤ times_started c.report l.tramp.start) ⊎ (Leads c.patched c.listed l.tramp.start l.tramp.place → ⊥)) → ⊥
      entry_holds l h f = M.entries l.tramp.start (l, contains_at (lines c.report) h.0 l h.1, refl, f)

      -- rule 3 fails for no trampoline
      line_holds : (l : Line) → In (lines c.report) l → ThreadLineFails c l.tramp.start l → ⊥
      line_holds l h (inl e) = false≢true (sym (ap is_some e) ∙ (at_index h.0 l h.1).sound.code_is.moved)
      line_holds l h (inr (inl e)) = true≢false (sym e ∙ (at_index h.0 l h.1).sound.code_is.alone)
      line_holds l h (inr (inr (inl two))) = entry_holds l h (inr (inl two))
      line_holds l h (inr (inr (inr n))) = elim (leads_or_not c.patched c.listed l.tramp.start l.tramp.place) [
        | inl leads ↦ n (leads_for c l.tramp.start l.tramp.place leads (at_index h.0 l h.1).sound.lands)
        | inr none ↦ entry_holds l h (inr (inr none))
      ]

      -- rule 3 fails nowhere
      rule_3 : (x : ℕ) → ThreadEntryFails c x → ⊥
      rule_3 x f =
          let p = place_of (lines c.report) f.0 f.1 in
          line_holds f.0 p (subst (λ (z : ℕ). ThreadLineFails c z f.0) (sym f.2) f.3)

      -- an address in the codes of two trampolines is in two codes
      two_in : (i j x : ℕ) → i ≢ j → LiesInWith (thread_coding c.report) c i x → LiesInWith (thread_coding c.report) c j x → ⊥
      two_in i j x n a b =
          let p = at_index i a.line a.listed in
          let q = at_index j b.line b.listed in
          let few = in_one x 0 sorted apart in
          let same = count_moved (in_code x) codes sorted L.moved in
          elim (cases_order i j) [
            | inl e ↦ n e
            | inr (inl k) ↦ absurd (omega (arith, few, same, counted_twice (in_code x) codes i j p.code q.code k p.is (lies i x a p) q.is (lies j x b q)))
            | inr (inr k) ↦ absurd (omega (arith, few, same, counted_twice (in_code x) codes j i q.code p.code k q.is (lies j x b q) p.is (lies i x a p)))
          ]

      -- a byte of code is held, and the original has none there
      byte_held : (i x : ℕ) (at : LiesInWith (thread_coding c.report) c i x) → IsHeld (c.patched x) (slice_index at.code (x - at.line.tramp.place)) × (c.original x ≡ None)
      byte_held i x at =
          let q = at_index i at.line at.listed in
          let bytes = one_code c at.line at.code q.code.bytes at.has q.sound.code_is.has in
          let lo = at.low in
          let hi = at.high in
          let n = ap length bytes in
          let z : at.line.tramp.place + (x - at.line.tramp.place) ≡ x = omega (arith, lo) in
          let h = each_held c.original c.patched at.line.tramp.place q.code.bytes q.sound.held (x - at.line.tramp.place) (omega (arith, lo, hi, n)) in
          let g = subst (λ (y : ℕ). IsHeld (c.patched y) (slice_index q.code.bytes (x - at.line.tramp.place)) × (c.original y ≡ None)) z h in
          (g.0 ∙ ap (λ (b : List ℕ). Some (record { byte = slice_index b (x - at.line.tramp.place); perms = 5 })) (sym bytes), g.1)

      -- rule 4 fails at no address of a trampoline's code
      code_holds : (i x : ℕ) (at : LiesInWith (thread_coding c.report) c i x)
          → ((HoldsCode c x (slice_index at.code (x - at.line.tramp.place)) → ⊥) ⊎ ((j : ℕ) × (i ≢ j) × LiesInWith (thread_coding c.report) c j x)
          ⊎ (on_page c.report x ≡ false)) → ⊥
      code_holds i x at (inl n) = n (byte_held i x at).0
      code_holds i x at (inr (inl o)) = two_in i o.0 x o.1 at o.2
      code_holds i x at (inr (inr e)) =
          let h = byte_held i x at in true≢false (sym (a_page x (slice_index at.code (x - at.line.tramp.place)) h.0 h.1) ∙ e)

      -- where threads can get the events of the action, no rule fails
      pub all_hold : IsShared c.report.action → (rule x : ℕ) → ThreadFails c rule x → ⊥
      all_hold action rule x (inl h) = M.bytes x h.1
      all_hold action rule x (inr (inl h)) = M.writes x h.1
      all_hold action rule x (inr (inr (inl h))) = rule_3 x h.1
      all_hold action rule x (inr (inr (inr (inl h)))) = (let f = h.1 in code_holds f.0 x f.1 f.2)
      all_hold action rule x (inr (inr (inr (inr (inl h))))) = M.ranges x h.1
      all_hold action rule x (inr (inr (inr (inr (inr h))))) = elim h.1 [ inl s ↦ M.sites x s | inr a ↦ a.1 action ]

  -- what fails of a trampoline is a rule that fails
  line_fails : (l : Line) (addr rule : ℕ) → In (lines c.report) l → IsLineFailure c l (No addr rule) → ThreadFails c rule addr
  line_fails l addr rule h (inl k) =
      inr (inr (inl (k.0, (l, contains_at (lines c.report) h.0 l h.1, sym k.1, subst (λ (z : ℕ). ThreadLineFails c z l) (sym k.1) k.2))))
  line_fails l addr rule h (inr k) = inr (inr (inr (inl (k.0, broken_fails h.0 l addr h.1 k.1))))

  -- the verdict of the trampolines is the verdict, where threads can get the events of the action
  pub verdict_of : IsShared c.report.action → (v : Verdict) → IsLinesVerdict c v → IsThreadVerdict c v
  verdict_of action Yes h = all_hold h.0 h.1 h.2 action
  verdict_of action (No addr rule) (inl k) = line_fails k.0 addr rule (place_of (lines c.report) k.0 k.1) k.2
  verdict_of action (No addr rule) (inr k) = inr (inr (inr (inl (k.0, overlap_fails k.1.0 k.1.1 addr k.1.2))))

-- what can't be displaced can't be where threads share memory
moved_nowhere : (o : Option StartEntry) → displaced_from o ≡ None → moved_from o ≡ None
moved_nowhere None h = refl
moved_nowhere (Some e) h = by_form e.form h
  where
    by_test : (b : Bool) (k : ℕ) (d : Option ℕ) → d ≡ None → option_map (λ n. n + k) (cond b d None) ≡ None
    by_test true k d f = ap (option_map (λ n. n + k)) f
    by_test false k d f = refl

    by_form : (o : Option Insn) → displaced_by o e.len e.addr ≡ None → can_by o e.len e.addr ≡ None
    by_form None f = refl
    by_form (Some i) f = by_test (is_atomic i) (back i) (displaced_len i e.len e.addr) f

-- where rule 3 of any patched image fails, that for threads does
entry_fails : (c : Case) (x : ℕ) → EntryFails c x → ThreadEntryFails c x
entry_fails c x f = (f.0, f.1, f.2, by_kind f.3)
  where
    by_kind : (displaced_at c.listed x ≡ None) ⊎ (2 ≤ times_started c.report x) ⊎ (Leads c.patched c.listed x f.0.tramp.place → ⊥) → ThreadLineFails c x f.0
    by_kind (inl e) = inl (moved_nowhere (entry_at c.listed x) e)
    by_kind (inr (inl two)) = inr (inr (inl two))
    by_kind (inr (inr n)) = inr (inr (inr (λ t. n (leads_too c x f.0.tramp.place t))))

-- a rule of any patched image that fails is one for threads that fails
pub image_fails : (c : Case) (addr rule : ℕ) → ImageFails c rule addr → ThreadFails c rule addr
image_fails c addr rule (inl h) = inl h
image_fails c addr rule (inr (inl h)) = inr (inl h)
image_fails c addr rule (inr (inr (inl h))) = inr (inr (inr (inr (inl h))))
image_fails c addr rule (inr (inr (inr (inl h)))) = inr (inr (inr (inr (inr (h.0, inl h.1)))))
image_fails c addr rule (inr (inr (inr (inr h)))) = inr (inr (inl (h.0, entry_fails c addr h.1)))

-- the first rule that fails is the verdict of the rules of any patched image
pub image_verdict : (c : Case) (byte write range site entry : Option ℕ) → IsLeastOf (FailsBy c rule.Byte) byte → IsLeastOf (FailsBy c rule.Write) write
    → IsLeastOf (FailsBy c rule.Range) range → IsLeastOf (FailsBy c rule.Site) site → IsLeastOf (FailsBy c rule.Entry) entry
    → IsImageVerdict c (first_failure byte write range site entry)
image_verdict c (Some x) write range site entry h i j k l = inl (refl, h.0)
image_verdict c None (Some x) range site entry h i j k l = inr (inl (refl, i.0))
image_verdict c None None (Some x) site entry h i j k l = inr (inr (inl (refl, j.0)))
image_verdict c None None None (Some x) entry h i j k l = inr (inr (inr (inl (refl, k.0))))
image_verdict c None None None None (Some x) h i j k l = inr (inr (inr (inr (refl, l.0))))
image_verdict c None None None None None h i j k l = record { bytes = h; writes = i; entries = l; ranges = j; sites = k }

-- the verdict of the action with the trampolines is the verdict, where the rules of any patched image hold
events_verdict : (c : Case) (v : Verdict) → IsImageVerdict c Yes → IsEventsVerdict c v → IsThreadVerdict c v
events_verdict c v h (inl k) = verdict_of c h k.0 v k.1
events_verdict c v h (inr k) = subst (IsThreadVerdict c) (sym k.1) (inr (inr (inr (inr (inr (refl, inr (refl, k.0)))))))

-- the verdict of all parts is the verdict
pub whole_verdict : (c : Case) (v w : Verdict) → IsImageVerdict c v → IsEventsVerdict c w → IsThreadVerdict c (whole v w)
whole_verdict c (No addr rule) w h k = image_fails c addr rule h
whole_verdict c Yes w h k = events_verdict c w h k

-- where the verdict is Yes, the patched file is followed
pub yes_followed : (c : Case) (v : Verdict) → AreEntries c.original c.listed → IsTold c.report → IsThreadVerdict c v → v ≡ Yes → IsThreadCaseFollowed c
yes_followed c v A T h e = thread_case_is_followed c A T (subst (λ (z : Verdict). IsThreadVerdict c z) e h)
