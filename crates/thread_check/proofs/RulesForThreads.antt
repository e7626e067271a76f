-- Where no rule for threads fails, the patched image is sound for threads.
use Rattle.std.proofs.Common.{◌≡◌, ◌⊎◌, inl, inr, ℕ, ◌+◌, ◌-◌, ◌^◌, ◌<◌, ◌≤◌, Bool, true, false, not, ◌&&◌, eqb, leb, ltb, List, length, slice_index, Option, Some, None, refl, sym, ap, ap₂, ◌∙◌, subst, arith}
use Rattle.std.specs.Prelude.{Contains, slice_get}
use Rattle.std.specs.Option.{is_some, option_map}
use Rattle.std.specs.List.{list_any, count_by, AllByRecursion}
use Rattle.std.proofs.lemmas.Bool.{cases_eq, cases_lt, cases_order, and_from, or_right, eqb-true, eq-eqb, true_from_ne_false, false_from_ne_true, false≢true, true≢false}
use Rattle.pun_base.specs.Memory.{Cell}
use Rattle.pun_base.specs.Actions.{private_len}
use Rattle.cpu_state.specs.Bytes.{Stands}
use Rattle.length_decode.specs.Spelling.{Fields, IsInstruction, spelling}
use Rattle.insn_form.specs.declared.form.Insn.{Insn}
use Rattle.insn_form.specs.Instruction.{insn_of}
use Rattle.insn_form.specs.Displacing.{displaced_len}
use Rattle.insn_form.specs.Step.{next_after}
use Rattle.trampoline.specs.Atomic.{is_atomic, thread_len, back, can_by}
use Rattle.start_entries.specs.declared.entry.StartEntry.{StartEntry}
use Rattle.start_entries.specs.Finding.{entry_at}
use Rattle.start_entries.specs.Leading.{JumpsTo}
use Rattle.start_entries.specs.Standing.{AreEntries}
use Rattle.patch_report.specs.Values.{RowValue}
use Rattle.patch_report.specs.Bounds.{IsBounded}
use Rattle.patch_report.specs.Grammar.{IsTold}
use Rattle.patch_report.proofs.ReportBounds.{bounded}
use Rattle.patch_report.proofs.ListPlaces.{In, some_is, all_in, all_from, contains_at, counted_twice, finds}
use Rattle.sound_images.specs.Reports.{Line, lines, is_written, in_private, on_page, tramps_of}
use Rattle.sound_images.specs.Rules.{Case, differs, displaced_by, displaced_from, displaced_at, LiesInWith, HoldsCode, is_own, ByteFails, WriteFails, RangeFails}
use Rattle.sound_images.proofs.HeldRules.{some_unless, held_or_not, same_unless, owned_at, code_low as code_ends, new_none, zero_at}
use Rattle.sound_images.proofs.LoadedCode.{loaded_fixed}
use Rattle.sound_images.proofs.FoundElements.{any_found}
use Rattle.sound_images.proofs.ReportLines.{number_low}
use Rattle.site_turns.specs.Modes.{can_in_threads, is_shared, IsShared}
use Rattle.site_turns.proofs.PlanForms.{entry_here}
use Rattle.site_turns.proofs.CodeSizes.{one_standing}
use Rattle.thread_runs.specs.Building.{kind_of}
use Rattle.thread_runs.specs.ThreadCode.{Kind, slot_at, code_if}
use Rattle.thread_runs.specs.Threading.{ThreadSite, Threading, next_of, ring_of, ByTwoJumps, IsThreadSite, is_code_of, IsRingSound, IsThreadSound}
use Rattle.thread_runs.proofs.ThreadsTheorem.{threads_followed, threads_followed_with}
use Rattle.thread_runs.proofs.WorkSize.{told}
use Rattle.guest_threads.specs.FromTurns.{code_of_line, site_with, HaveRoom}
use Rattle.guest_threads.proofs.LinesAfterTurns.{room_for}
use Rattle.guest_threads.proofs.ThreadConditions.{action_few, keeps_of, ring_shared, ring_always}
use Rattle.guest_threads.proofs.SitesOfLines.{mark_in, Of, of_site, one_line, once, numbers, kinds, kind_is, room_of, owned_in}
use Rattle.thread_check.specs.ThreadRules.{moved_from, moved_at, is_marked, shares_at, ThreadLeads, ThreadLineFails, ThreadEntryFails, thread_coding, ThreadCodeFails, ThreadSiteFails, IsThreadCaseSound}
use Rattle.thread_check.specs.ThreadSoundness.{threading_of, ThreadCaseIsFollowed}
use Rattle.thread_check.proofs.LinesOfRows.{IsOwn, is_numbered, number_once}
use Rattle.thread_check.proofs.LandingJumps.{leads_unless}

-- an entry that can be displaced where threads share memory has a known form
known_form : (o : Option Insn) (len a : ℕ) → is_some (can_by o len a) ≡ true → is_some o ≡ true
known_form None len a h = h
known_form (Some i) len a h = refl

-- where a sum with an option is there, the option is
some_of : (o : Option ℕ) (k : ℕ) → is_some (option_map (λ n. n + k) o) ≡ true → (n : ℕ) × (o ≡ Some n)
some_of None k h = absurd (false≢true h)
some_of (Some n) k h = (n, refl)

-- the code of a trampoline whose instruction has these fields and ends before an address
abbrev pub code_to : Case → Line → Fields → ℕ → List ℕ
code_to c l f next = code_of_line c.report.action c.report.private.0 l f next

-- a trampoline's instruction: it is listed and alone, stands in the original, and can be displaced where threads share memory
pub record Enters (c : Case) (l : Line) : Type 0 where
  pub entry : StartEntry
  pub at : entry_at c.listed l.tramp.start ≡ Some entry
  pub listed : Contains c.listed entry
  pub addr : entry.addr ≡ l.tramp.start
  pub alone : entry.shared ≡ false
  pub fields : Fields
  pub spelled : IsInstruction fields
  pub stands : Stands c.original entry.addr (spelling fields)
  pub len : length (spelling fields) ≡ entry.len
  pub form : entry.form ≡ Some (insn_of fields)
  pub size : ℕ
  pub displaced : thread_len (insn_of fields) entry.len entry.addr ≡ Some size
  pub low : entry.addr + entry.len ≤ 0x7FFF0000

-- the code of a trampoline whose instruction has these fields
abbrev pub code_with : Case → Line → Fields → List ℕ
code_with c l f = thread_coding c.report l f

-- an entry of the original that can be displaced where threads share memory is such an instruction
pub entered : (c : Case) (l : Line) (e : StartEntry) → AreEntries c.original c.listed → entry_at c.listed l.tramp.start ≡ Some e
    → is_some (can_in_threads e) ≡ true → e.shared ≡ false → Enters c l
entered c l e A at can alone =
    let f = finds (λ (e : StartEntry). eqb e.addr l.tramp.start) c.listed e at in
    let listed = contains_at c.listed f.place e f.at in
    let E = A.each e listed in
    let k = E.known (known_form e.form e.len e.addr can) in
    let s = some_of (thread_len (insn_of k.fields) e.len e.addr) (back (insn_of k.fields)) (ap (λ (o : Option Insn). is_some (can_by o e.len e.addr)) (sym k.form) ∙ can) in
    record {
      entry = e;
      at = at;
      listed = listed;
      addr = eqb-true e.addr l.tramp.start f.passes;
      alone = alone;
      fields = k.fields;
      spelled = k.spelled;
      stands = k.stands;
      len = k.len;
      form = k.form;
      size = s.0;
      displaced = s.1;
      low = E.low;
    }

-- such an instruction can be displaced by the rules of any patched image, too
pub displaced_too : (c : Case) (l : Line) → (e : Enters c l) → is_some (displaced_at c.listed l.tramp.start) ≡ true
displaced_too c l e =
    let x = insn_of e.fields in
    ap is_some (ap displaced_from e.at ∙ ap (λ (o : Option Insn). displaced_by o e.entry.len e.entry.addr) e.form
    ∙ (told (is_atomic x) (displaced_len x e.entry.len e.entry.addr) e.size e.displaced).1)

-- it stands at the trampoline's start
pub stands_there : (c : Case) (l : Line) (e : Enters c l) → Stands c.original l.tramp.start (spelling e.fields)
stands_there c l e = subst (λ (z : ℕ). Stands c.original z (spelling e.fields)) e.addr e.stands

-- an address of its code lies in the code of the trampoline at its index
pub lies_in : (c : Case) (i : ℕ) (l : Line) (e : Enters c l) (x : ℕ) → slice_get (lines c.report) i ≡ Some l → l.tramp.place ≤ x
    → x < l.tramp.place + length (code_with c l e.fields) → LiesInWith (thread_coding c.report) c i x
lies_in c i l e x h lo hi = record {
  line = l;
  listed = h;
  code = code_with c l e.fields;
  has = record { fields = e.fields; spelled = e.spelled; stands = stands_there c l e; displaced = displaced_too c l e; is = refl };
  low = lo;
  high = hi;
}

module _ (c : Case) (A : AreEntries c.original c.listed) (T : IsTold c.report) (S : IsThreadCaseSound c) where
  abbrev B : IsBounded c.report
  B = bounded c.report T

  abbrev R : Threading
  R = threading_of c

  abbrev kind : Kind
  kind = kind_of c.report.action

  -- the rules, one by one
  rule_1 : (x : ℕ) → ByteFails c x → ⊥
  rule_1 x h = S 1 x (inl (refl, h))

  -- rule 2 fails nowhere
  rule_2 : (x : ℕ) → WriteFails c x → ⊥
  rule_2 x h = S 2 x (inr (inl (refl, h)))

  -- rule 3 fails nowhere
  rule_3 : (x : ℕ) → ThreadEntryFails c x → ⊥
  rule_3 x h = S 3 x (inr (inr (inl (refl, h))))

  -- rule 4 fails nowhere
  rule_4 : (x : ℕ) → ThreadCodeFails c x → ⊥
  rule_4 x h = S 4 x (inr (inr (inr (inl (refl, h)))))

  -- rule 5 fails nowhere
  rule_5 : (x : ℕ) → RangeFails c x → ⊥
  rule_5 x h = S 5 x (inr (inr (inr (inr (inl (refl, h))))))

  -- rule 6 fails nowhere
  rule_6 : (x : ℕ) → ThreadSiteFails c x → ⊥
  rule_6 x h = S 6 x (inr (inr (inr (inr (inr (refl, h))))))

  -- rule 3 for a trampoline
  line_holds : (l : Line) → In (lines c.report) l → ThreadLineFails c l.tramp.start l → ⊥
  line_holds l h f = rule_3 l.tramp.start (l, contains_at (lines c.report) h.0 l h.1, refl, f)

  -- its instruction
  enters : (l : Line) → In (lines c.report) l → Enters c l
  enters l h =
      let m = some_unless (moved_at c.listed l.tramp.start) (λ e. line_holds l h (inl e)) in
      by_entry (entry_at c.listed l.tramp.start) refl (ap is_some m.1) (false_from_ne_true (shares_at c.listed l.tramp.start) (λ e. line_holds l h (inr (inl e))))
    where
      by_entry : (o : Option StartEntry) → entry_at c.listed l.tramp.start ≡ o → is_some (moved_at c.listed l.tramp.start) ≡ true
          → shares_at c.listed l.tramp.start ≡ false → Enters c l
      by_entry None e m s = absurd (false≢true (ap (λ (z : Option StartEntry). is_some (moved_from z)) (sym e) ∙ m))
      by_entry (Some x) e m s =
          entered c l x A e (ap (λ (z : Option StartEntry). is_some (moved_from z)) (sym e) ∙ m) (ap is_marked (sym e) ∙ s)

  -- its jump, or its two jumps
  leads : (l : Line) → In (lines c.report) l → ThreadLeads c l.tramp.start l.tramp.place
  leads l h = leads_unless c l.tramp.start l.tramp.place (λ n. line_holds l h (inr (inr (inr n))))

  -- trampolines with one start have one index
  started_once : (i j : ℕ) (l m : Line) → slice_get (lines c.report) i ≡ Some l → slice_get (lines c.report) j ≡ Some m
      → l.tramp.start ≡ m.tramp.start → i ≡ j
  started_once i j l m e f same =
      let a = l.tramp.start in
      let x = eq-eqb l.tramp.start a refl in
      let y = eq-eqb m.tramp.start a (sym same) in
      elim (cases_order i j) [
        | inl k ↦ k
        | inr (inl k) ↦ absurd (line_holds l (i, e) (inr (inr (inl (counted_twice (λ (z : Line). eqb z.tramp.start a) (lines c.report) i j l m k e x f y)))))
        | inr (inr k) ↦ absurd (line_holds l (i, e) (inr (inr (inl (counted_twice (λ (z : Line). eqb z.tramp.start a) (lines c.report) j i m l k f y e x)))))
      ]

  -- each row's first trampoline is its own
  own_rows : (r : RowValue) → In c.report.rows r → IsOwn r
  own_rows r h = true_from_ne_false (is_own r.site (tramps_of r.outcome)) (λ n. rule_6 r.site (inl (inl (h.0, r, h.1, refl, inr (inr n)))))

  -- trampolines with an event and one number have one index
  numbered_once : (i j : ℕ) (l m : Line) → slice_get (lines c.report) i ≡ Some l → slice_get (lines c.report) j ≡ Some m
      → l.tramp.event ≡ true → m.tramp.event ≡ true → l.number ≡ m.number → i ≡ j
  numbered_once i j l m e f u v same =
      let n = l.number in
      let x = and_from l.tramp.event (eqb l.number n) u (eq-eqb l.number n refl) in
      let y = and_from m.tramp.event (eqb m.number n) v (eq-eqb m.number n (sym same)) in
      let few : count_by (is_numbered n) (lines c.report) ≤ 1 = number_once c.report own_rows T.1.numbers n in
      elim (cases_order i j) [
        | inl k ↦ k
        | inr (inl k) ↦ absurd (omega (arith, few, counted_twice (is_numbered n) (lines c.report) i j l m k e x f y))
        | inr (inr k) ↦ absurd (omega (arith, few, counted_twice (is_numbered n) (lines c.report) j i m l k f y e x))
      ]

  -- the code stands
  holds_code : (i : ℕ) (l : Line) (e : Enters c l) (x : ℕ) → slice_get (lines c.report) i ≡ Some l → l.tramp.place ≤ x
      → x < l.tramp.place + length (code_with c l e.fields) → HoldsCode c x (slice_index (code_with c l e.fields) (x - l.tramp.place))
  unfolding lies_in
  holds_code i l e x h lo hi = held_or_not (c.patched x) (slice_index (code_with c l e.fields) (x - l.tramp.place)) 5
      (λ n. rule_4 x (i, lies_in c i l e x h lo hi, inl n))

  -- on pages of the report
  code_on_page : (i : ℕ) (l : Line) (e : Enters c l) (x : ℕ) → slice_get (lines c.report) i ≡ Some l → l.tramp.place ≤ x
      → x < l.tramp.place + length (code_with c l e.fields) → on_page c.report x ≡ true
  code_on_page i l e x h lo hi = true_from_ne_false (on_page c.report x) (λ n. rule_4 x (i, lies_in c i l e x h lo hi, inr (inr n)))

  -- code ends where the last page does, at the latest
  code_low : (i : ℕ) (l : Line) (e : Enters c l) → slice_get (lines c.report) i ≡ Some l
      → l.tramp.place + length (code_with c l e.fields) ≤ 0x7FFF1000
  code_low i l e h = code_ends c B l (length (code_with c l e.fields)) (i, h) (λ x. code_on_page i l e x h)

  -- threads can get the events of the action
  shared : IsShared c.report.action
  shared = true_from_ne_false (is_shared c.report.action) (λ f. rule_6 c.report.private.0 (inr (refl, λ s. true≢false (sym s ∙ f))))

  -- each trampoline's number is below the number of rows
  below : AllByRecursion (λ (l : Line). l.number < length c.report.rows) (lines c.report)
  below = all_from (λ (l : Line). l.number < length c.report.rows) (lines c.report) (λ l h. number_low c.report l B h)

  -- what the events of trampolines write to is in the private range
  room : HaveRoom kind c.report.private.0 c.report.private.1 (lines c.report)
  room = elim (cases_lt c.report.private.1 (c.report.private.0 + private_len c.report.action (length c.report.rows))) [
    | inl k ↦ absurd (rule_6 c.report.private.0 (inl (inr (inr (refl, k)))))
    | inr k ↦ room_for c.report.action c.report.private.0 c.report.private.1 (length c.report.rows) (lines c.report) k below
  ]

  -- the code of a trampoline, by its entry
  code_is : (l : Line) (e : Enters c l)
      → code_to c l e.fields (e.entry.addr + e.entry.len) ≡ code_with c l e.fields
  code_is l e =
      let a = e.addr in
      let n = e.len in
      let low = e.low in
      let next : e.entry.addr + e.entry.len ≡ next_after l.tramp.start e.fields = omega (arith, a, n, low) in
      ap (code_to c l e.fields) next

  -- two jumps to a trampoline's place are two of the patched image, whose second stands at no new address
  by_two : (a x place : ℕ) → a ≡ x → ThreadLeads c x place → JumpsTo c.patched a place ⊎ ByTwoJumps R a place
  by_two a x place e (inl j) = inl (subst (λ (z : ℕ). JumpsTo c.patched z place) (sym e) j)
  by_two a x place e (inr t) = inr (record {
    second = t.second;
    there = subst (λ (z : ℕ). JumpsTo c.patched z t.second) (sym e) t.there;
    unlisted = any_found (λ (e : StartEntry). eqb e.addr t.second) c.listed ∙ t.unlisted;
    old = not_new (is_some (c.patched t.second)) (is_some (c.original t.second)) t.old;
    on = t.on;
  })
    where
      not_new : (x y : Bool) → y ≡ true → (x && not y) ≡ false
      not_new true y e = ap not e
      not_new false y e = refl

  -- the site of a trampoline is a patched one
  site_sound : (l : Line) (h : In (lines c.report) l) → IsThreadSite R (site_with c.report.action l (enters l h).entry)
  site_sound l h =
      let e = enters l h in
      let same = code_is l e in
      let code = code_to c l e.fields (e.entry.addr + e.entry.len) in
      let n : length code ≡ length (code_with c l e.fields) = ap length same in
      let low : l.tramp.place + length code ≤ 0x7FFF1000 = (let k = code_low h.0 l e h.1 in omega (arith, n, k)) in
      let cells : (k : ℕ) → k < length code → c.patched (l.tramp.place + k) ≡ Some (record { byte = slice_index code k; perms = 5 }) =
      (λ k j. let d : l.tramp.place + k - l.tramp.place ≡ k = omega arith in
      holds_code h.0 l e (l.tramp.place + k) h.1 (omega arith) (omega (arith, j, n))
      ∙ ap (λ (z : ℕ). Some (record { byte = slice_index (code_with c l e.fields) z; perms = 5 })) d
      ∙ ap (λ (z : List ℕ). Some (record { byte = slice_index z k; perms = 5 })) (sym same)) in
      record {
        listed = e.listed;
        alone = e.alone;
        fields = e.fields;
        spelled = e.spelled;
        stands = e.stands;
        len = e.len;
        form = e.form;
        size = e.size;
        displaced = e.displaced;
        jump = by_two e.entry.addr l.tramp.start l.tramp.place e.addr (leads l h);
        few = action_few c.report.action l.tramp.event B.action;
        code = loaded_fixed c.patched l.tramp.place code (omega (arith, low)) cells;
        new = λ x lo hi.
            let hi' : x < l.tramp.place + length (code_with c l e.fields) = omega (arith, hi, n) in
            new_if (c.patched x) (c.original x) (ap is_some (holds_code h.0 l e x h.1 lo hi'))
            (new_none c rule_5 x (or_right (in_private c.report x) (on_page c.report x) (code_on_page h.0 l e x h.1 lo hi')));
        low = low;
      }
    where
      new_if : (o q : Option Cell) → is_some o ≡ true → q ≡ None → (is_some o && not (is_some q)) ≡ true
      new_if o q e f = ap₂ (λ x (y : Option Cell). x && not (is_some y)) e f

  -- the site of a trampoline has the entry that is found at the start
  same_site : (s : ThreadSite) (o : Of c.report.action c.listed (lines c.report) s) → site_with c.report.action o.line (enters o.line o.in_lines).entry ≡ s
  same_site s o =
      let e : (enters o.line o.in_lines).entry ≡ o.entry = some_is (enters o.line o.in_lines).entry o.entry (sym (enters o.line o.in_lines).at ∙ o.at) in
      ap (site_with c.report.action o.line) e ∙ o.is

  -- each site is a patched one
  sites : (s : ThreadSite) → Contains R.sites s → IsThreadSite R s
  sites s k = let o = of_site c.report.action c.listed (lines c.report) s k in subst (λ (z : ThreadSite). IsThreadSite R z) (same_site s o) (site_sound o.line o.in_lines)

  -- an address of a site's code lies in the code of its trampoline
  of_code : (s : ThreadSite) (o : Of c.report.action c.listed (lines c.report) s) (h : IsThreadSite R s) (x : ℕ) → is_code_of R s h x → LiesInWith (thread_coding c.report) c o.in_lines.0 x
  of_code s o h x q =
      let l = o.line in
      let e = enters l o.in_lines in
      let site = same_site s o in
      let same : h.fields ≡ e.fields = one_standing c.original e.entry.addr h.fields e.fields h.spelled e.spelled
      (subst (λ (z : ThreadSite). Stands c.original z.entry.addr (spelling h.fields)) (sym site) h.stands) e.stands in
      let first : code_if s.event s.when c.report.private.0 s.number h.fields (next_of s) s.place
      ≡ code_to c l e.fields (e.entry.addr + e.entry.len) =
      (λ i. code_if (sym site i).event (sym site i).when c.report.private.0 (sym site i).number (same i) (next_of (sym site i)) (sym site i).place) in
      let code = first ∙ code_is l e in
      let p : s.place ≡ l.tramp.place = ap (λ (z : ThreadSite). z.place) (sym site) in
      let n = ap length code in
      lies_in c o.in_lines.0 l e x o.in_lines.1 (omega (arith, q.0, p)) (omega (arith, q.1, p, n))

  -- codes of sites don't meet
  apart : (s t : ThreadSite) (h : Contains R.sites s) (k : Contains R.sites t) (x : ℕ) → is_code_of R s (sites s h) x → is_code_of R t (sites t k) x → s ≡ t
  apart s t h k x a b =
      let o = of_site c.report.action c.listed (lines c.report) s h in
      let p = of_site c.report.action c.listed (lines c.report) t k in
      elim (cases_eq o.in_lines.0 p.in_lines.0) [
        | inl e ↦ one_line c.report.action c.listed (lines c.report) s t o p e
        | inr n ↦ absurd (rule_4 x (o.in_lines.0, of_code s o (sites s h) x a, inr (inl (p.in_lines.0, n, of_code t p (sites t k) x b))))
      ]

  -- what is in no site's instruction stays
  stays : (x : ℕ) → is_some (c.original x) ≡ true → list_any (λ (s : ThreadSite). leb s.entry.addr x && ltb x (s.entry.addr + s.entry.len)) R.sites ≡ false
      → c.patched x ≡ c.original x
  stays x h n =
      let w : is_written c.report x ≡ false = false_from_ne_true (is_written c.report x) (λ w. true≢false (sym (owned w) ∙ n)) in
      same_unless (c.original x) (c.patched x) h (λ d. rule_1 x (ap (differs (c.original x) (c.patched x)) w ∙ d))
    where
      owned : is_written c.report x ≡ true → list_any (λ (s : ThreadSite). leb s.entry.addr x && ltb x (s.entry.addr + s.entry.len)) R.sites ≡ true
      owned w =
          let o = owned_at c rule_2 x w in
          let at : entry_at c.listed o.line.tramp.start ≡ Some o.entry = ap (entry_at c.listed) o.start ∙ entry_here c.original c.listed o.entry A o.in_list in
          owned_in c.report.action c.listed (lines c.report) o.line o.entry x o.in_lines at o.above o.below

  -- a ring is in the private range, and one more than each number fits a slot
  ring_sound : (n : ℕ) → R.ring ≡ Some n → IsRingSound R n
  ring_sound n v =
      let keeps = keeps_of kind n v in
      let high : slot_at c.report.private.0 n ≤ c.report.private.1 = subst (λ (z : Kind). HaveRoom z c.report.private.0 c.report.private.1 (lines c.report)) keeps room in
      let e = B.end in
      let few = B.sites in record {
        size = ring_shared c.report.action n shared keeps;
        zeros = λ x a b. zero_at c rule_5 x (omega (arith, a)) (omega (arith, b, high));
        low = omega (arith, high, e);
        numbers = λ s h u. let o = of_site c.report.action c.listed (lines c.report) s h in
            let k : o.line.number < length c.report.rows = all_in _ (lines c.report) o.line below o.in_lines in
            subst (λ (z : ThreadSite). z.number + 1 < 2 ^ 31) o.is (omega (arith, k, few));
        always = λ s h u. let o = of_site c.report.action c.listed (lines c.report) s h in sym (ap (λ (z : ThreadSite). z.when) o.is) ∙ ring_always c.report.action o.line.tramp.event n keeps;
      }

  -- the patched image is sound for threads
  pub case_sound : IsThreadSound R
  case_sound = record {
    stays = stays;
    sites = sites;
    once = once c.report.action c.listed (lines c.report) started_once;
    numbers = numbers c.report.action c.listed (lines c.report) numbered_once;
    apart = apart;
    kinds = kinds c.report.action c.listed (lines c.report);
    rings = λ s h k v. ap ring_of (kind_is c.report.action c.listed (lines c.report) s h k v);
    marks = λ s k z v x a b. let h = room_of c.report.action c.listed (lines c.report) c.report.private.0 c.report.private.1 room s k z v in let m = mark_in z c.report.private.0 s.number in zero_at c rule_5 x (omega (arith, a, m)) (omega (arith, b, h));
    low = λ s k z v. let h = room_of c.report.action c.listed (lines c.report) c.report.private.0 c.report.private.1 room s k z v in let e = B.end in omega (arith, h, e);
    ring = ring_sound;
  }

  -- the entry points are equal
  pub entry_same : c.patched_entry ≡ c.entry
  entry_same = elim (cases_eq c.patched_entry c.entry) [
    | inl e ↦ e
    | inr n ↦ absurd (rule_6 c.patched_entry (inl (inr (inl (refl, n)))))
  ]

-- where no rule fails, the patched image is followed
pub thread_case_is_followed : ThreadCaseIsFollowed
thread_case_is_followed c A T S =
    let sound = case_sound c A T S in
    let r = threads_followed (threading_of c) A sound in
    let d = threads_followed_with (threading_of c) A sound in
    record { entry = entry_same c A T S; sound = sound; followed = r.0; out = r.1; followed_with = d.0; out_with = d.1 }
