-- What holds everywhere where no rule fails.
use Rattle.std.proofs.Common.{◌≡◌, ◌≢◌, inl, inr, ℕ, ◌+◌, ◌-◌, ◌<◌, ◌≤◌, true, false, eqb, List, length, slice_index, Option, Some, None, refl, sym, ap, ◌∙◌, subst, arith}
use Rattle.std.specs.Prelude.{slice_get}
use Rattle.std.specs.Option.{is_some}
use Rattle.std.specs.List.{AllByRecursion}
use Rattle.std.proofs.lemmas.Bool.{cases_eq, cases_lt, or_right, eqb-true, eq-eqb, true_from_ne_false}
use Rattle.pun_base.specs.Memory.{Bytes}
use Rattle.cpu_state.specs.Fixed.{IsFixed}
use Rattle.length_decode.specs.Spelling.{Fields, IsInstruction, spelling}
use Rattle.insn_form.specs.declared.form.Insn.{Insn}
use Rattle.insn_form.specs.Instruction.{insn_of}
use Rattle.insn_form.specs.Displacing.{displaced_len}
use Rattle.relocate_insn.proofs.FixedCode.{fixed_stands}
use Rattle.start_entries.specs.declared.entry.StartEntry.{StartEntry}
use Rattle.start_entries.specs.Finding.{entry_at}
use Rattle.start_entries.specs.Leading.{Leads}
use Rattle.start_entries.specs.Standing.{IsEntry, AreEntries}
use Rattle.patch_report.specs.Values.{RowValue}
use Rattle.patch_report.specs.Bounds.{IsBounded}
use Rattle.patch_report.proofs.ListPlaces.{In, some_is, contains_at, counted_twice, finds, all_from}
use Rattle.sound_images.specs.Reports.{Line, lines, is_written, in_private, on_page, private_len, tramps_of}
use Rattle.sound_images.specs.Rules.{Case, coding_of, differs, displaced_by, displaced_from, displaced_at, LiesIn, HoldsCode, is_own, ByteFails, WriteFails, EntryFails, CodeFails, RangeFails, SiteFails, IsSound}
use Rattle.sound_images.proofs.LoadedCode.{stands_fixed, loaded_fixed}
use Rattle.sound_images.proofs.LeadingBytes.{leads_or_not}
use Rattle.sound_images.proofs.HeldRules.{code_low, held_or_not, new_none, owned_at, same_unless, some_unless, zero_at}
pub use Rattle.sound_images.proofs.HeldRules.{Owned, none_unless, only_one}

-- the instruction that stands at an address of an image
pub record Own (m : Bytes) (a : ℕ) (f : Fields) : Type 0 where
  pub spelled : IsInstruction f
  pub fixed : IsFixed m a (spelling f)
  pub low : a + length (spelling f) ≤ 0x7FFF0000

-- the code of a line whose instruction has these fields
abbrev pub line_code : Case → Line → Fields → List ℕ
line_code c l f = coding_of c.report l f

-- a line's start: an instruction that can be displaced, and that leads to the place
pub record Enters (c : Case) (l : Line) : Type 0 where
  pub fields : Fields
  pub own : Own c.original l.tramp.start fields
  pub size : ℕ
  pub displaced : displaced_len (insn_of fields) (length (spelling fields)) l.tramp.start ≡ Some size
  pub listed : is_some (displaced_at c.listed l.tramp.start) ≡ true
  pub leads : Leads c.patched c.listed l.tramp.start l.tramp.place

-- what holds of a sound image: of its entry point, kept and written bytes, starts, code, private range and rows
pub record Holds (c : Case) : Type 0 where
  pub entry : c.patched_entry ≡ c.entry
  pub kept : (x : ℕ) → is_some (c.original x) ≡ true → is_written c.report x ≡ false → c.patched x ≡ c.original x
  pub owned : (x : ℕ) → is_written c.report x ≡ true → Owned c x
  pub enters : (l : Line) → In (lines c.report) l → Enters c l
  pub once : (i j : ℕ) (l m : Line) → i ≢ j → slice_get (lines c.report) i ≡ Some l → slice_get (lines c.report) j ≡ Some m
      → l.tramp.start ≢ m.tramp.start
  pub code : (l : Line) → In (lines c.report) l → (e : Enters c l) → IsFixed c.patched l.tramp.place (line_code c l e.fields)
  pub paged : (l : Line) → In (lines c.report) l → (e : Enters c l) → (x : ℕ) → l.tramp.place ≤ x
      → x < l.tramp.place + length (line_code c l e.fields) → c.original x ≡ None
  pub apart : (i j : ℕ) (l m : Line) → i ≢ j → slice_get (lines c.report) i ≡ Some l → slice_get (lines c.report) j ≡ Some m
      → (e : Enters c l) (f : Enters c m)
      → (x : ℕ) → l.tramp.place ≤ x → x < l.tramp.place + length (line_code c l e.fields) → m.tramp.place ≤ x
      → x < m.tramp.place + length (line_code c m f.fields) → ⊥
  pub zeros : (x : ℕ) → c.report.private.0 ≤ x → x < c.report.private.1
      → (c.patched x ≡ Some (record { byte = 0; perms = 6 })) × (c.original x ≡ None)
  pub own : AllByRecursion (λ (r : RowValue). is_own r.site (tramps_of r.outcome) ≡ true) c.report.rows
  pub room : c.report.private.0 + private_len c.report.action (length c.report.rows) ≤ c.report.private.1

-- an entry whose instruction can be displaced
record Displaced (es : List StartEntry) (a : ℕ) : Type 0 where
  entry : StartEntry
  form : Insn
  size : ℕ
  at : entry_at es a ≡ Some entry
  known : entry.form ≡ Some form
  displaced : displaced_len form entry.len entry.addr ≡ Some size

module _ (es : List StartEntry) (a : ℕ) where
  -- the table of lengths has one for it
  by_size : (e : StartEntry) (i : Insn) (o : Option ℕ) → entry_at es a ≡ Some e → e.form ≡ Some i → displaced_len i e.len e.addr ≡ o
      → (o ≡ None → ⊥) → Displaced es a
  by_size e i None h k f n = absurd (n refl)
  by_size e i (Some s) h k f n = record { entry = e; form = i; size = s; at = h; known = k; displaced = f }

  -- an entry that can be displaced has a known form
  by_form : (e : StartEntry) (o : Option Insn) → entry_at es a ≡ Some e → e.form ≡ o → (displaced_by o e.len e.addr ≡ None → ⊥)
      → Displaced es a
  by_form e None h k n = absurd (n refl)
  by_form e (Some i) h k n = by_size e i (displaced_len i e.len e.addr) h k refl n

  -- an entry is there
  by_entry : (o : Option StartEntry) → entry_at es a ≡ o → (displaced_from o ≡ None → ⊥) → Displaced es a
  by_entry None h n = absurd (n refl)
  by_entry (Some e) h n = by_form e e.form h refl n

-- an entry of known form is spelled by the fields of its instruction, which stands there
pub entry_own : (m : Bytes) (e : StartEntry) → IsEntry m e → is_some e.form ≡ true
    → (f : Fields) × Own m e.addr f × (length (spelling f) ≡ e.len) × (e.form ≡ Some (insn_of f))
entry_own m e i k =
    let q = i.known k in (
      q.fields,
      record {
        spelled = q.spelled;
        fixed = stands_fixed m e.addr (spelling q.fields) (omega (arith, i.low, q.len))
            (λ x l h. (i.executed x l (omega (arith, q.len))).1) q.stands;
        low = omega (arith, i.low, q.len);
      },
      q.len,
      q.form,
    )

module _ (c : Case) (A : AreEntries c.original c.listed) (B : IsBounded c.report) (S : IsSound c) where
  -- the rules, one by one
  rule_1 : (x : ℕ) → ByteFails c x → ⊥
  rule_1 x h = S 1 x (inl (refl, h))

  -- rule 2 fails nowhere
  rule_2 : (x : ℕ) → WriteFails c x → ⊥
  rule_2 x h = S 2 x (inr (inl (refl, h)))

  -- rule 3 fails nowhere
  rule_3 : (x : ℕ) → EntryFails c x → ⊥
  rule_3 x h = S 3 x (inr (inr (inl (refl, h))))

  -- rule 4 fails nowhere
  rule_4 : (x : ℕ) → CodeFails c x → ⊥
  rule_4 x h = S 4 x (inr (inr (inr (inl (refl, h)))))

  -- rule 5 fails nowhere
  rule_5 : (x : ℕ) → RangeFails c x → ⊥
  rule_5 x h = S 5 x (inr (inr (inr (inr (inl (refl, h))))))

  -- rule 6 fails nowhere
  rule_6 : (x : ℕ) → SiteFails c x → ⊥
  rule_6 x h = S 6 x (inr (inr (inr (inr (inr (refl, h))))))

  -- the instruction at a line's start can be displaced
  displaced_line : (l : Line) → In (lines c.report) l → Displaced c.listed l.tramp.start
  displaced_line l h = by_entry c.listed l.tramp.start (entry_at c.listed l.tramp.start) refl
      (λ e. rule_3 l.tramp.start (l, contains_at (lines c.report) h.0 l h.1, refl, inl e))

  -- the instruction at a line's start can be displaced, and leads to the place
  enters_at : (l : Line) → In (lines c.report) l → Enters c l
  enters_at l h =
      let d = displaced_line l h in
      let f = finds (λ (e : StartEntry). eqb e.addr l.tramp.start) c.listed d.entry d.at in
      let at : d.entry.addr ≡ l.tramp.start = eqb-true d.entry.addr l.tramp.start f.passes in
      let o = entry_own c.original d.entry (A.each d.entry (contains_at c.listed f.place d.entry f.at)) (ap is_some d.known) in
      let form : d.form ≡ insn_of o.0 = some_is d.form (insn_of o.0) (sym d.known ∙ o.3) in
      record {
        fields = o.0;
        own = subst (λ (z : ℕ). Own c.original z o.0) at o.1;
        size = d.size;
        displaced = (λ i. displaced_len (sym form i) (o.2 i) (sym at i)) ∙ d.displaced;
        listed = ap is_some (some_unless (displaced_at c.listed l.tramp.start) (λ e. rule_3 l.tramp.start
            (l, contains_at (lines c.report) h.0 l h.1, refl, inl e))).1;
        leads = elim (leads_or_not c.patched c.listed l.tramp.start l.tramp.place) [
          | inl y ↦ y
          | inr n ↦ absurd (rule_3 l.tramp.start (l, contains_at (lines c.report) h.0 l h.1, refl, inr (inr n)))
        ];
      }

  -- a start has one line
  started_once : (i j : ℕ) (l m : Line) → i < j → slice_get (lines c.report) i ≡ Some l → slice_get (lines c.report) j ≡ Some m
      → l.tramp.start ≡ m.tramp.start → ⊥
  started_once i j l m k e f same =
      let twice = counted_twice (λ (x : Line). eqb x.tramp.start l.tramp.start) (lines c.report) i j l m k e
      (eq-eqb l.tramp.start l.tramp.start refl) f (eq-eqb m.tramp.start l.tramp.start (sym same)) in
      rule_3 l.tramp.start (l, contains_at (lines c.report) i l e, refl, inr (inl twice))

  -- lines at different places of the report start apart
  one_start : (i j : ℕ) (l m : Line) → i ≢ j → slice_get (lines c.report) i ≡ Some l → slice_get (lines c.report) j ≡ Some m
      → l.tramp.start ≢ m.tramp.start
  one_start i j l m n e f same = elim (cases_lt i j) [
    | inl k ↦ started_once i j l m k e f same
    | inr k ↦ started_once j i m l (omega (arith, n, k)) f e (sym same)
  ]

  -- rule 4
  lies_in : (i : ℕ) (l : Line) (e : Enters c l) (x : ℕ) → slice_get (lines c.report) i ≡ Some l → l.tramp.place ≤ x
      → x < l.tramp.place + length (line_code c l e.fields) → LiesIn c i x
  lies_in i l e x h lo hi = record {
    line = l;
    listed = h;
    code = line_code c l e.fields;
    has = record {
      fields = e.fields;
      spelled = e.own.spelled;
      stands = fixed_stands c.original l.tramp.start
          (spelling e.fields) e.own.fixed;
      displaced = e.listed;
      is = refl;
    };
    low = lo;
    high = hi;
  }

  -- the code stands
  holds_code : (i : ℕ) (l : Line) (e : Enters c l) (x : ℕ) → slice_get (lines c.report) i ≡ Some l → l.tramp.place ≤ x
      → x < l.tramp.place + length (line_code c l e.fields) → HoldsCode c x (slice_index (line_code c l e.fields) (x - l.tramp.place))
  unfolding lies_in
  holds_code i l e x h lo hi = held_or_not (c.patched x) (slice_index (line_code c l e.fields) (x - l.tramp.place)) 5
      (λ n. rule_4 x (i, lies_in i l e x h lo hi, inl n))

  -- on pages of the report
  code_on_page : (i : ℕ) (l : Line) (e : Enters c l) (x : ℕ) → slice_get (lines c.report) i ≡ Some l → l.tramp.place ≤ x
      → x < l.tramp.place + length (line_code c l e.fields) → on_page c.report x ≡ true
  code_on_page i l e x h lo hi = true_from_ne_false (on_page c.report x) (λ n. rule_4 x (i, lies_in i l e x h lo hi, inr (inr n)))

  -- the code of a line is fixed code
  code_fixed : (l : Line) → In (lines c.report) l → (e : Enters c l) → IsFixed c.patched l.tramp.place (line_code c l e.fields)
  code_fixed l h e =
      let low = code_low c B l (length (line_code c l e.fields)) h (λ x lo hi. code_on_page h.0 l e x h.1 lo hi) in
      loaded_fixed c.patched l.tramp.place (line_code c l e.fields) (omega (arith, low)) (λ k j.
      let d : l.tramp.place + k - l.tramp.place ≡ k = omega arith in
      holds_code h.0 l e (l.tramp.place + k) h.1 (omega arith) (omega (arith, j))
      ∙ ap (λ (z : ℕ). Some (record { byte = slice_index (line_code c l e.fields) z; perms = 5 })) d)

  -- codes don't meet
  codes_apart : (i j : ℕ) (l m : Line) → i ≢ j → slice_get (lines c.report) i ≡ Some l → slice_get (lines c.report) j ≡ Some m
      → (e : Enters c l) (f : Enters c m)
      → (x : ℕ) → l.tramp.place ≤ x → x < l.tramp.place + length (line_code c l e.fields) → m.tramp.place ≤ x
      → x < m.tramp.place + length (line_code c m f.fields) → ⊥
  codes_apart i j l m n h k e f x a b d g = rule_4 x (i, lies_in i l e x h a b, inr (inl (j, n, lies_in j m f x k d g)))

  -- the original has no byte there
  code_none : (l : Line) → In (lines c.report) l → (e : Enters c l) → (x : ℕ) → l.tramp.place ≤ x
      → x < l.tramp.place + length (line_code c l e.fields) → c.original x ≡ None
  code_none l h e x lo hi = new_none c rule_5 x (or_right (in_private c.report x) (on_page c.report x) (code_on_page h.0 l e x h.1 lo hi))

  -- rule 6
  rows_own : AllByRecursion (λ (r : RowValue). is_own r.site (tramps_of r.outcome) ≡ true) c.report.rows
  rows_own = all_from (λ (r : RowValue). is_own r.site (tramps_of r.outcome) ≡ true) c.report.rows
      (λ r h. true_from_ne_false (is_own r.site (tramps_of r.outcome)) (λ n. rule_6 r.site (inl (h.0, r, h.1, refl, inr (inr n)))))

  -- the entry points are equal
  entry_same : c.patched_entry ≡ c.entry
  entry_same = elim (cases_eq c.patched_entry c.entry) [
    | inl e ↦ e
    | inr n ↦ absurd (rule_6 c.patched_entry (inr (inl (refl, n))))
  ]

  -- the private range is long enough
  room_enough : c.report.private.0 + private_len c.report.action (length c.report.rows) ≤ c.report.private.1
  room_enough = elim (cases_lt c.report.private.1 (c.report.private.0 + private_len c.report.action (length c.report.rows))) [
    | inl k ↦ absurd (rule_6 c.report.private.0 (inr (inr (refl, k))))
    | inr k ↦ k
  ]

  -- a sound image has all these facts
  pub holds : Holds c
  holds = record {
    entry = entry_same;
    kept = λ x e w. same_unless (c.original x) (c.patched x) e (λ d. rule_1 x (ap (differs (c.original x) (c.patched x)) w ∙ d));
    owned = owned_at c rule_2;
    enters = enters_at;
    once = one_start;
    code = code_fixed;
    paged = code_none;
    apart = codes_apart;
    zeros = zero_at c rule_5;
    own = rows_own;
    room = room_enough;
  }
