-- What the turns give can be built, and with the codes of its events it is what is planned.
use Rattle.std.proofs.Common.{◌≡◌, ℕ, ◌+◌, ◌<◌, ◌≤◌, Bool, true, cond, List, [], ◌∷◌, map, length, Option, Some, None, refl, sym, ap, ◌∙◌, subst, arith}
use Rattle.std.specs.Option.{is_some, option_map}
use Rattle.std.specs.List.{AllByRecursion, flat_map}
use Rattle.pun_base.specs.declared.range.Range.{Range}
use Rattle.pun_base.specs.declared.tramp.Tramp.{Tramp}
use Rattle.pun_base.specs.Limits.{most_sites}
use Rattle.insn_form.specs.declared.form.Insn.{Insn}
use Rattle.insn_form.specs.Displacing.{displaced_len, falls}
use Rattle.elf_read.specs.Image.{image_of}
use Rattle.elf_emit.specs.declared.built.Built.{Built}
use Rattle.elf_emit.proofs.WrittenTable.{all_append}
use Rattle.elf_emit.proofs.StayingSegments.{all_map}
use Rattle.patch_report.specs.declared.row.ReportRow.{ReportRow}
use Rattle.patch_report.specs.Values.{RowValue}
use Rattle.patch_report.proofs.ListPlaces.{all_in, all_from}
use Rattle.start_entries.specs.declared.entry.StartEntry.{StartEntry}
use Rattle.start_entries.specs.Finding.{entry_at}
use Rattle.start_list.specs.Forms.{work_by}
use Rattle.start_entries.specs.Standing.{AreEntries}
use Rattle.sound_images.specs.Reports.{Line, row_lines, tramps_of}
use Rattle.sound_images.specs.Rules.{HasCode, displaced_by, displaced_from, displaced_at}
use Rattle.site_turns.specs.declared.building.EventSetting.{EventSetting}
use Rattle.site_turns.specs.Choices.{Choice, row_of}
use Rattle.site_turns.specs.Modes.{TurnRules, event_rules}
use Rattle.site_turns.specs.Folded.{IsFolded, IsNewlyTaken, IsLed, in_code, size_from, code_size, done_by}
use Rattle.site_turns.specs.Laws.{SchemeLeads, rows_of}
use Rattle.site_turns.specs.Loaded.{case_of}
use Rattle.site_turns.specs.Planning.{Request, Turns, AreTurnsUnder, IsTurned, IsPlanned, scene_under, end_under, scene_in, end_of, lines_of, AreCodes}
use Rattle.site_turns.specs.States.{Scene}
use Rattle.site_turns.specs.Turned.{events_case, IsEventSetting, CanBuild}
use Rattle.site_turns.proofs.LoadedJobs.{five_lead}
use Rattle.site_turns.proofs.RequestScene.{sites_long, folded}
use Rattle.site_turns.proofs.BuiltCodes.{codes_by, case_same}
use Rattle.site_turns.proofs.CodeEnds.{line_fits}
use Rattle.site_turns.proofs.CodeSizes.{something}
use Rattle.site_turns.proofs.TurnFold.{turns_tell}

-- trampolines of a row have its number
row_small : (n m : ℕ) (ts : List Tramp) → n < m
    → AllByRecursion (λ (l : Line). l.number < m) (map (λ (t : Tramp). record { number = n; tramp = t }) ts)
row_small n m [] h = tt
row_small n m (t ∷ ts) h = (h, row_small n m ts h)

-- numbers are below the number of sites
pub numbers_below : (es : List StartEntry) (xs : List Choice) → AllByRecursion (λ (l : Line). l.number < length es) (flat_map row_lines (rows_of es xs))
numbers_below [] xs = tt
numbers_below (e ∷ es) [] = tt
numbers_below (e ∷ es) (x ∷ xs) = all_append (λ (l : Line). l.number < length (e ∷ es)) (row_lines (row_of e (length es) x)) (flat_map row_lines (rows_of es xs))
    (row_small (length es) (length (e ∷ es)) (tramps_of (row_of e (length es) x).outcome) (omega arith))
    (all_map (λ (l : Line). l.number < length es) (λ (l : Line). l.number < length (e ∷ es)) (flat_map row_lines (rows_of es xs)) (λ l h. omega (arith, h)) (numbers_below es xs))

-- what can be displaced has a size
mapped_twice : (f g : ℕ → ℕ) (o : Option ℕ) → is_some o ≡ true → is_some (option_map f (option_map g o)) ≡ true
mapped_twice f g None h = h
mapped_twice f g (Some n) h = refl

-- where an instruction can be displaced, the length of its work is known
by_form : (f : ℕ → ℕ) (o : Option Insn) (len a : ℕ) → is_some (displaced_by o len a) ≡ true → is_some (option_map f (work_by o len a)) ≡ true
by_form f None len a h = h
by_form f (Some i) len a h = mapped_twice f (λ n. n + cond (falls i) 5 0) (displaced_len i len a) h

-- where an instruction can be displaced, its code has a size, with an event and without
pub sized_by : (size : ℕ) (event : Bool) (o : Option StartEntry) → is_some (displaced_from o) ≡ true → is_some (size_from size event o) ≡ true
sized_by size event None h = h
sized_by size event (Some e) h = by_form (λ n. cond event size 0 + n) e.form e.len e.addr h

-- a trampoline whose code can be made: its number, its instruction, its size and its place are in bounds
pub record IsReady (g : Scene) (l : Line) : Type 0 where
  pub number : l.number < most_sites
  pub displaced : is_some (displaced_at g.entries l.tramp.start) ≡ true
  pub size : ℕ
  pub sized : code_size g l ≡ Some size
  pub low : l.tramp.place < 0x7FFF0000

-- each trampoline of turns by rules whose schemes' plans lead has a code that can be made
pub all_ready : (r : TurnRules) → AllByRecursion SchemeLeads r.schemes → (q : Request) (t : Turns) → AreEntries (image_of q.file) q.listed
    → length q.sites ≤ most_sites → AreTurnsUnder r q t → AllByRecursion (IsReady (scene_under r q t)) (done_by (end_under r q t)).lines
all_ready r lead q t A few h =
    let g : Scene = scene_under r q t in
    let d = done_by (end_under r q t) in
    let F : IsFolded g (end_under r q t) = folded r q t h lead A in
    let long : length t.entries ≡ length q.sites = sites_long t.entries q.sites h.sites in
    let numbers : AllByRecursion (λ (l : Line). l.number < length t.entries) d.lines =
    subst (λ (rows : List RowValue). AllByRecursion (λ (l : Line). l.number < length t.entries) (flat_map row_lines rows))
    (sym (turns_tell g r.schemes t.entries t.choices h.turns.turns).0) (numbers_below t.entries t.choices) in
    all_from (IsReady g) d.lines (λ l i.
    let n : l.number < length t.entries = all_in (λ (l : Line). l.number < length t.entries) d.lines l numbers i in
    let led : IsLed g d l = all_in (IsLed g d) d.lines l F.kept.led i in
    let taken = all_in (λ (l : Line). (x : ℕ) → in_code g x l ≡ true → IsNewlyTaken g d x) d.lines l F.kept.taken i in
    let s = something (code_size g l) (sized_by g.event_size l.tramp.event (entry_at g.entries l.tramp.start) led.displaced) in
    let fits = line_fits g d A l taken s.0 s.1 in
    record { number = omega (arith, n, long, few); displaced = led.displaced; size = s.0; sized = s.1; low = omega (arith, fits.0, fits.1) })

-- the code of an action's events can be made for all rows that were turned
pub can_build : (s : EventSetting) (q : Request) (t : Turns) (private : Range) (rows : List ReportRow) → AreEntries (image_of q.file) q.listed
    → length q.sites ≤ most_sites → s.starts.now ≡ q.listed → s.action ≡ q.action → IsTurned (event_rules q.action) q t private rows → IsEventSetting s
    → AllByRecursion (CanBuild s) (lines_of rows)
can_build s q t private rows A few es action h set =
    subst (λ (rows : List RowValue). AllByRecursion (CanBuild s) (flat_map row_lines rows)) (sym h.rows)
    (all_map (IsReady (scene_under (event_rules q.action) q t)) (CanBuild s) (done_by (end_under (event_rules q.action) q t)).lines (λ l k. record {
      set = set;
      number = k.number;
      can = sized_by _ l.tramp.event (entry_at s.starts.now l.tramp.start)
          (ap (λ (xs : List StartEntry). is_some (displaced_at xs l.tramp.start)) es ∙ k.displaced);
      place = k.low;
    }) (all_ready (event_rules q.action) five_lead q t A few h.turns))

-- rows that were turned, with the codes of their events, are what is planned
pub planned : (s : EventSetting) (q : Request) (t : Turns) (rows : List ReportRow) (built : List Built) → image_of s.elf.now.bytes ≡ image_of q.file
    → s.starts.now ≡ q.listed → s.action ≡ q.action → IsTurned (event_rules q.action) q t s.private rows
    → AreCodes (events_case s) (lines_of rows) built → IsPlanned q t (record { private = s.private; rows = rows; built = built })
planned s q t rows built image es action h codes = record {
  turns = h.turns;
  private = h.private;
  rows = h.rows;
  few = h.few;
  built = codes_by (HasCode (events_case s)) (HasCode (case_of (scene_in q t) (end_of q t) [] (image_of q.file) 0)) (flat_map row_lines (end_of q t).rows) built
      (λ l code k. case_same (events_case s) (case_of (scene_in q t) (end_of q t) [] (image_of q.file) 0) l code image es action (λ i. ((h.private i).lo, (h.private i).hi)) k)
      (subst (λ (rows : List RowValue). AreCodes (events_case s) (flat_map row_lines rows) built) h.rows codes);
}
