-- Lines that begin a report can be completed to one.
use Rattle.std.proofs.Common.{◌≡◌, ℕ, zero, suc, ◌+◌, ◌<◌, ◌≤◌, true, List, [], ◌∷◌, ◌++◌, length, Option, Some, None, refl, ap, ◌∙◌, arith, length-append}
use Rattle.std.specs.Prelude.{option_and_then}
use Rattle.std.specs.List.{AllByRecursion}
use Rattle.hex.specs.Hex.{IsBytes}
use Rattle.pun_base.specs.declared.action.Action.TheVariants.{Cover}
use Rattle.pun_base.specs.declared.scheme.Scheme.{Scheme}
use Rattle.pun_base.specs.declared.tramp.Tramp.{Tramp}
use Rattle.pun_base.specs.declared.pun.Pun.{Pun}
use Rattle.pun_base.specs.Limits.{most_sites}
use Rattle.patch_report.specs.declared.origin.Origin.{Origin}
use Rattle.patch_report.specs.declared.origin.Version.TheVariants.{One}
use Rattle.patch_report.specs.declared.line.Line.{Line}
use Rattle.patch_report.specs.declared.line.Line.TheVariants as line
use Rattle.patch_report.specs.declared.line.Mark.TheVariants as mark
use Rattle.patch_report.specs.Values.{ReportValue, RowValue, Unplanned, patched, left, WriteValue}
use Rattle.patch_report.specs.Spelling.{write_line}
use Rattle.patch_report.specs.Grammar.{IsLine, PlanCounts, tramp_count}
use Rattle.patch_report.specs.Reading.{pun_of, write_of}
use Rattle.patch_report.proofs.LineAutomaton.{Head, Turn, State, fresh, versioned, begun, acted, ranged, rowing, tramping, writing, punning, paging, done, plan, rows_with, report, turn, step, Holds, RowsHold, TurnHolds}
use Rattle.patch_report.proofs.LinesSoFar.{rows_more}
use Rattle.patch_report.proofs.AcceptedLines.{run, onward, puns_end, writes_end, if_ended, site_due, tramps_full, tramps_due, write_more}
use Rattle.patch_report.proofs.UnusedSites.{IsUnused, unused}

-- Lines that end a report.
pub record Completion (s : State) : Type 0 where
  pub lines : List Line
  pub all : AllByRecursion IsLine lines
  pub report : ReportValue
  pub runs : run s lines ≡ Some (done report)

-- Lines that end a report, the first of which is a site's or the last one.
pub record Closing (s : State) : Type 0 where
  pub first : Line
  pub later : List Line
  pub all : AllByRecursion IsLine (first ∷ later)
  pub report : ReportValue
  pub runs : run s (first ∷ later) ≡ Some (done report)
  pub no_write : write_of first ≡ None
  pub no_pun : pun_of first ≡ None

closed : (s : State) → Closing s → Completion s
closed s c = record { lines = c.first ∷ c.later; all = c.all; report = c.report; runs = c.runs }

-- One line more in front.
before : (s u : State) (x : Line) → IsLine x → step s x ≡ Some u → Completion u → Completion s
before s u x h e c = record {
  lines = x ∷ c.lines;
  all = (h, c.all);
  report = c.report;
  runs = onward s u (done c.report) x c.lines e c.runs;
}

end_line : IsLine line.End
end_line = record { holds = refl; fits = tt }

-- Rows that are due have no plan, at sites that aren't used.
rows_close : (due : ℕ) (h : Head) (rows : List RowValue) → RowsHold h rows due → Closing (rowing h rows due)
rows_close zero h rows k = record {
  first = line.End;
  later = [];
  all = (end_line, tt);
  report = report h rows [];
  runs = refl;
  no_write = refl;
  no_pun = refl;
}
rows_close (suc n) h rows k =
    let u : IsUnused 0 (length rows) rows = unused rows in
    let t : Turn = turn h rows n u.site in
    let c : Closing (rowing h (rows_with t (left Unplanned)) n) =
    rows_close n h (rows_with t (left Unplanned)) (rows_more t (left Unplanned) (record { before = k; new = u.new }) refl) in
    let room : length rows + suc n ≤ most_sites = k.room in
    let within : u.site ≤ 0 + length rows = u.within in
    record {
      first = line.Site u.site n mark.NoPlan;
      later = c.first ∷ c.later;
      all = (record { holds = refl; fits = (omega arith, omega arith) }, c.all);
      report = c.report;
      runs = onward (rowing h rows (suc n)) (rowing h (rows_with t (left Unplanned)) n) (done c.report) (line.Site u.site n mark.NoPlan)
          (c.first ∷ c.later)
          (site_due h rows n u.site n mark.NoPlan refl u.new refl) c.runs;
      no_write = refl;
      no_pun = refl;
    }

-- A complete plan.
plan_close : (t : Turn) (s : Scheme) (ts : List Tramp) (ws : List WriteValue) (ps : List Pun) → TurnHolds t → PlanCounts (plan s ts ws ps)
    → Closing (punning t s ts ws ps)
plan_close t s ts ws ps h c =
    let k : Closing (rowing t.head (rows_with t (patched (plan s ts ws ps))) t.due) =
    rows_close t.due t.head (rows_with t (patched (plan s ts ws ps))) (rows_more t (patched (plan s ts ws ps)) h c) in
    record {
      first = k.first;
      later = k.later;
      all = k.all;
      report = k.report;
      runs = ap (option_and_then (λ (w : State). run w k.later))
          (puns_end t s ts ws ps k.first (if_ended (length ps) (pun_of k.first) k.no_pun)) ∙ k.runs;
      no_write = k.no_write;
      no_pun = k.no_pun;
    }

written : (t : Turn) (s : Scheme) (ts : List Tramp) (ws : List WriteValue) → Holds (writing t s ts ws) → 0 < length ws
    → Completion (writing t s ts ws)
written t s ts ws h some =
    let k : Closing (punning t s ts ws []) = plan_close t s ts ws [] h.0
    (record { tramps = h.1; least = omega arith; writes = h.2; puns = omega arith }) in
    record {
      lines = k.first ∷ k.later;
      all = k.all;
      report = k.report;
      runs = ap (option_and_then (λ (w : State). run w k.later))
          (writes_end t s ts ws k.first some (if_ended (length ws) (write_of k.first) k.no_write)) ∙ k.runs;
    }

one_byte : IsBytes (0 ∷ [])
one_byte zero = omega arith
one_byte (suc i) = omega arith

a_write : WriteValue
a_write = record { addr = 0; was = 0 ∷ []; now = 0 ∷ [] }

write_holds : IsLine (write_line a_write)
unfolding a_write
write_holds = record { holds = refl; fits = (omega arith, one_byte, one_byte) }

unwritten : (t : Turn) (s : Scheme) (ts : List Tramp) → TurnHolds t → length ts ≡ tramp_count s → Completion (writing t s ts [])
unwritten t s ts h e =
    before (writing t s ts []) (writing t s ts (a_write ∷ [])) (write_line a_write) write_holds
    (write_more t s ts [] (write_line a_write) a_write (omega arith) refl)
    (written t s ts (a_write ∷ []) (h, e, omega arith) (omega arith))

writes_close : (t : Turn) (s : Scheme) (ts : List Tramp) (ws : List WriteValue) → Holds (writing t s ts ws) → Completion (writing t s ts ws)
writes_close t s ts [] h = unwritten t s ts h.0 h.1
writes_close t s ts (w ∷ ws) h = written t s ts (w ∷ ws) h (omega arith)

a_tramp : Tramp
a_tramp = record { place = 0; start = 0; event = true }

tramp_holds : IsLine (line.Tramp a_tramp)
unfolding a_tramp
tramp_holds = record { holds = refl; fits = (omega arith, omega arith) }

tramps_close : (missing : ℕ) (t : Turn) (s : Scheme) (ts : List Tramp) → TurnHolds t → length ts + suc missing ≡ tramp_count s
    → Completion (tramping t s ts)
tramps_close zero t s ts h e =
    let l : length (ts ++ a_tramp ∷ []) ≡ tramp_count s = omega (arith, length-append ts (a_tramp ∷ [])) in
    before (tramping t s ts) (writing t s (ts ++ a_tramp ∷ []) []) (line.Tramp a_tramp) tramp_holds
    (ap Some (tramps_full t s (ts ++ a_tramp ∷ []) l))
    (unwritten t s (ts ++ a_tramp ∷ []) h l)
tramps_close (suc n) t s ts h e =
    let l : length (ts ++ a_tramp ∷ []) + suc n ≡ tramp_count s = omega (arith, length-append ts (a_tramp ∷ [])) in
    before (tramping t s ts) (tramping t s (ts ++ a_tramp ∷ [])) (line.Tramp a_tramp) tramp_holds
    (ap Some (tramps_due t s (ts ++ a_tramp ∷ []) (omega arith)))
    (tramps_close n t s (ts ++ a_tramp ∷ []) h l)

missing_tramps : (m n : ℕ) → m < n → (k : ℕ) × (m + suc k ≡ n)
missing_tramps zero (suc n) h = (n, omega arith)
missing_tramps zero zero h = absurd (omega arith)
missing_tramps (suc m) zero h = absurd (omega arith)
missing_tramps (suc m) (suc n) h = let w = missing_tramps m n (omega arith) in (w.0, let e : m + suc w.0 ≡ n = w.1 in omega arith)

ranged_close : (h : Head) → Completion (ranged h)
ranged_close h =
    before (ranged h) (rowing h [] 0) (line.Sites 0) (record { holds = refl; fits = tt }) refl
    (closed (rowing h [] 0) (rows_close 0 h [] (record { room = omega arith; plans = tt; numbers = tt; sites = tt })))

acted_close : (s : State) (x : Line) (h : Head) → IsLine x → step s x ≡ Some (ranged h) → Completion s
acted_close s x h l e = before s (ranged h) x l e (ranged_close h)

action_close : (o : Option Origin) → Completion (begun o)
action_close o =
    before (begun o) (acted o Cover) (line.Action Cover) (record { holds = refl; fits = tt }) refl
    (acted_close (acted o Cover) (line.Private 0 4096) (record { origin = o; action = Cover; private = (0, 4096) })
    (record { holds = refl; fits = omega arith }) refl)

an_origin : Origin
an_origin = record { len = 0; phoff = 0; phnum = 0; entry = 0 }

origin_holds : IsLine (line.Origin an_origin)
unfolding an_origin
origin_holds = record {
  holds = refl;
  fits = record { len = omega arith; phoff = omega arith; phnum = omega arith; entry = omega arith };
}

-- Whatever a report's lines lead to can be completed.
pub completion : (s : State) → Holds s → Completion s
completion fresh h = before fresh (begun None) (line.Version One) (record { holds = refl; fits = tt }) refl (action_close None)
completion versioned h = before versioned (begun (Some an_origin)) (line.Origin an_origin) origin_holds refl (action_close (Some an_origin))
completion (begun o) h = action_close o
completion (acted o a) h =
    acted_close (acted o a) (line.Private 0 4096) (record { origin = o; action = a; private = (0, 4096) })
    (record { holds = refl; fits = omega arith }) refl
completion (ranged h) k = ranged_close h
completion (rowing h rows due) k = closed (rowing h rows due) (rows_close due h rows k)
completion (tramping t s ts) k =
    let m = missing_tramps (length ts) (tramp_count s) k.1 in
    tramps_close m.0 t s ts k.0 m.1
completion (writing t s ts ws) k = writes_close t s ts ws k
completion (punning t s ts ws ps) k = closed (punning t s ts ws ps) (plan_close t s ts ws ps k.0 k.1)
completion (paging h rows pages low) k = record { lines = line.End ∷ []; all = (end_line, tt); report = report h rows pages; runs = refl }
completion (done v) k = record { lines = []; all = tt; report = v; runs = refl }
