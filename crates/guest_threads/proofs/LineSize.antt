-- How many bytes the code of a line has, for threads.
use Rattle.std.proofs.Common.{◌≡◌, ℕ, ◌+◌, ◌<◌, ◌≤◌, Bool, true, false, List, length, length-append, Option, Some, None, refl, sym, ap, ◌∙◌, arith}
use Rattle.std.specs.Prelude.{Contains, unwrap_or}
use Rattle.std.specs.Option.{is_some, option_map}
use Rattle.std.specs.List.{AllByRecursion}
use Rattle.std.proofs.lemmas.Bool.{false≢true}
use Rattle.pun_base.specs.Ranges.{is_within}
use Rattle.pun_base.specs.declared.action.Action.{Action}
use Rattle.length_decode.specs.Spelling.{Fields, IsInstruction, spelling}
use Rattle.cpu_state.specs.Bytes.{Stands}
use Rattle.insn_form.specs.declared.form.Insn.{Insn}
use Rattle.insn_form.specs.Instruction.{insn_of}
use Rattle.insn_form.specs.Displacing.{displaced_len}
use Rattle.start_entries.specs.declared.entry.StartEntry.{StartEntry}
use Rattle.start_entries.specs.Finding.{entry_at}
use Rattle.start_entries.specs.Standing.{AreEntries}
use Rattle.start_list.specs.Forms as forms
use Rattle.patch_report.proofs.ListPlaces.{In, all_in}
use Rattle.sound_images.specs.Reports.{Line}
use Rattle.site_turns.specs.Modes.{thread_event_size, thread_event_of}
use Rattle.site_turns.specs.States.{Scene, State}
use Rattle.site_turns.specs.Folded.{Done, done_by, size_from, code_size, in_code}
use Rattle.site_turns.proofs.KeptLocks.{within}
use Rattle.thread_runs.specs.Building.{event_of, when_of}
use Rattle.thread_runs.specs.ThreadCode.{event_len, event_if, thread_work}
use Rattle.trampoline.specs.Atomic.{is_atomic, thread_len, back, can_by}
use Rattle.guest_threads.specs.FromTurns.{IsForThreads, code_of_line, IsThreadLine}
use Rattle.guest_threads.proofs.ThreadConditions.{event_size_is}
use Rattle.thread_runs.proofs.ThreadTrampolines.{event_long}
use Rattle.thread_runs.proofs.WorkSize.{told, work_size}

-- a turn takes the bytes of an event, where there is one, and those of the work
size_by : (a : Action) (b : Bool) (e : StartEntry) (n : ℕ) → forms.work_length e ≡ Some n
    → size_from (thread_event_size a) b (Some e) ≡ Some (event_len (event_of (thread_event_of a b)) (when_of (thread_event_of a b)) + n)
size_by a true e n h = ap (option_map (λ n. thread_event_size a + n)) h ∙ ap (λ k. Some (k + n)) (event_size_is a)
size_by a false e n h = ap (option_map (λ n. 0 + n)) h

module _ (g : Scene) (t : State) (A : AreEntries g.image g.entries) (T : IsForThreads g) (J : AllByRecursion (IsThreadLine g t) (done_by t).lines) where
  abbrev d : Done
  d = done_by t

  -- an instruction that can be displaced is there
  known : (o : Option Insn) (len a : ℕ) → is_some (can_by o len a) ≡ true → is_some o ≡ true
  known None len a h = h
  known (Some i) len a h = refl

  -- where a sum with an option is there, the option is
  some_of : (o : Option ℕ) (k : ℕ) → is_some (option_map (λ n. n + k) o) ≡ true → (n : ℕ) × (o ≡ Some n)
  some_of None k h = absurd (false≢true h)
  some_of (Some n) k h = (n, refl)

  -- the bytes of a line's code
  module _ (l : Line) (i : In d.lines l) (e : StartEntry) (at : entry_at g.entries l.tramp.start ≡ Some e) (listed : Contains g.entries e) (addr : e.addr ≡ l.tramp.start) where
    -- the line is one of the turns
    pub one : IsThreadLine g t l
    one = all_in (IsThreadLine g t) d.lines l J i

    -- the fields of the instruction at the line's start: it stands in the original, and can be displaced for threads
    pub record Known : Type 0 where
      pub fields : Fields
      pub spelled : IsInstruction fields
      pub stands : Stands g.image e.addr (spelling fields)
      pub len : length (spelling fields) ≡ e.len
      pub form : e.form ≡ Some (insn_of fields)
      pub size : ℕ
      pub displaced : thread_len (insn_of fields) e.len e.addr ≡ Some size

    -- a known instruction stands at the line's start
    pub instruction : Known
    instruction =
        let can = one.moves e at in
        let k = (A.each e listed).known (known e.form e.len e.addr can) in
        let s = some_of (thread_len (insn_of k.fields) e.len e.addr) (back (insn_of k.fields)) (ap (λ (o : Option Insn). is_some (can_by o e.len e.addr)) (sym k.form) ∙ can) in
        record { fields = k.fields; spelled = k.spelled; stands = k.stands; len = k.len; form = k.form; size = s.0; displaced = s.1 }

    abbrev pub code_with : Known → List ℕ
    code_with k = code_of_line g.action g.private.lo l k.fields (e.addr + e.len)

    -- the code of a line has as many bytes as its event, the instruction's own code and the jump back
    long : (k : Known) → length (code_with k) ≡ event_len (event_of (thread_event_of g.action l.tramp.event)) (when_of (thread_event_of g.action l.tramp.event)) + (k.size + back (insn_of k.fields))
    long k =
        let to = l.tramp.place + event_len (event_of (thread_event_of g.action l.tramp.event)) (when_of (thread_event_of g.action l.tramp.event)) in
        let event = event_long (event_of (thread_event_of g.action l.tramp.event)) (when_of (thread_event_of g.action l.tramp.event)) g.private.lo l.number in
        omega (
          arith,
          length-append (event_if (event_of (thread_event_of g.action l.tramp.event)) (when_of (thread_event_of g.action l.tramp.event)) g.private.lo l.number) (thread_work k.fields (e.addr + e.len) to),
          event,
          work_size k.fields (e.addr + e.len) to k.size e.len e.addr k.spelled k.len k.displaced,
        )

    -- `work_length` of plain turns
    plain_size : (k : Known) → (o : Option Insn) → e.form ≡ o → o ≡ Some (insn_of k.fields) → forms.work_length e ≡ Some (k.size + back (insn_of k.fields))
    plain_size k o f h =
        let e' : e.form ≡ Some (insn_of k.fields) = f ∙ h in
        ap (λ (o : Option Insn). forms.work_by o e.len e.addr) e' ∙ ap (option_map (λ n. n + back (insn_of k.fields))) (told (is_atomic (insn_of k.fields)) (displaced_len (insn_of k.fields) e.len e.addr) k.size k.displaced).1

    -- that is as many bytes as its turn took
    pub size_is : (k : Known) → code_size g l ≡ Some (length (code_with k))
    size_is k =
        ap (λ o. size_from g.event_size l.tramp.event o) at ∙ ap (λ n. size_from n l.tramp.event (Some e)) T.event
        ∙ size_by g.action l.tramp.event e (k.size + back (insn_of k.fields)) (plain_size k e.form refl k.form) ∙ ap Some (sym (long k))

    -- each address of this code is one of the line's
    pub in_line : (k : Known) (x : ℕ) → l.tramp.place ≤ x → x < l.tramp.place + length (code_with k) → in_code g x l ≡ true
    in_line k x a b = ap (λ o. is_within l.tramp.place (unwrap_or o 0) x) (size_is k) ∙ within l.tramp.place (length (code_with k)) x a b
