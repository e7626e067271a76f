-- What stands where: at kept starts, at displaced ones, and in trampolines.
use Rattle.std.proofs.Common.{◌≡◌, ℕ, zero, suc, ◌+◌, ◌^◌, ◌<◌, ◌≤◌, Bool, true, false, not, ◌&&◌, ◌||◌, eqb, leb, ltb, length, Option, Some, refl, sym, ap, ap₂, ◌∙◌, subst, arith}
use Rattle.std.specs.Prelude.{Contains}
use Rattle.std.specs.Option.{is_some}
use Rattle.std.proofs.lemmas.List.{length-append}
use Rattle.std.proofs.lemmas.Bool.{and_parts, eqb-true, eq-eqb, leb-true, ltb-true, true≢false, false≢true, not-true}
use Rattle.pun_base.specs.Memory.{Cell, Bytes}
use Rattle.pun_base.specs.declared.action.Base.{Base}
use Rattle.cpu_state.specs.Bytes.{advanced, number_at}
use Rattle.cpu_state.specs.Fixed.{IsFixed}
use Rattle.length_decode.specs.Spelling.{Fields, IsInstruction, spelling}
use Rattle.insn_form.specs.Instruction.{insn_of}
use Rattle.insn_form.specs.Machine.{Machine}
use Rattle.relocate_insn.proofs.FixedCode.{SameCode, next_address, fixed_on, fixed_front, fixed_back}
use Rattle.start_entries.specs.declared.entry.StartEntry.{StartEntry}
use Rattle.start_entries.specs.Standing.{AreEntries}
use Rattle.image_runs.specs.Listed.{is_start, is_known_start}
use Rattle.sound_images.proofs.LoadedCode.{stands_fixed, fixed_at}
use Rattle.sound_images.proofs.RelatedStates.{allowed_some}
use Rattle.thread_runs.specs.ThreadCode.{Kind, Marks, position_at, slot_at, event_len, event_if, thread_work, code_if}
use Rattle.trampoline.specs.EventLists.{mark_at, mark_len}
use Rattle.trampoline.specs.Atomic.{thread_len}
use Rattle.thread_runs.specs.Work.{IsWork}
use Rattle.thread_runs.specs.Threading.{ThreadSite, Threading, next_of, work_at, is_new, is_site, is_kept, IsThreadSound}
use Rattle.event_steps.specs.DoneSteps.{is_one_of}
use Rattle.patch_report.proofs.ListPlaces.{found, any_at, contains_at, place_of}
use Rattle.thread_runs.proofs.ThreadTrampolines.{event_long}
use Rattle.thread_runs.proofs.ThreadPlaces.{any_none}
use Rattle.event_steps.proofs.ByteRanges.{number_on}

-- the instruction at a start, in the original and in the patched image
pub record Own (r : Threading) (a : ℕ) : Type 0 where
  pub fields : Fields
  pub spelled : IsInstruction fields
  pub original : IsFixed r.original a (spelling fields)
  pub patched : IsFixed r.patched a (spelling fields)

module _ (r : Threading) (A : AreEntries r.original r.listed) (S : IsThreadSound r) where
  -- a known start is the address of a listed entry whose instruction is known
  pub entry_known : (a : ℕ) → is_known_start r.listed a ≡ true → (e : StartEntry) × Contains r.listed e × (e.addr ≡ a) × (is_some e.form ≡ true)
  entry_known a h =
      let q = found (λ (e : StartEntry). eqb e.addr a && is_some e.form) r.listed h in
      let k = and_parts (eqb q.is.addr a) (is_some q.is.form) q.passes in
      (q.is, contains_at r.listed q.place q.is q.at, eqb-true q.is.addr a k.0, k.1)

  -- a kept start's instruction stands in both images
  pub own_at : (a : ℕ) → is_known_start r.listed a ≡ true → is_kept r a ≡ true → Own r a
  own_at a h k =
      let q = entry_known a h in
      let e = q.0 in
      let i = A.each e q.1 in
      let o = i.known q.3 in
      let free : is_site r a ≡ false = not-true (is_site r a) (and_parts (is_start r.listed a) (not (is_site r a)) k).1 in
      let fixed : IsFixed r.original e.addr (spelling o.fields) = stands_fixed r.original e.addr (spelling o.fields) (omega (arith, i.low, o.len))
      (λ x l g. (i.executed x l (omega (arith, o.len, g))).1) o.stands in
      let same : (x : ℕ) → e.addr ≤ x → x < e.addr + length (spelling o.fields) → r.patched x ≡ r.original x =
      λ x l g. S.stays x (allowed_some 1 (r.original x) (i.executed x l (omega (arith, o.len, g))).0)
      (any_none (λ (s : ThreadSite). leb s.entry.addr x && ltb x (s.entry.addr + s.entry.len)) r.sites (λ t c p.
      let b = and_parts (leb t.entry.addr x) (ltb x (t.entry.addr + t.entry.len)) p in
      let z : e ≡ t.entry = A.alone t.entry (S.sites t c).listed (S.sites t c).alone x (leb-true t.entry.addr x b.0) (ltb-true x (t.entry.addr + t.entry.len) b.1) e q.1 l (omega (arith, o.len, g)) in
      let j = place_of r.sites t c in
      true≢false (sym (any_at (λ (s : ThreadSite). eqb s.entry.addr a) r.sites j.0 t j.1
      (eq-eqb t.entry.addr a (sym (ap (λ (y : StartEntry). y.addr) z) ∙ q.2))) ∙ free))) in
      record {
        fields = o.fields;
        spelled = o.spelled;
        original = subst (λ (z : ℕ). IsFixed r.original z (spelling o.fields)) q.2 fixed;
        patched = subst (λ (z : ℕ). IsFixed r.patched z (spelling o.fields)) q.2 (fixed_at r.original r.patched e.addr (spelling o.fields) (omega (arith, i.low, o.len)) same fixed);
      }

  -- the fields of a site's instruction, which stand in the original
  abbrev pub fields_of : (s : ThreadSite) → Contains r.sites s → Fields
  fields_of s h = (S.sites s h).fields

  -- the instruction of a site stands in the original, where it can't be written
  pub site_stands : (s : ThreadSite) (h : Contains r.sites s) → IsFixed r.original s.entry.addr (spelling (fields_of s h))
  site_stands s h =
      let k = S.sites s h in
      let i = A.each s.entry k.listed in
      stands_fixed r.original s.entry.addr (spelling k.fields) (omega (arith, i.low, k.len)) (λ x l g. (i.executed x l (omega (arith, k.len, g))).1) k.stands

  -- the event of a site stands at its trampoline's place in each memory that has the patched image's code
  pub event_stands : (s : ThreadSite) (h : Contains r.sites s) (o : Option Kind) → s.event ≡ o → (m : Bytes) → SameCode r.patched m → IsFixed m s.place (event_if o s.when r.private s.number)
  event_stands s h o e m c = subst (λ (z : Option Kind). IsFixed m s.place (event_if z s.when r.private s.number)) e
      (fixed_front m s.place (event_if s.event s.when r.private s.number) (thread_work (fields_of s h) (next_of s) (work_at s)) (fixed_on r.patched m s.place (code_if s.event s.when r.private s.number (fields_of s h) (next_of s) s.place) c (S.sites s h).code))

  -- the trampoline of a site has the event's bytes and those of the relocated code
  pub code_length : (s : ThreadSite) (h : Contains r.sites s)
      → length (code_if s.event s.when r.private s.number (fields_of s h) (next_of s) s.place) ≡ event_len s.event s.when + length (thread_work (fields_of s h) (next_of s) (work_at s))
  code_length s h =
      omega (arith, length-append (event_if s.event s.when r.private s.number) (thread_work (fields_of s h) (next_of s) (work_at s)), event_long s.event s.when r.private s.number)

  -- the relocated code stands after the event in each memory that has the patched image's code
  pub work_stands : (s : ThreadSite) (h : Contains r.sites s) (v : Machine) → SameCode r.patched v.mem → IsWork (fields_of s h) s.entry.addr (next_of s) (work_at s) v
  work_stands s h v c =
      let k = S.sites s h in
      let i = A.each s.entry k.listed in
      let n = code_length s h in
      let e = event_long s.event s.when r.private s.number in
      record {
        spelled = k.spelled;
        size = k.size;
        displaced = subst (λ (z : ℕ). thread_len (insn_of k.fields) z s.entry.addr ≡ Some k.size) (sym k.len) k.displaced;
        behind = ap (λ z. s.entry.addr + z) (sym k.len);
        low = i.low;
        stands = subst (λ (z : ℕ). IsFixed v.mem (s.place + z) (thread_work k.fields (next_of s) (work_at s))) e
            (fixed_back v.mem s.place (event_if s.event s.when r.private s.number) (thread_work k.fields (next_of s) (work_at s)) (omega (arith, k.low, n, e)) (fixed_on r.patched v.mem s.place (code_if s.event s.when r.private s.number k.fields (next_of s) s.place) c k.code));
        place_low = omega (arith, k.low, n);
      }

  -- what an event marks is new
  pub mark_new : (s : ThreadSite) (h : Contains r.sites s) (b : Base) → s.event ≡ Some (Marks b) → (x : ℕ) → mark_at b r.private s.number ≤ x → x < mark_at b r.private s.number + mark_len b → is_new r x ≡ true
  mark_new s h b e x i j =
      let q = S.marks s h b e x i j in
      ap₂ (λ (o p : Option Cell). is_some o && not (is_some p)) q.0 q.1

  -- where n addresses from a on don't wrap round, each of them lies from a on and below a + n
  pub one_in : (a n x : ℕ) → a + n < 2 ^ 64 → is_one_of a n x ≡ true → (a ≤ x) × (x < a + n)
  one_in a zero x l h = absurd (false≢true h)
  one_in a (suc n) x l h =
      let z : advanced a 1 ≡ a + 1 = next_address a 1 (omega arith) in
      by_test (eqb x a) refl (λ k. one_in (a + 1) n x (omega arith) (subst (λ (y : ℕ). is_one_of y n x ≡ true) z k)) h
    where
      by_test : (b : Bool) → eqb x a ≡ b → (is_one_of (advanced a 1) n x ≡ true → (a + 1 ≤ x) × (x < a + 1 + n)) → (b || is_one_of (advanced a 1) n x) ≡ true → (a ≤ x) × (x < a + suc n)
      by_test true e go k = let f = eqb-true x a e in (omega (arith, f), omega (arith, f))
      by_test false e go k = let q = go k in (omega (arith, q.0), omega (arith, q.1))

  -- what keeps new bytes keeps the numbers that events mark
  pub mark_kept : (s : ThreadSite) (h : Contains r.sites s) (b : Base) → s.event ≡ Some (Marks b) → (m w : Bytes) → ((x : ℕ) → is_new r x ≡ true → w x ≡ m x)
      → number_at w (mark_at b r.private s.number) (mark_len b) ≡ number_at m (mark_at b r.private s.number) (mark_len b)
  mark_kept s h b c m w k = number_on m w (mark_at b r.private s.number) (mark_len b) (λ x e.
      let low = S.low s h b c in
      let q = one_in (mark_at b r.private s.number) (mark_len b) x (omega (arith, low)) e in k x (mark_new s h b c x q.0 q.1))

  -- the position and the slots of a ring are new
  pub ring_new : (n : ℕ) → r.ring ≡ Some n → (x : ℕ) → position_at r.private ≤ x → x < slot_at r.private n → is_new r x ≡ true
  ring_new n e x i j = let q = (S.ring n e).zeros x i j in ap₂ (λ (o p : Option Cell). is_some o && not (is_some p)) q.0 q.1

  -- what keeps new bytes keeps the position
  pub position_kept : (n : ℕ) → r.ring ≡ Some n → (m w : Bytes) → ((x : ℕ) → is_new r x ≡ true → w x ≡ m x) → number_at w (position_at r.private) 4 ≡ number_at m (position_at r.private) 4
  position_kept n e m w k = number_on m w (position_at r.private) 4 (λ x h.
      let low = (S.ring n e).low in
      let q = one_in (position_at r.private) 4 x (omega (arith, low)) h in k x (ring_new n e x q.0 (omega (arith, q.1))))

  -- and the slots
  pub slot_kept : (n : ℕ) → r.ring ≡ Some n → (m w : Bytes) → ((x : ℕ) → is_new r x ≡ true → w x ≡ m x) → (j : ℕ) → j < n → number_at w (slot_at r.private j) 4 ≡ number_at m (slot_at r.private j) 4
  slot_kept n e m w k j l = number_on m w (slot_at r.private j) 4 (λ x h.
      let low = (S.ring n e).low in
      let q = one_in (slot_at r.private j) 4 x (omega (arith, low, l)) h in k x (ring_new n e x (omega (arith, q.0)) (omega (arith, q.1, l))))
