-- What a plan adds keeps what each turn keeps, where it fits what was done.
use Rattle.std.proofs.Common.{◌≡◌, ◌⊎◌, inl, inr, ℕ, ◌-◌, ◌≤◌, true, false, ◌||◌, List, slice_index, length, sym, ap, ◌∙◌}
use Rattle.std.specs.List.{count_by, list_any}
use Rattle.std.proofs.lemmas.Bool.{or_parts, or_cases, or_left, or_right, eqb-true, false_from_ne_true, true≢false}
use Rattle.std.proofs.lemmas.List.Folds.{list_any-append}
use Rattle.byte_locks.specs.declared.lock.Lock.TheVariants.{Free}
use Rattle.elf_emit.proofs.WrittenTable.{all_append}
use Rattle.elf_emit.proofs.StayingSegments.{all_map}
use Rattle.patch_report.specs.Values.{WriteValue}
use Rattle.patch_report.proofs.ListPlaces.{In, all_in, all_from, any_at}
use Rattle.start_list.specs.PlanJumps.{Jump, written, is_written, is_punned}
use Rattle.sound_images.specs.Reports.{Line, in_run}
use Rattle.sound_images.specs.Rules.{holds_byte}
use Rattle.sound_images.proofs.LoadedCode.{fixed_at}
use Rattle.site_turns.specs.States.{Scene, is_in, is_taken}
use Rattle.site_turns.specs.Folded.{Done, is_locked, memory_in, in_runs, starts_at, in_code, IsHeld, IsLed, Tells, IsOwned, IsNewlyTaken, IsKept}
use Rattle.site_turns.specs.Adding.{Addition, done_after, Fits, IsRoom, FittingKeeps}
use Rattle.site_turns.proofs.JoinedLists.{one_of_both, any_all}
use Rattle.site_turns.proofs.KeptLocks.{kept_lock, kept_value, written_locked, free_unlocked, within}

module _ (g : Scene) (d : Done) (p : Addition) (a : Fits g d p) where
  abbrev e : Done
  e = done_after d p

  -- a locked byte isn't written
  unwritten : (x : ℕ) → is_locked (d.lock x) ≡ true → is_written p.jumps x ≡ false
  unwritten x h = false_from_ne_true (is_written p.jumps x) (λ w. free_unlocked (d.lock x) (a.free x w) h)

  -- a byte that is locked keeps its lock
  pub keeps_lock : (x : ℕ) → is_locked (d.lock x) ≡ true → e.lock x ≡ d.lock x
  keeps_lock x h = kept_lock (written p.jumps x) (is_punned p.jumps x) (d.lock x) (unwritten x h) h

  -- a byte that is locked keeps its value
  pub keeps_value : (x : ℕ) → is_locked (d.lock x) ≡ true → memory_in g e x ≡ memory_in g d x
  keeps_value x h = kept_value (written p.jumps x) (is_punned p.jumps x) (d.lock x) (g.image x) (unwritten x h)

  -- a locked byte is locked after the addition
  still_locked : (x : ℕ) → is_locked (d.lock x) ≡ true → is_locked (e.lock x) ≡ true
  still_locked x h = ap is_locked (keeps_lock x h) ∙ h

  -- a jump that is held stays so
  held_on : (j : Jump) → IsHeld g d j → IsHeld g e j
  held_on j h = record {
    low = h.low;
    stands = fixed_at (memory_in g d) (memory_in g e) j.at j.bytes h.low
        (λ x l u. keeps_value x (h.locked x (within j.at (length j.bytes) x l u))) h.stands;
    locked = λ x w. still_locked x (h.locked x w);
  }

  -- a start that leads to its trampoline does so after the addition
  led_on : (l : Line) → IsLed g d l → IsLed g e l
  led_on l h = record {
    jumps = h.jumps;
    held = all_map (IsHeld g d) (IsHeld g e) h.jumps held_on h.held;
    leads = h.leads;
    begun = still_locked l.tramp.start h.begun;
    displaced = h.displaced;
  }

  module _ (k : IsKept g d) where
    -- a byte of a run was written before, or is now
    run_cases : (x : ℕ) → in_runs e x ≡ true → (in_runs d x ≡ true) ⊎ (is_written p.jumps x ≡ true)
    run_cases x h = elim (or_cases (in_runs d x) (list_any (in_run x) p.runs) (sym (list_any-append (in_run x) d.runs p.runs) ∙ h)) [
      | inl w ↦ inl w
      | inr w ↦ inr (sym (a.told x) ∙ w)
    ]

    -- bytes of no run are the original's after the addition
    others : (x : ℕ) → in_runs e x ≡ false → memory_in g e x ≡ g.image x
    others x h =
        let q = or_parts (in_runs d x) (list_any (in_run x) p.runs) (sym (list_any-append (in_run x) d.runs p.runs) ∙ h) in
        kept_value (written p.jumps x) (is_punned p.jumps x) (d.lock x) (g.image x) (sym (a.told x) ∙ q.1) ∙ k.others x q.0

    -- bytes of runs are locked after the addition
    locked : (x : ℕ) → in_runs e x ≡ true → is_locked (e.lock x) ≡ true
    locked x h = elim (run_cases x h) [
      | inl w ↦ still_locked x (k.locked x w)
      | inr w ↦ written_locked (written p.jumps x) (is_punned p.jumps x) (d.lock x) w
    ]

    -- an old run tells what it told
    tells_on : (w : WriteValue) → In d.runs w → (x : ℕ) → in_run x w ≡ true → Tells g e w x
    tells_on w c x h =
        let t = all_in (λ v. (x : ℕ) → in_run x v ≡ true → Tells g d v x) d.runs w k.tells c x h in
        let b = keeps_value x (k.locked x (any_at (in_run x) d.runs c.0 w c.1 h)) in
        record { was = t.was; now = ap (λ z. holds_byte z (slice_index w.now (x - w.addr))) b ∙ t.now }

    -- runs don't meet after the addition
    apart : (x : ℕ) → count_by (in_run x) e.runs ≤ 1
    apart x = one_of_both (in_run x) d.runs p.runs (k.apart x) (a.apart x)
        (λ h w. free_unlocked (d.lock x) (a.free x (sym (a.told x) ∙ w)) (k.locked x h))

    -- an owner stays one where its trampoline does
    owned_by : (ls : List Line) (x : ℕ)
        → ((y : ℕ) → list_any (starts_at y) ls ≡ true → (list_any (starts_at y) d.lines || list_any (starts_at y) p.lines) ≡ true)
        → IsOwned g ls x → IsOwned g e.lines x
    owned_by ls x stays o = record {
      entry = o.entry;
      listed = o.listed;
      low = o.low;
      high = o.high;
      alone = o.alone;
      starts = list_any-append (starts_at o.entry.addr) d.lines p.lines ∙ stays o.entry.addr o.starts;
    }

    -- bytes of runs belong to instructions with trampolines after the addition
    owned : (x : ℕ) → in_runs e x ≡ true → IsOwned g e.lines x
    owned x h = elim (run_cases x h) [
      | inl w ↦ owned_by d.lines x (λ y s. or_left (list_any (starts_at y) d.lines) (list_any (starts_at y) p.lines) s) (k.owned x w)
      | inr w ↦ owned_by p.lines x (λ y s. or_right (list_any (starts_at y) d.lines) (list_any (starts_at y) p.lines) s) (a.owned x w)
    ]

    -- each start has one trampoline at most after the addition
    once : (x : ℕ) → count_by (starts_at x) e.lines ≤ 1
    once x = one_of_both (starts_at x) d.lines p.lines (k.once x) (a.once x) (λ h w.
        let o = any_all (IsLed g d) (starts_at x) d.lines h k.led in
        let n = any_all (λ l. is_written p.jumps l.tramp.start ≡ true) (starts_at x) p.lines w a.begun in
        let f : d.lock x ≡ Free = a.free x (ap (λ z. is_written p.jumps z) (sym (eqb-true n.0.tramp.start x n.1)) ∙ n.2) in
        free_unlocked (d.lock x) f (ap (λ z. is_locked (d.lock z)) (sym (eqb-true o.0.tramp.start x o.1)) ∙ o.2.begun))

    -- code that was newly taken before is so after the addition
    taken_on : (l : Line) → ((x : ℕ) → in_code g x l ≡ true → IsNewlyTaken g d x) → (x : ℕ) → in_code g x l ≡ true → IsNewlyTaken g e x
    taken_on l h x c =
        let o = h x c in
        record {
          taken = list_any-append (λ r. is_in r x) p.ranges d.taken ∙ or_right (is_taken p.ranges x) (is_taken d.taken x) o.taken;
          new = o.new;
          low = o.low;
          high = o.high;
        }

    -- code for which there was room is newly taken after the addition
    taken_new : (l : Line) → ((x : ℕ) → in_code g x l ≡ true → IsRoom d p x) → (x : ℕ) → in_code g x l ≡ true → IsNewlyTaken g e x
    taken_new l h x c =
        let o = h x c in
        record {
          taken = list_any-append (λ r. is_in r x) p.ranges d.taken ∙ or_left (is_taken p.ranges x) (is_taken d.taken x) o.taken;
          new = false_from_ne_true (is_taken g.shut x) (λ s. true≢false (sym (k.shut x s) ∙ o.free));
          low = o.low;
          high = o.high;
        }

    -- codes don't meet after the addition
    alone : (x : ℕ) → count_by (in_code g x) e.lines ≤ 1
    alone x = one_of_both (in_code g x) d.lines p.lines (k.alone x) (a.alone x) (λ h w.
        let o = any_all (λ l. (x : ℕ) → in_code g x l ≡ true → IsNewlyTaken g d x) (in_code g x) d.lines h k.taken in
        let n = any_all (λ l. (x : ℕ) → in_code g x l ≡ true → IsRoom d p x) (in_code g x) p.lines w a.room in
        true≢false (sym (o.2 x o.1).taken ∙ (n.2 x n.1).free))

    -- what each turn keeps holds with what the plan adds
    pub fits : IsKept g e
    fits = record {
      others = others;
      locked = locked;
      tells = all_append (λ w. (x : ℕ) → in_run x w ≡ true → Tells g e w x) d.runs p.runs
          (all_from (λ w. (x : ℕ) → in_run x w ≡ true → Tells g e w x) d.runs tells_on) a.tells;
      even = all_append (λ (w : WriteValue). length w.now ≡ length w.was) d.runs p.runs k.even a.even;
      apart = apart;
      owned = owned;
      led = all_append (IsLed g e) d.lines p.lines (all_map (IsLed g d) (IsLed g e) d.lines led_on k.led) a.led;
      once = once;
      taken = all_append (λ l. (x : ℕ) → in_code g x l ≡ true → IsNewlyTaken g e x) d.lines p.lines
          (all_map (λ l. (x : ℕ) → in_code g x l ≡ true → IsNewlyTaken g d x) (λ l. (x : ℕ) → in_code g x l ≡ true → IsNewlyTaken g e x)
          d.lines taken_on k.taken)
          (all_map (λ l. (x : ℕ) → in_code g x l ≡ true → IsRoom d p x) (λ l. (x : ℕ) → in_code g x l ≡ true → IsNewlyTaken g e x)
          p.lines taken_new a.room);
      alone = alone;
      shut = λ x h. list_any-append (λ r. is_in r x) p.ranges d.taken ∙ or_right (is_taken p.ranges x) (is_taken d.taken x) (k.shut x h);
    }

-- what a plan adds keeps what each turn keeps, where it fits what was done
pub fitting_keeps : FittingKeeps
fitting_keeps g d p k a = fits g d p a k
