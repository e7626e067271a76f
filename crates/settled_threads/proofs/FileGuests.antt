-- A run of a settled file's guest that begins with the stub's steps and then leaves the front alone is one of FILE's, behind them.
use Rattle.std.proofs.Common.{◌≡◌, ◌⊎◌, inl, inr, ℕ, ◌+◌, ◌-◌, ◌==◌, ◌≤◌, Bool, true, false, cond, ◌&&◌, nat_le, nat_lt, List, [], ◌∷◌, ◌++◌, length, map, drop, Option, Some, None, option_map, refl, sym, ap, ◌∙◌, subst, arith}
use Rattle.std.specs.Prelude.{slice_get}
use Rattle.std.proofs.Math.Path.{fun_ext}
use Rattle.pun_base.specs.Memory.{Cell, Bytes}
use Rattle.cpu_state.specs.Bytes.{allows, bytes_of, put_number}
use Rattle.start_entries.specs.declared.entry.StartEntry.{StartEntry}
use Rattle.insn_form.specs.Operands.{reg}
use Rattle.insn_form.specs.Machine.{Machine}
use Rattle.insn_form.specs.Runs.{IsPath, last_of}
use Rattle.insn_form.specs.Touched.{perms_at}
use Rattle.insn_form.proofs.TouchedMemory.{put_list_perms}
use Rattle.elf_read.specs.Entries.{segments}
use Rattle.elf_read.specs.Image.{image_of}
use Rattle.event_steps.specs.ThreadSteps.{ThreadStep}
use Rattle.event_steps.proofs.ThreadSteps.{one_thread_next}
use Rattle.thread_runs.specs.Guest.{Thread, Guest, machine_of, thread_of, Moves}
use Rattle.thread_laws.specs.Beginning.{BirthItem, IsGrowing}
use Rattle.settle.specs.Lengths.{front_len, used_len}
use Rattle.settle.specs.Settled.{settled, front_image, image_at}
use Rattle.settle.specs.Laws.{IsSettleable}
use Rattle.settle.proofs.MovedImages.{settled_loads}
use Rattle.settled_runs.specs.Vector.{OwnTable, with_pair, told, pairs_at}
use Rattle.settled_runs.specs.Laws.{IsSettledStart, own_of, file_start}
use Rattle.settled_runs.proofs.BesideRuns.{none_of, front_apart, settled_follows}
use Rattle.settled_threads.specs.Beside.{IsUnwritable, AreApart, guest_beside, RunLeaves}
use Rattle.settled_threads.specs.FileRuns.{lone, first_steps, SettledGuests}
use Rattle.settled_threads.proofs.BackRuns.{run_back}
use Rattle.settled_threads.proofs.StubThreads.{stub_threads}

-- the threads of a guest of one
only_thread : (t u : Thread) → slice_get (t ∷ []) 0 ≡ Some u → u ≡ t
only_thread t u e = cc

-- the step of a guest of one thread is that thread's
lone_moves : (s t : Machine) (h : Guest) → ThreadStep s t → Moves 0 (lone s) h → h ≡ lone t
lone_moves s t h st m =
    let e : m.thread ≡ thread_of s = only_thread (thread_of s) m.thread m.there in
    let to : m.to ≡ t = one_thread_next s m.to t (subst (λ (z : Thread). ThreadStep (machine_of s.mem z) m.to) e m.steps) st in
    m.after ∙ (λ i. record { threads = thread_of (to i) ∷ []; mem = (to i).mem })

-- what a run that begins with the steps of one thread is behind them
record IsBehind (listed : List StartEntry) (is : List BirthItem) (s : Machine) (ts : List Machine) (hs : List Guest) : Type 0 where
  pub states : List Guest
  pub run : IsGrowing listed is (lone (last_of s ts)) states
  pub same : hs ≡ map lone ts ++ states
  pub dropped : drop (length ts) hs ≡ states

behind_steps : (listed : List StartEntry) (is : List BirthItem) (ts : List Machine) (s : Machine) (hs : List Guest) → IsPath ThreadStep s ts
    → IsGrowing listed (first_steps ts ++ is) (lone s) hs → IsBehind listed is s ts hs
behind_steps listed is [] s hs p r = record { states = hs; run = r; same = refl; dropped = refl }
behind_steps listed is (t ∷ ts) s [] p r = absurd r
behind_steps listed is (t ∷ ts) s (h ∷ hs) p r =
    let e = lone_moves s t h p.0 r.0 in
    let q = behind_steps listed is ts t hs p.1 (subst (λ (z : Guest). IsGrowing listed (first_steps ts ++ is) z hs) e r.1) in
    record { states = q.states; run = q.run; same = λ i. e i ∷ q.same i; dropped = q.dropped }

-- the front can't be written
front_unwritable : (b : ℕ) (file : List ℕ) → IsUnwritable (front_image b file)
front_unwritable b file x h =
    let n = length (segments file) in
    by_place (nat_le (b - front_len n) x && nat_lt (x - (b - front_len n)) (used_len n)) _ refl
  where
    by_place : (t : Bool) (c : Cell) → allows 2 (Some c) ≡ false → allows 2 (cond t (Some c) None) ≡ false
    by_place true c e = e
    by_place false c e = refl

-- telling leaves all permissions
pair_perms : (o : OwnTable) (a k : ℕ) (m : Bytes) (x : ℕ) → perms_at (with_pair o a k m) x ≡ perms_at m x
pair_perms o a k m x =
    let at = λ (v : ℕ). put_number m (a + 8) 8 v in
    let nine = by_key (k == 9) (at o.entry) m (put o.entry) refl in
    let five = by_key (k == 5) (at o.phnum) (cond (k == 9) (at o.entry) m) (put o.phnum) nine in
    by_key (k == 3) (at o.phdr) (cond (k == 5) (at o.phnum) (cond (k == 9) (at o.entry) m)) (put o.phdr) five
  where
    put : (v : ℕ) → perms_at (put_number m (a + 8) 8 v) x ≡ perms_at m x
    put v = put_list_perms m (a + 8) (bytes_of 8 v) x

    by_key : (t : Bool) (u v : Bytes) → perms_at u x ≡ perms_at m x → perms_at v x ≡ perms_at m x → perms_at (cond t u v) x ≡ perms_at m x
    by_key true u v p q = p
    by_key false u v p q = q

told_perms : (o : OwnTable) (ks : List ℕ) (a : ℕ) (m : Bytes) (x : ℕ) → perms_at (told o a ks m) x ≡ perms_at m x
told_perms o [] a m x = refl
told_perms o (k ∷ ks) a m x = told_perms o ks (a + 16) (with_pair o a k m) x ∙ pair_perms o a k m x

-- FILE's start doesn't meet the front
start_apart : (b : ℕ) (file : List ℕ) (further : Bytes) (s : Machine) (n : ℕ) (vs ks : List ℕ) → IsSettleable b file → IsSettledStart b file further s n vs ks
    → AreApart (front_image b file) (file_start b file further s n vs ks).mem
start_apart b file further s n vs ks g st =
    let o = own_of b file in let a = pairs_at (reg s.core 4) n vs in let m = told o a ks further in
    let e : image_of (settled b file) ≡ image_at b file = fun_ext (settled_loads b file g) in
    front_apart b file m g.below (λ x. on x (m x) (told_perms o ks a further x) (subst (λ (z : Bytes). (z x ≡ None) ⊎ (further x ≡ None)) e (st.apart x)))
  where
    on : (x : ℕ) (c : Option Cell) → option_map (λ (z : Cell). z.perms) c ≡ perms_at further x → (image_at b file x ≡ None) ⊎ (further x ≡ None) → (image_at b file x ≡ None) ⊎ (c ≡ None)
    on x c p (inl q) = inl q
    on x c p (inr q) = inr (none_of further c (further x) p q)

-- what a run of the settled file's guest is
pub settled_guests : SettledGuests
settled_guests b file further s n vs ks g h st =
    let f = settled_follows b file further s n vs ks g h st in
    let w = front_image b file in let fs = file_start b file further s n vs ks in
    let same : s.world ≡ (last_of s f.stub).world = sym (ap (λ (z : Machine). z.world) f.there) in
    let long : length s.world ≤ length (last_of s f.stub).world = subst (λ z. length s.world ≤ length z) same (omega arith) in
    let path = stub_threads s.rip s f.stub f.own long in
    record {
      stub = f.stub;
      few = f.few;
      own = f.own;
      there = f.there;
      runs = λ listed is hs r l.
          let q = behind_steps listed is f.stub s hs path r in
          let there : lone (last_of s f.stub) ≡ guest_beside w (lone fs) = ap lone f.there in
          let run = subst (λ (z : Guest). IsGrowing listed is z q.states) there q.run in
          let leaves = subst (λ (z : Guest). RunLeaves w is z q.states) there (subst (λ z. RunLeaves w is (lone (last_of s f.stub)) z) q.dropped l) in
          let k = run_back w listed (front_unwritable b file) is (lone fs) q.states (start_apart b file further s n vs ks g st) run leaves in
          record { states = k.states; run = k.run; same = q.same ∙ ap (λ z. map lone f.stub ++ z) k.same };
    }
