-- The stub's steps touch no listed byte: they are made where listed bytes can be executed and no more.
use Rattle.std.proofs.Common.{◌≡◌, ◌⊎◌, inl, inr, ℕ, suc, ◌+◌, ◌<◌, ◌==◌, Bool, true, false, cond, ◌&&◌, List, [], ◌∷◌, ◌++◌, length, map, slice_index, Option, Some, None, refl, sym, ap, ap₂, ◌∙◌, subst, arith}
use Rattle.std.specs.List.{list_any}
use Rattle.std.proofs.Math.Path.{fun_ext}
use Rattle.std.proofs.lemmas.Bool.{cond-true, cond-false}
use Rattle.pun_base.specs.Memory.{Cell, Bytes, or_else, joined}
use Rattle.cpu_state.specs.Bytes.{advanced, allows, byte_of, Stands}
use Rattle.cpu_state.specs.Fixed.{IsFixed}
use Rattle.length_decode.specs.Spelling.{Fields, spelling}
use Rattle.start_entries.specs.declared.entry.StartEntry.{StartEntry}
use Rattle.insn_form.specs.Operands.{reg}
use Rattle.insn_form.specs.Machine.{Machine, act, leaves}
use Rattle.insn_form.specs.Step.{StepsBy, Step, next_after, task_of}
use Rattle.insn_form.specs.Laws.{SameView}
use Rattle.insn_form.specs.Runs.{nowhere, IsPath, last_of}
use Rattle.insn_form.proofs.TouchedMemory.{leaves_nowhere, read_and_write, reads_held, writes_are_held}
use Rattle.insn_form.proofs.FrameRule.{frame, keep}
use Rattle.image_runs.specs.Listed.{is_known_start, is_listed_byte}
use Rattle.image_runs.specs.Quiet.{IsQuiet, IsStartPair}
use Rattle.sound_images.specs.Rewriting.{Rewriting}
use Rattle.elf_read.specs.Entries.{entry_of, segments}
use Rattle.elf_read.specs.Image.{image_of}
use Rattle.settle.specs.Stub.{stub_code}
use Rattle.settle.specs.Settled.{stub_at, settled, moved_image, front_image, image_at}
use Rattle.settled_runs.specs.Vector.{told, variables_at, pairs_at, IsVector}
use Rattle.settled_runs.specs.Laws.{stub_places, StubStep, IsTold, own_of, beside, file_start, IsSettledStart}
use Rattle.settled_runs.specs.Quiet.{item_beside, settled_items, SettledIsQuiet, SettledIsPatched, SettledGoesOn}
use Rattle.settle.proofs.FrontParts.{length-stub}
use Rattle.settle.proofs.MovedImages.{settled_loads}
use Rattle.settled_runs.proofs.StartedFiles.{fixed_by, stub_byte, first_held, starts_at, seen_word, seen_variables, seen_pairs, told_beside, told_apart}
use Rattle.settled_runs.proofs.StubRuns.{stub_tells}
use Rattle.settled_runs.proofs.BesideRuns.{after, apart_after, step_beside, front_apart, joined_assoc}
use Rattle.settled_runs.proofs.DeliveredRuns.{delivered_quiet, delivered_on}

module _ (set : ℕ → Bool) where
  -- a byte that can at most be executed
  abbrev only_executed : Option Cell → Option Cell
  only_executed None = None
  only_executed (Some c) = Some (record { byte = c.byte; perms = cond (allows 1 (Some c)) 1 0 })

  -- memory in which the set's bytes can at most be executed
  abbrev pub masked : Bytes → Bytes
  masked m x = cond (set x) (only_executed (m x)) (m x)

  abbrev pub mask : Machine → Machine
  mask s = record { core = s.core; rip = s.rip; mem = masked s.mem; world = s.world }

  by_perm : (t : Bool) (b : ℕ) → (allows 1 (Some (record { byte = b; perms = cond t 1 0 })) ≡ t) × (allows 2 (Some (record { byte = b; perms = cond t 1 0 })) ≡ false) × (allows 4 (Some (record { byte = b; perms = cond t 1 0 })) ≡ false)
  by_perm true b = (refl, refl, refl)
  by_perm false b = (refl, refl, refl)

  executes : (c : Option Cell) → allows 1 (only_executed c) ≡ allows 1 c
  executes None = refl
  executes (Some c) = (by_perm (allows 1 (Some c)) c.byte).0

  no_write : (c : Option Cell) → allows 2 (only_executed c) ≡ false
  no_write None = refl
  no_write (Some c) = (by_perm (allows 1 (Some c)) c.byte).1

  no_read : (c : Option Cell) → allows 4 (only_executed c) ≡ false
  no_read None = refl
  no_read (Some c) = (by_perm (allows 1 (Some c)) c.byte).2

  same_byte : (c : Option Cell) → byte_of (only_executed c) ≡ byte_of c
  same_byte None = refl
  same_byte (Some c) = refl

  either_executes : (t : Bool) (c : Option Cell) → (allows 1 (cond t (only_executed c) c) ≡ allows 1 c) × (byte_of (cond t (only_executed c) c) ≡ byte_of c)
  either_executes true c = (executes c, same_byte c)
  either_executes false c = (refl, refl)

  either_write : (t : Bool) (c : Option Cell) → allows 2 c ≡ false → allows 2 (cond t (only_executed c) c) ≡ false
  either_write true c e = no_write c
  either_write false c e = e

  fixed_masked : (bs : List ℕ) (m : Bytes) (a : ℕ) → IsFixed m a bs → IsFixed (masked m) a bs
  fixed_masked [] m a h = tt
  fixed_masked (b ∷ bs) m a h =
      let e = either_executes (set a) (m a) in
      (e.0 ∙ h.0, either_write (set a) (m a) h.1, e.1 ∙ h.2, fixed_masked bs m (advanced a 1) h.3)

  stands_back : (bs : List ℕ) (m : Bytes) (a : ℕ) → Stands (masked m) a bs → Stands m a bs
  stands_back [] m a h = tt
  stands_back (b ∷ bs) m a h =
      let e = either_executes (set a) (m a) in
      (sym e.0 ∙ h.0, sym e.1 ∙ h.1, stands_back bs m (advanced a 1) h.2)

  unseen : (t : Bool) (c : Option Cell) → cond t None (cond t (only_executed c) c) ≡ cond t None c
  unseen true c = refl
  unseen false c = refl

  mask_view : (s : Machine) → SameView set (mask s) s
  mask_view s = λ i. record { core = s.core; rip = 0; mem = fun_ext (λ x. unseen (set x) (s.mem x)) i; world = s.world }

  -- what a step from a masked state is without the mask
  record Unmasked (f : Fields) (s t' : Machine) : Type 0 where
    pub to : Machine
    pub steps : StepsBy set f s to
    pub same : t' ≡ mask to
    pub kept : (x : ℕ) → set x ≡ true → to.mem x ≡ s.mem x

  mask_byte : (t : Bool) (d e c : Option Cell) → cond t None d ≡ cond t None e → (t ≡ true → d ≡ only_executed c) → (t ≡ true → e ≡ c) → d ≡ cond t (only_executed e) e
  mask_byte true d e c q r k = r refl ∙ ap only_executed (sym (k refl))
  mask_byte false d e c q r k = q

  unmask : (f : Fields) (s t' : Machine) → StepsBy nowhere f (mask s) t' → Unmasked f s t'
  unmask f s t' st =
      let next = next_after s.rip f in let t = task_of f next in
      let rd = reads_held set t next (mask s) t' (λ a q. ap (allows 4) (cond-true (set a) (only_executed (s.mem a)) (s.mem a) q) ∙ no_read (s.mem a)) st.acts in
      let wr = writes_are_held set t next (mask s) t' (λ a q. ap (allows 2) (cond-true (set a) (only_executed (s.mem a)) (s.mem a) q) ∙ no_write (s.mem a)) st.acts in
      let l : leaves set t next s ≡ true = read_and_write set t next (mask s) ∙ ap₂ (λ p q. p && q) rd wr in
      let fr = sym (ap (Rattle.insn_form.specs.Laws.viewed set) st.acts) ∙ frame set t next (mask s) s (mask_view s) l in
      let r = after (λ x. None) set t' (act t next s) fr in
      let u = r.0 in
      let k = keep set t next s u l r.1 in
      let k' = keep set t next (mask s) t' l st.acts in
      let m : t'.mem ≡ masked u.mem = fun_ext (λ x. mask_byte (set x) (t'.mem x) (u.mem x) (s.mem x) (ap (λ (z : Machine). z.mem x) r.2) (λ q. k' x q ∙ cond-true (set x) (only_executed (s.mem x)) (s.mem x) q) (λ q. k x q)) in
      record {
        to = u;
        steps = record { at = record { spelled = st.at.spelled; here = stands_back (spelling f) s.mem s.rip st.at.here }; apart = l; acts = r.1 };
        same = λ i. record { core = (r.2 i).core; rip = (r.2 i).rip; mem = m i; world = (r.2 i).world };
        kept = k;
      }

  -- the same of a path of the stub
  record Unmasks (at : ℕ) (s : Machine) (ts' : List Machine) : Type 0 where
    pub states : List Machine
    pub path : IsPath (StubStep at) s states
    pub quiet : IsPath (Step set) s states
    pub even : length states ≡ length ts'
    pub last : last_of (mask s) ts' ≡ mask (last_of s states)
    pub kept : (x : ℕ) → set x ≡ true → (last_of s states).mem x ≡ s.mem x

  unmask_path : (at : ℕ) (ts' : List Machine) (s : Machine) → IsPath (StubStep at) (mask s) ts' → Unmasks at s ts'
  unmask_path at [] s p = record { states = []; path = tt; quiet = tt; even = refl; last = refl; kept = λ x e. refl }
  unmask_path at (t' ∷ ts') s p =
      let o = p.0.own in let f = o.0 in
      let u = unmask f s t' o.1 in
      let r = unmask_path at ts' u.to (subst (λ (z : Machine). IsPath (StubStep at) z ts') u.same p.1) in
      let next = next_after s.rip f in
      record {
        states = u.to ∷ r.states;
        path = (record { own = (f, record { at = u.steps.at; apart = leaves_nowhere (task_of f next) next s; acts = u.steps.acts }, o.2); place = p.0.place; there = p.0.there; listed = p.0.listed }, r.path);
        quiet = ((f, u.steps), r.quiet);
        even = ap suc r.even;
        last = ap (λ (z : Machine). last_of z ts') u.same ∙ r.last;
        kept = λ x e. r.kept x e ∙ u.kept x e;
      }

  -- memory of two parts, masked where the second has nothing
  mask_parts : (t : Bool) (c d : Option Cell) → (t ≡ true → d ≡ None) → cond t (only_executed (or_else c d)) (or_else c d) ≡ or_else (cond t (only_executed c) c) d
  mask_parts false c d e = refl
  mask_parts true c d e = ap (λ z. only_executed (or_else c z)) (e refl) ∙ plain c ∙ ap (λ z. or_else (only_executed c) z) (sym (e refl))
    where
      plain : (c : Option Cell) → only_executed (or_else c None) ≡ or_else (only_executed c) None
      plain None = refl
      plain (Some c) = refl

  none_masked : (t : Bool) (c : Option Cell) → c ≡ None → cond t (only_executed c) c ≡ None
  none_masked true c e = ap only_executed e
  none_masked false c e = e

  beside_mask : (im further : Bytes) (x : ℕ) → (im x ≡ None) ⊎ (further x ≡ None) → (masked im x ≡ None) ⊎ (further x ≡ None)
  beside_mask im further x (inl e) = inl (none_masked (set x) (im x) e)
  beside_mask im further x (inr e) = inr e

  -- a map that holds the set alone
  abbrev dark_cell : Option Cell
  dark_cell = Some (record { byte = 0; perms = 0 })

  abbrev dark_map : Bytes
  dark_map x = cond (set x) dark_cell None

  dark_apart : (further : Bytes) (x : ℕ) → (set x ≡ true → further x ≡ None) → (dark_map x ≡ None) ⊎ (further x ≡ None)
  dark_apart further x h = by_set (set x) refl
    where
      by_set : (t : Bool) → set x ≡ t → (dark_map x ≡ None) ⊎ (further x ≡ None)
      by_set true e = inr (h e)
      by_set false e = inl (cond-false (set x) dark_cell None e)

  -- a byte of memory at the stub's end
  end_byte : (mem old im further m : Bytes) (x : ℕ) → (set x ≡ true → mem x ≡ old x) → old x ≡ joined im further x → (set x ≡ true → further x ≡ None)
      → (dark_map x ≡ None) ⊎ (m x ≡ None) → masked mem x ≡ joined (masked im) m x → mem x ≡ joined im m x
  end_byte mem old im further m x k o a d e = by_set (set x) refl
    where
      dark : set x ≡ true → (dark_map x ≡ None) ⊎ (m x ≡ None) → m x ≡ None
      dark t (inr z) = z
      dark t (inl z) = absurd (let y : dark_cell ≡ None = sym (cond-true (set x) dark_cell None t) ∙ z in cc)

      by_set : (t : Bool) → set x ≡ t → mem x ≡ joined im m x
      by_set true t = k t ∙ o ∙ ap (λ z. or_else (im x) z) (a t ∙ sym (dark t d))
      by_set false t = sym (cond-false (set x) (only_executed (mem x)) (mem x) t) ∙ e ∙ ap (λ z. or_else z (m x)) (cond-false (set x) (only_executed (im x)) (im x) t)

-- a quiet run behind the stub's quiet steps
quiet_on : (listed : List StartEntry) (at : ℕ) (s t : Machine) (ts us : List Machine) → ((k : ℕ) → list_any (λ j. j == k) stub_places ≡ true → is_known_start listed (at + k) ≡ true)
    → IsPath (StubStep at) s ts → IsPath (Step (is_listed_byte listed)) s ts → last_of s ts ≡ t → IsQuiet Step listed t us → IsQuiet Step listed s (ts ++ us)
quiet_on listed at s t [] us known p q e r = subst (λ (z : Machine). IsQuiet Step listed z us) (sym e) r
quiet_on listed at s t (x ∷ ts) us known p q e r =
    ((ap (is_known_start listed) p.0.there ∙ known p.0.place p.0.listed, q.0), quiet_on listed at x t ts us known p.1 q.1 e r)

-- a quiet run beside memory that it hasn't
quiet_beside : (w : Bytes) (listed : List StartEntry) (us : List Machine) (s : Machine) → ((x : ℕ) → (w x ≡ None) ⊎ (s.mem x ≡ None)) → IsQuiet Step listed s us → IsQuiet Step listed (beside w s) (map (beside w) us)
quiet_beside w listed [] s h r = r
quiet_beside w listed (u ∷ us) s h r =
    let st = r.0.1 in
    ((r.0.0, step_beside w (is_listed_byte listed) s u h st), quiet_beside w listed us u (apart_after w (task_of st.0 (next_after s.rip st.0)) (next_after s.rip st.0) s u h st.1.acts) r.1)

-- the settled file's run is quiet where FILE's is
pub settled_is_quiet : SettledIsQuiet
settled_is_quiet b file further s n vs ks listed g h st q =
    let ss = segments file in let at = stub_at b (length ss) in let o = own_of b file in
    let im = image_of (settled b file) in let set = is_listed_byte listed in let im' = masked set im in
    let few = g.few in let low = h.stub in
    let code = stub_code at o.phdr o.phnum o.entry in
    let long = length-stub at o.phdr o.phnum o.entry in
    let rip : s.rip ≡ at = st.there ∙ starts_at b file h in
    let byte : (k : ℕ) → k < length code → s.mem (at + k) ≡ Some (record { byte = slice_index code k; perms = 5 }) =
    λ k j. ap (λ (z : Bytes). z (at + k)) st.memory
    ∙ first_held im further (at + k) _ (settled_loads b file g (at + k) ∙ first_held (front_image b file) (moved_image b (image_of file)) (at + k) _ (stub_byte b file k (omega (arith, j, long)))) in
    let fixed : IsFixed (masked set s.mem) at code = fixed_masked set code s.mem at (fixed_by code s.mem at (omega (arith, low, long)) byte) in
    let parts : masked set s.mem ≡ joined im' further = ap (masked set) st.memory ∙ fun_ext (λ x. mask_parts set (set x) (im x) (further x) (q.apart x)) in
    let apart' : (x : ℕ) → (im' x ≡ None) ⊎ (further x ≡ None) = λ x. beside_mask set im further x (st.apart x) in
    let v = st.vector in let fits = v.fits in let pa = pairs_at (reg s.core 4) n vs in let m = told o pa ks further in
    let seen_vector : IsVector (joined im' further) (reg s.core 4) n vs ks = record {
      count = seen_word im' further (reg s.core 4) n apart' v.count;
      variables = seen_variables im' vs further (variables_at (reg s.core 4) n) apart' v.variables;
      pairs = seen_pairs im' ks further pa apart' v.pairs;
      fits = v.fits;
    } in
    let is_told : IsTold o (mask set s) n vs ks = record {
      sized = record { core = st.processor.core; world = st.processor.world };
      low = omega (arith, rip, low);
      stub = subst (λ (z : ℕ). IsFixed (masked set s.mem) z (stub_code z o.phdr o.phnum o.entry)) (sym rip) fixed;
      phdr = h.table;
      phnum = omega (arith, few);
      entry = h.entry;
      rcx = st.rcx;
      rdi = st.rdi;
      vector = subst (λ (z : Bytes). IsVector z (reg s.core 4) n vs ks) (sym parts) seen_vector;
    } in
    let r = stub_tells o (mask set s) n vs ks is_told in
    let k = unmask_path set s.rip r.0 s r.1 in
    let u = last_of s k.states in
    let w = front_image b file in let fs = file_start b file further s n vs ks in
    let end = sym k.last ∙ r.3 in
    let told_parts : told o pa ks (masked set s.mem) ≡ joined im' m = ap (λ (z : Bytes). told o pa ks z) parts ∙ told_beside im' ks o further pa (omega (arith, fits)) apart' v.pairs in
    let dark : (x : ℕ) → (dark_map set x ≡ None) ⊎ (m x ≡ None) = told_apart (dark_map set) ks o further pa (omega (arith, fits)) (λ x. dark_apart set further x (q.apart x)) v.pairs in
    let mem : (x : ℕ) → u.mem x ≡ joined im m x =
    λ x. end_byte set u.mem s.mem im further m x (λ e. k.kept x e) (ap (λ (z : Bytes). z x) st.memory) (q.apart x) (dark x) (ap (λ (z : Machine). z.mem x) end ∙ ap (λ (z : Bytes). z x) told_parts) in
    let ap1 = told_apart im ks o further pa (omega (arith, fits)) st.apart v.pairs in
    let ap2 : (x : ℕ) → (image_at b file x ≡ None) ⊎ (m x ≡ None) = subst (λ (z : Bytes). (x : ℕ) → (z x ≡ None) ⊎ (m x ≡ None)) (fun_ext (settled_loads b file g)) ap1 in
    let there : u ≡ beside w fs =
    λ i. record {
      core = (end i).core;
      rip = (end i).rip;
      mem = fun_ext (λ x. mem x ∙ ap (λ z. or_else z (m x)) (settled_loads b file g x) ∙ joined_assoc (w x) (moved_image b (image_of file) x) (m x)) i;
      world = (end i).world;
    } in
    let even = k.even in let most = r.2 in
    record {
      stub = k.states;
      few = omega (arith, even, most);
      own = k.path;
      there = there;
      runs = λ us y. quiet_on listed s.rip s (beside w fs) k.states (map (beside w) us) (λ j e. ap (λ z. is_known_start listed (z + j)) rip ∙ q.starts j e) k.path k.quiet there (quiet_beside w listed us fs (front_apart b file m g.below ap2) y);
      delivered = λ is y. delivered_on listed s.rip s (beside w fs) k.states (map (item_beside w) is) (λ j e. ap (λ z. is_known_start listed (z + j)) rip ∙ q.starts j e) k.path k.quiet there (delivered_quiet w listed is fs (front_apart b file m g.below ap2) y);
    }

-- the original's side of a start pair is a start of the settled file
pair_start : (b : ℕ) (file : List ℕ) (r : Rewriting) (s t : Machine) (n : ℕ) (vs ks : List ℕ) → r.original ≡ image_of (settled b file) → r.entry ≡ entry_of (settled b file)
    → (p : IsStartPair r.original r.patched r.entry s t) → reg s.core 1 ≡ 0 → reg s.core 7 ≡ 0 → IsVector p.further (reg s.core 4) n vs ks
    → IsSettledStart b file p.further s n vs ks
pair_start b file r s t n vs ks o e p c d v = record {
  processor = p.sized;
  there = p.original_at ∙ e;
  memory = p.original ∙ ap (λ (z : Bytes). joined z p.further) o;
  apart = λ x. first_none (image_of (settled b file) x) (r.patched x) (p.further x) (subst (λ (z : Bytes). (joined z r.patched x ≡ None) ⊎ (p.further x ≡ None)) o (p.apart x));
  rcx = c;
  rdi = d;
  vector = v;
}
  where
    first_none : (c d e : Option Cell) → (or_else c d ≡ None) ⊎ (e ≡ None) → (c ≡ None) ⊎ (e ≡ None)
    first_none None d e h = inl refl
    first_none (Some c) d e (inl h) = absurd cc
    first_none (Some c) d e (inr h) = inr h

-- so a patched file of it follows FILE's run
pub settled_is_patched : SettledIsPatched
settled_is_patched b file r s t n vs ks g h o e line p c d v l us y =
    let q = settled_is_quiet b file p.further s n vs ks r.listed g h (pair_start b file r s t n vs ks o e p c d v) l in
    let a = line s t p (q.stub ++ map (beside (front_image b file)) us) (q.runs us y) in
    record { stub = q.stub; own = q.own; states = a.0; follows = a.1; before = a.2 }

-- with deliveries, too
pub settled_goes_on : SettledGoesOn
settled_goes_on b file r s t n vs ks g h o e on k is y =
    let p = on.pair in
    let q = settled_is_quiet b file p.further s n vs ks r.listed g h (pair_start b file r s t n vs ks o e p k.rcx k.rdi k.vector) k.lists in
    let a = on.follows (settled_items b file q.stub is) (q.delivered is y) in
    record { stub = q.stub; own = q.own; items = a.0; follows = a.1; before = a.2 }
