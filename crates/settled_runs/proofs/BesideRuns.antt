-- A run is made beside memory that it hasn't.
use Rattle.std.proofs.Common.{◌≡◌, ◌⊎◌, inl, inr, ℕ, ◌+◌, ◌-◌, ◌≤◌, Bool, true, false, cond, ◌&&◌, nat_le, nat_lt, is_some, List, [], ◌∷◌, ◌++◌, length, map, Option, Some, None, option_map, Result, Ok, Err, refl, sym, ap, ◌∙◌, subst, arith, true≢false}
use Rattle.std.proofs.Math.Path.{fun_ext}
use Rattle.std.proofs.lemmas.Bool.{cond-false, cases_lt}
use Rattle.std.proofs.lemmas.Bool.Decides.{nat_tests}
use Rattle.pun_base.specs.Memory.{Cell, Bytes, or_else, joined}
use Rattle.cpu_state.specs.Bytes.{advanced, allows, byte_of, Stands}
use Rattle.length_decode.specs.Spelling.{spelling}
use Rattle.insn_form.specs.Operands.{reg}
use Rattle.insn_form.specs.Plan.{Halt}
use Rattle.insn_form.specs.Machine.{Machine, Task, act, view}
use Rattle.insn_form.specs.Step.{Step, next_after, task_of}
use Rattle.insn_form.specs.Laws.{viewed, SameView}
use Rattle.insn_form.specs.Runs.{nowhere, IsRun, IsPath, last_of}
use Rattle.insn_form.proofs.TouchedMemory.{touches, keeps_permissions}
use Rattle.insn_form.proofs.FrameRule.{frame, keep}
use Rattle.elf_read.specs.Entries.{entry_of, segments}
use Rattle.elf_read.specs.Image.{image_of}
use Rattle.settle.specs.Lengths.{front_len, used_len}
use Rattle.settle.specs.Settled.{settled, moved_image, front_image, image_at}
use Rattle.settled_runs.specs.Vector.{told, pairs_at}
use Rattle.settled_runs.specs.Laws.{StubStep, own_of, start_at, beside, BesideRuns, file_start, SettledFollows}
use Rattle.settle.proofs.FrontParts.{used_fits}
use Rattle.settle.proofs.MovedImages.{settled_loads}
use Rattle.settled_runs.proofs.StartedFiles.{settled_starts, told_apart}

module _ (w : Bytes) where
  -- the addresses of the further memory
  abbrev pub of_w : ℕ → Bool
  of_w x = is_some (w x)

  abbrev pub IsApart : Bytes → Type 0
  IsApart m = (x : ℕ) → (w x ≡ None) ⊎ (m x ≡ None)

  -- the set's bytes aren't held
  pub not_held : (m : Bytes) (x : ℕ) → IsApart m → of_w x ≡ true → m x ≡ None
  not_held m x h t = step (h x)
    where
      step : (w x ≡ None) ⊎ (m x ≡ None) → m x ≡ None
      step (inr e) = e
      step (inl e) = absurd (true≢false (sym t ∙ ap is_some e))

  -- what is held isn't in the set
  seen_at : (m : Bytes) (p x : ℕ) → IsApart m → allows p (m x) ≡ true → joined w m x ≡ m x
  seen_at m p x h a = step (h x)
    where
      step : (w x ≡ None) ⊎ (m x ≡ None) → joined w m x ≡ m x
      step (inl e) = ap (λ z. or_else z (m x)) e
      step (inr e) = absurd (true≢false (sym a ∙ ap (allows p) e))

  stands : (bs : List ℕ) (m : Bytes) (a : ℕ) → IsApart m → Stands m a bs → Stands (joined w m) a bs
  stands [] m a h s = tt
  stands (b ∷ bs) m a h s =
      let e = seen_at m 1 a h s.0 in
      (ap (allows 1) e ∙ s.0, ap byte_of e ∙ s.1, stands bs m (advanced a 1) h s.2)

  pub hidden_at : (c d : Option Cell) → cond (is_some c) None d ≡ cond (is_some c) None (or_else c d)
  hidden_at None d = refl
  hidden_at (Some c) d = refl

  same_view : (s : Machine) → SameView of_w s (beside w s)
  same_view s = λ i. record { core = s.core; rip = 0; mem = fun_ext (λ x. hidden_at (w x) (s.mem x)) i; world = s.world }

  -- memory after it, byte by byte
  pub byte_after : (c d e f : Option Cell) → cond (is_some c) None d ≡ cond (is_some c) None e → (is_some c ≡ true → e ≡ or_else c f) → e ≡ or_else c d
  byte_after None d e f q r = sym q
  byte_after (Some c) d e f q r = r refl

  pub after : (set : ℕ → Bool) (t : Machine) (r : Result Machine Halt) → viewed set (Ok t) ≡ viewed set r → (u : Machine) × (r ≡ Ok u) × (view set t ≡ view set u)
  after set t (Ok u) e = (u, refl, of_ok e)
    where
      of_ok : {x y : Machine} → ◌≡◌ {A = Result Machine Halt} (Ok x) (Ok y) → x ≡ y
      of_ok q = cc
  after set t (Err h) e = absurd cc

  acts_beside : (task : Task) (next : ℕ) (s t : Machine) → IsApart s.mem → act task next s ≡ Ok t → act task next (beside w s) ≡ Ok (beside w t)
  acts_beside task next s t h e =
      let l = touches of_w task next s t (λ a q. not_held s.mem a h q) e in
      let f = sym (ap (viewed of_w) e) ∙ frame of_w task next s (beside w s) (same_view s) l in
      let r = after of_w t (act task next (beside w s)) f in
      let u = r.0 in
      let k = keep of_w task next (beside w s) u l r.1 in
      let m : u.mem ≡ joined w t.mem = fun_ext (λ x. byte_after (w x) (t.mem x) (u.mem x) (s.mem x) (ap (λ (z : Machine). z.mem x) r.2) (λ q. k x q)) in
      let v : u ≡ beside w t = λ i. record { core = sym (ap (λ (z : Machine). z.core) r.2) i; rip = sym (ap (λ (z : Machine). z.rip) r.2) i; mem = m i; world = sym (ap (λ (z : Machine). z.world) r.2) i } in
      r.1 ∙ ap Ok v

  pub none_of : (c d : Option Cell) → option_map (λ (z : Cell). z.perms) c ≡ option_map (λ (z : Cell). z.perms) d → d ≡ None → c ≡ None
  none_of None d e n = refl
  none_of (Some c) d e n = absurd (let q : Some c.perms ≡ None = e ∙ ap (option_map (λ (z : Cell). z.perms)) n in cc)

  pub apart_after : (task : Task) (next : ℕ) (s t : Machine) → IsApart s.mem → act task next s ≡ Ok t → IsApart t.mem
  apart_after task next s t h e x = step (h x)
    where
      step : (w x ≡ None) ⊎ (s.mem x ≡ None) → (w x ≡ None) ⊎ (t.mem x ≡ None)
      step (inl q) = inl q
      step (inr q) = inr (none_of (t.mem x) (s.mem x) (keeps_permissions task next s t e x) q)

  pub step_beside : (set : ℕ → Bool) (s t : Machine) → IsApart s.mem → Step set s t → Step set (beside w s) (beside w t)
  step_beside set s t h st =
      let f = st.0 in (
        f,
        record {
          at = record { spelled = st.1.at.spelled; here = stands (spelling f) s.mem s.rip h st.1.at.here };
          apart = st.1.apart;
          acts = acts_beside (task_of f (next_after s.rip f)) (next_after s.rip f) s t h st.1.acts;
        },
      )

  pub runs_beside : (us : List Machine) (s : Machine) → IsApart s.mem → IsRun Step s us → IsRun Step (beside w s) (map (beside w) us)
  runs_beside [] s h r = tt
  runs_beside (u ∷ us) s h r =
      let st = r.0 in
      (step_beside nowhere s u h st, runs_beside us u (apart_after (task_of st.0 (next_after s.rip st.0)) (next_after s.rip st.0) s u h st.1.acts) r.1)

pub beside_runs : BesideRuns
beside_runs w s us h r = runs_beside w us s h r

-- the front stands below the base
front_below : (b : ℕ) (file : List ℕ) (x : ℕ) → front_len (length (segments file)) ≤ b → b ≤ x → front_image b file x ≡ None
front_below b file x l k =
    let n = length (segments file) in let u = used_fits n in
    let e : (nat_le (b - front_len n) x && nat_lt (x - (b - front_len n)) (used_len n)) ≡ false = out (b - front_len n) (used_len n) x (omega (arith, l, k, u)) in
    cond-false (nat_le (b - front_len n) x && nat_lt (x - (b - front_len n)) (used_len n)) _ _ e
  where
    out : (lo len x : ℕ) → lo + len ≤ x → (nat_le lo x && nat_lt (x - lo) len) ≡ false
    out lo len x q = grind (arith, nat_tests)

joined_none : (c d : Option Cell) → c ≡ None → d ≡ None → or_else c d ≡ None
joined_none c d e f = ap (λ z. or_else z d) e ∙ f

pub joined_assoc : (c d e : Option Cell) → or_else (or_else c d) e ≡ or_else c (or_else d e)
joined_assoc None d e = refl
joined_assoc (Some c) d e = refl

-- the front meets neither the moved image nor what is further
pub front_apart : (b : ℕ) (file : List ℕ) (m : Bytes) → front_len (length (segments file)) ≤ b → ((x : ℕ) → (image_at b file x ≡ None) ⊎ (m x ≡ None))
    → (x : ℕ) → (front_image b file x ≡ None) ⊎ (joined (moved_image b (image_of file)) m x ≡ None)
front_apart b file m l h x = elim (cases_lt x b) [
  | inr k ↦ inl (front_below b file x l k)
  | inl k ↦ by_front (front_image b file x) refl (h x) (cond-false (nat_le b x) (image_of file (x - b)) None (grind (arith, nat_tests)))
]
  where
    by_front : (c : Option Cell) → front_image b file x ≡ c → (image_at b file x ≡ None) ⊎ (m x ≡ None) → moved_image b (image_of file) x ≡ None
        → (front_image b file x ≡ None) ⊎ (joined (moved_image b (image_of file)) m x ≡ None)
    by_front None e q v = inl e
    by_front (Some c) e (inr q) v = inr (joined_none (moved_image b (image_of file) x) (m x) v q)
    by_front (Some c) e (inl q) v = absurd (let z : Some c ≡ None = ap (λ y. or_else y (moved_image b (image_of file) x)) (sym e) ∙ q in cc)

-- a run behind a path of steps that are no calls
behind_path : (at : ℕ) (s t : Machine) (ts us : List Machine) → IsPath (StubStep at) s ts → last_of s ts ≡ t → IsRun Step t us → IsRun Step s (ts ++ us)
behind_path at s t [] us p e r = subst (λ (z : Machine). IsRun Step z us) (sym e) r
behind_path at s t (x ∷ ts) us p e r = ((p.0.own.0, p.0.own.1), behind_path at x t ts us p.1 e r)

-- whatever run the original makes at the base, the settled file makes it too
pub settled_follows : SettledFollows
settled_follows b file further s n vs ks g h st =
    let r = settled_starts b file further s n vs ks g h st in
    let w = front_image b file in let fs = file_start b file further s n vs ks in
    let o = own_of b file in let pa = pairs_at (reg s.core 4) n vs in
    let m = told o pa ks further in
    let fits = st.vector.fits in
    let ap1 : (x : ℕ) → (image_of (settled b file) x ≡ None) ⊎ (m x ≡ None) = told_apart (image_of (settled b file)) ks o further pa (omega (arith, fits)) st.apart st.vector.pairs in
    let ap2 : (x : ℕ) → (image_at b file x ≡ None) ⊎ (m x ≡ None) = subst (λ (z : Bytes). (x : ℕ) → (z x ≡ None) ⊎ (m x ≡ None)) (fun_ext (settled_loads b file g)) ap1 in
    let e : start_at b file further s n vs ks ≡ beside w fs =
    λ i. record { core = s.core; rip = b + entry_of file; mem = fun_ext (λ x. joined_assoc (w x) (moved_image b (image_of file) x) (m x)) i; world = s.world } in
    let there = r.3 ∙ e in
    record {
      stub = r.0;
      few = r.2;
      own = r.1;
      there = there;
      runs = λ us u. behind_path s.rip s (beside w fs) r.0 (map (beside w) us) r.1 there (runs_beside w us fs (front_apart b file m g.below ap2) u);
    }
