-- Where a kernel starts a settled file, the stub stands, and the vector; it comes to the file's own start.
use Rattle.std.proofs.Common.{◌≡◌, ◌⊎◌, inl, inr, ℕ, zero, suc, ◌+◌, ◌*◌, ◌-◌, ◌^◌, ◌<◌, ◌==◌, Bool, true, false, cond, ◌&&◌, eqb, nat_le, nat_lt, List, [], ◌∷◌, ◌++◌, length, slice_index, Option, Some, None, refl, sym, ap, ap₂, ◌∙◌, subst, arith, eqb-true, true≢false}
use Rattle.std.proofs.Math.Path.{fun_ext}
use Rattle.std.proofs.lemmas.Bool.{cond-true, le-leb, lt-ltb}
use Rattle.std.proofs.lemmas.List.{get_or-append-add}
use Rattle.pun_base.specs.Memory.{Cell, Bytes, or_else, joined}
use Rattle.cpu_state.specs.Bytes.{advanced, allows, byte_of, with_byte, lacking, number_at, put, put_list, put_number, bytes_of}
use Rattle.cpu_state.specs.Fixed.{IsFixed}
use Rattle.cpu_state.proofs.Readback.{bytes_of_length}
use Rattle.insn_form.specs.Operands.{reg}
use Rattle.elf_read.specs.Entries.{entry_of, segments, table}
use Rattle.elf_read.specs.Image.{image_of}
use Rattle.settle.specs.Sections.{front_header}
use Rattle.elf_read.proofs.FileTables.{length-table}
use Rattle.settle.specs.Stub.{stub_code}
use Rattle.settle.specs.Lengths.{used_len, front_len}
use Rattle.settle.specs.Settled.{settled_table, stub_at, own_table, settled, moved_image, front_image, image_at}
use Rattle.settled_runs.specs.Vector.{OwnTable, Word, Variables, Pairs, with_pair, told, variables_at, pairs_at, IsVector}
use Rattle.settle.specs.Laws.{IsPlaceable}
use Rattle.settled_runs.specs.Laws.{IsTold, own_of, SettledStarts}
use Rattle.settle.proofs.FrontParts.{length-front_header, length-settled_table, length-stub, entry-front_header, after_table, settled_parts}
use Rattle.settle.proofs.MovedImages.{settled_loads}
use Rattle.settled_runs.proofs.WordsBehind.{lacking_stays, pairs_stay}
use Rattle.settled_runs.proofs.StubRuns.{stub_tells}

-- code that is loaded byte by byte stays
pub fixed_by : (bs : List ℕ) (m : Bytes) (a : ℕ) → a + length bs < 2 ^ 64 → ((k : ℕ) → k < length bs → m (a + k) ≡ Some (record { byte = slice_index bs k; perms = 5 })) → IsFixed m a bs
fixed_by [] m a l h = tt
fixed_by (b ∷ bs) m a l h =
    let z : a + 0 ≡ a = omega arith in
    let e : m a ≡ Some (record { byte = b; perms = 5 }) = ap m (sym z) ∙ h 0 (omega arith) in
    let n : a + 1 ≡ advanced a 1 = omega arith in (
      ap (allows 1) e,
      ap (allows 2) e,
      ap byte_of e,
      subst (λ (z : ℕ). IsFixed m z bs) n (fixed_by bs m (a + 1) (omega arith) (λ k j. let s : a + 1 + k ≡ a + suc k = omega arith in ap m s ∙ h (suc k) (omega arith))),
    )

-- the front's byte at a place of the stub
pub stub_byte : (b : ℕ) (file : List ℕ) (k : ℕ) → k < 89
    → front_image b file (stub_at b (length (segments file)) + k)
    ≡ Some (record { byte = slice_index (stub_code (stub_at b (length (segments file))) (own_table b file) (length (segments file)) (b + entry_of file)) k; perms = 5 })
unfolding used_len
stub_byte b file k l =
    let ss = segments file in let n = length ss in let at = stub_at b n in
    let lo = b - front_len n in let x = at + k in
    let h = front_header at n file in let t = table (settled_table b ss) in
    let s = stub_code at (own_table b file) n (b + entry_of file) in
    let lh = length-front_header at n file in let lt = length-table (settled_table b ss) in let lst = length-settled_table b ss in
    let far : x - lo ≡ length h + (length t + k) = omega (arith, lh, lt, lst) in
    let inside : (nat_le lo x && nat_lt (x - lo) (used_len n)) ≡ true = ap₂ (λ p q. p && q) (le-leb lo x (omega arith)) (lt-ltb (x - lo) (used_len n) (omega (arith, lh, lt, lst, far, l))) in
    let byte : slice_index (h ++ (t ++ s)) (x - lo) ≡ slice_index s k =
    ap (slice_index (h ++ (t ++ s))) far ∙ get_or-append-add h (t ++ s) (length t + k) 0 ∙ get_or-append-add t s k 0 in
    cond-true (nat_le lo x && nat_lt (x - lo) (used_len n)) _ _ inside ∙ (λ i. Some (record { byte = byte i; perms = 5 }))

-- what the first of two maps holds, both together hold
pub first_held : (m w : Bytes) (x : ℕ) (c : Cell) → m x ≡ Some c → joined m w x ≡ Some c
first_held m w x c e = ap (λ z. or_else z (w x)) e

-- the settled file starts at the stub
pub starts_at : (b : ℕ) (file : List ℕ) → IsPlaceable b file → entry_of (settled b file) ≡ stub_at b (length (segments file))
starts_at b file h =
    let n = length (segments file) in let l = h.stub in
    ap (λ (z : List ℕ). entry_of z) (settled_parts b file) ∙ entry-front_header (stub_at b n) n file (table (settled_table b (segments file)) ++ after_table b file) (omega (arith, l))

-- a memory that doesn't meet the image
module _ (im : Bytes) where
  abbrev IsApart : Bytes → Type 0
  IsApart m = (x : ℕ) → (im x ≡ None) ⊎ (m x ≡ None)

  beside : (m : Bytes) (p x : ℕ) → IsApart m → allows p (m x) ≡ true → im x ≡ None
  beside m p x h a = step (h x)
    where
      step : (im x ≡ None) ⊎ (m x ≡ None) → im x ≡ None
      step (inl e) = e
      step (inr e) = absurd (true≢false (sym a ∙ ap (allows p) e))

  parts : (p : ℕ) (t : Bool) (a : ℕ) (r : Option ℕ) → cond t r (Some a) ≡ None → (t ≡ true) × (r ≡ None)
  parts p true a r e = (refl, e)
  parts p false a r e = absurd cc

  -- what is held there is seen in both together
  seen : (m : Bytes) (p a n : ℕ) → IsApart m → lacking p m a n ≡ None → (lacking p (joined im m) a n ≡ None) × (number_at (joined im m) a n ≡ number_at m a n)
  seen m p a zero h e = (refl, refl)
  seen m p a (suc n) h e =
      let q = parts p (allows p (m a)) a (lacking p m (advanced a 1) n) e in
      let j : joined im m a ≡ m a = ap (λ z. or_else z (m a)) (beside m p a h q.0) in
      let r = seen m p (advanced a 1) n h q.1 in
      (ap₂ (λ t z. cond t z (Some a)) (ap (allows p) j ∙ q.0) r.0, ap₂ (λ x y. x + 256 * y) (ap byte_of j) r.1)

  pub seen_word : (m : Bytes) (a x : ℕ) → IsApart m → Word m a x → Word (joined im m) a x
  seen_word m a x h w = let r = seen m 4 a 8 h w.0 in (r.0, r.1 ∙ w.1)

  pub seen_variables : (vs : List ℕ) (m : Bytes) (a : ℕ) → IsApart m → Variables m a vs → Variables (joined im m) a vs
  seen_variables [] m a h w = seen_word m a 0 h w
  seen_variables (v ∷ vs) m a h w = (seen_word m a v h w.0, w.1, w.2, seen_variables vs m (a + 8) h w.3)

  pub seen_pairs : (ks : List ℕ) (m : Bytes) (a : ℕ) → IsApart m → Pairs m a ks → Pairs (joined im m) a ks
  seen_pairs [] m a h w = seen_word m a 0 h w
  seen_pairs (k ∷ ks) m a h w = (seen_word m a k h w.0, w.1, w.2, (seen m 2 (a + 8) 8 h w.3).0, seen_pairs ks m (a + 16) h w.4)

  -- a write there
  put_at : (t : Bool) (c d : Option Cell) (b : ℕ) → (t ≡ true → c ≡ None) → cond t (with_byte b (or_else c d)) (or_else c d) ≡ or_else c (cond t (with_byte b d) d)
  put_at false c d b f = refl
  put_at true c d b f = let e = f refl in ap (λ z. with_byte b (or_else z d)) e ∙ ap (λ z. or_else z (with_byte b d)) (sym e)

  put_beside : (m : Bytes) (a b : ℕ) → im a ≡ None → put (joined im m) a b ≡ joined im (put m a b)
  put_beside m a b e = fun_ext (λ x. put_at (eqb x a) (im x) (m x) b (λ q. ap im (eqb-true x a q) ∙ e))

  none_stays : (t : Bool) (c : Option Cell) (b : ℕ) → c ≡ None → cond t (with_byte b c) c ≡ None
  none_stays false c b e = e
  none_stays true c b e = ap (with_byte b) e

  apart_stays : (m : Bytes) (a b : ℕ) → IsApart m → IsApart (put m a b)
  apart_stays m a b h x = step (h x)
    where
      step : (im x ≡ None) ⊎ (m x ≡ None) → (im x ≡ None) ⊎ (put m a b x ≡ None)
      step (inl e) = inl e
      step (inr e) = inr (none_stays (eqb x a) (m x) b e)

  list_beside : (bs : List ℕ) (m : Bytes) (p a : ℕ) → IsApart m → lacking p m a (length bs) ≡ None → (put_list (joined im m) a bs ≡ joined im (put_list m a bs)) × IsApart (put_list m a bs)
  list_beside [] m p a h e = (refl, h)
  list_beside (b ∷ bs) m p a h e =
      let q = parts p (allows p (m a)) a (lacking p m (advanced a 1) (length bs)) e in
      let g = apart_stays m a b h in
      let r = list_beside bs (put m a b) p (advanced a 1) g (lacking_stays m a p (advanced a 1) (length bs) (b ∷ []) ∙ q.1) in
      (ap (λ (z : Bytes). put_list z (advanced a 1) bs) (put_beside m a b (beside m p a h q.0)) ∙ r.0, r.1)

  -- a memory, and the same beside the image
  record Both (x y : Bytes) (a : ℕ) (ks : List ℕ) : Type 0 where
    pub same : x ≡ joined im y
    pub apart : IsApart y
    pub pairs : Pairs y a ks

  either : (t : Bool) {x1 y1 x2 y2 : Bytes} {a : ℕ} {ks : List ℕ} → Both x1 y1 a ks → Both x2 y2 a ks → Both (cond t x1 x2) (cond t y1 y2) a ks
  either true p q = p
  either false p q = q

  put_both : (v a : ℕ) (m : Bytes) (ks : List ℕ) → a + 16 * length ks + 32 < 2 ^ 64 → IsApart m → lacking 2 m (a + 8) 8 ≡ None → Pairs m (a + 16) ks
      → Both (put_number (joined im m) (a + 8) 8 v) (put_number m (a + 8) 8 v) (a + 16) ks
  put_both v a m ks l h e p =
      let r = list_beside (bytes_of 8 v) m 2 (a + 8) h (subst (λ (z : ℕ). lacking 2 m (a + 8) z ≡ None) (sym (bytes_of_length 8 v)) e) in
      record { same = r.0; apart = r.1; pairs = pairs_stay ks m (a + 8) v (a + 16) (omega arith) (omega arith) p }

  -- the vector is told there
  pub told_beside : (ks : List ℕ) (o : OwnTable) (m : Bytes) (a : ℕ) → a + 16 * length ks + 16 < 2 ^ 64 → IsApart m → Pairs m a ks
      → told o a ks (joined im m) ≡ joined im (told o a ks m)
  told_beside [] o m a l h p = refl
  told_beside (k ∷ ks) o m a l h p =
      let one = λ (v : ℕ). put_both v a m ks (omega arith) h p.3 p.4 in
      let plain : Both (joined im m) m (a + 16) ks = record { same = refl; apart = h; pairs = p.4 } in
      let r : Both (with_pair o a k (joined im m)) (with_pair o a k m) (a + 16) ks =
      either (k == 3) (one o.phdr) (either (k == 5) (one o.phnum) (either (k == 9) (one o.entry) plain)) in
      ap (λ (z : Bytes). told o (a + 16) ks z) r.same ∙ told_beside ks o (with_pair o a k m) (a + 16) (omega arith) r.apart r.pairs

  -- and stays beside the image
  pub told_apart : (ks : List ℕ) (o : OwnTable) (m : Bytes) (a : ℕ) → a + 16 * length ks + 16 < 2 ^ 64 → IsApart m → Pairs m a ks → IsApart (told o a ks m)
  told_apart [] o m a l h p = h
  told_apart (k ∷ ks) o m a l h p =
      let one = λ (v : ℕ). put_both v a m ks (omega arith) h p.3 p.4 in
      let plain : Both (joined im m) m (a + 16) ks = record { same = refl; apart = h; pairs = p.4 } in
      let r : Both (with_pair o a k (joined im m)) (with_pair o a k m) (a + 16) ks =
      either (k == 3) (one o.phdr) (either (k == 5) (one o.phnum) (either (k == 9) (one o.entry) plain)) in
      told_apart ks o (with_pair o a k m) (a + 16) (omega arith) r.apart r.pairs

-- where a kernel starts a settled file, it comes to the state in which a kernel starts the original at the base
pub settled_starts : SettledStarts
settled_starts b file further s n vs ks g h st =
    let ss = segments file in let at = stub_at b (length ss) in let o = own_of b file in
    let im = image_of (settled b file) in
    let few = g.few in let low = h.stub in
    let code = stub_code at o.phdr o.phnum o.entry in
    let long = length-stub at o.phdr o.phnum o.entry in
    let rip : s.rip ≡ at = st.there ∙ starts_at b file h in
    let byte : (k : ℕ) → k < length code → s.mem (at + k) ≡ Some (record { byte = slice_index code k; perms = 5 }) =
    λ k j. ap (λ (z : Bytes). z (at + k)) st.memory
    ∙ first_held im further (at + k) _ (settled_loads b file g (at + k) ∙ first_held (front_image b file) (moved_image b (image_of file)) (at + k) _ (stub_byte b file k (omega (arith, j, long)))) in
    let fixed : IsFixed s.mem at code = fixed_by code s.mem at (omega (arith, low, long)) byte in
    let v = st.vector in
    let seen_vector : IsVector (joined im further) (reg s.core 4) n vs ks = record {
      count = seen_word im further (reg s.core 4) n st.apart v.count;
      variables = seen_variables im vs further (variables_at (reg s.core 4) n) st.apart v.variables;
      pairs = seen_pairs im ks further (pairs_at (reg s.core 4) n vs) st.apart v.pairs;
      fits = v.fits;
    } in
    let is_told : IsTold o s n vs ks = record {
      sized = st.processor;
      low = omega (arith, rip, low);
      stub = subst (λ (z : ℕ). IsFixed s.mem z (stub_code z o.phdr o.phnum o.entry)) (sym rip) fixed;
      phdr = h.table;
      phnum = omega (arith, few);
      entry = h.entry;
      rcx = st.rcx;
      rdi = st.rdi;
      vector = subst (λ (z : Bytes). IsVector z (reg s.core 4) n vs ks) (sym st.memory) seen_vector;
    } in
    let r = stub_tells o s n vs ks is_told in
    let fits = v.fits in
    let pa = pairs_at (reg s.core 4) n vs in
    let mem : told o pa ks s.mem ≡ joined (image_at b file) (told o pa ks further) =
    ap (λ (z : Bytes). told o pa ks z) st.memory ∙ told_beside im ks o further pa fits st.apart v.pairs
    ∙ ap (λ (z : Bytes). joined z (told o pa ks further)) (fun_ext (settled_loads b file g)) in
    (r.0, r.1, r.2, r.3 ∙ (λ i. record { core = s.core; rip = b + entry_of file; mem = mem i; world = s.world }))
