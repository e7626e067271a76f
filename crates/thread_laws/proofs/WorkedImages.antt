-- The images of the worked guest: their entries, and that the patched one is sound for threads.
use Rattle.std.proofs.Common.{◌≡◌, ◌⊎◌, inl, inr, ℕ, zero, suc, ◌+◌, ◌-◌, ◌^◌, ◌<◌, ◌≤◌, true, false, not, ◌&&◌, leb, ltb, List, [], ◌∷◌, length, slice_index, Option, Some, None, refl, sym, ap, ◌∙◌, subst, arith}
use Rattle.std.specs.Prelude.{Contains}
use Rattle.std.specs.Option.{is_some}
use Rattle.std.specs.List.{list_any}
use Rattle.std.specs.List.Sorted.{IsStrictlyIncreasing}
use Rattle.std.proofs.lemmas.Bool.{cases_Bool, true≢false}
use Rattle.pun_base.specs.Memory.{Cell, Bytes, or_else, joined}
use Rattle.pun_base.specs.declared.action.Base.{Base}
use Rattle.pun_base.specs.declared.action.Base.TheVariants.{Cover, Count}
use Rattle.pun_base.specs.declared.action.Comparison.{Comparison}
use Rattle.length_decode.specs.Spelling.{Fields, IsInstruction, spelling}
use Rattle.cpu_state.specs.Bytes.{allows, Stands}
use Rattle.cpu_state.specs.Fixed.{IsFixed}
use Rattle.insn_form.specs.Classes.{template}
use Rattle.insn_form.specs.Filling.{filled}
use Rattle.insn_form.specs.Instruction.{insn_of}
use Rattle.insn_form.specs.Moved.{rel_bytes}
use Rattle.insn_form.specs.Machine.{Machine}
use Rattle.insn_form.proofs.UniqueSteps.{one_instruction}
use Rattle.relocate_insn.specs.Worked.{is_between, spread}
use Rattle.relocate_insn.proofs.PieceSteps.{jump_fields, jump_is, jump_insn}
use Rattle.relocate_insn.proofs.WorkedStates.{small_zeros}
use Rattle.trampoline.specs.Worked.{jump_to_itself}
use Rattle.trampoline.specs.Atomic.{thread_len}
use Rattle.trampoline.specs.EventLists.{mark_at, mark_len}
use Rattle.start_entries.specs.declared.entry.StartEntry.{StartEntry}
use Rattle.start_entries.specs.Finding.{addresses}
use Rattle.start_entries.specs.Leading.{JumpsTo}
use Rattle.start_entries.specs.Standing.{IsEntry, AreEntries}
use Rattle.sound_images.proofs.WorkedImage.{only, between, inside, spread_in, spread_out, spread_held}
use Rattle.thread_runs.specs.ThreadCode.{Kind, code_if}
use Rattle.thread_runs.specs.Event.{AreFew}
use Rattle.thread_runs.specs.Threading.{ThreadSite, Threading, ring_of, is_new, IsThreadSite, IsRingSound, IsThreadSound}
use Rattle.thread_runs.specs.Theorem.{AreStartGuests}
use Rattle.thread_laws.specs.WorkedRuns.{guests_on}
use Rattle.thread_laws.specs.WorkedGuest.{system_call, text, patched_text, original_image, patched_image, call_entry, jump_entry, site_with, patched_with, stacks, core_with}

-- ---- the original

-- both are instructions
pub call_is : IsInstruction system_call
call_is = record {
  formed = record { prefixes = refl; escape = refl; opcode = refl; known = refl; modrm = refl; operand = refl; imm = refl };
  short = omega arith;
}

pub itself_is : IsInstruction jump_to_itself
itself_is = record {
  formed = record { prefixes = refl; escape = refl; opcode = refl; known = refl; modrm = refl; operand = refl; imm = refl };
  short = omega arith;
}

-- they stand
call_stands : Stands original_image 0x401000 (spelling system_call)
call_stands = (refl, refl, (refl, refl, tt))

itself_stands : Stands original_image 0x401002 (spelling jump_to_itself)
itself_stands = (refl, refl, (refl, refl, tt))

-- a state over the original's image
abbrev state_at : ℕ → Machine
state_at rip = record { core = core_with 0 0 0 0; rip = rip; mem = original_image; world = [] }

-- and no others
pub own_call : (f : Fields) → IsInstruction f → Stands original_image 0x401000 (spelling f) → system_call ≡ f
own_call f i h = one_instruction (state_at 0x401000) system_call f (record { spelled = call_is; here = call_stands }) (record { spelled = i; here = h })

pub own_jump : (f : Fields) → IsInstruction f → Stands original_image 0x401002 (spelling f) → jump_to_itself ≡ f
own_jump f i h = one_instruction (state_at 0x401002) jump_to_itself f (record { spelled = itself_is; here = itself_stands }) (record { spelled = i; here = h })

-- the text is code
text_code : (x : ℕ) → 0x401000 ≤ x → x < 0x401007 → (allows 1 (original_image x) ≡ true) × (allows 2 (original_image x) ≡ false)
text_code x l h = let e = spread_in 0x401000 0x401007 5 text x l h in (ap (allows 1) e, ap (allows 2) e)

abbrev entries : List StartEntry
entries = call_entry ∷ jump_entry ∷ []

-- the entries are entries of the original's image
pub are_entries : AreEntries original_image entries
are_entries = record { each = each; ascending = ascending; alone = λ e c u x a b f d m n. by_both e f (which e c) (which f d) x a b m n }
  where
    each : (e : StartEntry) → Contains entries e → IsEntry original_image e
    each e (zero, l, p) = subst (IsEntry original_image) p (record {
      some = omega arith;
      low = omega arith;
      executed = λ x a b. text_code x (omega arith) (omega arith);
      known = λ h. record { fields = system_call; spelled = call_is; stands = call_stands; len = refl; form = refl };
    })
    each e (suc zero, l, p) = subst (IsEntry original_image) p (record {
      some = omega arith;
      low = omega arith;
      executed = λ x a b. text_code x (omega arith) (omega arith);
      known = λ h. record { fields = jump_to_itself; spelled = itself_is; stands = itself_stands; len = refl; form = refl };
    })
    each e (suc (suc i), l, p) = absurd (omega (arith, l))

    ascending : IsStrictlyIncreasing (addresses entries)
    ascending zero l = omega arith
    ascending (suc k) l = absurd (omega (arith, l))

    -- which entry it is
    which : (e : StartEntry) → Contains entries e → (call_entry ≡ e) ⊎ (jump_entry ≡ e)
    which e (zero, l, p) = inl p
    which e (suc zero, l, p) = inr p
    which e (suc (suc i), l, p) = absurd (omega (arith, l))

    -- two that have a common byte are one
    by_both : (e f : StartEntry) → (call_entry ≡ e) ⊎ (jump_entry ≡ e) → (call_entry ≡ f) ⊎ (jump_entry ≡ f) → (x : ℕ) → e.addr ≤ x → x < e.addr + e.len → f.addr ≤ x → x < f.addr + f.len → f ≡ e
    by_both e f (inl p) (inl q) x a b m n = sym q ∙ p
    by_both e f (inr p) (inr q) x a b m n = sym q ∙ p
    by_both e f (inl p) (inr q) x a b m n =
        let i = ap (λ (z : StartEntry). z.addr + z.len) p in let j = ap (λ (z : StartEntry). z.addr) q in absurd (omega (arith, i, j, b, m))
    by_both e f (inr p) (inl q) x a b m n =
        let i = ap (λ (z : StartEntry). z.addr) p in let j = ap (λ (z : StartEntry). z.addr + z.len) q in absurd (omega (arith, i, j, a, n))

-- ---- the patched image

module _ (code : List ℕ) where
  abbrev code_spread : Bytes
  code_spread = spread 0x2401007 (0x2401007 + length code) 5 code

  -- it holds zeros in the private range
  pub in_private : (x : ℕ) → 0x20000 ≤ x → x < 0x21000 → patched_image code x ≡ Some (record { byte = 0; perms = 6 })
  in_private x l h =
      ap (λ (o : Option Cell). or_else o (or_else (spread 0x20000 0x21000 6 [] x) (code_spread x))) (spread_out 0x401000 0x401007 5 patched_text x (λ a b. omega arith))
      ∙ ap (λ (o : Option Cell). or_else o (code_spread x)) (spread_in 0x20000 0x21000 6 [] x l h)

  -- it holds the trampoline
  in_code : (x : ℕ) → 0x2401007 ≤ x → x < 0x2401007 + length code → patched_image code x ≡ Some (record { byte = slice_index code (x - 0x2401007); perms = 5 })
  in_code x l h =
      ap (λ (o : Option Cell). or_else o (or_else (spread 0x20000 0x21000 6 [] x) (code_spread x))) (spread_out 0x401000 0x401007 5 patched_text x (λ a b. omega arith))
      ∙ ap (λ (o : Option Cell). or_else o (code_spread x)) (spread_out 0x20000 0x21000 6 [] x (λ a b. omega arith))
      ∙ spread_in 0x2401007 (0x2401007 + length code) 5 code x l h

  -- the trampoline's addresses are held there alone
  pub in_new : (entry : ℕ) (event : Option Kind) (when : List Comparison) (ring : Option ℕ) (x : ℕ) → 0x2401007 ≤ x → x < 0x2401007 + length code → is_new (patched_with entry event when ring code) x ≡ true
  in_new entry event when ring x l h =
      let p = in_code x l h in
      let q = spread_out 0x401000 0x401007 5 text x (λ a b. omega arith) in
      λ i. is_some (p i) && not (is_some (q i))

  -- what the original holds stays, but for the jump
  kept_text : (event : Option Kind) (when : List Comparison) (x : ℕ) → is_some (original_image x) ≡ true
      → list_any (λ (s : ThreadSite). leb s.entry.addr x && ltb x (s.entry.addr + s.entry.len)) (site_with event when ∷ []) ≡ false → patched_image code x ≡ original_image x
  kept_text event when x h n =
      let k = spread_held 0x401000 0x401007 5 text x h in
      let e : 0x401000 + (x - 0x401000) ≡ x = omega (arith, k.0) in
      ap (λ (o : Option Cell). or_else o (or_else (spread 0x20000 0x21000 6 [] x) (code_spread x))) (spread_in 0x401000 0x401007 5 patched_text x k.0 k.1)
      ∙ ap (λ b. Some (record { byte = b; perms = 5 })) (same (x - 0x401000) (subst (λ z. list_any (λ (s : ThreadSite). leb s.entry.addr z && ltb z (s.entry.addr + s.entry.len)) (site_with event when ∷ []) ≡ false) (sym e) n))
      ∙ sym (spread_in 0x401000 0x401007 5 text x k.0 k.1)
    where
      same : (d : ℕ) → list_any (λ (s : ThreadSite). leb s.entry.addr (0x401000 + d) && ltb (0x401000 + d) (s.entry.addr + s.entry.len)) (site_with event when ∷ []) ≡ false → slice_index patched_text d ≡ slice_index text d
      same zero n = refl
      same (suc zero) n = refl
      same (suc (suc zero)) n = absurd (true≢false n)
      same (suc (suc (suc zero))) n = absurd (true≢false n)
      same (suc (suc (suc (suc d)))) n = refl

-- the jump stands
jumps : (code : List ℕ) → JumpsTo (patched_image code) 0x401002 0x2401007
jumps code = record {
  fields = jump_fields (rel_bytes 0x401007 0x2401007);
  spelled = jump_is _ _ _ _;
  stands = (refl, refl, refl, (refl, refl, refl, (refl, refl, refl, (refl, refl, refl, (refl, refl, refl, tt)))));
  rel = _;
  jump = jump_insn (rel_bytes 0x401007 0x2401007);
  leads = refl;
}

-- the jump to itself can be displaced
displaced : thread_len (insn_of jump_to_itself) 2 0x401002 ≡ Some 5
unfolding template filled
displaced = refl

-- ---- soundness

module _ (entry : ℕ) (event : Option Kind) (when : List Comparison) (ring : Option ℕ) (code : List ℕ)
    (is : code_if event when 0x20000 0 jump_to_itself 0x401004 0x2401007 ≡ code) (few : AreFew when) (short : length code ≤ 256) (fixed : IsFixed (patched_image code) 0x2401007 code)
    (rings : (k : Kind) → event ≡ Some k → ring ≡ ring_of k) (kept : (n : ℕ) → ring ≡ Some n → IsRingSound (patched_with entry event when ring code) n) where
  abbrev r : Threading
  r = patched_with entry event when ring code

  abbrev site : ThreadSite
  site = site_with event when

  long : length (code_if event when 0x20000 0 jump_to_itself 0x401004 0x2401007) ≡ length code
  long = ap (λ (l : List ℕ). length l) is

  site_is : IsThreadSite r site
  site_is = record {
    listed = (1, omega arith, refl);
    alone = refl;
    fields = jump_to_itself;
    spelled = itself_is;
    stands = itself_stands;
    len = refl;
    form = refl;
    size = 5;
    displaced = displaced;
    jump = inl (jumps code);
    few = few;
    code = subst (IsFixed (patched_image code) 0x2401007) (sym is) fixed;
    new = λ x l h. in_new code entry event when ring x l (omega (arith, h, long));
    low = omega (arith, short, long);
  }

  marks : (s : ThreadSite) → Contains r.sites s → (b : Base) → (x : ℕ) → mark_at b 0x20000 s.number ≤ x → x < mark_at b 0x20000 s.number + mark_len b
      → (patched_image code x ≡ Some (record { byte = 0; perms = 6 })) × (original_image x ≡ None)
  marks s c Cover x l h =
      let e = ap (λ (z : ThreadSite). z.number) (only site s c) in
      (in_private code x (omega (arith, e, l)) (omega (arith, e, h)), spread_out 0x401000 0x401007 5 text x (λ a b. omega (arith, e, h, a)))
  marks s c Count x l h =
      let e = ap (λ (z : ThreadSite). z.number) (only site s c) in
      (in_private code x (omega (arith, e, l)) (omega (arith, e, h)), spread_out 0x401000 0x401007 5 text x (λ a b. omega (arith, e, h, a)))

  low : (s : ThreadSite) → Contains r.sites s → (b : Base) → mark_at b 0x20000 s.number + mark_len b ≤ 0x7FFF0000
  low s c Cover = let e = ap (λ (z : ThreadSite). z.number) (only site s c) in omega (arith, e)
  low s c Count = let e = ap (λ (z : ThreadSite). z.number) (only site s c) in omega (arith, e)

  -- the patched image is sound for threads
  pub sound : IsThreadSound r
  sound = record {
    stays = λ x h n. kept_text code event when x h n;
    sites = λ s c. subst (IsThreadSite r) (only site s c) site_is;
    once = λ s t c d e. sym (only site s c) ∙ only site t d;
    numbers = λ s t c d h k e. sym (only site s c) ∙ only site t d;
    kinds = λ s t c d h k. ap (λ (z : ThreadSite). z.event) (sym (only site s c) ∙ only site t d);
    rings = λ s c k e. rings k (ap (λ (z : ThreadSite). z.event) (only site s c) ∙ e);
    apart = λ s t c d x h k. sym (only site s c) ∙ only site t d;
    marks = λ s c b e x l h. marks s c b x l h;
    low = λ s c b e. low s c b;
    ring = kept;
  }

-- ---- what lies beside the images

-- registers of the guest's threads are below 2^64
pub small_core : (rax rcx rsp base : ℕ) → rax < 2 ^ 64 → rcx < 2 ^ 64 → rsp < 2 ^ 64 → (r : ℕ) → slice_index (core_with rax rcx rsp base).regs r < 2 ^ 64
small_core a c p b k l h zero = k
small_core a c p b k l h (suc zero) = l
small_core a c p b k l h (suc (suc zero)) = omega arith
small_core a c p b k l h (suc (suc (suc zero))) = omega arith
small_core a c p b k l h (suc (suc (suc (suc zero)))) = h
small_core a c p b k l h (suc (suc (suc (suc (suc zero))))) = omega arith
small_core a c p b k l h (suc (suc (suc (suc (suc (suc zero)))))) = omega arith
small_core a c p b k l h (suc (suc (suc (suc (suc (suc (suc zero))))))) = omega arith
small_core a c p b k l h (suc (suc (suc (suc (suc (suc (suc (suc r)))))))) = small_zeros 8 r

-- the stacks meet neither image
pub stacks_apart : (code : List ℕ) (x : ℕ) → (joined original_image (patched_image code) x ≡ None) ⊎ (stacks x ≡ None)
stacks_apart code x = elim (cases_Bool (is_between 0x600000 0x602000 x)) [
  | inl b ↦ (let q = inside 0x600000 0x602000 x b in
      let l = q.0 in
      let h = q.1 in
      let out = spread_out 0x401000 0x401007 5 text x (λ a b. omega (arith, b, l)) in
      let first = spread_out 0x401000 0x401007 5 patched_text x (λ a b. omega (arith, b, l)) in
      let second = spread_out 0x20000 0x21000 6 [] x (λ a b. omega (arith, b, l)) in
      let third = spread_out 0x2401007 (0x2401007 + length code) 5 code x (λ a b. omega (arith, a, h)) in
      inl (λ i. or_else (out i) (or_else (first i) (or_else (second i) (third i)))))
  | inr b ↦ inr (spread_out 0x600000 0x602000 6 [] x (λ a c. true≢false (sym (between 0x600000 0x602000 x a c) ∙ b)))
]

-- two threads in front of the jump are start guests, where the guest starts there
pub guests_started : (entry : ℕ) (event : Option Kind) (when : List Comparison) (ring : Option ℕ) (code : List ℕ) → 0x401002 ≡ entry
    → AreStartGuests (patched_with entry event when ring code) (guests_on original_image) (guests_on (patched_image code))
guests_started entry event when ring code e = record {
  threads = refl;
  each = (
    (record { core = record { count = refl; small = small_core 7 5 0x601000 0 (omega arith) (omega arith) (omega arith) }; world = tt }, e),
    ((record { core = record { count = refl; small = small_core 7 6 0x601800 0 (omega arith) (omega arith) (omega arith) }; world = tt }, e), tt),
  );
  further = stacks;
  apart = stacks_apart code;
  original = refl;
  patched = refl;
}
