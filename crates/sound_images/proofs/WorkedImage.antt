-- The image with one displaced MOV: what it holds, its entries and its report.
use Rattle.std.proofs.Common.{◌≡◌, ◌⊎◌, inl, inr, ℕ, zero, suc, ◌+◌, ◌-◌, ◌<◌, ◌≤◌, Bool, true, false, leb, ltb, List, [], ◌∷◌, slice_index, Option, Some, None, refl, sym, ap, ◌∙◌, subst, arith}
use Rattle.std.specs.List.{list_all}
use Rattle.relocate_insn.specs.Pieces.{jump_code}
use Rattle.relocate_insn.specs.Worked.{is_between, spread}
use Rattle.std.specs.Prelude.{Contains}
use Rattle.std.specs.Option.{is_some}
use Rattle.std.proofs.lemmas.Bool.{agree_below, agree_below_at, cases_Bool, and_parts, and_from, leb-true, ltb-true, le-leb, lt-ltb, cond-true, cond-false, false≢true}
use Rattle.pun_base.specs.Memory.{Cell, Bytes, or_else, joined}
use Rattle.cpu_state.specs.Bytes.{allows, Stands}
use Rattle.length_decode.specs.Spelling.{IsInstruction, spelling}
use Rattle.insn_form.specs.Instruction.{insn_of}
use Rattle.relocate_insn.proofs.WorkedStates.{small_registers}
use Rattle.trampoline.specs.Worked.{mov_sixty, sixty_code}
use Rattle.start_entries.specs.declared.entry.StartEntry.{StartEntry}
use Rattle.start_entries.specs.Rows.{mov_nop_nop}
use Rattle.std.specs.List.Sorted.{IsStrictlyIncreasing}
use Rattle.start_entries.specs.Finding.{addresses}
use Rattle.start_entries.specs.Standing.{IsEntry, AreEntries}
use Rattle.patch_report.specs.declared.origin.Version.TheVariants.{Two}
use Rattle.patch_report.specs.Grammar.{IsTold}
use Rattle.image_runs.specs.Quiet.{IsStartPair}
use Rattle.sound_images.specs.Worked.{nop, patched_bytes, original_image, patched_image, entries, report, state_at}

-- a list of one contains that one alone
pub only : {A : Type 0} (x y : A) → Contains (x ∷ []) y → x ≡ y
only x y (zero, l, e) = e
only x y (suc i, l, e) = absurd (omega (arith, l))

-- a test that is true at each of a few addresses
pub by_table : (test : ℕ → Bool) (lo n x : ℕ) → agree_below (λ k. test (lo + k)) (λ k. true) n ≡ true → lo ≤ x → x < lo + n → test x ≡ true
by_table test lo n x h l k =
    let e : lo + (x - lo) ≡ x = omega arith in
    ap test (sym e) ∙ agree_below_at (λ k. test (lo + k)) (λ k. true) n (x - lo) h (omega arith)

-- an address that passes the test lies between two others
pub inside : (lo hi x : ℕ) → is_between lo hi x ≡ true → (lo ≤ x) × (x < hi)
inside lo hi x h = let q = and_parts (leb lo x) (ltb x hi) h in (leb-true lo x q.0, ltb-true x hi q.1)

-- an address between two others passes the test
pub between : (lo hi x : ℕ) → lo ≤ x → x < hi → is_between lo hi x ≡ true
between lo hi x l h = and_from (leb lo x) (ltb x hi) (le-leb lo x l) (lt-ltb x hi h)

-- an address that isn't between two others fails the test
pub outside : (lo hi x : ℕ) → (lo ≤ x → x < hi → ⊥) → is_between lo hi x ≡ false
outside lo hi x n = elim (cases_Bool (is_between lo hi x)) [ inl h ↦ absurd (let q = inside lo hi x h in n q.0 q.1) | inr h ↦ h ]

-- what is spread between two addresses is held there
pub spread_in : (lo hi perms : ℕ) (bs : List ℕ) (x : ℕ) → lo ≤ x → x < hi
    → spread lo hi perms bs x ≡ Some (record { byte = slice_index bs (x - lo); perms = perms })
spread_in lo hi perms bs x l h = cond-true (is_between lo hi x) (Some (record { byte = slice_index bs (x - lo); perms = perms })) None
    (between lo hi x l h)

-- what is spread between two addresses isn't held elsewhere
pub spread_out : (lo hi perms : ℕ) (bs : List ℕ) (x : ℕ) → (lo ≤ x → x < hi → ⊥) → spread lo hi perms bs x ≡ None
spread_out lo hi perms bs x n = cond-false (is_between lo hi x) (Some (record { byte = slice_index bs (x - lo); perms = perms })) None
    (outside lo hi x n)

-- what is held of it lies between them
pub spread_held : (lo hi perms : ℕ) (bs : List ℕ) (x : ℕ) → is_some (spread lo hi perms bs x) ≡ true → (lo ≤ x) × (x < hi)
spread_held lo hi perms bs x h = elim (cases_Bool (is_between lo hi x)) [
  | inl b ↦ inside lo hi x b
  | inr b ↦ absurd (false≢true
      (sym (ap is_some (cond-false (is_between lo hi x) (Some (record { byte = slice_index bs (x - lo); perms = perms })) None b)) ∙ h))
]

-- the original holds nothing below its text
pub text_none : (x : ℕ) → x < 0x401000 → original_image x ≡ None
text_none x l = spread_out 0x401000 0x401007 5 mov_nop_nop x (λ a b. omega arith)

-- the patched image holds zeros in the private range
pub in_private_range : (x : ℕ) → 0x20000 ≤ x → x < 0x21000 → patched_image x ≡ Some (record { byte = 0; perms = 6 })
in_private_range x l h =
    ap (λ (o : Option Cell). or_else o (or_else (spread 0x20000 0x21000 6 [] x) (spread 0x21000 0x22000 5 sixty_code x)))
    (spread_out 0x401000 0x401007 5 patched_bytes x (λ a b. omega arith))
    ∙ ap (λ (o : Option Cell). or_else o (spread 0x21000 0x22000 5 sixty_code x)) (spread_in 0x20000 0x21000 6 [] x l h)

-- the patched image holds the trampoline, with zeros after it, on its page
pub in_trampolines : (x : ℕ) → 0x21000 ≤ x → x < 0x22000 → patched_image x ≡ Some
    (record { byte = slice_index sixty_code (x - 0x21000); perms = 5 })
in_trampolines x l h =
    ap (λ (o : Option Cell). or_else o (or_else (spread 0x20000 0x21000 6 [] x) (spread 0x21000 0x22000 5 sixty_code x)))
    (spread_out 0x401000 0x401007 5 patched_bytes x (λ a b. omega arith))
    ∙ ap (λ (o : Option Cell). or_else o (spread 0x21000 0x22000 5 sixty_code x)) (spread_out 0x20000 0x21000 6 [] x (λ a b. omega arith))
    ∙ spread_in 0x21000 0x22000 5 sixty_code x l h

-- the patched image holds nothing else
pub nowhere_else : (x : ℕ) → (0x401000 ≤ x → x < 0x401007 → ⊥) → (0x20000 ≤ x → x < 0x22000 → ⊥) → patched_image x ≡ None
nowhere_else x t n =
    ap (λ (o : Option Cell). or_else o (or_else (spread 0x20000 0x21000 6 [] x) (spread 0x21000 0x22000 5 sixty_code x)))
    (spread_out 0x401000 0x401007 5 patched_bytes x t)
    ∙ ap (λ (o : Option Cell). or_else o (spread 0x21000 0x22000 5 sixty_code x))
    (spread_out 0x20000 0x21000 6 [] x (λ a b. n a (omega arith)))
    ∙ spread_out 0x21000 0x22000 5 sixty_code x (λ a b. n (omega arith) b)

-- the MOV is an instruction
pub sixty_is : IsInstruction mov_sixty
sixty_is = record {
  formed = record { prefixes = refl; escape = refl; opcode = refl; known = refl; modrm = refl; operand = refl; imm = refl };
  short = omega arith;
}

-- NOP is one
pub nop_is : IsInstruction nop
nop_is = record {
  formed = record { prefixes = refl; escape = refl; opcode = refl; known = refl; modrm = refl; operand = refl; imm = refl };
  short = omega arith;
}

-- the MOV stands
pub sixty_stands : Stands original_image 0x401000 (spelling mov_sixty)
sixty_stands = (refl, refl, (refl, refl, (refl, refl, (refl, refl, (refl, refl, tt)))))

-- the entry of the MOV
abbrev pub e0 : StartEntry
e0 = record { addr = 0x401000; len = 5; form = Some (insn_of mov_sixty); shared = false }

-- the entry of the first NOP
abbrev pub e1 : StartEntry
e1 = record { addr = 0x401005; len = 1; form = Some (insn_of nop); shared = false }

-- the entry of the second NOP
abbrev pub e2 : StartEntry
e2 = record { addr = 0x401006; len = 1; form = Some (insn_of nop); shared = false }

-- the text is code
pub text_code : (x : ℕ) → 0x401000 ≤ x → x < 0x401007 → (allows 1 (original_image x) ≡ true) × (allows 2 (original_image x) ≡ false)
text_code x l h = let e = spread_in 0x401000 0x401007 5 mov_nop_nop x l h in (ap (allows 1) e, ap (allows 2) e)

-- the entries are entries of the original's image
pub are_entries : AreEntries original_image entries
are_entries = record { each = each; ascending = ascending; alone = λ e c u x a b f d m n. apart f e d c x m n a b }
  where
    each : (e : StartEntry) → Contains entries e → IsEntry original_image e
    each e (zero, l, p) = subst (IsEntry original_image) p (record {
      some = omega arith;
      low = omega arith;
      executed = λ x a b. text_code x (omega arith) (omega arith);
      known = λ h. record { fields = mov_sixty; spelled = sixty_is; stands = sixty_stands; len = refl; form = refl };
    })
    each e (suc zero, l, p) = subst (IsEntry original_image) p (record {
      some = omega arith;
      low = omega arith;
      executed = λ x a b. text_code x (omega arith) (omega arith);
      known = λ h. record { fields = nop; spelled = nop_is; stands = (refl, refl, tt); len = refl; form = refl };
    })
    each e (suc (suc zero), l, p) = subst (IsEntry original_image) p (record {
      some = omega arith;
      low = omega arith;
      executed = λ x a b. text_code x (omega arith) (omega arith);
      known = λ h. record { fields = nop; spelled = nop_is; stands = (refl, refl, tt); len = refl; form = refl };
    })
    each e (suc (suc (suc i)), l, p) = absurd (omega (arith, l))

    -- the entries ascend
    ascending : IsStrictlyIncreasing (addresses entries)
    ascending zero l = omega arith
    ascending (suc zero) l = omega arith
    ascending (suc (suc k)) l = absurd (omega (arith, l))

    -- which entry an address is of
    which : (e : StartEntry) → Contains entries e → (e0 ≡ e) ⊎ (e1 ≡ e) ⊎ (e2 ≡ e)
    which e (zero, l, p) = inl p
    which e (suc zero, l, p) = inr (inl p)
    which e (suc (suc zero), l, p) = inr (inr p)
    which e (suc (suc (suc i)), l, p) = absurd (omega (arith, l))

    -- two that don't meet
    far : (g h e f : StartEntry) (x : ℕ) → g ≡ e → h ≡ f → e.addr ≤ x → x < e.addr + e.len → f.addr ≤ x → x < f.addr + f.len
        → (g.addr + g.len ≤ h.addr) ⊎ (h.addr + h.len ≤ g.addr) → e ≡ f
    far g h e f x p q a b m n s =
        let i = ap (λ (z : StartEntry). z.addr) p in let j = ap (λ (z : StartEntry). z.len) p in
        let k = ap (λ (z : StartEntry). z.addr) q in let l = ap (λ (z : StartEntry). z.len) q in
        elim s [ inl t ↦ absurd (omega (arith, i, j, k, l, t)) | inr t ↦ absurd (omega (arith, i, j, k, l, t)) ]

    -- by which they are
    by_both : (e f : StartEntry) → (e0 ≡ e) ⊎ (e1 ≡ e) ⊎ (e2 ≡ e) → (e0 ≡ f) ⊎ (e1 ≡ f) ⊎ (e2 ≡ f) → (x : ℕ) → e.addr ≤ x
        → x < e.addr + e.len → f.addr ≤ x → x < f.addr + f.len → e ≡ f
    by_both e f (inl p) (inl q) x a b m n = sym p ∙ q
    by_both e f (inr (inl p)) (inr (inl q)) x a b m n = sym p ∙ q
    by_both e f (inr (inr p)) (inr (inr q)) x a b m n = sym p ∙ q
    by_both e f (inl p) (inr (inl q)) x a b m n = far e0 e1 e f x p q a b m n (inl (omega arith))
    by_both e f (inl p) (inr (inr q)) x a b m n = far e0 e2 e f x p q a b m n (inl (omega arith))
    by_both e f (inr (inl p)) (inr (inr q)) x a b m n = far e1 e2 e f x p q a b m n (inl (omega arith))
    by_both e f (inr (inl p)) (inl q) x a b m n = far e1 e0 e f x p q a b m n (inr (omega arith))
    by_both e f (inr (inr p)) (inl q) x a b m n = far e2 e0 e f x p q a b m n (inr (omega arith))
    by_both e f (inr (inr p)) (inr (inl q)) x a b m n = far e2 e1 e f x p q a b m n (inr (omega arith))

    -- a common byte
    apart : (e f : StartEntry) → Contains entries e → Contains entries f → (x : ℕ) → e.addr ≤ x → x < e.addr + e.len → f.addr ≤ x
        → x < f.addr + f.len → e ≡ f
    apart e f c d = by_both e f (which e c) (which f d)

-- numbers below 256 are bytes
are_bytes : (xs : List ℕ) → list_all (λ b. ltb b 256) xs ≡ true → (i : ℕ) → slice_index xs i < 256
are_bytes [] h i = omega arith
are_bytes (x ∷ xs) h zero = ltb-true x 256 (and_parts (ltb x 256) (list_all (λ b. ltb b 256) xs) h).0
are_bytes (x ∷ xs) h (suc i) = are_bytes xs (and_parts (ltb x 256) (list_all (λ b. ltb b 256) xs) h).1 i

-- the report is one that a text spells
pub is_report : IsTold report
is_report = (
  Two,
  record {
    lines = (
      record { holds = refl; fits = tt },
      (
        record { holds = refl; fits = omega arith },
        (
          record { holds = refl; fits = tt },
          (
            record { holds = refl; fits = (omega arith, omega arith) },
            (
              record { holds = refl; fits = (omega arith, omega arith) },
              (
                record { holds = refl; fits = (omega arith, are_bytes (spelling mov_sixty) refl, are_bytes (jump_code 0x401000 0x21000) refl) },
                (
                  record { holds = refl; fits = (omega arith, omega arith) },
                  (record { holds = refl; fits = tt }, tt),
                ),
              ),
            ),
          ),
        ),
      ),
    );
    plans = (record { tramps = refl; least = omega arith; writes = omega arith; puns = omega arith }, tt);
    numbers = (refl, tt);
    sites = (refl, tt);
    pages = (omega arith, tt);
  },
)

-- two states at the entry, over the images and what lies beside both, are a start pair
pub entry_pair : (m n further : Bytes) → ((x : ℕ) → (joined original_image patched_image x ≡ None) ⊎ (further x ≡ None))
    → m ≡ joined original_image further → n ≡ joined patched_image further
    → IsStartPair original_image patched_image 0x401000 (state_at m 7 0x401000) (state_at n 7 0x401000)
entry_pair m n further apart e f = record {
  sized = record { core = record { count = refl; small = small_registers }; world = tt };
  core = refl;
  world = refl;
  original_at = refl;
  patched_at = refl;
  further = further;
  apart = apart;
  original = e;
  patched = f;
}
