-- What a reply to a call makes of a state.
use Rattle.std.proofs.Common.{◌≡◌, ◌⊎◌, inl, inr, ℕ, ◌+◌, ◌-◌, ◌<◌, ◌≤◌, true, false, ◌&&◌, nat_le, nat_lt, List, length, take, drop, Option, Some, None, sym, ap, ◌∙◌, arith}
use Rattle.std.specs.Prelude.{slice_index}
use Rattle.std.proofs.Math.Path.{fun_ext}
use Rattle.std.proofs.lemmas.Bool.{cond-true, cond-false}
use Rattle.std.proofs.lemmas.Bool.Decides.{nat_tests}
use Rattle.std.proofs.lemmas.List.{length-drop}
use Rattle.std.proofs.Math.Seq.{take-length}
use Rattle.pun_base.specs.Memory.{Cell, Bytes, or_else, joined}
use Rattle.cpu_state.specs.Adding.{IsFree, laid}
use Rattle.elf_read.proofs.FileSlices.{length_slice}
use Rattle.elf_emit.proofs.GroupPages.{slice_at}
use Rattle.scheme_search.proofs.OneJumpBytes.{within_true, within_false}
use Rattle.image_runs.proofs.MemorySoFar.{else_none}
use Rattle.loader_form.specs.Kernel.{mapped}
use Rattle.loader_form.proofs.StubLengths.{side}
use Rattle.loader_form.proofs.LoadedBytes.{mapped_outside}

-- where nothing is, they show what a mapping does
pub shows : (file : List ℕ) (place size offset : ℕ) (m : Bytes) → offset + size ≤ length file → IsFree m place (place + size)
    → joined m (laid place 5 (take size (drop offset file))) ≡ mapped file place size offset m
shows file place size offset m l free = fun_ext (λ x. by_side x (side place (place + size) x))
  where
    bytes : List ℕ
    bytes = take size (drop offset file)

    long : length bytes ≡ size
    long = length_slice size offset file l

    out : (x : ℕ) → (x < place) ⊎ (place + size ≤ x) → place ≤ x → x < place + size → ⊥
    out x (inl o) p q = omega (arith, o, p)
    out x (inr o) p q = omega (arith, o, q)

    here : (x : ℕ) → place ≤ x → x < place + size → laid place 5 bytes x ≡ Some (record { byte = slice_index file (offset + (x - place)); perms = 5 })
    here x p q =
        let t = within_true place size x p q in
        let k : nat_le place x && nat_lt (x - place) (length bytes) ≡ true = ap (λ (z : ℕ). nat_le place x && nat_lt (x - place) z) long ∙ t in
        let i : x - place < size = omega (arith, p, q) in
        cond-true (nat_le place x && nat_lt (x - place) (length bytes)) (Some (record { byte = slice_index bytes (x - place); perms = 5 })) None k
        ∙ ap (λ (z : ℕ). Some (record { byte = z; perms = 5 })) (slice_at size offset (x - place) file i)

    there : (x : ℕ) → place ≤ x → x < place + size → mapped file place size offset m x ≡ Some (record { byte = slice_index file (offset + (x - place)); perms = 5 })
    there x p q = cond-true (nat_le place x && nat_lt x (place + size)) _ (m x) (both place (place + size) x p q)
      where
        both : (lo hi y : ℕ) → lo ≤ y → y < hi → (nat_le lo y && nat_lt y hi) ≡ true
        both lo hi y a b = grind (arith, nat_tests)

    by_side : (x : ℕ) → ((place ≤ x) × (x < place + size)) ⊎ ((x < place) ⊎ (place + size ≤ x)) → joined m (laid place 5 bytes) x ≡ mapped file place size offset m x
    by_side x (inl p) = ap (λ (z : Option Cell). or_else z (laid place 5 bytes x)) (free x p.0 p.1) ∙ here x p.0 p.1 ∙ sym (there x p.0 p.1)
    by_side x (inr o) =
        let t = within_false place size x o in
        let k : nat_le place x && nat_lt (x - place) (length bytes) ≡ false = ap (λ (z : ℕ). nat_le place x && nat_lt (x - place) z) long ∙ t in
        ap (or_else (m x)) (cond-false (nat_le place x && nat_lt (x - place) (length bytes)) (Some (record { byte = slice_index bytes (x - place); perms = 5 })) None k)
        ∙ else_none (m x) ∙ sym (mapped_outside file place size offset m x (λ p q. out x o p q))

-- all bytes from a place on
pub rest_all : (k : ℕ) (xs : List ℕ) → take (length xs - k) (drop k xs) ≡ drop k xs
rest_all k xs = ap (λ (n : ℕ). take n (drop k xs)) (sym (length-drop k xs)) ∙ take-length (drop k xs)
