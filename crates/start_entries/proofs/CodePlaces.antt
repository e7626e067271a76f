-- Bytes that can be executed lie below 0x7fff0000.
use Rattle.std.proofs.Common.{◌≡◌, None, inl, inr, ℕ, ◌-◌, ◌<◌, true, ◌&&◌, leb, ltb, List, [], ◌∷◌, length, subst, arith}
use Rattle.std.specs.List.{AllByRecursion, list_any}
use Rattle.std.proofs.lemmas.Bool.{and_parts, or_cases, ltb-true, cond-true, cond-false, cases_Bool, false≢true}
use Rattle.elf_read.specs.declared.segment.Segment.{Segment}
use Rattle.elf_read.specs.Entries.{is_load, segments, loads}
use Rattle.elf_read.specs.Refusals.{refusal}
use Rattle.elf_read.specs.Accepted.{IsPlaced}
use Rattle.elf_read.specs.Code.{is_code, is_backed, is_exec_in, is_exec}
use Rattle.elf_read.proofs.AcceptedFiles.{is_accepted}

-- a byte that is executed from a segment is one of a PT_LOAD, which the file has
in_parts : (a : ℕ) (s : Segment) → is_exec_in a s ≡ true → (is_load s ≡ true) × (is_backed s a ≡ true)
in_parts a s e =
    let k = and_parts (is_load s && is_code s) (is_backed s a) e in
    ((and_parts (is_load s) (is_code s) k.0).0, k.1)

-- the entries after one, and the entry itself where it is loaded
loaded_first : (low len : ℕ) (s : Segment) (ss : List Segment) → is_load s ≡ true → AllByRecursion (IsPlaced low len) (loads (s ∷ ss)) → AllByRecursion (IsPlaced low len) (s ∷ loads ss)
loaded_first low len s ss e p = subst (λ (z : List Segment). AllByRecursion (IsPlaced low len) z) (cond-true (is_load s) (s ∷ loads ss) (loads ss) e) p

-- where the loads of a list of segments are placed, those of the rest are
loaded_rest : (low len : ℕ) (s : Segment) (ss : List Segment) → AllByRecursion (IsPlaced low len) (loads (s ∷ ss)) → AllByRecursion (IsPlaced low len) (loads ss)
loaded_rest low len s ss p = elim (cases_Bool (is_load s)) [
  | inl e ↦ (loaded_first low len s ss e p).1
  | inr e ↦ subst (λ (z : List Segment). AllByRecursion (IsPlaced low len) z) (cond-false (is_load s) (s ∷ loads ss) (loads ss) e) p
]

-- a byte that is executed from a segment that is placed lies below 0x7fff0000
held_below : (low len a : ℕ) (s : Segment) → IsPlaced low len s → is_exec_in a s ≡ true → a < 0x7fff0000
held_below low len a s q x =
    let k = and_parts (leb s.vaddr a) (ltb (a - s.vaddr) s.filesz) (in_parts a s x).1 in
    let l = ltb-true (a - s.vaddr) s.filesz k.1 in
    omega (arith, q.sizes, q.high)

-- a byte that is executed from one of placed segments lies below 0x7fff0000
below : (low len a : ℕ) (ss : List Segment) → AllByRecursion (IsPlaced low len) (loads ss) → list_any (is_exec_in a) ss ≡ true → a < 0x7fff0000
below low len a [] p h = absurd (false≢true h)
below low len a (s ∷ ss) p h = elim (or_cases (is_exec_in a s) (list_any (is_exec_in a) ss) h) [
  | inl x ↦ held_below low len a s (loaded_first low len s ss (in_parts a s x).0 p).0 x
  | inr x ↦ below low len a ss (loaded_rest low len s ss p) x
]

-- a byte of an accepted file that can be executed lies below 0x7fff0000
pub exec_below : (low : ℕ) (file : List ℕ) (a : ℕ) → refusal low file ≡ None → is_exec file a ≡ true → a < 0x7fff0000
exec_below low file a r h = below low (length file) a (segments file) (is_accepted low file r).placed h
