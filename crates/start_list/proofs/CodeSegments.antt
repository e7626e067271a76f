-- The segments of code, whose bytes can be executed and not written: in which of them an address is.
use Rattle.std.proofs.Common.{◌≡◌, ℕ, ◌-◌, ◌<◌, Bool, true, false, cond, nat_le, nat_lt, ◌&&◌, ◌||◌, List, [], ◌∷◌, length, Option, Some, None, is_some, true≢false, refl, sym, ap, ◌∙◌, arith}
use Rattle.std.specs.List.{AllByRecursion, find, list_any}
use Rattle.std.proofs.lemmas.Bool.{and_parts, ltb-true, leb-true, cond-true, cond-false, or_left, or_right}
use Rattle.elf_read.specs.declared.segment.Segment.{Segment}
use Rattle.elf_read.specs.Entries.{segments, loads, is_load}
use Rattle.elf_read.specs.Refusals.{refusal}
use Rattle.elf_read.specs.Find.{segment_holding}
use Rattle.elf_read.specs.Code.{is_code, is_backed, is_exec_in, is_exec}
use Rattle.elf_read.specs.Accepted.{IsPlaced}
use Rattle.elf_read.proofs.AcceptedFiles.{is_accepted}
use Rattle.elf_read.proofs.SegmentSearch.{any_found, exec_of, find_executed}
use Rattle.start_list.specs.TurnViews.{code_segment, is_code_of, share_segment}

-- The segment of code of an address, by the segment that holds it.
pub segment_by : (file : List ℕ) (a : ℕ) (o r : Option Segment) → refusal 0x10000 file ≡ None → o ≡ segment_holding file a → o ≡ r → code_segment (segments file) a ≡ exec_of a r
segment_by file a o r k e q =
    let i = is_accepted 0x10000 file k in
    find_executed 0x10000 (length file) a (segments file) i.ascends i.placed ∙ ap (λ (x : Option Segment). exec_of a x) (sym e ∙ q)

-- Where an address is executed in the segment that holds it, that is its segment of code.
pub segment_yes : (a : ℕ) (s : Segment) → is_exec_in a s ≡ true → exec_of a (Some s) ≡ Some s
segment_yes a s e = cond-true (is_exec_in a s) (Some s) None e

-- Where an address isn't executed in the segment that holds it, it has no segment of code.
pub segment_no : (a : ℕ) (s : Segment) → is_exec_in a s ≡ false → exec_of a (Some s) ≡ None
segment_no a s e = cond-false (is_exec_in a s) (Some s) None e

-- A byte that can be executed has a segment of code.
pub executed_found : (file : List ℕ) (a : ℕ) → is_exec file a ≡ true → code_segment (segments file) a ≡ None → ⊥
executed_found file a e h = let q = sym e ∙ any_found (is_exec_in a) (segments file) ∙ ap is_some h in true≢false q

-- a byte of code in the segment found for another one is executed from some segment, with one more segment in front too
shared_from : (a b : ℕ) (ss : List Segment) (t : Bool) (s : Segment) → is_exec_in a s ≡ t → (is_code_of (find (is_exec_in a) ss) b ≡ true → list_any (is_exec_in b) ss ≡ true) → is_code_of (cond t (Some s) (find (is_exec_in a) ss)) b ≡ true → list_any (is_exec_in b) (s ∷ ss) ≡ true
shared_from a b ss true s e f h = or_left (is_exec_in b s) (list_any (is_exec_in b) ss) h
shared_from a b ss false s e f h = or_right (is_exec_in b s) (list_any (is_exec_in b) ss) (f h)

-- a byte of code in the segment of another one is executed from some segment
shared_any : (a b : ℕ) (ss : List Segment) → share_segment ss a b ≡ true → list_any (is_exec_in b) ss ≡ true
shared_any a b [] h = h
shared_any a b (s ∷ ss) h = shared_from a b ss (is_exec_in a s) s refl (λ q. shared_any a b ss q) h

-- A byte that shares a segment of code with another can be executed.
pub shared_executed : (file : List ℕ) (a b : ℕ) → share_segment (segments file) a b ≡ true → is_exec file b ≡ true
shared_executed file a b h = shared_any a b (segments file) h

-- A byte that is executed in a segment that keeps the rules lies below 0x7fff0000.
low_in : (from len a : ℕ) (s : Segment) → IsPlaced from len s → is_exec_in a s ≡ true → a < 0x7fff0000
low_in from len a s p e =
    let k = and_parts (is_load s && is_code s) (is_backed s a) e in
    let m = and_parts (nat_le s.vaddr a) (nat_lt (a - s.vaddr) s.filesz) k.1 in
    let x = leb-true s.vaddr a m.0 in
    let y = ltb-true (a - s.vaddr) s.filesz m.1 in
    let z = p.sizes in let w = p.high in omega arith

-- where bytes executed from placed segments lie below 0x7fff0000, they do with one more placed segment
low_step : (from len a : ℕ) (s : Segment) (ss : List Segment) (t u : Bool) → is_load s ≡ t → is_exec_in a s ≡ u → AllByRecursion (IsPlaced from len) (cond t (s ∷ loads ss) (loads ss))
    → (AllByRecursion (IsPlaced from len) (loads ss) → list_any (is_exec_in a) ss ≡ true → a < 0x7fff0000) → (u || list_any (is_exec_in a) ss) ≡ true → a < 0x7fff0000
low_step from len a s ss true true e f p g h = low_in from len a s p.0 f
low_step from len a s ss false true e f p g h = absurd (let q = (and_parts (is_load s) (is_code s) (and_parts (is_load s && is_code s) (is_backed s a) f).0).0 in cc)
low_step from len a s ss true false e f p g h = g p.1 h
low_step from len a s ss false false e f p g h = g p h

-- a byte that is executed from one of placed segments lies below 0x7fff0000
low_any : (from len a : ℕ) (ss : List Segment) → AllByRecursion (IsPlaced from len) (loads ss) → list_any (is_exec_in a) ss ≡ true → a < 0x7fff0000
low_any from len a [] p h = absurd (cc)
low_any from len a (s ∷ ss) p h = low_step from len a s ss (is_load s) (is_exec_in a s) refl refl p (λ q r. low_any from len a ss q r) h

-- A byte of an accepted file that can be executed lies below 0x7fff0000.
pub executed_low : (file : List ℕ) (a : ℕ) → refusal 0x10000 file ≡ None → is_exec file a ≡ true → a < 0x7fff0000
executed_low file a k h = low_any 0x10000 (length file) a (segments file) (is_accepted 0x10000 file k).placed h
