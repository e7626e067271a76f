-- Bytes that can be executed are loaded: what stands in a window stands in the image.
use Rattle.std.proofs.Common.{◌≡◌, ℕ, zero, suc, ◌+◌, ◌-◌, ◌%◌, ◌<◌, ◌≤◌, Bool, true, false, cond, nat_lt, nat_le, ◌&&◌, List, [], ◌∷◌, length, drop, Option, Some, None, is_some, refl, sym, ap, ◌∙◌, subst, arith, option_map, slice_index, eqb-true}
use Rattle.std.specs.List.{AllByRecursion, find}
use Rattle.std.proofs.lemmas.Bool.{and_parts, ltb-true, leb-true, cond-true, cond-false}
use Rattle.std.proofs.lemmas.Bool.Decides.{nat_tests}
use Rattle.std.proofs.lemmas.List.{get_or-take, get_or-drop}
use Rattle.pun_base.specs.Memory.{Cell}
use Rattle.elf_read.specs.declared.segment.Segment.{Segment}
use Rattle.elf_read.specs.Entries.{is_load, segments, loads}
use Rattle.elf_read.specs.Refusals.{first_page, last_page, refusal}
use Rattle.elf_read.specs.Image.{chunk_of, image_of, cell_in}
use Rattle.elf_read.specs.Find.{covers, segment_of}
use Rattle.elf_read.specs.Code.{is_code, is_backed, is_exec_in, is_exec, code_from, code_of, window}
use Rattle.elf_read.specs.Accepted.{IsPlaced, Ascends, IsAccepted}
use Rattle.elf_read.specs.Laws.{IsCodeAt}
use Rattle.elf_read.proofs.AcceptedFiles.{is_accepted}
use Rattle.elf_read.proofs.SegmentSearch.{some_inj, none_some, any_found, exec_of, find_executed, is_exec_some, image_by}

-- an entry that was found lies at or above the page where the entries begin
above_step : (page a : ℕ) (t s : Segment) (o : Option Segment) (b : Bool) → page ≤ first_page t → (o ≡ Some s → last_page t + 1 ≤ first_page s) → 0 < t.memsz → cond b (Some t) o ≡ Some s → page ≤ first_page s
above_step page a t s o true p f m e = subst (λ (x : Segment). page ≤ first_page x) (some_inj t s e) p
above_step page a t s o false p f m e = let q = f e in omega arith

found_above : (page a : ℕ) (ss : List Segment) (s : Segment) → Ascends page ss → segment_of ss a ≡ Some s → page ≤ first_page s
found_above page a [] s up e = absurd (none_some s e)
found_above page a (t ∷ ss) s up e =
    above_step page a t s (segment_of ss a) (covers t a) up.0 (λ q. found_above (last_page t + 1) a ss s up.2 q) up.1 e

-- an entry that holds one address is found at each address that it holds
beyond : (t s : Segment) (a : ℕ) → 0 < t.memsz → last_page t + 1 ≤ first_page s → s.vaddr ≤ a → covers t a ≡ false
beyond t s a m l v = let p : t.vaddr + t.memsz ≤ a = omega arith in grind (arith, nat_tests)

found_step : (t s : Segment) (a b : ℕ) (x y : Option Segment) (c : Bool) → covers t a ≡ c → covers s b ≡ true → (x ≡ Some s → covers t b ≡ false) → (x ≡ Some s → y ≡ Some s) → cond c (Some t) x ≡ Some s → cond (covers t b) (Some t) y ≡ Some s
found_step t s a b x y true e h f g q =
    let k = some_inj t s q in
    cond-true (covers t b) _ _ (ap (λ (z : Segment). covers z b) k ∙ h) ∙ ap Some k
found_step t s a b x y false e h f g q = cond-false (covers t b) _ _ (f q) ∙ g q

found_further : (page a b : ℕ) (ss : List Segment) (s : Segment) → Ascends page ss → segment_of ss a ≡ Some s → covers s b ≡ true → segment_of ss b ≡ Some s
found_further page a b [] s up e h = absurd (none_some s e)
found_further page a b (t ∷ ss) s up e h =
    found_step t s a b (segment_of ss a) (segment_of ss b) (covers t a) refl h
    (λ q. beyond t s b up.1 (found_above (last_page t + 1) a ss s up.2 q) (leb-true s.vaddr b (and_parts (nat_le s.vaddr b) (nat_lt (b - s.vaddr) s.memsz) h).0))
    (λ q. found_further (last_page t + 1) a b ss s up.2 q h) e

-- the entry from which a byte is executed
record Executes (file : List ℕ) (a : ℕ) (s : Segment) : Type 0 where
  holds : segment_of (loads (segments file)) a ≡ Some s
  exec : is_exec_in a s ≡ true

executes_step : (file : List ℕ) (a : ℕ) (s t : Segment) (b : Bool) → segment_of (loads (segments file)) a ≡ Some t → is_exec_in a t ≡ b → cond b (Some t) None ≡ Some s → Executes file a s
executes_step file a s t true h e q =
    let k = some_inj t s q in record { holds = h ∙ ap Some k; exec = ap (λ (z : Segment). is_exec_in a z) (sym k) ∙ e }
executes_step file a s t false h e q = absurd (none_some s q)

executes_from : (file : List ℕ) (a : ℕ) (s : Segment) (o : Option Segment) → segment_of (loads (segments file)) a ≡ o → exec_of a o ≡ Some s → Executes file a s
executes_from file a s None h q = absurd (none_some s q)
executes_from file a s (Some t) h q = executes_step file a s t (is_exec_in a t) h refl q

executes : (low : ℕ) (file : List ℕ) (a : ℕ) (s : Segment) → IsAccepted low file → find (is_exec_in a) (segments file) ≡ Some s → Executes file a s
executes low file a s i e =
    executes_from file a s (segment_of (loads (segments file)) a) refl (sym (find_executed low (length file) a (segments file) i.ascends i.placed) ∙ e)

-- its cell in the image
abbrev cell : List ℕ → ℕ → Segment → Cell
cell file a s = record { byte = slice_index file (s.offset + (a - s.vaddr)); perms = s.flags % 8 }

exec_parts : (a : ℕ) (s : Segment) → is_exec_in a s ≡ true → (is_code s ≡ true) × (s.vaddr ≤ a) × (a - s.vaddr < s.filesz)
exec_parts a s e =
    let k = and_parts (is_load s && is_code s) (is_backed s a) e in
    let m = and_parts (nat_le s.vaddr a) (nat_lt (a - s.vaddr) s.filesz) k.1 in
    ((and_parts (is_load s) (is_code s) k.0).1, leb-true s.vaddr a m.0, ltb-true (a - s.vaddr) s.filesz m.1)

image_cell : (low : ℕ) (file : List ℕ) (a : ℕ) (s : Segment) → segment_of (loads (segments file)) a ≡ Some s → is_exec_in a s ≡ true → image_of file a ≡ Some (cell file a s)
image_cell low file a s h e =
    let byte = get_or-take s.filesz (drop s.offset file) (a - s.vaddr) 0 (exec_parts a s e).2 ∙ get_or-drop s.offset file (a - s.vaddr) 0 in
    image_by file (loads (segments file)) a ∙ ap (λ (o : Option Segment). option_map (λ t. cell_in (chunk_of file t) a) o) h
    ∙ (λ i. Some (record { byte = byte i; perms = s.flags % 8 }))

code_perms : (s : Segment) → is_code s ≡ true → s.flags % 8 % 4 ≡ 1
code_perms s e = let h = eqb-true (s.flags % 4) 1 e in omega arith

code_at : (low : ℕ) (file : List ℕ) (a : ℕ) (s : Segment) → segment_of (loads (segments file)) a ≡ Some s → is_exec_in a s ≡ true → IsCodeAt file a (slice_index file (s.offset + (a - s.vaddr)))
code_at low file a s h e = (s.flags % 8, image_cell low file a s h e, code_perms s (exec_parts a s e).0)

some_found : (o : Option Segment) → is_some o ≡ true → (s : Segment) × (o ≡ Some s)
some_found None e = cc
some_found (Some s) e = (s, refl)

-- where a byte of an accepted file can be executed, the image has a byte that can be executed and not written
pub exec_is_loaded : (low : ℕ) (file : List ℕ) (a : ℕ) → refusal low file ≡ None → is_exec file a ≡ true → (byte : ℕ) × IsCodeAt file a byte
exec_is_loaded low file a r e =
    let f = some_found (find (is_exec_in a) (segments file)) (sym (any_found (is_exec_in a) (segments file)) ∙ e) in
    let x = executes low file a f.0 (is_accepted low file r) f.1 in
    (slice_index file (f.0.offset + (a - f.0.vaddr)), code_at low file a f.0 x.holds x.exec)

-- each byte of a window
record StandsIn (file : List ℕ) (s : Segment) (a byte : ℕ) : Type 0 where
  exec : is_exec_in a s ≡ true
  is : byte ≡ slice_index file (s.offset + (a - s.vaddr))

each_step : (file rest : List ℕ) (s : Segment) (a k : ℕ) (b : Bool) → is_exec_in a s ≡ b → ((j : ℕ) → j < length rest → StandsIn file s (a + 1 + j) (slice_index rest j)) → k < length (cond b (slice_index file (s.offset + (a - s.vaddr)) ∷ rest) []) → StandsIn file s (a + k) (slice_index (cond b (slice_index file (s.offset + (a - s.vaddr)) ∷ rest) []) k)
each_step file rest s a k false e f l = absurd (omega arith)
each_step file rest s a zero true e f l =
    let p : a ≡ a + 0 = omega arith in
    subst (λ (z : ℕ). StandsIn file s z (slice_index file (s.offset + (a - s.vaddr)))) p (record { exec = e; is = refl })
each_step file rest s a (suc k) true e f l =
    let p : a + 1 + k ≡ a + suc k = omega arith in
    subst (λ (z : ℕ). StandsIn file s z (slice_index rest k)) p (f k (omega arith))

at_each : (file : List ℕ) (s : Segment) (a n k : ℕ) → k < length (code_from file s a n) → StandsIn file s (a + k) (slice_index (code_from file s a n) k)
unfolding code_from
at_each file s a zero k l = absurd (omega arith)
at_each file s a (suc n) k l = each_step file (code_from file s (a + 1) n) s a k (is_exec_in a s) refl (λ j m. at_each file s (a + 1) n j m) l

kept_step : (P : Segment → Type 0) (s t : Segment) (o : Option Segment) (b : Bool) → P s → (o ≡ Some t → P t) → cond b (Some s) o ≡ Some t → P t
kept_step P s t o true i f h = subst P (some_inj s t h) i
kept_step P s t o false i f h = f h

found_kept : (P : Segment → Type 0) (a : ℕ) (ss : List Segment) (t : Segment) → AllByRecursion P ss → segment_of ss a ≡ Some t → P t
found_kept P a [] t i h = absurd (none_some t h)
found_kept P a (s ∷ ss) t i h = kept_step P s t (segment_of ss a) (covers s a) i.0 (λ e. found_kept P a ss t i.1 e) h

exec_covers : (a : ℕ) (s : Segment) → s.filesz ≤ s.memsz → is_exec_in a s ≡ true → covers s a ≡ true
exec_covers a s l e = let p = exec_parts a s e in let v = p.1 in let f = p.2 in grind (arith, nat_tests)

-- a byte of a window: it can be executed, and stands in the image
pub record InWindow (file : List ℕ) (a byte : ℕ) : Type 0 where
  pub exec : is_exec file a ≡ true
  pub code : IsCodeAt file a byte

window_some : (low : ℕ) (file : List ℕ) (a k : ℕ) (s : Segment) → IsAccepted low file → Executes file a s → k < length (code_from file s a 15) → InWindow file (a + k) (slice_index (code_from file s a 15) k)
window_some low file a k s i x l =
    let t = at_each file s a 15 k l in
    let sizes = (found_kept (IsPlaced low (length file)) a (loads (segments file)) s i.placed x.holds).sizes in
    let h = found_further 0 a (a + k) (loads (segments file)) s i.ascends x.holds (exec_covers (a + k) s sizes t.exec) in
    record {
      exec = is_exec_some low (length file) (a + k) (segments file) s i.ascends i.placed h ∙ t.exec;
      code = subst (λ (z : ℕ). IsCodeAt file (a + k) z) (sym t.is) (code_at low file (a + k) s h t.exec);
    }

window_by : (low : ℕ) (file : List ℕ) (a k : ℕ) (o : Option Segment) → IsAccepted low file → find (is_exec_in a) (segments file) ≡ o → k < length (code_of file a o) → InWindow file (a + k) (slice_index (code_of file a o) k)
window_by low file a k None i e l = absurd (omega arith)
window_by low file a k (Some s) i e l = window_some low file a k s i (executes low file a s i e) l

-- each byte of an accepted file's window can be executed, and stands in the image at its address
pub window_is_loaded : (low : ℕ) (file : List ℕ) (a k : ℕ) → refusal low file ≡ None → k < length (window file a) → (is_exec file (a + k) ≡ true) × IsCodeAt file (a + k) (slice_index (window file a) k)
window_is_loaded low file a k r l =
    let w = window_by low file a k (find (is_exec_in a) (segments file)) (is_accepted low file r) refl l in (w.exec, w.code)
