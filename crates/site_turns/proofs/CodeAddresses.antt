-- The codes of trampolines: which addresses they have, and that they don't meet.
use Rattle.std.proofs.Common.{◌≡◌, ◌⊎◌, inl, inr, ℕ, suc, ◌+◌, ◌<◌, ◌≤◌, max, true, cond, ◌&&◌, leb, ltb, List, [], ◌∷◌, map, length, Option, Some, None, refl, ap, arith}
use Rattle.std.specs.Prelude.{unwrap_or}
use Rattle.std.specs.List.{AllByRecursion, list_any, count_by}
use Rattle.std.proofs.lemmas.Bool.{and_parts, or_cases, or_left, or_right, cases_lt, leb-true, ltb-true}
use Rattle.std.proofs.lemmas.List.Elements.{All-from_recursion}
use Rattle.std.proofs.lemmas.List.Kept.{AllPairs-cons}
use Rattle.page_group.specs.Pages.{is_covered, AreDisjoint}
use Rattle.trampoline.specs.Events.{event_length}
use Rattle.elf_emit.specs.declared.built.Built.{Built}
use Rattle.elf_emit.specs.Emits.{range_of}
use Rattle.patch_report.proofs.ListPlaces.{found, counted_twice}
use Rattle.start_entries.specs.declared.entry.StartEntry.{StartEntry}
use Rattle.start_entries.specs.Finding.{entry_at}
use Rattle.start_list.specs.Forms.{work_length}
use Rattle.start_entries.specs.Standing.{AreEntries}
use Rattle.sound_images.specs.Reports.{Line}
use Rattle.sound_images.specs.Rules.{Case}
use Rattle.sound_images.proofs.CountedElements.{count_cons}
use Rattle.scheme_search.proofs.OneJumpBytes.{within_true}
use Rattle.site_turns.specs.States.{Scene}
use Rattle.site_turns.specs.Folded.{size_from, code_size, in_code}
use Rattle.site_turns.specs.Planning.{AreCodes}
use Rattle.site_turns.proofs.PlansWithOneJump.{entry_listed}
use Rattle.site_turns.proofs.CodeSizes.{code_fills}
use Rattle.site_turns.proofs.WorkLengths.{added_to, work_least}

-- each piece stands at its trampoline's place and has as many bytes as the turn took for it, whatever they are
abbrev pub AreSized : Scene → List Line → List Built → Type 0
AreSized g [] [] = Unit {0}
AreSized g [] (b ∷ bs) = ⊥
AreSized g (l ∷ ls) [] = ⊥
AreSized g (l ∷ ls) (b ∷ bs) =
    (b.place ≡ l.tramp.place) × (code_size g l ≡ Some (length b.code.bytes)) × AreSized g ls bs

module _ (g : Scene) (A : AreEntries g.image g.entries) where
  -- a trampoline's code has bytes
  size_some : (l : Line) (o : Option StartEntry) (n : ℕ) → entry_at g.entries l.tramp.start ≡ o
      → size_from g.event_size l.tramp.event o ≡ Some n → 1 ≤ n
  size_some l None n a e = absurd cc
  size_some l (Some s) n a e =
      let q = added_to (λ n. cond l.tramp.event g.event_size 0 + n) (work_length s) n e in
      let is = A.each s (entry_listed g.entries l.tramp.start s a) in
      let w = work_least s.form s.len s.addr q.0 q.1 is.some in
      let m = q.2 in
      omega (arith, w, m)

  -- the code of a line has at least one byte
  pub code_some : (l : Line) (n : ℕ) → code_size g l ≡ Some n → 1 ≤ n
  code_some l n e = size_some l (entry_at g.entries l.tramp.start) n refl e

  -- an address of a piece is one of its code
  in_piece : (l : Line) (b : Built) (x : ℕ) → b.place ≡ l.tramp.place → code_size g l ≡ Some (length b.code.bytes) → b.place ≤ x
      → x < b.place + length b.code.bytes → in_code g x l ≡ true
  in_piece l b x p s lo hi =
      within_true l.tramp.place (unwrap_or (code_size g l) 0) x (omega (arith, lo, p))
      (let n : unwrap_or (code_size g l) 0 ≡ length b.code.bytes = ap (λ o. unwrap_or o 0) s in omega (arith, hi, p, n))

  -- codes have the sizes that the turns took
  pub sized : (c : Case) → c.original ≡ g.image → c.listed ≡ g.entries → g.event_size ≡ event_length c.report.action
      → (ls : List Line) (bs : List Built) → AreCodes c ls bs → AreSized g ls bs
  sized c o i E [] [] h = tt
  sized c o i E [] (b ∷ bs) h = absurd h
  sized c o i E (l ∷ ls) [] h = absurd h
  sized c o i E (l ∷ ls) (b ∷ bs) h = (h.0, code_fills c g l b.code.bytes A o i E h.1, sized c o i E ls bs h.3)

  -- pieces and the codes at their places have the same addresses
  pub covered_in : (ls : List Line) (bs : List Built) (x : ℕ) → AreSized g ls bs → is_covered (map range_of bs) x ≡ true
      → list_any (in_code g x) ls ≡ true
  covered_in [] [] x h k = k
  covered_in [] (b ∷ bs) x h k = absurd h
  covered_in (l ∷ ls) [] x h k = absurd h
  covered_in (l ∷ ls) (b ∷ bs) x h k =
      elim (or_cases (leb b.place x && ltb x (b.place + length b.code.bytes)) (is_covered (map range_of bs) x) k) [
        | inl w ↦ (let p = and_parts (leb b.place x) (ltb x (b.place + length b.code.bytes)) w in
            or_left (in_code g x l) (list_any (in_code g x) ls) (in_piece l b x h.0 h.1
            (leb-true b.place x p.0) (ltb-true x (b.place + length b.code.bytes) p.1)))
        | inr w ↦ or_right (in_code g x l) (list_any (in_code g x) ls) (covered_in ls bs x h.2 w)
      ]

  -- two codes without a common address stand one after the other
  behind : (l m : Line) (b d : Built) → b.place ≡ l.tramp.place → code_size g l ≡ Some (length b.code.bytes) → d.place ≡ m.tramp.place
      → code_size g m ≡ Some (length d.code.bytes) → ((x : ℕ) → in_code g x l ≡ true → in_code g x m ≡ true → ⊥)
      → (b.place + length b.code.bytes ≤ d.place) ⊎ (d.place + length d.code.bytes ≤ b.place)
  behind l m b d p s r t n = elim (cases_lt d.place (b.place + length b.code.bytes)) [
    | inr k ↦ inl k
    | inl k ↦ elim (cases_lt b.place (d.place + length d.code.bytes)) [
      | inr j ↦ inr j
      | inl j ↦ (let x = max b.place d.place in
          let i = code_some l (length b.code.bytes) s in
          let q = code_some m (length d.code.bytes) t in
          absurd (n x (in_piece l b x p s (omega arith) (omega (arith, k, i))) (in_piece m d x r t (omega arith) (omega (arith, j, q)))))
    ]
  ]

  -- one of some pieces is apart from the others
  one_apart : (l : Line) (b : Built) (ls : List Line) (bs : List Built) → b.place ≡ l.tramp.place
      → code_size g l ≡ Some (length b.code.bytes)
      → ((x : ℕ) → in_code g x l ≡ true → list_any (in_code g x) ls ≡ true → ⊥) → AreSized g ls bs
      → AllByRecursion (λ (q : ℕ × ℕ). (b.place + length b.code.bytes ≤ q.0) ⊎ (q.1 ≤ b.place)) (map range_of bs)
  one_apart l b [] [] p s n h = tt
  one_apart l b [] (d ∷ bs) p s n h = absurd h
  one_apart l b (m ∷ ls) [] p s n h = absurd h
  one_apart l b (m ∷ ls) (d ∷ bs) p s n h = (
    behind l m b d p s h.0 h.1
        (λ x v w. n x v (or_left (in_code g x m) (list_any (in_code g x) ls) w)),
    one_apart l b ls bs p s (λ x v w. n x v (or_right (in_code g x m) (list_any (in_code g x) ls) w)) h.2,
  )

  -- an address isn't of the first code and of a later one
  not_again : (l : Line) (ls : List Line) (x : ℕ) → count_by (in_code g x) (l ∷ ls) ≤ 1 → in_code g x l ≡ true
      → list_any (in_code g x) ls ≡ true → ⊥
  not_again l ls x n v w =
      let f = found (in_code g x) ls w in
      omega (arith, n, counted_twice (in_code g x) (l ∷ ls) 0 (suc f.place) l f.is (omega arith) refl v f.at f.passes)

  -- where no address is in two codes, pieces don't meet
  pub pieces_apart : (ls : List Line) (bs : List Built) → AreSized g ls bs → ((x : ℕ) → count_by (in_code g x) ls ≤ 1)
      → AreDisjoint (map range_of bs)
  pieces_apart [] [] h n = λ j k d l m. absurd (omega (arith, m))
  pieces_apart [] (b ∷ bs) h n = absurd h
  pieces_apart (l ∷ ls) [] h n = absurd h
  pieces_apart (l ∷ ls) (b ∷ bs) h n =
      AllPairs-cons (λ (p q : ℕ × ℕ). (p.1 ≤ q.0) ⊎ (q.1 ≤ p.0)) (range_of b) (map range_of bs)
      (All-from_recursion (λ (q : ℕ × ℕ). (b.place + length b.code.bytes ≤ q.0) ⊎ (q.1 ≤ b.place)) (map range_of bs)
      (one_apart l b ls bs h.0 h.1 (λ x v w. not_again l ls x (n x) v w) h.2))
      (pieces_apart ls bs h.2 (λ x. omega (arith, count_cons (in_code g x) l ls, n x)))
