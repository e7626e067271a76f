-- A line that is read at the front of a text is spelled there.
use Rattle.std.proofs.Common.{◌≡◌, ℕ, ◌+◌, ◌-◌, ◌*◌, ◌/◌, ◌%◌, ◌^◌, ◌<◌, ◌≤◌, Bool, true, false, ◌&&◌, cond, List, ◌∷◌, ◌++◌, length, Option, Some, None, refl, ap, sym, subst, ◌∙◌, arith, append_assoc}
use Rattle.std.specs.Prelude.{◌==◌, codes, nat_le, nat_lt}
use Rattle.std.specs.List.{before_first, after_first}
use Rattle.std.specs.Fmt.{decimal}
use Rattle.std.proofs.lemmas.Bool.{and_from, and_parts}
use Rattle.std.proofs.lemmas.Bool.Decides.{nat_tests}
use Rattle.std.proofs.lemmas.Option.{cond_some, same_Some}
use Rattle.hex.specs.Hex.{encode_lower}
use Rattle.list_text.specs.ActionWords.{action_word}
use Rattle.list_text.specs.Lines.{is_line_feed}
use Rattle.list_text.specs.Words.{◌>>=◌, action_of}
use Rattle.list_text.proofs.ActionSpellings.{action_spelled as named}
use Rattle.pun_base.specs.declared.scheme.Scheme.TheVariants.{B1, B2, T1, T2, T3}
use Rattle.pun_base.specs.Limits.{most_sites}
use Rattle.patch_report.specs.declared.origin.Version.TheVariants.{One, Two}
use Rattle.patch_report.specs.declared.line.Line.{Line}
use Rattle.patch_report.specs.declared.line.Line.TheVariants as line
use Rattle.patch_report.specs.declared.line.Mark.{Mark}
use Rattle.patch_report.specs.declared.line.Mark.TheVariants as mark
use Rattle.patch_report.specs.Grammar.{high_end, line_holds, IsLine}
use Rattle.patch_report.specs.Spelling.{event_word, hex16, hex8, line_text, mark_word}
use Rattle.patch_report.specs.Fields.{address_before, behind, bytes_before, decimal_before, entry_before, number_before}
use Rattle.patch_report.specs.Front.{action_front, event_front, line_front, mark_front, or_else, origin_front, outer_front, page_front, private_front, pun_front, site_front, sites_front, tramp_front, version_front, write_front}
use Rattle.patch_report.proofs.TextCuts.{cut_at}
use Rattle.patch_report.proofs.FieldTexts.{address_spelled, decimal_spelled, entry_spelled, field_spelled, number_spelled, then_some, word_spelled}

-- What is read there is so, and so is what stands behind it.
abbrev pub Reads : {X : Type 0} → (X → List ℕ → Type 0) → Option (X × List ℕ) → Type 0
Reads {X} P o = (x : X) (rest : List ℕ) → o ≡ Some (x, rest) → P x rest

-- Nothing is read of nothing.
reads_none : {X : Type 0} (P : X → List ℕ → Type 0) → Reads P None
reads_none P x rest e = absurd cc

-- A value that stands there is what is read.
reads_some : {X : Type 0} (P : X → List ℕ → Type 0) (y : X) (later : List ℕ) → P y later → Reads P (Some (y, later))
reads_some {X} P y later h x rest e = subst (λ (p : X × List ℕ). P p.0 p.1) (same_Some (y, later) (x, rest) e) h

-- A word first, or another reading.
reads_or : {X : Type 0} (P : X → List ℕ → Type 0) (w text : List ℕ) (read : List ℕ → Option (X × List ℕ)) (other : Option (X × List ℕ))
    → ((later : List ℕ) → text ≡ w ++ later → Reads P (read later)) → Reads P other → Reads P (or_else (behind w text) read other)
reads_or {X} P w text read other h k = by (behind w text) refl
  where
    by : (o : Option (List ℕ)) → behind w text ≡ o → Reads P (or_else o read other)
    by None e = k
    by (Some later) e = h later (word_spelled w text later e)

-- Behind a word.
word_front : (w text later l rest : List ℕ) → text ≡ w ++ later → later ≡ l ++ 10 ∷ rest → text ≡ (w ++ l) ++ 10 ∷ rest
word_front w text later l rest t e = t ∙ (ap (λ (k : List ℕ). w ++ k) e ∙ sym (append_assoc w l (10 ∷ rest)))

-- Behind a field and a blank.
field_front : (a text later l rest : List ℕ) → text ≡ a ++ 32 ∷ later → later ≡ l ++ 10 ∷ rest → text ≡ (a ++ 32 ∷ l) ++ 10 ∷ rest
field_front a text later l rest t e = t ∙ (ap (λ (k : List ℕ). a ++ 32 ∷ k) e ∙ sym (append_assoc a (32 ∷ l) (10 ∷ rest)))

-- The outcome that is read is spelled there.
mark_spelled : (text : List ℕ) → Reads (λ m rest. text ≡ mark_word m ++ 10 ∷ rest) (mark_front text)
unfolding mark_front
mark_spelled text =
    let P : Mark → List ℕ → Type 0 = λ m rest. text ≡ mark_word m ++ 10 ∷ rest in
    reads_or P (codes "B1\n") text _ _ (λ l t. reads_some P (mark.Patched B1) l t)
    (reads_or P (codes "B2\n") text _ _ (λ l t. reads_some P (mark.Patched B2) l t)
    (reads_or P (codes "T1\n") text _ _ (λ l t. reads_some P (mark.Patched T1) l t)
    (reads_or P (codes "T2\n") text _ _ (λ l t. reads_some P (mark.Patched T2) l t)
    (reads_or P (codes "T3\n") text _ _ (λ l t. reads_some P (mark.Patched T3) l t)
    (reads_or P (codes "NotRelocatable\n") text _ _ (λ l t. reads_some P mark.NotRelocatable l t)
    (reads_or P (codes "NoPlan\n") text _ _ (λ l t. reads_some P mark.NoPlan l t)
    (reads_or P (codes "Shared\n") text _ _ (λ l t. reads_some P mark.Shared l t) (reads_none P))))))))

-- The word on the event that is read is spelled there.
event_spelled : (text : List ℕ) → Reads (λ b rest. text ≡ event_word b ++ 10 ∷ rest) (event_front text)
unfolding event_front
event_spelled text =
    let P : Bool → List ℕ → Type 0 = λ b rest. text ≡ event_word b ++ 10 ∷ rest in
    reads_or P (codes "event\n") text _ _ (λ l t. reads_some P true l t)
    (reads_or P (codes "plain\n") text _ _ (λ l t. reads_some P false l t) (reads_none P))

-- A line stands at the front of a text.
abbrev pub Stands : List ℕ → Line → List ℕ → Type 0
Stands text x rest = IsLine x × (text ≡ line_text x ++ 10 ∷ rest)

-- A line of an action that is read stands there.
action_spelled : (text later : List ℕ) → text ≡ codes "action " ++ later → Reads (Stands text) (action_front later)
unfolding action_front
action_spelled text later t x rest e = by (length (before_first is_line_feed later) == length later) refl e
  where
    by : (b : Bool) → (length (before_first is_line_feed later) == length later) ≡ b
        → cond {A = Option (Line × List ℕ)} b None (action_of (before_first is_line_feed later)
        >>= λ a. Some (line.Action a, after_first is_line_feed later)) ≡ Some (x, rest)
        → Stands text x rest
    by true n f = absurd cc
    by false n f =
        let a = then_some (action_of (before_first is_line_feed later)) _ (x, rest) f in
        let s = named (before_first is_line_feed later) a.0 a.1 in
        let here : later ≡ action_word a.0 ++ 10 ∷ after_first is_line_feed later =
        cut_at 10 later n ∙ ap (λ (l : List ℕ). l ++ 10 ∷ after_first is_line_feed later) s.1 in
        reads_some (Stands text) (line.Action a.0) (after_first is_line_feed later) (
          record { holds = refl; fits = s.0 },
          word_front (codes "action ") text later (action_word a.0) (after_first is_line_feed later) t here,
        ) x rest a.2

-- A private range that is read holds, and has so many pages.
range_holds : (lo pages : ℕ)
    → (lo % 4096 == 0) && (nat_lt 0 pages && (nat_le lo high_end && nat_le pages ((high_end - lo) / 4096))) ≡ true
    → (line_holds (line.Private lo (lo + 4096 * pages)) ≡ true) × ((lo + 4096 * pages - lo) / 4096 ≡ pages)
range_holds lo pages h =
    let a = and_parts (lo % 4096 == 0) (nat_lt 0 pages && (nat_le lo high_end && nat_le pages ((high_end - lo) / 4096))) h in
    let b = and_parts (nat_lt 0 pages) (nat_le lo high_end && nat_le pages ((high_end - lo) / 4096)) a.1 in
    let c = and_parts (nat_le lo high_end) (nat_le pages ((high_end - lo) / 4096)) b.1 in
    let whole : lo % 4096 ≡ 0 = grind (arith, nat_tests) in
    let some : 0 < pages = grind (arith, nat_tests) in
    let low : lo ≤ high_end = grind (arith, nat_tests) in
    let few : pages ≤ (high_end - lo) / 4096 = grind (arith, nat_tests) in
    let hi : ℕ = lo + 4096 * pages in
    let ends : (lo + 4096 * pages) % 4096 ≡ 0 = omega arith in
    let less : lo < lo + 4096 * pages = omega arith in
    let within : lo + 4096 * pages ≤ high_end = omega arith in
    let e : (lo + 4096 * pages - lo) / 4096 ≡ pages = omega arith in
    let t0 : (lo % 4096 == 0) ≡ true = grind (arith, nat_tests) in
    let t1 : ((lo + 4096 * pages) % 4096 == 0) ≡ true = grind (arith, nat_tests) in
    let t2 : nat_lt lo (lo + 4096 * pages) ≡ true = grind (arith, nat_tests) in
    let t3 : nat_le (lo + 4096 * pages) high_end ≡ true = grind (arith, nat_tests) in
    (rw (t0, t1, t2, t3) refl, e)

-- The line of the private range that is read is spelled there.
private_spelled : (text later : List ℕ) → text ≡ codes "private " ++ later → Reads (Stands text) (private_front later)
unfolding private_front
private_spelled text later t x rest e =
    let a = then_some (address_before 32 later) _ (x, rest) e in
    let b = then_some (decimal_before (2 ^ 32) 10 a.0.1) _ (x, rest) a.2 in
    let p = address_spelled 32 later a.0.0 a.0.1 a.1 in
    let q = decimal_spelled (2 ^ 32) 10 a.0.1 b.0.0 b.0.1 b.1 in
    let lo : ℕ = a.0.0 in
    let pages : ℕ = b.0.0 in
    let k = cond_some ((lo % 4096 == 0) && (nat_lt 0 pages && (nat_le lo high_end && nat_le pages ((high_end - lo) / 4096))))
    (line.Private lo (lo + 4096 * pages), b.0.1) (x, rest) b.2 in
    let r = range_holds lo pages k.0 in
    let s : later ≡ (hex8 lo ++ 32 ∷ decimal ((lo + 4096 * pages - lo) / 4096)) ++ 10 ∷ b.0.1 =
    field_front (hex8 lo) later a.0.1 (decimal ((lo + 4096 * pages - lo) / 4096)) b.0.1 p.1
    (q.1 ∙ ap (λ (n : ℕ). decimal n ++ 10 ∷ b.0.1) (sym r.1)) in
    reads_some (Stands text) (line.Private lo (lo + 4096 * pages)) b.0.1
    (record { holds = r.0; fits = p.0 }, word_front (codes "private ") text later _ b.0.1 t s) x rest (ap Some k.1)

-- So is that of the number of sites.
sites_spelled : (text later : List ℕ) → text ≡ codes "sites " ++ later → Reads (Stands text) (sites_front later)
unfolding sites_front
sites_spelled text later t x rest e =
    let a = then_some (decimal_before (2 ^ 32) 10 later) _ (x, rest) e in
    let p = decimal_spelled (2 ^ 32) 10 later a.0.0 a.0.1 a.1 in
    let k = cond_some (nat_le a.0.0 most_sites) (line.Sites a.0.0, a.0.1) (x, rest) a.2 in
    reads_some (Stands text) (line.Sites a.0.0) a.0.1
    (record { holds = k.0; fits = tt }, word_front (codes "sites ") text later (decimal a.0.0) a.0.1 t p.1) x rest (ap Some k.1)

-- So is that of a site.
site_spelled : (text later : List ℕ) → text ≡ codes "site " ++ later → Reads (Stands text) (site_front later)
unfolding site_front
site_spelled text later t x rest e =
    let a = then_some (address_before 32 later) _ (x, rest) e in
    let b = then_some (decimal_before (2 ^ 32) 32 a.0.1) _ (x, rest) a.2 in
    let c = then_some (mark_front b.0.1) _ (x, rest) b.2 in
    let p = address_spelled 32 later a.0.0 a.0.1 a.1 in
    let q = decimal_spelled (2 ^ 32) 32 a.0.1 b.0.0 b.0.1 b.1 in
    let s = mark_spelled b.0.1 c.0.0 c.0.1 c.1 in
    reads_some (Stands text) (line.Site a.0.0 b.0.0 c.0.0) c.0.1 (
      record { holds = refl; fits = (p.0, q.0) },
      word_front (codes "site ") text later _ c.0.1 t
          (field_front (hex8 a.0.0) later a.0.1 _ c.0.1 p.1 (field_front (decimal b.0.0) a.0.1 b.0.1 (mark_word c.0.0) c.0.1 q.1 s)),
    )
    x rest c.2

-- So is that of a trampoline.
tramp_spelled : (text later : List ℕ) → text ≡ codes "tramp " ++ later → Reads (Stands text) (tramp_front later)
unfolding tramp_front
tramp_spelled text later t x rest e =
    let a = then_some (address_before 32 later) _ (x, rest) e in
    let b = then_some (address_before 32 a.0.1) _ (x, rest) a.2 in
    let c = then_some (event_front b.0.1) _ (x, rest) b.2 in
    let p = address_spelled 32 later a.0.0 a.0.1 a.1 in
    let q = address_spelled 32 a.0.1 b.0.0 b.0.1 b.1 in
    let s = event_spelled b.0.1 c.0.0 c.0.1 c.1 in
    let y : Line = line.Tramp (record { place = a.0.0; start = b.0.0; event = c.0.0 }) in
    let k = cond_some (nat_lt a.0.0 high_end) (y, c.0.1) (x, rest) c.2 in
    reads_some (Stands text) y c.0.1 (
      record { holds = k.0; fits = (p.0, q.0) },
      word_front (codes "tramp ") text later _ c.0.1 t
          (field_front (hex8 a.0.0) later a.0.1 _ c.0.1 p.1 (field_front (hex8 b.0.0) a.0.1 b.0.1 (event_word c.0.0) c.0.1 q.1 s)),
    )
    x rest (ap Some k.1)

-- So is that of a write.
write_spelled : (text later : List ℕ) → text ≡ codes "write " ++ later → Reads (Stands text) (write_front later)
unfolding write_front
write_spelled text later t x rest e =
    let a = then_some (address_before 32 later) _ (x, rest) e in
    let b = then_some (bytes_before 32 a.0.1) _ (x, rest) a.2 in
    let c = then_some (bytes_before 10 b.0.1) _ (x, rest) b.2 in
    let p = address_spelled 32 later a.0.0 a.0.1 a.1 in
    let q = field_spelled 32 a.0.1 b.0.0 b.0.1 b.1 in
    let s = field_spelled 10 b.0.1 c.0.0 c.0.1 c.1 in
    let k = cond_some (length c.0.0 == length b.0.0) (line.Write a.0.0 b.0.0 c.0.0, c.0.1) (x, rest) c.2 in
    reads_some (Stands text) (line.Write a.0.0 b.0.0 c.0.0) c.0.1 (
      record { holds = and_from _ _ q.1 k.0; fits = (p.0, q.0, s.0) },
      word_front (codes "write ") text later _ c.0.1 t
          (field_front (hex8 a.0.0) later a.0.1 _ c.0.1 p.1
          (field_front (encode_lower b.0.0) a.0.1 b.0.1 (encode_lower c.0.0) c.0.1 q.2 s.2)),
    )
    x rest (ap Some k.1)

-- So is that of punned bytes.
pun_spelled : (text later : List ℕ) → text ≡ codes "pun " ++ later → Reads (Stands text) (pun_front later)
unfolding pun_front
pun_spelled text later t x rest e =
    let a = then_some (address_before 32 later) _ (x, rest) e in
    let b = then_some (bytes_before 10 a.0.1) _ (x, rest) a.2 in
    let p = address_spelled 32 later a.0.0 a.0.1 a.1 in
    let q = field_spelled 10 a.0.1 b.0.0 b.0.1 b.1 in
    reads_some (Stands text) (line.Pun (record { addr = a.0.0; bytes = b.0.0 })) b.0.1 (
      record { holds = q.1; fits = (p.0, q.0) },
      word_front (codes "pun ") text later _ b.0.1 t
          (field_front (hex8 a.0.0) later a.0.1 (encode_lower b.0.0) b.0.1 p.1 q.2),
    )
    x rest b.2

-- So is that of a page.
page_spelled : (text later : List ℕ) → text ≡ codes "page " ++ later → Reads (Stands text) (page_front later)
unfolding page_front
page_spelled text later t x rest e =
    let a = then_some (address_before 32 later) _ (x, rest) e in
    let b = then_some (decimal_before (2 ^ 32) 10 a.0.1) _ (x, rest) a.2 in
    let p = address_spelled 32 later a.0.0 a.0.1 a.1 in
    let q = decimal_spelled (2 ^ 32) 10 a.0.1 b.0.0 b.0.1 b.1 in
    let k = cond_some ((a.0.0 % 4096 == 0) && nat_lt a.0.0 high_end) (line.Page a.0.0 b.0.0, b.0.1) (x, rest) b.2 in
    reads_some (Stands text) (line.Page a.0.0 b.0.0) b.0.1 (
      record { holds = k.0; fits = (p.0, q.0) },
      word_front (codes "page ") text later _ b.0.1 t
          (field_front (hex8 a.0.0) later a.0.1 (decimal b.0.0) b.0.1 p.1 q.1),
    )
    x rest (ap Some k.1)

-- So is that of an origin.
origin_spelled : (text later : List ℕ) → text ≡ codes "origin " ++ later → Reads (Stands text) (origin_front later)
unfolding origin_front
origin_spelled text later t x rest e =
    let a = then_some (number_before 32 later) _ (x, rest) e in
    let b = then_some (number_before 32 a.0.1) _ (x, rest) a.2 in
    let c = then_some (decimal_before (2 ^ 16) 32 b.0.1) _ (x, rest) b.2 in
    let d = then_some (entry_before 10 c.0.1) _ (x, rest) c.2 in
    let p = number_spelled 32 later a.0.0 a.0.1 a.1 in
    let q = number_spelled 32 a.0.1 b.0.0 b.0.1 b.1 in
    let r = decimal_spelled (2 ^ 16) 32 b.0.1 c.0.0 c.0.1 c.1 in
    let s = entry_spelled 10 c.0.1 d.0.0 d.0.1 d.1 in
    reads_some (Stands text) (line.Origin (record { len = a.0.0; phoff = b.0.0; phnum = c.0.0; entry = d.0.0 })) d.0.1 (
      record { holds = refl; fits = record { len = p.0; phoff = q.0; phnum = r.0; entry = s.0 } },
      word_front (codes "origin ") text later _ d.0.1 t
          (field_front (decimal a.0.0) later a.0.1 _ d.0.1 p.1
          (field_front (decimal b.0.0) a.0.1 b.0.1 _ d.0.1 q.1
          (field_front (decimal c.0.0) b.0.1 c.0.1 (hex16 d.0.0) d.0.1 r.1 s.1))),
    )
    x rest d.2

-- So is each line of the version and of what it tells.
version_spelled : (text : List ℕ) → Reads (Stands text) (version_front text)
unfolding version_front
version_spelled text =
    let P = Stands text in
    reads_or P (codes "origin ") text origin_front _ (λ l t. origin_spelled text l t)
    (reads_or P (codes "e9report 2\n") text _ _ (λ l t. reads_some P (line.Version Two) l (record { holds = refl; fits = tt }, t))
    (reads_or P (codes "e9report 1\n") text _ _ (λ l t. reads_some P (line.Version One) l (record { holds = refl; fits = tt }, t))
    (reads_none P)))

-- So is each line before the rows or behind the pages.
outer_spelled : (text : List ℕ) → Reads (Stands text) (outer_front text)
unfolding outer_front
outer_spelled text =
    let P = Stands text in
    reads_or P (codes "action ") text action_front _ (λ l t. action_spelled text l t)
    (reads_or P (codes "private ") text private_front _ (λ l t. private_spelled text l t)
    (reads_or P (codes "sites ") text sites_front _ (λ l t. sites_spelled text l t)
    (reads_or P (codes "end\n") text _ _ (λ l t. reads_some P line.End l (record { holds = refl; fits = tt }, t)) (version_spelled text))))

-- A line that is read may stand in a report, and is spelled there.
pub front_spelled : (text : List ℕ) → Reads (Stands text) (line_front text)
unfolding line_front
front_spelled text =
    let P = Stands text in
    reads_or P (codes "write ") text write_front _ (λ l t. write_spelled text l t)
    (reads_or P (codes "tramp ") text tramp_front _ (λ l t. tramp_spelled text l t)
    (reads_or P (codes "site ") text site_front _ (λ l t. site_spelled text l t)
    (reads_or P (codes "pun ") text pun_front _ (λ l t. pun_spelled text l t)
    (reads_or P (codes "page ") text page_front _ (λ l t. page_spelled text l t) (outer_spelled text)))))
