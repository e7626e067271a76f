-- A line that is spelled at the front of a text is read there.
use Rattle.std.proofs.Common.{◌≡◌, ℕ, ◌+◌, ◌-◌, ◌*◌, ◌/◌, ◌%◌, ◌^◌, ◌<◌, ◌≤◌, Bool, true, false, ◌&&◌, List, ◌∷◌, ◌++◌, length, Some, refl, ap, ◌∙◌, arith, append_assoc}
use Rattle.std.specs.Prelude.{◌==◌, nat_le, nat_lt}
use Rattle.std.specs.Fmt.{decimal}
use Rattle.std.proofs.lemmas.Bool.{and_parts}
use Rattle.std.proofs.lemmas.Bool.Decides.{nat_tests}
use Rattle.hex.specs.Hex.{encode_lower}
use Rattle.pun_base.specs.declared.action.Action.{Action}
use Rattle.pun_base.specs.Actions.{IsAction}
use Rattle.list_text.specs.ActionWords.{action_word}
use Rattle.list_text.proofs.ActionSpellings.{action_line, action_read as named}
use Rattle.list_text.proofs.WordParts.{after_is, before_is}
use Rattle.pun_base.specs.declared.scheme.Scheme.TheVariants.{B1}
use Rattle.pun_base.specs.Limits.{most_sites}
use Rattle.patch_report.specs.declared.origin.Version.TheVariants.{One, Two}
use Rattle.patch_report.specs.declared.line.Line.{Line}
use Rattle.patch_report.specs.declared.line.Line.TheVariants as line
use Rattle.patch_report.specs.declared.line.Mark.{Mark}
use Rattle.patch_report.specs.declared.line.Mark.TheVariants as mark
use Rattle.patch_report.specs.Grammar.{high_end, is_field, line_holds, IsLine}
use Rattle.patch_report.specs.Spelling.{event_word, hex16, hex8, line_text, mark_word}
use Rattle.patch_report.specs.Fields.{behind}
use Rattle.patch_report.specs.Front.{action_front, event_front, line_front, mark_front, outer_front, origin_front, page_front, private_front, pun_front, site_front, sites_front, tramp_front, version_front, write_front}
use Rattle.patch_report.proofs.TextCuts.{longer}
use Rattle.patch_report.proofs.FieldTexts.{address_read, blank_is_none, decimal_read, entry_read, feed_is_none, field_read, number_read}

-- ---- what is spelled is read

-- The word of an outcome is read as that outcome.
mark_read : (m : Mark) (rest : List ℕ) → mark_front (mark_word m ++ 10 ∷ rest) ≡ Some (m, rest)
unfolding mark_front behind
mark_read (mark.Patched B1) rest = refl
mark_read m rest = refl

-- The word on an event is read.
event_read : (b : Bool) (rest : List ℕ) → event_front (event_word b ++ 10 ∷ rest) ≡ Some (b, rest)
unfolding event_front behind
event_read true rest = refl
event_read false rest = refl

-- The word of an action is read as the line of that action.
action_read : (a : Action) (rest : List ℕ) → IsAction a → action_front (action_word a ++ 10 ∷ rest) ≡ Some (line.Action a, rest)
unfolding action_front
action_read a rest h =
    let w = action_word a in
    let l = action_line a h in
    rw (before_is 10 w rest l, after_is 10 w rest l, longer w rest, named a h) refl

-- Two fields in front of others.
two_fields : (a b rest : List ℕ) → (a ++ 32 ∷ b) ++ rest ≡ a ++ 32 ∷ (b ++ rest)
two_fields a b rest = append_assoc a (32 ∷ b) rest

-- Three fields in front of others.
three_fields : (a b c rest : List ℕ) → (a ++ 32 ∷ (b ++ 32 ∷ c)) ++ rest ≡ a ++ 32 ∷ (b ++ 32 ∷ (c ++ rest))
three_fields a b c rest = two_fields a (b ++ 32 ∷ c) rest ∙ ap (λ (l : List ℕ). a ++ 32 ∷ l) (two_fields b c rest)

-- Four fields in front of others.
four_fields : (a b c d rest : List ℕ)
    → (a ++ 32 ∷ (b ++ 32 ∷ (c ++ 32 ∷ d))) ++ rest ≡ a ++ 32 ∷ (b ++ 32 ∷ (c ++ 32 ∷ (d ++ rest)))
four_fields a b c d rest = two_fields a (b ++ 32 ∷ (c ++ 32 ∷ d)) rest ∙ ap (λ (l : List ℕ). a ++ 32 ∷ l) (three_fields b c d rest)

-- The ends of a private range that holds are whole pages, in order, and at the high end at most.
range_parts : (lo hi : ℕ) → line_holds (line.Private lo hi) ≡ true
    → (lo % 4096 ≡ 0) × (hi % 4096 ≡ 0) × (lo < hi) × (hi ≤ high_end)
range_parts lo hi h =
    let a = and_parts (lo % 4096 == 0) ((hi % 4096 == 0) && (nat_lt lo hi && nat_le hi high_end)) h in
    let b = and_parts (hi % 4096 == 0) (nat_lt lo hi && nat_le hi high_end) a.1 in
    let c = and_parts (nat_lt lo hi) (nat_le hi high_end) b.1 in
    (grind (arith, nat_tests), grind (arith, nat_tests), grind (arith, nat_tests), grind (arith, nat_tests))

-- The pages of a private range that holds pass the reader's test, and give its end.
pages_hold : (lo hi : ℕ) → line_holds (line.Private lo hi) ≡ true
    → ((lo % 4096 == 0) && (nat_lt 0 ((hi - lo) / 4096) && (nat_le lo high_end && nat_le ((hi - lo) / 4096) ((high_end - lo) / 4096)))
    ≡ true) × (lo + 4096 * ((hi - lo) / 4096) ≡ hi) × ((hi - lo) / 4096 < 2 ^ 32)
pages_hold lo hi h =
    let p = range_parts lo hi h in
    let la : lo % 4096 ≡ 0 = p.0 in
    let lb : hi % 4096 ≡ 0 = p.1 in
    let lc : lo < hi = p.2 in
    let ld : hi ≤ high_end = p.3 in
    let t0 : (lo % 4096 == 0) ≡ true = grind (arith, nat_tests) in
    let some : 0 < (hi - lo) / 4096 = omega arith in
    let low : lo ≤ high_end = omega arith in
    let few : (hi - lo) / 4096 ≤ (high_end - lo) / 4096 = omega arith in
    let t1 : nat_lt 0 ((hi - lo) / 4096) ≡ true = grind (arith, nat_tests) in
    let t2 : nat_le lo high_end ≡ true = grind (arith, nat_tests) in
    let t3 : nat_le ((hi - lo) / 4096) ((high_end - lo) / 4096) ≡ true = grind (arith, nat_tests) in
    (rw (t0, t1, t2, t3) refl, omega arith, omega arith)

-- The line of the private range is read behind its first word.
private_read : (lo hi : ℕ) (rest : List ℕ) → IsLine (line.Private lo hi)
    → private_front (hex8 lo ++ 32 ∷ (decimal ((hi - lo) / 4096) ++ 10 ∷ rest)) ≡ Some (line.Private lo hi, rest)
unfolding private_front
private_read lo hi rest h =
    let pages : ℕ = (hi - lo) / 4096 in
    let k = pages_hold lo hi h.holds in
    rw (address_read 32 lo (decimal pages ++ 10 ∷ rest) h.fits, decimal_read (2 ^ 32) 10 pages rest refl k.2 (omega arith), k.0, k.1) refl

-- A count of sites has 32 bits.
small_count : (n : ℕ) → nat_le n most_sites ≡ true → n < 2 ^ 32
small_count n h = let k : n ≤ most_sites = grind (arith, nat_tests) in omega arith

-- So is that of the number of sites.
sites_read : (count : ℕ) (rest : List ℕ) → IsLine (line.Sites count)
    → sites_front (decimal count ++ 10 ∷ rest) ≡ Some (line.Sites count, rest)
unfolding sites_front
sites_read count rest h = rw (decimal_read (2 ^ 32) 10 count rest refl (small_count count h.holds) (omega arith), h.holds) refl

-- So is that of a site.
site_read : (site number : ℕ) (m : Mark) (rest : List ℕ) → IsLine (line.Site site number m)
    → site_front (hex8 site ++ 32 ∷ (decimal number ++ 32 ∷ (mark_word m ++ 10 ∷ rest))) ≡ Some (line.Site site number m, rest)
unfolding site_front
site_read site number m rest h =
    let t = mark_word m ++ 10 ∷ rest in
    rw (
      address_read 32 site (decimal number ++ 32 ∷ t) h.fits.0,
      decimal_read (2 ^ 32) 32 number t refl h.fits.1 (omega arith),
      mark_read m rest,
    ) refl

-- So is that of a trampoline.
tramp_read : (place start : ℕ) (event : Bool) (rest : List ℕ)
    → IsLine (line.Tramp (record { place = place; start = start; event = event }))
    → tramp_front (hex8 place ++ 32 ∷ (hex8 start ++ 32 ∷ (event_word event ++ 10 ∷ rest)))
    ≡ Some (line.Tramp (record { place = place; start = start; event = event }), rest)
unfolding tramp_front
tramp_read place start event rest h =
    let t = event_word event ++ 10 ∷ rest in
    rw (address_read 32 place (hex8 start ++ 32 ∷ t) h.fits.0, address_read 32 start t h.fits.1, event_read event rest, h.holds) refl

-- As many bytes as a field has are a field.
same_field : (m n : ℕ) → is_field m ≡ true → (n == m) ≡ true → is_field n ≡ true
same_field m n h e = let k : n ≡ m = grind (arith, nat_tests) in rw k h

-- So is that of a write.
write_read : (addr : ℕ) (was now rest : List ℕ) → IsLine (line.Write addr was now)
    → write_front (hex8 addr ++ 32 ∷ (encode_lower was ++ 32 ∷ (encode_lower now ++ 10 ∷ rest)))
    ≡ Some (line.Write addr was now, rest)
unfolding write_front
write_read addr was now rest h =
    let t = encode_lower now ++ 10 ∷ rest in
    let a = and_parts (is_field (length was)) (length now == length was) h.holds in
    rw (
      address_read 32 addr (encode_lower was ++ 32 ∷ t) h.fits.0,
      field_read 32 was t blank_is_none h.fits.1 a.0,
      field_read 10 now rest feed_is_none h.fits.2 (same_field (length was) (length now) a.0 a.1),
      a.1,
    ) refl

-- So is that of punned bytes.
pun_read : (addr : ℕ) (bytes rest : List ℕ) → IsLine (line.Pun (record { addr = addr; bytes = bytes }))
    → pun_front (hex8 addr ++ 32 ∷ (encode_lower bytes ++ 10 ∷ rest))
    ≡ Some (line.Pun (record { addr = addr; bytes = bytes }), rest)
unfolding pun_front
pun_read addr bytes rest h =
    rw (address_read 32 addr (encode_lower bytes ++ 10 ∷ rest) h.fits.0, field_read 10 bytes rest feed_is_none h.fits.1 h.holds) refl

-- So is that of a page.
page_read : (page group : ℕ) (rest : List ℕ) → IsLine (line.Page page group)
    → page_front (hex8 page ++ 32 ∷ (decimal group ++ 10 ∷ rest)) ≡ Some (line.Page page group, rest)
unfolding page_front
page_read page group rest h =
    rw (
      address_read 32 page (decimal group ++ 10 ∷ rest) h.fits.0,
      decimal_read (2 ^ 32) 10 group rest refl h.fits.1 (omega arith),
      h.holds,
    ) refl

-- So is that of an origin.
origin_read : (len phoff phnum entry : ℕ) (rest : List ℕ)
    → IsLine (line.Origin (record { len = len; phoff = phoff; phnum = phnum; entry = entry }))
    → origin_front (decimal len ++ 32 ∷ (decimal phoff ++ 32 ∷ (decimal phnum ++ 32 ∷ (hex16 entry ++ 10 ∷ rest))))
    ≡ Some (line.Origin (record { len = len; phoff = phoff; phnum = phnum; entry = entry }), rest)
unfolding origin_front
origin_read len phoff phnum entry rest h =
    let t = hex16 entry ++ 10 ∷ rest in
    rw (
      number_read 32 len (decimal phoff ++ 32 ∷ (decimal phnum ++ 32 ∷ t)) refl h.fits.len,
      number_read 32 phoff (decimal phnum ++ 32 ∷ t) refl h.fits.phoff,
      decimal_read (2 ^ 16) 32 phnum t refl h.fits.phnum (omega arith),
      entry_read 10 entry rest h.fits.entry,
    ) refl

-- A line that stands at the front of a text is read there.
pub front_read : (x : Line) (rest : List ℕ) → IsLine x → line_front (line_text x ++ 10 ∷ rest) ≡ Some (x, rest)
unfolding line_front outer_front version_front behind
front_read (line.Version One) rest h = refl
front_read (line.Version Two) rest h = refl
front_read (line.Origin o) rest h =
    ap origin_front (four_fields (decimal o.len) (decimal o.phoff) (decimal o.phnum) (hex16 o.entry) (10 ∷ rest))
    ∙ origin_read o.len o.phoff o.phnum o.entry rest h
front_read (line.Action a) rest h = action_read a rest h.fits
front_read (line.Private lo hi) rest h =
    ap private_front (two_fields (hex8 lo) (decimal ((hi - lo) / 4096)) (10 ∷ rest)) ∙ private_read lo hi rest h
front_read (line.Sites count) rest h = sites_read count rest h
front_read (line.Site site number m) rest h =
    ap site_front (three_fields (hex8 site) (decimal number) (mark_word m) (10 ∷ rest)) ∙ site_read site number m rest h
front_read (line.Tramp t) rest h =
    ap tramp_front (three_fields (hex8 t.place) (hex8 t.start) (event_word t.event) (10 ∷ rest))
    ∙ tramp_read t.place t.start t.event rest h
front_read (line.Write addr was now) rest h =
    ap write_front (three_fields (hex8 addr) (encode_lower was) (encode_lower now) (10 ∷ rest)) ∙ write_read addr was now rest h
front_read (line.Pun p) rest h =
    ap pun_front (two_fields (hex8 p.addr) (encode_lower p.bytes) (10 ∷ rest)) ∙ pun_read p.addr p.bytes rest h
front_read (line.Page page group) rest h =
    ap page_front (two_fields (hex8 page) (decimal group) (10 ∷ rest)) ∙ page_read page group rest h
front_read line.End rest h = refl
