-- What stands in front of the table: writes over the original's bytes and zeros.
use Rattle.std.proofs.Common.{◌≡◌, ℕ, ◌+◌, ◌-◌, ◌%◌, ◌≤◌, inl, inr, Bool, true, false, cond, not, ◌&&◌, nat_lt, Option, Some, None, List, [], ◌∷◌, ◌++◌, length, filter, replicate, refl, sym, ap, ◌∙◌, arith, append_assoc}
use Rattle.std.specs.List.{AllByRecursion}
use Rattle.std.proofs.lemmas.Bool.{ltb-false}
use Rattle.std.proofs.lemmas.List.{length-append, length-replicate, replicate-append-replicate, take-replicate, drop-replicate}
use Rattle.byteorder.specs.Endian.{little_bytes}
use Rattle.byteorder.specs.Numbers.{length-bytes_low_first}
use Rattle.pun_base.specs.Field.{with_field}
use Rattle.elf_read.specs.declared.segment.Segment.{Segment}
use Rattle.elf_emit.specs.Job.{BytesAt, Frame}
use Rattle.elf_emit.specs.Frames.{placed, pad, padded, up, rewritten, content, olds, is_moved, stays, moved_bytes, renewed, count, moved_at, moved_part, table_at, with_entry, with_header, placed_all, original_part}
use Rattle.elf_emit.specs.Views.{InFile}
use Rattle.elf_emit.specs.FramePages.{contents, place_field, count_field, news, moved_len, entry_fields, in_front}
use Rattle.elf_emit.proofs.PlacedSlices.{length_content, length_padded, length_placed}
use Rattle.elf_emit.proofs.OriginalFacts.{Facts, length_original, length_moved_one, length_field, placed_field, length_started, long_started, length_header}
use Rattle.elf_emit.proofs.OverwrittenBytes.{rewritten-cons, rewritten-nil}
use Rattle.elf_emit.proofs.WrittenTable.{front}
use Rattle.elf_emit.proofs.PartialWrites.{Misses, missed, none_written, rewritten-append, over_whole, over_front}

-- a segment at its new place
abbrev moved_to : ℕ → Segment → Segment
moved_to at s = record s { offset = at + s.vaddr % 4096 }

-- the place for the next segment that is moved
abbrev next_place : ℕ → Segment → ℕ
next_place at s = at + up (s.vaddr % 4096 + s.filesz)

-- segments in front of a part, and behind it
contents_miss : (ws : List BytesAt) (orig : List ℕ) (all ss : List Segment) (lo n at : ℕ) → length orig ≤ lo → lo + n ≤ at → AllByRecursion (InFile (length orig)) ss
    → AllByRecursion (Misses lo n) (contents ws orig ss (renewed all at ss))
contents_miss ws orig all [] lo n at l m i = tt
contents_miss ws orig all (s ∷ ss) lo n at l m i =
    let e = length_content ws orig s i.0 in
    let q = i.0 in
    step (is_moved all s) (omega arith) (contents_miss ws orig all ss lo n (next_place at s) l (omega arith) i.1) (contents_miss ws orig all ss lo n at l m i.1)
  where
    step : (c : Bool) → s.offset + length (content ws orig s) ≤ lo → AllByRecursion (Misses lo n) (contents ws orig ss (renewed all (next_place at s) ss))
        → AllByRecursion (Misses lo n) (contents ws orig ss (renewed all at ss))
        → AllByRecursion (Misses lo n) (contents ws orig (s ∷ ss) (cond c (moved_to at s ∷ renewed all (next_place at s) ss) (s ∷ renewed all at ss)))
    step true p a b = (inr (omega arith), a)
    step false p a b = (inl p, b)

-- the original part: what stays is put in its place, and what is moved lies behind it
pub front_placed : (ws : List BytesAt) (orig : List ℕ) (all ss : List Segment) (at : ℕ) (bs zs : List ℕ) → length bs ≡ length orig → length orig + length zs ≤ at
    → AllByRecursion (InFile (length orig)) ss
    → rewritten (contents ws orig ss (renewed all at ss)) 0 (bs ++ zs) ≡ placed_all ws orig (filter (stays all) ss) bs ++ zs
front_placed ws orig all [] at bs zs e l i = rewritten-nil 0 (bs ++ zs)
front_placed ws orig all (s ∷ ss) at bs zs e l i =
    step (is_moved all s) (nat_lt 0 s.filesz) refl (length_content ws orig s i.0) (λ to cs f m. front_placed ws orig all ss to cs zs f m i.1)
  where
    c : List ℕ
    c = content ws orig s

    step : (m z : Bool) → nat_lt 0 s.filesz ≡ z → length c ≡ s.filesz
        → ((to : ℕ) (cs : List ℕ) → length cs ≡ length orig → length orig + length zs ≤ to → rewritten (contents ws orig ss (renewed all to ss)) 0 (cs ++ zs) ≡ placed_all ws orig (filter (stays all) ss) cs ++ zs)
        → rewritten (contents ws orig (s ∷ ss) (cond m (moved_to at s ∷ renewed all (next_place at s) ss) (s ∷ renewed all at ss))) 0 (bs ++ zs)
        ≡ placed_all ws orig (cond (z && not m) (s ∷ filter (stays all) ss) (filter (stays all) ss)) bs ++ zs
    step true true n k h = behind h
      where
        behind : ((to : ℕ) (cs : List ℕ) → length cs ≡ length orig → length orig + length zs ≤ to → rewritten (contents ws orig ss (renewed all to ss)) 0 (cs ++ zs) ≡ placed_all ws orig (filter (stays all) ss) cs ++ zs)
            → rewritten (record { addr = at + s.vaddr % 4096; now = c } ∷ contents ws orig ss (renewed all (next_place at s) ss)) 0 (bs ++ zs) ≡ placed_all ws orig (filter (stays all) ss) bs ++ zs
        behind g =
            rewritten-cons (record { addr = at + s.vaddr % 4096; now = c }) (contents ws orig ss (renewed all (next_place at s) ss)) 0 (bs ++ zs)
            ∙ ap (λ (x : List ℕ). rewritten (contents ws orig ss (renewed all (next_place at s) ss)) 0 x)
            (missed (record { addr = at + s.vaddr % 4096; now = c } ∷ []) 0 (bs ++ zs) (inr (omega (arith, length-append bs zs)), tt))
            ∙ g (next_place at s) bs e (omega arith)
    step true false n k h =
        rewritten-cons (record { addr = at + s.vaddr % 4096; now = c }) (contents ws orig ss (renewed all (next_place at s) ss)) 0 (bs ++ zs)
        ∙ ap (λ (x : List ℕ). rewritten (contents ws orig ss (renewed all (next_place at s) ss)) 0 x)
        (missed (record { addr = at + s.vaddr % 4096; now = c } ∷ []) 0 (bs ++ zs) (inr (omega (arith, length-append bs zs)), tt))
        ∙ h (next_place at s) bs e (omega arith)
    step false true n k h =
        let q = i.0 in
        rewritten-cons (record { addr = s.offset; now = c }) (contents ws orig ss (renewed all at ss)) 0 (bs ++ zs)
        ∙ ap (λ (x : List ℕ). rewritten (contents ws orig ss (renewed all at ss)) 0 x) (over_front s.offset c bs zs (omega arith))
        ∙ h at (placed bs s.offset c) (length_placed bs s.offset c (omega arith) ∙ e) l
    step false false n k h =
        let z = ltb-false 0 s.filesz n in
        rewritten-cons (record { addr = s.offset; now = c }) (contents ws orig ss (renewed all at ss)) 0 (bs ++ zs)
        ∙ ap (λ (x : List ℕ). rewritten (contents ws orig ss (renewed all at ss)) 0 x) (none_written s.offset 0 c (bs ++ zs) (omega arith))
        ∙ h at bs e l

-- bytes at their place in zeros, filled to a page
zeros_placed : (v : ℕ) (c : List ℕ) (n : ℕ) → n ≡ length (padded (replicate v 0 ++ c)) → placed (replicate n 0) v c ≡ padded (replicate v 0 ++ c)
zeros_placed v c n e =
    let x : List ℕ = replicate v 0 ++ c in
    let k : length x ≡ v + length c = length-append (replicate v 0) c ∙ ap (λ (y : ℕ). y + length c) (length-replicate {A = ℕ} v 0) in
    let m : n ≡ length x + pad (length x) = e ∙ length_padded x in
    let q : n - (v + length c) ≡ pad (length x) = omega arith in
    (λ i. take-replicate {X = ℕ} v n 0 (omega arith) i ++ (c ++ (drop-replicate {X = ℕ} (v + length c) n 0 ∙ ap (λ (y : ℕ). replicate y 0) q) i))
    ∙ sym (append_assoc (replicate v 0) c (replicate (pad (length x)) 0))

-- the moved part: each segment in zeros
pub moved_placed : (ws : List BytesAt) (orig : List ℕ) (all ss : List Segment) (at : ℕ) → length orig ≤ at → AllByRecursion (InFile (length orig)) ss
    → rewritten (contents ws orig ss (renewed all at ss)) at (replicate (length (moved_bytes ws orig all ss)) 0) ≡ moved_bytes ws orig all ss
moved_placed ws orig all [] at l i = refl
moved_placed ws orig all (s ∷ ss) at l i =
    step (is_moved all s) (length_content ws orig s i.0) (length_moved_one ws orig s i.0)
    (moved_placed ws orig all ss (next_place at s) (omega arith) i.1) (moved_placed ws orig all ss at l i.1)
  where
    c : List ℕ
    c = content ws orig s

    p : List ℕ
    p = padded (replicate (s.vaddr % 4096) 0 ++ content ws orig s)

    m : List ℕ
    m = moved_bytes ws orig all ss

    step : (b : Bool) → length c ≡ s.filesz → length p ≡ up (s.vaddr % 4096 + s.filesz)
        → rewritten (contents ws orig ss (renewed all (next_place at s) ss)) (next_place at s) (replicate (length m) 0) ≡ m
        → rewritten (contents ws orig ss (renewed all at ss)) at (replicate (length m) 0) ≡ m
        → rewritten (contents ws orig (s ∷ ss) (cond b (moved_to at s ∷ renewed all (next_place at s) ss) (s ∷ renewed all at ss))) at (replicate (length (cond b (p ++ m) m)) 0)
        ≡ cond b (p ++ m) m
    step true k n g h =
        let w : List BytesAt = record { addr = at + s.vaddr % 4096; now = c } ∷ [] in
        let rest : List BytesAt = contents ws orig ss (renewed all (next_place at s) ss) in
        let z : List ℕ = replicate (length p) 0 in
        let y : List ℕ = replicate (length m) 0 in
        let lz : length z ≡ length p = length-replicate {A = ℕ} (length p) 0 in
        let parts : replicate (length (p ++ m)) 0 ≡ z ++ y =
        ap (λ (x : ℕ). replicate x 0) (length-append p m) ∙ sym (replicate-append-replicate {A = ℕ} (length p) (length m) 0) in
        let one : rewritten w at z ≡ p = over_whole (at + s.vaddr % 4096) at (s.vaddr % 4096) c z refl (omega arith) ∙ zeros_placed (s.vaddr % 4096) c (length p) refl in
        let two : rewritten w (at + length z) y ≡ y = missed w (at + length z) y (inl (omega arith), tt) in
        let three : rewritten rest at p ≡ p = missed rest at p (contents_miss ws orig all ss at (length p) (next_place at s) l (omega arith) i.1) in
        let four : rewritten rest (at + length p) y ≡ m = (let q : at + length p ≡ next_place at s = omega arith in ap (λ (x : ℕ). rewritten rest x y) q ∙ g) in
        ap (λ (x : List ℕ). rewritten (record { addr = at + s.vaddr % 4096; now = c } ∷ rest) at x) parts
        ∙ rewritten-cons (record { addr = at + s.vaddr % 4096; now = c }) rest at (z ++ y)
        ∙ ap (λ (x : List ℕ). rewritten rest at x) (rewritten-append w at z y ∙ (λ j. one j ++ two j))
        ∙ rewritten-append rest at p y ∙ (λ j. three j ++ four j)
    step false k n g h =
        let q = i.0 in
        rewritten-cons (record { addr = s.offset; now = c }) (contents ws orig ss (renewed all at ss)) at (replicate (length m) 0)
        ∙ ap (λ (x : List ℕ). rewritten (contents ws orig ss (renewed all at ss)) at x)
        (missed (record { addr = s.offset; now = c } ∷ []) at (replicate (length m) 0) (inl (omega arith), tt)) ∙ h

-- a field of the header, written over bytes with others behind them, is set in them
pub field_written : (n at v : ℕ) (xs zs : List ℕ) → at + n ≤ length xs → rewritten (record { addr = at; now = little_bytes n v } ∷ []) 0 (xs ++ zs) ≡ with_field n at v xs ++ zs
field_written n at v xs zs l =
    let e = length-bytes_low_first 0 n v in
    over_front at (little_bytes n v) xs zs (omega arith) ∙ ap (λ (z : List ℕ). z ++ zs) (sym (placed_field n at v xs))

-- a field of the header changes no byte behind it
pub field_missed : (n at v lo : ℕ) (zs : List ℕ) → at + n ≤ lo → rewritten (record { addr = at; now = little_bytes n v } ∷ []) lo zs ≡ zs
field_missed n at v lo zs l = let e = length-bytes_low_first 0 n v in missed (record { addr = at; now = little_bytes n v } ∷ []) lo zs (inl (omega arith), tt)

-- two writes and then others leave what these others make of what the two leave
pub three_written : (v w : BytesAt) (ws : List BytesAt) (lo : ℕ) (a b c : List ℕ) → rewritten (v ∷ []) lo a ≡ b → rewritten (w ∷ []) lo b ≡ c → rewritten (v ∷ w ∷ ws) lo a ≡ rewritten ws lo c
three_written v w ws lo a b c e f =
    rewritten-cons v (w ∷ ws) lo a ∙ ap (λ (z : List ℕ). rewritten (w ∷ ws) lo z) e
    ∙ rewritten-cons w ws lo b ∙ ap (λ (z : List ℕ). rewritten ws lo z) f

-- the bytes in front of the table, before the writes
abbrev pub bare : Frame → List ℕ
bare j = padded j.orig ++ replicate (length (moved_part j)) 0

-- the entry's field first, if it is new
started_first : (entry : Option ℕ) (ws : List BytesAt) (orig zs : List ℕ) → 64 ≤ length orig
    → rewritten (entry_fields entry ++ ws) 0 (orig ++ zs) ≡ rewritten ws 0 (with_entry entry orig ++ zs)
started_first None ws orig zs l = refl
started_first (Some e) ws orig zs l =
    rewritten-cons (record { addr = 24; now = little_bytes 8 e }) ws 0 (orig ++ zs) ∙ ap (λ (z : List ℕ). rewritten ws 0 z) (field_written 8 24 e orig zs (omega (arith, l)))

started_missed : (entry : Option ℕ) (ws : List BytesAt) (lo : ℕ) (zs : List ℕ) → 32 ≤ lo → rewritten (entry_fields entry ++ ws) lo zs ≡ rewritten ws lo zs
started_missed None ws lo zs l = refl
started_missed (Some e) ws lo zs l =
    rewritten-cons (record { addr = 24; now = little_bytes 8 e }) ws lo zs ∙ ap (λ (z : List ℕ). rewritten ws lo z) (field_missed 8 24 e lo zs (omega (arith, l)))

-- the header's fields and the segments' bytes, written over the original and zeros, are what stands in front of the table
pub front_written : (j : Frame) → Facts j → rewritten (in_front j) 0 (bare j) ≡ front j
front_written j f =
    let zs : List ℕ = replicate (pad (length j.orig)) 0 in
    let ms : List ℕ = replicate (length (moved_part j)) 0 in
    let cs : List BytesAt = contents j.writes j.orig (olds j) (news j) in
    let place = table_at j in
    let orig : List ℕ = with_entry j.entry j.orig in
    let ws : List BytesAt = place_field place ∷ count_field (count j) ∷ cs in
    let long = f.long in
    let same = length_started j.entry j.orig f.long in
    let wide = long_started j f in
    let lz : length zs ≡ pad (length j.orig) = length-replicate {A = ℕ} (pad (length j.orig)) 0 in
    let lf : length (with_field 8 32 place orig) ≡ length orig = length_field 8 32 place orig (omega (arith, wide)) in
    let lh : length (with_header j) ≡ length j.orig = length_header j f in
    let first : rewritten (in_front j) 0 (padded j.orig) ≡ padded (original_part j) =
    started_first j.entry ws j.orig zs f.long
    ∙ three_written (place_field place) (count_field (count j)) cs 0 (orig ++ zs) (with_field 8 32 place orig ++ zs) (with_header j ++ zs)
    (field_written 8 32 place orig zs (omega (arith, wide))) (field_written 2 56 (count j) (with_field 8 32 place orig) zs (omega (arith, wide, lf)))
    ∙ front_placed j.writes j.orig (olds j) (olds j) (moved_at j) (with_header j) zs lh (omega (arith, lz)) f.inside
    ∙ ap (λ (n : ℕ). original_part j ++ replicate (pad n) 0) (sym (length_original j f)) in
    let at : 0 + length (padded j.orig) ≡ moved_at j = (let q = length_padded j.orig in omega (arith, q)) in
    let second : rewritten (in_front j) (0 + length (padded j.orig)) ms ≡ moved_part j =
    ap (λ (x : ℕ). rewritten (in_front j) x ms) at
    ∙ started_missed j.entry ws (moved_at j) ms (omega (arith, long))
    ∙ three_written (place_field place) (count_field (count j)) cs (moved_at j) ms ms ms
    (field_missed 8 32 place (moved_at j) ms (omega (arith, long))) (field_missed 2 56 (count j) (moved_at j) ms (omega (arith, long)))
    ∙ moved_placed j.writes j.orig (olds j) (olds j) (moved_at j) (omega (arith, long)) f.inside in
    rewritten-append (in_front j) 0 (padded j.orig) ms ∙ (λ i. first i ++ second i)

-- the moved segments' bytes are as many as are counted
pub length_moved : (ws : List BytesAt) (orig : List ℕ) (all ss : List Segment) → AllByRecursion (InFile (length orig)) ss → length (moved_bytes ws orig all ss) ≡ moved_len all ss
length_moved ws orig all [] i = refl
length_moved ws orig all (s ∷ ss) i = step (is_moved all s) (length_moved_one ws orig s i.0) (length_moved ws orig all ss i.1)
  where
    step : (b : Bool) → length (padded (replicate (s.vaddr % 4096) 0 ++ content ws orig s)) ≡ up (s.vaddr % 4096 + s.filesz) → length (moved_bytes ws orig all ss) ≡ moved_len all ss
        → length (cond b (padded (replicate (s.vaddr % 4096) 0 ++ content ws orig s) ++ moved_bytes ws orig all ss) (moved_bytes ws orig all ss))
        ≡ cond b (up (s.vaddr % 4096 + s.filesz) + moved_len all ss) (moved_len all ss)
    step true e h = length-append (padded (replicate (s.vaddr % 4096) 0 ++ content ws orig s)) (moved_bytes ws orig all ss) ∙ (λ i2. e i2 + h i2)
    step false e h = h

-- they are whole pages
pub moved_whole : (all ss : List Segment) → moved_len all ss % 4096 ≡ 0
moved_whole all [] = refl
moved_whole all (s ∷ ss) = step (is_moved all s) (moved_whole all ss)
  where
    step : (b : Bool) → moved_len all ss % 4096 ≡ 0 → cond b (up (s.vaddr % 4096 + s.filesz) + moved_len all ss) (moved_len all ss) % 4096 ≡ 0
    step true h = sum (s.vaddr % 4096 + s.filesz) (moved_len all ss) h
      where
        sum : (n m : ℕ) → m % 4096 ≡ 0 → (up n + m) % 4096 ≡ 0
        sum n m e = omega arith
    step false h = h
