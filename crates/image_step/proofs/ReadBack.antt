-- The text of a line is read as that line.
use Rattle.std.proofs.Common.{◌≡◌, ◌⊎◌, inl, inr, ℕ, ◌+◌, ◌-◌, ◌*◌, ◌^◌, ◌<◌, Bool, true, false, ◌&&◌, List, [], ◌∷◌, ◌++◌, length, Option, Some, None, IfSome, refl, ap, ◌∙◌, arith}
use Rattle.std.specs.Prelude.{nat_le, nat_lt, codes}
use Rattle.std.specs.Str.{bytes_eq}
use Rattle.std.proofs.lemmas.Bool.{and_parts}
use Rattle.std.proofs.lemmas.Bool.Decides.{nat_tests}
use Rattle.std.proofs.lemmas.Slice.Eq.{bytes_eq-Decides}
use Rattle.std.specs.Int.{w64, to_be_bytes}
use Rattle.hex.specs.Hex.{IsBytes, encode_lower, lower_digits}
use Rattle.hex.proofs.HexLemmas.{length-encode_with}
use Rattle.cpu_state.specs.declared.script_regions.RegionBody.{RegionBody}
use Rattle.cpu_state.specs.declared.script_regions.RegionBody.TheVariants.{Zeros, Bytes}
use Rattle.cpu_state.specs.Script.{is_bounded, is_permission}
use Rattle.image_step.specs.declared.line.Line.{Line}
use Rattle.image_step.specs.declared.line.Line.TheVariants as line
use Rattle.image_step.specs.Grammar.{IsBodyOfBytes, LineHolds, is_within, line_fits}
use Rattle.image_step.specs.Spelling.{address_word, hex16, line_text, name, permission, region_text}
use Rattle.image_step.specs.Reading.{address_in, ask_in, line_behind, line_of, mem_in, name_in, permission_in, region_in, set_in, value_in, zeros_in}
use Rattle.list_text.specs.Blanks.{word, later_words}
use Rattle.image_step.proofs.Numbers.{bytes_read, encoded_above, number_above, number_read}
use Rattle.image_step.proofs.Places.{FactsFrom, fact_at}
use Rattle.image_step.proofs.Words.{Above, word_before, word_behind}

-- ---- words

-- The first word of a text is what stands before its first blank.
pub front_word : (w rest : List ℕ) → Above 32 w → word (w ++ 32 ∷ rest) ≡ w
front_word w rest a = word_before 32 w rest a

-- The later words of a text are what stands after its first blank.
pub behind_word : (w rest : List ℕ) → Above 32 w → later_words (w ++ 32 ∷ rest) ≡ rest
behind_word w rest a = word_behind 32 w rest a

abbrev IsNameRead : ℕ → Type 0
IsNameRead k = name_in (name k) ≡ Some k

names_read : FactsFrom IsNameRead 0 19
unfolding name_in name
names_read =
    (refl, (refl, (refl, (refl, (refl, (refl, (refl, (refl, (refl, (refl, (refl, (refl, (refl, (refl, (refl, (refl, (refl, (refl, (refl, tt)))))))))))))))))))

abbrev IsNamePlain : ℕ → Type 0
IsNamePlain k = Above 32 (name k)

abbrev IsNameKind : ℕ → Type 0
IsNameKind k = (text : List ℕ) → line_behind (name k) text ≡ value_in (name k) text

names_kind : FactsFrom IsNameKind 0 19
unfolding line_behind name
names_kind = (
  λ t. refl,
  (
    λ t. refl,
    (
      λ t. refl,
      (
        λ t. refl,
        (
          λ t. refl,
          (
            λ t. refl,
            (
              λ t. refl,
              (
                λ t. refl,
                (
                  λ t. refl,
                  (
                    λ t. refl,
                    (
                      λ t. refl,
                      (λ t. refl, (λ t. refl, (λ t. refl, (λ t. refl, (λ t. refl, (λ t. refl, (λ t. refl, (λ t. refl, tt)))))))),
                    ),
                  ),
                ),
              ),
            ),
          ),
        ),
      ),
    ),
  ),
)

two : (a b : ℕ) → 32 < a → 32 < b → Above 32 (a ∷ b ∷ [])
two a b p q = (p, (q, tt))

three : (a b c : ℕ) → 32 < a → 32 < b → 32 < c → Above 32 (a ∷ b ∷ c ∷ [])
three a b c p q r = (p, (q, (r, tt)))

names_plain : FactsFrom IsNamePlain 0 19
unfolding name
names_plain =
    let t = λ (a b c : ℕ) (p : 32 < a) (q : 32 < b) (r : 32 < c). three a b c p q r in (
      three 114 97 120 (omega arith) (omega arith) (omega arith),
      (
        three 114 99 120 (omega arith) (omega arith) (omega arith),
        (
          three 114 100 120 (omega arith) (omega arith) (omega arith),
          (
            three 114 98 120 (omega arith) (omega arith) (omega arith),
            (
              three 114 115 112 (omega arith) (omega arith) (omega arith),
              (
                three 114 98 112 (omega arith) (omega arith) (omega arith),
                (
                  three 114 115 105 (omega arith) (omega arith) (omega arith),
                  (
                    three 114 100 105 (omega arith) (omega arith) (omega arith),
                    (
                      two 114 56 (omega arith) (omega arith),
                      (
                        two 114 57 (omega arith) (omega arith),
                        (
                          three 114 49 48 (omega arith) (omega arith) (omega arith),
                          (
                            three 114 49 49 (omega arith) (omega arith) (omega arith),
                            (
                              three 114 49 50 (omega arith) (omega arith) (omega arith),
                              (
                                three 114 49 51 (omega arith) (omega arith) (omega arith),
                                (
                                  three 114 49 52 (omega arith) (omega arith) (omega arith),
                                  (
                                    three 114 49 53 (omega arith) (omega arith) (omega arith),
                                    (
                                      (omega arith, (omega arith, three 97 103 115 (omega arith) (omega arith) (omega arith))),
                                      (two 102 115 (omega arith) (omega arith), (two 103 115 (omega arith) (omega arith), tt)),
                                    ),
                                  ),
                                ),
                              ),
                            ),
                          ),
                        ),
                      ),
                    ),
                  ),
                ),
              ),
            ),
          ),
        ),
      ),
    )

-- The characters of a name are above the space.
pub name_plain : (k : ℕ) → nat_lt k 19 ≡ true → Above 32 (name k)
name_plain k h = fact_at IsNamePlain 19 k (grind (arith, nat_tests)) names_plain

name_read : (k : ℕ) → nat_lt k 19 ≡ true → name_in (name k) ≡ Some k
name_read k h = fact_at IsNameRead 19 k (grind (arith, nat_tests)) names_read

name_kind : (k : ℕ) (text : List ℕ) → nat_lt k 19 ≡ true → line_behind (name k) text ≡ value_in (name k) text
name_kind k text h = fact_at IsNameKind 19 k (grind (arith, nat_tests)) names_kind text

-- ---- permissions

four : (p : ℕ) → is_permission p ≡ true → (p ≡ 4) ⊎ ((p ≡ 6) ⊎ ((p ≡ 5) ⊎ (p ≡ 7)))
four p h = grind (arith, nat_tests)

-- So are those of a permission.
pub permission_plain : (p : ℕ) → is_permission p ≡ true → Above 32 (permission p)
unfolding permission
permission_plain p h = elim (four p h) [
  | inl e ↦ rw e (three 114 45 45 (omega arith) (omega arith) (omega arith))
  | inr (inl e) ↦ rw e (three 114 119 45 (omega arith) (omega arith) (omega arith))
  | inr (inr (inl e)) ↦ rw e (three 114 45 120 (omega arith) (omega arith) (omega arith))
  | inr (inr (inr e)) ↦ rw e (three 114 119 120 (omega arith) (omega arith) (omega arith))
]

permission_read : (p : ℕ) → is_permission p ≡ true → permission_in (permission p) ≡ p
unfolding permission permission_in
permission_read p h = elim (four p h) [
  | inl e ↦ rw e refl
  | inr (inl e) ↦ rw e refl
  | inr (inr (inl e)) ↦ rw e refl
  | inr (inr (inr e)) ↦ rw e refl
]

-- ---- lines

-- A line whose kind is read from its text is read.
held : (x : Line) → line_fits x ≡ true → line_behind (word (line_text x)) (later_words (line_text x)) ≡ Some x → line_of (line_text x) ≡ Some x
unfolding line_of
held x fits e =
    let same : bytes_eq (line_text x) (line_text x) ≡ true = (bytes_eq-Decides (line_text x) (line_text x)).1 refl in
    rw e (rw fits (rw same refl))

value_text : (k v : ℕ) → nat_lt k 19 ≡ true → v < 2 ^ 64 → value_in (name k) (hex16 v) ≡ Some (line.Value k v)
unfolding value_in
value_text k v h small = rw (name_read k h) (rw (number_read v small) refl)

value_held : (k v : ℕ) → nat_lt k 19 ≡ true → v < 2 ^ 64
    → line_behind (word (name k ++ 32 ∷ hex16 v)) (later_words (name k ++ 32 ∷ hex16 v)) ≡ Some (line.Value k v)
value_held k v h small =
    let a = name_plain k h in
    rw (front_word (name k) (hex16 v) a) (rw (behind_word (name k) (hex16 v) a) (name_kind k (hex16 v) h ∙ value_text k v h small))

set_held : (k v : ℕ) → nat_lt k 19 ≡ true → v < 2 ^ 64 → set_in (name k ++ 32 ∷ hex16 v) ≡ Some (line.Set k v)
unfolding set_in
set_held k v h small =
    let a = name_plain k h in
    rw (front_word (name k) (hex16 v) a) (rw (behind_word (name k) (hex16 v) a) (rw (name_read k h) (rw (number_read v small) refl)))

mem_held : (a : ℕ) (bs : List ℕ) → a < 2 ^ 64 → is_within 4096 (length bs) ≡ true → IsBytes bs
    → mem_in (hex16 a ++ 32 ∷ encode_lower bs) ≡ Some (line.Mem (record { addr = a; bytes = bs }))
unfolding mem_in
mem_held a bs small some bytes =
    let plain = number_above a in
    rw (front_word (hex16 a) (encode_lower bs) plain) (rw (behind_word (hex16 a) (encode_lower bs) plain)
    (rw (number_read a small) (rw (bytes_read 4096 bs some bytes) refl)))

-- No number is spelled `-`.
not_none : (v : ℕ) → v < 2 ^ 64 → (b : Bool) → bytes_eq (hex16 v) (codes "-") ≡ b → b ≡ false
unfolding hex16
not_none v small false e = refl
not_none v small true e =
    let same : hex16 v ≡ codes "-" = (bytes_eq-Decides (hex16 v) (codes "-")).0 e in
    let len : length (hex16 v) ≡ 2 * 8 = length-encode_with lower_digits (to_be_bytes w64 v) in
    let one : length (hex16 v) ≡ 1 = ap (length {A = ℕ}) same in
    absurd (omega (arith, len, one))

address_held : (a : Option ℕ) → IfSome a (λ n. n < 2 ^ 64) → address_in (address_word a) ≡ Some a
unfolding address_in
address_held None h = refl
address_held (Some v) h = rw (not_none v h (bytes_eq (hex16 v) (codes "-")) refl) (rw (number_read v h) refl)

ask_held : (bs : List ℕ) (a : Option ℕ) → is_within 15 (length bs) ≡ true → IsBytes bs → IfSome a (λ n. n < 2 ^ 64)
    → ask_in (encode_lower bs ++ 32 ∷ address_word a) ≡ Some (line.Ask (record { bytes = bs; addr = a }))
unfolding ask_in
ask_held bs a some bytes small =
    let plain = encoded_above bs bytes in
    rw (front_word (encode_lower bs) (address_word a) plain) (rw (behind_word (encode_lower bs) (address_word a) plain)
    (rw (bytes_read 15 bs some bytes) (rw (address_held a small) refl)))

back : (lo n : ℕ) → lo + n - lo ≡ n
back lo n = omega arith

zeros_held : (lo perms n : ℕ) → is_permission perms ≡ true → nat_lt 0 n ≡ true → lo < 2 ^ 64 → lo + n < 2 ^ 64
    → zeros_in (hex16 lo ++ 32 ∷ (hex16 (lo + n) ++ 32 ∷ permission perms)) ≡ Some (line.Region (record { lo = lo; perms = perms; body = Zeros n }))
unfolding zeros_in
zeros_held lo perms n p some small end =
    let rest : List ℕ = hex16 (lo + n) ++ 32 ∷ permission perms in
    let e0 = front_word (hex16 lo) rest (number_above lo) in
    let e1 = behind_word (hex16 lo) rest (number_above lo) in
    let e2 = front_word (hex16 (lo + n)) (permission perms) (number_above (lo + n)) in
    let e3 = behind_word (hex16 (lo + n)) (permission perms) (number_above (lo + n)) in
    let above : nat_lt lo (lo + n) ≡ true = grind (arith, nat_tests) in
    rw (e0, e1) (rw (e2, e3) (rw (number_read lo small) (rw (number_read (lo + n) end) (rw above (rw (permission_read perms p) (rw (back lo n) refl))))))

region_held : (lo perms : ℕ) (bs : List ℕ) → is_permission perms ≡ true → lo < 2 ^ 64 → is_within 4096 (length bs) ≡ true → IsBytes bs
    → region_in (hex16 lo ++ 32 ∷ (permission perms ++ 32 ∷ encode_lower bs)) ≡ Some (line.Region (record { lo = lo; perms = perms; body = Bytes bs }))
unfolding region_in
region_held lo perms bs p small some bytes =
    let rest : List ℕ = permission perms ++ 32 ∷ encode_lower bs in
    let e0 = front_word (hex16 lo) rest (number_above lo) in
    let e1 = behind_word (hex16 lo) rest (number_above lo) in
    let e2 = front_word (permission perms) (encode_lower bs) (permission_plain perms p) in
    let e3 = behind_word (permission perms) (encode_lower bs) (permission_plain perms p) in
    rw (e0, e1) (rw (e2, e3) (rw (number_read lo small) (rw (bytes_read 4096 bs some bytes) (rw (permission_read perms p) refl))))

-- The kind of a line with further words.
kind_set : (text : List ℕ) → line_behind (codes "set") text ≡ set_in text
unfolding line_behind
kind_set text = refl

kind_mem : (text : List ℕ) → line_behind (codes "mem") text ≡ mem_in text
unfolding line_behind
kind_mem text = refl

kind_ask : (text : List ℕ) → line_behind (codes "ask") text ≡ ask_in text
unfolding line_behind
kind_ask text = refl

kind_zero : (text : List ℕ) → line_behind (codes "zero") text ≡ zeros_in text
unfolding line_behind
kind_zero text = refl

kind_bytes : (text : List ℕ) → line_behind (codes "bytes") text ≡ region_in text
unfolding line_behind
kind_bytes text = refl

-- A line is read by its first word.
by_kind : (w rest : List ℕ) (o : Option Line) → Above 32 w → line_behind w rest ≡ o → line_behind (word (w ++ 32 ∷ rest)) (later_words (w ++ 32 ∷ rest)) ≡ o
by_kind w rest o a e = rw (front_word w rest a) (rw (behind_word w rest a) e)

version_read : line_of (line_text line.Version) ≡ Some line.Version
unfolding line_of line_behind
version_read = refl

end_read : line_of (line_text line.End) ≡ Some line.End
unfolding line_of line_behind
end_read = refl

plain_zero : Above 32 (codes "zero")
plain_zero = (omega arith, (omega arith, (omega arith, (omega arith, tt))))

plain_bytes : Above 32 (codes "bytes")
plain_bytes = (omega arith, (omega arith, (omega arith, (omega arith, (omega arith, tt)))))

zeros_bounds : (lo n : ℕ) → is_bounded lo (Zeros n) ≡ true → (nat_lt 0 n ≡ true) × (lo + n < 2 ^ 64)
zeros_bounds lo n b =
    let parts = and_parts (nat_lt 0 n) (nat_le n 16777216 && nat_lt (lo + n) (2 ^ 64)) b in
    let later = and_parts (nat_le n 16777216) (nat_lt (lo + n) (2 ^ 64)) parts.1 in
    (parts.0, grind (arith, nat_tests, later.1))

bytes_bounds : (lo : ℕ) (bs : List ℕ) → is_bounded lo (Bytes bs) ≡ true → is_within 4096 (length bs) ≡ true
bytes_bounds lo bs b =
    let parts = and_parts (nat_lt 0 (length bs)) (nat_le (length bs) 4096 && nat_le (lo + length bs) (2 ^ 64)) b in
    let later = and_parts (nat_le (length bs) 4096) (nat_le (lo + length bs) (2 ^ 64)) parts.1 in
    rw parts.0 later.0

body_read : (lo perms : ℕ) (body : RegionBody) → is_permission perms ≡ true → is_bounded lo body ≡ true → lo < 2 ^ 64 → IsBodyOfBytes body
    → line_of (region_text lo perms body) ≡ Some (line.Region (record { lo = lo; perms = perms; body = body }))
body_read lo perms (Zeros n) p b small bytes =
    let parts = zeros_bounds lo n b in
    held (line.Region (record { lo = lo; perms = perms; body = Zeros n })) (rw p b)
    (by_kind (codes "zero") (hex16 lo ++ 32 ∷ (hex16 (lo + n) ++ 32 ∷ permission perms)) _ plain_zero (kind_zero _ ∙ zeros_held lo perms n p parts.0 small parts.1))
body_read lo perms (Bytes bs) p b small bytes =
    held (line.Region (record { lo = lo; perms = perms; body = Bytes bs })) (rw p b)
    (by_kind (codes "bytes") (hex16 lo ++ 32 ∷ (permission perms ++ 32 ∷ encode_lower bs)) _ plain_bytes (kind_bytes _ ∙ region_held lo perms bs p small (bytes_bounds lo bs b) bytes))

-- A line within its bounds is what its text is read as.
pub line_read : (x : Line) → LineHolds x → line_of (line_text x) ≡ Some x
line_read line.Version h = version_read
line_read (line.Value k v) h = held (line.Value k v) h.fits (value_held k v h.fits h.numbers)
line_read (line.Region r) h =
    let parts = and_parts (is_permission r.perms) (is_bounded r.lo r.body) h.fits in
    body_read r.lo r.perms r.body parts.0 parts.1 h.numbers.0 h.numbers.1
line_read (line.Ask q) h =
    held (line.Ask q) h.fits
    (by_kind (codes "ask") (encode_lower q.bytes ++ 32 ∷ address_word q.addr) _ (three 97 115 107 (omega arith) (omega arith) (omega arith))
    (kind_ask _ ∙ ask_held q.bytes q.addr h.fits h.numbers.0 h.numbers.1))
line_read (line.Set k v) h =
    held (line.Set k v) h.fits
    (by_kind (codes "set") (name k ++ 32 ∷ hex16 v) _ (three 115 101 116 (omega arith) (omega arith) (omega arith))
    (kind_set _ ∙ set_held k v h.fits h.numbers))
line_read (line.Mem w) h =
    let parts = and_parts (is_within 4096 (length w.bytes)) (nat_le (w.addr + length w.bytes) (2 ^ 64)) h.fits in
    held (line.Mem w) h.fits
    (by_kind (codes "mem") (hex16 w.addr ++ 32 ∷ encode_lower w.bytes) _ (three 109 101 109 (omega arith) (omega arith) (omega arith))
    (kind_mem _ ∙ mem_held w.addr w.bytes h.numbers.0 parts.0 h.numbers.1))
line_read line.End h = end_read
