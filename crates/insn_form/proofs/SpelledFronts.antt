-- What is read at the front of bytes, as they begin with the spelling of an instruction.
use Rattle.std.proofs.Common.{◌≡◌, ℕ, ◌≤◌, List, ◌++◌, length, take, Result, Ok, Err, refl, sym, ap, ◌∙◌, subst, arith, length-append}
use Rattle.std.proofs.lemmas.List.{take_at}
use Rattle.length_decode.specs.declared.instruction_parts.Parts.{Parts}
use Rattle.length_decode.specs.declared.field_bytes.Stop.{Stop}
use Rattle.length_decode.specs.Spelling.{Fields, spelling, parts_of, IsSpelling, BeginsWith, BeginsWithNone}
use Rattle.length_decode.specs.Parse.{parse}
use Rattle.length_decode.proofs.SpelledFields.{parse_again}
use Rattle.length_decode.proofs.ReadFields.{parse_takes}
use Rattle.length_decode.proofs.ShapeAnswers.{read_len}

-- the spelling at the front is as long as its parts say
pub front_len : (bytes : List ℕ) (p : Parts) (b : BeginsWith bytes p) → length b.front ≡ p.len
front_len bytes p b = ap length b.spelled.spelled ∙ sym (ap (λ q. q.len) b.spelled.divided)

-- it is no longer than the bytes
pub front_within : (bytes : List ℕ) (p : Parts) → BeginsWith bytes p → p.len ≤ length bytes
front_within bytes p b = omega (arith, front_len bytes p b, ap length b.joined, length-append b.front b.rest)

-- so many first bytes are its spelling
pub front_taken : (bytes : List ℕ) (p : Parts) (n : ℕ) (b : BeginsWith bytes p) → n ≡ p.len → take n bytes ≡ b.front
front_taken bytes p n b e = ap (take n) b.joined ∙ take_at b.front b.rest n (front_len bytes p b ∙ sym e)

-- so many first bytes spell these parts
pub front_spelled : (bytes : List ℕ) (p : Parts) (n : ℕ) → BeginsWith bytes p → n ≡ p.len → IsSpelling (take n bytes) p
front_spelled bytes p n b e = subst (λ (z : List ℕ). IsSpelling z p) (sym (front_taken bytes p n b e)) b.spelled

-- its fields are read
pub front_read : (bytes : List ℕ) (p : Parts) (b : BeginsWith bytes p) → parse bytes ≡ Ok b.spelled.fields
front_read bytes p b = ap parse (b.joined ∙ ap (λ z. z ++ b.rest) b.spelled.spelled) ∙ parse_again b.spelled.fields b.rest b.spelled.is.formed

-- bytes are read as one instruction at most
pub read_same : (bytes : List ℕ) (f g : Fields) → parse bytes ≡ Ok f → parse bytes ≡ Ok g → f ≡ g
read_same bytes f g p q = let e : Ok f ≡ Ok g = sym p ∙ q in let k : f ≡ g = cc in k

-- of at most fifteen bytes, what is read stands at the front
pub read_begins : (bytes : List ℕ) (f : Fields) → length bytes ≤ 15 → parse bytes ≡ Ok f → BeginsWith bytes (parts_of f)
read_begins bytes f l e =
    let t = parse_takes bytes f e in
    record {
      front = spelling f;
      rest = t.rest;
      joined = t.split;
      spelled = record { fields = f; is = record { formed = t.fine; short = read_len bytes f l e }; spelled = refl; divided = refl };
    }

-- nothing is read where they begin with no spelling
unread_by : (bytes : List ℕ) (r : Result Fields Stop) → parse bytes ≡ r → length bytes ≤ 15 → BeginsWithNone bytes → (s : Stop) × (parse bytes ≡ Err s)
unread_by bytes (Ok f) e l n = absurd (n (parts_of f) (read_begins bytes f l e))
unread_by bytes (Err s) e l n = (s, e)

-- at most fifteen bytes that begin with no spelling aren't read
pub unread : (bytes : List ℕ) → length bytes ≤ 15 → BeginsWithNone bytes → (s : Stop) × (parse bytes ≡ Err s)
unread bytes l n = unread_by bytes (parse bytes) refl l n

-- bytes that aren't read begin with no spelling
pub unread_none : (bytes : List ℕ) (s : Stop) → parse bytes ≡ Err s → BeginsWithNone bytes
unread_none bytes s e p b = let k : Ok b.spelled.fields ≡ Err s = sym (front_read bytes p b) ∙ e in absurd cc
