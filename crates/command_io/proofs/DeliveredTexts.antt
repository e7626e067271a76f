-- What came out of what there was to tell.
use Rattle.std.proofs.Common.{◌≡◌, ℕ, zero, suc, ◌≤◌, ◌⊎◌, inl, inr, List, [], ◌∷◌, ◌++◌, length, take, Option, Some, None, IfSome, refl, sym, ap, ◌∙◌, subst, arith}
use Rattle.std.proofs.lemmas.List.{append-nil, append_cancel_left}
use Rattle.std.proofs.Math.Seq.{take-length}
use Rattle.pun_base.specs.Shown.{SinkState, Told}
use Rattle.pun_base.proofs.ToldChanges.{told_map}
use Rattle.command_io.specs.Ends.{read_fault_text, write_fault_text}
use Rattle.command_io.specs.Messages.{PrintsPart, PrintsSome, Spoilt, ComesOut, IsSilent, Message, TellsOne}
use Rattle.command_io.specs.Endings.{Delivers}
use Rattle.command_io.proofs.WrittenOutputs.{told_at}

-- what there is to tell, with its cause, is told
pub delivered : (Holds : Message → Type 0) (o : Option Message) (k l : SinkState) (r : ℕ)
    → IfSome o Holds → Delivers o k l r → TellsOne Holds k l r
delivered Holds None k l r c d = inr d
delivered Holds (Some m) k l r c (inl d) = inl (m, c, d)
delivered Holds (Some m) k l r c (inr d) = inr d

-- the status is the text's, or the sink's fault or want of memory made it another
pub answered : (text : List ℕ) (code : ℕ) (k l : SinkState) (r : ℕ) → ComesOut text code k l r ⊎ IsSilent k l r → (r ≡ code) ⊎ Spoilt k l r
answered text code k l r (inl (inl d)) = inl d.0
answered text code k l r (inl (inr d)) = inr d.0
answered text code k l r (inr d) = inr (inr d.0)

-- ---- what was printed is a prefix of it

all_part : (text : List ℕ) (old new : List ℕ) → new ≡ old ++ text → (n : ℕ) × (new ≡ old ++ take n text)
all_part text old new e = (length text, e ∙ ap (λ (b : List ℕ). old ++ b) (sym (take-length text)))

told_none : (text : List ℕ) (s : Option (List ℕ)) → Told (λ old new. (n : ℕ) × (new ≡ old ++ take n text)) s s
told_none text None = tt
told_none text (Some old) = (0, sym (append-nil old))

-- whatever came out of a text is a prefix of it
pub part : (text : List ℕ) (code : ℕ) (k l : SinkState) (r : ℕ) → ComesOut text code k l r ⊎ IsSilent k l r → PrintsPart text k l
part text code k l r (inl (inl d)) =
    told_map (λ old new. new ≡ old ++ text) (λ old new. (n : ℕ) × (new ≡ old ++ take n text)) k.written l.written (all_part text) d.1
part text code k l r (inl (inr d)) = d.1
part text code k l r (inr d) = subst (λ (x : SinkState). PrintsPart text k x) (sym d.1) (told_none text k.written)

-- where nothing was printed, nothing of any text was
pub nothing_out : (text : List ℕ) (code : ℕ) (k : SinkState) → ComesOut text code k k 6
nothing_out text code k = inr (inr refl, part text code k k 6 (inr (refl, refl)))

-- ---- no byte of a text is a line's of a fault

heads : (x y m n : ℕ) (xs ys : List ℕ) → (x ≡ y → ⊥) → 1 ≤ n → take n (y ∷ ys) ≡ take m (x ∷ xs) → ⊥
heads x y m zero xs ys apart pos e = omega arith
heads x y zero (suc n) xs ys apart pos e = cc
heads x y (suc m) (suc n) xs ys apart pos e = apart (let k : x ≡ y = cc in k)

-- A text begins with a character that isn't the f (102) of a fault's line.
pub record HasOwnHead (text : List ℕ) : Type 0 where
  pub first : ℕ
  pub rest : List ℕ
  pub is : text ≡ first ∷ rest
  pub own : 102 ≡ first → ⊥

-- so no prefix of the line has a byte of the text
line_apart : (k l : SinkState) (line text : List ℕ) → (xs : List ℕ) × (line ≡ 102 ∷ xs) → HasOwnHead text → PrintsPart line k l
    → PrintsSome text k l → ⊥
line_apart k l line text h y p w =
    let q = told_at (λ old new. (n : ℕ) × (new ≡ old ++ take n line)) k.written l.written w.old _ w.before w.after p in
    let e = append_cancel_left w.old _ _ q.1 in
    heads 102 y.first q.0 w.count h.0 y.rest y.own w.some (sym (ap (take w.count) y.is) ∙ e ∙ ap (take q.0) h.1)

read_head : (name : List ℕ) → (xs : List ℕ) × (read_fault_text name ≡ 102 ∷ xs)
unfolding read_fault_text
read_head name = (_, refl)

write_head : (name : List ℕ) → (xs : List ℕ) × (write_fault_text name ≡ 102 ∷ xs)
unfolding write_fault_text
write_head name = (_, refl)

-- the line of a read that failed
pub read_apart : (k l : SinkState) (name text : List ℕ) → HasOwnHead text → PrintsPart (read_fault_text name) k l → PrintsSome text k l → ⊥
read_apart k l name text y p w = line_apart k l (read_fault_text name) text (read_head name) y p w

-- the line of an output that failed
pub write_apart : (k l : SinkState) (name text : List ℕ) → HasOwnHead text → PrintsPart (write_fault_text name) k l → PrintsSome text k l → ⊥
write_apart k l name text y p w = line_apart k l (write_fault_text name) text (write_head name) y p w

-- nothing printed has no byte of a text
pub silent_apart : (k l : SinkState) (text : List ℕ) → HasOwnHead text → l ≡ k → PrintsSome text k l → ⊥
silent_apart k l text y e w =
    line_apart k l (102 ∷ []) text ([], refl) y
    (subst (λ (x : SinkState). PrintsPart (102 ∷ []) k x) (sym e) (told_none (102 ∷ []) k.written)) w
