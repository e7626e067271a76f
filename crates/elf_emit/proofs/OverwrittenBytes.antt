-- Bytes written over others, one by one and list by list.
use Rattle.std.proofs.Common.{◌≡◌, ℕ, suc, ◌+◌, ◌-◌, ◌<◌, ◌≤◌, cond, ◌&&◌, nat_lt, nat_le, List, [], ◌∷◌, length, map, drop, slice_index, get_or, refl, sym, ap, ◌∙◌, arith}
use Rattle.std.proofs.lemmas.List.{drop_more, drop_all}
use Rattle.elf_emit.specs.Job.{BytesAt}
use Rattle.elf_emit.specs.Layout.{written_by, written_at, rewritten}

-- a write and others are that write and then the others
pub rewritten-cons : (w : BytesAt) (ws : List BytesAt) (lo : ℕ) (bs : List ℕ) → rewritten (w ∷ ws) lo bs ≡ rewritten ws lo (rewritten (w ∷ []) lo bs)
rewritten-cons w ws lo [] = refl
rewritten-cons w ws lo (b ∷ bs) = ap (λ (z : List ℕ). written_at ws lo (written_by w lo b) ∷ z) (rewritten-cons w ws (lo + 1) bs)

-- no writes change no bytes
pub rewritten-nil : (lo : ℕ) (bs : List ℕ) → rewritten [] lo bs ≡ bs
rewritten-nil lo [] = refl
rewritten-nil lo (b ∷ bs) = ap (λ (z : List ℕ). b ∷ z) (rewritten-nil (lo + 1) bs)

-- bytes that are, each for itself, what the writes make of it are those after all writes
pub rewritten_is : (ws : List BytesAt) (lo : ℕ) (bs cs : List ℕ) → length cs ≡ length bs → ((k : ℕ) → k < length bs → slice_index cs k ≡ written_at ws (lo + k) (slice_index bs k)) → cs ≡ rewritten ws lo bs
rewritten_is ws lo [] [] e h = refl
rewritten_is ws lo [] (c ∷ cs) e h = absurd (omega arith)
rewritten_is ws lo (b ∷ bs) [] e h = absurd (omega arith)
rewritten_is ws lo (b ∷ bs) (c ∷ cs) e h =
    let z : lo + 0 ≡ lo = omega arith in
    let first : c ≡ written_at ws lo b = h 0 (omega arith) ∙ ap (λ (a : ℕ). written_at ws a b) z in
    let later = rewritten_is ws (lo + 1) bs cs (omega arith) (λ k l. h (suc k) (omega arith) ∙ (let m : lo + suc k ≡ lo + 1 + k = omega arith in ap (λ (a : ℕ). written_at ws a (slice_index bs k)) m)) in
    λ i. first i ∷ later i

-- the byte at an address, after the first n bytes of a write
abbrev pub over : ℕ → List ℕ → ℕ → ℕ → ℕ → ℕ
over addr now n a b = cond (nat_le addr a && nat_lt (a - addr) n) (slice_index now (a - addr)) b

-- bytes from an address on are what the first n bytes of a write make of those that were there
abbrev pub Over : ℕ → ℕ → List ℕ → ℕ → List ℕ → List ℕ → Type 0
Over lo addr now n was bytes = (k : ℕ) → k < length was → slice_index bytes k ≡ over addr now n (lo + k) (slice_index was k)

-- after all its bytes, the bytes are those rewritten by that one write
pub over_all : (lo addr : ℕ) (now was bytes : List ℕ) → length bytes ≡ length was → Over lo addr now (length now) was bytes → bytes ≡ rewritten (record { addr = addr; now = now } ∷ []) lo was
over_all lo addr now was bytes e h = rewritten_is (record { addr = addr; now = now } ∷ []) lo was bytes e h

-- once the next write is written, one write less is to come
pub more_written : {X : Type 0} (f : X → BytesAt) (xs : List X) (i lo : ℕ) (x : X) (p : BytesAt) (b c out : List ℕ) → i < length xs → x ≡ get_or xs i x → p ≡ f x → c ≡ rewritten (p ∷ []) lo b → rewritten (map f (drop i xs)) lo b ≡ out → rewritten (map f (drop (i + 1) xs)) lo c ≡ out
more_written f xs i lo x p b c out l e q r h =
    ap (λ (z : List ℕ). rewritten (map f (drop (i + 1) xs)) lo z) (r ∙ (λ k. rewritten ((q ∙ ap f e) k ∷ []) lo b))
    ∙ sym (rewritten-cons (f (get_or xs i x)) (map f (drop (i + 1) xs)) lo b)
    ∙ ap (λ z. rewritten (map f z) lo b) (sym (drop_more xs i x l)) ∙ h

-- past the last write, the bytes are as all writes leave them
pub all_written : {X : Type 0} (f : X → BytesAt) (xs : List X) (i lo : ℕ) (b out : List ℕ) → length xs ≤ i → rewritten (map f (drop i xs)) lo b ≡ out → b ≡ out
all_written f xs i lo b out l h = sym (rewritten-nil lo b) ∙ ap (λ z. rewritten (map f z) lo b) (sym (drop_all i xs l)) ∙ h
