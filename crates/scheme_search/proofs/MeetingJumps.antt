-- Two jumps that meet stand after the writes exactly where the front one's high displacement bytes are the back one's first bytes, and the
-- back one's are those that stand after it.
use Rattle.std.proofs.Common.{◌≡◌, inl, inr, ℕ, ◌+◌, ◌-◌, ◌^◌, ◌<◌, ◌≤◌, min, List, ◌∷◌, ◌++◌, length, take, drop, get_or, replicate, Option, refl, sym, ap, ◌∙◌, subst, arith, length-take, length-drop}
use Rattle.std.proofs.lemmas.Bool.{cases_lt}
use Rattle.std.proofs.lemmas.List.{get_or-take, get_or-drop}
use Rattle.pun_base.specs.Memory.{Cell, Bytes}
use Rattle.cpu_state.specs.Bytes.{byte_of}
use Rattle.cpu_state.specs.Fixed.{IsFixed}
use Rattle.insn_form.specs.Moved.{rel_bytes}
use Rattle.start_list.specs.Plans.{bytes_from}
use Rattle.scheme_search.proofs.ConsecutiveBytes.{length-bytes_from, get_or-bytes_from, same_list}
use Rattle.scheme_search.proofs.CodeCells.{IsCodeCell, IsFixedByte, to_fixed, from_fixed}
use Rattle.scheme_search.proofs.OneJumpBytes.{jump_length, behind_opcode}

-- A padded jump's bytes.
abbrev pub code_of : ℕ → ℕ → ℕ → ℕ → List ℕ
code_of at pads pad target = replicate pads pad ++ 0xE9 ∷ rel_bytes (at + pads + 5) target

-- The back jump, in memory after the writes; what stands after it stood there before.
module _ (m m' : Bytes) (at room q pad u own : ℕ) (inside : q < room) (is_own : own ≡ min (room - q - 1) 4) (low : at + q + 5 < 2 ^ 64)
    (written : (k : ℕ) → k < min room (q + 5) → IsFixedByte (m' (at + k)) (get_or (code_of at q pad u) k 0))
    (left : (k : ℕ) → k < 4 - own → m' (at + room + k) ≡ m (at + room + k))
    (code : (k : ℕ) → k < 4 - own → IsCodeCell (m (at + room + k))) where
  -- The back jump's displacement bytes.
  abbrev rel : List ℕ
  rel = rel_bytes (at + q + 5) u

  -- How many bytes the back jump has.
  long : length (code_of at q pad u) ≡ q + 5
  long = jump_length q pad (at + q + 5) u

  -- The back jump ends in the address space.
  fits : at + length (code_of at q pad u) < 2 ^ 64
  fits = omega (arith, long, low)

  -- Where it stands, its high displacement bytes are those after it.
  pub back_to : IsFixed m' at (code_of at q pad u) → drop own rel ≡ bytes_from m (at + room) (4 - own)
  back_to h =
      let four : length rel ≡ 4 = refl in
      same_list (drop own rel) (bytes_from m (at + room) (4 - own)) (omega (
        arith,
        length-drop own rel,
        four,
        length-bytes_from m
            (at + room) (4 - own),
      ))
      (λ i l.
      let few : i < 4 - own = omega (arith, length-drop own rel, four) in
      let f = from_fixed m' at (code_of at q pad u) fits h (room + i) (omega (arith, long)) in
      let e : at + (room + i) ≡ at + room + i = omega arith in
      get_or-drop own rel i 0 ∙ sym (behind_opcode q pad rel (room + i) (own + i) (omega arith)) ∙ sym f.byte
      ∙ ap (λ x. byte_of (m' x)) e ∙ ap byte_of (left i few) ∙ sym (get_or-bytes_from m (at + room) (4 - own) i few))

  -- Where they are, each of its bytes stands.
  pub back_byte : drop own rel ≡ bytes_from m (at + room) (4 - own) → (k : ℕ) → k < q + 5
      → IsFixedByte (m' (at + k)) (get_or (code_of at q pad u) k 0)
  back_byte e k l = elim (cases_lt k room) [
    | inl s ↦ written k (omega arith)
    | inr s ↦ (
        let i = k - room in
        let few : i < 4 - own = omega arith in
        let place : at + room + i ≡ at + k = omega arith in
        let byte : byte_of (m (at + room + i)) ≡ get_or (code_of at q pad u) k 0 =
        sym (get_or-bytes_from m (at + room) (4 - own) i few) ∙ ap (λ (xs : List ℕ). get_or xs i 0) (sym e) ∙ get_or-drop own rel i 0
        ∙ sym (behind_opcode q pad rel k (own + i) (omega arith)) in
        let here : IsFixedByte (m (at + room + i)) (get_or (code_of at q pad u) k 0) = record { code = code i few; byte = byte } in
        subst (λ (x : ℕ). IsFixedByte (m' x) (get_or (code_of at q pad u) k 0)) place
        (subst (λ (c : Option Cell). IsFixedByte c (get_or (code_of at q pad u) k 0)) (sym (left i few)) here))
  ]

  -- Where the bytes after its instruction are the high bytes of its displacement, the back jump stands.
  pub back_from : drop own rel ≡ bytes_from m (at + room) (4 - own) → IsFixed m' at (code_of at q pad u)
  back_from e = to_fixed m' at (code_of at q pad u) fits (λ k l. back_byte e k (omega (arith, long)))

-- The front jump, before bytes of a back one.
module _ (m' : Bytes) (at len p pad t own : ℕ) (inside : p < len) (is_own : own ≡ min (len - p - 1) 4) (low : at + p + 5 < 2 ^ 64)
    (bs : List ℕ) (enough : 4 ≤ length bs)
    (written : (k : ℕ) → k < min len (p + 5) → IsFixedByte (m' (at + k)) (get_or (code_of at p pad t) k 0))
    (other : (k : ℕ) → k < 4 - own → IsFixedByte (m' (at + len + k)) (get_or bs k 0)) where
  -- The front jump's displacement bytes.
  abbrev rel' : List ℕ
  rel' = rel_bytes (at + p + 5) t

  -- How many bytes the front jump has.
  long' : length (code_of at p pad t) ≡ p + 5
  long' = jump_length p pad (at + p + 5) t

  -- The front jump ends in the address space.
  fits' : at + length (code_of at p pad t) < 2 ^ 64
  fits' = omega (arith, long', low)

  -- Where it stands, its high displacement bytes are the other's first.
  pub front_to : IsFixed m' at (code_of at p pad t) → drop own rel' ≡ take (4 - own) bs
  front_to h =
      let four : length rel' ≡ 4 = refl in
      same_list (drop own rel') (take (4 - own) bs) (omega (arith, length-drop own rel', four, length-take (4 - own) bs, enough))
      (λ i l.
      let few : i < 4 - own = omega (arith, length-drop own rel', four) in
      let f = from_fixed m' at (code_of at p pad t) fits' h (len + i) (omega (arith, long')) in
      let e : at + (len + i) ≡ at + len + i = omega arith in
      let o = other i few in
      get_or-drop own rel' i 0 ∙ sym (behind_opcode p pad rel' (len + i) (own + i) (omega arith)) ∙ sym f.byte
      ∙ ap (λ x. byte_of (m' x)) e ∙ o.byte ∙ sym (get_or-take (4 - own) bs i 0 few))

  -- Where they are, it stands.
  pub front_from : drop own rel' ≡ take (4 - own) bs → IsFixed m' at (code_of at p pad t)
  front_from e = to_fixed m' at (code_of at p pad t) fits' each
    where
      each : (k : ℕ) → k < length (code_of at p pad t) → IsFixedByte (m' (at + k)) (get_or (code_of at p pad t) k 0)
      each k l = elim (cases_lt k len) [
        | inl s ↦ written k (omega (arith, long'))
        | inr s ↦ (
            let i = k - len in
            let few : i < 4 - own = omega (arith, long') in
            let place : at + len + i ≡ at + k = omega arith in
            let byte : get_or bs i 0 ≡ get_or (code_of at p pad t) k 0 =
            sym (get_or-take (4 - own) bs i 0 few) ∙ ap (λ (xs : List ℕ). get_or xs i 0) (sym e) ∙ get_or-drop own rel' i 0
            ∙ sym (behind_opcode p pad rel' k (own + i) (omega arith)) in
            let o = other i few in
            let here : IsFixedByte (m' (at + len + i)) (get_or (code_of at p pad t) k 0) = record { code = o.code; byte = o.byte ∙ byte } in
            subst (λ (x : ℕ). IsFixedByte (m' x) (get_or (code_of at p pad t) k 0)) place here)
      ]
