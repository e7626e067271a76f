use Rattle.std.proofs.Common.{◌≡◌, ℕ, zero, suc, ◌-◌, ◌≤◌, List, [], ◌∷◌, ◌++◌, take, replicate, refl, ap, ◌∙◌, arith}
use Rattle.std.proofs.lemmas.List.{append_assoc}
use Rattle.scheme_search.specs.Meetings.{low_bytes, back_jump, shared_count}
use Rattle.scheme_search.proofs.meeting.first_high.Goals as goal

pads_are : (q pad : ℕ) → q ≤ 4 → take q (pad ∷ pad ∷ pad ∷ pad ∷ []) ≡ replicate q pad
pads_are zero pad l = refl
pads_are (suc zero) pad l = refl
pads_are (suc (suc zero)) pad l = refl
pads_are (suc (suc (suc zero))) pad l = refl
pads_are (suc (suc (suc (suc zero)))) pad l = refl
pads_are (suc (suc (suc (suc (suc q))))) pad l = absurd (omega arith)

zeros_are : (s : ℕ) → s ≤ 2 → take s (0 ∷ 0 ∷ []) ≡ low_bytes s 0
zeros_are zero l = refl
zeros_are (suc zero) l = refl
zeros_are (suc (suc zero)) l = refl
zeros_are (suc (suc (suc s))) l = absurd (omega arith)

pub returns : goal.returns
returns c =
    let m = c.args.meeting.now in
    let g = c.requires in
    let n = shared_count m in
    let pad = m.pad in
    let pads : List ℕ = pad ∷ pad ∷ pad ∷ pad ∷ [] in
    let first : c.try_extend_from_slice.new.self.items ≡ replicate m.pads pad =
    (rw c.unwrap.ensures at c.try_extend_from_slice.ensures.ok) ∙ ap (λ (xs : List ℕ). xs ++ take c.from.result pads) c.new-bytes.ensures
    ∙ ap (λ k. take k pads) c.from.ensures ∙ pads_are m.pads pad g.pads in
    let second : c.push.new.self.items ≡ replicate m.pads pad ++ 0xE9 ∷ [] = c.push.ensures.items
    ∙ ap (λ (xs : List ℕ). xs ++ 0xE9 ∷ []) first in
    let shared : take c.from-2.result (0 ∷ 0 ∷ []) ≡ low_bytes n 0 = ap (λ k. take k (0 ∷ 0 ∷ [])) (c.from-2.ensures
    ∙ c.shared_bytes-shared.ensures) ∙ zeros_are n g.few in
    let third : c.try_extend_from_slice-2.new.self.items ≡ (replicate m.pads pad ++ 0xE9 ∷ []) ++ low_bytes n 0 =
    (rw c.unwrap-2.ensures at c.try_extend_from_slice-2.ensures.ok) ∙ ap (λ (xs : List ℕ). xs ++ take c.from-2.result (0 ∷ 0 ∷ [])) second
    ∙ ap (λ (xs : List ℕ). (replicate m.pads pad ++ 0xE9 ∷ []) ++ xs) shared in
    let fourth : c.try_extend_from_slice-3.new.self.items ≡ ((replicate m.pads pad ++ 0xE9 ∷ []) ++ low_bytes n 0) ++ m.fixed =
    (rw c.unwrap-3.ensures at c.try_extend_from_slice-3.ensures.ok) ∙ ap (λ (xs : List ℕ). xs ++ c.as_slice.result.now) third
    ∙ ap (λ (xs : List ℕ). ((replicate m.pads pad ++ 0xE9 ∷ []) ++ low_bytes n 0) ++ xs) c.as_slice.ensures.value in
    let whole : ((replicate m.pads pad ++ 0xE9 ∷ []) ++ low_bytes n 0) ++ m.fixed ≡ back_jump m (low_bytes n 0 ++ m.fixed) =
    append_assoc (replicate m.pads pad ++ 0xE9 ∷ []) (low_bytes n 0) m.fixed
    ∙ append_assoc (replicate m.pads pad) (0xE9 ∷ []) (low_bytes n 0 ++ m.fixed) in
    c.from_slice.ensures ∙ ap (λ k. take k c.as_slice-2.result.now) c.from-3.ensures
    ∙ ap (λ (xs : List ℕ). take (4 - m.own) xs) (c.as_slice-2.ensures.value ∙ fourth ∙ whole)
