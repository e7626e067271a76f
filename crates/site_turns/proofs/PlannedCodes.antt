-- A trampoline has one code, and each code that was planned stands at its place.
use Rattle.std.proofs.Common.{◌≡◌, ℕ, zero, suc, List, [], ◌∷◌, map, refl, sym, ap, ◌∙◌, subst}
use Rattle.pun_base.specs.Memory.{Bytes}
use Rattle.pun_base.specs.declared.action.Action.{Action}
use Rattle.cpu_state.specs.Bytes.{Stands}
use Rattle.length_decode.specs.Spelling.{Fields, spelling}
use Rattle.insn_form.specs.Step.{next_after}
use Rattle.trampoline.specs.Trampolines.{code_of}
use Rattle.elf_emit.specs.declared.built.Built.{Built}
use Rattle.elf_emit.specs.Views.{piece_of}
use Rattle.patch_report.proofs.ListPlaces.{In, some_is}
use Rattle.sound_images.specs.Reports.{Line, event_of}
use Rattle.sound_images.specs.Rules.{Case, HasCode}
use Rattle.site_turns.specs.Planning.{AreCodes, AreCodesBy}
use Rattle.site_turns.proofs.CodeSizes.{one_standing}

-- a trampoline has one code in two cases with the same original, action and private range
pub one_code : (c d : Case) (l : Line) (x y : List ℕ) → c.original ≡ d.original → c.report.action ≡ d.report.action
    → c.report.private.0 ≡ d.report.private.0 → HasCode c l x → HasCode d l y → x ≡ y
one_code c d l x y o a p h k =
    let f : h.fields ≡ k.fields = one_standing c.original l.tramp.start h.fields k.fields h.spelled k.spelled h.stands
    (subst (λ (m : Bytes). Stands m l.tramp.start (spelling k.fields)) (sym o) k.stands) in
    h.is
    ∙ ap (λ (z : Fields). code_of (event_of c.report.action l) c.report.private.0 z (next_after l.tramp.start z) l.tramp.place) f
    ∙ ap (λ (z : Action). code_of (event_of z l) c.report.private.0 k.fields (next_after l.tramp.start k.fields) l.tramp.place) a
    ∙ ap (λ z. code_of (event_of d.report.action l) z k.fields (next_after l.tramp.start k.fields) l.tramp.place) p
    ∙ sym k.is

-- the code of a trampoline, at its place
pub record Piece (C : Line → List ℕ → Type 0) (bs : List Built) (l : Line) : Type 0 where
  pub built : Built
  pub in_list : In bs built
  pub place : built.place ≡ l.tramp.place
  pub code : C l built.code.bytes

-- the code of each trampoline stands in the list, at its place
pub piece_at : (C : Line → List ℕ → Type 0) (ls : List Line) (bs : List Built) → AreCodesBy C ls bs → (l : Line) → In ls l → Piece C bs l
piece_at C [] bs h l i = let e = i.1 in absurd cc
piece_at C (m ∷ ls) [] h l i = absurd h
piece_at C (m ∷ ls) (b ∷ bs) h l (zero, e) =
    let k = some_is m l e in
    record {
      built = b;
      in_list = (zero, refl);
      place = h.0 ∙ ap (λ (z : Line). z.tramp.place) k;
      code = subst (λ (z : Line). C z b.code.bytes) k h.1;
    }
piece_at C (m ∷ ls) (b ∷ bs) h l (suc n, e) =
    let q = piece_at C ls bs h.3 l (n, e) in
    record { built = q.built; in_list = (suc q.in_list.0, q.in_list.1); place = q.place; code = q.code }

-- two lists of codes of one list of trampolines are one, where each has one code
pub codes_one : (C : Line → List ℕ → Type 0) → ((l : Line) (x y : List ℕ) → C l x → C l y → x ≡ y) → (ls : List Line) (bs ds : List Built)
    → AreCodesBy C ls bs → AreCodesBy C ls ds → map piece_of bs ≡ map piece_of ds
codes_one C one [] [] [] h k = refl
codes_one C one [] [] (d ∷ ds) h k = absurd k
codes_one C one [] (b ∷ bs) ds h k = absurd h
codes_one C one (l ∷ ls) [] ds h k = absurd h
codes_one C one (l ∷ ls) (b ∷ bs) [] h k = absurd k
codes_one C one (l ∷ ls) (b ∷ bs) (d ∷ ds) h k =
    let place = h.0 ∙ sym k.0 in
    let code = one l b.code.bytes d.code.bytes h.1 k.1 in
    let rest = codes_one C one ls bs ds h.3 k.3 in
    λ i. record { addr = place i; now = code i } ∷ rest i

-- two lists of codes of the same trampolines, in one case, have the same bytes at the same places
pub codes_same : (c : Case) (ls : List Line) (bs ds : List Built) → AreCodes c ls bs → AreCodes c ls ds → map piece_of bs ≡ map piece_of ds
codes_same c = codes_one (HasCode c) (λ l x y. one_code c c l x y refl refl refl)
