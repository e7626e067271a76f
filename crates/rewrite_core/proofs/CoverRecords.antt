-- Under cover the record tells of each site whether it has an event.
use Rattle.std.proofs.Common.{◌≡◌, inl, inr, ℕ, ◌<◌, Bool, true, false, ◌||◌, cond, eqb, List, [], ◌∷◌, length, get_or, set, replicate, refl, sym, ap, ◌∙◌, subst, arith}
use Rattle.std.proofs.lemmas.Bool.{cases_Bool, eqb-true, eqb-false}
use Rattle.std.proofs.lemmas.List.{get_or-set_same, get_or-set_other, get_or-replicate, length-set, length-replicate}
use Rattle.pun_base.specs.declared.action.Action.{Action}
use Rattle.pun_base.specs.declared.action.Action.TheVariants.{Cover}
use Rattle.sound_images.specs.Rewriting.{Rewriting}
use Rattle.trampoline.specs.Events.{Seen, marked}
use Rattle.sound_images.specs.Events.{record_for}
use Rattle.rewrite_core.specs.Glosses.{occurs, numbers_of}

-- under cover, events leave the length of the data part as it is
length-marked : (events : List Seen) (bytes : List ℕ) → length (marked Cover events bytes) ≡ length bytes
length-marked [] bytes = refl
length-marked (e ∷ es) bytes = length-marked es (set bytes e.number 1) ∙ length-set bytes e.number 1

-- a byte that is marked stays; another is marked by its first event
marked_byte : (events : List Seen) (bytes : List ℕ) (i : ℕ) → i < length bytes → get_or (marked Cover events bytes) i 0 ≡ cond (occurs i (numbers_of events)) 1 (get_or bytes i 0)
marked_byte [] bytes i l = refl
marked_byte (e ∷ es) bytes i l = marked_byte es (set bytes e.number 1) i (omega (arith, length-set bytes e.number 1)) ∙ elim (cases_Bool (eqb e.number i)) [
  | inl h ↦ one (occurs i (numbers_of es)) (eqb e.number i) h (subst (λ z. get_or (set bytes z 1) i 0 ≡ 1) (sym (eqb-true e.number i h)) (get_or-set_same bytes i 1 0 l))
  | inr h ↦ other (occurs i (numbers_of es)) (eqb e.number i) h (get_or-set_other bytes e.number i 1 0 (λ k. eqb-false e.number i h (sym k)))
]
  where
    one : (o b : Bool) → b ≡ true → get_or (set bytes e.number 1) i 0 ≡ 1 → cond o 1 (get_or (set bytes e.number 1) i 0) ≡ cond (b || o) 1 (get_or bytes i 0)
    one o b h k = stays o k ∙ sym (ap (λ z. cond (z || o) 1 (get_or bytes i 0)) h)
      where
        stays : (o : Bool) → get_or (set bytes e.number 1) i 0 ≡ 1 → cond o 1 (get_or (set bytes e.number 1) i 0) ≡ 1
        stays true k = refl
        stays false k = k

    other : (o b : Bool) → b ≡ false → get_or (set bytes e.number 1) i 0 ≡ get_or bytes i 0 → cond o 1 (get_or (set bytes e.number 1) i 0) ≡ cond (b || o) 1 (get_or bytes i 0)
    other o b h k = ap (cond o 1) k ∙ sym (ap (λ z. cond (z || o) 1 (get_or bytes i 0)) h)

-- under cover the record is as long as the data part
pub cover_length : (r : Rewriting) (events : List Seen) → r.action ≡ Cover → length (record_for r events) ≡ r.data_len
cover_length r events c = ap (λ (z : Action). length (marked z events (replicate r.data_len 0))) c ∙ length-marked events (replicate r.data_len 0) ∙ length-replicate r.data_len 0

-- under cover the byte of a number is 1 where it occurs among the events, and else 0
pub cover_byte : (r : Rewriting) (events : List Seen) (i : ℕ) → r.action ≡ Cover → i < r.data_len → get_or (record_for r events) i 0 ≡ cond (occurs i (numbers_of events)) 1 0
cover_byte r events i c l =
    ap (λ (z : Action). get_or (marked z events (replicate r.data_len 0)) i 0) c
    ∙ marked_byte events (replicate r.data_len 0) i (omega (arith, length-replicate {A = ℕ} r.data_len 0))
    ∙ ap (cond (occurs i (numbers_of events)) 1) (get_or-replicate r.data_len i 0 0 l)
