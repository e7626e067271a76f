-- What was settled comes back, and only that does.
use Rattle.std.proofs.Common.{◌≡◌, ℕ, ◌+◌, ◌-◌, ◌^◌, ◌<◌, ◌≤◌, Bool, true, false, cond, ◌&&◌, is_none, List, [], length, drop, slice_index, Option, Some, None, Result, Ok, Err, IfErr, bytes_eq, refl, sym, ap, ap₂, ◌∙◌, subst, arith}
use Rattle.std.proofs.lemmas.List.{drop_at, drop_all, get_or-drop, length-drop}
use Rattle.std.proofs.lemmas.Bool.{cond-true, cond-false, and_parts}
use Rattle.std.proofs.lemmas.Slice.Eq.{bytes_eq-Decides}
use Rattle.elf_read.specs.Entries.{entry_of, table_count, segments}
use Rattle.elf_read.specs.declared.refusal.ElfError.TheVariants.{TooShort}
use Rattle.settle.specs.declared.error.SettleError.{SettleError}
use Rattle.settle.specs.declared.error.SettleError.TheVariants.{File}
use Rattle.settle.specs.Lengths.{used_len, front_len}
use Rattle.settle.specs.Settled.{front, own_table, settled}
use Rattle.settle.specs.Refusals.{kind_refusal, settle_refusal}
use Rattle.pun_base.specs.Desk.{as_list}
use Rattle.settle.specs.declared.error.UnsettleError.{UnsettleError}
use Rattle.settle.specs.declared.error.UnsettleError.TheVariants.{NotSettled, Memory}
use Rattle.settle.specs.Settling.{IsCompared}
use Rattle.settle.specs.Undone.{base_in, behind_front, unsettled, NotUndone}
use Rattle.settle.specs.Laws.{IsReadable, SettledIsUndone, UndoneWasSettled}
use Rattle.settle.proofs.FrontParts.{length-front_with, count-settled, base-settled}
use Rattle.settle.proofs.TakenFiles.{unrefused_is_taken, few_unrefused, low_base}

-- behind the front stands the file
behind : (b : ℕ) (file : List ℕ) → length (segments file) + 1 < 2 ^ 16 → behind_front (settled b file) ≡ file
behind b file l =
    let n = length (segments file) in
    let e : table_count (settled b file) - 1 ≡ n = omega (arith, count-settled b file l) in
    ap (λ (k : ℕ). drop (front_len k) (settled b file)) e ∙ drop_at (front b file) file (front_len n) (length-front_with b file (segments file) (own_table b file) (b + entry_of file))

-- what was settled comes back
pub settled_is_undone : SettledIsUndone
settled_is_undone b file readable h =
    let out = settled b file in
    let t = (unrefused_is_taken b file readable h).settleable in
    let f : behind_front out ≡ file = behind b file t.few in
    let d : base_in out ≡ b = base-settled b file t.base in
    let n : is_none (settle_refusal (base_in out) (behind_front out)) ≡ true = (λ i. is_none (settle_refusal (d i) (f i))) ∙ ap is_none h in
    let e : settled (base_in out) (behind_front out) ≡ out = λ i. settled (d i) (f i) in
    cond-true _ (Some (behind_front out)) None (ap₂ (λ p q. p && q) n ((bytes_eq-Decides (settled (base_in out) (behind_front out)) out).1 e))
    ∙ ap Some f

some_is : {x y : List ℕ} → ◌≡◌ {A = Option (List ℕ)} (Some x) (Some y) → x ≡ y
some_is q = cc

none_is : (o : Option SettleError) → is_none o ≡ true → o ≡ None
none_is None h = refl
none_is (Some e) h = absurd cc

-- what comes back was settled
pub undone_was_settled : UndoneWasSettled
undone_was_settled out file h = step (is_none (settle_refusal (base_in out) (behind_front out)) && bytes_eq (settled (base_in out) (behind_front out)) out) refl h
  where
    step : (t : Bool) → (is_none (settle_refusal (base_in out) (behind_front out)) && bytes_eq (settled (base_in out) (behind_front out)) out) ≡ t
        → cond t (Some (behind_front out)) None ≡ Some file → (settle_refusal (base_in out) file ≡ None) × (settled (base_in out) file ≡ out)
    step true e g =
        let q = and_parts (is_none (settle_refusal (base_in out) (behind_front out))) (bytes_eq (settled (base_in out) (behind_front out)) out) e in
        let same = sym (some_is g) in (
          ap (λ (z : List ℕ). settle_refusal (base_in out) z) same ∙ none_is _ q.0,
          ap (λ (z : List ℕ). settled (base_in out) z) same ∙ (bytes_eq-Decides (settled (base_in out) (behind_front out)) out).0 q.1,
        )
    step false e g = absurd cc

-- ---- by what the code finds

-- what refuses a file refuses that it comes back
pub refused_back : (out : List ℕ) (e : SettleError) → settle_refusal (base_in out) (behind_front out) ≡ Some e → unsettled out ≡ None
refused_back out e h = cond-false _ _ _ (ap (λ (o : Option SettleError). is_none o && bytes_eq (settled (base_in out) (behind_front out)) out) h)

-- so does a base that no file is settled at
pub wide_base : (out : List ℕ) → IsReadable (behind_front out) → 2 ^ 32 ≤ base_in out → unsettled out ≡ None
wide_base out readable l = step (settle_refusal (base_in out) (behind_front out)) refl
  where
    step : (o : Option SettleError) → settle_refusal (base_in out) (behind_front out) ≡ o → unsettled out ≡ None
    step (Some e) h = refused_back out e h
    step None h =
        let t = unrefused_is_taken (base_in out) (behind_front out) readable h in
        let few = few_unrefused (base_in out) (behind_front out) h in
        absurd (low_base (base_in out) (length (segments (behind_front out))) few t.placeable.stub l)

-- a front has a page at least
long_front : (n : ℕ) → 4096 ≤ front_len n
unfolding front_len used_len
long_front n = omega arith

-- nothing stands behind the front of bytes that are fewer than it has
pub nothing_behind : (out : List ℕ) → length out ≤ front_len (table_count out - 1) → behind_front out ≡ []
nothing_behind out l = drop_all (front_len (table_count out - 1)) out l

nothing_refused : (b : ℕ) → settle_refusal b [] ≡ Some (File TooShort)
unfolding kind_refusal
nothing_refused b = refl

-- so they don't come back
pub short_out : (out : List ℕ) → length out < 4096 → unsettled out ≡ None
short_out out l =
    let g = long_front (table_count out - 1) in
    refused_back out (File TooShort) (ap (settle_refusal (base_in out)) (nothing_behind out (omega arith)) ∙ nothing_refused (base_in out))

-- what is written for the file again is compared
pub compared : (out : List ℕ) (again : List ℕ) → settle_refusal (base_in out) (behind_front out) ≡ None → again ≡ settled (base_in out) (behind_front out)
    → ((again ≡ out → unsettled out ≡ Some (behind_front out)) × ((again ≡ out → ⊥) → unsettled out ≡ None))
compared out again n e =
    let b = base_in out in let file = behind_front out in
    let d = bytes_eq-Decides (settled b file) out in (
      (λ same. cond-true _ _ _ (ap₂ (λ p q. p && q) (ap is_none n) (d.1 (sym e ∙ same)))),
      (λ other. step (bytes_eq (settled b file) out) refl other),
    )
  where
    step : (t : Bool) → bytes_eq (settled (base_in out) (behind_front out)) out ≡ t → (again ≡ out → ⊥) → unsettled out ≡ None
    step true q other = absurd (other (e ∙ (bytes_eq-Decides (settled (base_in out) (behind_front out)) out).0 q))
    step false q other = cond-false _ _ _ (ap₂ (λ p q. p && q) (ap is_none n) q)

-- so it is told where they are others
pub told_other : {V : Type 0} (f : V → List ℕ) (r : Result V UnsettleError) (out again file : List ℕ) → settle_refusal (base_in out) (behind_front out) ≡ None
    → again ≡ settled (base_in out) (behind_front out) → IsCompared again out file (as_list f r) → IfErr r (λ e. NotUndone out e)
told_other f (Ok v) out again file n e h = tt
told_other f (Err NotSettled) out again file n e h = (compared out again n e).1 h
told_other f (Err Memory) out again file n e h = tt

-- bytes behind others are bytes
pub bytes_behind : (n : ℕ) (out : List ℕ) → ((k : ℕ) → slice_index out k < 256) → (k : ℕ) → slice_index (drop n out) k < 256
bytes_behind n out h k = subst (λ (x : ℕ). x < 256) (sym (get_or-drop n out k 0)) (h (n + k))

-- so what stands behind a front can be read, as its bytes can
pub readable_behind : (out : List ℕ) → IsReadable out → IsReadable (behind_front out)
readable_behind out h =
    let n = front_len (table_count out - 1) in let l = length-drop n out in let m = h.len in
    record { bytes = bytes_behind n out h.bytes; len = omega (arith, l, m) }
