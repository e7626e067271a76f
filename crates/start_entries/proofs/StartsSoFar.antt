-- The entries of the starts that were read so far, and the starts that are left.
use Rattle.std.proofs.Common.{◌≡◌, ℕ, ◌+◌, List, [], ◌∷◌, ◌++◌, length, Option, None, sym, ap, ◌∙◌, subst, append-nil, append_assoc}
use Rattle.std.specs.Prelude.{slice_get}
use Rattle.std.specs.List.Sorted.{IsStrictlyIncreasing}
use Rattle.std.proofs.lemmas.List.{nil_from_length}
use Rattle.start_entries.specs.declared.entry.StartEntry.{StartEntry}
use Rattle.start_entries.specs.Entries.{start_entry, entries_of}
use Rattle.start_entries.specs.declared.refusal.StartError.{StartError}
use Rattle.start_entries.specs.Refusals.{or_later, refusal_of, first_refusal}
use Rattle.start_entries.specs.Finding.{addresses}
use Rattle.start_entries.specs.Laws.{IsBuilt}
use Rattle.start_entries.specs.Marking.{with_mark, further, marks_from}
use Rattle.start_entries.proofs.OnePassMarks.{marks_are}
pub use Rattle.start_entries.proofs.EntryAddresses.{addr-entry, addresses-entries}

-- Entries of some starts, whichever rules these break; where none is left, they are those of all. Those before the ones left
-- end at an address.
abbrev pub Listed : List ℕ → List ℕ → List StartEntry → ℕ → List ℕ → Type 0
Listed file starts done reached left = done ++ marks_from file reached left ≡ marks_from file 0 starts

-- where no start is left, the entries are those of the starts
pub listed_all : (file starts : List ℕ) (done : List StartEntry) (reached : ℕ) (left : List ℕ) → IsStrictlyIncreasing starts → length left ≡ 0
    → Listed file starts done reached left → done ≡ entries_of file starts
listed_all file starts done reached left s l w =
    sym (append-nil done) ∙ sym (ap (λ z. done ++ marks_from file reached z) (nil_from_length left l)) ∙ w ∙ marks_are file starts s

-- where no start is left, the addresses of the entries ascend
pub listed_rise : (file starts : List ℕ) (done : List StartEntry) (reached : ℕ) (left : List ℕ) → IsStrictlyIncreasing starts → length left ≡ 0
    → Listed file starts done reached left → IsStrictlyIncreasing (addresses done)
listed_rise file starts done reached left s l w =
    subst (λ (xs : List ℕ). IsStrictlyIncreasing xs)
    (sym (ap addresses (listed_all file starts done reached left s l w) ∙ addresses-entries file starts)) s

-- the entries of the starts so far, with that of the next one, are those of one start more
pub listed_on : (file starts : List ℕ) (done more : List StartEntry) (reached new : ℕ) (left : List ℕ) (a : ℕ) (after : List ℕ) → left ≡ a ∷ after
    → more ≡ done ++ with_mark reached (slice_get after 0) (start_entry file a (slice_get after 0)) ∷ []
    → new ≡ further reached ((start_entry file a (slice_get after 0)).addr + (start_entry file a (slice_get after 0)).len)
    → Listed file starts done reached left → Listed file starts more new after
listed_on file starts done more reached new left a after s m n w =
    let e : StartEntry = with_mark reached (slice_get after 0) (start_entry file a (slice_get after 0)) in
    (λ i. m i ++ marks_from file (n i) after) ∙ append_assoc done (e ∷ []) (marks_from file _ after)
    ∙ sym (ap (λ (z : List ℕ). done ++ marks_from file reached z) s) ∙ w

-- Some starts have their entries, and none of them is refused.
pub record Walked (file starts : List ℕ) (done : List StartEntry) (reached : ℕ) (left : List ℕ) : Type 0 where
  pub listed : Listed file starts done reached left
  pub judged : first_refusal file left ≡ first_refusal file starts

-- where no start is left, the entries are what `Starts::build` gives
pub walked_built : (file starts : List ℕ) (done : List StartEntry) (reached : ℕ) (left : List ℕ) → IsStrictlyIncreasing starts → length left ≡ 0
    → Walked file starts done reached left → IsBuilt file done
walked_built file starts done reached left s l w =
    let e = listed_all file starts done reached left s l w.listed in
    let a : addresses done ≡ starts = ap addresses e ∙ addresses-entries file starts in
    record {
      ascending = subst (λ (xs : List ℕ). IsStrictlyIncreasing xs) (sym a) s;
      entries = e ∙ ap (λ z. entries_of file z) (sym a);
      none = ap (λ z. first_refusal file z) a ∙ sym w.judged ∙ ap (λ z. first_refusal file z) (nil_from_length left l);
    }

-- where the next start isn't refused, one start more has its entry
pub walked_on : (file starts : List ℕ) (done more : List StartEntry) (reached new : ℕ) (left : List ℕ) (a : ℕ) (after : List ℕ) → left ≡ a ∷ after
    → refusal_of file a ≡ None → more ≡ done ++ with_mark reached (slice_get after 0) (start_entry file a (slice_get after 0)) ∷ []
    → new ≡ further reached ((start_entry file a (slice_get after 0)).addr + (start_entry file a (slice_get after 0)).len)
    → Walked file starts done reached left → Walked file starts more new after
walked_on file starts done more reached new left a after s r m n w = record {
  listed = listed_on file starts done more reached new left a after s m n w.listed;
  judged = sym (ap (λ (o : Option StartError). or_later o (first_refusal file after)) r)
      ∙ sym (ap (λ (z : List ℕ). first_refusal file z) s) ∙ w.judged;
}
