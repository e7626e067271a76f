-- Pages after one of them is written or put in.
use Rattle.std.proofs.Common.{◌≡◌, ◌≢◌, ℕ, zero, suc, ◌+◌, ◌/◌, ◌%◌, ◌<◌, ◌≤◌, ◌==◌, List, [], ◌∷◌, length, get_or, set, insert, cond, sym, ap, ◌∙◌, subst, inl, inr, arith}
use Rattle.std.proofs.lemmas.Bool.{cases_eq, cases_lt, cond-true, cond-false, eq-eqb, ne_eqb}
use Rattle.std.proofs.lemmas.List.Edits.{length-insert, get_or-insert_at}
use Rattle.byte_locks.specs.declared.lock.Lock.{Lock}
use Rattle.byte_locks.specs.declared.lock.Lock.TheVariants.{Free}
use Rattle.byte_locks.specs.declared.page.Page.{Page}
use Rattle.byte_locks.specs.Locking.{with_lock}
use Rattle.byte_locks.specs.Pages.{lock_in, lock_among, Ascending, count_lower, HasNumber, IsMissing}
use Rattle.byte_locks.proofs.LockPagePlaces.{low_first}
use Rattle.byte_locks.proofs.LockLookups.{first_page, later_page, none_below, count_first, count_none, missing_rest, missing_first}

-- the lock that was set, and the others
at_set : (locks : ℕ → Lock) (place : ℕ) (lock : Lock) (a : ℕ) → a ≡ place → with_lock locks place lock a ≡ lock
at_set locks place lock a same = cond-true (a == place) _ _ (eq-eqb a place same)

-- the lock of each other address stays
pub at_other : (locks : ℕ → Lock) (place : ℕ) (lock : Lock) (a : ℕ) → a ≢ place → with_lock locks place lock a ≡ locks a
at_other locks place lock a differs = cond-false (a == place) _ _ (ne_eqb a place differs)

-- a page is written at one offset
abbrev pub IsWritten : Page → Page → ℕ → Lock → Type 0
IsWritten old new offset lock = (o : ℕ) → lock_in new o ≡ with_lock (lock_in old) offset lock o

-- an address of the page
in_page : (old new : Page) (ps : List Page) (a addr : ℕ) (lock : Lock) → old.number ≡ addr / 4096 → new.number ≡ old.number
    → IsWritten old new (addr % 4096) lock → a / 4096 ≡ addr / 4096
    → lock_among (new ∷ ps) a ≡ with_lock (lock_among (old ∷ ps)) addr lock a
in_page old new ps a addr lock at stays written page = elim (cases_eq a addr) [
  | inl same ↦
      first_page new ps a (omega arith) ∙ written (a % 4096) ∙ at_set (lock_in old) (addr % 4096) lock (a % 4096) (ap (λ k. k % 4096) same)
      ∙ sym (at_set (lock_among (old ∷ ps)) addr lock a same)
  | inr differs ↦
      first_page new ps a (omega arith) ∙ written (a % 4096)
      ∙ at_other (lock_in old) (addr % 4096) lock (a % 4096) (λ e. differs (omega arith))
      ∙ sym (first_page old ps a (omega arith)) ∙ sym (at_other (lock_among (old ∷ ps)) addr lock a differs)
]

-- where a page is written at one offset, the lock of that address alone changes
pub written_among : (low i : ℕ) (ps : List Page) (d new : Page) (a addr : ℕ) (lock : Lock) → Ascending low ps → i < length ps
    → (get_or ps i d).number ≡ addr / 4096 → new.number ≡ (get_or ps i d).number → IsWritten (get_or ps i d) new (addr % 4096) lock
    → lock_among (set ps i new) a ≡ with_lock (lock_among ps) addr lock a
written_among low i [] d new a addr lock up within at stays written = absurd (omega arith)
written_among low zero (p ∷ ps) d new a addr lock up within at stays written = elim (cases_eq (a / 4096) (addr / 4096)) [
  | inl page ↦ in_page p new ps a addr lock at stays written page
  | inr differs ↦
      later_page new ps a (λ e. differs (omega arith)) ∙ sym (later_page p ps a (λ e. differs (omega arith)))
      ∙ sym (at_other (lock_among (p ∷ ps)) addr lock a (λ e. differs (ap (λ k. k / 4096) e)))
]
written_among low (suc i) (p ∷ ps) d new a addr lock up within at stays written =
    let above = low_first (p.number + 1) i ps d up.1 (omega arith) in
    elim (cases_eq p.number (a / 4096)) [
      | inl page ↦
          first_page p (set ps i new) a page ∙ sym (first_page p ps a page)
          ∙ sym (at_other (lock_among (p ∷ ps)) addr lock a (λ e. let f = ap (λ k. k / 4096) e in omega arith))
      | inr differs ↦
          later_page p (set ps i new) a differs
          ∙ written_among (p.number + 1) i ps d new a addr lock up.1 (omega arith) at stays written
          ∙ ap (λ l. cond (a == addr) lock l) (sym (later_page p ps a differs))
    ]

-- pages of which one is written ascend as before
pub written_ascending : (low i : ℕ) (ps : List Page) (d new : Page) → Ascending low ps → i < length ps → new.number ≡ (get_or ps i d).number
    → Ascending low (set ps i new)
written_ascending low i [] d new up within stays = absurd (omega arith)
written_ascending low zero (p ∷ ps) d new up within stays =
    let least = up.0 in (omega arith, subst (λ (n : ℕ). Ascending (n + 1) ps) (sym stays) up.1)
written_ascending low (suc i) (p ∷ ps) d new up within stays = (up.0, written_ascending (p.number + 1) i ps d new up.1 (omega arith) stays)

-- a page with every byte free
abbrev pub IsFreePage : Page → Type 0
IsFreePage page = (o : ℕ) → lock_in page o ≡ Free

-- a free page before pages that are all above it
free_first : (page : Page) (ps : List Page) (a : ℕ) → Ascending (page.number + 1) ps → IsFreePage page
    → lock_among (page ∷ ps) a ≡ lock_among ps a
free_first page ps a up free = elim (cases_eq page.number (a / 4096)) [
  | inl same ↦ first_page page ps a same ∙ free (a % 4096) ∙ sym (none_below (page.number + 1) ps a up (omega arith))
  | inr differs ↦ later_page page ps a differs
]

-- the locks of all pages stay where a free one is put in at its place
inserted_among : (low i : ℕ) (ps : List Page) (page : Page) (a : ℕ) → Ascending low ps → IsMissing ps page.number i → IsFreePage page
    → lock_among (insert ps (count_lower ps page.number) page) a ≡ lock_among ps a
inserted_among low i [] page a up missing free = free_first page [] a tt free
inserted_among low i (p ∷ ps) page a up missing free =
    let n = page.number in
    elim (cases_lt p.number n) [
      | inl less ↦
          ap (λ k. lock_among (insert (p ∷ ps) k page) a) (count_first p ps n less)
          ∙ ap (λ l. cond (p.number == a / 4096) (lock_in p (a % 4096)) l)
          (inserted_among (p.number + 1) (count_lower ps n) ps page a up.1 (missing_rest p ps n i less missing) free)
      | inr more ↦
          let above = missing_first p ps n i more missing in
          ap (λ k. lock_among (insert (p ∷ ps) k page) a) (count_none p ps n more) ∙ free_first page (p ∷ ps) a (omega arith, up.1) free
    ]

inserted_ascending : (low i : ℕ) (ps : List Page) (page : Page) → Ascending low ps → IsMissing ps page.number i → low ≤ page.number
    → Ascending low (insert ps (count_lower ps page.number) page)
inserted_ascending low i [] page up missing least = (least, tt)
inserted_ascending low i (p ∷ ps) page up missing least =
    let n = page.number in
    elim (cases_lt p.number n) [
      | inl less ↦
          subst (λ (k : ℕ). Ascending low (insert (p ∷ ps) k page)) (sym (count_first p ps n less))
          (up.0, inserted_ascending (p.number + 1) (count_lower ps n) ps page up.1 (missing_rest p ps n i less missing) (omega arith))
      | inr more ↦
          let above = missing_first p ps n i more missing in
          subst (λ (k : ℕ). Ascending low (insert (p ∷ ps) k page)) (sym (count_none p ps n more)) (least, (omega arith, up.1))
    ]

-- a free page with a number that was missing is put in at its place: the locks and the order stay, and it stands there
pub page_inserted : (ps new : List Page) (place n : ℕ) (page : Page) → Ascending 0 ps → place ≤ length ps → IsMissing ps n place
    → page.number ≡ n → IsFreePage page → new ≡ insert ps place page
    → ((a : ℕ) → lock_among new a ≡ lock_among ps a) × Ascending 0 new × HasNumber new n place
page_inserted ps new place n page up within missing number free is =
    let absent : IsMissing ps page.number place = subst (λ (m : ℕ). IsMissing ps m place) (sym number) missing in
    let at : new ≡ insert ps (count_lower ps page.number) page = is ∙ ap (λ k. insert ps k page) absent.0 in
    let longer : length new ≡ length ps + 1 = ap length is ∙ length-insert ps place page within in (
      λ a. ap (λ l. lock_among l a) at ∙ inserted_among 0 place ps page a up absent free,
      subst (λ (l : List Page). Ascending 0 l) (sym at) (inserted_ascending 0 place ps page up absent (omega arith)),
      (omega arith, λ d. ap (λ p. p.number) (ap (λ l. get_or l place d) is ∙ get_or-insert_at ps place page d within) ∙ number),
    )

-- the page at a place is written, and before that the pages said the same as others
pub page_written : (ps : List Page) (place : ℕ) (old new : Page) (addr : ℕ) (lock : Lock) (locks : ℕ → Lock) → Ascending 0 ps
    → HasNumber ps (addr / 4096) place → old ≡ get_or ps place old → new.number ≡ old.number → IsWritten old new (addr % 4096) lock
    → ((a : ℕ) → lock_among ps a ≡ locks a) → (a : ℕ) → lock_among (set ps place new) a ≡ with_lock locks addr lock a
page_written ps place old new addr lock locks up at is stays written before a =
    written_among 0 place ps old new a addr lock up at.0 (at.1 old) (stays ∙ ap (λ p. p.number) is)
    (λ o. written o ∙ ap (λ p. with_lock (lock_in p) (addr % 4096) lock o) is)
    ∙ ap (λ l. cond (a == addr) lock l) (before a)
