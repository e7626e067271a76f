-- The map of all locked bytes against the pages that it is made of.
use Rattle.std.proofs.Common.{◌≡◌, ◌≢◌, ℕ, zero, suc, ◌+◌, ◌*◌, ◌/◌, ◌%◌, ◌<◌, List, [], ◌∷◌, ◌++◌, length, unwrap_or, eqb, ◌==◌, cond, Some, refl, sym, ap, ◌∙◌, inl, inr, append_assoc, arith, rules, tests}
use Rattle.std.specs.Ordering.{nat_cmp, eq_by_cmp}
use Rattle.std.specs.Cmp.{nat_cmp_total}
use Rattle.std.specs.FinMap.{find, from_entries, get-from_entries}
use Rattle.std.proofs.lemmas.Bool.{cases_eq, cond-true, cond-false, eq-eqb, ne_eqb}
use Rattle.byte_locks.specs.declared.lock.Lock.{Lock}
use Rattle.byte_locks.specs.declared.lock.Lock.TheVariants.{Free, Punned, Changed}
use Rattle.byte_locks.specs.declared.page.Page.{Page}
use Rattle.byte_locks.specs.Locking.{LocksState, lock_at, with_lock}
use Rattle.byte_locks.specs.Pages.{lock_in, lock_among, Ascending, entry, page_entries, entries}
use Rattle.byte_locks.proofs.LockLookups.{first_page, later_page, none_below}

-- What clauses see of the pages.
abbrev pub shown : List Page → ℕ → LocksState
shown pages spare = record { locked = from_entries (entries pages); spare = spare }

same_test : (a b : ℕ) → eq_by_cmp nat_cmp a b ≡ eqb a b
same_test a b = search (rules, tests)

-- the first entry with the address, and with another
found_first : (a b : ℕ) (lock : Lock) (rest : List (ℕ × Lock)) → a ≡ b → find nat_cmp a ((b, lock) ∷ rest) ≡ Some lock
found_first a b lock rest same = cond-true (eq_by_cmp nat_cmp a b) _ _ (same_test a b ∙ eq-eqb a b same)

found_later : (a b : ℕ) (lock : Lock) (rest : List (ℕ × Lock)) → a ≢ b → find nat_cmp a ((b, lock) ∷ rest) ≡ find nat_cmp a rest
found_later a b lock rest differs = cond-false (eq_by_cmp nat_cmp a b) _ _ (same_test a b ∙ ne_eqb a b differs)

-- the lock of an address among entries
abbrev lock_listed : List (ℕ × Lock) → ℕ → Lock
lock_listed list a = unwrap_or (find nat_cmp a list) Free

entry_other : (a b : ℕ) (lock : Lock) (rest : List (ℕ × Lock)) → a ≢ b → lock_listed (entry b lock ++ rest) a ≡ lock_listed rest a
entry_other a b Free rest differs = refl
entry_other a b Punned rest differs = ap (λ o. unwrap_or o Free) (found_later a b Punned rest differs)
entry_other a b (Changed v) rest differs = ap (λ o. unwrap_or o Free) (found_later a b (Changed v) rest differs)

entry_same : (a b : ℕ) (lock : Lock) (rest : List (ℕ × Lock)) → a ≡ b → lock_listed rest a ≡ Free
    → lock_listed (entry b lock ++ rest) a ≡ lock
entry_same a b Free rest same none = none
entry_same a b Punned rest same none = ap (λ o. unwrap_or o Free) (found_first a b Punned rest same)
entry_same a b (Changed v) rest same none = ap (λ o. unwrap_or o Free) (found_first a b (Changed v) rest same)

-- the entries of a page below one more offset
one_more : (p : Page) (n a : ℕ) (rest : List (ℕ × Lock))
    → lock_listed (page_entries p (suc n) ++ rest) a
    ≡ lock_listed (entry (p.number * 4096 + n) (lock_in p n) ++ (page_entries p n ++ rest)) a
unfolding page_entries
one_more p n a rest =
    ap (λ l. lock_listed l a) (append_assoc (entry (p.number * 4096 + n) (lock_in p n)) (page_entries p n) rest)

none_more : (p : Page) (a : ℕ) (rest : List (ℕ × Lock)) → lock_listed (page_entries p zero ++ rest) a ≡ lock_listed rest a
unfolding page_entries
none_more p a rest = refl

outside : (p : Page) (n a : ℕ) (rest : List (ℕ × Lock)) → ((k : ℕ) → k < n → a ≢ p.number * 4096 + k)
    → lock_listed (page_entries p n ++ rest) a ≡ lock_listed rest a
outside p zero a rest apart = none_more p a rest
outside p (suc n) a rest apart =
    one_more p n a rest ∙ entry_other a (p.number * 4096 + n) (lock_in p n) (page_entries p n ++ rest) (apart n (omega arith))
    ∙ outside p n a rest (λ k l. apart k (omega arith))

inside : (p : Page) (n offset a : ℕ) (rest : List (ℕ × Lock)) → offset < n → a ≡ p.number * 4096 + offset → lock_listed rest a ≡ Free
    → lock_listed (page_entries p n ++ rest) a ≡ lock_in p offset
inside p zero offset a rest below at none = absurd (omega arith)
inside p (suc n) offset a rest below at none = elim (cases_eq offset n) [
  | inl same ↦
      one_more p n a rest
      ∙ entry_same a (p.number * 4096 + n) (lock_in p n) (page_entries p n ++ rest) (omega arith)
      (outside p n a rest (λ k l e. omega arith) ∙ none)
      ∙ ap (λ k. lock_in p k) (sym same)
  | inr differs ↦
      one_more p n a rest ∙ entry_other a (p.number * 4096 + n) (lock_in p n) (page_entries p n ++ rest) (λ e. omega arith)
      ∙ inside p n offset a rest (omega arith) at none
]

-- the entries of pages: none, and one page more
listed_none : (a : ℕ) → lock_listed (entries []) a ≡ Free
unfolding entries
listed_none a = refl

listed_more : (p : Page) (ps : List Page) (a : ℕ) → lock_listed (entries (p ∷ ps)) a
    ≡ lock_listed (page_entries p (length p.values.items) ++ entries ps) a
unfolding entries
listed_more p ps a = refl

listed : (low : ℕ) (ps : List Page) (a : ℕ) → Ascending low ps → lock_listed (entries ps) a ≡ lock_among ps a
listed low [] a up = listed_none a
listed low (p ∷ ps) a up =
    let size : length p.values.items ≡ 4096 = p.values_size in
    let rest = listed (p.number + 1) ps a up.1 in
    elim (cases_eq p.number (a / 4096)) [
      | inl same ↦
          listed_more p ps a
          ∙ inside p (length p.values.items) (a % 4096) a (entries ps) (omega arith) (omega arith)
          (rest ∙ none_below (p.number + 1) ps a up.1 (omega arith))
          ∙ sym (first_page p ps a same)
      | inr differs ↦
          listed_more p ps a
          ∙ outside p (length p.values.items) a (entries ps) (λ k l e. differs (omega arith))
          ∙ rest ∙ sym (later_page p ps a differs)
    ]

-- the lock that clauses see at an address is that of the pages
pub lock_at-shown : (pages : List Page) (spare a : ℕ) → Ascending 0 pages → lock_at (shown pages spare) a ≡ lock_among pages a
lock_at-shown pages spare a up =
    ap (λ o. unwrap_or o Free) (get-from_entries nat_cmp_total (entries pages) a) ∙ listed 0 pages a up

-- the locks that clauses see after one is set among the pages
pub with_lock-shown : (old new : List Page) (n m : ℕ) (addr : ℕ) (lock : Lock) → Ascending 0 old → Ascending 0 new
    → ((a : ℕ) → lock_among new a ≡ with_lock (lock_among old) addr lock a)
    → (a : ℕ) → lock_at (shown new n) a ≡ with_lock (lock_at (shown old m)) addr lock a
with_lock-shown old new n m addr lock before after set a =
    lock_at-shown new n a after ∙ set a ∙ ap (λ l. cond (a == addr) lock l) (sym (lock_at-shown old m a before))
