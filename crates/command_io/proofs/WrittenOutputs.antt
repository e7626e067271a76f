-- What stands under the names while outputs are written one after the other.
use Rattle.std.proofs.Common.{◌≡◌, ℕ, inl, inr, true, List, [], ◌∷◌, length, take, Option, Some, None, Result, Ok, Err, IsSomeAnd, refl, sym, ap, ◌∙◌, subst}
use Rattle.std.proofs.Math.Seq.{take-length}
use Rattle.pun_base.specs.Shown.{Files, DeskState, with_file, Told, Rose}
use Rattle.pun_base.specs.Desk.{Filled, Fills, Stays}
use Rattle.pun_base.specs.declared.desk.PutError.{PutError}
use Rattle.pun_base.specs.declared.desk.PutError.TheVariants as put
use Rattle.pun_base.proofs.HeldFiles.{with_file-same}
use Rattle.pun_base.proofs.ToldChanges.{told_then, told_map, rose_later}
use Rattle.pun_base.proofs.CallFrames.{stays_same, stays_then, stays_filled}
use Rattle.command_io.specs.Writing.{Outputs, IsOutput, KeepsRest, files_after, IsCut, LeavesPart, IsNext, IsBehind, KeepsBehind}
use Rattle.command_io.specs.Failing.{Failed, Refused, Unread, Unwritten, NoMemory}
use Rattle.command_io.specs.Works.{WritesOne, IsNoFault, WritesAll, AreApart}
use Rattle.command_io.proofs.NamedFiles.{with_file-other, one_held}

-- ---- what is told before and after

-- what is told before and after has changed so
pub told_at : {X : Type 0} → (P : X → X → Type 0) (s t : Option X) (x y : X) → s ≡ Some x → t ≡ Some y → Told P s t → P x y
told_at P s t x y e f h = subst (λ o. Told P (Some x) o) f (subst (λ o. Told P o t) e h)

-- what is told after a change has what the change gives
pub told_some : {X : Type 0} → (P : X → X → Type 0) (Q : X → Type 0) (s t : Option X) (x : X) → s ≡ Some x
    → ((y : X) → t ≡ Some y → P x y → Q y) → Told P s t → IsSomeAnd t Q
told_some P Q None t x e f h = absurd cc
told_some P Q (Some w) None x e f h = absurd h
told_some P Q (Some w) (Some y) x e f h = f y refl (let k : w ≡ x = cc in subst (λ z. P z y) k h)

-- what nothing changes
told_self : {X : Type 0} → (P : X → X → Type 0) (s : Option X) → ((x : X) → P x x) → Told P s s
told_self P None f = tt
told_self P (Some x) f = f x

-- nothing changed
pub told_same : {X : Type 0} → (P : X → X → Type 0) (s t : Option X) → ((x : X) → P x x) → t ≡ s → Told P s t
told_same P s t f e = subst (λ o. Told P s o) (sym e) (told_self P s f)

-- ---- what a job leaves

-- what is left once the first output is whole
left_further : {J : Type 0} → (x : List ℕ × (J → List ℕ)) (xs : Outputs J) (job : J) (old new : Files)
    → LeavesPart (with_file old x.0 (x.1 job)) xs job new → LeavesPart old (x ∷ xs) job new
left_further x xs job old new (inl e) =
    inr (inl (length (x.1 job), e ∙ ap (λ (b : List ℕ). with_file old x.0 b) (sym (take-length (x.1 job)))))
left_further x xs job old new (inr c) = inr (inr c)

-- no other name changes where an output is cut
cut_keeps : {J : Type 0} → (xs : Outputs J) (job : J) (old new : Files) → IsCut old xs job new → KeepsRest xs old new
cut_keeps [] job old new c name n = absurd c
cut_keeps (x ∷ xs) job old new (inl c) name n =
    ap (λ (m : Files). m name) c.1 ∙ with_file-other old x.0 name (take c.0 (x.1 job)) (λ e. n (inl (sym e)))
cut_keeps (x ∷ xs) job old new (inr c) name n =
    cut_keeps xs job (with_file old x.0 (x.1 job)) new c name (λ o. n (inr o))
    ∙ with_file-other old x.0 name (x.1 job) (λ e. n (inl (sym e)))

-- no other name changes, whatever a job leaves
left_keeps : {J : Type 0} → (xs : Outputs J) (job : J) (old new : Files) → LeavesPart old xs job new → KeepsRest xs old new
left_keeps xs job old new (inl e) = λ name n. ap (λ (m : Files). m name) e
left_keeps xs job old new (inr c) = cut_keeps xs job old new c

-- where files are told before and after, no other name changes, whatever a job leaves
pub told_keeps : {J : Type 0} → (xs : Outputs J) (job : J) (s t : Option Files)
    → Told (λ old new. LeavesPart old xs job new) s t → Told (KeepsRest xs) s t
told_keeps xs job s t h = told_map (λ old new. LeavesPart old xs job new) (KeepsRest xs) s t (λ x y l. left_keeps xs job x y l) h

-- ---- how the writing of outputs ends

-- What the writing of a job's outputs leaves, and what the desk keeps through it.
pub record Leaves {J : Type 0} (xs : Outputs J) (job : J) (s t : DeskState) : Type 0 where
  pub at_rest : s.writing ≡ None → t.writing ≡ None
  pub stays : Stays s t
  pub left : Told (λ old new. LeavesPart old xs job new) s.held t.held

-- nothing was written
leaves_same : {J : Type 0} → (xs : Outputs J) (job : J) (s t : DeskState) → t ≡ s → Leaves xs job s t
leaves_same xs job s t e = record {
  at_rest = λ h. ap (λ (d : DeskState). d.writing) e ∙ h;
  stays = stays_same s t e;
  left = told_same (λ old new. LeavesPart old xs job new) s.held t.held (λ x. inl refl) (ap (λ (d : DeskState). d.held) e);
}

-- the first output was filled in part
leaves_part : {J : Type 0} → (x : List ℕ × (J → List ℕ)) (xs : Outputs J) (job : J) (s t : DeskState) (e : PutError)
    → Fills x.0 (x.1 job) s t (Err e) → Leaves (x ∷ xs) job s t
leaves_part x xs job s t e f = record {
  at_rest = λ h. f.writing;
  stays = stays_filled _ _ _ _ _ f;
  left = told_map (Filled x.0 (x.1 job) (Err e)) (λ old new. LeavesPart old (x ∷ xs) job new) s.held t.held (λ a b p. cut a b p) f.held;
}
  where
    cut : (old new : Files) → Filled x.0 (x.1 job) (Err e) old new → LeavesPart old (x ∷ xs) job new
    cut old new (inl same) = inl same
    cut old new (inr part) = inr (inl part)

-- the first output was not written, or only in part
leaves_not : {J : Type 0} → (x : List ℕ × (J → List ℕ)) (xs : Outputs J) (job : J) (s t : DeskState) (e : Failed)
    → WritesOne x.0 (x.1 job) s t (Err e) → Leaves (x ∷ xs) job s t
leaves_not x xs job s t (Unwritten name) w = leaves_part x xs job s t put.Failed w.1
leaves_not x xs job s t NoMemory (inl e) = leaves_same (x ∷ xs) job s t e
leaves_not x xs job s t NoMemory (inr f) = leaves_part x xs job s t put.Memory f
leaves_not x xs job s t (Refused r) w = absurd w
leaves_not x xs job s t (Unread name) w = absurd w

-- the first output was written
leaves_more : {J : Type 0} → (x : List ℕ × (J → List ℕ)) (xs : Outputs J) (job : J) (s m t : DeskState) → Fills x.0 (x.1 job) s m (Ok tt)
    → Leaves xs job m t → Leaves (x ∷ xs) job s t
leaves_more x xs job s m t f l = record {
  at_rest = λ h. l.at_rest f.writing;
  stays = stays_then s m t (stays_filled _ _ _ _ _ f) l.stays;
  left = told_then (Filled x.0 (x.1 job) (Ok tt)) (λ old new. LeavesPart old xs job new) (λ old new. LeavesPart old (x ∷ xs) job new)
      s.held m.held t.held (λ a b c p q. left_further x xs job a c (subst (λ (z : Files). LeavesPart z xs job c) p q)) f.held l.left;
}

-- so do all outputs, however their writing ends
pub all_leave : {J : Type 0} → (xs : Outputs J) (job : J) (s t : DeskState) (r : Result (Unit {0}) Failed) → WritesAll xs job s t r
    → Leaves xs job s t
all_leave [] job s t r w = leaves_same [] job s t w.0
all_leave (x ∷ xs) job s t (Ok u) w = leaves_more x xs job s w.0 t w.1 (all_leave xs job w.0 t (Ok u) w.2)
all_leave (x ∷ xs) job s t (Err e) (inl w) = leaves_not x xs job s t e w
all_leave (x ∷ xs) job s t (Err e) (inr w) = leaves_more x xs job s w.0 t w.1 (all_leave xs job w.0 t (Err e) w.2)

-- outputs that were all written are whole
pub all_held : {J : Type 0} → (xs : Outputs J) (job : J) (files : Files) (s t : DeskState) → s.held ≡ Some files → WritesAll xs job s t (Ok tt)
    → t.held ≡ Some (files_after files xs job)
all_held [] job files s t h w = ap (λ (d : DeskState). d.held) w.0 ∙ h
all_held (x ∷ xs) job files s t h w =
    all_held xs job (with_file files x.0 (x.1 job)) w.0 t (one_held files s.held w.0.held x.0 (x.1 job) h w.1.held) w.2

-- ---- an output that couldn't be written

-- the writing of outputs ends in two ways where it fails
abbrev pub IsCutEnd : Failed → Type 0
IsCutEnd (Unwritten name) = Unit {0}
IsCutEnd NoMemory = Unit {0}
IsCutEnd other = ⊥

-- behind the last output
none_cut : (e : Failed) → IsNoFault (Err e) → IsCutEnd e
none_cut NoMemory h = tt
none_cut (Unwritten name) h = absurd h
none_cut (Refused r) h = absurd h
none_cut (Unread name) h = absurd h

-- of one output
one_cut : (name bytes : List ℕ) (s t : DeskState) (e : Failed) → WritesOne name bytes s t (Err e) → IsCutEnd e
one_cut name bytes s t (Unwritten other) w = tt
one_cut name bytes s t NoMemory w = tt
one_cut name bytes s t (Refused r) w = absurd w
one_cut name bytes s t (Unread other) w = absurd w

-- of all outputs
pub all_cut : {J : Type 0} → (xs : Outputs J) (job : J) (s t : DeskState) (e : Failed) → WritesAll xs job s t (Err e) → IsCutEnd e
all_cut [] job s t e w = none_cut e w.1
all_cut (x ∷ xs) job s t e (inl w) = one_cut x.0 (x.1 job) s t e w
all_cut (x ∷ xs) job s t e (inr w) = all_cut xs job w.0 t e w.2

-- its fault has its cause, and its name is that of an output
pub all_failed : {J : Type 0} → (xs : Outputs J) (job : J) (s t : DeskState) (name : List ℕ) → WritesAll xs job s t (Err (Unwritten name))
    → Rose s.write_faults t.write_faults × (s.sure ≡ true → ⊥) × IsOutput xs name
all_failed [] job s t name w = absurd w.1
all_failed (x ∷ xs) job s t name (inl w) = (w.1.counts.cause.0, w.1.counts.cause.1, inl w.0)
all_failed (x ∷ xs) job s t name (inr w) =
    let y = all_failed xs job w.0 t name w.2 in
    (rose_later _ _ _ w.1.counts.later y.0, λ z. y.1 (w.1.counts.sure z).0, inr y.2)

-- and the outputs before it are whole
pub all_before : {J : Type 0} → (xs : Outputs J) (job : J) (files new : Files) (s t : DeskState) (name : List ℕ) → AreApart xs
    → s.held ≡ Some files → t.held ≡ Some new → WritesAll xs job s t (Err (Unwritten name)) → IsNext xs job new name
all_before [] job files new s t name a h g w = absurd w.1
all_before (x ∷ xs) job files new s t name a h g (inl w) = inl w.0
all_before (x ∷ xs) job files new s t name a h g (inr w) =
    let mid = with_file files x.0 (x.1 job) in
    let m = one_held files s.held w.0.held x.0 (x.1 job) h w.1.held in
    let kept = told_at (KeepsRest xs) w.0.held t.held mid new m g
    (told_keeps xs job w.0.held t.held (all_leave xs job w.0 t (Err (Unwritten name)) w.2).left) in
    inr (kept x.0 a.0 ∙ with_file-same files x.0 (x.1 job), all_before xs job mid new w.0 t name a.1 m g w.2)

-- ---- the outputs behind it

-- an output behind one is an output
behind_output : {J : Type 0} → (xs : Outputs J) (name later : List ℕ) → IsBehind xs name later → IsOutput xs later
behind_output [] name later b = b
behind_output (x ∷ xs) name later (inl b) = inr b.1
behind_output (x ∷ xs) name later (inr b) = inr (behind_output xs name later b)

-- and isn't the first
behind_first : {J : Type 0} → (x : List ℕ × (J → List ℕ)) (xs : Outputs J) (name later : List ℕ) → (IsOutput xs x.0 → ⊥)
    → IsBehind (x ∷ xs) name later → x.0 ≡ later → ⊥
behind_first x xs name later a (inl b) e = a (subst (λ (z : List ℕ). IsOutput xs z) (sym e) b.1)
behind_first x xs name later a (inr b) e = a (subst (λ (z : List ℕ). IsOutput xs z) (sym e) (behind_output xs name later b))

-- what was filled in part is under its own name
filled_other : (name bytes other : List ℕ) (e : PutError) (old new : Files) → (name ≡ other → ⊥) → Filled name bytes (Err e) old new
    → new other ≡ old other
filled_other name bytes other e old new n (inl same) = ap (λ (m : Files). m other) same
filled_other name bytes other e old new n (inr part) =
    ap (λ (m : Files). m other) part.1 ∙ with_file-other old name other (take part.0 bytes) n

-- outputs behind the one that couldn't be written were not begun
pub all_behind : {J : Type 0} → (xs : Outputs J) (job : J) (files new : Files) (s t : DeskState) (name : List ℕ) → AreApart xs
    → s.held ≡ Some files → t.held ≡ Some new → WritesAll xs job s t (Err (Unwritten name)) → KeepsBehind xs name files new
all_behind [] job files new s t name a h g w later b = absurd b
all_behind (x ∷ xs) job files new s t name a h g (inl w) later b =
    filled_other x.0 (x.1 job) later put.Failed files new (behind_first x xs name later a.0 b)
    (told_at (Filled x.0 (x.1 job) (Err put.Failed)) s.held t.held files new h g w.1.held)
all_behind (x ∷ xs) job files new s t name a h g (inr w) later (inl b) =
    absurd (a.0 (subst (λ (z : List ℕ). IsOutput xs z) b.0 (all_failed xs job w.0 t name w.2).2))
all_behind (x ∷ xs) job files new s t name a h g (inr w) later (inr b) =
    let mid = with_file files x.0 (x.1 job) in
    let m = one_held files s.held w.0.held x.0 (x.1 job) h w.1.held in
    all_behind xs job mid new w.0 t name a.1 m g w.2 later b
    ∙ with_file-other files x.0 later (x.1 job) (behind_first x xs name later a.0 (inr b))
