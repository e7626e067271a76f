-- Reading goes line by line through what a report's lines may lead to.
use Rattle.std.proofs.Common.{◌≡◌, ℕ, ◌+◌, ◌<◌, ◌≤◌, Bool, true, false, cond, List, [], ◌∷◌, ◌++◌, length, Option, Some, None, option_map, Result, Ok, Err, refl, ap, sym, subst, ◌∙◌, arith, length-append, ◌⊎◌, inl, inr}
use Rattle.std.specs.Prelude.{◌==◌, nat_lt, option_and_then}
use Rattle.std.specs.Option.{option_or, ok_or}
use Rattle.std.proofs.lemmas.Bool.Decides.{nat_tests}
use Rattle.std.proofs.lemmas.Option.{same_Some}
use Rattle.pun_base.specs.declared.scheme.Scheme.{Scheme}
use Rattle.pun_base.specs.declared.scheme.Scheme.TheVariants.{B1, B2, T1, T2, T3}
use Rattle.pun_base.specs.declared.tramp.Tramp.{Tramp}
use Rattle.pun_base.specs.declared.pun.Pun.{Pun}
use Rattle.patch_report.specs.declared.line.Line.{Line}
use Rattle.patch_report.specs.Values.{ReportValue, patched, WriteValue}
use Rattle.patch_report.specs.Grammar.{tramp_count}
use Rattle.patch_report.specs.Reading.{At, ◌>>=◌, appended, found, line_at, next_at, one_more, picked, pun_of, tramp_of, tramps_at, up_to_three, wanted, write_of, writes_at}
use Rattle.patch_report.proofs.LineAutomaton.{Turn, State, rowing, tramping, writing, punning, done, plan, rows_with, if_room, tramped, step}
use Rattle.patch_report.proofs.AcceptedLines.{puns_end, writes_end, if_ended, pun_more, write_more, tramps_full, tramps_due}

-- The report is complete.
abbrev pub is_done : State → Bool
is_done (done v) = true
is_done _ = false

-- No line that may come next stands there, nor is it the end.
pub record Refuses (s : State) (at : At) : Type 0 where
  pub next : (x : Line) (after : At) → line_at at ≡ Some (x, after) → step s x ≡ None
  pub over : is_done s ≡ true → length at.text ≡ 0 → ⊥

-- How a reading from there comes to its answer.
pub data Trace (r : Result ReportValue ℕ) : State → At → Type 0 where
  accepts : {s : State} {at : At} (v : ReportValue) → s ≡ done v → length at.text ≡ 0 → r ≡ Ok v → Trace r s at
  stops : {s : State} {at : At} → Refuses s at → r ≡ Err at.place → Trace r s at
  goes : {s : State} {at : At} (x : Line) (after : At) (u : State) → line_at at ≡ Some (x, after) → step s x ≡ Some u → Trace r u after
      → Trace r s at

-- A test doesn't both fail and pass.
pub not_both : (b : Bool) → b ≡ false → b ≡ true → ⊥
not_both b e f = absurd cc

same_line : (at a b : At) (x y : Line) → line_at at ≡ Some (x, a) → line_at at ≡ Some (y, b) → x ≡ y
same_line at a b x y e f = ap (λ (w : Line × At). w.0) (same_Some (x, a) (y, b) (sym e ∙ f))

no_line : (at a : At) (x : Line) → line_at at ≡ None → line_at at ≡ Some (x, a) → ⊥
no_line at a x e f = absurd cc

-- A line that is wanted.
pub wanted_trace : {X : Type 0} (want : Line → Option X) (k : X → State) (s : State) (at : At) (g : X × At → Result ReportValue ℕ)
    → is_done s ≡ false
    → ((x : Line) (after : At) → line_at at ≡ Some (x, after) → step s x ≡ option_map k (want x))
    → ((y : X) (after : At) → Trace (g (y, after)) (k y) after) → Trace (wanted want at >>= g) s at
unfolding wanted next_at
wanted_trace {X} want k s at g d e rest = by (line_at at) refl
  where
    taken : (w : Line × At) → line_at at ≡ Some w → (o : Option X) → want w.0 ≡ o
        → Trace (ok_or (option_map (λ (v : X). (v, w.1)) o) at.place >>= g) s at
    taken w l None h = stops (record {
      next = λ x after m. e x after m ∙ ap (option_map k) (ap want (sym (same_line at w.1 after w.0 x l m)) ∙ h);
      over = λ f. absurd (not_both (is_done s) d f);
    }) refl
    taken w l (Some y) h = goes w.0 w.1 (k y) l (e w.0 w.1 l ∙ ap (option_map k) h) (rest y w.1)

    by : (o : Option (Line × At)) → line_at at ≡ o → Trace ((ok_or o at.place >>= λ x. ok_or (picked want x) at.place) >>= g) s at
    by None l = stops (record { next = λ x after m. absurd (no_line at after x l m); over = λ f. absurd (not_both (is_done s) d f) }) refl
    by (Some w) l = taken w l (want w.0) refl

-- Two states that go on alike.
pub same_trace : (r : Result ReportValue ℕ) (s u : State) (at : At) → is_done s ≡ false → is_done u ≡ false
    → ((x : Line) (after : At) → line_at at ≡ Some (x, after) → step s x ≡ step u x) → Trace r u at → Trace r s at
same_trace r s u at ds du e (accepts v q l o) = absurd (not_both (is_done u) du (ap is_done q))
same_trace r s u at ds du e (stops f o) = stops (record {
  next = λ x after m. e x after m
      ∙ f.next x after m;
  over = λ f. absurd (not_both (is_done s) ds f);
}) o
same_trace r s u at ds du e (goes x after w l q t) = goes x after w l (e x after l ∙ q) t

-- Of three steps it is the same whether the first two or the last two are taken together.
pub assoc : {A B C : Type 0} (m : Result A ℕ) (f : A → Result B ℕ) (g : B → Result C ℕ) → (m >>= λ x. f x >>= g) ≡ ((m >>= f) >>= g)
assoc (Ok x) f g = refl
assoc (Err n) f g = refl

-- ---- lines as long as they are wanted, at most three

-- A line more that is wanted, where there is one.
more_trace : {X : Type 0} (want : Line → Option X) (S : List X → State) (front : List X × At) (r : Result ReportValue ℕ)
    → ((x : Line) (w : X) → want x ≡ Some w → step (S front.0) x ≡ Some (S (front.0 ++ w ∷ [])))
    → Trace r (S (one_more want front).0) (one_more want front).1 → Trace r (S front.0) front.1
unfolding one_more found
more_trace {X} want S front r e t = by (line_at front.1) refl t
  where
    taken : (w : Line × At) → line_at front.1 ≡ Some w → (o : Option X) → want w.0 ≡ o
        → Trace r (S (appended front (option_map (λ (v : X). (v, w.1)) o)).0) (appended front (option_map (λ (v : X). (v, w.1)) o)).1
        → Trace r (S front.0) front.1
    taken w l None h t = t
    taken w l (Some y) h t = goes w.0 w.1 (S (front.0 ++ y ∷ [])) l (e w.0 y h) t

    by : (o : Option (Line × At)) → line_at front.1 ≡ o
        → Trace r (S (appended front (option_and_then (picked want) o)).0) (appended front (option_and_then (picked want) o)).1
        → Trace r (S front.0) front.1
    by None l t = t
    by (Some w) l t = taken w l (want w.0) refl t

-- None comes next, or the list is one longer.
abbrev Grown : {X : Type 0} → (Line → Option X) → List X × At → Type 0
Grown want front = ((found want front.1 ≡ None) × (one_more want front ≡ front)) ⊎ (length (one_more want front).0 ≡ length front.0 + 1)

grown : {X : Type 0} (want : Line → Option X) (front : List X × At) → Grown want front
unfolding one_more
grown {X} want front = by (found want front.1) refl
  where
    by : (o : Option (X × At)) → found want front.1 ≡ o → ((found want front.1 ≡ None) × (appended front o ≡ front))
        ⊎ (length (appended front o).0 ≡ length front.0 + 1)
    by None e = inl (e, refl)
    by (Some y) e = inr (length-append front.0 (y.0 ∷ []))

stays : {X : Type 0} (want : Line → Option X) (front : List X × At) → found want front.1 ≡ None → one_more want front ≡ front
unfolding one_more
stays want front e = ap (appended front) e

still : {X : Type 0} (want : Line → Option X) (front : List X × At) → found want front.1 ≡ None → found want (one_more want front).1 ≡ None
still {X} want front e = subst (λ (f : List X × At). found want f.1 ≡ None) (sym (stays want front e)) e

-- There are three, or none comes next.
abbrev Settled : {X : Type 0} → (Line → Option X) → List X × At → Type 0
Settled want out = (length out.0 ≡ 3) ⊎ (found want out.1 ≡ None)

settled : {X : Type 0} (want : Line → Option X) (at : At) → Settled want (up_to_three want at)
settled {X} want at =
    let f0 : List X × At = ([], at) in
    let f1 : List X × At = one_more want f0 in
    let f2 : List X × At = one_more want f1 in
    elim (grown want f0) [
      | inl a ↦ inr (still want f2 (still want f1 (still want f0 a.0)))
      | inr a ↦ elim (grown want f1) [
        | inl b ↦ inr (still want f2 (still want f1 b.0))
        | inr b ↦ elim (grown want f2) [
          | inl c ↦ inr (still want f2 c.0)
          | inr c ↦ inl (let z : length f0.0 ≡ 0 = refl in omega arith)
        ]
      ]
    ]

longer : {X : Type 0} (want : Line → Option X) (front : List X × At)
    → (length front.0 ≤ length (one_more want front).0) × (length (one_more want front).0 ≤ length front.0 + 1)
longer {X} want front = elim (grown want front) [
  | inl a ↦ let e : length (one_more want front).0 ≡ length front.0 = ap (λ (f : List X × At). length f.0) a.1 in (omega arith, omega arith)
  | inr e ↦ (omega arith, omega arith)
]

none_there : {X : Type 0} (want : Line → Option X) (at : At) → length (up_to_three want at).0 ≡ 0 → found want at ≡ None
none_there {X} want at h =
    let f0 : List X × At = ([], at) in
    let f1 : List X × At = one_more want f0 in
    let f2 : List X × At = one_more want f1 in
    elim (grown want f0) [
      | inl a ↦ a.0
      | inr a ↦ absurd (let b = longer want f1 in let c = longer want f2 in let z : length f0.0 ≡ 0 = refl in let d : length f1.0
          ≤ length f2.0 = b.0 in let e : length f2.0 ≤ length (one_more want f2).0 = c.0 in omega arith)
    ]

three_trace : {X : Type 0} (want : Line → Option X) (S : List X → State) (at : At) (r : Result ReportValue ℕ)
    → ((ws : List X) (x : Line) (w : X) → length ws < 3 → want x ≡ Some w → step (S ws) x ≡ Some (S (ws ++ w ∷ [])))
    → Trace r (S (up_to_three want at).0) (up_to_three want at).1 → Trace r (S []) at
three_trace {X} want S at r e t =
    let f0 : List X × At = ([], at) in
    let f1 : List X × At = one_more want f0 in
    let f2 : List X × At = one_more want f1 in
    let z : length f0.0 ≡ 0 = refl in
    let a : length f1.0 ≤ length f0.0 + 1 = (longer want f0).1 in
    let b : length f2.0 ≤ length f1.0 + 1 = (longer want f1).1 in
    more_trace want S f0 r (λ x w. e f0.0 x w (omega arith))
    (more_trace want S f1 r (λ x w. e f1.0 x w (omega arith))
    (more_trace want S f2 r (λ x w. e f2.0 x w (omega arith)) t))

-- Where none was found, the next line is none.
pub none_found : {X : Type 0} (want : Line → Option X) (at after : At) (x : Line) → found want at ≡ None → line_at at ≡ Some (x, after)
    → want x ≡ None
unfolding found
none_found {X} want at after x h l = by (want x) (ap (option_and_then (picked want)) (sym l) ∙ h)
  where
    by : (o : Option X) → option_map {U = X × At} (λ (v : X). (v, after)) o ≡ None → o ≡ None
    by None e = refl
    by (Some y) e = absurd cc

ended : {X : Type 0} (want : Line → Option X) (out : List X × At) (after : At) (x : Line) → Settled want out
    → line_at out.1 ≡ Some (x, after) → if_room (length out.0) (want x) ≡ None
ended want out after x (inl e) l =
    let b : nat_lt (length out.0) 3 ≡ false = grind (arith, nat_tests) in
    ap (λ (c : Bool). cond c (want x) None) b
ended want out after x (inr e) l = if_ended (length out.0) (want x) (none_found want out.1 after x e l)

-- ---- a plan

-- Reading the trampolines of a scheme goes line by line to where writes begin.
pub tramps_trace : (t : Turn) (s : Scheme) (at : At) (g : List Tramp × At → Result ReportValue ℕ)
    → ((ts : List Tramp) (after : At) → Trace (g (ts, after)) (writing t s ts []) after) → Trace (tramps_at s at >>= g) (tramping t s []) at
unfolding tramps_at
tramps_trace t s at g rest = by s rest
  where
    one : (s : Scheme) (first : Tramp × At) → ((ts : List Tramp) (after : At) → Trace (g (ts, after)) (writing t s ts []) after)
        → tramp_count s ≡ 1
        → Trace (g (first.0 ∷ [], first.1)) (tramped t s (first.0 ∷ [])) first.1
    one s first rest e = subst (λ (u : State). Trace (g (first.0 ∷ [], first.1)) u first.1)
        (sym (tramps_full t s (first.0 ∷ []) (omega arith))) (rest (first.0 ∷ []) first.1)

    two : (s : Scheme) (first : Tramp × At) → ((ts : List Tramp) (after : At) → Trace (g (ts, after)) (writing t s ts []) after)
        → tramp_count s ≡ 2
        → Trace ((wanted tramp_of first.1 >>= λ second. Ok (first.0 ∷ second.0 ∷ [], second.1)) >>= g) (tramped t s (first.0 ∷ [])) first.1
    two s first rest e =
        let k : Tramp → State = λ p. tramped t s (first.0 ∷ p ∷ []) in
        let h : Tramp × At → Result ReportValue ℕ = λ second. g (first.0 ∷ second.0 ∷ [], second.1) in
        let w : Trace (wanted tramp_of first.1 >>= h) (tramping t s (first.0 ∷ [])) first.1 =
        wanted_trace tramp_of k (tramping t s (first.0 ∷ [])) first.1 h refl (λ x after l. refl) (λ p after.
        subst (λ (u : State). Trace (g (first.0 ∷ p ∷ [], after)) u after) (sym (tramps_full t s (first.0 ∷ p ∷ []) (omega arith)))
        (rest (first.0 ∷ p ∷ []) after)) in
        let f : Tramp × At → Result (List Tramp × At) ℕ = λ second. Ok (first.0 ∷ second.0 ∷ [], second.1) in
        subst (λ (u : State). Trace ((wanted tramp_of first.1 >>= f) >>= g) u first.1) (sym (tramps_due t s (first.0 ∷ []) (omega arith)))
        (subst (λ (r : Result ReportValue ℕ). Trace r (tramping t s (first.0 ∷ [])) first.1) (assoc (wanted tramp_of first.1) f g) w)

    whole : (s : Scheme) → ((first : Tramp × At) → Trace
        (cond (tramp_count s == 1) (Ok (first.0 ∷ [], first.1))
        (wanted tramp_of first.1 >>= λ second. Ok (first.0 ∷ second.0 ∷ [], second.1)) >>= g) (tramped t s (first.0 ∷ [])) first.1)
        → Trace ((wanted tramp_of at >>= λ first. cond (tramp_count s == 1) (Ok (first.0 ∷ [], first.1))
        (wanted tramp_of first.1 >>= λ second. Ok (first.0 ∷ second.0 ∷ [], second.1))) >>= g) (tramping t s []) at
    whole s later =
        let f : Tramp × At → Result (List Tramp × At) ℕ = λ first.
        cond (tramp_count s == 1) (Ok (first.0 ∷ [], first.1))
        (wanted tramp_of first.1 >>= λ second. Ok (first.0 ∷ second.0 ∷ [], second.1)) in
        subst (λ (r : Result ReportValue ℕ). Trace r (tramping t s []) at) (assoc (wanted tramp_of at) f g)
        (wanted_trace tramp_of (λ p. tramped t s (p ∷ [])) (tramping t s []) at (λ first. f first >>= g) refl (λ x after l. refl)
        (λ p after. later (p, after)))

    by : (s : Scheme) → ((ts : List Tramp) (after : At) → Trace (g (ts, after)) (writing t s ts []) after)
        → Trace ((wanted tramp_of at >>= λ first. cond (tramp_count s == 1) (Ok (first.0 ∷ [], first.1))
        (wanted tramp_of first.1 >>= λ second. Ok (first.0 ∷ second.0 ∷ [], second.1))) >>= g) (tramping t s []) at
    by B1 rest = whole B1 (λ first. one B1 first rest refl)
    by B2 rest = whole B2 (λ first. one B2 first rest refl)
    by T1 rest = whole T1 (λ first. one T1 first rest refl)
    by T2 rest = whole T2 (λ first. two T2 first rest refl)
    by T3 rest = whole T3 (λ first. two T3 first rest refl)

-- Reading one to three writes goes line by line to where punned bytes may come.
pub writes_trace : (t : Turn) (s : Scheme) (ts : List Tramp) (at : At) (g : List WriteValue × At → Result ReportValue ℕ)
    → ((ws : List WriteValue) (after : At) → Trace (g (ws, after)) (punning t s ts ws []) after)
    → Trace (writes_at at >>= g) (writing t s ts []) at
unfolding writes_at
writes_trace t s ts at g rest = by (length (up_to_three write_of at).0 == 0) refl
  where
    refused : length (up_to_three write_of at).0 ≡ 0 → (x : Line) (after : At) → line_at at ≡ Some (x, after)
        → step (writing t s ts []) x ≡ None
    refused h x after l =
        ap (λ (o : Option WriteValue). option_or (option_map (λ (w : WriteValue). writing t s ts (w ∷ [])) o) None)
        (none_found write_of at after x (none_there write_of at h) l)

    by : (b : Bool) → (length (up_to_three write_of at).0 == 0) ≡ b
        → Trace (cond b (Err at.place) (Ok (up_to_three write_of at)) >>= g) (writing t s ts []) at
    by true h = stops (record {
      next = refused (let k : length (up_to_three write_of at).0 ≡ 0 = grind (arith, nat_tests) in k);
      over = λ f.
          absurd cc;
    }) refl
    by false h =
        let some : 0 < length (up_to_three write_of at).0 = grind (arith, nat_tests) in
        three_trace write_of (λ ws. writing t s ts ws) at (g (up_to_three write_of at)) (λ ws x w room e. write_more t s ts ws x w room e)
        (same_trace (g (up_to_three write_of at)) (writing t s ts (up_to_three write_of at).0)
        (punning t s ts (up_to_three write_of at).0 []) (up_to_three write_of at).1 refl refl
        (λ x after l. writes_end t s ts (up_to_three write_of at).0 x some
        (ended write_of (up_to_three write_of at) after x (settled write_of at) l))
        (rest (up_to_three write_of at).0 (up_to_three write_of at).1))

-- Reading at most three lines of punned bytes goes line by line to where the row is complete.
pub puns_trace : (t : Turn) (s : Scheme) (ts : List Tramp) (ws : List WriteValue) (at : At) (r : Result ReportValue ℕ)
    → Trace r (rowing t.head (rows_with t (patched (plan s ts ws (up_to_three pun_of at).0))) t.due) (up_to_three pun_of at).1
    → Trace r (punning t s ts ws []) at
puns_trace t s ts ws at r h =
    let out : List Pun × At = up_to_three pun_of at in
    three_trace pun_of (λ ps. punning t s ts ws ps) at r (λ ps x p room e. pun_more t s ts ws ps x p room e)
    (same_trace r (punning t s ts ws out.0) (rowing t.head (rows_with t (patched (plan s ts ws out.0))) t.due) out.1 refl refl
    (λ x after l. puns_end t s ts ws out.0 x (ended pun_of out after x (settled pun_of at) l)) h)
