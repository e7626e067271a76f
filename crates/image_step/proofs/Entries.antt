-- Lists of nineteen, and values made of them.
use Rattle.std.proofs.Common.{◌≡◌, ℕ, ◌+◌, ◌-◌, ◌<◌, List, [], ◌∷◌, ◌++◌, length, get_or, take, drop, refl, ap, sym, subst, ◌∙◌, arith, Option, None}
use Rattle.std.proofs.lemmas.List.{drop_more, length-drop, take-append-drop}
use Rattle.std.proofs.Math.Seq.{drop-cons, drop-length, take-length}
use Rattle.std.proofs.lemmas.Grind.{get_or_default_zero}
use Rattle.cpu_state.specs.declared.script_regions.Region.{Region}
use Rattle.cpu_state.specs.declared.world.Question.{Question}
use Rattle.cpu_state.specs.declared.world.MemWrite.{MemWrite}
use Rattle.image_step.specs.Values.{EntryValue, ScriptValue}

-- A list of nineteen is its first sixteen and three more.
pub nineteen : {X : Type 0} (xs : List X) (d : X) → length xs ≡ 19 → take 16 xs ++ (get_or xs 16 d ∷ get_or xs 17 d ∷ get_or xs 18 d ∷ []) ≡ xs
nineteen {X} xs d h =
    let e16 : drop 16 xs ≡ get_or xs 16 d ∷ drop 17 xs = drop-cons xs 16 d (omega arith) in
    let e17 : drop 17 xs ≡ get_or xs 17 d ∷ drop 18 xs = drop-cons xs 17 d (omega arith) in
    let e18 : drop 18 xs ≡ get_or xs 18 d ∷ drop 19 xs = drop-cons xs 18 d (omega arith) in
    let e19 : drop 19 xs ≡ [] = subst (λ (n : ℕ). drop n xs ≡ []) h (drop-length xs) in
    let whole : drop 16 xs ≡ get_or xs 16 d ∷ get_or xs 17 d ∷ get_or xs 18 d ∷ [] = rw (e16, e17, e18, e19) refl in
    ap (λ (l : List X). take 16 xs ++ l) (sym whole) ∙ take-append-drop 16 xs

-- A list of nineteen by its parts.
pub nineteen_of : (vs regs : List ℕ) (a b c : ℕ) → length vs ≡ 19 → regs ≡ take 16 vs → a ≡ get_or vs 16 0 → b ≡ get_or vs 17 0 → c ≡ get_or vs 18 0
    → vs ≡ regs ++ (a ∷ b ∷ c ∷ [])
nineteen_of vs regs a b c h e p q r =
    sym (ap (λ (l : List ℕ). l ++ (a ∷ b ∷ c ∷ [])) e ∙ (ap (λ (n : ℕ). take 16 vs ++ (n ∷ b ∷ c ∷ [])) p
    ∙ (ap (λ (n : ℕ). take 16 vs ++ (get_or vs 16 0 ∷ n ∷ c ∷ [])) q ∙ (ap (λ (n : ℕ). take 16 vs ++ (get_or vs 16 0 ∷ get_or vs 17 0 ∷ n ∷ [])) r
    ∙ nineteen vs 0 h))))

-- A script's value by its parts.
pub value_of_parts : (vs regs : List ℕ) (a b c : ℕ) (rs qs : List Region) (es fs : List EntryValue) → length vs ≡ 19 → regs ≡ take 16 vs
    → a ≡ get_or vs 16 a → b ≡ get_or vs 17 b → c ≡ get_or vs 18 c → rs ≡ qs → es ≡ fs
    → ◌≡◌ {A = ScriptValue} (record { values = vs; regions = qs; entries = fs }) (record { values = regs ++ (a ∷ b ∷ c ∷ []); regions = rs; entries = es })
value_of_parts vs regs a b c rs qs es fs h e p q r s t =
    let pa : a ≡ get_or vs 16 0 = p ∙ get_or_default_zero vs 16 a (omega arith) in
    let pb : b ≡ get_or vs 17 0 = q ∙ get_or_default_zero vs 17 b (omega arith) in
    let pc : c ≡ get_or vs 18 0 = r ∙ get_or_default_zero vs 18 c (omega arith) in
    let same : vs ≡ regs ++ (a ∷ b ∷ c ∷ []) = nineteen_of vs regs a b c h e pa pb pc in
    let regions : qs ≡ rs = sym s in
    let entries : fs ≡ es = sym t in
    λ i. record { values = same i; regions = regions i; entries = entries i }

-- An entry that ended, by its parts.
pub entry_of_parts : (q : Question) (given regs : List (Option ℕ)) (ws us : List MemWrite) → length given ≡ 19 → regs ≡ take 16 given → us ≡ ws
    → ◌≡◌ {A = EntryValue} (record { question = q; given = regs ++ (get_or given 16 None ∷ get_or given 17 None ∷ get_or given 18 None ∷ []); writes = us })
    (record { question = q; given = given; writes = ws })
entry_of_parts q given regs ws us h e w =
    let same : regs ++ (get_or given 16 None ∷ get_or given 17 None ∷ get_or given 18 None ∷ []) ≡ given =
    ap (λ (l : List (Option ℕ)). l ++ (get_or given 16 None ∷ get_or given 17 None ∷ get_or given 18 None ∷ [])) e ∙ nineteen given None h in
    λ i. record { question = q; given = same i; writes = w i }

-- All from a place on.
pub all_from : {X : Type 0} (xs : List X) (k : ℕ) → take (length xs - k) (drop k xs) ≡ drop k xs
all_from {X} xs k =
    let e : length (drop k xs) ≡ length xs - k = length-drop k xs in
    ap (λ (n : ℕ). take n (drop k xs)) (sym e) ∙ take-length (drop k xs)

-- What is left begins with the element at its place.
pub left_from : {X : Type 0} (xs : List X) (i : ℕ) (x : X) → i < length xs → x ≡ get_or xs i x → drop i xs ≡ x ∷ drop (i + 1) xs
left_from {X} xs i x h e = drop_more xs i x h ∙ ap (λ (y : X). y ∷ drop (i + 1) xs) (sym e)
