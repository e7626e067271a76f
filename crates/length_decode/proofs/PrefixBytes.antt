-- The prefix bytes at the front, read one after another.
use Rattle.std.proofs.Common.{◌≡◌, ℕ, ◌+◌, Bool, true, false, ◌||◌, cond, eqb, List, [], ◌∷◌, ◌++◌, length, drop, refl, sym, ap, ◌∙◌, arith, append_assoc, append-nil, length-append, ◌<◌, get_or}
use Rattle.std.proofs.lemmas.List.{at_drop_more}
use Rattle.std.specs.List.{list_any}
use Rattle.length_decode.specs.declared.prefix_bytes.Lead.{Lead}
use Rattle.length_decode.specs.Prefix.{is_rex, is_prefix, has, prefixes_of, rex_of, lead_of, prefixes_after, lead_after}
use Rattle.length_decode.specs.Parse.{prefix_run}

any_push : (test : ℕ → Bool) (ps : List ℕ) (p : ℕ) → list_any test (ps ++ (p ∷ [])) ≡ (list_any test ps || test p)
any_push test [] p = elim (test p) as (λ b. (b || false) ≡ b) [ true ↦ refl | false ↦ refl ]
any_push test (x ∷ ps) p = elim (test x) as (λ b. (b || list_any test (ps ++ (p ∷ []))) ≡ ((b || list_any test ps) || test p)) [ true ↦ refl | false ↦ any_push test ps p ]

rex_push : (ps : List ℕ) (p : ℕ) → rex_of (ps ++ (p ∷ [])) ≡ cond (is_rex p) p 0
rex_push [] p = refl
rex_push (q ∷ []) p = refl
rex_push (q ∷ (r ∷ ps)) p = rex_push (r ∷ ps) p

prefixes_push : (ps : List ℕ) (p : ℕ) → prefixes_of (ps ++ (p ∷ [])) ≡ prefixes_after (prefixes_of ps) p
prefixes_push ps p =
    let h : (b : ℕ) → has b (ps ++ (p ∷ [])) ≡ (has b ps || eqb p b) = λ b. any_push (λ x. eqb x b) ps p in
    λ i. record { lock = h 0xf0 i; repne = h 0xf2 i; rep = h 0xf3 i; opsize = h 0x66 i; addrsize = h 0x67 i; fs = h 0x64 i; gs = h 0x65 i }

lead_push : (ps : List ℕ) (p : ℕ) → lead_of (ps ++ (p ∷ [])) ≡ lead_after (lead_of ps) p
lead_push ps p =
    let c : length (ps ++ (p ∷ [])) ≡ length ps + 1 = omega (arith, length-append ps (p ∷ [])) in
    λ i. record { count = c i; prefixes = prefixes_push ps p i; rex = rex_push ps p i; any_rex = any_push is_rex ps p i }

-- what the prefix bytes say, going over the bytes
abbrev pub gather : Lead → List ℕ → Lead
gather lead [] = lead
gather lead (b ∷ bs) = cond (is_prefix b) (gather (lead_after lead b) bs) lead

gather_run : (ps bs : List ℕ) → gather (lead_of ps) bs ≡ lead_of (ps ++ prefix_run bs)
gather_run ps [] = ap lead_of (sym (append-nil ps))
gather_run ps (b ∷ bs) =
    elim (is_prefix b) as (λ t. cond t (gather (lead_after (lead_of ps) b) bs) (lead_of ps) ≡ lead_of (ps ++ cond t (b ∷ prefix_run bs) [])) [
      | true ↦ ap (λ l. gather l bs) (sym (lead_push ps b)) ∙ gather_run (ps ++ (b ∷ [])) bs ∙ ap lead_of (append_assoc ps (b ∷ []) (prefix_run bs))
      | false ↦ ap lead_of (sym (append-nil ps))
    ]

-- gathered from the front, the prefix bytes say what they say together
pub gathered : (bs : List ℕ) → gather (lead_of []) bs ≡ lead_of (prefix_run bs)
gathered bs = gather_run [] bs

-- at a byte that is no prefix the prefix bytes end
pub gather_stop : (lead : Lead) (bs : List ℕ) (i : ℕ) → i < length bs → is_prefix (get_or bs i 0) ≡ false → lead ≡ gather lead (drop i bs)
gather_stop lead bs i lt e =
    let more : gather lead (drop i bs) ≡ cond (is_prefix (get_or bs i 0)) (gather (lead_after lead (get_or bs i 0)) (drop (i + 1) bs)) lead = at_drop_more (gather lead) bs i 0 lt in
    sym (more ∙ ap (λ t. cond t (gather (lead_after lead (get_or bs i 0)) (drop (i + 1) bs)) lead) e)
