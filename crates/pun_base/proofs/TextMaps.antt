-- A map from texts to byte lists changes at one text.
use Rattle.std.proofs.Common.{◌≡◌, ℕ, Bool, true, false, cond, List, [], ◌∷◌, ◌++◌, Option, Some, None, Result, Ok, Err, OnOk, OnErr, is_ok, refl, sym, ap, ◌∙◌, nat_cmp, String, Vec, string_bytes, map}
use Rattle.std.proofs.Math.Path.{fun_ext}
use Rattle.std.proofs.lemmas.Map.Text.{btree_map_updates_text, is_eq-slice_cmp}
use Rattle.std.specs.Cmp.Lexicographic.{slice_cmp}
use Rattle.std.specs.Map.{lookup}
use Rattle.std.specs.Option.{option_map}
use Rattle.std.specs.Ordering.{is_eq}
use Rattle.std.specs.Str.{bytes_eq}
use Rattle.std.specs.String.{string_cmp}
use Rattle.std.specs.BTreeMap.{BTreeMap, get_by_text, UpdatesBy, is_at}
use Rattle.std.specs.declared.alloc.AllocError.{AllocError}
use Rattle.pun_base.specs.Shown.{Files, with_file}
use Rattle.pun_base.specs.MemDesk.{held_by}
use Rattle.pun_base.specs.Texts.{files_in}
use Rattle.pun_base.proofs.HeldFiles.{with_file-kept}

-- what the map holds at each text
abbrev held_in : {Y Z : Type 0} → BTreeMap (String Y) (Vec ℕ Z) → Files
held_in m name = option_map (λ v. v.items) (get_by_text m name)

chosen : {Z : Type 0} (b : Bool) (v : Vec ℕ Z) (o : Option (Vec ℕ Z))
    → option_map (λ (x : Vec ℕ Z). x.items) (cond b (Some v) o) ≡ cond b (Some v.items) (option_map (λ (x : Vec ℕ Z). x.items) o)
chosen true v o = refl
chosen false v o = refl

updated : {Y Z : Type 0} (name : List ℕ) (m n : BTreeMap (String Y) (Vec ℕ Z)) (v : Vec ℕ Z)
    → UpdatesBy string_cmp (λ k. slice_cmp nat_cmp name (string_bytes k)) m n (Some v)
    → held_in n ≡ with_file (held_in m) name v.items
updated {Z = Z} name m n v u = fun_ext (λ other.
    ap (option_map (λ (x : Vec ℕ Z). x.items)) (btree_map_updates_text name m n (Some v) u other)
    ∙ chosen (bytes_eq name other) v (get_by_text m other))

step : {Z : Type 0} (b c : Bool) (v : Vec ℕ Z) (x : Option (List ℕ)) (o : Option (Vec ℕ Z)) → b ≡ c → x ≡ option_map (λ (y : Vec ℕ Z). y.items) o
    → cond b (Some v.items) x ≡ option_map (λ (y : Vec ℕ Z). y.items) (cond c (Some v) o)
step b true v x o e f = ap (λ d. cond d (Some v.items) x) e
step b false v x o e f = ap (λ d. cond d (Some v.items) x) e ∙ f

looked_up : {Y Z : Type 0} (name : List ℕ) (es : List (String Y × Vec ℕ Z))
    → held_by (map (λ (p : String Y × Vec ℕ Z). (string_bytes p.0, p.1.items)) es) name
    ≡ option_map (λ (v : Vec ℕ Z). v.items) (lookup (is_at (λ (k : String Y). slice_cmp nat_cmp name (string_bytes k))) es)
looked_up name [] = refl
looked_up {Y = Y} {Z = Z} name (e ∷ es) =
    step (bytes_eq name (string_bytes e.0)) (is_eq (slice_cmp nat_cmp name (string_bytes e.0))) e.1
    (held_by (map (λ (p : String Y × Vec ℕ Z). (string_bytes p.0, p.1.items)) es) name)
    (lookup (is_at (λ (k : String Y). slice_cmp nat_cmp name (string_bytes k))) es)
    (sym (is_eq-slice_cmp name (string_bytes e.0))) (looked_up name es)

-- the list that a caller sees holds what the map does
held_by-files_in : {Y Z : Type 0} (m : BTreeMap (String Y) (Vec ℕ Z)) → held_by (files_in m) ≡ held_in m
held_by-files_in m = fun_ext (λ name. looked_up name m.entries)

-- after an update the name holds the value's bytes, and each other name what it held
pub held_by-updated : {Y Z : Type 0} (name : List ℕ) (m n : BTreeMap (String Y) (Vec ℕ Z)) (v : Vec ℕ Z)
    → UpdatesBy string_cmp (λ k. slice_cmp nat_cmp name (string_bytes k)) m n (Some v)
    → held_by (files_in n) ≡ with_file (held_by (files_in m)) name v.items
held_by-updated name m n v u =
    held_by-files_in n ∙ updated name m n v u ∙ ap (λ (files : Files). with_file files name v.items) (sym (held_by-files_in m))

held_there : {Y Z : Type 0} (name : List ℕ) (m : BTreeMap (String Y) (Vec ℕ Z)) (v : Vec ℕ Z)
    → Some v ≡ get_by_text m name → held_by (files_in m) name ≡ Some v.items
held_there {Z = Z} name m v g = looked_up name m.entries ∙ ap (option_map (λ (x : Vec ℕ Z). x.items)) (sym g)

-- where bytes were appended to the value of a name, the name holds what it held and these
pub held_by-appended : {Y Z : Type 0} (r : Result (Unit {0}) AllocError) (name bytes : List ℕ) (m n : BTreeMap (String Y) (Vec ℕ Z)) (v w : Vec ℕ Z)
    → UpdatesBy string_cmp (λ k. slice_cmp nat_cmp name (string_bytes k)) m n (Some w) → Some v ≡ get_by_text m name
    → w.items ≡ cond (is_ok r) (v.items ++ bytes) v.items
    → OnOk r ((was : List ℕ) → held_by (files_in m) name ≡ Some was → held_by (files_in n) ≡ with_file (held_by (files_in m)) name (was ++ bytes))
held_by-appended (Ok x) name bytes m n v w u g e = λ was h.
    let q = sym (held_there name m v g) ∙ h in let p : v.items ≡ was = cc in
    held_by-updated name m n w u ∙ ap (with_file (held_by (files_in m)) name) (e ∙ ap (λ xs. xs ++ bytes) p)
held_by-appended (Err x) name bytes m n v w u g e = tt

-- where there was no memory to append them, each name holds what it held
pub held_by-unappended : {Y Z : Type 0} (r : Result (Unit {0}) AllocError) (name bytes : List ℕ) (m n : BTreeMap (String Y) (Vec ℕ Z)) (v w : Vec ℕ Z)
    → UpdatesBy string_cmp (λ k. slice_cmp nat_cmp name (string_bytes k)) m n (Some w) → Some v ≡ get_by_text m name
    → w.items ≡ cond (is_ok r) (v.items ++ bytes) v.items
    → OnErr r (held_by (files_in n) ≡ held_by (files_in m))
held_by-unappended (Ok x) name bytes m n v w u g e = tt
held_by-unappended (Err x) name bytes m n v w u g e =
    held_by-updated name m n w u ∙ with_file-kept (held_by (files_in m)) name w.items (held_there name m v g ∙ ap Some (sym e))

-- the value that was found has the bytes of the name
pub held_by-found : {Y Z : Type 0} (name : List ℕ) (m : BTreeMap (String Y) (Vec ℕ Z)) (v : Vec ℕ Z)
    → Some v ≡ get_by_text m name → Some v.items ≡ held_by (files_in m) name
held_by-found name m v g = sym (held_there name m v g)

-- a name without a value holds nothing
pub held_by-missing : {Y Z : Type 0} (name : List ℕ) (m : BTreeMap (String Y) (Vec ℕ Z))
    → None ≡ get_by_text m name → None ≡ held_by (files_in m) name
held_by-missing {Z = Z} name m g = ap (option_map (λ (x : Vec ℕ Z). x.items)) g ∙ sym (looked_up name m.entries)
