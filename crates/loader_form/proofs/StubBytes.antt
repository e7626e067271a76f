-- The stub's bytes as they are put together.
use Rattle.std.proofs.Common.{◌≡◌, ℕ, ◌+◌, ◌-◌, ◌*◌, ◌/◌, ◌<◌, ◌≤◌, List, ◌++◌, length, map, take, drop, get_or, replicate, ap, ◌∙◌, subst, sym, arith, append_assoc}
use Rattle.std.specs.Int.{w32, w64, to_le_bytes}
use Rattle.std.specs.List.{AllByRecursion}
use Rattle.std.proofs.lemmas.List.{take_all, drop_more}
use Rattle.cpu_state.specs.Bytes.{bytes_of}
use Rattle.cpu_step.proofs.LowBytes.{bytes_from, low_bytes}
use Rattle.elf_emit.specs.declared.runs.Run.{Run as FileRun}
use Rattle.loader_form.specs.Stub.{Stub, path, record_of, records_of, stub_code}
use Rattle.loader_form.specs.Laid.{run_of, RecordFits, stub_bytes}
use Rattle.loader_form.proofs.StubLengths.{stub_length}

-- four bytes of a number of 32 bits, little endian, are its bytes of the definition
pub four_bytes : (v : ℕ) → to_le_bytes w32 v ≡ bytes_of 4 v
four_bytes v = let e : v / 1 ≡ v = omega arith in bytes_from 0 4 4 v (omega arith) ∙ ap (bytes_of 4) e

-- eight bytes of a number of 64 bits, little endian, are its bytes of the definition
pub eight_bytes : (v : ℕ) → to_le_bytes w64 v ≡ bytes_of 8 v
eight_bytes v = low_bytes 8 v (omega arith)

-- zeros after bytes
filled_is : (n : ℕ) (xs ys : List ℕ) → ys ≡ take n xs ++ replicate (n - length xs) 0 → length xs ≤ n → ys ≡ xs ++ replicate (n - length xs) 0
filled_is n xs ys e l = e ∙ ap (λ (z : List ℕ). z ++ replicate (n - length xs) 0) (take_all n xs l)

-- code, zeros, text and records
joined : (code zs text records : List ℕ) → ((code ++ zs) ++ text) ++ records ≡ code ++ (zs ++ (text ++ records))
joined code zs text records = append_assoc (code ++ zs) text records ∙ append_assoc code zs (text ++ records)

-- code, zeros up to 4,096 bytes, path, records and zeros up to a length are the stub's bytes and zeros
pub stub_made : (b : Stub) (c0 c1 c2 c3 c4 : List ℕ) (len : ℕ) → c0 ≡ stub_code b → c1 ≡ take 4096 c0 ++ replicate (4096 - length c0) 0 → c2 ≡ c1 ++ path → c3 ≡ c2 ++ records_of b.runs
    → c4 ≡ take len c3 ++ replicate (len - length c3) 0 → 4112 + 16 * length b.runs ≤ len → c4 ≡ stub_bytes b ++ replicate (len - length (stub_bytes b)) 0
stub_made b c0 c1 c2 c3 c4 len e0 e1 e2 e3 e4 l =
    let n : length c0 ≡ 276 = ap length e0 in
    let f1 : c1 ≡ stub_code b ++ replicate (4096 - 276) 0 = filled_is 4096 c0 c1 e1 (omega (arith, n)) ∙ (λ i. e0 i ++ replicate (4096 - n i) 0) in
    let f3 : c3 ≡ stub_bytes b = e3 ∙ ap (λ (z : List ℕ). z ++ records_of b.runs) (e2 ∙ ap (λ (z : List ℕ). z ++ path) f1)
    ∙ joined (stub_code b) (replicate (4096 - 276) 0) path (records_of b.runs) in
    let m = stub_length b in
    let k : length c3 ≤ len = (let q = ap length f3 in omega (arith, q, m, l)) in
    filled_is len c3 c4 e4 k ∙ (λ i. f3 i ++ replicate (len - length (f3 i)) 0)

-- where the records of some runs fit, those of all but the first do
pub fits_more : (at : ℕ) (rs : List FileRun) (i : ℕ) (d : FileRun) → i < length rs → AllByRecursion (RecordFits at) (drop i rs) → AllByRecursion (RecordFits at) (drop (i + 1) rs)
fits_more at rs i d l h = (subst (λ (z : List FileRun). AllByRecursion (RecordFits at) z) (drop_more rs i d l) h).1

-- with the record of the first run written, the records of the others are what is left
pub records_more : (at : ℕ) (rs : List FileRun) (i : ℕ) (d : FileRun) (old new out : List ℕ) → i < length rs → new ≡ old ++ record_of (run_of at (get_or rs i d))
    → old ++ records_of (map (run_of at) (drop i rs)) ≡ out → new ++ records_of (map (run_of at) (drop (i + 1) rs)) ≡ out
records_more at rs i d old new out l e h =
    let rest : List ℕ = records_of (map (run_of at) (drop (i + 1) rs)) in
    ap (λ (z : List ℕ). z ++ rest) e ∙ append_assoc old (record_of (run_of at (get_or rs i d))) rest
    ∙ sym (ap (λ (z : List FileRun). old ++ records_of (map (run_of at) z)) (drop_more rs i d l)) ∙ h
