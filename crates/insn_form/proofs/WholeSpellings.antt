-- Bytes that are as long as the instruction at their front.
use Rattle.std.proofs.Common.{◌≡◌, ℕ, List, [], ◌∷◌, ◌++◌, length, refl, sym, ap, ◌∙◌, subst, arith}
use Rattle.std.proofs.lemmas.Grind.{common_steps}
use Rattle.std.proofs.lemmas.List.{append-nil}
use Rattle.length_decode.specs.declared.instruction_parts.Parts.{Parts}
use Rattle.length_decode.specs.Spelling.{Fields, IsInstruction, IsSpelling, BeginsWith, spelling, parts_of}

no_rest : (front rest bytes : List ℕ) → bytes ≡ front ++ rest → length front ≡ length bytes → front ≡ bytes
no_rest front [] bytes j l = grind (arith, common_steps)
no_rest front (b ∷ rest) bytes j l = absurd (grind (arith, common_steps))

-- bytes that are as long as the instruction at their front are its spelling
pub whole : (bytes : List ℕ) (parts : Parts) → BeginsWith bytes parts → parts.len ≡ length bytes → IsSpelling bytes parts
whole bytes parts b l =
    let s = b.spelled in
    let n : length b.front ≡ length bytes = ap length s.spelled ∙ sym (ap (λ (p : Parts). p.len) s.divided) ∙ l in
    subst (λ z. IsSpelling z parts) (no_rest b.front b.rest bytes b.joined n) s

-- an instruction's spelling begins with its parts
pub begins_whole : (bytes : List ℕ) (f : Fields) → IsInstruction f → bytes ≡ spelling f → BeginsWith bytes (parts_of f)
begins_whole bytes f i e = record { front = bytes; rest = []; joined = sym (append-nil bytes); spelled = record { fields = f; is = i; spelled = e; divided = refl } }
