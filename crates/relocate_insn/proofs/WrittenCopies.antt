-- A displacement, a copy and a load as they are written.
use Rattle.std.proofs.Common.{◌≡◌, ℕ, ◌+◌, ◌-◌, ◌%◌, ◌^◌, ◌<◌, true, false, List, [], ◌∷◌, ◌++◌, length, option_to_list, sym, ap, ◌∙◌, arith}
use Rattle.std.proofs.lemmas.Bool.{cond-true, cond-false}
use Rattle.std.proofs.lemmas.List.{append-nil}
use Rattle.length_decode.specs.Spelling.{Fields, spelling, parts_of}
use Rattle.insn_form.specs.Classes.{has_rip, modrm_of}
use Rattle.relocate_insn.specs.Pieces.{four}
use Rattle.relocate_insn.specs.Relocating.{moved_disp, copy_of, load_modrm, load_of}
use Rattle.insn_form.proofs.SpellingSlices.{head, split}
use Rattle.insn_form.specs.Moved.{rel_bytes, named, moved_fields}
use Rattle.relocate_insn.proofs.InstructionParts.{grown}

-- the low 32 bits of a target give the same displacement
rel_cut : (next target : ℕ) → next < 2 ^ 31 → (target % 2 ^ 32 + 2 ^ 32 - next) % 2 ^ 32 ≡ (target + 2 ^ 32 - next) % 2 ^ 32
rel_cut next target h = omega arith

-- what is written for a RIP displacement, from the low 32 bits of the address that it names, is the moved displacement
pub moved_rip : (f : Fields) (old new : List ℕ) (next after n : ℕ) → after < 2 ^ 31 → has_rip (parts_of f) ≡ true → n ≡ named f next → new ≡ old ++ rel_bytes after (n % 2 ^ 32) → new ≡ old ++ moved_disp f next after
moved_rip f old new next after n l h e w =
    w ∙ ap (λ (z : ℕ). old ++ four z) (rel_cut after n l) ∙ ap (λ (z : ℕ). old ++ rel_bytes after z) e ∙ ap (λ (z : List ℕ). old ++ z) (sym (cond-true (has_rip (parts_of f)) (rel_bytes after (named f next)) f.disp h))

-- where no operand is relative to RIP, the instruction's own displacement is the moved one
pub moved_plain : (f : Fields) (old new disp : List ℕ) (next after : ℕ) → has_rip (parts_of f) ≡ false → disp ≡ f.disp → new ≡ old ++ disp → new ≡ old ++ moved_disp f next after
moved_plain f old new disp next after h e w = w ∙ ap (λ (z : List ℕ). old ++ z) (e ∙ sym (cond-false (has_rip (parts_of f)) (rel_bytes after (named f next)) f.disp h))

-- the head, the moved displacement and the immediate, written one behind the other, are the copy
pub copied : (f : Fields) (old front rest x y z : List ℕ) (next after place : ℕ) → after ≡ place + length (spelling f) → front ≡ head f → rest ≡ f.imm
    → x ≡ old ++ front → y ≡ x ++ moved_disp f next after → z ≡ y ++ rest → z ≡ old ++ copy_of f next place
copied f old front rest x y z next after place a h t ex ey ez =
    let g = moved_fields f next (place + length (spelling f)) in
    let w = grown old front (moved_disp f next after ++ rest) x z ex (grown x (moved_disp f next after) rest y z ey ez) in
    w ∙ (λ j. old ++ (h j ++ (moved_disp f next (a j) ++ t j))) ∙ ap (λ (s : List ℕ). old ++ s) (sym (split g))

-- the prefixes, opcode and ModRM, SIB and the moved displacement, written one behind the other, are the load
pub loaded : (f : Fields) (old prefixes sib w x y z : List ℕ) (m next after : ℕ) → prefixes ≡ (load_of f next after).prefixes → m ≡ load_modrm (modrm_of (parts_of f)) → sib ≡ option_to_list f.sib
    → w ≡ old ++ prefixes → x ≡ w ++ (0x8b ∷ m ∷ []) → y ≡ x ++ sib → z ≡ y ++ moved_disp f next after → z ≡ old ++ spelling (load_of f next after)
loaded f old prefixes sib w x y z m next after ep em es ew ex ey ez =
    let d = moved_disp f next after in
    let g = grown old prefixes ((0x8b ∷ m ∷ []) ++ (sib ++ d)) w z ew (grown w (0x8b ∷ m ∷ []) (sib ++ d) x z ex (grown x sib d y z ey ez)) in
    let n = sym (append-nil d) in
    g ∙ (λ j. old ++ (ep j ++ (0x8b ∷ em j ∷ (es j ++ n j))))
