use Rattle.std.proofs.Common.{◌≡◌, ℕ, List, ◌++◌, length, take, drop, sym, ap, ◌∙◌, subst, append_assoc, take-append-drop}
use Rattle.std.proofs.lemmas.List.{take_rest}
use Rattle.std.specs.Io.KnownBytes.{Appends}
use Rattle.std.proofs.KnownBytes.{Appends-trans, Appends-kept}
use Rattle.real_files.proofs.ListFronts.{front_taken}
use Rattle.real_files.proofs.streams.write_bytes.Goals as goal

-- what a write took goes from the rest to what is done
moved : (all done rest : List ℕ) (n : ℕ) → all ≡ done ++ rest → all ≡ (done ++ take n rest) ++ drop n rest
moved all done rest n e = e ∙ ap (λ l. done ++ l) (sym (take-append-drop n rest)) ∙ sym (append_assoc done (take n rest) (drop n rest))

pub loop-rest-preserved : goal.loop-rest-preserved
loop-rest-preserved g c =
    let (done, split, appended) = c.loop-rest.invariant in
    let rest = c.loop-rest.rest.now in
    let n = c.in-Ok.count in
    (done ++ take n rest, moved _ done rest n split ∙ ap (λ l. (done ++ take n rest) ++ l) (sym (take_rest rest n)), Appends-trans _ _ _ _ _ appended c.in-Ok.ensures.bytes)

pub returns-in-Ok-eq0 : goal.returns-in-Ok-eq0
returns-in-Ok-eq0 g c =
    let (done, split, appended) = c.loop-rest.invariant in
    let rest = c.loop-rest.rest.now in
    let n = c.in-Ok-eq0.field-0 in
    let front = done ++ take n rest in
    (length front, subst (Appends _ _) (sym (front_taken _ front (drop n rest) (moved _ done rest n split))) (Appends-trans _ _ _ _ _ appended c.in-Ok-eq0.ensures.bytes))

pub returns-in-Err : goal.returns-in-Err
returns-in-Err g c =
    let (done, split, appended) = c.loop-rest.invariant in
    (length done, subst (Appends _ _) (sym (front_taken _ done c.loop-rest.rest.now split)) (Appends-kept _ _ _ _ appended c.in-Err.ensures.bytes))
