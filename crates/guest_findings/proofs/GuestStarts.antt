-- No start of a guest is refused.
use Rattle.std.proofs.Common.{◌≡◌, ℕ, ◌+◌, true, List, [], ◌∷◌, length, Option, None, refl, ap, ◌∙◌}
use Rattle.std.proofs.lemmas.Bool.{cond-true}
use Rattle.elf_read.specs.Code.{is_exec}
use Rattle.start_entries.specs.declared.refusal.StartError.{StartError}
use Rattle.start_entries.specs.Refusals.{refusal_of, or_later, first_refusal}
use Rattle.guest_gen.specs.declared.instruction.GuestInsn.{GuestInsn}
use Rattle.guest_gen.specs.Files.{guest_file}
use Rattle.guest_gen.specs.Instructions.{text_start, spelled}
use Rattle.guest_gen.specs.Laws.{AreCoded}
use Rattle.guest_gen.specs.Texts.{starts_from, guest_insns}
use Rattle.guest_gen.proofs.AcceptedGuests.{guests_accepted}
use Rattle.guest_gen.proofs.CodedInstructions.{guests_coded}
use Rattle.guest_findings.specs.GuestLaws.{GuestsHaveStarts}

-- a start that can be executed
one_stands : (file : List ℕ) (a : ℕ) → is_exec file a ≡ true → refusal_of file a ≡ None
unfolding refusal_of
one_stands file a x = cond-true (is_exec file a) _ _ x

-- no refusal, and none later
none_later : (first later : Option StartError) → first ≡ None → later ≡ None → or_later first later ≡ None
none_later first later e f = ap (λ (z : Option StartError). or_later z later) e ∙ f

-- instructions one after the other
all_stand : (file : List ℕ) (a : ℕ) (is : List GuestInsn) → AreCoded file a is → first_refusal file (starts_from a is) ≡ None
all_stand file a [] h = refl
all_stand file a (i ∷ is) h =
    let next = a + length (spelled i a) in
    none_later (refusal_of file a) (first_refusal file (starts_from next is)) (one_stands file a h.0.exec) (all_stand file next is h.1)

-- the starts of each guest
pub guest_starts_stand : GuestsHaveStarts
guest_starts_stand seed n some most = record {
  accepted = guests_accepted seed n most;
  none = all_stand (guest_file seed n) text_start (guest_insns seed n) (guests_coded seed n most);
}
