-- The handler that is entered at a site, returns, and is entered again.
use Rattle.std.proofs.Common.{◌≡◌, ◌⊎◌, inl, inr, ℕ, [], Option, None, refl, sym, ap, ◌∙◌, arith}
use Rattle.std.proofs.lemmas.Bool.{cases_Bool, true≢false}
use Rattle.pun_base.specs.Memory.{Cell, Bytes, or_else, joined}
use Rattle.cpu_state.specs.Bytes.{Stands}
use Rattle.length_decode.specs.Spelling.{spelling}
use Rattle.insn_form.specs.Classes.{template}
use Rattle.insn_form.specs.Filling.{filled}
use Rattle.insn_form.specs.Meaning.{effect}
use Rattle.insn_form.specs.Step.{Step}
use Rattle.relocate_insn.specs.Worked.{is_between}
use Rattle.relocate_insn.proofs.WorkedStates.{small_registers}
use Rattle.trampoline.specs.Worked.{mov_sixty}
use Rattle.start_entries.specs.Rows.{mov_nop_nop}
use Rattle.image_runs.specs.Quiet.{IsStartPair}
use Rattle.sound_images.specs.Worked.{nop, original_image, patched_image, entries, state_at}
use Rattle.image_runs.specs.Deliveries.{Fits, IsQuietWith}
use Rattle.sound_images.specs.WorkedDelivery.{stack, enter, leave, at_first, framed, framed_again, interrupted, HandlerIsQuiet}
use Rattle.sound_images.proofs.WorkedImage.{inside, between, spread_out, nowhere_else, sixty_is, nop_is, entry_pair}

-- the stack lies beside both images
stack_apart : (x : ℕ) → (joined original_image patched_image x ≡ None) ⊎ (stack x ≡ None)
stack_apart x = elim (cases_Bool (is_between 0x600000 0x601000 x)) [
  | inl h ↦ (let q = inside 0x600000 0x601000 x h in
      inl (ap (λ (o : Option Cell). or_else o (patched_image x)) (spread_out 0x401000 0x401007 5 mov_nop_nop x (λ a b. omega (arith, q.0, b)))
      ∙ nowhere_else x (λ a b. omega (arith, q.0, b)) (λ a b. omega (arith, q.0, b))))
  | inr h ↦ inr (spread_out 0x600000 0x601000 6 [] x (λ a b. true≢false (sym (between 0x600000 0x601000 x a b) ∙ h)))
]

-- the two states, with a stack beside both images, are a start pair
pair : IsStartPair original_image patched_image 0x401000 (state_at at_first 7 0x401000) (state_at (joined patched_image stack) 7 0x401000)
pair = entry_pair at_first (joined patched_image stack) stack stack_apart refl refl

-- entering the handler fits at the first state
enters_first : Fits entries (state_at at_first 7 0x401000) enter
enters_first = record { here = refl; there = refl; core = record { count = refl; small = small_registers }; held = refl; apart = refl }

-- entering the handler fits at the site once it has returned
enters_again : Fits entries (state_at framed 7 0x401000) enter
enters_again = record { here = refl; there = refl; core = record { count = refl; small = small_registers }; held = refl; apart = refl }

-- leaving the handler fits in any memory
leaves : (m : Bytes) → Fits entries (state_at m 7 0x401006) leave
leaves m = record { here = refl; there = refl; core = record { count = refl; small = small_registers }; held = refl; apart = refl }

-- the run in which the handler is entered twice is quiet
quiet : IsQuietWith Step entries (state_at at_first 7 0x401000) interrupted
unfolding template filled effect
quiet = (
  (
    enters_first,
    (
      (refl, (nop, record { at = record { spelled = nop_is; here = (refl, refl, tt) }; apart = refl; acts = refl })),
      (
        leaves framed,
        (
          enters_again,
          (
            (refl, (nop, record { at = record { spelled = nop_is; here = (refl, refl, tt) }; apart = refl; acts = refl })),
            (
              leaves framed_again,
              (
                (refl, (mov_sixty, record { at = record { spelled = sixty_is; here = stands }; apart = refl; acts = refl })),
                tt,
              ),
            ),
          ),
        ),
      ),
    ),
  ),
  refl,
)
  where
    stands : Stands framed_again 0x401000 (spelling mov_sixty)
    stands = (refl, refl, (refl, refl, (refl, refl, (refl, refl, (refl, refl, tt)))))

-- the worked run with deliveries meets the premises of the headline
pub handler_quiet : HandlerIsQuiet
handler_quiet = record { pair = pair; quiet = quiet; once = refl }
