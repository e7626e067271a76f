-- A handler that is entered at the site of the sound image with one MOV, returns, and is entered a second time. Worked examples alone cite it.
use Rattle.std.specs.Prelude.{◌≡◌, List, [], ◌∷◌}
use Rattle.pun_base.specs.Memory.{Bytes, joined}
use Rattle.cpu_state.specs.declared.world.MemWrite.{MemWrite}
use Rattle.insn_form.specs.Machine.{put_all}
use Rattle.insn_form.specs.Step.{Step}
use Rattle.relocate_insn.specs.Worked.{spread}
use Rattle.image_runs.specs.Quiet.{IsStartPair}
use Rattle.sound_images.specs.Events.{log}
use Rattle.sound_images.specs.Soundness.{rewriting_of}
use Rattle.sound_images.specs.Worked.{original_image, patched_image, entries, one_mov, state_at}
use Rattle.image_runs.specs.declared.delivery.Delivery.{Delivery}
use Rattle.image_runs.specs.Deliveries.{Item, Stepped, Taken, IsQuietWith, stepped_at}

-- A stack, beside both images.
abbrev pub stack : Bytes
stack = spread 0x600000 0x601000 6 []

-- The interrupted address, pushed.
abbrev pub frame : List MemWrite
frame = record { addr = 0x600ff8; bytes = 0x00 ∷ 0x10 ∷ 0x40 ∷ 0x00 ∷ 0x00 ∷ 0x00 ∷ 0x00 ∷ 0x00 ∷ [] } ∷ []

-- The handler, a NOP after the MOV, is entered.
abbrev pub enter : Delivery
enter = record { core = (state_at stack 7 0).core; rip = 0x401005; writes = frame }

abbrev pub leave : Delivery
leave = record { core = (state_at stack 7 0).core; rip = 0x401000; writes = [] }

-- The original's memory before the handler is entered.
abbrev pub at_first : Bytes
at_first = joined original_image stack

abbrev pub framed : Bytes
framed = put_all at_first frame

abbrev pub framed_again : Bytes
framed_again = put_all framed frame

-- The items of the run: at the site the handler is entered, left, entered again and left again, and
-- then the MOV is run.
abbrev pub interrupted : List Item
interrupted =
    Taken enter ∷ Stepped (state_at framed 7 0x401006) ∷ Taken leave
    ∷ Taken enter ∷ Stepped (state_at framed_again 7 0x401006) ∷ Taken leave
    ∷ Stepped (state_at framed_again 60 0x401005) ∷ []

-- The premises of the headline are met by that run, and one event is due, though the original stood
-- at the site three times.
pub record HandlerIsQuiet : Type 0 where
  pub pair : IsStartPair original_image patched_image 0x401000
      (state_at at_first 7 0x401000) (state_at (joined patched_image stack) 7 0x401000)
  pub quiet : IsQuietWith Step entries (state_at at_first 7 0x401000) interrupted
  pub once : log (rewriting_of one_mov) (stepped_at (state_at at_first 7 0x401000) interrupted) ≡ 0 ∷ []
