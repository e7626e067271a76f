-- Where code stands: on pages with no byte of the original and none of the private range. Theorems cite it.
use Rattle.std.specs.Prelude.{◌≡◌, ℕ, ◌/◌, true, false, List, None}
use Rattle.std.specs.List.{AllByRecursion}
use Rattle.pun_base.specs.declared.action.Action.{Action}
use Rattle.pun_base.specs.declared.range.Range.{Range}
use Rattle.pun_base.specs.declared.scheme.Scheme.{Scheme}
use Rattle.address_space.specs.declared.extent.Extent.{Extent}
use Rattle.elf_read.specs.Entries.{segments}
use Rattle.elf_read.specs.Image.{image_of}
use Rattle.start_entries.specs.declared.entry.StartEntry.{StartEntry}
use Rattle.start_entries.specs.Laws.{AreStarts}
use Rattle.site_turns.specs.PrivateRange.{taken_first}
use Rattle.site_turns.specs.States.{is_in, first_state}
use Rattle.site_turns.specs.Choices.{Choice, state_after}
use Rattle.site_turns.specs.Folded.{done_by, in_code}
use Rattle.site_turns.specs.Jobs.{scene_of, AreTurnsOf}
use Rattle.site_turns.specs.Laws.{SchemeLeads}

-- Each address of a page on which a byte of code lies is new.
abbrev pub CodePagesAreNew : Type 0
CodePagesAreNew =
    (low : ℕ) (file starts : List ℕ) (action : Action) (reserves : List Range) (private : Extent)
    (ss : List Scheme)
    (sites : List StartEntry) (choices : List Choice) → AllByRecursion SchemeLeads ss
    → AreStarts low file starts
    → AreTurnsOf (scene_of file starts action reserves private)
    (taken_first (segments file) reserves) ss sites choices
    → AllByRecursion (λ l. (x y : ℕ)
    → in_code (scene_of file starts action reserves private) x l ≡ true
    → y / 4096 ≡ x / 4096 → (image_of file y ≡ None) × (is_in private y ≡ false))
    (done_by (state_after (scene_of file starts action reserves private)
    (first_state (scene_of file starts action reserves private)) sites choices)).lines
