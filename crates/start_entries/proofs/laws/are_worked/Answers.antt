use Rattle.std.proofs.Common.{refl}
use Rattle.elf_read.specs.Plain.{header}
use Rattle.elf_read.specs.Entries.{spelled, segment_at, table_place, table_count}
use Rattle.elf_read.specs.Code.{code_from}
use Rattle.insn_form.specs.Classes.{template}
use Rattle.insn_form.specs.Filling.{filled}
use Rattle.start_entries.specs.Entries.{reading_at, backed_bytes, start_entry}
use Rattle.start_entries.specs.Refusals.{refusal_of}
use Rattle.start_entries.specs.SharedBytes.{is_shared}
use Rattle.start_entries.proofs.laws.are_worked.Goals as goal

pub returns : goal.returns
unfolding header spelled segment_at table_place table_count code_from template filled reading_at backed_bytes start_entry refusal_of is_shared
returns c = record {
  starts_of_three = refl;
  accepted = refl;
  inside_the_mov = refl;
  inside_shared = refl;
  past_the_text = refl;
  both_in_order = refl;
  evex_starts = refl;
  evex_accepted = refl;
  to_the_end = refl;
  short_at_the_end = refl;
  fifteen = refl;
  inside_an_unknown = refl;
}
