use Rattle.std.proofs.Common.{ap, ◌∙◌, refl}
use Rattle.elf_read.specs.Entries.{entry_of}
use Rattle.turn_tests.proofs.LoadedFiles.{starts}
use Rattle.turn_tests.proofs.stub_runs.run_by.Goals as goal

pub stub_run-requires-clause-starts : goal.stub_run-requires-clause-starts
stub_run-requires-clause-starts c =
    starts _ c.in-Ok-read_written.elf.bytes _ c.in-Some.found c.in-Ok.places _ _ _ _ c.entry-entry.result c.in-Ok-start_state.state
    c.in-Some.ensures c.in-Ok.is refl refl c.in-Some-get.ensures c.in-Ok-read_written.ensures.file.0
    (c.entry-entry.ensures ∙ ap entry_of c.in-Ok-read_elf.ensures.file.0) c.in-Ok-start_state.ensures.core c.in-Ok-start_state.ensures.rip
    c.in-Ok-start_state.ensures.memory
