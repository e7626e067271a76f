use Rattle.std.proofs.Common.{◌≡◌, ◌++◌, map, drop}
use Rattle.thread_runs.specs.Running.{start_thread, thread_in}
use Rattle.thread_runs.proofs.starting.start_threads.Given as goal

abbrev pub invariant-loop-script : goal.invariant-loop-script
invariant-loop-script l = map thread_in l.threads.items ++ map (start_thread l.elf.bytes) (drop l.script-index l.scripts) ≡ map (start_thread l.elf.bytes) l.scripts
