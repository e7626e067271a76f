use Rattle.std.proofs.Common.{◌≡◌, ◌-◌, drop, length}
use Rattle.elf_emit.specs.Layout.{rewritten}
use Rattle.elf_emit.specs.Views.{patches_of}
use Rattle.elf_emit.specs.PageByPage.{contents}
use Rattle.elf_emit.specs.Windows.{AreHeld}
use Rattle.elf_emit.proofs.parts.put_contents.Given as goal

abbrev pub invariant-loop-place : goal.invariant-loop-place
invariant-loop-place l = record {
  page : length l.page ≡ 4096;
  held : AreHeld (length l.file) (drop l.place l.loads) (drop l.place l.news);
  put : rewritten (contents (patches_of l.writes) l.file (drop l.place l.loads) (drop l.place l.news)) l.lo l.page
      ≡ rewritten (contents (patches_of l.writes) l.file l.loads l.news) l.lo l.initial.page;
}

abbrev pub decreases-loop-place : goal.decreases-loop-place
decreases-loop-place l = length l.loads - l.place
