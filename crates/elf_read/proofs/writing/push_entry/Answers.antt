use Rattle.byteorder.specs.Endian.{little_bytes}
use Rattle.elf_read.specs.Entries.{spelled}
use Rattle.elf_read.proofs.AppendedParts.{grown, grown_last}
use Rattle.elf_read.proofs.writing.push_entry.Goals as goal

pub returns : goal.returns
unfolding spelled
returns c =
    let s = c.args.entry.now in
    grown _ _ _ (little_bytes 4 s.kind) _ c.in_ok-push_u32.ensures
    (grown _ _ _ (little_bytes 4 s.flags) _ c.in_ok-push_u32-2.ensures
    (grown _ _ _ (little_bytes 8 s.offset) _ c.in_ok-push_u64.ensures
    (grown _ _ _ (little_bytes 8 s.vaddr) _ c.in_ok-push_u64-2.ensures
    (grown _ _ _ (little_bytes 8 s.paddr) _ c.in_ok-push_u64-3.ensures
    (grown _ _ _ (little_bytes 8 s.filesz) _ c.in_ok-push_u64-4.ensures
    (grown _ _ _ (little_bytes 8 s.memsz) _ c.in_ok-push_u64-5.ensures
    (grown_last _ _ (little_bytes 8 s.align) c.in_ok-push_u64-6.ensures)))))))
