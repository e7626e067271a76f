use Rattle.std.proofs.Common.{ℕ, List, Some, codes, ap, ◌∙◌}
use Rattle.guest_findings.proofs.PatchedGuests.{handed, guest_memory, holds_some, guest_patched}
use Rattle.guest_findings.proofs.guest_patch.patch_guest.Goals as goal

pub only_memory-requires : goal.only_memory-requires
only_memory-requires c =
    guest_memory c.args.guest.now _ (codes "OUT") c.in_ok-desk.desk c.rewrite.new.desk c.in-Err.error c.requires
    (handed c.args.guest.now c.elf.result.now c.starts.result.now c.sites.result.now c.elf.ensures c.starts.ensures c.sites.ensures)
    c.in_ok-desk.ensures c.in-Err.ensures.rewrites

pub unreachable-requires : goal.unreachable-requires
unreachable-requires c =
    holds_some _ (codes "OUT") c.in_ok-desk.desk c.rewrite.new.desk c.in-Ok.report c.in-Ok.ensures.rewrites c.in_default.ensures

pub returns : goal.returns
returns c =
    let items = c.in_ok-from_slice.ensures.items in
    let bytes = c.in-Some.ensures in
    guest_patched c.args.guest.now _ (codes "OUT") c.in_ok-from_slice.field-0.items c.in_ok-desk.desk c.rewrite.new.desk c.in-Ok.report
    (handed c.args.guest.now c.elf.result.now c.starts.result.now c.sites.result.now c.elf.ensures c.starts.ensures c.sites.ensures)
    c.in-Ok.ensures.rewrites (ap (λ (x : List ℕ). Some x) items ∙ bytes)
