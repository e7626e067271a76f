-- What `patch` writes of a settled file follows the original at its base.
use Rattle.std.proofs.Common.{ap}
use Rattle.elf_read.specs.Entries.{entry_of}
use Rattle.elf_read.specs.Image.{image_of}
use Rattle.sound_images.proofs.PlainItems.{headline_case}
use Rattle.settle.proofs.TakenFiles.{unrefused_is_taken}
use Rattle.loader_form.specs.Continuing.{GoesOn}
use Rattle.settled_runs.specs.Patched.{rewriting_made, SettledIsFollowed, SettledIsFollowedWith}
use Rattle.settled_runs.proofs.QuietStub.{settled_is_patched, settled_goes_on}

pub settled_is_followed : SettledIsFollowed
settled_is_followed b file readable h m old new f e s t n vs ks p c d v l us y =
    let k = unrefused_is_taken b file readable h in let r = rewriting_made m old new f in
    settled_is_patched b file r s t n vs ks k.settleable k.placeable (ap image_of e) (ap entry_of e) (headline_case r f.followed.headline) p c d v l us y

-- with deliveries, too
pub settled_is_followed_with : SettledIsFollowedWith
settled_is_followed_with b file readable h m old new f e s t n vs ks p k is y =
    let q = unrefused_is_taken b file readable h in let r = rewriting_made m old new f in
    let on : GoesOn r s t = record { pair = p; follows = f.followed.headline s t p } in
    settled_goes_on b file r s t n vs ks q.settleable q.placeable (ap image_of e) (ap entry_of e) on k is y
