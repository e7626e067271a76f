use Rattle.std.proofs.Common.{List, ℕ, ap, ◌∙◌}
use Rattle.pun_base.specs.Shown.{with_file}
use Rattle.pun_base.specs.Texts.{files_in}
use Rattle.pun_base.specs.MemDesk.{held_by}
use Rattle.pun_base.proofs.TextMaps.{held_by-updated}
use Rattle.pun_base.proofs.memory_desk.set_file.Goals as goal

pub returns-clause-ok : goal.returns-clause-ok
returns-clause-ok c =
    held_by-updated _ c.args.files.now c.insert.new.self c.in_ok-bytes.bytes c.in_ok-insert.ensures.updates
    ∙ ap (λ (name : List ℕ). with_file (held_by (files_in c.args.files.now)) name c.in_ok-bytes.bytes.items) c.in_ok-name.ensures.ok
    ∙ ap (λ (bytes : List ℕ). with_file (held_by (files_in c.args.files.now)) c.args.name.now bytes) c.in_ok-bytes.ensures.items
