-- Values of the code as the definitions see them. Contracts of private functions alone cite it.
use Rattle.std.specs.Prelude.{map}
use Rattle.image_step.specs.declared.draft.Current.{Current}
use Rattle.image_step.specs.declared.draft.Draft as code
use Rattle.image_step.specs.declared.draft.Draft.TheVariants as drafts
use Rattle.image_step.specs.declared.reading.Parts.{Parts}
use Rattle.image_step.specs.Values.{EntryValue, ScriptValue, entry_value}
use Rattle.image_step.specs.Taking.{Draft, blank, heads, body, asked, done}

-- The entry that goes on.
abbrev pub current_value : Current → EntryValue
current_value c = record { question = c.question; given = c.given; writes = c.writes.items }

-- What has been read so far.
abbrev pub draft_value : code.Draft → Draft
draft_value drafts.Blank = blank
draft_value (drafts.Heads vs) = heads vs.items
draft_value (drafts.Body vs rs) = body vs.items rs.items
draft_value (drafts.Asked vs rs es c) = asked vs.items rs.items (map entry_value es.items) (current_value c)
draft_value (drafts.Done vs rs es) = done vs.items rs.items (map entry_value es.items)

-- The script that these parts make.
abbrev pub parts_value : Parts → ScriptValue
parts_value p = record { values = p.values.items; regions = p.regions.items; entries = map entry_value p.entries.items }
