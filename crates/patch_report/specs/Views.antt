-- Values of the code as the definitions see them: where reading stands, and a report by its parts. Theorems cite it.
use Rattle.patch_report.specs.declared.line.Line.{Line}
use Rattle.patch_report.specs.declared.line_reading.Cursor.{Cursor}
use Rattle.patch_report.specs.declared.reading.Parts.{Parts}
use Rattle.patch_report.specs.Reading.{At}
use Rattle.patch_report.specs.Values.{ReportValue, body_of}

-- A cursor as where reading stands.
abbrev pub at_value : Cursor → At
at_value c = record { place = c.place; text = c.text.now }

-- A line and the cursor behind it, as where reading goes on.
abbrev pub next_value : (Line × Cursor) → Line × At
next_value x = (x.0, at_value x.1)

-- The report of the parts that the code keeps.
abbrev pub parts_value : Parts → ReportValue
parts_value p = record
    { body = body_of p.action p.private p.rows p.pages.items; origin = p.origin }
