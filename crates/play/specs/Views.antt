-- The table that an outline describes.
use Rattle.std.specs.Prelude.{length}
use Rattle.table.specs.Verdict.{Draft, drafted}
use Rattle.play.specs.declared.outline.Outline.{Outline}

abbrev pub draft_in : Outline → Draft
draft_in o = drafted o.scale o.total o.factor (length o.tasks) o.tasks
