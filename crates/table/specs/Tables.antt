-- The draft that a table was accepted from.
use Rattle.table.specs.declared.table.Table.{Table}
use Rattle.table.specs.Verdict.{Draft, drafted}

abbrev pub draft_of : Table → Draft
draft_of t = drafted t.scale t.total t.factor t.count t.tasks
