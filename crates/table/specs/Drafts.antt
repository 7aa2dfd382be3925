-- What a draft of the code says.
use Rattle.std.specs.Prelude.{length}
use Rattle.table.specs.declared.draft.Draft.{Draft as CodeDraft}
use Rattle.table.specs.Verdict.{Draft, drafted}

abbrev pub as_drafted : CodeDraft → Draft
as_drafted d = drafted d.scale d.total d.factor (length d.tasks.now) d.tasks.now
