-- A rule that always says no, and keeps nothing.
use Rattle.std.specs.Prelude.{false}
use Rattle.budget.specs.Meaning.{Meaning}
use Rattle.further.specs.declared.Never.{Never}

abbrev pub never_meaning : Never → Meaning
never_meaning n = record { weight = λ _. 0; total = n.total.0; longest = λ _. 0; yes = λ _ _. false }
