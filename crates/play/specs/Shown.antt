-- The run that a dispatcher at work stands for.
use Rattle.table.specs.Tables.{draft_of}
use Rattle.budget.specs.Slots.{ticks_in}
use Rattle.any_rule.specs.Any.{meaning_of_any, policy_of_any}
use Rattle.dispatch.specs.Cores.{state_of}
use Rattle.transcript.specs.Shows.{Show as Shown}
use Rattle.play.specs.declared.show.Show.{Show}

abbrev pub show_of : Show → Shown
show_of w = record {
  draft = draft_of w.dispatcher.table;
  policy = policy_of_any w.dispatcher.rule;
  meaning = meaning_of_any w.dispatcher.rule;
  state = state_of w.dispatcher.core;
  need = ticks_in w.needs.slots;
}
