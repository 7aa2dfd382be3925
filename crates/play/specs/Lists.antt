-- The numbers of a line, as a list.
use Rattle.std.specs.Prelude.{List, take}
use Rattle.tasks.specs.declared.units.Ticks.{Ticks}
use Rattle.play.specs.declared.tick_list.TickList.{TickList}

abbrev pub listing : TickList → List Ticks
listing t = take t.count t.slots
