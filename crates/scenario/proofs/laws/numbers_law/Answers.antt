use Rattle.scenario.proofs.Numerals.{written_reads, reads_written}
use Rattle.scenario.proofs.laws.numbers_law.Goals as goal

pub returns : goal.returns
returns c = record { reads = written_reads; written = reads_written }
