use Rattle.std.proofs.Common.{refl}
use Rattle.dispatch.proofs.Empty.{empty_state, empty_fine}
use Rattle.dispatch.proofs.state.Core.new.Goals as goal

pub returns : goal.returns
returns c = record { foreign = refl; state = empty_state c.args.foreign; fine = empty_fine c.args.foreign }
