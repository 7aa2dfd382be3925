use Rattle.runs.proofs.Ages.{age_in_words}
use Rattle.runs.proofs.bounds.age_bound_in_words.Goals as goal

pub returns : goal.returns
returns c = age_in_words
