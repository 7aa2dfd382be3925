use Rattle.transcript.proofs.Young.{every_text_stays_young}
use Rattle.transcript.proofs.transcripts_stay_young.Goals as goal

pub returns : goal.returns
returns c = every_text_stays_young
