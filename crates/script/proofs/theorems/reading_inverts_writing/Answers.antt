use Rattle.script.proofs.Laws.{accepted_is_text, text_is_accepted}
use Rattle.script.proofs.theorems.reading_inverts_writing.Goals as goal

pub returns : goal.returns
returns c = record { accepted = accepted_is_text; written = text_is_accepted }
