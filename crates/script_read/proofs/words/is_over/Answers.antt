use Rattle.script_read.proofs.WordLemmas.{over_iff}
use Rattle.script_read.proofs.words.is_over.Goals as goal

pub returns : goal.returns
returns c = rw c.is_empty.ensures (over_iff _ _ _ c.split_word.ensures.parts)
