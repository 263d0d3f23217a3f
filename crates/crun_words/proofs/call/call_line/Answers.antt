use Rattle.crun_words.proofs.Common.{ℕ, ap, ◌∙◌, names_of}
use Rattle.crun_words.proofs.call.call_line.Goals as goal

pub returns-clause-none : goal.returns-clause-none
returns-clause-none c = rw (ap names_of c.as_slice.ensures.value ∙ c.in_ok-words.ensures) at c.call_of_words.ensures.none
