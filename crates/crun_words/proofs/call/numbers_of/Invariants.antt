use Rattle.crun_words.proofs.Common.{take, names_of, AreNumbers}
use Rattle.crun_words.proofs.call.numbers_of.Given as goal

-- the numbers of so many words
abbrev pub invariant-loop-k : goal.invariant-loop-k
invariant-loop-k l = AreNumbers (take l.k (names_of l.words)) l.numbers
