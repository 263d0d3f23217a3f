use Rattle.c_lex.proofs.Common.{◌≡◌, drop, among}
use Rattle.c_lex.proofs.word.find.Given as goal

abbrev pub invariant-loop-tok : goal.invariant-loop-tok
invariant-loop-tok l = among (drop l.tok-index l.toks) l.text ≡ among l.toks l.text
