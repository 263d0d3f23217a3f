use Rattle.c_print.proofs.Common.{◌≡◌, map, drop, Fixed, printed_onto}
use Rattle.c_print.proofs.page.Page.all_fixed.Given as goal

-- what is put, and what the tokens to come put, is the whole
abbrev pub invariant-loop-t : goal.invariant-loop-t
invariant-loop-t l = printed_onto l.self (map Fixed (drop l.t-index l.tokens)) ≡ printed_onto l.fn.self (map Fixed l.tokens)
