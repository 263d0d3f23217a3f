use Rattle.c_trim.proofs.Common.{◌≡◌, ℕ, List, map, take, named, item_of, definer}
use Rattle.c_trim.proofs.reach.definers.Given as goal

abbrev pub invariant-loop-i : goal.invariant-loop-i
invariant-loop-i l = (q : List ℕ) → named q l.table ≡ definer (take l.i (map item_of l.items)) q
