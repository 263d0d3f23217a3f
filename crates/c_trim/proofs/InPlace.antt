-- A trimmed unit in the place of the given one.
use Rattle.c_trim.proofs.Common.{List, RunsInPlaceOf, IsTrimmed}
use Rattle.c_tree.specs.Tree as tree
use Rattle.c_trim.proofs.Links.{same_link, same_fits}
use Rattle.c_trim.proofs.AlikeRuns.{runs_alike}

pub in_place : (unit t : List tree.Item) → IsTrimmed unit t → RunsInPlaceOf unit t
in_place unit t is = record {
  trimmed = is;
  link = λ before after hosts keeps. rw is.is (same_link before after hosts unit is.needed is.tells keeps);
  fit = λ before after hosts keeps call. rw is.is (same_fits before after hosts unit is.needed is.tells keeps call);
  run = λ before after hosts keeps calls m replies. rw is.is (runs_alike before after hosts unit is.needed is.tells keeps calls m replies);
}
