use Rattle.c_check.proofs.Common.{ℕ, List, map, ap, ◌∙◌, CType}
use Rattle.c_check.proofs.Sets.{names_of_pairs}
use Rattle.c_check.proofs.ours.function_names.Goals as goal

pub returns : goal.returns
returns c = names_of_pairs c.in_ok-own.own.items ∙ ap (map (λ (p : List ℕ × CType). p.0)) c.in_ok-own.ensures
