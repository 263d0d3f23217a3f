use Rattle.std.proofs.Common.{◌≡◌, ◌++◌, drop, map}
use Rattle.body_check.proofs.context.add_funcs.Given as goal

-- what stands there and what is left are the whole
abbrev pub invariant-loop-func : goal.invariant-loop-func
invariant-loop-func l =
    l.space.items ++ map (λ f. f.type_index) (drop l.func-index l.funcs) ≡ l.initial.space.items ++ map (λ f. f.type_index) l.funcs
