use Rattle.std.proofs.Common.{◌≡◌, ◌++◌, drop, map}
use Rattle.body_check.proofs.context.add_globals.Given as goal

-- what stands there and what is left are the whole
abbrev pub invariant-loop-global : goal.invariant-loop-global
invariant-loop-global l =
    l.space.items ++ map (λ g. (g.ty, g.mutable)) (drop l.global-index l.globals)
    ≡ l.initial.space.items ++ map (λ g. (g.ty, g.mutable)) l.globals
