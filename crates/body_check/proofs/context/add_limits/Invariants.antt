use Rattle.std.proofs.Common.{◌≡◌, ◌++◌, drop, map}
use Rattle.body_check.proofs.context.add_limits.Given as goal

-- what stands there and what is left are the whole
abbrev pub invariant-loop-entry : goal.invariant-loop-entry
invariant-loop-entry l =
    l.space.items ++ map (λ t. t.limits) (drop l.entry-index l.entries) ≡ l.initial.space.items ++ map (λ t. t.limits) l.entries
