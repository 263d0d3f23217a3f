use Rattle.body_check.proofs.Common.{◌≡◌, ◌&&◌, reverse, drop, all_labels, any_missing}
use Rattle.body_check.proofs.plain.all_carry.Given as goal

-- what is said of the labels from here on and what was found so far are what is said of all
abbrev pub invariant-loop-other : goal.invariant-loop-other
invariant-loop-other l =
    (all_labels (reverse l.labels) l.others l.carried ≡ (all_labels (reverse l.labels) (drop l.other-index l.others) l.carried && l.same))
    × (any_missing (reverse l.labels) l.others ≡ any_missing (reverse l.labels) (drop l.other-index l.others))
