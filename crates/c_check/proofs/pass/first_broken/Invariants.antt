use Rattle.c_check.proofs.Common.{◌≡◌, map, item_of, first_in_items, FindsFirst, declared}
use Rattle.c_check.proofs.pass.first_broken.Given as goal

abbrev pub invariant-loop-i : goal.invariant-loop-i
invariant-loop-i l =
    (first_in_items (map item_of l.items) l.i ≡ first_in_items (map item_of l.items) 0)
    × (l.progress.file.items.now ≡ l.items) × (l.progress.file.count ≡ l.i)
    × FindsFirst l.progress.earlier.first (declared l.progress.file)
