-- Expressions where at least one more may stand inside, and where none may.
use Rattle.packed_stmts.proofs.Common.{◌≡◌, ℕ, zero, suc, ◌-◌, ◌<◌, List, refl, arith}
use Rattle.c_tree.specs.declared.tree.Num.TheVariants.{Plain}
use Rattle.c_tree.specs.Tree as tree
use Rattle.packed_stmts.specs.Unpacked.{expr_in, expr_of_parts}

pub no_room : (d : ℕ) (bytes : List ℕ) → d ≡ 0 → expr_in d bytes ≡ (tree.Number (Plain 0), bytes)
unfolding expr_in
no_room zero bytes e = refl
no_room (suc d) bytes e = absurd (omega arith)

pub some_room : (d : ℕ) (bytes : List ℕ) → 0 < d → expr_in d bytes ≡ expr_of_parts (expr_in (d - 1)) bytes
unfolding expr_in
some_room zero bytes some = absurd (omega arith)
some_room (suc d) bytes some = let e : suc d - 1 ≡ d = omega arith in rw e refl
