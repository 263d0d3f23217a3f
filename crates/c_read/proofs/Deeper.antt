-- Expressions and arguments where at least one more may stand, and where none may.
use Rattle.c_read.proofs.Common.{◌≡◌, ℕ, zero, suc, ◌-◌, ◌<◌, List, Err, refl, arith, Lexeme}
use Rattle.c_tree.specs.declared.token.Part.TheVariants as part
use Rattle.c_read.specs.Expressions.{expr, expr_of_parts, begins_expr, fault_without_room}
use Rattle.c_read.specs.Arguments.{argument, argument_in, begins_argument}

pub no_room : (d : ℕ) (ls : List Lexeme) → d ≡ 0 → expr d ls ≡ Err (fault_without_room begins_expr part.InExpr ls)
unfolding expr
no_room zero ls e = refl
no_room (suc d) ls e = absurd (omega arith)

pub some_room : (d : ℕ) (ls : List Lexeme) → 0 < d → expr d ls ≡ expr_of_parts (expr (d - 1)) ls
unfolding expr
some_room zero ls some = absurd (omega arith)
some_room (suc d) ls some = let e : suc d - 1 ≡ d = omega arith in rw e refl

pub no_argument_room : (d : ℕ) (ls : List Lexeme) → d ≡ 0 → argument d ls ≡ Err (fault_without_room begins_argument part.InArgument ls)
unfolding argument
no_argument_room zero ls e = refl
no_argument_room (suc d) ls e = absurd (omega arith)

pub argument_room : (d : ℕ) (ls : List Lexeme) → 0 < d → argument d ls ≡ argument_in (d - 1) ls
unfolding argument
argument_room zero ls some = absurd (omega arith)
argument_room (suc d) ls some = let e : suc d - 1 ≡ d = omega arith in rw e refl
