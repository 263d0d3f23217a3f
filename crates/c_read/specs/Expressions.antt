-- Reading expressions (C11, 6.5), where so many may stand inside one another.
use Rattle.std.specs.Prelude.{ℕ, zero, suc, Bool, true, false, if◌then◌else◌, List, Option, Some, None, Err}
use Rattle.c_tree.specs.declared.token.Tok.{Tok}
use Rattle.c_tree.specs.declared.token.Tok.TheVariants as tok
use Rattle.c_tree.specs.declared.token.Part.{Part}
use Rattle.c_tree.specs.declared.token.Part.TheVariants as part
use Rattle.c_tree.specs.declared.token.Kind.{Kind}
use Rattle.c_tree.specs.declared.token.Kind.TheVariants as kind
use Rattle.c_tree.specs.declared.token.Wanted.TheVariants as wanted
use Rattle.c_tree.specs.declared.token.CReadFault.{CReadFault}
use Rattle.c_tree.specs.declared.token.CReadFault.TheVariants.{TooDeep}
use Rattle.c_tree.specs.declared.tree.COp.{COp}
use Rattle.c_tree.specs.declared.tree.COp.TheVariants as op
use Rattle.c_tree.specs.Tree as tree
use Rattle.c_tree.specs.Text.{Lexeme}
use Rattle.c_tree.specs.Grammar.{first}
use Rattle.c_lex.specs.Reading.{Parser, ◌>>=◌, ◌>>◌, pure, peek, refuse, expect, name, number, next_kind, unexpected}

-- the operator of a sign
abbrev pub op_of : Tok → Option COp
op_of tok.Plus = Some op.Add
op_of tok.Minus = Some op.Sub
op_of tok.Star = Some op.Mul
op_of tok.Slash = Some op.Div
op_of tok.Percent = Some op.Rem
op_of tok.Amp = Some op.And
op_of tok.Bar = Some op.Or
op_of tok.Caret = Some op.Xor
op_of tok.ShiftLeft = Some op.Shl
op_of tok.ShiftRight = Some op.Shr
op_of tok.Equal = Some op.Eq
op_of tok.NotEqual = Some op.Ne
op_of tok.Less = Some op.Lt
op_of tok.LessEqual = Some op.Le
op_of tok.Greater = Some op.Gt
op_of tok.GreaterEqual = Some op.Ge
op_of _ = None

abbrev pub taken_op : Tok → Option COp → Parser COp
taken_op t None = refuse part.InOperator
taken_op t (Some o) = expect t >> pure o

abbrev pub operator_by : Kind → Parser COp
operator_by (kind.Fixed t) = taken_op t (op_of t)
operator_by _ = refuse part.InOperator

unfoldable pub operator : Parser COp
operator = peek >>= operator_by

-- what follows a name: an index, or nothing
abbrev pub index_by : Parser tree.Expr → List ℕ → Kind → Parser tree.Expr
index_by inner n (kind.Fixed tok.LeftBracket) = expect tok.LeftBracket >> (inner >>= λ i. expect tok.RightBracket >> pure (tree.At n i))
index_by inner n _ = pure (tree.Name n)

unfoldable pub index : Parser tree.Expr → List ℕ → Parser tree.Expr
index inner n = peek >>= index_by inner n

-- two expressions with an operator between them, behind their parenthesis
unfoldable pub operation : Parser tree.Expr → Parser tree.Expr
operation inner = inner >>= λ a. operator >>= λ o. inner >>= λ b. expect tok.RightParen >> pure (tree.Op o a b)

-- what stands behind a parenthesis, in a part that has it as its own
abbrev pub group_by : Part → Parser tree.Expr → Kind → Parser tree.Expr
group_by p inner (kind.Fixed tok.WordU32) = expect tok.WordU32 >> (expect tok.RightParen >> (inner >>= λ e. pure (tree.To32 e)))
group_by p inner (kind.Fixed tok.WordU64) = expect tok.WordU64 >> (expect tok.RightParen >> (inner >>= λ e. pure (tree.To64 e)))
group_by p inner (kind.Fixed tok.Star) = expect tok.Star >> (name >>= λ n. expect tok.RightParen >> pure (tree.Star n))
group_by p inner kind.Name = operation inner
group_by p inner (kind.Number s) = operation inner
group_by p inner (kind.Fixed tok.LeftParen) = operation inner
group_by p inner _ = refuse p

unfoldable pub group : Part → Parser tree.Expr → Parser tree.Expr
group p inner = peek >>= group_by p inner

-- an expression whose parts are read so
abbrev pub expr_by : Parser tree.Expr → Kind → Parser tree.Expr
expr_by inner kind.Name = name >>= λ n. index inner n
expr_by inner (kind.Number s) = number >>= λ v. pure (tree.Number v)
expr_by inner (kind.Fixed tok.LeftParen) = expect tok.LeftParen >> group part.InGroup inner
expr_by inner _ = refuse part.InExpr

unfoldable pub expr_of_parts : Parser tree.Expr → Parser tree.Expr
expr_of_parts inner = peek >>= expr_by inner

abbrev pub begins_expr : Kind → Bool
begins_expr kind.Name = true
begins_expr (kind.Number s) = true
begins_expr (kind.Fixed tok.LeftParen) = true
begins_expr _ = false

-- where no more expressions may stand inside one another, what begins one is too deep
abbrev pub fault_without_room : (Kind → Bool) → Part → List Lexeme → CReadFault
fault_without_room begins p ls = if begins (next_kind ls) then TooDeep (first ls).place else unexpected (wanted.Part p) ls

unfoldable pub expr : ℕ → Parser tree.Expr
expr zero = λ ls. Err (fault_without_room begins_expr part.InExpr ls)
expr (suc d) = expr_of_parts (expr d)
