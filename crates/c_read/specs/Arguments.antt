-- Reading arguments, calls (C11, 6.5.2.2) and right sides (6.5.16).
use Rattle.std.specs.Prelude.{ℕ, zero, suc, Bool, true, List, [], map, Err}
use Rattle.c_tree.specs.declared.token.Tok.TheVariants as tok
use Rattle.c_tree.specs.declared.token.Part.{Part}
use Rattle.c_tree.specs.declared.token.Part.TheVariants as part
use Rattle.c_tree.specs.declared.token.Kind.{Kind}
use Rattle.c_tree.specs.declared.token.Kind.TheVariants as kind
use Rattle.c_tree.specs.declared.tree.CType.{CType}
use Rattle.c_tree.specs.Tree as tree
use Rattle.c_tree.specs.View.{arg_of, callee_of}
use Rattle.c_lex.specs.Reading.{Parser, ◌>>=◌, ◌>>◌, pure, peek, refuse, expect, name, number}
use Rattle.c_read.specs.Lists.{behind_comma, and_more}
use Rattle.c_read.specs.Expressions.{expr, index, group, begins_expr, fault_without_room}
use Rattle.c_read.specs.Types.{ctype, types}
use Rattle.c_read.specs.declared.call.Called as call
use Rattle.c_read.specs.declared.call.Right as right
use Rattle.c_read.specs.declared.call.Right.TheVariants as variant

-- how many expressions may stand inside one another
unfoldable pub depth : ℕ
depth = 100

-- what stands behind the parenthesis of an argument: a function as an element of a table, or an expression's rest; in a
-- part that has it as its own
abbrev pub agroup_by : Part → ℕ → Kind → Parser tree.Arg
agroup_by p d (kind.Fixed tok.WordW2cFn) = expect tok.WordW2cFn >> (expect tok.RightParen >> (name >>= λ n. pure (tree.OfFunction n)))
agroup_by p d _ = group p (expr d) >>= λ e. pure (tree.Value e)

unfoldable pub agroup : Part → ℕ → Parser tree.Arg
agroup p d = peek >>= agroup_by p d

-- an argument, with room for so many expressions inside it
abbrev pub argument_by : ℕ → Kind → Parser tree.Arg
argument_by d (kind.Fixed tok.Amp) = expect tok.Amp >> (name >>= λ n. pure (tree.Address n))
argument_by d (kind.Fixed tok.LeftParen) = expect tok.LeftParen >> agroup part.InAgroup d
argument_by d kind.Name = name >>= λ n. index (expr d) n >>= λ e. pure (tree.Value e)
argument_by d (kind.Number s) = number >>= λ v. pure (tree.Value (tree.Number v))
argument_by d _ = refuse part.InArgument

unfoldable pub argument_in : ℕ → Parser tree.Arg
argument_in d = peek >>= argument_by d

abbrev pub begins_argument : Kind → Bool
begins_argument (kind.Fixed tok.Amp) = true
begins_argument k = begins_expr k

-- it counts as an expression
unfoldable pub argument : ℕ → Parser tree.Arg
argument zero = λ ls. Err (fault_without_room begins_argument part.InArgument ls)
argument (suc d) = argument_in d

unfoldable pub next_argument : ℕ → Parser tree.Arg
next_argument d = behind_comma (argument d)

unfoldable pub more_arguments : ℕ → tree.Arg → Parser (List tree.Arg)
more_arguments d x = and_more (next_argument d) x

abbrev pub arguments_by : ℕ → Kind → Parser (List tree.Arg)
arguments_by d (kind.Fixed tok.RightParen) = pure []
arguments_by d _ = argument d >>= more_arguments d

unfoldable pub arguments : ℕ → Parser (List tree.Arg)
arguments d = peek >>= arguments_by d

-- ---- calls

-- what is called, and with which arguments
pub record Called : Type 0 where
  pub callee : tree.Callee
  pub args : List tree.Arg

abbrev pub calls : tree.Callee → List tree.Arg → Called
calls f xs = record { callee = f; args = xs }

abbrev pub through_type : List CType → CType → tree.FuncType
through_type params result = record { params = params; result = result }

-- the type of what is called through a name, from its parenthesis on
unfoldable pub pointer_type : Parser tree.FuncType
pointer_type =
    expect tok.LeftParen >> (ctype >>= λ t. expect tok.LeftParen >>
    (expect tok.Star >> (expect tok.RightParen >>
    (expect tok.LeftParen >> (types >>= λ ts. expect tok.RightParen >> (expect tok.RightParen >> pure (through_type ts t)))))))

-- a call through a name, behind its parenthesis and star
unfoldable pub through : ℕ → Parser Called
through d =
    pointer_type >>= λ t. name >>= λ n. expect tok.RightParen >>
    (expect tok.LeftParen >> (arguments d >>= λ xs. expect tok.RightParen >> pure (calls (tree.Through t n) xs)))

-- ---- right sides

-- what is assigned to a name: an argument, or what a call gives
pub data Right : Type 0 where
  Gives : tree.Arg → Right
  Calls : Called → Right

-- what follows a name
abbrev pub rname_by : ℕ → List ℕ → Kind → Parser Right
rname_by d f (kind.Fixed tok.LeftBracket) =
    expect tok.LeftBracket >> (expr d >>= λ i. expect tok.RightBracket >> pure (Gives (tree.Value (tree.At f i))))
rname_by d f (kind.Fixed tok.LeftParen) =
    expect tok.LeftParen >> (arguments d >>= λ xs. expect tok.RightParen >> pure (Calls (calls (tree.Called f) xs)))
rname_by d f _ = pure (Gives (tree.Value (tree.Name f)))

unfoldable pub rname : ℕ → List ℕ → Parser Right
rname d f = peek >>= rname_by d f

-- what stands behind a parenthesis and a star
abbrev pub rstar_by : ℕ → Kind → Parser Right
rstar_by d kind.Name = name >>= λ n. expect tok.RightParen >> pure (Gives (tree.Value (tree.Star n)))
rstar_by d (kind.Fixed tok.LeftParen) = through d >>= λ c. pure (Calls c)
rstar_by d _ = refuse part.InRstar

unfoldable pub rstar : ℕ → Parser Right
rstar d = peek >>= rstar_by d

abbrev pub rgroup_by : ℕ → Kind → Parser Right
rgroup_by d (kind.Fixed tok.Star) = expect tok.Star >> rstar d
rgroup_by d _ = agroup part.InRgroup d >>= λ a. pure (Gives a)

unfoldable pub rgroup : ℕ → Parser Right
rgroup d = peek >>= rgroup_by d

abbrev pub right_by : ℕ → Kind → Parser Right
right_by d kind.Name = name >>= λ f. rname d f
right_by d (kind.Number s) = number >>= λ v. pure (Gives (tree.Value (tree.Number v)))
right_by d (kind.Fixed tok.Amp) = expect tok.Amp >> (name >>= λ n. pure (Gives (tree.Address n)))
right_by d (kind.Fixed tok.LeftParen) = expect tok.LeftParen >> rgroup d
right_by d _ = refuse part.InRight

-- it counts as an expression: with room for so many inside it
unfoldable pub right_in : ℕ → Parser Right
right_in d = peek >>= right_by d

-- ---- values of the code

abbrev pub called_of : call.Called → Called
called_of c = calls (callee_of c.callee) (map arg_of c.args)

abbrev pub right_of : right.Right → Right
right_of (variant.Gives a) = Gives (arg_of a)
right_of (variant.Calls c) = Calls (called_of c)
