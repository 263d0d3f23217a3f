-- Reading statements (C11, 6.8).
use Rattle.std.specs.Prelude.{ℕ, ◌-◌, Bool, true, false, List, Option, Some, None}
use Rattle.c_tree.specs.declared.token.Tok.TheVariants as tok
use Rattle.c_tree.specs.declared.token.Part.TheVariants as part
use Rattle.c_tree.specs.declared.token.Kind.{Kind}
use Rattle.c_tree.specs.declared.token.Kind.TheVariants as kind
use Rattle.c_tree.specs.declared.tree.Arg.{Arg}
use Rattle.c_tree.specs.Tree as tree
use Rattle.c_tree.specs.View.{arg_of}
use Rattle.c_lex.specs.Reading.{Parser, ◌>>=◌, ◌>>◌, pure, peek, refuse, expect, name, number}
use Rattle.c_read.specs.Lists.{all}
use Rattle.c_read.specs.Expressions.{expr, operator}
use Rattle.c_read.specs.Arguments.{depth, argument, arguments, through, Right, Gives, Calls, right_in}

-- goto a label
unfoldable pub jump : Parser (List ℕ)
jump = expect tok.WordGoto >> (name >>= λ n. expect tok.Semicolon >> pure n)

abbrev pub assigned : List ℕ → Right → tree.Stmt
assigned n (Gives a) = tree.Set n a
assigned n (Calls c) = tree.Call (Some n) c.callee c.args

-- what follows a name
abbrev pub after_by : List ℕ → Kind → Parser tree.Stmt
after_by n (kind.Fixed tok.Colon) = expect tok.Colon >> pure (tree.Label n)
after_by n (kind.Fixed tok.Assign) = expect tok.Assign >> (right_in (depth - 1) >>= λ r. expect tok.Semicolon >> pure (assigned n r))
after_by n (kind.Fixed tok.LeftParen) =
    expect tok.LeftParen >> (arguments depth >>= λ xs. expect tok.RightParen >>
    (expect tok.Semicolon >> pure (tree.Call None (tree.Called n) xs)))
after_by n _ = refuse part.InAfter

unfoldable pub after : List ℕ → Parser tree.Stmt
after n = peek >>= after_by n

-- what is returned
abbrev pub returned_by : Kind → Parser (Option tree.Arg)
returned_by (kind.Fixed tok.Semicolon) = pure None
returned_by _ = argument depth >>= λ a. pure (Some a)

unfoldable pub returned : Parser (Option tree.Arg)
returned = peek >>= returned_by

abbrev pub return_of : Option tree.Arg → tree.Stmt
return_of None = tree.ReturnNone
return_of (Some a) = tree.Return a

-- ---- switches

abbrev pub is_case : Kind → Bool
is_case (kind.Fixed tok.WordCase) = true
is_case _ = false

unfoldable pub one_case : Parser tree.Case
one_case = expect tok.WordCase >> (number >>= λ v. expect tok.Colon >> (jump >>= λ n. pure (v, n)))

unfoldable pub cases : Parser (List tree.Case)
cases = all is_case one_case

abbrev pub default_by : Kind → Parser (List ℕ)
default_by (kind.Fixed tok.WordDefault) = expect tok.WordDefault >> (expect tok.Colon >> jump)
default_by _ = refuse part.InCases

unfoldable pub default : Parser (List ℕ)
default = peek >>= default_by

-- a switch behind its key word
unfoldable pub switch : Parser tree.Stmt
switch =
    expect tok.LeftParen >> (expr depth >>= λ e. expect tok.RightParen >>
    (expect tok.LeftBrace >> (cases >>= λ cs. default >>= λ n. expect tok.RightBrace >> pure (tree.Switch e cs n))))

-- a condition and its goto behind the key word
unfoldable pub condition : Parser tree.Stmt
condition =
    expect tok.LeftParen >> (expr depth >>= λ a. operator >>= λ o. expr depth >>= λ b. expect tok.RightParen >>
    (jump >>= λ n. pure (tree.If o a b n)))

-- an assignment through a pointer behind its star
unfoldable pub set_star : Parser tree.Stmt
set_star = name >>= λ n. expect tok.Assign >> (expr depth >>= λ e. expect tok.Semicolon >> pure (tree.SetStar n e))

-- a call through a name behind its parenthesis
unfoldable pub call_through : Parser tree.Stmt
call_through = expect tok.Star >> (through depth >>= λ c. expect tok.Semicolon >> pure (tree.Call None c.callee c.args))

-- ---- statements

abbrev pub statement_by : Kind → Parser tree.Stmt
statement_by (kind.Fixed tok.Semicolon) = expect tok.Semicolon >> pure tree.Null
statement_by kind.Name = name >>= λ n. after n
statement_by (kind.Fixed tok.Star) = expect tok.Star >> set_star
statement_by (kind.Fixed tok.LeftParen) = expect tok.LeftParen >> call_through
statement_by (kind.Fixed tok.WordGoto) = jump >>= λ n. pure (tree.Goto n)
statement_by (kind.Fixed tok.WordIf) = expect tok.WordIf >> condition
statement_by (kind.Fixed tok.WordSwitch) = expect tok.WordSwitch >> switch
statement_by (kind.Fixed tok.WordReturn) = expect tok.WordReturn >> (returned >>= λ r. expect tok.Semicolon >> pure (return_of r))
statement_by _ = refuse part.InStatement

unfoldable pub statement : Parser tree.Stmt
statement = peek >>= statement_by

abbrev pub not_brace : Kind → Bool
not_brace (kind.Fixed tok.RightBrace) = false
not_brace _ = true

unfoldable pub statements : Parser (List tree.Stmt)
statements = all not_brace statement

-- ---- values of the code

abbrev pub option_of : Option Arg → Option tree.Arg
option_of None = None
option_of (Some a) = Some (arg_of a)
