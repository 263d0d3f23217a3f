-- The tokens of a tree, in order.
use Rattle.std.specs.Prelude.{ℕ, Bool, true, false, List, [], ◌∷◌, ◌++◌, Option, Some, None}
use Rattle.std.specs.Fmt.{decimal}
use Rattle.c_tree.specs.declared.token.Tok.TheVariants as tok
use Rattle.c_tree.specs.declared.tree.CType.{CType}
use Rattle.c_tree.specs.declared.tree.CType.TheVariants as type
use Rattle.c_tree.specs.declared.tree.Num.{Num}
use Rattle.c_tree.specs.declared.tree.Num.TheVariants.{N32, N64, Plain}
use Rattle.c_tree.specs.declared.tree.COp.{COp}
use Rattle.c_tree.specs.declared.tree.COp.TheVariants as op
use Rattle.c_tree.specs.declared.token.Suffix.TheVariants.{OfPlain, Of32, Of64}
use Rattle.c_tree.specs.Tree as tree
use Rattle.c_tree.specs.Tokens.{Token, Fixed, Named, Number}

-- what each gives, in order
abbrev pub each : {A B : Type 0} → (A → List B) → List A → List B
each f [] = []
each f (x ∷ xs) = f x ++ each f xs

-- with a comma between
abbrev pub separated : {A : Type 0} → (A → List Token) → List A → List Token
separated f [] = []
separated f (x ∷ xs) = f x ++ each (λ y. Fixed tok.Comma ∷ f y) xs

abbrev pub type_tokens : CType → List Token
type_tokens type.Void = Fixed tok.WordVoid ∷ []
type_tokens type.U32 = Fixed tok.WordU32 ∷ []
type_tokens type.U64 = Fixed tok.WordU64 ∷ []
type_tokens type.PtrU32 = Fixed tok.WordU32 ∷ Fixed tok.Star ∷ []
type_tokens type.PtrU64 = Fixed tok.WordU64 ∷ Fixed tok.Star ∷ []
type_tokens type.Mem = Fixed tok.WordW2cMem ∷ []
type_tokens type.PtrMem = Fixed tok.WordW2cMem ∷ Fixed tok.Star ∷ []
type_tokens type.Tab = Fixed tok.WordW2cTab ∷ []
type_tokens type.PtrTab = Fixed tok.WordW2cTab ∷ Fixed tok.Star ∷ []
type_tokens type.FnPtr = Fixed tok.WordW2cFn ∷ []

abbrev pub num_token : Num → Token
num_token (N32 n) = Number Of32 (decimal n)
num_token (N64 n) = Number Of64 (decimal n)
num_token (Plain n) = Number OfPlain (decimal n)

abbrev pub op_token : COp → Token
op_token op.Add = Fixed tok.Plus
op_token op.Sub = Fixed tok.Minus
op_token op.Mul = Fixed tok.Star
op_token op.Div = Fixed tok.Slash
op_token op.Rem = Fixed tok.Percent
op_token op.And = Fixed tok.Amp
op_token op.Or = Fixed tok.Bar
op_token op.Xor = Fixed tok.Caret
op_token op.Shl = Fixed tok.ShiftLeft
op_token op.Shr = Fixed tok.ShiftRight
op_token op.Eq = Fixed tok.Equal
op_token op.Ne = Fixed tok.NotEqual
op_token op.Lt = Fixed tok.Less
op_token op.Le = Fixed tok.LessEqual
op_token op.Gt = Fixed tok.Greater
op_token op.Ge = Fixed tok.GreaterEqual

abbrev pub expr_tokens : tree.Expr → List Token
expr_tokens (tree.Name n) = Named n ∷ []
expr_tokens (tree.At n i) = Named n ∷ Fixed tok.LeftBracket ∷ (expr_tokens i ++ Fixed tok.RightBracket ∷ [])
expr_tokens (tree.Number n) = num_token n ∷ []
expr_tokens (tree.To32 e) = Fixed tok.LeftParen ∷ Fixed tok.WordU32 ∷ Fixed tok.RightParen ∷ expr_tokens e
expr_tokens (tree.To64 e) = Fixed tok.LeftParen ∷ Fixed tok.WordU64 ∷ Fixed tok.RightParen ∷ expr_tokens e
expr_tokens (tree.Star n) = Fixed tok.LeftParen ∷ Fixed tok.Star ∷ Named n ∷ Fixed tok.RightParen ∷ []
expr_tokens (tree.Op o a b) = Fixed tok.LeftParen ∷ (expr_tokens a ++ (op_token o ∷ (expr_tokens b ++ Fixed tok.RightParen ∷ [])))

abbrev pub arg_tokens : tree.Arg → List Token
arg_tokens (tree.Value e) = expr_tokens e
arg_tokens (tree.Address n) = Fixed tok.Amp ∷ Named n ∷ []
arg_tokens (tree.OfFunction n) = Fixed tok.LeftParen ∷ Fixed tok.WordW2cFn ∷ Fixed tok.RightParen ∷ Named n ∷ []

-- ( * ( type ( * ) ( types ) ) name )
abbrev pub through_tokens : tree.FuncType → List ℕ → List Token
through_tokens t n =
    Fixed tok.LeftParen ∷ Fixed tok.Star ∷ Fixed tok.LeftParen
    ∷ (type_tokens t.result ++ (Fixed tok.LeftParen ∷ Fixed tok.Star ∷ Fixed tok.RightParen ∷ Fixed tok.LeftParen
    ∷ (separated type_tokens t.params
    ++ Fixed tok.RightParen ∷ Fixed tok.RightParen ∷ Named n ∷ Fixed tok.RightParen ∷ [])))

abbrev pub callee_tokens : tree.Callee → List Token
callee_tokens (tree.Called n) = Named n ∷ []
callee_tokens (tree.Through t n) = through_tokens t n

abbrev pub call_tokens : tree.Callee → List tree.Arg → List Token
call_tokens f args =
    callee_tokens f ++ (Fixed tok.LeftParen ∷ (separated arg_tokens args ++ Fixed tok.RightParen ∷ Fixed tok.Semicolon ∷ []))

abbrev pub goto_tokens : List ℕ → List Token
goto_tokens n = Fixed tok.WordGoto ∷ Named n ∷ Fixed tok.Semicolon ∷ []

abbrev pub case_tokens : tree.Case → List Token
case_tokens c = Fixed tok.WordCase ∷ num_token c.0 ∷ Fixed tok.Colon ∷ goto_tokens c.1

abbrev pub stmt_tokens : tree.Stmt → List Token
stmt_tokens (tree.Label n) = Named n ∷ Fixed tok.Colon ∷ []
stmt_tokens tree.Null = Fixed tok.Semicolon ∷ []
stmt_tokens (tree.Set n a) = Named n ∷ Fixed tok.Assign ∷ (arg_tokens a ++ Fixed tok.Semicolon ∷ [])
stmt_tokens (tree.SetStar n e) = Fixed tok.Star ∷ Named n ∷ Fixed tok.Assign ∷ (expr_tokens e ++ Fixed tok.Semicolon ∷ [])
stmt_tokens (tree.Call None f args) = call_tokens f args
stmt_tokens (tree.Call (Some n) f args) = Named n ∷ Fixed tok.Assign ∷ call_tokens f args
stmt_tokens (tree.Goto n) = goto_tokens n
stmt_tokens (tree.If o a b n) =
    Fixed tok.WordIf ∷ Fixed tok.LeftParen ∷ (expr_tokens a ++ (op_token o ∷ (expr_tokens b ++ Fixed tok.RightParen ∷ goto_tokens n)))
stmt_tokens (tree.Switch e cases n) =
    Fixed tok.WordSwitch ∷ Fixed tok.LeftParen
    ∷ (expr_tokens e ++ (Fixed tok.RightParen ∷ Fixed tok.LeftBrace
    ∷ (each case_tokens cases ++ (Fixed tok.WordDefault ∷ Fixed tok.Colon ∷ (goto_tokens n ++ Fixed tok.RightBrace ∷ [])))))
stmt_tokens tree.ReturnNone = Fixed tok.WordReturn ∷ Fixed tok.Semicolon ∷ []
stmt_tokens (tree.Return a) = Fixed tok.WordReturn ∷ (arg_tokens a ++ Fixed tok.Semicolon ∷ [])

abbrev pub local_tokens : tree.Local → List Token
local_tokens l = type_tokens l.0 ++ (Named l.1 ∷ Fixed tok.Assign ∷ num_token l.2 ∷ Fixed tok.Semicolon ∷ [])

abbrev pub maybe_name : Option (List ℕ) → List Token
maybe_name None = []
maybe_name (Some n) = Named n ∷ []

abbrev pub param_tokens : tree.Param → List Token
param_tokens p = type_tokens p.0 ++ maybe_name p.1

abbrev pub close_tokens : Option tree.Body → List Token
close_tokens None = Fixed tok.Semicolon ∷ []
close_tokens (Some b) = Fixed tok.LeftBrace ∷ (each local_tokens b.locals ++ (each stmt_tokens b.stmts ++ Fixed tok.RightBrace ∷ []))

abbrev pub static_tokens : Bool → List Token
static_tokens true = Fixed tok.WordStatic ∷ []
static_tokens false = []

abbrev pub func_tokens : tree.Func → List Token
func_tokens f =
    static_tokens f.is_static ++ (type_tokens f.result
    ++ (Named f.name ∷ Fixed tok.LeftParen ∷ (separated param_tokens f.params ++ (Fixed tok.RightParen ∷ close_tokens f.body))))

abbrev pub value_tokens : Option Num → List Token
value_tokens None = Fixed tok.Semicolon ∷ []
value_tokens (Some n) = Fixed tok.Assign ∷ num_token n ∷ Fixed tok.Semicolon ∷ []

abbrev pub item_tokens : tree.Item → List Token
item_tokens (tree.Array n count bytes) =
    Fixed tok.WordStatic ∷ Fixed tok.WordConst ∷ Fixed tok.WordU8 ∷ Named n ∷ Fixed tok.LeftBracket ∷ num_token (Plain count)
    ∷ Fixed tok.RightBracket ∷ Fixed tok.Assign ∷ Fixed tok.LeftBrace
    ∷ (separated (λ b. num_token (Plain b) ∷ []) bytes ++ Fixed tok.RightBrace ∷ Fixed tok.Semicolon ∷ [])
item_tokens (tree.Var t n v) = Fixed tok.WordStatic ∷ (type_tokens t ++ (Named n ∷ value_tokens v))
item_tokens (tree.Function f) = func_tokens f

abbrev pub unit_tokens : List tree.Item → List Token
unit_tokens items = Fixed tok.Include ∷ each item_tokens items
