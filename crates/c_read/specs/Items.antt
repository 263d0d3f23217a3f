-- Reading items (C11, 6.9), and units.
use Rattle.std.specs.Prelude.{ℕ, ◌^◌, Bool, true, false, List, Option, Some, None, if◌then◌else◌}
use Rattle.c_tree.specs.declared.token.Tok.TheVariants as tok
use Rattle.c_tree.specs.declared.token.Part.TheVariants as part
use Rattle.c_tree.specs.declared.token.Kind.{Kind}
use Rattle.c_tree.specs.declared.token.Kind.TheVariants as kind
use Rattle.c_tree.specs.declared.tree.CType.{CType}
use Rattle.c_tree.specs.Tree as tree
use Rattle.c_tree.specs.Grammar.{begins_type}
use Rattle.c_lex.specs.Reading.{Parser, ◌>>=◌, ◌>>◌, pure, peek, refuse, expect, name, number, plain}
use Rattle.c_read.specs.Lists.{all, behind_comma, and_more}
use Rattle.c_read.specs.Types.{ctype}
use Rattle.c_read.specs.Statements.{statements}

-- ---- arrays

unfoldable pub byte : Parser ℕ
byte = plain 256

unfoldable pub next_byte : Parser ℕ
next_byte = behind_comma byte

unfoldable pub more_bytes : ℕ → Parser (List ℕ)
more_bytes b = and_more next_byte b

unfoldable pub array_bytes : Parser (List ℕ)
array_bytes = byte >>= more_bytes

-- an array behind the word static
unfoldable pub array : Parser tree.Item
array = expect tok.WordConst >> (expect tok.WordU8 >>
    (name >>= λ n. expect tok.LeftBracket >>
    (plain (2 ^ 32) >>= λ count. expect tok.RightBracket >>
    (expect tok.Assign >> (expect tok.LeftBrace >>
    (array_bytes >>= λ bs. expect tok.RightBrace >> (expect tok.Semicolon >> pure (tree.Array n count bs))))))))

-- ---- functions

abbrev pub pname_by : Kind → Parser (Option (List ℕ))
pname_by kind.Name = name >>= λ n. pure (Some n)
pname_by _ = pure None

unfoldable pub pname : Parser (Option (List ℕ))
pname = peek >>= pname_by

unfoldable pub param : Parser tree.Param
param = ctype >>= λ t. pname >>= λ n. pure (t, n)

unfoldable pub next_param : Parser tree.Param
next_param = behind_comma param

unfoldable pub more_params : tree.Param → Parser (List tree.Param)
more_params p = and_more next_param p

unfoldable pub params : Parser (List tree.Param)
params = param >>= more_params

unfoldable pub declaration : Parser tree.Local
declaration = ctype >>= λ t. name >>= λ n. expect tok.Assign >> (number >>= λ v. expect tok.Semicolon >> pure (t, n, v))

unfoldable pub declarations : Parser (List tree.Local)
declarations = all begins_type declaration

abbrev pub body_from : List tree.Local → List tree.Stmt → tree.Body
body_from locals stmts = record { locals = locals; stmts = stmts }

unfoldable pub body : Parser tree.Body
body = declarations >>= λ locals. statements >>= λ stmts. pure (body_from locals stmts)

abbrev pub close_by : Kind → Parser (Option tree.Body)
close_by (kind.Fixed tok.Semicolon) = expect tok.Semicolon >> pure None
close_by (kind.Fixed tok.LeftBrace) = expect tok.LeftBrace >> (body >>= λ b. expect tok.RightBrace >> pure (Some b))
close_by _ = refuse part.InClose

unfoldable pub close : Parser (Option tree.Body)
close = peek >>= close_by

abbrev pub func_from : Bool → CType → List ℕ → List tree.Param → Option tree.Body → tree.Item
func_from is_static result name params body =
    tree.Function (record { is_static = is_static; result = result; name = name; params = params; body = body })

-- a function from its parameters on
unfoldable pub function : Bool → CType → List ℕ → Parser tree.Item
function is_static t n = params >>= λ ps. expect tok.RightParen >> (close >>= λ b. pure (func_from is_static t n ps b))

-- ---- items

-- what follows the type and the name of what is static
abbrev pub rest_by : CType → List ℕ → Kind → Parser tree.Item
rest_by t n (kind.Fixed tok.Semicolon) = expect tok.Semicolon >> pure (tree.Var t n None)
rest_by t n (kind.Fixed tok.Assign) = expect tok.Assign >> (number >>= λ v. expect tok.Semicolon >> pure (tree.Var t n (Some v)))
rest_by t n (kind.Fixed tok.LeftParen) = expect tok.LeftParen >> function true t n
rest_by t n _ = refuse part.InRest

unfoldable pub rest : CType → List ℕ → Parser tree.Item
rest t n = peek >>= rest_by t n

unfoldable pub static_rest : Parser tree.Item
static_rest = ctype >>= λ t. name >>= λ n. rest t n

-- what stands behind the word static and is no type
abbrev pub inner_by : Kind → Parser tree.Item
inner_by (kind.Fixed tok.WordConst) = array
inner_by _ = refuse part.InInner

-- what stands behind the word static
unfoldable pub inner : Parser tree.Item
inner = peek >>= λ k. λ ls. if begins_type k then static_rest ls else inner_by k ls

-- a function that is not static
unfoldable pub external : Parser tree.Item
external = ctype >>= λ t. name >>= λ n. expect tok.LeftParen >> function false t n

-- an item that does not begin with a type
abbrev pub item_by : Kind → Parser tree.Item
item_by (kind.Fixed tok.WordStatic) = expect tok.WordStatic >> inner
item_by _ = refuse part.InItem

unfoldable pub item : Parser tree.Item
item = peek >>= λ k. λ ls. if begins_type k then external ls else item_by k ls

abbrev pub not_end : Kind → Bool
not_end (kind.Fixed tok.End) = false
not_end _ = true

unfoldable pub items : Parser (List tree.Item)
items = all not_end item

-- the include line and the items
unfoldable pub unit : Parser (List tree.Item)
unit = expect tok.Include >> items
