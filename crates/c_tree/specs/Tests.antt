-- Well formed units by tests that compute, where so many expressions may stand inside one another.
use Rattle.std.specs.Prelude.{ℕ, ◌-◌, ◌^◌, Bool, true, ◌&&◌, nat_lt, List, length, Option, Some, None}
use Rattle.std.specs.List.{list_all}
use Rattle.c_tree.specs.declared.tree.Num.{Num}
use Rattle.c_tree.specs.declared.tree.Num.TheVariants.{N32, N64, Plain}
use Rattle.c_tree.specs.Tree as tree
use Rattle.c_tree.specs.WellFormed.{is_name}

abbrev pub number_fits : Num → Bool
number_fits (N32 n) = nat_lt n (2 ^ 32)
number_fits (N64 n) = nat_lt n (2 ^ 64)
number_fits (Plain n) = nat_lt n (2 ^ 32)

abbrev pub expr_formed : ℕ → tree.Expr → Bool
expr_formed d (tree.Name n) = nat_lt 0 d && is_name n
expr_formed d (tree.At n i) = nat_lt 0 d && (is_name n && expr_formed (d - 1) i)
expr_formed d (tree.Number n) = nat_lt 0 d && number_fits n
expr_formed d (tree.To32 e) = nat_lt 0 d && expr_formed (d - 1) e
expr_formed d (tree.To64 e) = nat_lt 0 d && expr_formed (d - 1) e
expr_formed d (tree.Star n) = nat_lt 0 d && is_name n
expr_formed d (tree.Op o a b) = nat_lt 0 d && (expr_formed (d - 1) a && expr_formed (d - 1) b)

abbrev pub arg_formed : ℕ → tree.Arg → Bool
arg_formed d (tree.Value e) = expr_formed d e
arg_formed d (tree.Address n) = is_name n
arg_formed d (tree.OfFunction n) = is_name n

abbrev pub callee_formed : tree.Callee → Bool
callee_formed (tree.Called n) = is_name n
callee_formed (tree.Through t n) = is_name n && nat_lt 0 (length t.params)

abbrev pub named_if_any : Option (List ℕ) → Bool
named_if_any None = true
named_if_any (Some n) = is_name n

abbrev pub case_formed : tree.Case → Bool
case_formed c = number_fits c.0 && is_name c.1

abbrev pub call_formed : ℕ → tree.Callee → List tree.Arg → Bool
call_formed d f args = callee_formed f && list_all (arg_formed d) args

-- the arguments of a call whose value is assigned stand inside the right side
abbrev pub call_room : ℕ → Option (List ℕ) → ℕ
call_room d None = d
call_room d (Some n) = d - 1

abbrev pub stmt_formed : ℕ → tree.Stmt → Bool
stmt_formed d (tree.Label n) = is_name n
stmt_formed d tree.Null = true
stmt_formed d (tree.Set n a) = is_name n && arg_formed d a
stmt_formed d (tree.SetStar n e) = is_name n && expr_formed d e
stmt_formed d (tree.Call target f args) = named_if_any target && call_formed (call_room d target) f args
stmt_formed d (tree.Goto n) = is_name n
stmt_formed d (tree.If o a b n) = is_name n && (expr_formed d a && expr_formed d b)
stmt_formed d (tree.Switch e cases n) = is_name n && (expr_formed d e && list_all case_formed cases)
stmt_formed d tree.ReturnNone = true
stmt_formed d (tree.Return a) = arg_formed d a

abbrev pub local_formed : tree.Local → Bool
local_formed l = is_name l.1 && number_fits l.2

abbrev pub param_formed : tree.Param → Bool
param_formed p = named_if_any p.1

abbrev pub body_formed : ℕ → Option tree.Body → Bool
body_formed d None = true
body_formed d (Some b) = list_all local_formed b.locals && list_all (stmt_formed d) b.stmts

abbrev pub value_formed : Option Num → Bool
value_formed None = true
value_formed (Some n) = number_fits n

abbrev pub is_byte : ℕ → Bool
is_byte b = nat_lt b 256

abbrev pub bytes_formed : List ℕ → Bool
bytes_formed bytes = nat_lt 0 (length bytes) && list_all is_byte bytes

abbrev pub item_formed : ℕ → tree.Item → Bool
item_formed d (tree.Array n count bytes) = is_name n && (nat_lt count (2 ^ 32) && bytes_formed bytes)
item_formed d (tree.Var t n v) = is_name n && value_formed v
item_formed d (tree.Function f) = is_name f.name && (nat_lt 0 (length f.params) && (list_all param_formed f.params && body_formed d f.body))
