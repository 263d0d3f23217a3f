-- What the names of a unit stand for at a place of its text (C11, 6.2.1 scopes of identifiers),
-- and the types of expressions (C11, 6.5).
use Rattle.std.specs.Prelude.{ℕ, ◌||◌, not, Bool, true, false, if◌then◌else◌, List, [], ◌∷◌, ◌++◌, map, filter_map, bytes_eq, is_some}
use Rattle.std.specs.Prelude.{Option, Some, None, option_map, codes}
use Rattle.std.specs.List.{list_any}
use Rattle.w2c_base.specs.Lookup.{if_found, named}
use Rattle.c_tree.specs.declared.tree.CType.{CType}
use Rattle.c_tree.specs.declared.tree.CType.TheVariants as type
use Rattle.c_tree.specs.declared.tree.Num.{Num}
use Rattle.c_tree.specs.declared.tree.Num.TheVariants.{N32, N64, Plain}
use Rattle.c_tree.specs.declared.tree.COp.{COp}
use Rattle.c_tree.specs.declared.tree.COp.TheVariants as op
use Rattle.c_tree.specs.Tree as tree
use Rattle.c_tree.specs.Runtime.{primitives, same_type}

abbrev pub Name : Type 0
Name = List ℕ

abbrev pub is_among : Name → List Name → Bool
is_among name names = list_any (bytes_eq name) names

-- ---- names

abbrev pub name_of : tree.Item → Name
name_of (tree.Array name count bytes) = name
name_of (tree.Var t name number) = name
name_of (tree.Function f) = f.name

-- the function that an item declares
abbrev pub func_in : tree.Item → Option tree.Func
func_in (tree.Array name count bytes) = None
func_in (tree.Var t name number) = None
func_in (tree.Function f) = Some f

abbrev pub func_type_of : tree.Func → tree.FuncType
func_type_of f = record { params = map (λ p. p.0) f.params; result = f.result }

abbrev pub variable_of : tree.Item → Option (Name × CType)
variable_of (tree.Array name count bytes) = None
variable_of (tree.Var t name number) = Some (name, t)
variable_of (tree.Function f) = None

abbrev pub array_of : tree.Item → Option Name
array_of (tree.Array name count bytes) = Some name
array_of (tree.Var t name number) = None
array_of (tree.Function f) = None

abbrev pub function_of : tree.Item → Option (Name × tree.FuncType)
function_of (tree.Array name count bytes) = None
function_of (tree.Var t name number) = None
function_of (tree.Function f) = Some (f.name, func_type_of f)

-- where a statement stands: what the text declares up to its function, which is declared too, the
-- function, and its body
pub record Scope : Type 0 where
  pub declared : List tree.Item
  pub func : tree.Func
  pub body : tree.Body

abbrev named_param : tree.Param → Option (Name × CType)
named_param p = option_map (λ name. (name, p.0)) p.1

-- the names and types of a function's parameters, and of its local variables
abbrev pub param_variables : tree.Func → List (Name × CType)
param_variables f = filter_map named_param f.params

abbrev pub local_variables : tree.Body → List (Name × CType)
local_variables b = map (λ l. (l.1, l.0)) b.locals

-- variables of file scope, and with them parameters, local variables and the runtime's one
abbrev pub file_variables : Scope → List (Name × CType)
file_variables s = filter_map variable_of s.declared

abbrev pub variables : Scope → List (Name × CType)
variables s = param_variables s.func ++ (local_variables s.body ++ (file_variables s ++ (codes "w2c_depth", type.U32) ∷ []))

abbrev pub arrays : Scope → List Name
arrays s = filter_map array_of s.declared

-- functions that the unit declares, and with them the runtime's
abbrev pub file_functions : Scope → List (Name × tree.FuncType)
file_functions s = filter_map function_of s.declared

abbrev pub functions : Scope → List (Name × tree.FuncType)
functions s = file_functions s ++ primitives

-- ---- types

abbrev pub is_number_type : CType → Bool
is_number_type t = same_type t type.U32 || same_type t type.U64

abbrev pub is_object_type : CType → Bool
is_object_type t = same_type t type.Mem || same_type t type.Tab

abbrev pub is_comparison : COp → Bool
is_comparison op.Eq = true
is_comparison op.Ne = true
is_comparison op.Lt = true
is_comparison op.Le = true
is_comparison op.Gt = true
is_comparison op.Ge = true
is_comparison _ = false

-- what a pointer to a number points to
abbrev pub pointed_by : CType → Option CType
pointed_by type.PtrU32 = Some type.U32
pointed_by type.PtrU64 = Some type.U64
pointed_by _ = None

abbrev pub pointer_to : CType → Option CType
pointer_to type.U32 = Some type.PtrU32
pointer_to type.U64 = Some type.PtrU64
pointer_to type.Mem = Some type.PtrMem
pointer_to type.Tab = Some type.PtrTab
pointer_to _ = None

-- What an expression is: a value of a type, a comparison of two numbers, an element of an array,
-- or none of these, where it is ill typed.
pub data Typing : Type 0 where
  HasType : CType → Typing
  Compares : Typing
  IsElement : Typing
  IllTyped : Typing

abbrev pub value_type : Typing → Option CType
value_type (HasType t) = Some t
value_type _ = None

abbrev pub number_type : Typing → Option CType
number_type (HasType t) = if is_number_type t then Some t else None
number_type _ = None

-- what may stand under (u32): a number, a comparison, or an element
abbrev pub may_be_narrowed : Typing → Bool
may_be_narrowed (HasType t) = is_number_type t
may_be_narrowed Compares = true
may_be_narrowed IsElement = true
may_be_narrowed IllTyped = false

abbrev pub typed_if : Bool → Typing → Typing
typed_if b t = if b then t else IllTyped

-- a variable by its type: memories and tables are no values
abbrev pub name_typing : Option CType → Typing
name_typing None = IllTyped
name_typing (Some t) = typed_if (not (is_object_type t)) (HasType t)

abbrev pub value_typing : Option CType → Typing
value_typing None = IllTyped
value_typing (Some t) = HasType t

abbrev pub num_typing : Num → Typing
num_typing (N32 v) = HasType type.U32
num_typing (N64 v) = HasType type.U64
num_typing (Plain v) = IllTyped

-- the one type of both operands, which are numbers
abbrev pub common_type : Typing → Typing → Option CType
common_type left right = if_found (number_type left) (λ t. if_found (number_type right) (λ u. if same_type t u then Some t else None))

abbrev pub op_typing : COp → Option CType → Typing
op_typing o None = IllTyped
op_typing o (Some t) = if is_comparison o then Compares else HasType t

abbrev pub typing_of : Scope → tree.Expr → Typing
typing_of s (tree.Name n) = name_typing (named n (variables s))
typing_of s (tree.At n i) = typed_if (is_some (number_type (typing_of s i))) IsElement
typing_of s (tree.Number v) = num_typing v
typing_of s (tree.To32 e) = typed_if (may_be_narrowed (typing_of s e)) (HasType type.U32)
typing_of s (tree.To64 e) = typed_if (is_some (number_type (typing_of s e))) (HasType type.U64)
typing_of s (tree.Star n) = value_typing (if_found (named n (variables s)) pointed_by)
typing_of s (tree.Op o a b) = op_typing o (common_type (typing_of s a) (typing_of s b))

-- the type of an expression that is a value
abbrev pub type_of : Scope → tree.Expr → Option CType
type_of s e = value_type (typing_of s e)
