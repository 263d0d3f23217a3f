-- The twelve rules that a unit of the C subset keeps, each by what it asks of an item or of a
-- statement. They stand for C11's constraints, and for what the subset leaves out of C.
use Rattle.std.specs.Prelude.{ℕ, ◌-◌, ◌==◌, ◌&&◌, ◌||◌, not, nat_le, nat_eq, Bool, true, false, if◌then◌else◌, List, [], ◌∷◌, ◌++◌, length}
use Rattle.std.specs.Prelude.{map, flat_map, filter_map, take, bytes_eq, is_some, Option, Some, None, codes}
use Rattle.std.specs.List.{list_any, list_all, starts_with}
use Rattle.w2c_base.specs.Lookup.{if_found, named}
use Rattle.c_tree.specs.declared.tree.CType.{CType}
use Rattle.c_tree.specs.declared.tree.CType.TheVariants as type
use Rattle.c_tree.specs.declared.tree.Num.{Num}
use Rattle.c_tree.specs.declared.tree.Num.TheVariants.{N32, N64, Plain}
use Rattle.c_tree.specs.Tree as tree
use Rattle.c_tree.specs.Runtime.{same_type, same_func_type}
use Rattle.c_tree.specs.Scope.{Name, Scope, is_among, name_of, func_type_of, param_variables, local_variables, file_variables, variables}
use Rattle.c_tree.specs.Scope.{arrays, file_functions, functions, is_number_type, is_object_type, is_comparison, pointer_to, pointed_by}
use Rattle.c_tree.specs.Scope.{type_of, common_type, typing_of}

-- an item of a unit, with its number from 0
pub record Place : Type 0 where
  pub unit : List tree.Item
  pub number : ℕ
  pub item : tree.Item

abbrev pub earlier_items : Place → List tree.Item
earlier_items p = take p.number p.unit

-- a statement of a function's body, with its number from 1 and the names of its scope
pub record StmtPlace : Type 0 where
  pub scope : Scope
  pub number : ℕ
  pub stmt : tree.Stmt

abbrev pub earlier_stmts : StmtPlace → List tree.Stmt
earlier_stmts p = take (p.number - 1) p.scope.body.stmts

-- where something is, what it asks; where nothing is, nothing
abbrev pub if_any : {A : Type 0} → Option A → (A → Bool) → Bool
if_any None test = true
if_any (Some a) test = test a

abbrev pub are_distinct : List Name → Bool
are_distinct [] = true
are_distinct (name ∷ names) = not (is_among name names) && are_distinct names

-- ---- 1: declarations of one name (C11, 6.7 paragraphs 3 and 4, 6.9 paragraph 5). A variable or an
-- array is declared once. A function may be declared again, alike in type and linkage, and has at
-- most one body. The later of two items that clash breaks the rule.

abbrev pub has_body : tree.Item → Bool
has_body item = elim item [ tree.Function f ↦ is_some f.body | _ ↦ false ]

abbrev same_bool : Bool → Bool → Bool
same_bool true b = b
same_bool false b = not b

-- both declare a function of one type and one linkage
abbrev pub are_alike : tree.Item → tree.Item → Bool
are_alike (tree.Function f) (tree.Function g) = same_bool f.is_static g.is_static && same_func_type (func_type_of f) (func_type_of g)
are_alike _ _ = false

abbrev pub may_both_stand : tree.Item → tree.Item → Bool
may_both_stand a b = are_alike a b && not (has_body a && has_body b)

abbrev pub is_declared_once : Place → Bool
is_declared_once p = list_all (λ other. not (bytes_eq (name_of other) (name_of p.item)) || may_both_stand other p.item) (earlier_items p)

-- ---- 2: reserved names (C11, 7.1.3). No declared name is one of the runtime. A function that
-- other units see has a name for them, and nothing else has.

abbrev pub is_runtime_name : Name → Bool
is_runtime_name name = starts_with nat_eq name (codes "w2c_")

abbrev pub is_symbol : Name → Bool
is_symbol name = starts_with nat_eq name (codes "w2cZ_")

abbrev pub is_own_name : Name → Bool
is_own_name name = not (is_runtime_name name) && not (is_symbol name)

abbrev pub file_name_is_free : tree.Item → Bool
file_name_is_free (tree.Function f) = if f.is_static then is_own_name f.name else is_symbol f.name
file_name_is_free item = is_own_name (name_of item)

-- the names of a function's parameters and local variables
abbrev pub body_variables : tree.Func → List (Name × CType)
body_variables f = param_variables f ++ elim f.body [ None ↦ [] | Some b ↦ local_variables b ]

abbrev pub local_names : tree.Item → List Name
local_names item = elim item [ tree.Function f ↦ map (λ v. v.0) (body_variables f) | _ ↦ [] ]

abbrev pub names_are_free : Place → Bool
names_are_free p = file_name_is_free p.item && list_all is_own_name (local_names p.item)

abbrev pub label_is_free : StmtPlace → Bool
label_is_free p = elim p.stmt [ tree.Label name ↦ is_own_name name | _ ↦ true ]

-- ---- 3: the types of what is declared (C11, 6.2.5, 6.7.6.2, 6.7.6.3 paragraph 10). Variables are
-- not void; memories and tables are variables of file scope alone; a parameter is void only as the
-- whole list; an array has as many bytes as it says, and one at least.

abbrev pub is_void : CType → Bool
is_void t = same_type t type.Void

abbrev pub is_value_type : CType → Bool
is_value_type t = not (is_void t) && not (is_object_type t)

abbrev pub is_result_type : CType → Bool
is_result_type t = not (is_object_type t)

-- the list `void` stands for no parameters
abbrev pub proper_params : List tree.Param → List tree.Param
proper_params ((type.Void, None) ∷ []) = []
proper_params params = params

abbrev pub proper_types : List CType → List CType
proper_types (type.Void ∷ []) = []
proper_types types = types

abbrev pub locals_have_values : Option tree.Body → Bool
locals_have_values body = if_any body (λ b. list_all (λ v. is_value_type v.1) (local_variables b))

abbrev pub types_are_proper : Place → Bool
types_are_proper p = elim p.item [
  | tree.Array name count bytes ↦ nat_le 1 count && (count == length bytes)
  | tree.Var t name number ↦ not (is_void t)
  | tree.Function f ↦ (is_result_type f.result && list_all (λ (q : tree.Param). is_value_type q.0) (proper_params f.params))
      && locals_have_values f.body
]

abbrev pub written_type_is_proper : StmtPlace → Bool
written_type_is_proper p = elim p.stmt [
  | tree.Call target callee args ↦ elim callee [
    | tree.Called name ↦ true
    | tree.Through t name ↦ is_result_type t.result && list_all is_value_type (proper_types t.params)
  ]
  | _ ↦ true
]

-- ---- 4: first values (C11, 6.7.9 paragraph 11): a number of the variable's type, 0 for a pointer
-- and an element of a table, none for a memory or a table

abbrev pub number_suits : CType → Num → Bool
number_suits type.U32 (N32 n) = true
number_suits type.U64 (N64 n) = true
number_suits type.PtrU32 (Plain n) = n == 0
number_suits type.PtrU64 (Plain n) = n == 0
number_suits type.PtrMem (Plain n) = n == 0
number_suits type.PtrTab (Plain n) = n == 0
number_suits type.FnPtr (Plain n) = n == 0
number_suits _ _ = false

abbrev pub locals_suit : Option tree.Body → Bool
locals_suit body = if_any body (λ b. list_all (λ (l : tree.Local). number_suits l.0 l.2) b.locals)

abbrev pub first_values_suit : Place → Bool
first_values_suit p = elim p.item [
  | tree.Array name count bytes ↦ true
  | tree.Var t name number ↦ if_any number (number_suits t)
  | tree.Function f ↦ locals_suit f.body
]

-- ---- 5: a static function that is declared is defined (C11, 6.9 paragraph 3)

abbrev pub defines : Name → tree.Item → Bool
defines name item = bytes_eq (name_of item) name && has_body item

abbrev pub is_defined_if_static : Place → Bool
is_defined_if_static p = elim p.item [ tree.Function f ↦ not f.is_static || list_any (defines f.name) p.unit | _ ↦ true ]

-- ---- 6: names of a function's own (C11, 6.9.1 paragraph 5, 6.2.1 paragraph 4, 6.7 paragraph 3).
-- The parameters of a definition have names, all those of parameters and local variables are
-- distinct, and none hides a name of file scope.

abbrev pub params_are_named : tree.Func → Bool
params_are_named f = not (is_some f.body) || list_all (λ (q : tree.Param). is_some q.1) (proper_params f.params)

abbrev pub hides_none : List tree.Item → List Name → Bool
hides_none unit names = list_all (λ name. not (is_among name (map name_of unit))) names

abbrev pub own_names_are_distinct : Place → Bool
own_names_are_distinct p = elim p.item [
  | tree.Function f ↦ params_are_named f && (are_distinct (local_names p.item) && hides_none p.unit (local_names p.item))
  | _ ↦ true
]

-- ---- 7: labels (C11, 6.8.1 paragraph 3, 6.8.6.1): those of a function are distinct, and each that
-- is named is there

abbrev pub label_of : tree.Stmt → Option Name
label_of stmt = elim stmt [ tree.Label name ↦ Some name | _ ↦ None ]

abbrev pub labels_of : List tree.Stmt → List Name
labels_of stmts = filter_map label_of stmts

abbrev pub labels_named : tree.Stmt → List Name
labels_named (tree.Goto name) = name ∷ []
labels_named (tree.If o a b name) = name ∷ []
labels_named (tree.Switch e cases name) = map (λ (c : tree.Case). c.1) cases ++ name ∷ []
labels_named _ = []

abbrev pub labels_are_there : StmtPlace → Bool
labels_are_there p =
    if_any (label_of p.stmt) (λ name. not (is_among name (labels_of (earlier_stmts p))))
    && list_all (λ name. is_among name (labels_of p.scope.body.stmts)) (labels_named p.stmt)

-- ---- 8: names that are used (C11, 6.5.1, 6.5.2.1, 6.5.2.2): each is declared earlier and of the
-- kind that its place needs

pub data Use : Type 0 where
  AsVariable AsArray AsFunction : Name → Use

abbrev pub expr_uses : tree.Expr → List Use
expr_uses (tree.Name n) = AsVariable n ∷ []
expr_uses (tree.At n i) = AsArray n ∷ expr_uses i
expr_uses (tree.Number v) = []
expr_uses (tree.To32 e) = expr_uses e
expr_uses (tree.To64 e) = expr_uses e
expr_uses (tree.Star n) = AsVariable n ∷ []
expr_uses (tree.Op o a b) = expr_uses a ++ expr_uses b

abbrev pub arg_uses : tree.Arg → List Use
arg_uses (tree.Value e) = expr_uses e
arg_uses (tree.Address n) = AsVariable n ∷ []
arg_uses (tree.OfFunction n) = AsFunction n ∷ []

abbrev pub callee_uses : tree.Callee → List Use
callee_uses (tree.Called n) = AsFunction n ∷ []
callee_uses (tree.Through t n) = AsVariable n ∷ []

abbrev pub target_uses : Option Name → List Use
target_uses None = []
target_uses (Some n) = AsVariable n ∷ []

abbrev pub stmt_uses : tree.Stmt → List Use
stmt_uses (tree.Set n a) = AsVariable n ∷ arg_uses a
stmt_uses (tree.SetStar n e) = AsVariable n ∷ expr_uses e
stmt_uses (tree.Call target f args) = target_uses target ++ (callee_uses f ++ flat_map arg_uses args)
stmt_uses (tree.If o a b n) = expr_uses a ++ expr_uses b
stmt_uses (tree.Switch e cases n) = expr_uses e
stmt_uses (tree.Return a) = arg_uses a
stmt_uses _ = []

abbrev pub is_known : Scope → Use → Bool
is_known s (AsVariable n) = is_some (named n (variables s))
is_known s (AsArray n) = is_among n (arrays s)
is_known s (AsFunction n) = is_some (named n (functions s))

abbrev pub names_are_known : StmtPlace → Bool
names_are_known p = list_all (is_known p.scope) (stmt_uses p.stmt)

-- ---- 9: expressions (C11, 6.5.3.2, 6.5.4 to 6.5.14, 6.8.4.1). Each has a type, as Scope has it;
-- what is assigned to is no memory or table; what a statement assigns through is a pointer to a
-- number; what is called through a name is an element of a table; and `if` compares. The rule
-- speaks of the types of names, so it asks nothing where a name is not known.

abbrev pub has_type : Scope → tree.Expr → Bool
has_type s e = is_some (type_of s e)

abbrev pub arg_has_type : Scope → tree.Arg → Bool
arg_has_type s arg = elim arg [ tree.Value e ↦ has_type s e | _ ↦ true ]

abbrev pub may_be_assigned : Scope → Name → Bool
may_be_assigned s n = if_any (named n (variables s)) (λ t. not (is_object_type t))

abbrev pub points_to_number : Scope → Name → Bool
points_to_number s n = is_some (if_found (named n (variables s)) pointed_by)

abbrev pub may_be_called : Scope → tree.Callee → Bool
may_be_called s (tree.Called n) = true
may_be_called s (tree.Through t n) = if_any (named n (variables s)) (λ u. same_type u type.FnPtr)

abbrev pub stmt_is_typed : Scope → tree.Stmt → Bool
stmt_is_typed s (tree.Set n a) = may_be_assigned s n && arg_has_type s a
stmt_is_typed s (tree.SetStar n e) = points_to_number s n && has_type s e
stmt_is_typed s (tree.Call target f args) = (if_any target (may_be_assigned s) && may_be_called s f) && list_all (arg_has_type s) args
stmt_is_typed s (tree.If o a b n) = is_comparison o && is_some (common_type (typing_of s a) (typing_of s b))
stmt_is_typed s (tree.Switch e cases n) = has_type s e
stmt_is_typed s (tree.Return a) = arg_has_type s a
stmt_is_typed s _ = true

abbrev pub expressions_are_typed : StmtPlace → Bool
expressions_are_typed p = not (names_are_known p) || stmt_is_typed p.scope p.stmt

-- ---- 10: assignments, calls and results (C11, 6.5.2.2, 6.5.16.1, 6.8.6.4) have the declared types.
-- An address is that of a variable of file scope, a function that is a value is one of the unit.
-- It asks nothing of a part that another rule leaves without a type.

abbrev pub has_same_type : Option CType → CType → Bool
has_same_type found t = if_any found (same_type t)

abbrev pub arg_suits : Scope → CType → tree.Arg → Bool
arg_suits s t (tree.Value e) = has_same_type (type_of s e) t
arg_suits s t (tree.Address n) = elim (if_found (named n (file_variables s)) pointer_to) [ None ↦ false | Some u ↦ same_type t u ]
arg_suits s t (tree.OfFunction n) = is_some (named n (file_functions s)) && same_type t type.FnPtr

abbrev pub args_suit : Scope → List CType → List tree.Arg → Bool
args_suit s [] [] = true
args_suit s (t ∷ types) (a ∷ args) = arg_suits s t a && args_suit s types args
args_suit s _ _ = false

abbrev pub callee_type : Scope → tree.Callee → Option tree.FuncType
callee_type s (tree.Called n) = named n (functions s)
callee_type s (tree.Through t n) = Some t

abbrev pub target_suits : Scope → CType → Option Name → Bool
target_suits s result target = if_any target (λ n. not (is_void result) && has_same_type (named n (variables s)) result)

abbrev pub call_suits : Scope → Option Name → List tree.Arg → tree.FuncType → Bool
call_suits s target args t = args_suit s (proper_types t.params) args && target_suits s t.result target

abbrev pub stmt_suits : Scope → tree.Stmt → Bool
stmt_suits s (tree.Set n a) = if_any (named n (variables s)) (λ t. arg_suits s t a)
stmt_suits s (tree.SetStar n e) = if_any (if_found (named n (variables s)) pointed_by) (has_same_type (type_of s e))
stmt_suits s (tree.Call target f args) = if_any (callee_type s f) (call_suits s target args)
stmt_suits s tree.ReturnNone = is_void s.func.result
stmt_suits s (tree.Return a) = not (is_void s.func.result) && arg_suits s s.func.result a
stmt_suits s _ = true

abbrev pub types_agree : StmtPlace → Bool
types_agree p = not (names_are_known p) || stmt_suits p.scope p.stmt

-- ---- 11: the cases of a switch (C11, 6.8.4.2 paragraph 3) are distinct numbers of its type

abbrev pub case_value : tree.Case → ℕ
case_value c = elim c.0 [ N32 n ↦ n | N64 n ↦ n | Plain n ↦ n ]

abbrev pub are_distinct_numbers : List ℕ → Bool
are_distinct_numbers [] = true
are_distinct_numbers (n ∷ ns) = not (list_any (λ m. m == n) ns) && are_distinct_numbers ns

abbrev pub cases_suit : List tree.Case → CType → Bool
cases_suit cases t = is_number_type t && list_all (λ (c : tree.Case). number_suits t c.0) cases

abbrev pub cases_are_distinct : StmtPlace → Bool
cases_are_distinct p = elim p.stmt [
  | tree.Switch e cases name ↦ if_any (type_of p.scope e) (cases_suit cases) && are_distinct_numbers (map case_value cases)
  | _ ↦ true
]

-- ---- 12: no body ends without a jump (C11, 6.9.1 paragraph 12): its last statement is a return, a
-- goto, a switch or a call of the runtime's trap

abbrev pub ends_body : tree.Stmt → Bool
ends_body (tree.Goto name) = true
ends_body (tree.Switch e cases name) = true
ends_body tree.ReturnNone = true
ends_body (tree.Return a) = true
ends_body (tree.Call target (tree.Called name) args) = bytes_eq name (codes "w2c_trap")
ends_body _ = false

abbrev pub body_is_not_empty : Place → Bool
body_is_not_empty p = elim p.item [ tree.Function f ↦ if_any f.body (λ b. nat_le 1 (length b.stmts)) | _ ↦ true ]

abbrev pub last_ends_body : StmtPlace → Bool
last_ends_body p = not (p.number == length p.scope.body.stmts) || ends_body p.stmt

-- ---- the rules by their numbers

-- what each asks of an item, its parameters and its local variables
abbrev pub item_rules : List (ℕ × (Place → Bool))
item_rules =
    (1, is_declared_once) ∷ (2, names_are_free) ∷ (3, types_are_proper) ∷ (4, first_values_suit) ∷ (5, is_defined_if_static)
    ∷ (6, own_names_are_distinct) ∷ (12, body_is_not_empty) ∷ []

-- what each asks of a statement
abbrev pub stmt_rules : List (ℕ × (StmtPlace → Bool))
stmt_rules =
    (2, label_is_free) ∷ (3, written_type_is_proper) ∷ (7, labels_are_there) ∷ (8, names_are_known) ∷ (9, expressions_are_typed)
    ∷ (10, types_agree) ∷ (11, cases_are_distinct) ∷ (12, last_ends_body) ∷ []
