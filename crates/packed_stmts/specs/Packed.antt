-- The bytes that stand for the parts of statements until these are printed. Only proofs cite these definitions: what callers are told
-- speaks of lists of statements.
use Rattle.std.specs.Prelude.{ℕ, ◌/◌, ◌%◌, nat_lt, if◌then◌else◌, List, [], ◌∷◌, ◌++◌, length, flat_map, Option, Some, None}
use Rattle.c_tree.specs.declared.tree.CType.{CType}
use Rattle.c_tree.specs.declared.tree.CType.TheVariants as type
use Rattle.c_tree.specs.declared.tree.COp.{COp}
use Rattle.c_tree.specs.declared.tree.COp.TheVariants as op
use Rattle.c_tree.specs.declared.tree.Num.{Num}
use Rattle.c_tree.specs.declared.tree.Num.TheVariants.{N32, N64, Plain}
use Rattle.c_tree.specs.Tree as tree

-- ---- numbers

-- four bytes, the lowest first; the last has all that the others have not
unfoldable pub word : ℕ → List ℕ
word n = n % 256 ∷ n / 256 % 256 ∷ n / 256 / 256 % 256 ∷ n / 256 / 256 / 256 ∷ []

-- eight
unfoldable pub long : ℕ → List ℕ
long n = word (n % 4294967296) ++ word (n / 4294967296)

-- one byte, where the number is small
unfoldable pub narrow : (ℕ → List ℕ) → ℕ → List ℕ
narrow wide n = if nat_lt n 255 then n ∷ [] else 255 ∷ wide n

unfoldable pub size_code : ℕ → List ℕ
size_code n = narrow long n

unfoldable pub word_code : ℕ → List ℕ
word_code n = narrow word n

-- ---- pieces

-- how many, and each of them
abbrev pub list_code : {A : Type 0} → (A → List ℕ) → List A → List ℕ
list_code code xs = size_code (length xs) ++ flat_map code xs

unfoldable pub name_code : List ℕ → List ℕ
name_code n = size_code (length n) ++ n

abbrev pub target_code : Option (List ℕ) → List ℕ
target_code None = 0 ∷ []
target_code (Some n) = 1 ∷ name_code n

abbrev pub num_code : Num → List ℕ
num_code (N32 n) = 0 ∷ word_code n
num_code (N64 n) = 1 ∷ size_code n
num_code (Plain n) = 2 ∷ size_code n

abbrev pub type_code : CType → ℕ
type_code type.Void = 0
type_code type.U32 = 1
type_code type.U64 = 2
type_code type.PtrU32 = 3
type_code type.PtrU64 = 4
type_code type.Mem = 5
type_code type.PtrMem = 6
type_code type.Tab = 7
type_code type.PtrTab = 8
type_code type.FnPtr = 9

abbrev pub op_code : COp → ℕ
op_code op.Add = 0
op_code op.Sub = 1
op_code op.Mul = 2
op_code op.Div = 3
op_code op.Rem = 4
op_code op.And = 5
op_code op.Or = 6
op_code op.Xor = 7
op_code op.Shl = 8
op_code op.Shr = 9
op_code op.Eq = 10
op_code op.Ne = 11
op_code op.Lt = 12
op_code op.Le = 13
op_code op.Gt = 14
op_code op.Ge = 15

-- ---- expressions, arguments, callees

abbrev pub expr_code : tree.Expr → List ℕ
expr_code (tree.Name n) = 0 ∷ name_code n
expr_code (tree.At n i) = 1 ∷ (name_code n ++ expr_code i)
expr_code (tree.Number n) = 2 ∷ num_code n
expr_code (tree.To32 e) = 3 ∷ expr_code e
expr_code (tree.To64 e) = 4 ∷ expr_code e
expr_code (tree.Star n) = 5 ∷ name_code n
expr_code (tree.Op o a b) = 6 ∷ op_code o ∷ (expr_code a ++ expr_code b)

abbrev pub arg_code : tree.Arg → List ℕ
arg_code (tree.Value e) = 0 ∷ expr_code e
arg_code (tree.Address n) = 1 ∷ name_code n
arg_code (tree.OfFunction n) = 2 ∷ name_code n

abbrev pub one_type_code : CType → List ℕ
one_type_code t = type_code t ∷ []

abbrev pub func_type_code : tree.FuncType → List ℕ
func_type_code t = type_code t.result ∷ list_code one_type_code t.params

abbrev pub callee_code : tree.Callee → List ℕ
callee_code (tree.Called n) = 0 ∷ name_code n
callee_code (tree.Through t n) = 1 ∷ (func_type_code t ++ name_code n)

abbrev pub case_code : tree.Case → List ℕ
case_code c = num_code c.0 ++ name_code c.1
