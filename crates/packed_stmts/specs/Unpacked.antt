-- What is read of bytes, from left to right: of any bytes something, and of those that stand for a part of a statement this part. Only
-- proofs cite these definitions.
use Rattle.std.specs.Prelude.{◌≡◌, ℕ, zero, suc, ◌+◌, ◌*◌, ◌==◌, nat_lt, if◌then◌else◌, List, [], ◌∷◌, length, take, drop}
use Rattle.std.specs.Prelude.{Option, Some, None, Result, Ok, Err}
use Rattle.w2c_base.specs.declared.memory.Memory.{Memory}
use Rattle.c_tree.specs.declared.tree.CType.{CType}
use Rattle.c_tree.specs.declared.tree.CType.TheVariants as type
use Rattle.c_tree.specs.declared.tree.COp.{COp}
use Rattle.c_tree.specs.declared.tree.COp.TheVariants as op
use Rattle.c_tree.specs.declared.tree.Num.{Num}
use Rattle.c_tree.specs.declared.tree.Num.TheVariants.{N32, N64, Plain}
use Rattle.c_tree.specs.Tree as tree
use Rattle.packed_stmts.specs.declared.kinds.ExprKind.{ExprKind}
use Rattle.packed_stmts.specs.declared.kinds.ExprKind.TheVariants as expr

-- a value, and the bytes behind it
abbrev pub Reading : Type 0 → Type 0
Reading A = List ℕ → A × List ℕ

abbrev pub and_then : {A B : Type 0} → A × List ℕ → (A → Reading B) → B × List ℕ
and_then p f = f p.0 p.1

infixl 10 ◌>>=◌
abbrev pub ◌>>=◌ : {A B : Type 0} → Reading A → (A → Reading B) → Reading B
r >>= f = λ bytes. and_then (r bytes) f

abbrev pub pure : {A : Type 0} → A → Reading A
pure a = λ bytes. (a, bytes)

-- what a function that reads ensures, unless memory is wanting
abbrev pub Reads : {A B : Type 0} → (A → B) → B × List ℕ → Result A Memory → List ℕ → Type 0
Reads view read (Ok a) new = read ≡ (view a, new)
Reads view read (Err e) new = Unit {0}

-- ---- numbers

-- behind the end a byte is 0
abbrev pub byte_at : Reading ℕ
byte_at [] = (0, [])
byte_at (b ∷ bytes) = (b, bytes)

unfoldable pub word_at : Reading ℕ
word_at = byte_at >>= λ a. byte_at >>= λ b. byte_at >>= λ c. byte_at >>= λ d. pure (a + 256 * (b + 256 * (c + 256 * d)))

unfoldable pub long_at : Reading ℕ
long_at = word_at >>= λ low. word_at >>= λ high. pure (low + 4294967296 * high)

abbrev pub narrow_by : Reading ℕ → ℕ → Reading ℕ
narrow_by wide b = λ bytes. if nat_lt b 255 then (b, bytes) else wide bytes

unfoldable pub size_at : Reading ℕ
size_at = byte_at >>= narrow_by long_at

unfoldable pub word_code_at : Reading ℕ
word_code_at = byte_at >>= narrow_by word_at

-- ---- pieces

abbrev pub piece_at : ℕ → Reading (List ℕ)
piece_at k bytes = if nat_lt (length bytes) k then ([], []) else (take k bytes, drop k bytes)

unfoldable pub name_at : Reading (List ℕ)
name_at = size_at >>= piece_at

abbrev pub times_at : {A : Type 0} → Reading A → ℕ → Reading (List A)
times_at read zero = pure []
times_at read (suc k) = read >>= λ x. times_at read k >>= λ xs. pure (x ∷ xs)

abbrev pub list_at : {A : Type 0} → Reading A → Reading (List A)
list_at read = size_at >>= times_at read

unfoldable pub target_at : Reading (Option (List ℕ))
target_at = byte_at >>= λ b. if b == 0 then pure None else (name_at >>= λ n. pure (Some n))

unfoldable pub num_at : Reading Num
num_at = byte_at >>= λ b.
    if b == 0 then (word_code_at >>= λ n. pure (N32 n)) else (
    if b == 1 then (size_at >>= λ n. pure (N64 n)) else (
    size_at >>= λ n. pure (Plain n)))

unfoldable pub type_of : ℕ → CType
type_of n =
    if n == 0 then type.Void else (
    if n == 1 then type.U32 else (
    if n == 2 then type.U64 else (
    if n == 3 then type.PtrU32 else (
    if n == 4 then type.PtrU64 else (
    if n == 5 then type.Mem else (
    if n == 6 then type.PtrMem else (
    if n == 7 then type.Tab else (
    if n == 8 then type.PtrTab else
    type.FnPtr))))))))

unfoldable pub type_at : Reading CType
type_at = byte_at >>= λ b. pure (type_of b)

unfoldable pub op_of : ℕ → COp
op_of n =
    if n == 0 then op.Add else (
    if n == 1 then op.Sub else (
    if n == 2 then op.Mul else (
    if n == 3 then op.Div else (
    if n == 4 then op.Rem else (
    if n == 5 then op.And else (
    if n == 6 then op.Or else (
    if n == 7 then op.Xor else (
    if n == 8 then op.Shl else (
    if n == 9 then op.Shr else (
    if n == 10 then op.Eq else (
    if n == 11 then op.Ne else (
    if n == 12 then op.Lt else (
    if n == 13 then op.Le else (
    if n == 14 then op.Gt else
    op.Ge))))))))))))))

unfoldable pub op_at : Reading COp
op_at = byte_at >>= λ b. pure (op_of b)

-- ---- expressions, arguments, callees

unfoldable pub expr_kind : ℕ → ExprKind
expr_kind n =
    if n == 0 then expr.Name else (
    if n == 1 then expr.At else (
    if n == 2 then expr.Number else (
    if n == 3 then expr.To32 else (
    if n == 4 then expr.To64 else (
    if n == 5 then expr.Star else
    expr.Op)))))

abbrev pub expr_by : Reading tree.Expr → ExprKind → Reading tree.Expr
expr_by inner expr.Name = name_at >>= λ n. pure (tree.Name n)
expr_by inner expr.At = name_at >>= λ n. inner >>= λ i. pure (tree.At n i)
expr_by inner expr.Number = num_at >>= λ n. pure (tree.Number n)
expr_by inner expr.To32 = inner >>= λ e. pure (tree.To32 e)
expr_by inner expr.To64 = inner >>= λ e. pure (tree.To64 e)
expr_by inner expr.Star = name_at >>= λ n. pure (tree.Star n)
expr_by inner expr.Op = op_at >>= λ o. inner >>= λ a. inner >>= λ b. pure (tree.Op o a b)

unfoldable pub expr_of_parts : Reading tree.Expr → Reading tree.Expr
expr_of_parts inner = byte_at >>= λ b. expr_by inner (expr_kind b)

-- an expression in which others stand inside one another, at most so many
unfoldable pub expr_in : ℕ → Reading tree.Expr
expr_in zero = pure (tree.Number (Plain 0))
expr_in (suc room) = expr_of_parts (expr_in room)

-- each takes a byte
unfoldable pub expr_at : Reading tree.Expr
expr_at bytes = expr_in (length bytes) bytes

unfoldable pub arg_at : Reading tree.Arg
arg_at = byte_at >>= λ b.
    if b == 0 then (expr_at >>= λ e. pure (tree.Value e)) else (
    if b == 1 then (name_at >>= λ n. pure (tree.Address n)) else (
    name_at >>= λ n. pure (tree.OfFunction n)))

unfoldable pub func_type_at : Reading tree.FuncType
func_type_at = type_at >>= λ t. list_at type_at >>= λ ts. pure (record { params = ts; result = t })

unfoldable pub callee_at : Reading tree.Callee
callee_at = byte_at >>= λ b.
    if b == 0 then (name_at >>= λ n. pure (tree.Called n)) else (
    func_type_at >>= λ t. name_at >>= λ n. pure (tree.Through t n))

unfoldable pub case_at : Reading tree.Case
case_at = num_at >>= λ n. name_at >>= λ l. pure (n, l)
