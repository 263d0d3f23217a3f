-- What pieces make, one behind another: expressions on a stack, the arguments of the next call, and
-- statements.
use Rattle.std.specs.Prelude.{ℕ, ◌+◌, ◌-◌, ◌/◌, ◌^◌, ◌==◌, if◌then◌else◌, nat_lt, List, [], ◌∷◌, ◌++◌, map, reverse, codes, Option, Some}
use Rattle.std.specs.Prelude.{None}
use Rattle.w2c_base.specs.declared.value.ValType.{ValType}
use Rattle.w2c_base.specs.declared.value.ValType.TheVariants.{I32, I64}
use Rattle.w2c_base.specs.Values.{bits}
use Rattle.c_tree.specs.declared.tree.Num.TheVariants.{N64}
use Rattle.c_tree.specs.declared.tree.Expr.{Expr}
use Rattle.c_tree.specs.Tree as tree
use Rattle.c_tree.specs.Makers.{num, trap}
use Rattle.c_tree.specs.Primitives.{primitive_name}
use Rattle.c_tree.specs.View.{expr_of, arg_of, stmt_of}
use Rattle.c_helpers.specs.declared.piece.Number.{Number}
use Rattle.c_helpers.specs.declared.piece.Number.TheVariants as number
use Rattle.c_helpers.specs.declared.piece.Cast.{Cast}
use Rattle.c_helpers.specs.declared.piece.Cast.TheVariants as cast
use Rattle.c_helpers.specs.declared.piece.Piece.{Piece}
use Rattle.c_helpers.specs.declared.piece.Piece.TheVariants as piece
use Rattle.c_helpers.specs.declared.builder.Builder.{Builder}

-- 2 to a power, or 0 where the type has no such number
abbrev pub power : ValType → ℕ → ℕ
power t k = if nat_lt k (bits t) then 2 ^ k else 0

abbrev pub number_in : ValType → ℕ → Number → ℕ
number_in t size number.Zero = 0
number_in t size number.One = 1
number_in t size number.Bits = bits t
number_in t size number.Half = 2 ^ (bits t - 1)
number_in t size number.Greatest = 2 ^ bits t - 1
number_in t size number.Size = size
number_in t size number.Block = power t size
number_in t size number.Sign = power t (size - 1)
number_in t size number.High = power t (bits t - size)
number_in t size number.Mask = (2 ^ bits t - 1) / (power t size + 1)
number_in t size number.EachByte = (2 ^ bits t - 1) / 255
number_in t size number.Bytes = size / 8
number_in t size number.Page = 65536

-- a comparison as a number of a type
abbrev pub flag : ValType → tree.Expr → tree.Expr
flag I32 e = tree.To32 e
flag I64 e = tree.To64 (tree.To32 e)

abbrev pub widened : ValType → tree.Expr → tree.Expr
widened I32 e = e
widened I64 e = tree.To64 e

-- accesses of less than 64 bits take a u32
abbrev pub narrowed : ValType → ℕ → tree.Expr → tree.Expr
narrowed I32 size e = e
narrowed I64 size e = if nat_lt size 64 then tree.To32 e else e

abbrev pub cast_to : ValType → ℕ → Cast → tree.Expr → tree.Expr
cast_to t size cast.To32 e = tree.To32 e
cast_to t size cast.To64 e = tree.To64 e
cast_to t size cast.Flag e = flag t e
cast_to t size cast.Widen e = widened t e
cast_to t size cast.Narrow e = narrowed t size e

-- the runtime's functions that read and write so many bits
abbrev pub get_name : ℕ → List ℕ
get_name size =
    if size == 8 then codes "w2c_get1" else (if size == 16 then codes "w2c_get2" else
    (if size == 32 then codes "w2c_get4" else codes "w2c_get8"))

abbrev pub put_name : ℕ → List ℕ
put_name size =
    if size == 8 then codes "w2c_put1" else (if size == 16 then codes "w2c_put2" else
    (if size == 32 then codes "w2c_put4" else codes "w2c_put8"))

-- what pieces made: the uppermost expression comes first
pub record Made : Type 0 where
  pub stack : List tree.Expr
  pub args : List tree.Arg
  pub stmts : List tree.Stmt

abbrev pub nothing_made : Made
nothing_made = record { stack = []; args = []; stmts = [] }

-- a name of one letter
abbrev pub letter : ℕ → List ℕ
letter c = c ∷ []

-- the uppermost expression, or 0 where there is none
abbrev pub top : ValType → List tree.Expr → tree.Expr
top t [] = num t 0
top t (e ∷ stack) = e

abbrev pub below_top : List tree.Expr → List tree.Expr
below_top [] = []
below_top (e ∷ stack) = stack

abbrev pub with_stack : Made → List tree.Expr → Made
with_stack m stack = record { stack = stack; args = m.args; stmts = m.stmts }

abbrev pub with_stmt : Made → List tree.Expr → tree.Stmt → Made
with_stmt m stack s = record { stack = stack; args = m.args; stmts = m.stmts ++ s ∷ [] }

abbrev pub with_call : Made → Option (List ℕ) → List ℕ → Made
with_call m target name = record { stack = m.stack; args = []; stmts = m.stmts ++ tree.Call target (tree.Called name) m.args ∷ [] }

abbrev pub placed : ValType → ℕ → Made → Piece → Made
placed t size m (piece.Name c) = with_stack m (tree.Name (letter c) ∷ m.stack)
placed t size m (piece.Number n) = with_stack m (num t (number_in t size n) ∷ m.stack)
placed t size m (piece.Long n) = with_stack m (tree.Number (N64 (number_in t size n)) ∷ m.stack)
placed t size m (piece.Op o) = with_stack m (tree.Op o (top t (below_top m.stack)) (top t m.stack) ∷ below_top (below_top m.stack))
placed t size m (piece.Cast c) = with_stack m (cast_to t size c (top t m.stack) ∷ below_top m.stack)
placed t size m piece.Arg = record { stack = below_top m.stack; args = m.args ++ tree.Value (top t m.stack) ∷ []; stmts = m.stmts }
placed t size m (piece.Get c does) = with_call m (Some (letter c)) (primitive_name does)
placed t size m (piece.Read c) = with_call m (Some (letter c)) (get_name size)
placed t size m piece.Write = with_call m None (put_name size)
placed t size m (piece.Set c) = with_stmt m (below_top m.stack) (tree.Set (letter c) (tree.Value (top t m.stack)))
placed t size m (piece.If o c) = with_stmt m (below_top (below_top m.stack))
    (tree.If o (top t (below_top m.stack)) (top t m.stack) (letter c))
placed t size m (piece.Label c) = with_stmt m m.stack (tree.Label (letter c))
placed t size m piece.Return = with_stmt m (below_top m.stack) (tree.Return (tree.Value (top t m.stack)))
placed t size m piece.ReturnNone = with_stmt m m.stack tree.ReturnNone
placed t size m (piece.Trap kind) = with_stmt m m.stack (trap kind)

-- all pieces in order
abbrev pub all_placed : ValType → ℕ → Made → List Piece → Made
all_placed t size m [] = m
all_placed t size m (x ∷ pieces) = all_placed t size (placed t size m x) pieces

-- the same pieces for each size in order
abbrev pub staged : ValType → List ℕ → Made → List Piece → Made
staged t [] m pieces = m
staged t (size ∷ sizes) m pieces = staged t sizes (all_placed t size m pieces) pieces

-- what a builder holds
abbrev pub exprs_of : List Expr → List tree.Expr
exprs_of stack = reverse (map expr_of stack)

abbrev pub made_by : Builder → Made
made_by b = record { stack = exprs_of b.stack.items; args = map arg_of b.args; stmts = map stmt_of b.stmts }
