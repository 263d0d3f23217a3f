-- The statements of nine helpers, as the text beside their tables has them.
use Rattle.std.specs.Prelude.{ℕ, List, [], ◌∷◌, codes, Option, Some, None}
use Rattle.w2c_base.specs.declared.trap.TrapKind.TheVariants as trap_kind
use Rattle.c_tree.specs.declared.tree.Num.TheVariants.{N32, N64}
use Rattle.c_tree.specs.declared.tree.COp.TheVariants as op
use Rattle.c_tree.specs.Tree as tree
use Rattle.c_tree.specs.Makers.{trap}

abbrev a : tree.Expr
a = tree.Name (codes "a")

abbrev b : tree.Expr
b = tree.Name (codes "b")

abbrev d : tree.Expr
d = tree.Name (codes "d")

abbrev f : tree.Expr
f = tree.Name (codes "f")

abbrev g : tree.Expr
g = tree.Name (codes "g")

abbrev i : tree.Expr
i = tree.Name (codes "i")

abbrev k : tree.Expr
k = tree.Name (codes "k")

abbrev l : tree.Expr
l = tree.Name (codes "l")

abbrev m : tree.Expr
m = tree.Name (codes "m")

abbrev n : tree.Expr
n = tree.Name (codes "n")

abbrev o : tree.Expr
o = tree.Name (codes "o")

abbrev s : tree.Expr
s = tree.Name (codes "s")

abbrev t : tree.Expr
t = tree.Name (codes "t")

abbrev v : tree.Expr
v = tree.Name (codes "v")

abbrev x : tree.Expr
x = tree.Name (codes "x")

abbrev y : tree.Expr
y = tree.Name (codes "y")

abbrev word : ℕ → tree.Expr
word number = tree.Number (N32 number)

abbrev long : ℕ → tree.Expr
long number = tree.Number (N64 number)

abbrev set : List ℕ → tree.Expr → tree.Stmt
set name e = tree.Set name (tree.Value e)

abbrev gives : tree.Expr → tree.Stmt
gives e = tree.Return (tree.Value e)

abbrev values : List tree.Expr → List tree.Arg
values [] = []
values (e ∷ es) = tree.Value e ∷ values es

abbrev calls : Option (List ℕ) → List ℕ → List tree.Expr → tree.Stmt
calls target name args = tree.Call target (tree.Called name) (values args)

-- numbers of 32 bits in signed order: half a turn on
abbrev pub signed_order : List tree.Stmt
signed_order =
    gives (tree.To32 (tree.Op op.Lt (tree.Op op.Add x (word 2147483648)) (tree.Op op.Add y (word 2147483648)))) ∷ []

-- a signed quotient of 32 bits
abbrev pub signed_quotient : List tree.Stmt
signed_quotient =
    tree.If op.Eq y (word 0) (codes "T") ∷ tree.If op.Ge x (word 2147483648) (codes "N")
    ∷ tree.If op.Ge y (word 2147483648) (codes "P") ∷ gives (tree.Op op.Div x y) ∷ tree.Label (codes "P")
    ∷ gives (tree.Op op.Sub (word 0) (tree.Op op.Div x (tree.Op op.Sub (word 0) y))) ∷ tree.Label (codes "N")
    ∷ tree.If op.Ge y (word 2147483648) (codes "M")
    ∷ gives (tree.Op op.Sub (word 0) (tree.Op op.Div (tree.Op op.Sub (word 0) x) y)) ∷ tree.Label (codes "M")
    ∷ tree.If op.Ne y (word 4294967295) (codes "D") ∷ tree.If op.Eq x (word 2147483648) (codes "U") ∷ tree.Label (codes "D")
    ∷ gives (tree.Op op.Div (tree.Op op.Sub (word 0) x) (tree.Op op.Sub (word 0) y)) ∷ tree.Label (codes "T")
    ∷ trap trap_kind.DivByZero ∷ tree.Label (codes "U") ∷ trap trap_kind.IntOverflow ∷ gives (word 0) ∷ []

-- a signed remainder of 32 bits
abbrev pub signed_remainder : List tree.Stmt
signed_remainder =
    tree.If op.Eq y (word 0) (codes "T") ∷ tree.If op.Lt y (word 2147483648) (codes "P")
    ∷ set (codes "y") (tree.Op op.Sub (word 0) y) ∷ tree.Label (codes "P") ∷ tree.If op.Ge x (word 2147483648) (codes "N")
    ∷ gives (tree.Op op.Rem x y) ∷ tree.Label (codes "N")
    ∷ gives (tree.Op op.Sub (word 0) (tree.Op op.Rem (tree.Op op.Sub (word 0) x) y)) ∷ tree.Label (codes "T")
    ∷ trap trap_kind.DivByZero ∷ gives (word 0) ∷ []

-- a signed shift of 32 bits
abbrev pub signed_shift : List tree.Stmt
signed_shift =
    set (codes "y") (tree.Op op.Rem y (word 32))
    ∷ gives (tree.Op op.Sub (tree.Op op.Shr (tree.Op op.Add x (word 2147483648)) y) (tree.Op op.Shr (word 2147483648) y)) ∷ []

-- what ends a count of zeros of 32 bits
abbrev pub end_of_counts : List tree.Stmt
end_of_counts =
    gives (tree.Op op.Add n (tree.To32 (tree.Op op.Eq x (word 0)))) ∷ []

-- a load of a byte with its sign
abbrev pub signed_load : List tree.Stmt
signed_load =
    set (codes "a") (tree.Op op.Add (tree.To64 b) (tree.To64 o)) ∷ calls (Some (codes "n")) (codes "w2c_mem_len") (m ∷ [])
    ∷ tree.If op.Gt (tree.Op op.Add a (long 1)) n (codes "T") ∷ calls (Some (codes "v")) (codes "w2c_get1") (m ∷ a ∷ [])
    ∷ gives (tree.Op op.Sub (tree.Op op.Xor (tree.Op op.Rem v (word 256)) (word 128)) (word 128)) ∷ tree.Label (codes "T")
    ∷ trap trap_kind.MemoryOut ∷ gives (word 0) ∷ []

-- an element of a table
abbrev pub element : List tree.Stmt
element =
    set (codes "k") (tree.To64 i) ∷ calls (Some (codes "n")) (codes "w2c_tab_len") (t ∷ []) ∷ tree.If op.Ge k n (codes "A")
    ∷ calls (Some (codes "g")) (codes "w2c_tab_sig") (t ∷ k ∷ []) ∷ tree.If op.Eq g (long 0) (codes "B")
    ∷ tree.If op.Ne g s (codes "C") ∷ calls (Some (codes "f")) (codes "w2c_tab_fn") (t ∷ k ∷ []) ∷ gives f ∷ tree.Label (codes "A")
    ∷ trap trap_kind.TableOut ∷ tree.Label (codes "B") ∷ trap trap_kind.Empty ∷ tree.Label (codes "C") ∷ trap trap_kind.Signature
    ∷ gives f ∷ []

-- bytes copied, down and up
abbrev pub copied : List tree.Stmt
copied =
    set (codes "a") (tree.To64 d) ∷ set (codes "b") (tree.To64 s) ∷ set (codes "k") (tree.To64 n)
    ∷ calls (Some (codes "l")) (codes "w2c_mem_len") (m ∷ []) ∷ tree.If op.Gt (tree.Op op.Add a k) l (codes "T")
    ∷ tree.If op.Gt (tree.Op op.Add b k) l (codes "T") ∷ tree.If op.Eq k (long 0) (codes "E") ∷ tree.If op.Le a b (codes "U")
    ∷ tree.Label (codes "D") ∷ set (codes "k") (tree.Op op.Sub k (long 1))
    ∷ calls (Some (codes "v")) (codes "w2c_get1") (m ∷ tree.Op op.Add b k ∷ [])
    ∷ calls None (codes "w2c_put1") (m ∷ tree.Op op.Add a k ∷ v ∷ []) ∷ tree.If op.Ne k (long 0) (codes "D") ∷ tree.ReturnNone
    ∷ tree.Label (codes "U") ∷ calls (Some (codes "v")) (codes "w2c_get1") (m ∷ b ∷ [])
    ∷ calls None (codes "w2c_put1") (m ∷ a ∷ v ∷ []) ∷ set (codes "a") (tree.Op op.Add a (long 1))
    ∷ set (codes "b") (tree.Op op.Add b (long 1)) ∷ set (codes "k") (tree.Op op.Sub k (long 1))
    ∷ tree.If op.Ne k (long 0) (codes "U") ∷ tree.Label (codes "E") ∷ tree.ReturnNone ∷ tree.Label (codes "T")
    ∷ trap trap_kind.MemoryOut ∷ []

-- bytes filled
abbrev pub filled : List tree.Stmt
filled =
    set (codes "a") (tree.To64 d) ∷ set (codes "k") (tree.To64 n) ∷ calls (Some (codes "l")) (codes "w2c_mem_len") (m ∷ [])
    ∷ tree.If op.Gt (tree.Op op.Add a k) l (codes "T") ∷ tree.If op.Eq k (long 0) (codes "E") ∷ tree.Label (codes "U")
    ∷ calls None (codes "w2c_put1") (m ∷ a ∷ v ∷ []) ∷ set (codes "a") (tree.Op op.Add a (long 1))
    ∷ set (codes "k") (tree.Op op.Sub k (long 1)) ∷ tree.If op.Ne k (long 0) (codes "U") ∷ tree.Label (codes "E") ∷ tree.ReturnNone
    ∷ tree.Label (codes "T") ∷ trap trap_kind.MemoryOut ∷ []
