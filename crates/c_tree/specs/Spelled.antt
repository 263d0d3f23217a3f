-- Which texts spell a unit, and where the others are faulty.
use Rattle.std.specs.Prelude.{◌≡◌, ℕ, zero, suc, ◌-◌, ◌^◌, ◌<◌, List, [], ◌∷◌, ◌++◌, length, Option, Some, None}
use Rattle.std.specs.List.{AllByRecursion}
use Rattle.c_tree.specs.declared.token.Tok.TheVariants as tok
use Rattle.c_tree.specs.declared.token.Part.TheVariants as part
use Rattle.c_tree.specs.declared.token.CReadFault.{CReadFault}
use Rattle.c_tree.specs.declared.tree.Num.{Num}
use Rattle.c_tree.specs.declared.tree.Num.TheVariants.{N32, N64, Plain}
use Rattle.c_tree.specs.Tree as tree
use Rattle.c_tree.specs.Tokens.{Fixed}
use Rattle.c_tree.specs.Text.{tokens, lexemes}
use Rattle.c_tree.specs.Trees.{unit_tokens}
use Rattle.c_tree.specs.Grammar.{Stops, Of}

-- how many exprs may stand inside one another
abbrev pub depth_limit : ℕ
depth_limit = 100

-- a number is within its type
abbrev pub FitsNum : Num → Type 0
FitsNum (N32 n) = n < 2 ^ 32
FitsNum (N64 n) = n < 2 ^ 64
FitsNum (Plain n) = n < 2 ^ 32

-- numbers are within their types, and no expression stands inside d others
abbrev pub FitsExpr : ℕ → tree.Expr → Type 0
FitsExpr zero e = ⊥
FitsExpr (suc d) (tree.Name n) = Unit {0}
FitsExpr (suc d) (tree.At n i) = FitsExpr d i
FitsExpr (suc d) (tree.Number n) = FitsNum n
FitsExpr (suc d) (tree.To32 e) = FitsExpr d e
FitsExpr (suc d) (tree.To64 e) = FitsExpr d e
FitsExpr (suc d) (tree.Star n) = Unit {0}
FitsExpr (suc d) (tree.Op o a b) = FitsExpr d a × FitsExpr d b

abbrev pub FitsArg : ℕ → tree.Arg → Type 0
FitsArg d (tree.Value e) = FitsExpr d e
FitsArg d _ = Unit {0}

-- a list of types or parameters has at least one entry, which may be void
abbrev pub FitsCallee : tree.Callee → Type 0
FitsCallee (tree.Called n) = Unit {0}
FitsCallee (tree.Through t n) = 0 < length t.params

-- the arguments of a call whose value is assigned stand inside the right side
abbrev pub FitsStmt : ℕ → tree.Stmt → Type 0
FitsStmt d (tree.Set n a) = FitsArg d a
FitsStmt d (tree.SetStar n e) = FitsExpr d e
FitsStmt d (tree.Call None f args) = FitsCallee f × AllByRecursion (FitsArg d) args
FitsStmt d (tree.Call (Some n) f args) = FitsCallee f × AllByRecursion (FitsArg (d - 1)) args
FitsStmt d (tree.If o a b n) = FitsExpr d a × FitsExpr d b
FitsStmt d (tree.Switch e cases n) = FitsExpr d e × AllByRecursion (λ (c : tree.Case). FitsNum c.0) cases
FitsStmt d (tree.Return a) = FitsArg d a
FitsStmt d _ = Unit {0}

abbrev pub FitsBody : ℕ → Option tree.Body → Type 0
FitsBody d None = Unit {0}
FitsBody d (Some b) = AllByRecursion (λ (l : tree.Local). FitsNum l.2) b.locals × AllByRecursion (FitsStmt d) b.stmts

abbrev pub FitsValue : Option Num → Type 0
FitsValue None = Unit {0}
FitsValue (Some n) = FitsNum n

abbrev pub FitsItem : ℕ → tree.Item → Type 0
FitsItem d (tree.Array n count bytes) = (count < 2 ^ 32) × (0 < length bytes) × AllByRecursion (λ b. b < 256) bytes
FitsItem d (tree.Var t n v) = FitsValue v
FitsItem d (tree.Function f) = (0 < length f.params) × FitsBody d f.body

-- The text spells the unit: its tokens are those of the tree in order.
pub record CSpells (u : List tree.Item) (text : List ℕ) : Type 0 where
  pub in_order : tokens text ≡ unit_tokens u ++ Fixed tok.End ∷ []
  pub fits : AllByRecursion (FitsItem depth_limit) u

-- The first faulty token of the text.
abbrev pub CUpto : List ℕ → CReadFault → Type 0
CUpto text f = Stops (Of part.InUnit depth_limit ∷ []) (lexemes 0 0 text) f

-- some text spells the unit
abbrev pub Formed : List tree.Item → Type 0
Formed u = (text : List ℕ) × CSpells u text
