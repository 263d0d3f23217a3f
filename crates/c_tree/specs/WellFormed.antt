-- Which trees are well formed: their names are words, their numbers are within their types, no list
-- is empty that may not be, and no expression stands inside too many others.
use Rattle.std.specs.Prelude.{ℕ, Bool, false, ◌&&◌, not, List, [], ◌∷◌, ◌++◌, map, Option, Some, None, IsTrue}
use Rattle.std.specs.Str.{bytes_eq}
use Rattle.std.specs.List.{AllByRecursion, list_any, list_all}
use Rattle.c_tree.specs.Tree as tree
use Rattle.c_tree.specs.Tokens.{fixed_text}
use Rattle.c_tree.specs.Text.{is_letter, is_word_byte, key_words, other_words}
use Rattle.c_tree.specs.Spelled.{FitsItem, depth_limit}

-- a key word of C11 or of the subset
abbrev pub is_key_word : List ℕ → Bool
is_key_word word = list_any (bytes_eq word) (map fixed_text key_words ++ other_words)

-- letters, digits and _, not beginning with a digit, and no key word
abbrev pub is_name : List ℕ → Bool
is_name [] = false
is_name (b ∷ bs) = (is_letter b && list_all is_word_byte bs) && not (is_key_word (b ∷ bs))

abbrev pub IsName : List ℕ → Type 0
IsName name = IsTrue (is_name name)

abbrev pub IsNamedIfAny : Option (List ℕ) → Type 0
IsNamedIfAny None = Unit {0}
IsNamedIfAny (Some n) = IsName n

-- ---- the names of each part of a tree are names

abbrev pub NamedExpr : tree.Expr → Type 0
NamedExpr (tree.Name n) = IsName n
NamedExpr (tree.At n i) = IsName n × NamedExpr i
NamedExpr (tree.Number n) = Unit {0}
NamedExpr (tree.To32 e) = NamedExpr e
NamedExpr (tree.To64 e) = NamedExpr e
NamedExpr (tree.Star n) = IsName n
NamedExpr (tree.Op o a b) = NamedExpr a × NamedExpr b

abbrev pub NamedArg : tree.Arg → Type 0
NamedArg (tree.Value e) = NamedExpr e
NamedArg (tree.Address n) = IsName n
NamedArg (tree.OfFunction n) = IsName n

abbrev pub NamedCallee : tree.Callee → Type 0
NamedCallee (tree.Called n) = IsName n
NamedCallee (tree.Through t n) = IsName n

abbrev pub NamedStmt : tree.Stmt → Type 0
NamedStmt (tree.Label n) = IsName n
NamedStmt tree.Null = Unit {0}
NamedStmt (tree.Set n a) = IsName n × NamedArg a
NamedStmt (tree.SetStar n e) = IsName n × NamedExpr e
NamedStmt (tree.Call n f args) = IsNamedIfAny n × NamedCallee f × AllByRecursion NamedArg args
NamedStmt (tree.Goto n) = IsName n
NamedStmt (tree.If o a b n) = NamedExpr a × NamedExpr b × IsName n
NamedStmt (tree.Switch e cases n) = NamedExpr e × AllByRecursion (λ (c : tree.Case). IsName c.1) cases × IsName n
NamedStmt tree.ReturnNone = Unit {0}
NamedStmt (tree.Return a) = NamedArg a

abbrev pub NamedBody : Option tree.Body → Type 0
NamedBody None = Unit {0}
NamedBody (Some b) = AllByRecursion (λ (l : tree.Local). IsName l.1) b.locals × AllByRecursion NamedStmt b.stmts

abbrev pub NamedItem : tree.Item → Type 0
NamedItem (tree.Array n count bytes) = IsName n
NamedItem (tree.Var t n v) = IsName n
NamedItem (tree.Function f) = IsName f.name × AllByRecursion (λ (p : tree.Param). IsNamedIfAny p.1) f.params × NamedBody f.body

-- The unit is well formed.
pub record IsWellFormed (u : List tree.Item) : Type 0 where
  pub named : AllByRecursion NamedItem u
  pub fits : AllByRecursion (FitsItem depth_limit) u
