-- The functions among the names that a statement uses: they stand where a function is called or is an argument.
use Rattle.c_trim.proofs.Common.{◌≡◌, List, [], ◌∷◌, ◌++◌, flat_map, Option, Some, None, refl, ap, ◌∙◌, Name, arg_functions}
use Rattle.c_trim.proofs.Common.{callee_functions, functions_of}
use Rattle.c_tree.specs.Tree as tree
use Rattle.c_tree.specs.Rules.{Use, AsVariable, AsArray, AsFunction, expr_uses, arg_uses, callee_uses, target_uses}

functions_append : (uses others : List Use) → functions_of (uses ++ others) ≡ functions_of uses ++ functions_of others
functions_append [] others = refl
functions_append (AsVariable name ∷ uses) others = functions_append uses others
functions_append (AsArray name ∷ uses) others = functions_append uses others
functions_append (AsFunction name ∷ uses) others = ap (λ names. name ∷ names) (functions_append uses others)

-- an expression names none
pub no_functions : (e : tree.Expr) → functions_of (expr_uses e) ≡ []
no_functions (tree.Name name) = refl
no_functions (tree.At name index) = no_functions index
no_functions (tree.Number number) = refl
no_functions (tree.To32 e) = no_functions e
no_functions (tree.To64 e) = no_functions e
no_functions (tree.Star name) = refl
no_functions (tree.Op op left right) =
    functions_append (expr_uses left) (expr_uses right) ∙ (λ i. no_functions left i ++ no_functions right i)

pub neither_functions : (left right : tree.Expr) → functions_of (expr_uses left ++ expr_uses right) ≡ []
neither_functions left right = functions_append (expr_uses left) (expr_uses right) ∙ (λ i. no_functions left i ++ no_functions right i)

target_functions : (target : Option Name) → functions_of (target_uses target) ≡ []
target_functions None = refl
target_functions (Some name) = refl

args_functions : (args : List tree.Arg) → functions_of (flat_map arg_uses args) ≡ flat_map arg_functions args
args_functions [] = refl
args_functions (a ∷ args) =
    functions_append (arg_uses a) (flat_map arg_uses args) ∙ ap (λ names. arg_functions a ++ names) (args_functions args)

pub call_functions : (target : Option Name) (f : tree.Callee) (args : List tree.Arg)
    → functions_of (target_uses target ++ (callee_uses f ++ flat_map arg_uses args)) ≡ callee_functions f ++ flat_map arg_functions args
call_functions target f args =
    functions_append (target_uses target) (callee_uses f ++ flat_map arg_uses args)
    ∙ (λ i. target_functions target i ++ functions_append (callee_uses f) (flat_map arg_uses args) i)
    ∙ ap (λ names. callee_functions f ++ names) (args_functions args)
