-- Which portions are those of parts that test bounds, and the statements of a part behind those of its portion.
use Rattle.c_init.proofs.Common.{◌≡◌, Bool, List, [], ◌∷◌, ◌++◌, sym, refl, ap, ◌∙◌, append_assoc, map, map_push, stmt_of, Module}
use Rattle.c_tree.specs.Tree as tree
use Rattle.c_tree.specs.declared.tree.Stmt.{Stmt}
use Rattle.c_tree.specs.declared.tree.Stmt.TheVariants.{ReturnNone}
use Rattle.c_init.specs.Init.{Part, trap_if}
use Rattle.c_init.specs.Portions.{part_of, tests_of}
use Rattle.c_init.specs.declared.portion.Portion.{Portion}
use Rattle.c_init.specs.declared.portion.Portion.TheVariants.{Globals, ElementBounds, DataBounds, Elements, Bytes}

pub tested : (m : Module) (p : Portion) → tests_of p ≡ (part_of m p).tests
tested m (Globals from globals) = refl
tested m (ElementBounds elements) = refl
tested m (DataBounds segments) = refl
tested m (Elements elements number) = refl
tested m (Bytes from segments) = refl

-- a return behind statements, and a trap where bounds are tested
pub ended : (x : Part) (tests : Bool) (trap : tree.Stmt) (none made grown whole : List Stmt) (end : List tree.Stmt)
    → none ≡ [] → map stmt_of made ≡ map stmt_of none ++ x.stmts → grown ≡ made ++ ReturnNone ∷ []
    → map stmt_of whole ≡ map stmt_of grown ++ trap_if tests 1 trap → tests ≡ x.tests → end ≡ tree.ReturnNone ∷ trap_if x.tests 1 trap
    → map stmt_of whole ≡ x.stmts ++ end
ended x tests trap none made grown whole end starts puts pushes traps same is =
    let last : List tree.Stmt = trap_if x.tests 1 trap in
    traps
    ∙ ap (λ b. map stmt_of grown ++ trap_if b 1 trap) same
    ∙ ap (λ ss. map stmt_of ss ++ last) pushes
    ∙ ap (λ ss. ss ++ last) (map_push stmt_of made ReturnNone)
    ∙ append_assoc (map stmt_of made) (tree.ReturnNone ∷ []) last
    ∙ ap (λ ss. ss ++ tree.ReturnNone ∷ last) (puts ∙ ap (λ ss. map stmt_of ss ++ x.stmts) starts)
    ∙ ap (λ ss. x.stmts ++ ss) (sym is)
