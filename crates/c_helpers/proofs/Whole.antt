-- That a function is a helper where its parts are.
use Rattle.c_helpers.proofs.Common.{◌≡◌, ℕ, true, List, Some, sym, refl, CType, helper_of, Helper}
use Rattle.c_tree.specs.Tree as tree
use Rattle.c_helpers.specs.declared.operation.Helper.TheVariants as helper
use Rattle.c_helpers.specs.Bodies.{locals_of, stmts_of}

abbrev static : tree.Func → Type 0
static f = f ≡ record {
  is_static = true;
  result = f.result;
  name = f.name;
  params = f.params;
  body = Some (record { locals = locals_of f; stmts = stmts_of f });
}

-- a helper is made of its parts
of_its_parts : (which : Helper) → static (helper_of which)
of_its_parts (helper.Num op) = refl
of_its_parts _ = refl

pub is_whole : (which : Helper) (f : tree.Func) (result : CType) (name : List ℕ) (params : List tree.Param) (locals : List tree.Local)
    (stmts : List tree.Stmt)
    → f
    ≡ record { is_static = true; result = result; name = name; params = params; body = Some (record { locals = locals; stmts = stmts }) }
    → result ≡ (helper_of which).result → name ≡ (helper_of which).name → params ≡ (helper_of which).params
    → locals ≡ locals_of (helper_of which) → stmts ≡ stmts_of (helper_of which) → f ≡ helper_of which
is_whole which f result name params locals stmts e r n p l s = rw (e, r, n, p, l, s) (sym (of_its_parts which))
