-- Statements that are put one behind another.
use Rattle.body_emitter.proofs.Common.{◌≡◌, ℕ, ◌<◌, true, false, List, [], ◌∷◌, ◌++◌, length, Some, None, Option}
use Rattle.body_emitter.proofs.Common.{option_map, sym, refl, ValType, Stmt, Aim, branch_if}
use Rattle.body_emitter.proofs.Common.{case_label, if_aim, is_straight, jump, Made, aim_of, put, put_each, label_name}
use Rattle.body_emitter.proofs.Common.{jump_if}
use Rattle.c_tree.specs.Tree as tree
use Rattle.c_tree.specs.declared.tree.COp.TheVariants as op
use Rattle.body_emitter.specs.declared.target.Target.{Target}

pub put_joined : (xs ys : List tree.Stmt) (m : Made) → put_each (xs ++ ys) m ≡ put_each ys (put_each xs m)
put_joined [] ys m = refl
put_joined (x ∷ xs) ys m = put_joined xs ys (put x m)

pub put_types : (xs : List tree.Stmt) (m : Made) → (put_each xs m).types ≡ m.types
put_types [] m = refl
put_types (x ∷ xs) m = put_types xs (put x m)

-- ---- what is done at a label that is there, or not

pub no_aim : (found : Option Target) (aim : Option Aim) (go : Aim → List tree.Stmt) → option_map aim_of found ≡ aim → found ≡ None
    → if_aim aim go ≡ []
no_aim None None go e is = refl
no_aim None (Some aim) go e is = cc
no_aim (Some t) aim go e is = cc

pub some_aim : (found : Option Target) (aim : Option Aim) (t : Target) (go : Aim → List tree.Stmt) → option_map aim_of found ≡ aim
    → found ≡ Some t → if_aim aim go ≡ go (aim_of t)
some_aim found aim t go e is = rw (sym e, is) refl

pub no_case : (types : List ValType) (l : ℕ) (found : Option Target) (aim : Option Aim) → option_map aim_of found ≡ aim → found ≡ None
    → case_label types l aim ≡ label_name l
no_case types l found aim e is = rw (sym e, is) refl

pub some_case : (types : List ValType) (l : ℕ) (found : Option Target) (aim : Option Aim) (t : Target) → option_map aim_of found ≡ aim
    → found ≡ Some t
    → case_label types l aim ≡ case_label types l (Some (aim_of t))
some_case types l found aim t e is = rw (sym e, is) refl

pub branch_straight : (types : List ValType) (l : ℕ) (aim : Aim) → is_straight aim types ≡ true
    → branch_if types l aim ≡ jump_if op.Ne (length types) aim.label ∷ []
branch_straight types l aim e = rw e refl

pub branch_around : (types : List ValType) (l : ℕ) (aim : Aim) → is_straight aim types ≡ false
    → branch_if types l aim ≡ jump_if op.Eq (length types) l ∷ (jump aim types ++ tree.Label (label_name l) ∷ [])
branch_around types l aim e = rw e refl
