-- What `UnitItems` keeps of the parts of an init function has one proof each, since pieces of C are equal in one way at most.
use Rattle.std.specs.Prelude.{◌≡◌, ℕ, List}
use Rattle.std.specs.List.{AllByRecursion}
use Rattle.std.proofs.Props.{props}
use mathlib.Core.Path.{refl, sym, ap, ◌∙◌}
use mathlib.Core.HLevel.{collapsible→set}
use mathlib.Core.Sum.{⊎_set}
use Rattle.wasm_tree.specs.declared.tree.Module.{Module}
use Rattle.c_tree.specs.declared.tree.COp.{COp}
use Rattle.c_tree.specs.declared.tree.Num.{Num}
use Rattle.c_tree.specs.Tree as tree
use Rattle.c_init.specs.Init.{Part}
use Rattle.c_init.specs.Portions.{IsOf}
use Rattle.c_init.specs.declared.portion.Portion.{Portion}
use Rattle.c_init.specs.declared.portion.Portion.TheVariants.{Globals, ElementBounds, DataBounds, Elements, Bytes}

-- expressions again, with the lemma that such a type is a set
data Twin : Type 0 where
  Name : List ℕ → Twin
  At : List ℕ → Twin → Twin
  Number : Num → Twin
  To32 : Twin → Twin
  To64 : Twin → Twin
  Star : List ℕ → Twin
  Op : COp → Twin → Twin → Twin
  deriving IsSet as Twin-set

twin : tree.Expr → Twin
twin (tree.Name n) = Name n
twin (tree.At n i) = At n (twin i)
twin (tree.Number n) = Number n
twin (tree.To32 e) = To32 (twin e)
twin (tree.To64 e) = To64 (twin e)
twin (tree.Star n) = Star n
twin (tree.Op o l r) = Op o (twin l) (twin r)

back : Twin → tree.Expr
back (Name n) = tree.Name n
back (At n i) = tree.At n (back i)
back (Number n) = tree.Number n
back (To32 e) = tree.To32 (back e)
back (To64 e) = tree.To64 (back e)
back (Star n) = tree.Star n
back (Op o l r) = tree.Op o (back l) (back r)

back_again : (e : tree.Expr) → back (twin e) ≡ e
unfolding twin back
back_again (tree.Name n) = refl
back_again (tree.At n i) = ap (tree.At n) (back_again i)
back_again (tree.Number n) = refl
back_again (tree.To32 e) = ap tree.To32 (back_again e)
back_again (tree.To64 e) = ap tree.To64 (back_again e)
back_again (tree.Star n) = refl
back_again (tree.Op o l r) = ap (λ e. tree.Op o e (back (twin r))) (back_again l) ∙ ap (tree.Op o l) (back_again r)

List-set : IsSet (List ℕ)
List-set = hlevel props

Num-set : IsSet Num
Num-set = hlevel (⊎_set, props)

COp-set : IsSet COp
COp-set = hlevel (⊎_set, props)

twins : IsSet Twin
twins = Twin-set List-set Num-set COp-set

Expr-set : IsSet tree.Expr
Expr-set = collapsible→set (λ x y p. sym (back_again x) ∙ ap back (ap twin p) ∙ back_again y)
    (λ x y p q. ap (λ z. sym (back_again x) ∙ ap back z ∙ back_again y) (twins (twin x) (twin y) (ap twin p) (ap twin q)))

Part-set : IsSet Part
Part-set = hlevel (Expr-set, ⊎_set, props)

Parts-set : IsSet (List Part)
Parts-set = hlevel (Part-set, props)

pub same_parts-prop : (xs ys : List Part) → IsProp (xs ≡ ys)
same_parts-prop xs ys = Parts-set xs ys

own-prop : (m : Module) (p : Portion) → IsProp (IsOf m p)
own-prop m (Globals from globals) = hlevel props
own-prop m (ElementBounds elements) = hlevel props
own-prop m (DataBounds segments) = hlevel props
own-prop m (Elements elements number) = hlevel props
own-prop m (Bytes from segments) = hlevel props

pub own_all-prop : (m : Module) (ps : List Portion) → IsProp (AllByRecursion (IsOf m) ps)
own_all-prop m ps = hlevel (own-prop m, props)
