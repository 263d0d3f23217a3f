-- Lists of types that are not the one of `void` alone.
use Rattle.c_tree.proofs.Common.{◌≡◌, Bool, true, false, ◌&&◌, List, [], ◌∷◌, length, refl, CType}
use Rattle.c_tree.specs.declared.tree.CType.TheVariants.{Void}
use Rattle.c_tree.specs.Runtime.{same_type, same_types}

pub not_one : (params : List CType) → (length params ≡ 1 → ⊥) → false ≡ same_types params (Void ∷ [])
not_one [] not = refl
not_one (p ∷ []) not = absurd (not refl)
not_one (p ∷ q ∷ params) not = go (same_type p Void)
  where
    go : (b : Bool) → false ≡ (b && false)
    go true = refl
    go false = refl
