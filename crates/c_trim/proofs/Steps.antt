-- One step of a loop over a list.
use Rattle.std.proofs.Common.{◌≡◌, ℕ, ◌+◌, ◌<◌, List, [], ◌∷◌, ◌++◌, length, map, take, get_or, sym, ap, ◌∙◌}
use Rattle.w2c_base.proofs.Places.{mapped_next}
use Rattle.std.proofs.lemmas.List.{map_push}

-- the copies so far, and one more
pub one_copied : {A B : Type 0} (f : A → B) (xs copies new : List A) (i : ℕ) (item copy : A) → i < length xs → item ≡ get_or xs i item
    → f copy ≡ f item → new ≡ copies ++ copy ∷ [] → map f copies ≡ take i (map f xs) → map f new ≡ take (i + 1) (map f xs)
one_copied f xs copies new i item copy less is same pushed before =
    ap (map f) pushed ∙ map_push f copies copy ∙ (λ j. before j ++ same j ∷ []) ∙ sym (mapped_next f xs i item less is)
