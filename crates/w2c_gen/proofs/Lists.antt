-- Lists that are mapped to a list of known length, and lists of one item again and again.
use Rattle.std.proofs.Common.{◌≡◌, ℕ, ◌<◌, List, [], ◌∷◌, map, refl}

pub one_of : {A B : Type 0} (f : A → B) (b : B) (l : List A) → map f l ≡ b ∷ [] → (a : A) × (l ≡ a ∷ []) × (f a ≡ b)
one_of f b [] e = cc
one_of f b (a ∷ []) e = (a, refl, cc)
one_of f b (a ∷ c ∷ l) e = cc
