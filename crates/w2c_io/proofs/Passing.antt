-- Pieces that pass one behind the other.
use Rattle.w2c_io.proofs.Common.{◌≡◌, ℕ, ◌<◌, List, [], ◌++◌, Some, None, Option, ap, ◌∙◌, append_assoc, Appends}

pub appends_more : (old mid new : Option (List ℕ)) (a b : List ℕ) → Appends old mid a → Appends mid new b → Appends old new (a ++ b)
appends_more None mid new a b p q = tt
appends_more (Some xs) None new a b p q = absurd p
appends_more (Some xs) (Some ys) None a b p q = absurd q
appends_more (Some xs) (Some ys) (Some zs) a b p q = q ∙ (ap (λ l. l ++ b) p ∙ append_assoc xs a b)
