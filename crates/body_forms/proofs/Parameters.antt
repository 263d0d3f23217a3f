-- The parameters of a function that has none, and of one that has some.
use Rattle.body_forms.proofs.Common.{◌≡◌, ◌<◌, List, [], ◌∷◌, length, refl, arith, ValType, params_from, params_of}

pub none_of : (types : List ValType) → length types ≡ 0 → params_of types ≡ params_of []
none_of [] e = refl
none_of (t ∷ types) e = absurd (omega (arith, e))

pub some_of : (types : List ValType) → 0 < length types → params_of types ≡ params_from 0 types
some_of [] e = absurd (omega (arith, e))
some_of (t ∷ types) e = refl
