-- Lists of bytes.
use Rattle.wasm_spelling.proofs.Common.{ℕ, suc, List, [], ◌∷◌, get_or, w8, Fits, rules, AreBytes}

-- what a slice of bytes holds
pub slice_bytes : (bytes : List ℕ) → ((i : ℕ) → Fits w8 (get_or bytes i 0)) → AreBytes bytes
slice_bytes [] fits = tt
slice_bytes (b ∷ bytes) fits =
    let first : Fits w8 b = fits 0 in
    (search rules, slice_bytes bytes (λ i. fits (suc i)))
