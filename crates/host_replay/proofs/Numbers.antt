-- The numbers of slices are numbers of their types.
use Rattle.host_replay.proofs.Common.{ℕ, suc, ◌<◌, List, [], ◌∷◌, get_or, w8, Fits, rules, All-from_recursion, AllByRecursion, IsBytes}

bytes_each : (bytes : List ℕ) → ((i : ℕ) → Fits w8 (get_or bytes i 0)) → AllByRecursion (λ b. b < 256) bytes
bytes_each [] fits = tt
bytes_each (b ∷ bytes) fits =
    let first : Fits w8 b = fits 0 in
    (search rules, bytes_each bytes (λ i. fits (suc i)))

pub slice_bytes : (bytes : List ℕ) → ((i : ℕ) → Fits w8 (get_or bytes i 0)) → IsBytes bytes
slice_bytes bytes fits = All-from_recursion (λ b. b < 256) bytes (bytes_each bytes fits)
