-- What a look-up in a list tells.
use Rattle.c_init.proofs.Common.{◌≡◌, ℕ, ◌≤◌, List, length, slice_get, None, sym, ap, ◌∙◌, slice_get_past}

pub missing : {A : Type 0} (items xs : List A) (n : ℕ) → items ≡ xs → length items ≤ n → slice_get xs n ≡ None
missing items xs n same le = ap (λ ys. slice_get ys n) (sym same) ∙ slice_get_past items n le
