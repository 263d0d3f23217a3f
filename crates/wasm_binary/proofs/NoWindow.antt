-- Where no window stands, nothing is read in it.
use Rattle.wasm_binary.proofs.Common.{◌≡◌, ℕ, Bool, true, false, cond, length, nat_lt, Ok, Err, Result, At, Reader, malformed, number_at}
use Rattle.wasm_binary.proofs.Common.{◌>>=◌, ReadFault, Memory, Fails}
use Rattle.wasm_spelling.specs.declared.fault.Cause.{Cause}
use Rattle.wasm_spelling.specs.declared.fault.Cause.TheVariants as cause
use Rattle.wasm_spelling.specs.Reading.{inside_at, window_at}
use Rattle.wasm_binary.specs.Windows.{split_off, window_of}

by_size : {A : Type 0} (f : ReadFault) (place : ℕ) (past : Bool) (x : At × At) (y : Result (A × At) ReadFault)
    → cond past (malformed place cause.SizePastEnd) (Ok x) ≡ Err f → cond past (malformed place cause.SizePastEnd) y ≡ Err f
by_size f place true x y e = cc
by_size f place false x y e = absurd cc

by_number : {A : Type 0} (f : ReadFault) (c : Cause) (read : Reader A) (place : ℕ) (r : Result (ℕ × At) ReadFault)
    → (r >>= split_off place) ≡ Err f → (r >>= λ n. inside_at c read place n.0 n.1) ≡ Err f
by_number f c read place (Ok n) e = by_size f place (nat_lt (length n.1.left) n.0) _ _ e
by_number f c read place (Err g) e = cc

failed : {A : Type 0} (f : ReadFault) (c : Cause) (read : Reader A) (a : At) → window_of a ≡ Err f → window_at c read a ≡ Err f
unfolding window_at
failed f c read a e = by_number f c read a.place (number_at a) e

pub no_window : {A : Type 0} (f : ReadFault) (c : Cause) (read : Reader A) (a : At) → Fails f (window_of a) → Fails f (window_at c read a)
no_window Memory c read a e = tt
no_window _ c read a e = failed _ c read a e
