-- A value that is kept, seen as what it stands for.
use Rattle.wasm_binary.proofs.Common.{◌≡◌, Ok, Err, Result, sym, refl, ap, ◌∙◌, At, ◌>>=◌, ReadFault, Malformed, Memory, Gives, at, kept}
use Rattle.wasm_binary.proofs.Common.{seen}
use Rattle.wasm_binary.specs.declared.rest.Rest.{Rest}

abbrev see : {T V : Type 0} → (T → V) → Result (T × At) ReadFault → Result (V × At) ReadFault
see view read = read >>= λ x. Ok (view x.0, x.1)

see_kept : {U T V : Type 0} (view : T → V) (value : T) (given : Result (U × At) ReadFault)
    → see view (kept value given) ≡ kept (view value) given
see_kept view value (Ok x) = refl
see_kept view value (Err f) = refl

pub viewed : {U T V : Type 0} (view : T → V) (value : T) (r : Result (T × Rest) ReadFault) (given : Result (U × At) ReadFault)
    → Gives seen r (kept value given) → Gives (λ x. (view x.0, at x.1)) r (kept (view value) given)
viewed view value (Ok x) given g = sym (see_kept view value given) ∙ ap (see view) g
viewed view value (Err Memory) given g = tt
viewed view value (Err (Malformed p c)) given g = sym (see_kept view value given) ∙ ap (see view) g
viewed view value (Err _) given g = sym (see_kept view value given) ∙ ap (see view) g
