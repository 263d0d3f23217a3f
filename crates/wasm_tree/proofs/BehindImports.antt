-- What stands beside the functions that a module defines, by index.
use Rattle.wasm_tree.proofs.Common.{◌≡◌, ℕ, ◌+◌, ◌-◌, ◌<◌, true, false, List, nat_lt, slice_get, None, refl, ap, arith, nat_tests}
use Rattle.wasm_tree.proofs.Common.{at_defined, imported_funcs}
use Rattle.wasm_tree.specs.declared.tree.Module.{Module}

pub defined_behind_imports : {A : Type 0} (m : Module) (items : List A) (index j : ℕ) → index ≡ imported_funcs m + j
    → at_defined m items index ≡ slice_get items j
defined_behind_imports m items index j is =
    let behind : nat_lt index (imported_funcs m) ≡ false = grind (arith, nat_tests) in
    let number : index - imported_funcs m ≡ j = omega (arith, is) in
    rw behind (ap (λ n. slice_get items n) number)

pub none_of_an_import : {A : Type 0} (m : Module) (items : List A) (index : ℕ) → index < imported_funcs m
    → at_defined m items index ≡ None
none_of_an_import m items index less =
    let within : nat_lt index (imported_funcs m) ≡ true = grind (arith, nat_tests) in
    rw within refl
