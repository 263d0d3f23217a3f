-- A file's module is one that c_unit accepts: it is valid, and within the limits, since it has a file.
use Rattle.w2c_sim.proofs.Common.{◌≡◌, ℕ, ◌<◌, ◌≤◌, List, length, refl, All-from_recursion, Module, one_tree, AreBytes, WithinLimits}
use Rattle.w2c_sim.proofs.Common.{accepted, valid, IsVerdictOn, Read, Accepted, IsValid, IsAccepted, IsModuleOf}
use Rattle.wasm_spelling.proofs.WithinPlaces.{formed_is_within}

-- a valid module within the limits, under a name
pub named_is_accepted : (name : List ℕ) (tree : Module) → IsValid tree → WithinLimits tree → 1 ≤ length name → length name ≤ 1024
    → AreBytes name → IsAccepted (record { name = name; tree = tree })
named_is_accepted name tree is_valid within named short are_bytes =
    record { valid = is_valid; within = within; named = named; short = short; bytes = All-from_recursion (λ b. b < 256) name are_bytes }

pub module_is_accepted : (bytes name : List ℕ) (tree : Module) → IsModuleOf bytes name tree
    → IsAccepted (record { name = name; tree = tree })
module_is_accepted bytes name tree is =
    let within = formed_is_within tree (bytes, is.are_bytes, (tree, refl, is.spelled)) in
    named_is_accepted name tree is.valid within is.named is.short is.name_bytes

-- the verdict on a file's bytes, and its module
pub module_of : (bytes name : List ℕ) (tree : Module) → IsVerdictOn bytes (Read tree Accepted) → AreBytes bytes → 1 ≤ length name
    → length name ≤ 1024 → AreBytes name → IsModuleOf bytes name tree
module_of bytes name tree verdict are named short name_bytes =
    record { spelled = verdict.0; valid = valid tree verdict.1; are_bytes = are; named = named; short = short; name_bytes = name_bytes }

pub verdict_on : (bytes name : List ℕ) (tree : Module) → IsModuleOf bytes name tree → IsVerdictOn bytes (Read tree Accepted)
verdict_on bytes name tree is = (is.spelled, accepted tree is.valid)

-- a file has one module
pub one_module : (bytes name : List ℕ) (tree other : Module) → IsModuleOf bytes name tree → IsModuleOf bytes name other → tree ≡ other
one_module bytes name tree other is is' = one_tree bytes tree other is.spelled is'.spelled
