use Rattle.std.proofs.Common.{◌≤◌, refl, arith}
use Rattle.wasm_meaning.proofs.cases.unlinked_name_cases.Goals as goal

pub returns-clause-a_module_twice : goal.returns-clause-a_module_twice
returns-clause-a_module_twice c linked = linked.names_differ.0.1.0 refl

pub returns-clause-a_module_named_as_a_host : goal.returns-clause-a_module_named_as_a_host
returns-clause-a_module_named_as_a_host c linked = linked.names_differ.1.0.0 refl

pub returns-clause-a_host_twice : goal.returns-clause-a_host_twice
returns-clause-a_host_twice c linked = linked.names_differ.0.0 refl

pub returns-clause-a_function_of_a_host_twice : goal.returns-clause-a_function_of_a_host_twice
returns-clause-a_function_of_a_host_twice c linked = linked.functions_differ.0.0.0 refl

pub returns-clause-seventeen_modules : goal.returns-clause-seventeen_modules
returns-clause-seventeen_modules c linked = let few : 17 ≤ 16 = linked.at_most_16 in absurd (omega (arith, few))
