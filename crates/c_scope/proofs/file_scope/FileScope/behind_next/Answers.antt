use Rattle.c_scope.proofs.Common.{Bor, array_of, func_type_of, function_of, variable_of, func_of, item_of}
use Rattle.c_tree.specs.declared.tree.Func.{Func}
use Rattle.c_scope.proofs.NextItem.{finds_next, finds_types_next, knows_next}
use Rattle.c_scope.proofs.file_scope.FileScope.behind_next.Goals as goal

pub invariant_of-result : goal.invariant_of-result
invariant_of-result c =
    let s = c.args.self in
    let x = c.index-items-count.result in
    record {
      variables_found =
          finds_types_next item_of variable_of s.items.now s.count x c.requires c.index-items-count.is s.variables
          c.enter_variable.new.table c.in_ok-enter_variable.ensures s.variables_found;
      arrays_known =
          knows_next item_of array_of s.items.now s.count x c.requires c.index-items-count.is s.arrays c.enter_array.new.table
          c.in_ok-enter_array.ensures s.arrays_known;
      functions_found =
          finds_next item_of function_of (λ (f : Bor Func). func_type_of (func_of f.now)) s.items.now s.count x c.requires
          c.index-items-count.is s.functions c.enter_function.new.table c.in_ok-enter_function.ensures s.functions_found;
    }
