use Rattle.crun_startup.proofs.Common.{sym, ◌∙◌, same_func_type, is_init_symbol, void_type}
use Rattle.c_tree.specs.Scope.{func_type_of}
use Rattle.c_tree.specs.View.{func_of}
use Rattle.crun_startup.proofs.InitsFound.{and_no}
use Rattle.crun_startup.proofs.inits.is_init_function.Goals as goal

pub returns-else-is_procedure : goal.returns-else-is_procedure
returns-else-is_procedure c =
    let f = func_of c.args.f.now in
    and_no (is_init_symbol f.name) (same_func_type (func_type_of f) void_type) (sym c.is_procedure.ensures ∙ c.if-is_procedure.false)
