use Rattle.c_scope.proofs.Common.{◌∙◌, found_left, found_right, declared, functions_of}
use Rattle.c_tree.specs.Runtime.{primitives}
use Rattle.c_scope.proofs.scope.Scope.function.Goals as goal

pub returns-in-Some : goal.returns-in-Some
returns-in-Some c = found_left c.args.name.now (functions_of (declared c.args.self.now.file.now)) primitives _ c.in-Some.ensures

pub returns-in-None : goal.returns-in-None
returns-in-None c =
    c.runtime_function.ensures ∙ found_right c.args.name.now (functions_of (declared c.args.self.now.file.now)) primitives c.in-None.ensures
