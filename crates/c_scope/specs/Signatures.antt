-- The type that a signature stands for.
use Rattle.c_tree.specs.Tree as tree
use Rattle.c_tree.specs.View as view
use Rattle.c_tree.specs.Scope.{func_type_of}
use Rattle.c_tree.specs.Primitives.{primitive_type}
use Rattle.c_scope.specs.declared.signature.Signature.{Signature}
use Rattle.c_scope.specs.declared.signature.Signature.TheVariants.{Declared, Runtime, Written}

abbrev pub signature_type : Signature → tree.FuncType
signature_type (Declared f) = func_type_of (view.func_of f.now)
signature_type (Runtime p) = primitive_type p
signature_type (Written t) = view.func_type_of t.now
