-- The place of a text that a scope belongs to (C11, 6.2.1 scopes of identifiers).
use Rattle.c_scope.specs.declared.scope.Scope.{Scope}
use Rattle.c_scope.specs.FileItems.{declared}
use Rattle.c_tree.specs.Scope as place
use Rattle.c_tree.specs.View.{func_of, body_of}

abbrev pub scope_of : Scope → place.Scope
scope_of s = record { declared = declared s.file.now; func = func_of s.func.now; body = body_of s.body.now }
