-- That a unit defines a function under a name of its own (C11, 6.9 external definitions).
use Rattle.std.specs.Prelude.{◌≡◌, ℕ, Some, None}
use Rattle.c_tree.specs.Tree as tree
use Rattle.c_tree.specs.Scope.{func_type_of}
use Rattle.c_meaning.specs.State.{UnitFunc}
use Rattle.c_meaning.specs.Linking.{Program, definition_at, func_type}
use Rattle.c_meaning.specs.Primitives.{primitive}

-- the unit with number u defines the function, under a name of its own
pub record Defines (p : Program) (u : ℕ) (f : tree.Func) : Type 0 where
  pub item : ℕ
  pub body : tree.Body
  pub has_body : f.body ≡ Some body
  pub defined : definition_at p u f.name ≡ Some (record { item = item; func = f; body = body })
  -- and a call through a pointer finds its type
  pub typed : func_type p (UnitFunc u f.name) ≡ Some (func_type_of f)
  pub is_no_primitive : primitive f.name ≡ None
