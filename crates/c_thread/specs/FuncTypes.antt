-- The types of functions by number.
use Rattle.std.specs.Prelude.{◌≡◌, slice_get, Bool, false, Option, Some, None, option_map}
use Rattle.w2c_base.specs.Lookup.{if_found}
use Rattle.c_tree.specs.declared.tree.CFuncType.{CFuncType}
use Rattle.c_tree.specs.declared.tree.CType.{CType}
use Rattle.c_tree.specs.Runtime.{same_type}
use Rattle.c_tree.specs.View.{func_type_of}
use Rattle.c_meaning.specs.Linking.{Program, func_type}
use Rattle.c_objects.specs.declared.held.FuncId.{FuncId}
use Rattle.c_objects.specs.declared.held.FuncId.TheVariants as func
use Rattle.c_objects.specs.Views.{Naming, func_of}
use Rattle.c_thread.specs.declared.signatures.FuncTypes.{FuncTypes}

abbrev pub type_at : FuncTypes → FuncId → Option CFuncType
type_at t (func.Unit u i) = if_found (slice_get t.units.items u) (λ l. if_found (slice_get l.types.items i) (λ ty. ty))
type_at t (func.Host h f) = if_found (slice_get t.hosts.items h) (λ l. if_found (slice_get l.types.items f) (λ ty. ty))

-- they are those of the program
abbrev pub AreFuncTypes : Naming → Program → FuncTypes → Type 0
AreFuncTypes names p t = (f : FuncId) → func_type p (func_of names f) ≡ option_map func_type_of (type_at t f)

-- the types at a place are one
abbrev pub agree_at : Option CType → Option CType → Bool
agree_at (Some t) (Some a) = same_type t a
agree_at (Some t) None = false
agree_at None o = false
