-- The tests by which a module joins a set, and by which a call fits one.
use Rattle.std.specs.Prelude.{ℕ, ◌&&◌, nat_lt, Bool, false, List, length, find, bytes_eq, is_none, Option, Some, None}
use Rattle.std.specs.List.{list_all}
use Rattle.w2c_base.specs.declared.value.Value.{Value}
use Rattle.w2c_base.specs.declared.signature.FuncType.{FuncType}
use Rattle.w2c_base.specs.Values.{equal_types, types_of}
use Rattle.wasm_tree.specs.declared.tree.Module.{Module}
use Rattle.wasm_tree.specs.declared.entries.Import.{Import}
use Rattle.wasm_tree.specs.IndexSpaces.{type_in}
use Rattle.wasm_set.specs.declared.set_module.SetModule.{SetModule}
use Rattle.wasm_set.specs.declared.offer.Offer.{Offer}
use Rattle.wasm_set.specs.declared.offer.Offer.TheVariants.{Func, Table, Memory, Global}
use Rattle.wasm_set.specs.Offers.{offered, is_of_kind}

-- the module of this name
abbrev pub module_named : List SetModule → List ℕ → Option SetModule
module_named modules name = find (λ m. bytes_eq m.name name) modules

abbrev pub gives_if_any : Module → Option Offer → Module → Import → Bool
gives_if_any from None m i = false
gives_if_any from (Some offer) m i = is_of_kind from offer m i.kind

abbrev pub gives : Option SetModule → Module → Import → Bool
gives None m i = false
gives (Some from) m i = gives_if_any from.«module» (offered from.«module» i.field) m i

-- a module of these offers what an import asks for
abbrev pub is_given : List SetModule → Module → Import → Bool
is_given modules m i = gives (module_named modules i.«module») m i

-- a module that may join these
abbrev pub may_join : List SetModule → List ℕ → Module → Bool
may_join modules name m =
    nat_lt (length modules) 16 && (is_none (module_named modules name) && list_all (is_given modules m) m.imports)

-- a function's type takes these arguments
abbrev pub takes : Option FuncType → List Value → Bool
takes None args = false
takes (Some ty) args = equal_types ty.params (types_of args)

abbrev pub offer_takes : Module → Option Offer → List Value → Bool
offer_takes m None args = false
offer_takes m (Some (Func u)) args = takes (type_in m u) args
offer_takes m (Some Table) args = false
offer_takes m (Some Memory) args = false
offer_takes m (Some (Global ty mutable)) args = false

abbrev pub module_takes : Option SetModule → List ℕ → List Value → Bool
module_takes None name args = false
module_takes (Some m) name args = offer_takes m.«module» (offered m.«module» name) args
