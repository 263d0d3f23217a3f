-- The verdict on a module: it is valid (WebAssembly Core 1.0, 3.4.10), or it has a first fault.
use Rattle.std.specs.Prelude.{◌≡◌, if◌then◌else◌, nat_lt, List, [], ◌∷◌, ◌++◌, zip, Option, Some, None, ◌⊎◌}
use Rattle.std.specs.List.{AllByRecursion}
use Rattle.wasm_tree.specs.declared.tree.Module.{Module}
use Rattle.wasm_tree.specs.declared.entries.FuncEntry.{FuncEntry}
use Rattle.wasm_tree.specs.declared.entries.BodyEntry.{BodyEntry}
use Rattle.wasm_typing.specs.declared.fault.Fault.{Fault}
use Rattle.wasm_typing.specs.Context.{Context, body_context}
use Rattle.wasm_typing.specs.Typing.{BodyHasType}
use Rattle.wasm_typing.specs.BodyFault.{FirstBodyFault}
use Rattle.wasm_typing.specs.ModuleFaults.{module_faults}

-- the defined functions, each with its body
abbrev pub Bodies : Type 0
Bodies = List (FuncEntry × BodyEntry)

abbrev pub bodies_of : Module → Bodies
bodies_of m = zip m.funcs m.bodies

-- a body that has a typing, in its function's context. A body whose function has no type has nothing to fulfil
abbrev pub IsTyped : Option Context → BodyEntry → Type 0
IsTyped None body = Unit {0}
IsTyped (Some c) body = BodyHasType c body.code

-- the faults of one body: none, or the first
abbrev pub FaultOfBody : Option Context → BodyEntry → List Fault → Type 0
FaultOfBody None body faults = faults ≡ []
FaultOfBody (Some c) body faults =
    (BodyHasType c body.code × (faults ≡ [])) ⊎ ((fault : Fault) × FirstBodyFault c body fault × (faults ≡ fault ∷ []))

-- the first faults of bodies, in their order
abbrev pub FaultsOfBodies : Module → Bodies → List Fault → Type 0
FaultsOfBodies m [] faults = faults ≡ []
FaultsOfBodies m (b ∷ bodies) faults =
    (of_first of_others : List Fault) × FaultOfBody (body_context m b.0 b.1) b.1 of_first
    × FaultsOfBodies m bodies of_others × (faults ≡ of_first ++ of_others)

-- all faults of a module: those outside the bodies, row by row, and behind them the bodies'
abbrev pub FaultsOf : Module → List Fault → Type 0
FaultsOf m faults = (of_bodies : List Fault) × FaultsOfBodies m (bodies_of m) of_bodies × (faults ≡ module_faults m ++ of_bodies)

-- the fault with the least place; of several there the first in the list, which is that of the earliest row
abbrev pub sooner : Fault → Option Fault → Fault
sooner fault None = fault
sooner fault (Some other) = if nat_lt other.place fault.place then other else fault

abbrev pub first_fault : List Fault → Option Fault
first_fault [] = None
first_fault (fault ∷ faults) = Some (sooner fault (first_fault faults))

pub data Outcome : Type 0 where
  Accepted : Outcome
  Invalid : Fault → Outcome

abbrev pub outcome_of : Option Fault → Outcome
outcome_of None = Accepted
outcome_of (Some fault) = Invalid fault

-- what is said of a module
abbrev pub Verdict : Module → Outcome → Type 0
Verdict m outcome = (faults : List Fault) × FaultsOf m faults × (outcome ≡ outcome_of (first_fault faults))

-- a module is valid where no fault stands outside its bodies and each body has a typing
abbrev pub AreTyped : Module → Bodies → Type 0
AreTyped m bodies = AllByRecursion (λ b. IsTyped (body_context m b.0 b.1) b.1) bodies

pub record IsValid (m : Module) : Type 0 where
  pub no_faults : module_faults m ≡ []
  pub bodies : AreTyped m (bodies_of m)
