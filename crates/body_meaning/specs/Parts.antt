-- What each part of the proof of bodies shows, so that the parts can be proved apart: of one instruction, of
-- code, and of a function that is called.
use Rattle.std.specs.Prelude.{◌≡◌, ℕ, suc, ◌+◌, ◌<◌, ◌≤◌, ◌^◌, Bool, true, false, List, [], ◌∷◌, ◌++◌, map, length, slice_get, Some}
use Rattle.std.specs.Prelude.{⊤}
use Rattle.w2c_base.specs.declared.value.ValType.{ValType}
use Rattle.w2c_base.specs.declared.value.Value.{Value}
use Rattle.w2c_base.specs.declared.signature.FuncType.{FuncType}
use Rattle.w2c_base.specs.Values.{types_of}
use Rattle.wasm_tree.specs.Instructions.{Code, Kind, Unreachable, Return, Block, Loop, If, Br, BrIf, BrTable, Call, CallIndirect}
use Rattle.wasm_tree.specs.declared.entries.BodyEntry.{BodyEntry}
use Rattle.wasm_tree.specs.Within.{has_wide}
use Rattle.wasm_typing.specs.Context.{context_of}
use Rattle.wasm_typing.specs.Typing.{Stack, HasType, KindHasType}
use Rattle.c_tree.specs.Tree as tree
use Rattle.c_tree.specs.DefinedNames.{label_name}
use Rattle.wasm_meaning.specs.Store as store
use Rattle.wasm_meaning.specs.Execution as exec
use Rattle.c_meaning.specs.State as state
use Rattle.c_meaning.specs.Step.{after_label}
use Rattle.alike.specs.CallsFollow.{CallsFollow}
use Rattle.c_helpers.specs.declared.operation.Helper.{Helper}
use Rattle.c_helpers.specs.Helpers.{helper_of}
use Rattle.c_helpers.specs.Translated.{any_in}
use Rattle.c_helpers.specs.Needed.{calls_helper}
use Rattle.body_forms.specs.Branches.{Aim, exit_of}
use Rattle.body_definition.specs.Stack.{stands, occurs, after}
use Rattle.body_definition.specs.Labels.{labels_in, targets as branches_to}
use Rattle.body_definition.specs.Limits.{BodyHasLimits}
use Rattle.body_definition.specs.Code.{emit, emit_kind}
use Rattle.body_definition.specs.Body.{func_of, has_slot, has_element, is_return, is_indirect}
use Rattle.body_meaning.specs.Serves.{AreServed}
use Rattle.alike.specs.Defines.{Defines}
use Rattle.alike.specs.Placed.{IsPlaced}
use Rattle.body_meaning.specs.Follows.{Site, Target, StandsAt, Follows, at}

-- a running function of the module with the site's number, over calls that are followed
pub record IsSite (g : Site) (room : ℕ) (calls : exec.Calls) : Type 0 where
  pub served : AreServed g.program g.linked
  pub module_is : slice_get g.linked.modules g.unit ≡ Some g.setting.named
  pub is_ready : g.unit < g.count
  pub room_is : suc g.depth + room ≡ 1024
  pub calls_follow : CallsFollow g.program g.linked g.count room calls
  pub index : ℕ
  pub ty : FuncType
  pub entry : BodyEntry
  pub few_params : length ty.params ≤ 60
  pub context_is : g.setting.context ≡ context_of g.setting.named.tree ty entry
  pub body_is : (func_of g.setting.named index ty entry).body ≡ Some g.body
  pub slots_are : (t : ValType) (height : ℕ) → g.slots t height ≡ has_slot t g.setting.context entry.code height
  pub element_is : g.has_element ≡ has_element entry.code
  pub within : BodyHasLimits entry

-- a target's block has the lower part of `base` as its operands, and its value's slot is declared
pub record IsTarget (g : Site) (base : List Value) (t : Target) : Type 0 where
  pub upper : List Value
  pub lower : base ≡ upper ++ t.base
  pub height : t.aim.height ≡ length (types_of t.base)
  pub declared : (u : ValType) → t.aim.value ≡ Some u → g.slots u t.aim.height ≡ true

-- its label is found where a branch names it
abbrev pub IsFoundIf : Bool → Site → Target → Type 0
IsFoundIf named g t = named ≡ true → after_label (label_name t.aim.label) g.body.stmts ≡ Some t.rest

-- the targets from number k on, of which these are named
abbrev pub AreTargets : Site → List Value → (ℕ → Bool) → ℕ → List Target → Type 0
AreTargets g base named k [] = ⊤
AreTargets g base named k (t ∷ targets) = IsTarget g base t × IsFoundIf (named k) g t × AreTargets g base named (suc k) targets

-- the function's exit, which returns go to where there are any
pub record IsExit (g : Site) (base : List Value) (returns : Bool) (t : Target) : Type 0 where
  pub target : IsTarget g base t
  pub found : IsFoundIf returns g t
  pub aim_is : t.aim ≡ exit_of g.setting.context.result
  pub base_is : t.base ≡ []

abbrev pub aims_of : List Target → List Aim
aims_of targets = map (λ t. t.aim) targets

-- where an instruction stands: the targets and the operands outside its block, the number of the next label, the statements
-- to come, the types of the operands behind it, and what it finds
pub record Spot : Type 0 where
  pub targets : List Target
  pub base : List Value
  pub label : ℕ
  pub rest : List tree.Stmt
  pub outs : Stack
  pub now : store.State
  pub machine : state.Machine
  pub vars : state.Vars

-- One instruction, which has a type for the operands of its block, over those of the blocks outside. The stack
-- behind it has its slots.
pub record IsHere (g : Site) (kind : Kind) (s : Spot) (stack : List Value) : Type 0 where
  pub typed : KindHasType g.setting.context (map (λ t. t.aim.value) s.targets) kind (types_of stack) s.outs
  pub slots : (t : ValType) (height : ℕ) → stands t height (after g.setting.context (types_of (stack ++ s.base)) kind) ≡ true
      → g.slots t height ≡ true
  pub narrow : has_wide kind ≡ false
  pub placed : IsPlaced g.body.stmts (emit_kind g.setting (aims_of s.targets) (types_of (stack ++ s.base)) s.label kind) s.rest
  pub stands : StandsAt g (stack ++ s.base) s.now s.machine s.vars

abbrev pub KindFollows : Site → exec.Calls → Kind → Type 0
KindFollows g calls kind =
    (s : Spot) (stack : List Value) → IsHere g kind s stack → (exit : Target) (n : ℕ)
    → Follows g 0 s.targets exit s.base s.rest s.outs
    (at g s.machine (emit_kind g.setting (aims_of s.targets) (types_of (stack ++ s.base)) s.label kind ++ s.rest) s.vars)
    n
    (exec.exec_kind g.linked calls g.unit kind n stack s.now)

-- code, of which each stack inside has its slots
abbrev pub CodeFollows : Site → exec.Calls → Code → Type 0
CodeFollows g calls code =
    (targets : List Target) (exit : Target) (base stack : List Value) (l n : ℕ) (rest : List tree.Stmt) (outs : Stack)
    (now : store.State) (m : state.Machine) (vars : state.Vars)
    → HasType g.setting.context (map (λ t. t.aim.value) targets) code (types_of stack) outs
    → AreTargets g base (λ k. branches_to k code) 0 targets → IsExit g base (any_in is_return code) exit
    → ((t : ValType) (height : ℕ) → occurs t height g.setting.context (types_of (stack ++ base)) code ≡ true → g.slots t height ≡ true)
    → l + labels_in code < 2 ^ 32 → any_in has_wide code ≡ false
    → IsPlaced g.body.stmts (emit g.setting (aims_of targets) (types_of (stack ++ base)) l code) rest
    → StandsAt g (stack ++ base) now m vars
    → Follows g 0 targets exit base rest outs
    (at g m (emit g.setting (aims_of targets) (types_of (stack ++ base)) l code ++ rest) vars)
    n
    (exec.exec g.linked calls g.unit code n stack now)

-- an instruction that holds no code, does not jump and does not call
abbrev pub is_plain : Kind → Bool
is_plain Unreachable = false
is_plain (Block t code end_place) = false
is_plain (Loop t code end_place) = false
is_plain (If t code otherwise end_place) = false
is_plain (Br label) = false
is_plain (BrIf label) = false
is_plain (BrTable labels default) = false
is_plain Return = false
is_plain (Call index) = false
is_plain (CallIndirect type_index) = false
is_plain _ = true

-- what code calls is there, by what tests find in it: its helpers in the unit, and the variable for an element
pub record IsThere (g : Site) (finds : (Kind → Bool) → Bool) : Type 0 where
  pub helpers : (which : Helper) → finds (calls_helper which) ≡ true → Defines g.program g.unit (helper_of which)
  pub element : finds is_indirect ≡ true → g.has_element ≡ true

-- ---- the parts

abbrev pub PlainKindsFollow : Type 0
PlainKindsFollow =
    (g : Site) (room : ℕ) (calls : exec.Calls) (kind : Kind) → IsSite g room calls → IsThere g (λ test. test kind) → is_plain kind ≡ true
    → KindFollows g calls kind

abbrev pub CallsInCodeFollow : Type 0
CallsInCodeFollow = (g : Site) (room : ℕ) (calls : exec.Calls) (index : ℕ) → IsSite g room calls → KindFollows g calls (Call index)

abbrev pub IndirectCallsFollow : Type 0
IndirectCallsFollow =
    (g : Site) (room : ℕ) (calls : exec.Calls) (type_index : ℕ) → IsSite g room calls → IsThere g (λ test. test (CallIndirect type_index))
    → KindFollows g calls (CallIndirect type_index)

abbrev pub AllCodeFollows : Type 0
AllCodeFollows =
    (g : Site) (room : ℕ) (calls : exec.Calls) (code : Code) → IsSite g room calls → IsThere g (λ test. any_in test code)
    → CodeFollows g calls code
