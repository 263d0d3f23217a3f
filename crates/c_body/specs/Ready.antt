-- What the translation of code rests on at a place: its labels can be counted; and where the place is reached, the code
-- is typed on the operands of its block (WebAssembly Core 1.0, 3.3.6), and no number in it has more than 32 bits.
use Rattle.std.specs.Prelude.{◌≡◌, ℕ, ◌≤◌, true, List, length, suc, ◌<◌, ◌+◌, ◌^◌, ◌||◌, false, [], ◌++◌, Option, Some, None, slice_get}
use Rattle.w2c_base.specs.declared.value.ValType.{ValType}
use Rattle.w2c_base.specs.declared.signature.FuncType.{FuncType}
use Rattle.w2c_base.specs.Lookup.{at_index}
use Rattle.wasm_tree.specs.Instructions.{Code, Kind, Otherwise, else_code, Drop, Select, Block, Loop, If, Br, BrIf, BrTable, Call}
use Rattle.wasm_tree.specs.Instructions.{CallIndirect, LocalGet, LocalSet, LocalTee, GlobalGet, GlobalSet, Unreachable, Return}
use Rattle.wasm_tree.specs.InstructionTable.{Typing, of_types, by_rule}
use Rattle.wasm_tree.specs.Within.{has_wide}
use Rattle.wasm_typing.specs.Typing.{Stack, HasType, KindHasType, BodyHasType, table_type}
use Rattle.wasm_typing.specs.Context.{Context, Labels}
use Rattle.c_helpers.specs.Translated.{any_in, any_in_else, any_inside}
use Rattle.body_emitter.specs.Marks.{is_marked}
use Rattle.body_emitter.specs.Shown.{HasOperands, types_of}
use Rattle.body_emitter.specs.declared.mark.Mark.{Mark}
use Rattle.body_emitter.specs.declared.emitter.Emitter.{Emitter}
use Rattle.body_definition.specs.Stack.{stands}
use Rattle.body_definition.specs.Labels.{labels_in, labels_in_else, labels_of}

-- every operand on the stack is marked
pub record Covered (types : Stack) (marks : List Mark) : Type 0 where
  pub found : (t : ValType) (h : ℕ) → stands t h types ≡ true → is_marked t h marks ≡ true
  pub height : length types ≤ length marks

-- ---- how many operands an instruction takes off

abbrev params_of : Option FuncType → ℕ
params_of None = 0
params_of (Some ty) = length ty.params

abbrev pub operands_in : Typing → ℕ
operands_in (of_types operands results) = length operands
operands_in by_rule = 0

abbrev pub takes : Context → Kind → ℕ
takes c Drop = 1
takes c Select = 2
takes c (LocalGet index) = 0
takes c (LocalSet index) = 1
takes c (LocalTee index) = 0
takes c (GlobalGet index) = 0
takes c (GlobalSet index) = 1
takes c Unreachable = 0
takes c (Block t code end_place) = 0
takes c (Loop t code end_place) = 0
takes c (If t code otherwise end_place) = 1
takes c (Br label) = 0
takes c (BrIf label) = 1
takes c (BrTable labels default) = 1
takes c Return = 0
takes c (Call index) = params_of (at_index c.funcs index)
takes c (CallIndirect type_index) = suc (params_of (slice_get c.types type_index))
takes c kind = operands_in (table_type kind)

-- ---- code

pub record IsReached (c : Context) (e : Emitter) (code : Code) : Type 0 where
  pub covered : Covered (types_of e.operands) e.operands.marks.items
  pub numbers : any_in has_wide code ≡ false
  pub labels : Labels
  pub own : Stack
  pub outs : Stack
  pub base : Stack
  pub types : types_of e.operands ≡ own ++ base
  pub floor : e.operands.floor ≡ length base
  pub typed : HasType c labels code own outs

pub record CodeIsReady (c : Context) (e : Emitter) (code : Code) : Type 0 where
  pub labels : labels_in code + e.labels < 2 ^ 64
  pub reached : e.is_dead ≡ false → IsReached c e code

-- ---- an instruction

pub record KindIsReached (c : Context) (e : Emitter) (kind : Kind) : Type 0 where
  pub covered : Covered (types_of e.operands) e.operands.marks.items
  pub numbers : (has_wide kind || any_inside has_wide kind) ≡ false
  pub labels : Labels
  pub own : Stack
  pub outs : Stack
  pub base : Stack
  pub types : types_of e.operands ≡ own ++ base
  pub floor : e.operands.floor ≡ length base
  pub typed : KindHasType c labels kind own outs

pub record KindIsReady (c : Context) (e : Emitter) (kind : Kind) : Type 0 where
  pub labels : labels_of kind + e.labels < 2 ^ 64
  pub reached : e.is_dead ≡ false → KindIsReached c e kind

-- an instruction that holds no code, at a place that is reached
pub record PlainIsReady (c : Context) (e : Emitter) (kind : Kind) : Type 0 where
  pub labels : labels_of kind + e.labels < 2 ^ 64
  pub numbers : has_wide kind ≡ false
  pub operands : HasOperands (takes c kind) e.operands

-- ---- code inside an instruction that takes so many labels itself, at a place that is reached

pub record InsideIsReady (c : Context) (e : Emitter) (taken : ℕ) (code : Code) (otherwise : Otherwise) : Type 0 where
  pub labels : taken + (labels_in code + (labels_in_else otherwise + e.labels)) < 2 ^ 64
  pub live : e.is_dead ≡ false
  pub covered : Covered (types_of e.operands) e.operands.marks.items
  pub numbers : any_in has_wide code ≡ false
  pub numbers_else : any_in_else has_wide otherwise ≡ false
  pub label_types : Labels
  pub outs : Stack
  pub typed : HasType c label_types code [] outs
  pub typed_else : (place : ℕ) (other : Code) → otherwise ≡ else_code place other → HasType c label_types other [] outs

-- ---- a whole body, in front of whose labels stand those of the entry and the exit

pub record BodyIsReady (c : Context) (code : Code) : Type 0 where
  pub labels : labels_in code + 2 < 2 ^ 64
  pub numbers : any_in has_wide code ≡ false
  pub typed : BodyHasType c code
