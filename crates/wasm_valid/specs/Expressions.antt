-- What the code holds of an initial or an offset expression, seen as the definitions have it, and its faults row by row.
use Rattle.std.specs.Prelude.{ℕ, Bool, List, take}
use Rattle.w2c_base.specs.declared.value.ValType.{ValType}
use Rattle.wasm_tree.specs.declared.tree.Module.{Module}
use Rattle.w2c_base.specs.declared.value.ValType.TheVariants as type
use Rattle.wasm_tree.specs.declared.entries.GlobalEntry.{GlobalEntry}
use Rattle.wasm_tree.specs.declared.entries.ElementEntry.{ElementEntry}
use Rattle.wasm_tree.specs.declared.entries.SegmentEntry.{SegmentEntry}
use Rattle.wasm_tree.specs.IndexSpaces.{imported_global_space, global_space}
use Rattle.wasm_typing.specs.declared.fault.Fault.{Fault}
use Rattle.wasm_typing.specs.declared.fault.ValidCause.TheVariants as cause
use Rattle.wasm_typing.specs.ModuleFaults.{fault_if, Expression, Shape, constant, got, got_unknown, neither, shape_of, is_no_constant}
use Rattle.wasm_typing.specs.ModuleFaults.{is_got_unknown, has_other_type}
use Rattle.body_check.specs.declared.context.Spaces.{Spaces}
use Rattle.wasm_valid.specs.declared.expressions.Reach.{Reach}
use Rattle.wasm_valid.specs.declared.expressions.Reach.TheVariants.{Imported, All}
use Rattle.wasm_valid.specs.declared.expressions.Shape.{Shape as RustShape}
use Rattle.wasm_valid.specs.declared.expressions.Shape.TheVariants.{Constant, Got, GotUnknown, Neither}
use Rattle.wasm_valid.specs.declared.expressions.ExpressionRow.{ExpressionRow}
use Rattle.wasm_valid.specs.declared.expressions.ExpressionRow.TheVariants.{ConstantExpected, UnknownGlobal, TypeMismatch}

abbrev pub shape_seen : RustShape → Shape
shape_seen (Constant ty) = constant ty
shape_seen (Got ty mutable) = got ty mutable
shape_seen GotUnknown = got_unknown
shape_seen Neither = neither

-- the globals that an expression may get
abbrev pub globals_reached : Spaces → Reach → List (ValType × Bool)
globals_reached s Imported = take s.imported_globals s.globals.items
globals_reached s All = s.globals.items

-- the fault of a row that an expression of this shape has, which is to have a type
abbrev pub shape_fault : ExpressionRow → Shape → ValType → ℕ → List Fault
shape_fault ConstantExpected shape wanted place = fault_if (is_no_constant shape) place cause.ConstantExpected
shape_fault UnknownGlobal shape wanted place = fault_if (is_got_unknown shape) place cause.UnknownGlobal
shape_fault TypeMismatch shape wanted place = fault_if (has_other_type wanted shape) place cause.TypeMismatch

abbrev pub expression_fault : ExpressionRow → Expression → List Fault
expression_fault row e = shape_fault row (shape_of e.globals e.code) e.ty e.place

-- the expression of a global, and the offsets of segments
abbrev pub initial_of : Module → GlobalEntry → Expression
initial_of m g = record { code = g.code; ty = g.ty; globals = imported_global_space m; place = g.place }

abbrev pub element_offset : Module → ElementEntry → Expression
element_offset m e = record { code = e.offset; ty = type.I32; globals = global_space m; place = e.offset_place }

abbrev pub segment_offset : Module → SegmentEntry → Expression
segment_offset m s = record { code = s.offset; ty = type.I32; globals = global_space m; place = s.offset_place }
