-- What each instruction adds to what a translation has made, and code, and the whole body. This is the program's work instruction by
-- instruction; the statements that come of it are those of Code.
use Rattle.std.specs.Prelude.{suc, ◌+◌, Bool, true, false, drop, length, slice_get, Option, Some, None, option_map}
use Rattle.w2c_base.specs.declared.value.ValType.{ValType}
use Rattle.w2c_base.specs.declared.signature.FuncType.{FuncType}
use Rattle.w2c_base.specs.declared.trap.TrapKind.TheVariants as trap
use Rattle.w2c_base.specs.Lookup.{at_index}
use Rattle.wasm_tree.specs.Instructions.{Code, end_code, then_code, Kind, Otherwise, no_else, else_code, Unreachable, Nop, Return, Drop}
use Rattle.wasm_tree.specs.Instructions.{Select, Block, Loop, If, Br, BrIf, BrTable, Call, CallIndirect, LocalGet, LocalSet, LocalTee}
use Rattle.wasm_tree.specs.Instructions.{GlobalGet, GlobalSet}
use Rattle.c_tree.specs.Makers as makers
use Rattle.c_helpers.specs.declared.steps.Step.{Step}
use Rattle.c_helpers.specs.Steps.{step_of, taken, given}
use Rattle.body_emitter.specs.Begun.{begun, behind_code}
use Rattle.body_emitter.specs.Made.{Made, aims_of, put, put_each, popped, give, with_labels, ended, returned, indirect, name_block}
use Rattle.body_emitter.specs.Made.{name_blocks, switch_on, move_case, moved_cases, in_block, in_loop, in_first, in_second, behind_block}
use Rattle.body_emitter.specs.Made.{behind_loop, behind_first, behind_second}
use Rattle.body_forms.specs.Branches.{exit_of, if_aim, jump, branch_if}
use Rattle.body_definition.specs.Plain.{Setting, plain_stmts}
use Rattle.body_definition.specs.Labels.{labels_of}
use Rattle.body_definition.specs.Code.{call_stmts, call_indirect_stmts}
use Rattle.c_body.specs.StepStmts.{step_stmt}

abbrev pub did_step : Setting → Made → Step → Made
did_step c m s = give (given s) (put (step_stmt c.named.tree (length (drop (taken s) m.types)) s) (popped (taken s) m))

abbrev pub called : Option FuncType → Made → Made
called None m = m
called (Some ty) m = give ty.result (popped (length ty.params) m)

abbrev pub if_step : Setting → Made → Option Step → Made
if_step c m None = m
if_step c m (Some s) = did_step c m s

-- an instruction that holds no code
abbrev pub ran_plain : Setting → Made → Kind → Made
ran_plain c m Nop = m
ran_plain c m Unreachable = ended (put (makers.trap trap.Unreachable) m)
ran_plain c m (Br k) = ended (name_block k (put_each (if_aim (slice_get (aims_of m) k) (λ aim. jump aim m.types)) m))
ran_plain c m (BrIf k) =
    name_block k (put_each (if_aim (slice_get (aims_of m) k) (branch_if (drop 1 m.types) m.labels)) (with_labels 1 (popped 1 m)))
ran_plain c m (BrTable ks default) =
    ended (name_block default (name_blocks ks
    (move_case (length ks + m.labels) default (moved_cases m.labels ks
    (put (switch_on (aims_of m) (drop 1 m.types) m.labels ks default) (with_labels (suc (length ks)) (popped 1 m)))))))
ran_plain c m Return = ended (returned (put_each (jump (exit_of c.context.result) m.types) m))
ran_plain c m (Call index) = called (at_index c.context.funcs index) (put_each (call_stmts c m.types index) m)
ran_plain c m (CallIndirect type_index) =
    called (slice_get c.context.types type_index) (put_each (call_indirect_stmts c (drop 1 m.types) type_index) (indirect (popped 1 m)))
ran_plain c m Drop = popped 1 m
ran_plain c m Select = popped 2 (put_each (plain_stmts c m.types m.labels Select) (with_labels 1 m))
ran_plain c m (LocalGet index) = give (slice_get c.context.locals index) (put_each (plain_stmts c m.types m.labels (LocalGet index)) m)
ran_plain c m (LocalSet index) = popped 1 (put_each (plain_stmts c m.types m.labels (LocalSet index)) m)
ran_plain c m (LocalTee index) = put_each (plain_stmts c m.types m.labels (LocalTee index)) m
ran_plain c m (GlobalGet index) =
    give (option_map (λ g. g.0) (slice_get c.context.globals index)) (put_each (plain_stmts c m.types m.labels (GlobalGet index)) m)
ran_plain c m (GlobalSet index) = popped 1 (put_each (plain_stmts c m.types m.labels (GlobalSet index)) m)
ran_plain c m kind = if_step c m (step_of kind)

-- where the place is never reached only the labels are counted
abbrev pub unless_dead : Bool → Made → Made → Made
unless_dead true counted went = counted
unless_dead false counted went = went

abbrev mutual
  pub ran : Setting → Made → Code → Made
  ran c m end_code = m
  ran c m (then_code place kind code) = ran c (unless_dead m.is_dead (with_labels (labels_of kind) m) (ran_kind c m kind)) code

  pub ran_kind : Setting → Made → Kind → Made
  ran_kind c m (Block t code end_place) = behind_block t m (ran c (in_block t m) code)
  ran_kind c m (Loop t code end_place) = behind_loop t m (ran c (in_loop m) code)
  ran_kind c m (If t code otherwise end_place) = give t (ran_else c (popped 1 m) (ran c (in_first t otherwise (popped 1 m)) code) otherwise)
  ran_kind c m kind = ran_plain c m kind

  pub ran_else : Setting → Made → Made → Otherwise → Made
  ran_else c outer first no_else = behind_first outer first
  ran_else c outer first (else_code place code) = behind_second outer first (ran c (in_second outer first) code)

abbrev pub ran_instr : Setting → Made → Kind → Made
ran_instr c m kind = unless_dead m.is_dead (with_labels (labels_of kind) m) (ran_kind c m kind)

abbrev pub ran_block : Setting → Option ValType → Made → Code → Made
ran_block c t m code = behind_block t m (ran c (in_block t m) code)

abbrev pub ran_loop : Setting → Option ValType → Made → Code → Made
ran_loop c t m code = behind_loop t m (ran c (in_loop m) code)

abbrev pub ran_branches : Setting → Option ValType → Made → Code → Otherwise → Made
ran_branches c t m code otherwise = give t (ran_else c m (ran c (in_first t otherwise m) code) otherwise)

-- the whole body
abbrev pub body_made : Setting → Code → Made
body_made c code = behind_code c.context.result (ran c (begun c.context.result) code)
