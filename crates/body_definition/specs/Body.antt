-- The static function of a module's function (WebAssembly Core 1.0, 2.5.3 functions and 4.4.7.1
-- invocation): a test of the depth of calls, the code, and one exit, which counts the depth down.
use Rattle.std.specs.Prelude.{filter, ℕ, ◌||◌, max, Bool, true, false, if◌then◌else◌, List, [], ◌∷◌, ◌++◌, map, length, Option, Some, None}
use Rattle.std.specs.Prelude.{option_map, unwrap_or}
use Rattle.std.specs.List.{range_with_len}
use Rattle.w2c_base.specs.declared.value.ValType.{ValType}
use Rattle.w2c_base.specs.declared.value.ValType.TheVariants as type
use Rattle.w2c_base.specs.declared.signature.FuncType.{FuncType}
use Rattle.w2c_base.specs.declared.trap.TrapKind.TheVariants as trap
use Rattle.w2c_base.specs.Lookup.{if_found}
use Rattle.wasm_tree.specs.declared.tree.Module.{Module}
use Rattle.wasm_tree.specs.declared.entries.FuncEntry.{FuncEntry}
use Rattle.wasm_tree.specs.declared.entries.BodyEntry.{BodyEntry}
use Rattle.wasm_tree.specs.IndexSpaces.{type_in, declared_locals, at_defined}
use Rattle.wasm_tree.specs.Instructions.{Code, Kind, Return, CallIndirect}
use Rattle.wasm_tree.specs.NamedModule.{NamedModule}
use Rattle.wasm_typing.specs.Context.{Context, context_of}
use Rattle.wasm_typing.specs.Typing.{values}
use Rattle.wasm_typing.specs.Verdict.{bodies_of}
use Rattle.c_tree.specs.declared.tree.CType.TheVariants as c_type
use Rattle.c_tree.specs.declared.tree.Num.TheVariants.{N32, Plain}
use Rattle.c_tree.specs.declared.tree.COp.TheVariants as op
use Rattle.c_tree.specs.Tree as tree
use Rattle.c_tree.specs.TypesInC.{c_result_of}
use Rattle.c_tree.specs.Makers as makers
use Rattle.c_tree.specs.DefinedNames.{func_name, label_name}
use Rattle.c_tree.specs.Runtime.{depth_name}
use Rattle.c_helpers.specs.Translated.{any_in}
use Rattle.body_forms.specs.Variables.{params_of, zero_local, locals_from}
use Rattle.body_forms.specs.Frame.{give_back, change_depth}
use Rattle.body_forms.specs.Names.{slot, element_name}
use Rattle.body_forms.specs.Branches.{exit_of, entry_label, exit_label, first_label, label_if}
use Rattle.body_definition.specs.Stack.{stands, occurs, peak}
use Rattle.body_definition.specs.Labels.{targets}
use Rattle.body_definition.specs.Plain.{Setting}
use Rattle.body_definition.specs.Code.{emit}

-- ---- parameters and local variables

-- a value of this type stands at this height somewhere in the code, or is the function's result
abbrev pub has_slot : ValType → Context → Code → ℕ → Bool
has_slot t c code height = stands t height (values c.result) || occurs t height c [] code

-- the greatest height of the code's operands and of the result
abbrev pub most_operands : Context → Code → ℕ
most_operands c code = max (length (values c.result)) (peak c [] code)

-- the slots of a type that occur, so that C compilers see no variable without a use
abbrev pub slots_of : ValType → Context → Code → List tree.Local
slots_of t c code = map (λ height. zero_local t (slot t height)) (filter (has_slot t c code) (range_with_len 0 (most_operands c code)))

abbrev pub is_indirect : Kind → Bool
is_indirect (CallIndirect type_index) = true
is_indirect _ = false

abbrev pub has_element : Code → Bool
has_element code = any_in is_indirect code

abbrev pub element_local : Code → List tree.Local
element_local code = if has_element code then (c_type.FnPtr, element_name, Plain 0) ∷ [] else []

-- ---- the body

abbrev pub is_return : Kind → Bool
is_return Return = true
is_return _ = false

-- a branch or a return goes to the function's exit
abbrev pub names_exit : Code → Bool
names_exit code = targets 0 code || any_in is_return code

abbrev pub code_stmts : Setting → Code → List tree.Stmt
code_stmts c code = emit c (exit_of c.context.result ∷ []) [] first_label code

abbrev pub stmts_of : Setting → Code → List tree.Stmt
stmts_of c code =
    tree.If op.Lt (tree.Name depth_name) (tree.Number (N32 1024)) (label_name entry_label)
    ∷ makers.trap trap.Exhaustion
    ∷ give_back c.context.result
    ∷ tree.Label (label_name entry_label)
    ∷ change_depth op.Add
    ∷ (code_stmts c code
    ++ (label_if (names_exit code) exit_label
    ++ (change_depth op.Sub ∷ give_back c.context.result ∷ [])))

abbrev pub func_of : NamedModule → ℕ → FuncType → BodyEntry → tree.Func
func_of m index ty body =
    let c : Context = context_of m.tree ty body in
    record {
      is_static = true;
      result = c_result_of ty.result;
      name = func_name index;
      params = params_of ty.params;
      body = Some (record {
        locals =
            locals_from (length ty.params) (declared_locals body.runs)
            ++ (slots_of type.I32 c body.code
            ++ (slots_of type.I64 c body.code
            ++ element_local body.code));
        stmts = stmts_of (record { named = m; context = c }) body.code;
      });
    }

-- the declaration and the body of a defined function
abbrev pub defined_at : Module → ℕ → Option (FuncEntry × BodyEntry)
defined_at m index = at_defined m (bodies_of m) index

-- what stands for a function that is not there
abbrev pub no_func : tree.Func
no_func = record { is_static = true; result = c_type.Void; name = []; params = []; body = None }

-- the function of the module with this tree and name that has this index
abbrev pub body_of : Module → List ℕ → ℕ → tree.Func
body_of m name index =
    unwrap_or
    (if_found (defined_at m index) (λ d. option_map (λ ty. func_of (record { name = name; tree = m }) index ty d.1)
    (type_in m d.0.type_index)))
    no_func
