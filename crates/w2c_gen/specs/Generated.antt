-- The generated module of n functions (WebAssembly Core 1.0, 2.5). Each computes with its argument and a number of its
-- own, and most then call the function before them, so that a call of the last runs through at most a thousand. Every
-- place is 0.
use Rattle.std.specs.Prelude.{ℕ, ℤ, pos, zero, suc, ◌-◌, ◌-ℤ◌, ◌%◌, ◌^◌, ◌==◌, nat_lt, if◌then◌else◌, List, [], ◌∷◌, map, replicate, Some}
use Rattle.std.specs.Prelude.{None}
use Rattle.std.specs.List.{range_with_len}
use Rattle.w2c_base.specs.declared.value.ValType.TheVariants as type
use Rattle.wasm_tree.specs.Instructions.{Code, end_code, then_code, Kind, LocalGet, I32Const, Call, Binary}
use Rattle.wasm_tree.specs.declared.operators.BinaryOp.TheVariants.{Add, Sub, Mul, Xor}
use Rattle.wasm_tree.specs.declared.entries.TypeEntry.{TypeEntry}
use Rattle.wasm_tree.specs.declared.entries.FuncEntry.{FuncEntry}
use Rattle.wasm_tree.specs.declared.entries.Export.{Export}
use Rattle.wasm_tree.specs.declared.entries.ExportKind.TheVariants.{Func as ExportFunc}
use Rattle.wasm_tree.specs.declared.entries.BodyEntry.{BodyEntry}
use Rattle.wasm_tree.specs.declared.tree.Module.{Module}
use Rattle.w2c_gen.specs.Numbers.{number_at}

-- 32 bits read with a sign
abbrev pub signed_reading : ℕ → ℤ
signed_reading n = if nat_lt n (2 ^ 31) then pos n else (pos n -ℤ pos (2 ^ 32))

-- the operator of a remainder by four
abbrev pub operator : ℕ → Kind
operator zero = Binary type.I32 Add
operator (suc zero) = Binary type.I32 Sub
operator (suc (suc zero)) = Binary type.I32 Mul
operator _ = Binary type.I32 Xor

-- a call of the function before function k. Each thousandth function has none
abbrev pub call_before : ℕ → Code
call_before k = if k % 1000 == 0 then end_code else then_code 0 (Call (k - 1)) end_code

-- the code of function k, where x is its number
abbrev pub code_with : (x k : ℕ) → Code
code_with x k =
    then_code 0 (LocalGet 0)
    (then_code 0 (I32Const (signed_reading x))
    (then_code 0 (operator (x % 4)) (call_before k)))

abbrev pub body_with : (x k : ℕ) → BodyEntry
body_with x k = record { runs = []; code = code_with x k; end_place = 0 }

-- the body of function k of n
abbrev pub body_of : (n k : ℕ) → BodyEntry
body_of n k = body_with (number_at n (suc k)) k

-- [i32] → [i32]
abbrev pub number_to_number : TypeEntry
number_to_number = record { place = 0; ty = record { params = type.I32 ∷ []; result = Some type.I32 } }

abbrev pub of_first_type : FuncEntry
of_first_type = record { type_index = 0; place = 0 }

-- the bytes of `run`
abbrev pub run_name : List ℕ
run_name = 0x72 ∷ 0x75 ∷ 0x6E ∷ []

abbrev pub run_export : ℕ → Export
run_export index = record { name = run_name; kind = ExportFunc; index = index; name_place = 0; index_place = 0 }

-- n functions of one type, the last of them exported
abbrev pub generated : ℕ → Module
generated n = record {
  types = number_to_number ∷ [];
  imports = [];
  funcs = replicate n of_first_type;
  tables = [];
  memories = [];
  globals = [];
  exports = run_export (n - 1) ∷ [];
  start = None;
  elements = [];
  data_count = None;
  segments = [];
  bodies = map (body_of n) (range_with_len 0 n);
}
