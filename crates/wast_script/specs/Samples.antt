-- JSON values for closed cases.
use Rattle.std.specs.Prelude.{ℕ, List, [], ◌∷◌, ◌++◌, Some, codes}
use Prim.Native.String.{String}
use Rattle.w2c_base.specs.declared.value.Value.TheVariants.{I32}
use Rattle.serde_json.specs.Data.{Data, array, item, member, no_items, no_members, object, string}
use Rattle.wast_script.specs.Commands.{AssertReturn, Call, Command, Module}

abbrev pub listed : Data → Data
listed d = array (item d no_items)

abbrev pub value_object : String → String → Data
value_object ty digits = object (member (codes "type") (string (codes ty)) (member (codes "value") (string (codes digits)) no_members))

abbrev pub file_at : String → String → Data
file_at kind filename =
    object (member (codes "filename") (string (codes filename)) (member (codes "type") (string (codes kind)) no_members))

abbrev pub module_at : String → String → Data
module_at name filename =
    object (member (codes "filename") (string (codes filename)) (member (codes "name") (string (codes name))
    (member (codes "type") (string (codes "module")) no_members)))

-- a call of `add` in `add` with 1
abbrev pub call : String → Data
call kind =
    object (member (codes "args") (listed (value_object "i32" "1")) (member (codes "field") (string (codes "add"))
    (member (codes "module") (string (codes "add")) (member (codes "type") (string (codes kind)) no_members))))

-- the same with one more member, which comes behind `args` in the order of keys
abbrev pub assertion : String → String → Data → Data
assertion kind name d =
    object (member (codes "args") (listed (value_object "i32" "1")) (member (codes name) d (member (codes "field") (string (codes "add"))
    (member (codes "module") (string (codes "add")) (member (codes "type") (string (codes kind)) no_members)))))

abbrev pub said_call : Call
said_call = record { module_name = codes "add"; field_name = codes "add"; args = I32 1 ∷ [] }

-- a module, and an assertion that its sum of 4294967295 and 1 is 0
abbrev pub two_commands : List ℕ
two_commands =
    codes "{\"commands\":[{\"type\":\"module\",\"name\":\"add\",\"filename\":\"add.wasm\"},"
    ++ codes "{\"type\":\"assert_return\",\"module\":\"add\",\"field\":\"add\","
    ++ codes "\"args\":[{\"type\":\"i32\",\"value\":\"4294967295\"},{\"type\":\"i32\",\"value\":\"1\"}],"
    ++ codes "\"expected\":[{\"type\":\"i32\",\"value\":\"0\"}]}]}"

abbrev pub two_commands_are : List Command
two_commands_are =
    Module (record { name = codes "add"; filename = codes "add.wasm" })
    ∷ AssertReturn (record { module_name = codes "add"; field_name = codes "add"; args = I32 4294967295 ∷ I32 1 ∷ [] }) (Some (I32 0)) ∷ []
