-- A worked script on README's first module: both files, the words, and the report.
use Rattle.std.specs.Prelude.{ℕ, List, [], ◌∷◌, ◌++◌, codes}
use Rattle.w2c_io.specs.Contents.{Name}

-- the 37 bytes of a module that exports a function f, which adds 40 and 2: the head, and the sections of types, functions, exports
-- and code
abbrev pub two_wasm : List ℕ
two_wasm =
    0x00 ∷ 0x61 ∷ 0x73 ∷ 0x6D ∷ 0x01 ∷ 0x00 ∷ 0x00 ∷ 0x00
    ∷ 0x01 ∷ 0x05 ∷ 0x01 ∷ 0x60 ∷ 0x00 ∷ 0x01 ∷ 0x7F
    ∷ 0x03 ∷ 0x02 ∷ 0x01 ∷ 0x00
    ∷ 0x07 ∷ 0x05 ∷ 0x01 ∷ 0x01 ∷ 0x66 ∷ 0x00 ∷ 0x00
    ∷ 0x0A ∷ 0x09 ∷ 0x01 ∷ 0x07 ∷ 0x00 ∷ 0x41 ∷ 0x28 ∷ 0x41 ∷ 0x02 ∷ 0x6A ∷ 0x0B
    ∷ []

-- a script: the module, an assertion on f, a call that is kept, the assertion again, and that this file is no module
abbrev pub two_json : List ℕ
two_json =
    codes "{\"commands\": [\n"
    ++ (codes "  {\"type\": \"module\", \"name\": \"two\", \"filename\": \"examples/two.wasm\"},\n"
    ++ (codes "  {\"type\": \"assert_return\", \"module\": \"two\", \"field\": \"f\", \"args\": [], \"expected\": [{\"type\":"
    ++ (codes " \"i32\", \"value\": \"42\"}]},\n"
    ++ (codes "  {\"type\": \"call\", \"module\": \"two\", \"field\": \"f\", \"args\": []},\n"
    ++ (codes "  {\"type\": \"assert_return\", \"module\": \"two\", \"field\": \"f\", \"args\": [], \"expected\": [{\"type\":"
    ++ (codes " \"i32\", \"value\": \"42\"}]},\n"
    ++ (codes "  {\"type\": \"assert_malformed\", \"filename\": \"examples/two.json\"}\n"
    ++ codes "]}\n")))))))

-- wast_run --steps 100 examples/two.json
abbrev pub two_words : List Name
two_words = codes "--steps" ∷ codes "100" ∷ codes "examples/two.json" ∷ []

abbrev pub two_report : List ℕ
two_report =
    codes "command 1 ok\n"
    ++ (codes "command 2 ok\n"
    ++ (codes "command 3 ok\n"
    ++ (codes "command 4 ok\n"
    ++ (codes "command 5 ok\n"
    ++ codes "total 5 ok 5\n"))))
