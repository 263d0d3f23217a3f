-- README's first module: its file, the words that translate it, the texts that are written, and runs of the unit that two.c spells.
use Rattle.std.specs.Prelude.{ℕ, List, [], ◌∷◌, ◌++◌, codes, replicate}
use Rattle.w2c_base.specs.Run.{Host, Reply}
use Rattle.w2c_io.specs.Contents.{Name}
use Rattle.c_tree.specs.Tree.{Item}
use Rattle.c_meaning.specs.Linking.{SymbolCall}
use Rattle.c_meaning.specs.Run.{CRun, c_run}

-- the 37 bytes of a module that exports a function f, which adds 40 and 2: the head, and the sections of types, functions, exports
-- and code
abbrev pub two_wasm : List ℕ
two_wasm =
    0x00 ∷ 0x61 ∷ 0x73 ∷ 0x6D ∷ 0x01 ∷ 0x00 ∷ 0x00 ∷ 0x00
    ∷ 0x01 ∷ 0x05 ∷ 0x01 ∷ 0x60 ∷ 0x00 ∷ 0x01 ∷ 0x7F
    ∷ 0x03 ∷ 0x02 ∷ 0x01 ∷ 0x00
    ∷ 0x07 ∷ 0x05 ∷ 0x01 ∷ 0x01 ∷ 0x66 ∷ 0x00 ∷ 0x00
    ∷ 0x0A ∷ 0x09 ∷ 0x01 ∷ 0x07 ∷ 0x00 ∷ 0x41 ∷ 0x28 ∷ 0x41 ∷ 0x02 ∷ 0x6A ∷ 0x0B
    ∷ []

-- wasm2c two.wasm -o two.c
abbrev pub two_words : List Name
two_words = codes "two.wasm" ∷ codes "-o" ∷ codes "two.c" ∷ []

abbrev pub two_c : List ℕ
two_c =
    codes "#include \"w2c_rt.h\"\n"
    ++ (codes "static u32 f0(void);\n"
    ++ (codes "static u32 f0(void) {\n"
    ++ (codes "u32 i0 = 0u;\n"
    ++ (codes "u32 i1 = 0u;\n"
    ++ (codes "if (w2c_depth < 1024u) goto L0;\n"
    ++ (codes "w2c_trap(8u);\n"
    ++ (codes "return i0;\n"
    ++ (codes "L0: w2c_depth = (w2c_depth + 1u);\n"
    ++ (codes "i0 = 40u;\n"
    ++ (codes "i1 = 2u;\n"
    ++ (codes "i0 = (i0 + i1);\n"
    ++ (codes "w2c_depth = (w2c_depth - 1u);\n"
    ++ (codes "return i0;\n"
    ++ (codes "}\n"
    ++ (codes "u32 w2cZ_twoZ_fZ_f(void) {\n"
    ++ (codes "u32 r = 0u;\n"
    ++ (codes "r = f0();\n"
    ++ (codes "return r;\n"
    ++ (codes "}\n"
    ++ (codes "void w2cZ_twoZ_i(void) {\n"
    ++ (codes ";\n"
    ++ (codes "return;\n"
    ++ codes "}\n"))))))))))))))))))))))

abbrev pub two_h : List ℕ
two_h =
    codes "/* made by wasm2c; int has 32 bits and every character of a name counts */\n"
    ++ (codes "#ifndef W2CZ_twoZ_H\n"
    ++ (codes "#define W2CZ_twoZ_H\n"
    ++ (codes "#include \"w2c_rt.h\"\n"
    ++ (codes "void w2cZ_twoZ_i(void);\n"
    ++ (codes "u32 w2cZ_twoZ_fZ_f(void);\n"
    ++ codes "#endif\n")))))

-- the files that are written
abbrev pub two_files : List (Name × List ℕ)
two_files = (codes "two.c", two_c) ∷ (codes "two.h", two_h) ∷ []

-- a call of the export
abbrev pub two_call : SymbolCall
two_call = record { symbol = codes "w2cZ_twoZ_fZ_f"; args = [] }

-- a C run of a unit alone: its init function and so many of these calls, with at most so many statements, and any hosts
abbrev pub two_run : List Item → List Host → (calls steps : ℕ) → List Reply → CRun
two_run unit hosts calls steps replies = c_run (record { units = unit ∷ []; hosts = hosts }) (replicate calls two_call) steps replies
