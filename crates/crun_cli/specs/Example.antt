-- README's run of a unit: the C file and the calls file that it names, and its words.
use Rattle.std.specs.Prelude.{ℕ, List, [], ◌∷◌, ◌++◌, codes}
use Rattle.w2c_io.specs.Contents.{Name}

-- the unit of a module that exports a function f, which adds 40 and 2, as wasm2c writes it
abbrev pub two_c : List ℕ
two_c =
    codes "#include \"w2c_rt.h\"\n"
    ++ (codes "static u32 f0(void);\n"
    ++ (codes "static u32 f0(void) {\n"
    ++ (codes "u32 i0 = 0u;\n"
    ++ (codes "u32 i1 = 0u;\n"
    ++ (codes "if (w2c_depth < 1024u) goto L0;\n"
    ++ (codes "w2c_trap(8u);\n"
    ++ (codes "return i0;\n"
    ++ (codes "L0: w2c_depth = (w2c_depth + 1u);\n"
    ++ (codes "i0 = 40u;\n"
    ++ (codes "i1 = 2u;\n"
    ++ (codes "i0 = (i0 + i1);\n"
    ++ (codes "w2c_depth = (w2c_depth - 1u);\n"
    ++ (codes "return i0;\n"
    ++ (codes "}\n"
    ++ (codes "u32 w2cZ_twoZ_fZ_f(void) {\n"
    ++ (codes "u32 r = 0u;\n"
    ++ (codes "r = f0();\n"
    ++ (codes "return r;\n"
    ++ (codes "}\n"
    ++ (codes "void w2cZ_twoZ_i(void) {\n"
    ++ (codes ";\n"
    ++ (codes "return;\n"
    ++ codes "}\n"))))))))))))))))))))))

-- one call of the export
abbrev pub two_calls : List ℕ
two_calls = codes "two f\n"

-- crun --steps 100 --calls examples/sum.calls two.c
abbrev pub two_words : List Name
two_words = codes "--steps" ∷ codes "100" ∷ codes "--calls" ∷ codes "examples/sum.calls" ∷ codes "two.c" ∷ []
