-- The text of a header: the functions of a unit that other units may call, behind a guard.
use Rattle.std.specs.Prelude.{ℕ, List, [], ◌∷◌, ◌++◌, codes}
use Rattle.c_tree.specs.declared.tree.CType.{CType}
use Rattle.c_tree.specs.declared.tree.CType.TheVariants as type
use Rattle.c_tree.specs.declared.tree.Header.{Header}
use Rattle.c_tree.specs.Trees.{each}
use Rattle.w2c_mangle.specs.Escaping.{escaped}

abbrev pub type_text : CType → List ℕ
type_text type.Void = codes "void"
type_text type.U32 = codes "u32"
type_text type.U64 = codes "u64"
type_text type.PtrU32 = codes "u32 *"
type_text type.PtrU64 = codes "u64 *"
type_text type.Mem = codes "w2c_mem"
type_text type.PtrMem = codes "w2c_mem *"
type_text type.Tab = codes "w2c_tab"
type_text type.PtrTab = codes "w2c_tab *"
type_text type.FnPtr = codes "w2c_fn"

-- between a result's type and the name: nothing behind *
abbrev pub space_behind : CType → List ℕ
space_behind type.PtrU32 = []
space_behind type.PtrU64 = []
space_behind type.PtrMem = []
space_behind type.PtrTab = []
space_behind _ = codes " "

-- a parameter's type behind another
abbrev pub next_type_text : CType → List ℕ
next_type_text t = codes ", " ++ type_text t

abbrev pub params_text : List CType → List ℕ
params_text [] = codes "void"
params_text (t ∷ ts) = type_text t ++ each next_type_text ts

-- the line of a function, by its result, its name and its parameters' types
abbrev pub line_text : CType × List ℕ × List CType → List ℕ
line_text line = type_text line.0 ++ (space_behind line.0 ++ (line.1 ++ (codes "(" ++ (params_text line.2 ++ codes ");\n"))))

abbrev pub guard_of : List ℕ → List ℕ
guard_of name = codes "W2CZ_" ++ (escaped name ++ codes "Z_H")

-- the lines in front of the functions, with this guard
abbrev pub head_text : List ℕ → List ℕ
head_text guard =
    codes "/* made by wasm2c; int has 32 bits and every character of a name counts */\n"
    ++ (codes "#ifndef " ++ (guard ++ (codes "\n#define " ++ (guard ++ codes "\n#include \"w2c_rt.h\"\n"))))

abbrev pub header_text : Header → List ℕ
header_text header = head_text (guard_of header.module) ++ (each line_text header.lines ++ codes "#endif\n")
