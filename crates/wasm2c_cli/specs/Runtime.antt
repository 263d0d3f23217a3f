-- The two files of the runtime that units are compiled with.
use Rattle.std.specs.Prelude.{ℕ, List, [], ◌∷◌, ◌++◌, codes}
use Rattle.w2c_io.specs.Contents.{Name}

abbrev pub runtime_header : List ℕ
runtime_header =
    codes "#ifndef W2C_RT_H\n#define W2C_RT_H\n#include <stdint.h>\ntypedef uint8_t u8;\n"
    ++ (codes "typedef uint32_t u32;\ntypedef uint64_t u64;\ntypedef void (*w2c_fn)(void);\n"
    ++ (codes "typedef struct { u8 *bytes; u64 len; u64 max; } w2c_mem;\n"
    ++ (codes "typedef struct { w2c_fn fn; u64 sig; } w2c_elem;\n"
    ++ (codes "typedef struct { w2c_elem *elems; u64 len; u64 max; } w2c_tab;\nextern u32 w2c_depth;\n"
    ++ (codes "void w2c_trap(u32);\nvoid w2c_mem_new(w2c_mem *, u32, u64);\nu64 w2c_mem_len(w2c_mem *);\n"
    ++ (codes "u64 w2c_mem_max(w2c_mem *);\nu32 w2c_mem_grow(w2c_mem *, u32);\nu32 w2c_get1(w2c_mem *, u64);\n"
    ++ (codes "u32 w2c_get2(w2c_mem *, u64);\nu32 w2c_get4(w2c_mem *, u64);\nu64 w2c_get8(w2c_mem *, u64);\n"
    ++ (codes "void w2c_put1(w2c_mem *, u64, u32);\nvoid w2c_put2(w2c_mem *, u64, u32);\n"
    ++ (codes "void w2c_put4(w2c_mem *, u64, u32);\nvoid w2c_put8(w2c_mem *, u64, u64);\n"
    ++ (codes "void w2c_tab_new(w2c_tab *, u32, u64);\nu64 w2c_tab_len(w2c_tab *);\nu64 w2c_tab_max(w2c_tab *);\n"
    ++ (codes "u64 w2c_tab_sig(w2c_tab *, u64);\nw2c_fn w2c_tab_fn(w2c_tab *, u64);\n"
    ++ (codes "void w2c_tab_set(w2c_tab *, u64, w2c_fn, u64);\n#endif\n"))))))))))))

abbrev pub runtime_source : List ℕ
runtime_source =
    codes "#include <stdio.h>\n#include <stdlib.h>\n#include <string.h>\n#include \"w2c_rt.h\"\n"
    ++ (codes "u32 w2c_depth;\nstatic void *zeros(u64 n) {\n    void *p = calloc(n ? (size_t)n : 1, 1);\n"
    ++ (codes "    if (!p) { fputs(\"want of memory\\n\", stderr); exit(5); }\n    return p;\n}\n"
    ++ (codes "void w2c_trap(u32 k) { fprintf(stderr, \"trap %lu\\n\", (unsigned long)k); exit(1); }\n"
    ++ (codes "void w2c_mem_new(w2c_mem *m, u32 min, u64 max) {\n"
    ++ (codes "    m->len = (u64)min * 65536; m->max = max; m->bytes = zeros(m->len);\n}\n"
    ++ (codes "u64 w2c_mem_len(w2c_mem *m) { return m->len; }\nu64 w2c_mem_max(w2c_mem *m) { return m->max; }\n"
    ++ (codes "u32 w2c_mem_grow(w2c_mem *m, u32 d) {\n"
    ++ (codes "    u64 old = m->len / 65536, top = m->max < 16384 ? m->max : 16384;\n    u8 *b;\n"
    ++ (codes "    if (old + d > top) return 4294967295u;\n    if (d == 0) return (u32)old;\n"
    ++ (codes "    b = zeros((old + d) * 65536);\n    if (m->len) memcpy(b, m->bytes, (size_t)m->len);\n"
    ++ (codes "    free(m->bytes); m->bytes = b; m->len = (old + d) * 65536;\n    return (u32)old;\n}\n"
    ++ (codes "u32 w2c_get1(w2c_mem *m, u64 a) { return m->bytes[a]; }\n"
    ++ (codes "u32 w2c_get2(w2c_mem *m, u64 a) { return w2c_get1(m, a) | w2c_get1(m, a + 1) << 8; }\n"
    ++ (codes "u32 w2c_get4(w2c_mem *m, u64 a) { return w2c_get2(m, a) | w2c_get2(m, a + 2) << 16; }\n"
    ++ (codes "u64 w2c_get8(w2c_mem *m, u64 a) { return w2c_get4(m, a) | (u64)w2c_get4(m, a + 4) << 32; }\n"
    ++ (codes "void w2c_put1(w2c_mem *m, u64 a, u32 v) { m->bytes[a] = (u8)v; }\n"
    ++ (codes "void w2c_put2(w2c_mem *m, u64 a, u32 v) { w2c_put1(m, a, v); w2c_put1(m, a + 1, v >> 8); }\n"
    ++ (codes "void w2c_put4(w2c_mem *m, u64 a, u32 v) { w2c_put2(m, a, v); w2c_put2(m, a + 2, v >> 16); }\n"
    ++ (codes "void w2c_put8(w2c_mem *m, u64 a, u64 v) { w2c_put4(m, a, (u32)v); w2c_put4(m, a + 4, (u32)(v >> 32)); }\n"
    ++ (codes "void w2c_tab_new(w2c_tab *t, u32 len, u64 max) {\n"
    ++ (codes "    t->elems = zeros((u64)len * sizeof(w2c_elem)); t->len = len; t->max = max;\n}\n"
    ++ (codes "u64 w2c_tab_len(w2c_tab *t) { return t->len; }\nu64 w2c_tab_max(w2c_tab *t) { return t->max; }\n"
    ++ (codes "u64 w2c_tab_sig(w2c_tab *t, u64 i) { return t->elems[i].sig; }\n"
    ++ (codes "w2c_fn w2c_tab_fn(w2c_tab *t, u64 i) { return t->elems[i].fn; }\n"
    ++ (codes "void w2c_tab_set(w2c_tab *t, u64 i, w2c_fn f, u64 sig) { t->elems[i].fn = f; t->elems[i].sig = sig; }\n"
    )))))))))))))))))))))))))

-- the files in their directory: the header, then the source
abbrev pub runtime_files : Name → List (Name × List ℕ)
runtime_files dir = (dir ++ codes "/w2c_rt.h", runtime_header) ∷ (dir ++ codes "/w2c_rt.c", runtime_source) ∷ []
