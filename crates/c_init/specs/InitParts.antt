-- The init function's statements, one group behind another.
use Rattle.std.specs.Prelude.{Bool, List, [], ◌∷◌, ◌++◌, ◌||◌, not, map, filter, flat_map}
use Rattle.std.specs.List.{list_any}
use Rattle.w2c_base.specs.declared.trap.TrapKind.TheVariants as trap
use Rattle.w2c_base.specs.Lookup.{numbered}
use Rattle.wasm_tree.specs.declared.tree.Module.{Module}
use Rattle.wasm_tree.specs.IndexSpaces.{is_func_import}
use Rattle.wasm_tree.specs.NamedModule.{NamedModule}
use Rattle.c_tree.specs.Tree as tree
use Rattle.c_tree.specs.Makers as makers
use Rattle.c_init.specs.Init as of

-- what is imported, the tables and the memories, behind other statements
abbrev pub making : NamedModule → List tree.Stmt → List tree.Stmt
making m before =
    (((before ++ (tree.Null ∷ [])) ++ of.takes_from m 0 (filter (λ i. not (is_func_import i)) m.tree.imports))
    ++ map (λ t. of.make_table t.limits) m.tree.tables)
    ++ map (λ t. of.make_memory t.limits) m.tree.memories

-- globals, bounds, elements and bytes
abbrev pub writing : NamedModule → List tree.Stmt → List tree.Stmt
writing m before =
    ((((before ++ map (of.make_global m.tree) (numbered m.tree.globals))
    ++ flat_map (of.test_elements m.tree) m.tree.elements)
    ++ flat_map (of.test_data m.tree) m.tree.segments)
    ++ flat_map (of.write_elements m.tree) m.tree.elements)
    ++ flat_map (of.write_data m.tree) (numbered m.tree.segments)

-- the start call, the end and the traps
abbrev pub ending : NamedModule → Bool → List tree.Stmt → List tree.Stmt
ending m bounds before =
    (((before ++ of.start_stmts m m.tree.start)
    ++ (tree.ReturnNone ∷ []))
    ++ of.trap_if (of.tests_limits m.tree) of.limits_label (makers.trap trap.ImportLimits))
    ++ of.trap_if bounds of.bounds_label (makers.trap trap.SegmentOut)

-- the local variables, behind others
abbrev pub put_locals : Module → List tree.Local → List tree.Local
put_locals m before =
    (before ++ of.local_if (of.tests_limits m || of.tests_bounds m) of.size_name) ++ of.local_if
    (list_any of.has_bytes m.segments) of.byte_name
