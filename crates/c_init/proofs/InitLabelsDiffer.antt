-- The labels of the init function differ: those of its traps, and one for each segment; and so do those of its parts.
use Rattle.c_tree.proofs.NumberedLabels.{skip, Between, labels-append, Within, behind_one, downward, none, one, upward, wider}
use Rattle.w2c_base.specs.declared.trap.TrapKind.TheVariants as trap
use Rattle.c_tree.specs.Tree as tree
use Rattle.c_tree.specs.Makers as makers
use Rattle.c_init.proofs.Common.{◌≡◌, ℕ, zero, suc, ◌+◌, ◌<◌, ◌≤◌, Bool, true, false, not, List, [], ◌∷◌, ◌++◌, map, length, if◌then◌else◌}
use Rattle.c_init.proofs.Common.{Some, None, codes, filter, Option, zip, flat_map, refl, ap, ◌∙◌, arith, range_with_len, numbered}
use Rattle.w2c_base.specs.declared.trap.TrapKind.{TrapKind}
use Rattle.c_init.proofs.Common.{is_func_import, is_global_import, Import, ImportKind, ImportFunc, ImportGlobal, ImportMemory, ImportTable}
use Rattle.c_init.proofs.Common.{Limits, SegmentEntry, Name, NamedModule, global_name, import_symbol, is_usable, label_name}
use Rattle.wasm_tree.specs.declared.entries.Start.{Start}
use Rattle.c_init.proofs.Common.{pointer_name, limits_label, make_global, make_memory, make_table, set_pointer, take_stmts, takes_from}
use Rattle.c_init.proofs.Common.{test_data, test_elements, test_min, write_data, write_element, write_elements}
use Rattle.c_tree.specs.Rules.{labels_of}
use Rattle.c_tree.specs.DefinedNames.{memory_name, table_name}
use Rattle.c_symbols.specs.Objects.{callee}
use Rattle.c_init.specs.Init.{Part, bounds_label, bytes_part, call_part, call_start, calling_stmts, init_stmts, loop_label, part_end}
use Rattle.c_init.specs.Init.{part_stmts, parts_of, start_stmts, stmts_with, test_limits, test_max, tests_bounds, tests_limits, trap_if}
use Rattle.c_init.specs.Init.{whole_stmts}
use Rattle.c_init.specs.Portions.{numbered_from}

joined_none : (xs ys : List tree.Stmt) → labels_of xs ≡ [] → labels_of ys ≡ [] → labels_of (xs ++ ys) ≡ []
joined_none xs ys e f = labels-append xs ys ∙ (ap (λ o. o ++ labels_of ys) e ∙ f)

pub none_flat : {A : Type 0} (f : A → List tree.Stmt) (xs : List A) → ((x : A) → labels_of (f x) ≡ []) → labels_of (flat_map f xs) ≡ []
none_flat f [] h = refl
none_flat f (x ∷ xs) h = joined_none (f x) (flat_map f xs) (h x) (none_flat f xs h)

pub none_map : {A : Type 0} (f : A → tree.Stmt) (xs : List A) → ((x : A) → labels_of (f x ∷ []) ≡ []) → labels_of (map f xs) ≡ []
none_map f [] h = refl
none_map f (x ∷ xs) h = joined_none (f x ∷ []) (map f xs) (h x) (none_map f xs h)

-- ---- imports

pointer_none : (m : NamedModule) (i : Import) (object : Name) → labels_of (set_pointer m i object ∷ []) ≡ []
pointer_none m i object = by (is_usable m i)
  where
    by : (b : Bool) → labels_of
        ((if b then tree.Call (Some (pointer_name object)) (tree.Called (import_symbol i)) [] else tree.Null) ∷ []) ≡ []
    by true = refl
    by false = refl

limits_none : (object : Name) (len_of max_of : List ℕ) (unit : ℕ) (limits : Limits)
    → labels_of (test_limits object len_of max_of unit limits) ≡ []
limits_none object len_of max_of unit limits = joined_none (test_min object len_of unit limits.min) (test_max object max_of limits.max)
    (least limits.min) (most limits.max)
  where
    least : (n : ℕ) → labels_of (test_min object len_of unit n) ≡ []
    least zero = refl
    least (suc n) = refl

    most : (o : Option ℕ) → labels_of (test_max object max_of o) ≡ []
    most None = refl
    most (Some n) = refl

take_none : (m : NamedModule) (number : ℕ) (i : Import) → labels_of (take_stmts m number i) ≡ []
take_none m number i = by i.kind refl
  where
    by : (kind : ImportKind) → i.kind ≡ kind → labels_of (take_stmts m number i) ≡ []
    by (ImportFunc x) e = rw (e, take_stmts) refl
    by (ImportTable limits) e = rw (e, take_stmts)
        (joined_none (set_pointer m i table_name ∷ []) (test_limits table_name (codes "w2c_tab_len") (codes "w2c_tab_max") 1 limits)
        (pointer_none m i table_name) (limits_none table_name (codes "w2c_tab_len") (codes "w2c_tab_max") 1 limits))
    by (ImportMemory limits) e = rw (e, take_stmts)
        (joined_none (set_pointer m i memory_name ∷ []) (test_limits memory_name (codes "w2c_mem_len") (codes "w2c_mem_max") 65536 limits)
        (pointer_none m i memory_name) (limits_none memory_name (codes "w2c_mem_len") (codes "w2c_mem_max") 65536 limits))
    by (ImportGlobal ty mutable) e = rw (e, take_stmts) (pointer_none m i (global_name number))

takes_none : (m : NamedModule) (number : ℕ) (imports : List Import) → labels_of (takes_from m number imports) ≡ []
takes_none m number [] = refl
takes_none m number (i ∷ imports) = joined_none (take_stmts m number i) _ (take_none m number i)
    (takes_none m (if is_global_import i then suc number else number) imports)

start_none : (m : NamedModule) (o : Option Start) → labels_of (start_stmts m o) ≡ []
start_none m None = refl
start_none m (Some s) = by (callee m s.index)
  where
    by : (o : Option Name) → labels_of (call_start o ∷ []) ≡ []
    by None = refl
    by (Some n) = refl

-- ---- segments

data_within : (m : NamedModule) (d : ℕ × SegmentEntry) → Within (d.0 + 2) (d.0 + 3) (write_data m.tree d)
data_within m d = by d.1.bytes refl
  where
    by : (bs : List ℕ) → d.1.bytes ≡ bs → Within (d.0 + 2) (d.0 + 3) (write_data m.tree d)
    by [] e = rw (e, write_data) (none (d.0 + 2) (d.0 + 3) [] refl)
    by (b ∷ bytes) e = rw (e, write_data) (behind_one (d.0 + 2) (d.0 + 3) _ _ refl
        (upward (d.0 + 2) (d.0 + 3) (d.0 + 3) (tree.Label (label_name (loop_label d.0)) ∷ []) _ (omega arith) (omega arith)
        (one (d.0 + 2) (d.0 + 3) (d.0 + 2) (omega arith) (omega arith)) (none (d.0 + 3) (d.0 + 3) _ refl)))

pub segments_within : (m : NamedModule) (a : ℕ) (xs : List SegmentEntry)
    → Within (a + 2) (a + length xs + 2) (flat_map (write_data m.tree) (zip (range_with_len a (length xs)) xs))
segments_within m a [] = none (a + 2) (a + 0 + 2) [] refl
segments_within m a (x ∷ xs) =
    upward (a + 2) (a + 3) (a + suc (length xs) + 2) (write_data m.tree (a, x))
    (flat_map (write_data m.tree) (zip (range_with_len (a + 1) (length xs)) xs)) (omega arith) (omega arith)
    (data_within m (a, x))
    (wider (a + 1 + 2) (a + 1 + length xs + 2) (a + 3) (a + suc (length xs) + 2)
    (flat_map (write_data m.tree) (zip (range_with_len (a + 1) (length xs)) xs)) (omega arith) (omega arith) (segments_within m (a + 1) xs))

trap_within : (b : Bool) (l u n : ℕ) (kind : TrapKind) → l ≤ n → n < u → Within l u (trap_if b n (makers.trap kind))
trap_within true l u n kind le less = upward l u u (tree.Label (label_name n) ∷ []) (makers.trap kind ∷ []) (omega (arith, le, less))
    (omega arith) (one l u n le less) (none u u (makers.trap kind ∷ []) refl)
trap_within false l u n kind le less = none l u [] refl

pub whole_within : (m : NamedModule) → Within 0 (length m.tree.segments + 2) (whole_stmts m)
whole_within m =
    let u : ℕ = length m.tree.segments + 2 in
    let «data» : List tree.Stmt = flat_map (write_data m.tree) (numbered m.tree.segments) in
    let limits : List tree.Stmt = trap_if (tests_limits m.tree) limits_label (makers.trap trap.ImportLimits) in
    let bounds : List tree.Stmt = trap_if (tests_bounds m.tree) bounds_label (makers.trap trap.SegmentOut) in
    skip (Between 0 u) (tree.Null ∷ []) _ refl
    (skip (Between 0 u) (takes_from m 0 (filter (λ i. not (is_func_import i)) m.tree.imports)) _
    (takes_none m 0 (filter (λ i. not (is_func_import i)) m.tree.imports))
    (skip (Between 0 u) (map (λ t. make_table t.limits) m.tree.tables) _ (none_map (λ t. make_table t.limits) m.tree.tables (λ t. refl))
    (skip (Between 0 u) (map (λ t. make_memory t.limits) m.tree.memories) _
    (none_map (λ t. make_memory t.limits) m.tree.memories (λ t. refl))
    (skip (Between 0 u) (map (make_global m.tree) (numbered m.tree.globals)) _
    (none_map (make_global m.tree) (numbered m.tree.globals) (λ g. refl))
    (skip (Between 0 u) (flat_map (test_elements m.tree) m.tree.elements) _ (none_flat (test_elements m.tree) m.tree.elements (λ e. refl))
    (skip (Between 0 u) (flat_map (test_data m.tree) m.tree.segments) _ (none_flat (test_data m.tree) m.tree.segments (λ d. refl))
    (skip (Between 0 u) (flat_map (write_elements m.tree) m.tree.elements) _
    (none_flat (write_elements m.tree) m.tree.elements
    (λ e. none_map (λ f. write_element m.tree e.offset f.0 f.1.index) (numbered e.funcs) (λ f. refl)))
    (downward 0 2 u «data» (start_stmts m m.tree.start ++ (tree.ReturnNone ∷ [] ++ (limits ++ bounds))) (omega arith) (omega arith)
    (wider (0 + 2) (0 + length m.tree.segments + 2) 2 u «data» (omega arith) (omega arith) (segments_within m 0 m.tree.segments))
    (skip (Between 0 2) (start_stmts m m.tree.start) _ (start_none m m.tree.start)
    (skip (Between 0 2) (tree.ReturnNone ∷ []) _ refl
    (upward 0 1 2 limits bounds (omega arith) (omega arith)
    (trap_within (tests_limits m.tree) 0 1 0 trap.ImportLimits (omega arith) (omega arith))
    (trap_within (tests_bounds m.tree) 1 2 1 trap.SegmentOut (omega arith) (omega arith)))))))))))))

-- ---- parts

-- an init function that calls parts has the trap for limits alone
pub calling_within : (m : NamedModule) (parts : ℕ) → Within 0 2 (calling_stmts m parts)
calling_within m parts =
    let limits : List tree.Stmt = trap_if (tests_limits m.tree) limits_label (makers.trap trap.ImportLimits) in
    skip (Between 0 2) (tree.Null ∷ []) _ refl
    (skip (Between 0 2) (takes_from m 0 (filter (λ i. not (is_func_import i)) m.tree.imports)) _
    (takes_none m 0 (filter (λ i. not (is_func_import i)) m.tree.imports))
    (skip (Between 0 2) (map (λ t. make_table t.limits) m.tree.tables) _ (none_map (λ t. make_table t.limits) m.tree.tables (λ t. refl))
    (skip (Between 0 2) (map (λ t. make_memory t.limits) m.tree.memories) _
    (none_map (λ t. make_memory t.limits) m.tree.memories (λ t. refl))
    (skip (Between 0 2) (map call_part (range_with_len 0 parts)) _ (none_map call_part (range_with_len 0 parts) (λ k. refl))
    (skip (Between 0 2) (start_stmts m m.tree.start) _ (start_none m m.tree.start)
    (skip (Between 0 2) (tree.ReturnNone ∷ []) _ refl
    (upward 0 1 2 limits [] (omega arith) (omega arith)
    (trap_within (tests_limits m.tree) 0 1 0 trap.ImportLimits (omega arith) (omega arith)) (none 1 2 [] refl))))))))

-- all labels of the init function lie below those of the segments' numbers
pub init_within : (m : NamedModule) → Within 0 (length m.tree.segments + 2) (init_stmts m)
init_within m = by (length (parts_of m.tree))
  where
    by : (parts : ℕ) → Within 0 (length m.tree.segments + 2) (stmts_with m parts)
    by zero = whole_within m
    by (suc parts) = wider 0 2 0 (length m.tree.segments + 2) (calling_stmts m (suc parts)) (omega arith) (omega arith)
        (calling_within m (suc parts))

-- a part without loops
pub plain_within : (x : Part) → labels_of x.stmts ≡ [] → Within 0 2 (part_stmts x)
plain_within x unlabelled =
    skip (Between 0 2) x.stmts (part_end x) unlabelled
    (behind_one 0 2 tree.ReturnNone (trap_if x.tests bounds_label (makers.trap trap.SegmentOut)) refl
    (wider 1 2 0 2 (trap_if x.tests bounds_label (makers.trap trap.SegmentOut)) (omega arith) (omega arith)
    (trap_within x.tests 1 2 1 trap.SegmentOut (omega arith) (omega arith))))

-- one that writes the bytes of segments, of which the first has this number
pub bytes_within : (m : NamedModule) (j : ℕ) (ds : List SegmentEntry)
    → Within (j + 2) (j + length ds + 2) (part_stmts (bytes_part m.tree (numbered_from j ds)))
bytes_within m j ds =
    upward (j + 2) (j + length ds + 2) (j + length ds + 2) (flat_map (write_data m.tree) (numbered_from j ds)) (tree.ReturnNone ∷ [])
    (omega arith) (omega arith) (segments_within m j ds) (none (j + length ds + 2) (j + length ds + 2) (tree.ReturnNone ∷ []) refl)
