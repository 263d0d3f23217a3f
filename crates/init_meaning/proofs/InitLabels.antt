-- The labels of the init function are found where they stand: those of its loops, and those of its traps.
use Rattle.init_meaning.proofs.Common.{TrapKind, append-nil, filter, is_func_import, sym, ◌≡◌, ℕ, ◌+◌, ◌^◌, ◌<◌, Bool, true, false, List}
use Rattle.init_meaning.proofs.Common.{[], ◌∷◌, ◌++◌, map, length, Some, flat_map, arith, numbered, ImportLimits, SegmentOut, LimitsEntry}
use Rattle.init_meaning.proofs.Common.{NamedModule, after_label, label_name, bounds_label, limits_label, make_global, make_memory}
use Rattle.init_meaning.proofs.Common.{make_table, start_stmts, takes_from, test_data, test_elements, tests_bounds, tests_limits, trap_if}
use Rattle.init_meaning.proofs.Common.{write_data, write_elements}
use Rattle.c_tree.proofs.NumberedLabels.{labels_differ}
use Rattle.std.proofs.Common.{not}
use Rattle.alike.proofs.Placed.{placed_back, placed_front, placed}
use Rattle.c_tree.specs.Tree as c
use Rattle.c_tree.specs.Makers as makers
use Rattle.alike.specs.Placed.{IsPlaced}
use Rattle.std.specs.List.{range_with_len}
use Rattle.c_init.specs.Init.{call_part, calling_stmts, whole_stmts}
use Rattle.c_init.proofs.InitLabelsDiffer.{calling_within, whole_within}
use Rattle.init_meaning.proofs.StartTasks.{stmts_writing}

abbrev pub traps : NamedModule → List c.Stmt
traps m = trap_if (tests_limits m.tree) limits_label (makers.trap ImportLimits) ++ trap_if (tests_bounds m.tree) bounds_label
    (makers.trap SegmentOut)

-- what stands behind the loops
abbrev ending : NamedModule → List c.Stmt
ending m = start_stmts m m.tree.start ++ (c.ReturnNone ∷ traps m)

abbrev loops : NamedModule → List c.Stmt
loops m = flat_map (write_data m.tree) (numbered m.tree.segments)

-- statements behind others are placed
abbrev joined : List (List c.Stmt) → List c.Stmt → List c.Stmt
joined [] rest = rest
joined (front ∷ fronts) rest = front ++ joined fronts rest

placed_behind : (body : List c.Stmt) (fronts : List (List c.Stmt)) (rest : List c.Stmt) → IsPlaced body (joined fronts rest) []
    → IsPlaced body rest []
placed_behind body [] rest placed = placed
placed_behind body (front ∷ fronts) rest placed = placed_behind body fronts rest (placed_back body front (joined fronts rest) [] placed)

abbrev takes : NamedModule → List c.Stmt
takes m = c.Null ∷ takes_from m 0 (filter (λ i. not (is_func_import i)) m.tree.imports)

abbrev tables : NamedModule → List c.Stmt
tables m = map (λ (t : LimitsEntry). make_table t.limits) m.tree.tables

abbrev memories : NamedModule → List c.Stmt
memories m = map (λ (t : LimitsEntry). make_memory t.limits) m.tree.memories

loops_placed : (m : NamedModule) → length m.tree.segments + 2 < 2 ^ 32 → IsPlaced (whole_stmts m) (stmts_writing m (traps m)) []
loops_placed m few =
    let body : List c.Stmt = whole_stmts m in
    placed_behind body (takes m ∷ tables m ∷ memories m ∷ map (make_global m.tree) (numbered m.tree.globals)
    ∷ flat_map (test_elements m.tree) m.tree.elements ∷ flat_map (test_data m.tree) m.tree.segments
    ∷ flat_map (write_elements m.tree) m.tree.elements ∷ []) (stmts_writing m (traps m)) (placed body [] body [] (sym (append-nil body))
    (labels_differ 0 (length m.tree.segments + 2) body (omega (arith, few)) (whole_within m)))

pub data_placed : (m : NamedModule) → length m.tree.segments + 2 < 2 ^ 32
    → IsPlaced (whole_stmts m) (loops m) (start_stmts m m.tree.start ++ (c.ReturnNone ∷ traps m))
data_placed m few = rw (append-nil (ending m)) at (placed_front (whole_stmts m) (loops m) (ending m) [] (loops_placed m few))

traps_placed : (m : NamedModule) → length m.tree.segments + 2 < 2 ^ 32 → IsPlaced (whole_stmts m) (traps m) []
traps_placed m few = placed_back (whole_stmts m) (start_stmts m m.tree.start) (c.ReturnNone ∷ traps m) []
    (placed_back (whole_stmts m) (loops m) (ending m) [] (loops_placed m few))

-- a trap that is there is found
trap_found : (body : List c.Stmt) (b : Bool) (label : ℕ) (kind : TrapKind) (rest : List c.Stmt)
    → IsPlaced body (trap_if b label (makers.trap kind)) rest → b ≡ true
    → (more : List c.Stmt) × (after_label (label_name label) body ≡ Some (makers.trap kind ∷ more))
trap_found body true label kind rest placed e = (rest, placed.0)
trap_found body false label kind rest placed e = absurd cc

pub limits_found : (m : NamedModule) → length m.tree.segments + 2 < 2 ^ 32 → tests_limits m.tree ≡ true
    → (more : List c.Stmt) × (after_label (label_name limits_label) (whole_stmts m) ≡ Some (makers.trap ImportLimits ∷ more))
limits_found m few =
    let bounds : List c.Stmt = trap_if (tests_bounds m.tree) bounds_label (makers.trap SegmentOut) in
    trap_found (whole_stmts m) (tests_limits m.tree) limits_label ImportLimits (bounds ++ [])
    (placed_front (whole_stmts m) (trap_if (tests_limits m.tree) limits_label (makers.trap ImportLimits)) bounds [] (traps_placed m few))

pub bounds_found : (m : NamedModule) → length m.tree.segments + 2 < 2 ^ 32 → tests_bounds m.tree ≡ true
    → (more : List c.Stmt) × (after_label (label_name bounds_label) (whole_stmts m) ≡ Some (makers.trap SegmentOut ∷ more))
bounds_found m few = trap_found (whole_stmts m) (tests_bounds m.tree) bounds_label SegmentOut []
    (placed_back (whole_stmts m) (trap_if (tests_limits m.tree) limits_label (makers.trap ImportLimits))
    (trap_if (tests_bounds m.tree) bounds_label (makers.trap SegmentOut)) [] (traps_placed m few))

-- that of an init function which calls parts
pub calling_limits_found : (m : NamedModule) (parts : ℕ) → tests_limits m.tree ≡ true
    → (more : List c.Stmt) × (after_label (label_name limits_label) (calling_stmts m parts) ≡ Some (makers.trap ImportLimits ∷ more))
calling_limits_found m parts =
    let body : List c.Stmt = calling_stmts m parts in
    let trap : List c.Stmt = trap_if (tests_limits m.tree) limits_label (makers.trap ImportLimits) in
    trap_found body (tests_limits m.tree) limits_label ImportLimits ([] ++ []) (placed_front body trap [] []
    (placed_behind body (takes m ∷ tables m ∷ memories m ∷ map call_part (range_with_len 0 parts) ∷ start_stmts m m.tree.start ∷ [])
    (c.ReturnNone ∷ (trap ++ []))
    (placed body [] body [] (sym (append-nil body)) (labels_differ 0 2 body (omega arith) (calling_within m parts)))))
