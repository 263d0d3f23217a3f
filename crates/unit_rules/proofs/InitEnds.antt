-- The init function ends by a return or by a trap, and so do its parts.
use Rattle.unit_rules.proofs.Common.{◌≡◌, ℕ, zero, suc, Bool, true, false, not, List, [], ◌∷◌, ◌++◌, map, length, filter, flat_map, refl}
use Rattle.unit_rules.proofs.Common.{range_with_len, numbered, is_func_import, NamedModule, ends_well, bounds_label, init_stmts, make_table}
use Rattle.unit_rules.proofs.Common.{limits_label, make_global, make_memory, start_stmts, takes_from, test_data, test_elements, trap_if}
use Rattle.unit_rules.proofs.Common.{tests_bounds, tests_limits, write_data, write_elements, Part, begun, call_part, ended, part_stmts}
use Rattle.unit_rules.proofs.Common.{parts_of, stmts_with}
use Rattle.w2c_base.specs.declared.trap.TrapKind.TheVariants as trap
use Rattle.c_tree.specs.Tree as tree
use Rattle.c_tree.specs.Makers as makers

-- some statements that end well
abbrev Ends : List tree.Stmt → Type 0
Ends [] = ⊥
Ends (x ∷ stmts) = ends_well (x ∷ stmts) ≡ true

behind : (before stmts : List tree.Stmt) → Ends stmts → Ends (before ++ stmts)
behind [] stmts e = e
behind (x ∷ []) [] e = absurd e
behind (x ∷ []) (y ∷ stmts) e = e
behind (x ∷ z ∷ before) stmts e = behind (z ∷ before) stmts e

whole : (stmts : List tree.Stmt) → Ends stmts → ends_well stmts ≡ true
whole [] e = absurd e
whole (x ∷ stmts) e = e

traps_end : (b c : Bool) → Ends (tree.ReturnNone ∷ [] ++
    (trap_if b limits_label (makers.trap trap.ImportLimits) ++ trap_if c bounds_label (makers.trap trap.SegmentOut)))
traps_end true true = refl
traps_end true false = refl
traps_end false true = refl
traps_end false false = refl

-- the beginning before others, and the end
begun_ends : (m : NamedModule) (rest : List tree.Stmt) → Ends rest → Ends (begun m rest)
begun_ends m rest e =
    behind (tree.Null ∷ []) _ (behind (takes_from m 0 (filter (λ i. not (is_func_import i)) m.tree.imports)) _
    (behind (map (λ t. make_table t.limits) m.tree.tables) _ (behind (map (λ t. make_memory t.limits) m.tree.memories) rest e)))

ended_ends : (m : NamedModule) (bounds : Bool) → Ends (ended m bounds)
ended_ends m bounds = behind (start_stmts m m.tree.start) _ (traps_end (tests_limits m.tree) bounds)

pub init_ends : (m : NamedModule) → ends_well (init_stmts m) ≡ true
init_ends m = whole (init_stmts m) (by (length (parts_of m.tree)))
  where
    by : (parts : ℕ) → Ends (stmts_with m parts)
    by zero = begun_ends m _
        (behind (map (make_global m.tree) (numbered m.tree.globals)) _
        (behind (flat_map (test_elements m.tree) m.tree.elements) _
        (behind (flat_map (test_data m.tree) m.tree.segments) _
        (behind (flat_map (write_elements m.tree) m.tree.elements) _
        (behind (flat_map (write_data m.tree) (numbered m.tree.segments)) _ (ended_ends m (tests_bounds m.tree)))))))
    by (suc parts) = begun_ends m _ (behind (map call_part (range_with_len 0 (suc parts))) _ (ended_ends m false))

pub part_ends : (x : Part) → ends_well (part_stmts x) ≡ true
part_ends x = whole (part_stmts x) (behind x.stmts _ (traps_end false x.tests))
