-- The groups of the init function's statements are the whole.
use Rattle.c_init.proofs.Common.{◌≡◌, ℕ, zero, suc, ◌<◌, ◌≤◌, false, not, List, [], ◌∷◌, ◌++◌, map, length, filter, flat_map, ap, refl}
use Rattle.c_init.proofs.Common.{arith, append_assoc, numbered, range_with_len, is_func_import, NamedModule}
use Rattle.c_init.proofs.Common.{ending, making, writing}
use Rattle.w2c_base.specs.declared.trap.TrapKind.TheVariants as trap
use Rattle.c_tree.specs.Tree as tree
use Rattle.c_tree.specs.Makers as makers
use Rattle.c_init.specs.Init as of

regroup : {A : Type 0} (a b c d e f g h i j k l m : List A)
    → ((((((((((((a ++ b) ++ c) ++ d) ++ e) ++ f) ++ g) ++ h) ++ i) ++ j) ++ k) ++ l) ++ m) ≡ a ++
    (b ++ (c ++ (d ++ (e ++ (f ++ (g ++ (h ++ (i ++ (j ++ (k ++ (l ++ m)))))))))))
regroup a b c d e f g h i j k l m = simp append_assoc

pub in_parts : (m : NamedModule) → ending m (of.tests_bounds m.tree) (writing m (making m [])) ≡ of.whole_stmts m
in_parts m =
    regroup (tree.Null ∷ []) (of.takes_from m 0 (filter (λ i. not (is_func_import i)) m.tree.imports))
    (map (λ t. of.make_table t.limits) m.tree.tables) (map (λ t. of.make_memory t.limits) m.tree.memories)
    (map (of.make_global m.tree) (numbered m.tree.globals)) (flat_map (of.test_elements m.tree) m.tree.elements)
    (flat_map (of.test_data m.tree) m.tree.segments) (flat_map (of.write_elements m.tree) m.tree.elements)
    (flat_map (of.write_data m.tree) (numbered m.tree.segments)) (of.start_stmts m m.tree.start) (tree.ReturnNone ∷ [])
    (of.trap_if (of.tests_limits m.tree) of.limits_label (makers.trap trap.ImportLimits))
    (of.trap_if (of.tests_bounds m.tree) of.bounds_label (makers.trap trap.SegmentOut))

fewer : {A : Type 0} (a b c d e f g h i : List A)
    → ((((((((a ++ b) ++ c) ++ d) ++ e) ++ f) ++ g) ++ h) ++ i) ≡ a ++ (b ++ (c ++ (d ++ (e ++ (f ++ (g ++ (h ++ i)))))))
fewer a b c d e f g h i = simp append_assoc

pub calling : (m : NamedModule) (parts : ℕ)
    → ending m false (making m [] ++ map of.call_part (range_with_len 0 parts)) ≡ of.calling_stmts m parts
calling m parts =
    fewer (tree.Null ∷ []) (of.takes_from m 0 (filter (λ i. not (is_func_import i)) m.tree.imports))
    (map (λ t. of.make_table t.limits) m.tree.tables) (map (λ t. of.make_memory t.limits) m.tree.memories)
    (map of.call_part (range_with_len 0 parts)) (of.start_stmts m m.tree.start) (tree.ReturnNone ∷ [])
    (of.trap_if (of.tests_limits m.tree) of.limits_label (makers.trap trap.ImportLimits))
    (of.trap_if false of.bounds_label (makers.trap trap.SegmentOut))

-- with parts and without
pub with_some : (m : NamedModule) (parts : ℕ) → 0 < parts → of.calling_stmts m parts ≡ of.stmts_with m parts
with_some m zero some = absurd (omega (arith, some))
with_some m (suc parts) some = refl

pub with_none : (m : NamedModule) (parts : ℕ) → parts ≤ 0 → of.whole_stmts m ≡ of.stmts_with m parts
with_none m zero none = refl
with_none m (suc parts) none = absurd (omega (arith, none))

pub all_called : (m : NamedModule) (parts : ℕ) → parts ≡ length (of.parts_of m.tree) → of.stmts_with m parts ≡ of.init_stmts m
all_called m parts is = ap (of.stmts_with m) is
