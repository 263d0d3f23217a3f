-- What a module's bodies need is declared by the unit's first five sections, whatever functions follow.
use Rattle.unit_definition.proofs.Common.{◌≡◌, ℕ, ◌+◌, ◌-◌, ◌<◌, ◌≤◌, Bool, true, false, List, [], ◌∷◌, ◌++◌, map, length, is_some, IsSome}
use Rattle.unit_definition.proofs.Common.{slice_get, Some, None, flat_map, bytes_eq, sym, refl, ap, ◌∙◌, subst, arith, slice_get_within}
use Rattle.unit_definition.proofs.Common.{named, ValType, global_space, imported_global_space, imported_globals, memory_of_import}
use Rattle.unit_definition.proofs.Common.{memory_space, table_of_import, table_space, GlobalEntry, Import, ImportGlobal, Limits}
use Rattle.unit_definition.proofs.Common.{LimitsEntry, Module, Name, CType, NamedModule, c_type_of, global_name, memory_name, table_name}
use Rattle.unit_definition.proofs.Common.{global_imports, import_type, memory_imports, pointer_type, table_imports, vars_in, class}
use Rattle.unit_definition.proofs.Common.{class_lettered, class_pointer, get_front, get_unmapped, lettered, global_count, memory_count}
use Rattle.unit_definition.proofs.Common.{table_count, pointer_name, pointers_of, objects_of, IsAccepted, zero-add, some_is}
use Rattle.c_tree.specs.declared.tree.CType.TheVariants as type
use Rattle.c_tree.specs.Tree as tree
use Rattle.unit_definition.proofs.SectionLists.{global_pointers, globals, memory_pointers, mems, pointers, table_pointers, tabs}
use Rattle.unit_definition.proofs.Sections.{tabs_class, mems_class, globals_class, pointers_are, few_globals, few_imports}
use Rattle.unit_definition.proofs.KnownNames.{past_vars, in_vars, no_var, numbered_var, get_late, get_past, imported_global}
use Rattle.c_init.proofs.Small.{some_same}

abbrev variable : CType → Name → tree.Item
variable t name = tree.Var t name None

first_there : {A : Type 0} (xs : List A) → is_some (slice_get xs 0) ≡ false → length xs ≡ 0
first_there [] e = refl
first_there (x ∷ xs) e = absurd cc

module _ (m : NamedModule) (a : IsAccepted m) where
  abbrev t : Module
  t = m.tree

  pub own_global : (k : ℕ) (g : ValType × Bool) → slice_get (global_space t) k ≡ Some g → is_some (slice_get (global_imports t) k) ≡ false
      → named (global_name k) (vars_in (objects_of t (pointers_of t))) ≡ Some (c_type_of g.0)
  own_global k g e i =
      let late : imported_globals t ≤ k = (get_past (global_imports t) [] k i).1 in
      let counted = global_count t.imports in
      let there = get_unmapped (λ (g : GlobalEntry). (g.ty, g.mutable)) t.globals (k - length (imported_global_space t)) g
      (sym (get_late (imported_global_space t) (map (λ (g : GlobalEntry). (g.ty, g.mutable)) t.globals) k
      (omega (arith, late, counted))) ∙ e) in
      let same : 0 + (k - length (imported_global_space t)) ≡ k - imported_globals t = omega (arith, counted) in
      let class_is : class (global_name k) ≡ 3 = class_lettered 103 k
      (omega (arith, few_globals m a, late, slice_get_within t.globals (k - length (imported_global_space t)) there.0 there.1, counted))
      refl in
      past_vars (global_name k) (tabs m) _ (no_var (global_name k) 1 (tabs m) (tabs_class m a) (λ f. absurd (grind (arith, f, class_is))))
      ∙ (past_vars (global_name k) (mems m) _
      (no_var (global_name k) 2 (mems m) (mems_class m a) (λ f. absurd (grind (arith, f, class_is))))
      ∙ in_vars (global_name k) (globals m) (pointers m) (c_type_of g.0)
      (subst (λ n. named (global_name n) (vars_in (globals m)) ≡ Some (c_type_of g.0)) (omega (arith, late, counted))
      (numbered_var (λ (g : GlobalEntry). c_type_of g.ty) (λ n. global_name (imported_globals t + n)) (length t.globals) 0
      (k - length (imported_global_space t)) t.globals there.0
      (λ p q less more ne. lettered 103 (imported_globals t + p) (imported_globals t + q) (omega (arith, less, few_globals m a))
      (omega (arith, more, few_globals m a)) (λ f. ne (omega (arith, f))))
      there.1 (omega arith) ∙ ap (λ (x : ValType × Bool). Some (c_type_of x.0)) there.2)))

  -- what is in the pointers is found behind the other objects
  in_pointers : (q : Name) (ty : CType) → class q ≡ 4
      → named q (vars_in (memory_pointers m ++ (table_pointers m ++ global_pointers m))) ≡ Some ty
      → named q (vars_in (objects_of t (pointers_of t))) ≡ Some ty
  in_pointers q ty c e =
      past_vars q (tabs m) _ (no_var q 1 (tabs m) (tabs_class m a) (λ f. absurd (grind (arith, f, c))))
      ∙ (past_vars q (mems m) _ (no_var q 2 (mems m) (mems_class m a) (λ f. absurd (grind (arith, f, c))))
      ∙ (past_vars q (globals m) (pointers m) (no_var q 3 (globals m) (globals_class m a) (λ f. absurd (grind (arith, f, c))))
      ∙ subst (λ items. named q (vars_in items) ≡ Some ty) (sym (pointers_are m a)) e))

  no_memory_pointer : (q : Name) (imports : List Import) → bytes_eq (pointer_name memory_name) q ≡ false
      → named q (vars_in (map (λ (i : Import). variable type.PtrMem (pointer_name memory_name)) imports)) ≡ None
  no_memory_pointer q [] e = refl
  no_memory_pointer q (i ∷ imports) e = rw e (no_memory_pointer q imports e)

  no_table_pointer : (q : Name) (imports : List Import) → bytes_eq (pointer_name table_name) q ≡ false
      → named q (vars_in (map (λ (i : Import). variable type.PtrTab (pointer_name table_name)) imports)) ≡ None
  no_table_pointer q [] e = refl
  no_table_pointer q (i ∷ imports) e = rw e (no_table_pointer q imports e)

  pub imported_global_is : (k : ℕ) (g : ValType × Bool) → slice_get (global_space t) k ≡ Some g
      → is_some (slice_get (global_imports t) k) ≡ true
      → named (pointer_name (global_name k)) (vars_in (objects_of t (pointers_of t))) ≡ Some (pointer_type g.0)
  imported_global_is k g e i =
      let found = some_is (slice_get (global_imports t) k) i in
      let import = imported_global t.imports k found.0 found.1 in
      let less : k < length (global_imports t) = slice_get_within (global_imports t) k found.0 found.1 in
      let same : import.1 ≡ g.0 = ap (λ (x : ValType × Bool). x.0)
      (some_same (sym (get_front (imported_global_space t) _ k (import.1, import.0) import.2) ∙ e)) in
      let q : Name = pointer_name (global_name k) in
      in_pointers q (pointer_type g.0) (class_pointer 112 103 k (omega (arith, less, few_imports m a)) refl)
      (past_vars q (memory_pointers m) _ (no_memory_pointer q (memory_imports t) refl)
      ∙ (past_vars q (table_pointers m) _ (no_table_pointer q (table_imports t) refl)
      ∙ (subst (λ n. named (pointer_name (global_name n)) (vars_in (global_pointers m)) ≡ Some (import_type t found.0).result) (zero-add k)
      (numbered_var (λ (i : Import). (import_type t i).result) (λ n. pointer_name (global_name n)) (length (global_imports t)) 0 k
      (global_imports t) found.0
      (λ p r less more ne. lettered 103 p r (omega (arith, less, few_imports m a)) (omega (arith, more, few_imports m a)) ne) found.1
      (omega arith))
      ∙ ap Some (result_is found.0 import.1 import.0 import.3 ∙ ap pointer_type same))))
    where
      result_is : (i : Import) (ty : ValType) (mutable : Bool) → i.kind ≡ ImportGlobal ty mutable
          → (import_type t i).result ≡ pointer_type ty
      result_is i ty mutable s = rw (s, import_type) refl

  pub own_memory_is : IsSome (slice_get (memory_space t) 0) → is_some (slice_get (memory_imports t) 0) ≡ false
      → named memory_name (vars_in (objects_of t (pointers_of t))) ≡ Some type.Mem
  own_memory_is has i =
      let counted = memory_count t.imports in
      let none = first_there (memory_imports t) i in
      past_vars memory_name (tabs m) _ (no_var memory_name 1 (tabs m) (tabs_class m a) (λ f. absurd (grind (arith, f))))
      ∙ in_vars memory_name (mems m) _ type.Mem (there (flat_map memory_of_import t.imports) t.memories (sym counted ∙ none) has)
    where
      there : (xs : List Limits) (ms : List LimitsEntry) → length xs ≡ 0
          → IsSome (slice_get (xs ++ map (λ (x : LimitsEntry). x.limits) ms) 0)
          → named memory_name (vars_in (map (λ (x : LimitsEntry). variable type.Mem memory_name) ms)) ≡ Some type.Mem
      there [] [] n has = let h : false ≡ true = has in absurd cc
      there [] (x ∷ ms) n has = refl
      there (x ∷ xs) ms n has = absurd (omega (arith, n))

  pub own_table_is : IsSome (slice_get (table_space t) 0) → is_some (slice_get (table_imports t) 0) ≡ false
      → named table_name (vars_in (objects_of t (pointers_of t))) ≡ Some type.Tab
  own_table_is has i =
      let counted = table_count t.imports in
      let none = first_there (table_imports t) i in
      in_vars table_name (tabs m) _ type.Tab (there (flat_map table_of_import t.imports) t.tables (sym counted ∙ none) has)
    where
      there : (xs : List Limits) (ms : List LimitsEntry) → length xs ≡ 0
          → IsSome (slice_get (xs ++ map (λ (x : LimitsEntry). x.limits) ms) 0)
          → named table_name (vars_in (map (λ (x : LimitsEntry). variable type.Tab table_name) ms)) ≡ Some type.Tab
      there [] [] n has = let h : false ≡ true = has in absurd cc
      there [] (x ∷ ms) n has = refl
      there (x ∷ xs) ms n has = absurd (omega (arith, n))

  pub imported_memory_is : is_some (slice_get (memory_imports t) 0) ≡ true
      → named (pointer_name memory_name) (vars_in (objects_of t (pointers_of t))) ≡ Some type.PtrMem
  imported_memory_is i = in_pointers (pointer_name memory_name) type.PtrMem refl
      (in_vars (pointer_name memory_name) (memory_pointers m) _ type.PtrMem (there (memory_imports t) i))
    where
      there : (imports : List Import) → is_some (slice_get imports 0) ≡ true
          → named (pointer_name memory_name) (vars_in (map (λ (i : Import). variable type.PtrMem (pointer_name memory_name)) imports))
          ≡ Some type.PtrMem
      there [] e = absurd cc
      there (x ∷ imports) e = refl

  pub imported_table_is : is_some (slice_get (table_imports t) 0) ≡ true
      → named (pointer_name table_name) (vars_in (objects_of t (pointers_of t))) ≡ Some type.PtrTab
  imported_table_is i = in_pointers (pointer_name table_name) type.PtrTab refl
      (past_vars (pointer_name table_name) (memory_pointers m) _ (no_memory_pointer (pointer_name table_name) (memory_imports t) refl)
      ∙ in_vars (pointer_name table_name) (table_pointers m) _ type.PtrTab (there (table_imports t) i))
    where
      there : (imports : List Import) → is_some (slice_get imports 0) ≡ true
          → named (pointer_name table_name) (vars_in (map (λ (i : Import). variable type.PtrTab (pointer_name table_name)) imports))
          ≡ Some type.PtrTab
      there [] e = absurd cc
      there (x ∷ imports) e = refl
