-- What is so of all items of an accepted module's unit together.
use Rattle.unit_rules.proofs.Common.{◌≡◌, ℕ, ◌+◌, ◌-◌, ◌<◌, ◌≤◌, true, false, not, ◌≢◌, ◌⊎◌, List, [], ◌∷◌, ◌++◌, map, length, Some, All}
use Rattle.unit_rules.proofs.Common.{bytes_eq, sym, refl, ap, ◌∙◌, subst, inl, inr, append_assoc, arith, or_right, All-from_recursion, Name}
use Rattle.unit_rules.proofs.Common.{bytes_eq-Decides, AllByRecursion, list_any, all_front, all_weaker, get_mapped, all_at}
use Rattle.unit_rules.proofs.Common.{all_append, all_from, all_map, get_front, init_symbol_of-not_export, init_symbol_of-parts, SymbolKind}
use Rattle.unit_rules.proofs.Common.{export_symbol_of, init_symbol_of, imported_funcs, NamedModule, Export, Module, same_c_func_type, Typed}
use Rattle.unit_rules.proofs.Common.{func_name, defines, is_runtime_name, may_both_stand, same_func_type, func_type_of, bytes_equal, firsts}
use Rattle.unit_rules.proofs.Common.{declared_symbols, export_symbol, export_type, import_symbol, symbol_type, body_of, lettered, init_func}
use Rattle.unit_rules.proofs.Common.{export_func, bodies, data_of, declaration, items, prototype, IsAccepted, declared_type, get_behind}
use Rattle.unit_rules.proofs.Common.{all_images, accepted_limits, BodyAt, body_at, body_is, AllPairs, all_range, firsts_all}
use Rattle.unit_rules.proofs.Common.{firsts_differ, pairs_range, declarations, exports, functions_of, globals, helpers, init, mems, objects}
use Rattle.unit_rules.proofs.Common.{parts, pointers, prototypes, tabs, bodies_class, data_class, data_pairs, declared_class, export_name}
use Rattle.unit_rules.proofs.Common.{exports_class, few_funcs, globals_class, globals_pairs, helpers_class, init_class, mems_class, always}
use Rattle.unit_rules.proofs.Common.{mems_pairs, of_export, of_import, parts_class, parts_pairs, pointers_class, pointers_pairs, tabs_class}
use Rattle.unit_rules.proofs.Common.{prototypes_class, tabs_pairs, by_test, IsTypedBody}
use Rattle.c_tree.specs.Tree as tree
use Rattle.unit_rules.proofs.Clashes.{Apart, AreApart, MayFollow, NoRuntime, NotSame, Section, in_row, next_apart, next_other, no_class}
use Rattle.unit_rules.proofs.Clashes.{not_same, pairs_front, pairs_mapped, pairs_weaker, NoClass}
use Rattle.unit_rules.proofs.ExportFacts.{symbol_types, symbols_differ, import_kind}
use Rattle.unit_rules.proofs.ExportTypes.{HasShape}
use Rattle.unit_rules.proofs.ExportGiven.{each_shape}
use Rattle.unit_rules.proofs.EachItem.{each_declared}
use Rattle.unit_rules.proofs.HelperSection.{helpers_pairs}
use Rattle.unit_rules.proofs.ItemRules.{IsWhole}
use Rattle.unit_rules.proofs.KnownFuncs.{any_at, get_range, declared_typed, without_names}
use Rattle.unit_rules.proofs.RuntimeNames.{other_classes, symbol_no_runtime}

-- the sections in front of the functions of bodies, and those from these up to the init function
abbrev pub known : NamedModule → List tree.Item
known m = objects m ++ (data_of m.tree ++ (declarations m ++ (prototypes m ++ helpers m)))

abbrev pub later : NamedModule → List tree.Item
later m = functions_of m ++ (exports m ++ parts m)

pub items_are : (m : NamedModule) → known m ++ (later m ++ init m) ≡ items m
items_are m = by (objects m) (data_of m.tree) (declarations m) (prototypes m) (helpers m) (functions_of m) (exports m) (parts m) (init m)
  where
    by : (a b c d e f g h i : List tree.Item) → (a ++ (b ++ (c ++ (d ++ e)))) ++ ((f ++ (g ++ h)) ++ i)
        ≡ a ++ (b ++ (c ++ (d ++ (e ++ (f ++ (g ++ (h ++ i)))))))
    by a b c d e f g h i = simp append_assoc

-- what holds of the items of each section holds of all
pub all_objects : (P : tree.Item → Type 0) (m : NamedModule) → AllByRecursion P (tabs m) → AllByRecursion P (mems m)
    → AllByRecursion P (globals m) → AllByRecursion P (pointers m) → AllByRecursion P (objects m)
all_objects P m tabs_are mems_are globals_are pointers_are =
    all_append P (tabs m) _ tabs_are (all_append P (mems m) _ mems_are (all_append P (globals m) (pointers m) globals_are pointers_are))

pub all_known : (P : tree.Item → Type 0) (m : NamedModule) → AllByRecursion P (objects m) → AllByRecursion P (data_of m.tree)
    → AllByRecursion P (declarations m) → AllByRecursion P (prototypes m) → AllByRecursion P (helpers m) → AllByRecursion P (known m)
all_known P m objects_are data_are declared_are prototypes_are helpers_are =
    all_append P (objects m) _ objects_are (all_append P (data_of m.tree) _ data_are
    (all_append P (declarations m) _ declared_are (all_append P (prototypes m) (helpers m) prototypes_are helpers_are)))

pub all_items : (P : tree.Item → Type 0) (m : NamedModule) → AllByRecursion P (known m) → AllByRecursion P (functions_of m)
    → AllByRecursion P (exports m) → AllByRecursion P (parts m) → AllByRecursion P (init m) → AllByRecursion P (items m)
all_items P m known_are functions_are exports_are parts_are init_is =
    subst (AllByRecursion P) (items_are m) (all_append P (known m) _ known_are (all_append P (later m) (init m)
    (all_append P (functions_of m) _ functions_are (all_append P (exports m) (parts m) exports_are parts_are)) init_is))

-- ---- what is declared up to an item

pub record IsDeclared (m : NamedModule) (declared : List tree.Item) : Type 0 where
  pub rest : List tree.Item
  pub is : declared ≡ known m ++ rest
  pub apart : AllPairs MayFollow declared
  pub no_runtime : NoRuntime declared

pub declared_at : (m : NamedModule) (before : List tree.Item) (x : tree.Item) (behind : List tree.Item)
    → IsWhole m ((known m ++ before) ++ x ∷ behind) → IsDeclared m ((known m ++ before) ++ x ∷ [])
declared_at m before x behind whole =
    let split = sym (append_assoc (known m ++ before) (x ∷ []) behind) in
    record {
      rest = before ++ x ∷ [];
      is = append_assoc (known m) before (x ∷ []);
      apart = pairs_front MayFollow ((known m ++ before) ++ x ∷ []) behind (subst (AllPairs MayFollow) split whole.apart);
      no_runtime = all_front _ ((known m ++ before) ++ x ∷ []) behind (subst NoRuntime split whole.no_runtime);
    }

-- ---- an accepted module's

-- a prototype and its function may both stand
proto_stands : (f : tree.Func) → f.is_static ≡ true → may_both_stand (prototype f) (tree.Function f) ≡ true
proto_stands f static =
    let types = ap (λ ps. same_func_type (record { params = ps; result = f.result }) (func_type_of f)) (without_names f.params)
    ∙ same_c_func_type (func_type_of f) in
    rw static (rw types refl)

module _ (m : NamedModule) (a : IsAccepted m) where
  abbrev t : Module
  t = m.tree

  abbrev imp : ℕ
  imp = imported_funcs t

  -- ---- functions of bodies

  pub body_here : (k : ℕ) → imp ≤ k → k < imp + length t.funcs → BodyAt m k
  body_here k low high = subst (BodyAt m) (omega (arith, low)) (body_at m a (k - imp) (omega (arith, low, high)))

  -- it is a typed body of the module, of which body_rules speaks
  pub typed_body : (k : ℕ) (b : BodyAt m k) → IsTypedBody m b.ty b.entry
  typed_body k b = record { place = b.place; listed = b.listed; few_params = b.params; typed = b.typed; within = b.within }

  -- what holds of each body's function by its index
  pub all_bodies : (P : tree.Func → Type 0) → ((k : ℕ) → imp ≤ k → k < imp + length t.funcs → P (body_of t m.name k))
      → AllByRecursion P (bodies m)
  all_bodies P f = all_range P (body_of t m.name) imp (length t.funcs) (imp + length t.funcs) (omega arith) f

  names_differ : (j k : ℕ) → imp ≤ j → j < imp + length t.funcs → imp ≤ k → k < imp + length t.funcs → j ≢ k
      → bytes_eq (body_of t m.name j).name (body_of t m.name k).name ≡ false
  names_differ j k lo hi low high ne =
      ap (λ (f : tree.Func). bytes_eq f.name (body_of t m.name k).name) (body_here j lo hi).is
      ∙ (ap (λ (f : tree.Func). bytes_eq (func_name j) f.name) (body_here k low high).is
      ∙ lettered 102 j k (omega (arith, hi, few_funcs m a)) (omega (arith, high, few_funcs m a)) ne)

  bodies_pairs : AllPairs (λ (x y : tree.Func). bytes_eq x.name y.name ≡ false) (bodies m)
  bodies_pairs = pairs_range _ (body_of t m.name) imp (length t.funcs) (imp + length t.funcs) (omega arith)
      (λ i j low less high. names_differ i j low (omega (arith, less, high)) (omega (arith, low, less)) high
      (λ e. absurd (omega (arith, e, less))))

  bodies_apart : AllByRecursion (λ y. Apart y (prototypes m)) (functions_of m)
  bodies_apart = all_map _ tree.Function (bodies m) (all_bodies (λ f. Apart (tree.Function f) (prototypes m)) (λ k low high.
      all_map _ prototype (bodies m) (all_bodies (λ g. MayFollow (prototype g) (tree.Function (body_of t m.name k)))
      (λ j lo hi. one j k lo hi low high (same_or_other j k)))))
    where
      same_or_other : (j k : ℕ) → (j ≡ k) ⊎ (j ≢ k)
      same_or_other j k = grind arith

      one : (j k : ℕ) → imp ≤ j → j < imp + length t.funcs → imp ≤ k → k < imp + length t.funcs → (j ≡ k) ⊎ (j ≢ k)
          → MayFollow (prototype (body_of t m.name j)) (tree.Function (body_of t m.name k))
      one j k lo hi low high (inl same) =
          subst (λ i. MayFollow (prototype (body_of t m.name i)) (tree.Function (body_of t m.name k))) (sym same)
          (or_right (not (bytes_eq (body_of t m.name k).name (body_of t m.name k).name)) _
          (proto_stands (body_of t m.name k) (body_is t m.name k).1))
      one j k lo hi low high (inr ne) = not_same (prototype (body_of t m.name j)) (tree.Function (body_of t m.name k))
          (names_differ j k lo hi low high ne)

  -- ---- declarations of symbols, the functions of exports, and the init function

  declared_pairs : AllPairs NotSame (declarations m)
  declared_pairs = pairs_mapped NotSame declaration (declared_symbols m)
      (pairs_mapped (λ (x y : Typed). bytes_eq x.0 y.0 ≡ false) (λ name. (name, declared_type (symbol_type m name)))
      (firsts [] (map import_symbol t.imports)) (firsts_differ [] (map import_symbol t.imports)))

  -- a declaration of an export's symbol has its type
  export_apart : (e : Export) → HasShape (export_type t e) (export_func m e) → symbol_type m (export_symbol m e) ≡ Some (export_type t e)
      → Apart (tree.Function (export_func m e)) (declarations m)
  export_apart e shape typed = each_declared m a (λ o. MayFollow o (tree.Function (export_func m e))) (λ n. Unit {0})
      (always (firsts [] (map import_symbol t.imports))) (λ n _. by_test (bytes_eq n (export_func m e).name)
      (λ same. or_right (not (bytes_eq n (export_func m e).name)) _ (stands n ((bytes_eq-Decides n (export_func m e).name).0 same)))
      (λ other. not_same (declaration (n, declared_type (symbol_type m n))) (tree.Function (export_func m e)) other))
    where
      stands : (n : Name) → n ≡ (export_func m e).name
          → may_both_stand (declaration (n, declared_type (symbol_type m n))) (tree.Function (export_func m e)) ≡ true
      stands n same =
          let types = declared_typed (n, declared_type (symbol_type m n))
          ∙ (ap declared_type (ap (symbol_type m) (same ∙ export_name m e) ∙ typed) ∙ sym shape.1) in
          rw shape.0 (rw (ap (λ ty. same_func_type ty (func_type_of (export_func m e))) types
          ∙ same_c_func_type (func_type_of (export_func m e))) refl)

  exports_apart : AllByRecursion (λ y. Apart y (declarations m)) (exports m)
  exports_apart = all_map _ (λ e. tree.Function (export_func m e)) t.exports
      (all_from _ t.exports (λ i e at. export_apart e (each_shape m a i e at)
      (all_at (λ e. symbol_type m (export_symbol m e) ≡ Some (export_type t e)) t.exports i e (symbol_types m a) at)))

  exports_pairs : AllPairs NotSame (exports m)
  exports_pairs = pairs_mapped NotSame (λ e. tree.Function (export_func m e)) t.exports
      (pairs_weaker _ _ t.exports (λ e f differ. ap (λ n. bytes_eq n (export_func m f).name) (export_name m e)
      ∙ (ap (bytes_eq (export_symbol m e)) (export_name m f) ∙ differ)) (symbols_differ m a))

  -- the init function's symbol is no other
  other_symbol : (n : List ℕ) (k : SymbolKind) (x : List ℕ) → All (λ b. b < 256) n
      → bytes_eq (export_symbol_of n k x) (init_symbol_of m.name) ≡ false
  other_symbol n k x small = by_test (bytes_eq (export_symbol_of n k x) (init_symbol_of m.name))
      (λ same. absurd (init_symbol_of-not_export m.name n k x a.bytes small
      (sym ((bytes_eq-Decides (export_symbol_of n k x) (init_symbol_of m.name)).0 same)))) (λ other. other)

  pub imports_apart : AllByRecursion (λ (n : Name). bytes_eq n (init_symbol_of m.name) ≡ false) (map import_symbol t.imports)
  imports_apart = all_map _ import_symbol t.imports (all_weaker _ _ t.imports
      (λ i small. ap (λ n. bytes_eq n (init_symbol_of m.name)) (import_kind i).1
      ∙ other_symbol i.«module» (import_kind i).0 i.field (All-from_recursion (λ b. b < 256) i.«module» small.0))
      (accepted_limits a).import_names)

  init_apart : Apart (tree.Function (init_func m)) (declarations m)
  init_apart = each_declared m a (λ o. MayFollow o (tree.Function (init_func m))) (λ n. bytes_eq n (init_symbol_of m.name) ≡ false)
      (firsts_all _ [] (map import_symbol t.imports) imports_apart)
      (λ n. not_same (declaration (n, declared_type (symbol_type m n))) (tree.Function (init_func m)))

  init_behind : Apart (tree.Function (init_func m)) (exports m)
  init_behind = all_images _ (λ e. tree.Function (export_func m e)) t.exports (λ e. not_same (tree.Function (export_func m e))
      (tree.Function (init_func m)) (ap (λ n. bytes_eq n (init_symbol_of m.name)) (export_name m e)
      ∙ of_export (λ n. bytes_eq n (init_symbol_of m.name) ≡ false) m (λ k n. other_symbol m.name k n a.bytes) e))

  -- ---- all sections

  abbrev sections : List Section
  sections =
      (1, tabs m) ∷ (2, mems m) ∷ (3, globals m) ∷ (4, pointers m) ∷ (5, data_of t) ∷ (6, declarations m) ∷ (7, prototypes m)
      ∷ (8, helpers m) ∷ (7, functions_of m) ∷ (6, exports m) ∷ (10, parts m) ∷ (6, init m) ∷ []

  in_a_row : in_row sections ≡ items m
  in_a_row = by (tabs m) (mems m) (globals m) (pointers m) _
    where
      by : (a b c d e : List tree.Item) → a ++ (b ++ (c ++ (d ++ e))) ≡ (a ++ (b ++ (c ++ d))) ++ e
      by a b c d e = simp append_assoc

  sections_apart : AreApart sections
  sections_apart =
      next_other 1 (tabs m) _ (tabs_class m a) (tabs_pairs m a) refl
      (next_other 2 (mems m) _ (mems_class m a) (mems_pairs m a) refl
      (next_other 3 (globals m) _ (globals_class m a) (globals_pairs m a) refl
      (next_other 4 (pointers m) _ (pointers_class m a) (pointers_pairs m a) refl
      (next_other 5 (data_of t) _ (data_class m a) (data_pairs m a) refl
      (next_apart 6 (declarations m) _ (declared_class m a) declared_pairs
      (inl refl, (inl refl, (inl refl, (inr exports_apart, (inl refl, (inr (init_apart, tt), tt))))))
      (next_apart 7 (prototypes m) _ (prototypes_class m a) (pairs_mapped NotSame prototype (bodies m) bodies_pairs)
      (inl refl, (inr bodies_apart, (inl refl, (inl refl, (inl refl, tt)))))
      (next_other 8 (helpers m) _ (helpers_class m a) (helpers_pairs t) refl
      (next_other 7 (functions_of m) _ (bodies_class m a) (pairs_mapped NotSame tree.Function (bodies m) bodies_pairs) refl
      (next_apart 6 (exports m) _ (exports_class m a) exports_pairs (inl refl, (inr (init_behind, tt), tt))
      (next_other 10 (parts m) _ (parts_class m a) (parts_pairs m a) refl
      (next_apart 6 (init m) [] (init_class m.name, tt) (tt, tt) tt
      (record { classes = tt; apart = tt }))))))))))))

  no_runtime : NoRuntime (items m)
  no_runtime =
      all_items _ m
      (all_known _ m
      (all_objects _ m (other_classes 1 _ refl (tabs_class m a)) (other_classes 2 _ refl (mems_class m a))
      (other_classes 3 _ refl (globals_class m a)) (other_classes 4 _ refl (pointers_class m a)))
      (other_classes 5 _ refl (data_class m a))
      (all_map _ declaration (declared_symbols m) (all_map _ _ (firsts [] (map import_symbol t.imports))
      (firsts_all (λ n. is_runtime_name n ≡ false) [] (map import_symbol t.imports)
      (all_images _ import_symbol t.imports (of_import (λ n. is_runtime_name n ≡ false) symbol_no_runtime)))))
      (other_classes 7 _ refl (prototypes_class m a)) (other_classes 8 _ refl (helpers_class m a)))
      (other_classes 7 _ refl (bodies_class m a))
      (all_images _ (λ e. tree.Function (export_func m e)) t.exports (λ e. ap is_runtime_name (export_name m e)
      ∙ of_export (λ n. is_runtime_name n ≡ false) m (symbol_no_runtime m.name) e))
      (other_classes 10 _ refl (parts_class m a)) (ap is_runtime_name (init_symbol_of-parts m.name), tt)

  -- the unit defines each function of the module
  defined : (k : ℕ) → imp ≤ k → k < imp + length t.funcs → list_any (defines (func_name k)) (items m) ≡ true
  defined k low high =
      let at = get_range (body_of t m.name) imp (length t.funcs) k low high in
      subst (λ unit. list_any (defines (func_name k)) unit ≡ true) (items_are m)
      (any_at (defines (func_name k)) (known m ++ (later m ++ init m)) (length (known m) + at.0) _
      (get_behind (known m) (later m ++ init m) at.0 ∙ get_front (later m) (init m) at.0 _
      (get_front (functions_of m) _ at.0 _ (get_mapped tree.Function (bodies m) at.0 _ at.1)))
      (ap (λ f. defines (func_name k) (tree.Function f)) (body_here k low high).is ∙ rw (bytes_equal (func_name k)) refl))

  pub unit_whole : IsWhole m (items m)
  unit_whole = record {
    apart = subst (AllPairs MayFollow) in_a_row sections_apart.apart;
    no_own = subst (NoClass 9) in_a_row (no_class 9 sections sections_apart.classes refl);
    no_runtime = no_runtime;
    defined = defined;
  }

  -- what the whole unit declares
  pub all_declared : IsDeclared m (items m)
  all_declared = record { rest = later m ++ init m; is = sym (items_are m); apart = unit_whole.apart; no_runtime = no_runtime }
