-- What the names of a module's unit stand for in it: helpers, bodies, exports, the init function and its parts, and
-- that symbols of other modules stand for nothing.
use Rattle.unit_definition.proofs.Common.{◌≡◌, ℕ, zero, suc, ◌+◌, ◌-◌, ◌^◌, ◌<◌, ◌≤◌, Bool, true, false, not, ◌≢◌, ◌⊎◌, List, [], ◌∷◌, ◌++◌}
use Rattle.unit_definition.proofs.Common.{map, length, is_none, if◌then◌else◌, nat_eq, slice_get, Some, None, All, Contains, Option, find}
use Rattle.unit_definition.proofs.Common.{option_map, bytes_eq, unwrap_or, sym, refl, ap, ◌∙◌, subst, inl, inr, arith, decimal_injective}
use Rattle.unit_definition.proofs.Common.{slice_get-get_or, bytes_eq-Decides, AllByRecursion, list_all, range_with_len, option_or, if_found}
use Rattle.unit_definition.proofs.Common.{all_append, numbered, FuncType, ValType, export_symbol_of-injective, init_symbol_of-not_export}
use Rattle.unit_definition.proofs.Common.{export_symbol_of, init_symbol_of, SymbolKind, global_type_in, imported_funcs, type_in, BodyEntry}
use Rattle.unit_definition.proofs.Common.{Export, ExportKind, ExportFunc, ExportGlobal, ExportMemory, ExportTable, FuncEntry, Import, Name}
use Rattle.unit_definition.proofs.Common.{SegmentEntry, Module, CType, NamedModule, bytes_differ, bytes_equal, Definition, defined, typed}
use Rattle.unit_definition.proofs.Common.{defined_for_all, primitive, func_name, global_name, memory_name, table_name, listed, made_static}
use Rattle.unit_definition.proofs.Common.{names_differ, helper_of, Helper, HELPERS, export_symbol, export_type, global_imports, global_kind}
use Rattle.unit_definition.proofs.Common.{global_symbol, memory_imports, table_imports, class, class_lettered, get_numbered, IsDefined}
use Rattle.unit_definition.proofs.Common.{body_of, defined_at, func_of, helpers_of, needs_of, callee, accessor, export_func, passes_on}
use Rattle.unit_definition.proofs.Common.{data_name, init_func, bodies, data_of, declaration, items, objects_of, part_items, prototype}
use Rattle.unit_definition.proofs.Common.{not-true, test_at, same_Some, slice_get_within}
use Rattle.c_tree.specs.DefinedNames.{part_name}
use Rattle.c_init.specs.Init.{Part, own_locals, part_func, part_stmts, parts_of}
use Rattle.w2c_base.proofs.Lists.{get_zipped}
use Rattle.w2c_base.proofs.NumberedLists.{numbered_at}
use Rattle.w2c_base.proofs.Options.{no_option}
use Rattle.w2c_mangle.specs.declared.symbol.SymbolKind.TheVariants as symbol
use Rattle.c_tree.specs.declared.tree.CType.TheVariants as c_type
use Rattle.c_tree.specs.Tree as tree
use Rattle.c_meaning.proofs.Links.{all_flat}
use Rattle.c_helpers.specs.declared.operation.Helper.TheVariants as helper
use Rattle.unit_definition.proofs.Found.{Test, Misses, Finds, FindsNone, skip, skip_none, named_by, external_by, here, find_at, find_none}
use Rattle.unit_definition.proofs.Found.{find_map, found_among, none_among}
use Rattle.c_init.proofs.Small.{all_images}

-- ---- sections: those without bodies define nothing

pub objects_miss : (t : Test) (m : Module) (pointers : List (CType × Name)) → AllByRecursion (Misses t) (objects_of m pointers)
objects_miss t m pointers =
    all_append (Misses t) _ _ (all_images (Misses t) _ m.tables (λ x. tt))
    (all_append (Misses t) _ _ (all_images (Misses t) _ m.memories (λ x. tt))
    (all_append (Misses t) _ _ (all_images (Misses t) _ (numbered m.globals) (λ x. tt))
    (all_images (Misses t) _ pointers (λ x. tt))))

pub data_miss : (t : Test) (m : Module) → AllByRecursion (Misses t) (data_of m)
data_miss t m = all_flat (Misses t) _ (numbered m.segments) (λ d. by d.0 d.1 d.1.bytes)
  where
    by : (number : ℕ) (d : SegmentEntry) (bytes : List ℕ) → AllByRecursion (Misses t)
        (elim bytes [ [] ↦ [] | b ∷ bytes ↦ tree.Array (data_name number) (length d.bytes) d.bytes ∷ [] ])
    by number d [] = tt
    by number d (b ∷ bytes) = (tt, tt)

pub prototypes_miss : (t : Test) (fs : List tree.Func) → AllByRecursion (Misses t) (map prototype fs)
prototypes_miss t fs = all_images (Misses t) prototype fs (λ f. inl refl)

pub declared_miss : (t : Test) (m : NamedModule) → AllByRecursion (Misses t) (map declaration (needs_of m).declared)
declared_miss t m = all_images (Misses t) declaration (needs_of m).declared (λ x. inl refl)

-- the definitions of a unit in their order
abbrev defining : NamedModule → List tree.Item
defining m =
    map (λ which. tree.Function (helper_of which)) (needs_of m).helpers
    ++ (map tree.Function (bodies m)
    ++ (map (λ e. tree.Function (export_func m e)) m.tree.exports
    ++ (part_items m.tree
    ++ tree.Function (init_func m) ∷ [])))

found_in_items : (t : Test) (m : NamedModule) (f : tree.Func) (body : tree.Body) → Finds t f body (defining m) → Finds t f body (items m)
found_in_items t m f body found =
    skip t f body _ _ (objects_miss t m.tree (needs_of m).pointers)
    (skip t f body _ _ (data_miss t m.tree)
    (skip t f body _ _ (declared_miss t m)
    (skip t f body _ _ (prototypes_miss t (bodies m)) found)))

none_in_items : (t : Test) (m : NamedModule) → FindsNone t (defining m) → FindsNone t (items m)
none_in_items t m none =
    skip_none t _ _ (objects_miss t m.tree (needs_of m).pointers)
    (skip_none t _ _ (data_miss t m.tree)
    (skip_none t _ _ (declared_miss t m)
    (skip_none t _ _ (prototypes_miss t (bodies m)) none)))

-- no helper, no body, no export, no part passes
abbrev pub NoHelper : Test → NamedModule → Type 0
NoHelper t m = find (λ which. t (helper_of which)) (helpers_of m.tree) ≡ None

abbrev pub NoBody : Test → NamedModule → Type 0
NoBody t m = find t (bodies m) ≡ None

abbrev pub NoExport : Test → NamedModule → Type 0
NoExport t m = find (λ e. t (export_func m e)) m.tree.exports ≡ None

abbrev pub NoPart : Test → NamedModule → Type 0
NoPart t m = find (λ p. t (part_func m.tree p)) (numbered (parts_of m.tree)) ≡ None

in_helpers : (t : Test) (m : NamedModule) (which : Helper) (body : tree.Body) → (helper_of which).body ≡ Some body
    → find (λ w. t (helper_of w)) (helpers_of m.tree) ≡ Some which → Finds t (helper_of which) body (items m)
in_helpers t m which body is found = found_in_items t m (helper_of which) body
    (found_among t helper_of (helpers_of m.tree) _ which body is found)

in_bodies : (t : Test) (m : NamedModule) (f : tree.Func) (body : tree.Body) → f.body ≡ Some body → NoHelper t m → find t (bodies m) ≡ Some f
    → Finds t f body (items m)
in_bodies t m f body is helpers found = found_in_items t m f body
    (skip t f body _ _ (none_among t helper_of (helpers_of m.tree) helpers)
    (found_among t (λ (g : tree.Func). g) (bodies m) _ f body is found))

in_exports : (t : Test) (m : NamedModule) (e : Export) (body : tree.Body) → (export_func m e).body ≡ Some body → NoHelper t m → NoBody t m
    → find (λ e. t (export_func m e)) m.tree.exports ≡ Some e → Finds t (export_func m e) body (items m)
in_exports t m e body is helpers bodies_none found = found_in_items t m (export_func m e) body
    (skip t _ body _ _ (none_among t helper_of (helpers_of m.tree) helpers)
    (skip t _ body _ _ (none_among t (λ (g : tree.Func). g) (bodies m) bodies_none)
    (found_among t (export_func m) m.tree.exports _ e body is found)))

in_parts : (t : Test) (m : NamedModule) (p : ℕ × Part) (body : tree.Body) → (part_func m.tree p).body ≡ Some body → NoHelper t m
    → NoBody t m → NoExport t m → find (λ p. t (part_func m.tree p)) (numbered (parts_of m.tree)) ≡ Some p
    → Finds t (part_func m.tree p) body (items m)
in_parts t m p body is helpers bodies_none exports found = found_in_items t m (part_func m.tree p) body
    (skip t _ body _ _ (none_among t helper_of (helpers_of m.tree) helpers)
    (skip t _ body _ _ (none_among t (λ (g : tree.Func). g) (bodies m) bodies_none)
    (skip t _ body _ _ (none_among t (export_func m) m.tree.exports exports)
    (found_among t (part_func m.tree) (numbered (parts_of m.tree)) _ p body is found))))

in_init : (t : Test) (m : NamedModule) (body : tree.Body) → (init_func m).body ≡ Some body → NoHelper t m → NoBody t m → NoExport t m
    → NoPart t m → t (init_func m) ≡ true → Finds t (init_func m) body (items m)
in_init t m body is helpers bodies_none exports parts passes = found_in_items t m (init_func m) body
    (skip t _ body _ _ (none_among t helper_of (helpers_of m.tree) helpers)
    (skip t _ body _ _ (none_among t (λ (g : tree.Func). g) (bodies m) bodies_none)
    (skip t _ body _ _ (none_among t (export_func m) m.tree.exports exports)
    (skip t _ body _ _ (none_among t (part_func m.tree) (numbered (parts_of m.tree)) parts)
    (here t (init_func m) body [] is passes)))))

in_none : (t : Test) (m : NamedModule) → NoHelper t m → NoBody t m → NoExport t m → NoPart t m → t (init_func m) ≡ false
    → FindsNone t (items m)
in_none t m helpers bodies_none exports parts init = none_in_items t m
    (skip_none t _ _ (none_among t helper_of (helpers_of m.tree) helpers)
    (skip_none t _ _ (none_among t (λ (g : tree.Func). g) (bodies m) bodies_none)
    (skip_none t _ _ (none_among t (export_func m) m.tree.exports exports)
    (skip_none t _ _ (none_among t (part_func m.tree) (numbered (parts_of m.tree)) parts)
    (skip_none t (tree.Function (init_func m) ∷ []) [] (inr init, tt) (λ k. refl))))))

-- ---- names

abbrev pub head : Name → ℕ
head [] = 0
head (b ∷ name) = b

abbrev tail : Name → Name
tail [] = []
tail (b ∷ name) = name

-- no name of a module's function and no symbol: the names of helpers are a class of their own
abbrev apart : Name → Bool
apart name = nat_eq (class name) 8

func_not_apart : (index : ℕ) → index < 2 ^ 64 → apart (func_name index) ≡ false
func_not_apart index less = let other : class (func_name index) ≡ 7 = class_lettered 102 index less refl in ap (λ n. nat_eq n 8) other

symbol_not_apart : (name : Name) → head name ≡ 119 → apart name ≡ false
symbol_not_apart [] letter = refl
symbol_not_apart (c ∷ []) letter = refl
symbol_not_apart (c ∷ d ∷ name) letter = ap (λ b. nat_eq (class (b ∷ d ∷ name)) 8) letter

helpers_apart : list_all (λ which. apart (helper_of which).name) HELPERS ≡ true
helpers_apart = refl

-- symbols begin with `w`, and helpers do not
helpers_are_no_symbols : list_all (λ which. not (nat_eq (head (helper_of which).name) 119)) HELPERS ≡ true
helpers_are_no_symbols = refl

helpers_are_no_primitives : list_all (λ which. is_none (primitive (helper_of which).name)) HELPERS ≡ true
helpers_are_no_primitives = refl

helper_apart : (which : Helper) → apart (helper_of which).name ≡ true
helper_apart which = let at = listed which in test_at (λ w. apart (helper_of w).name) HELPERS at.0 which helpers_apart at.1

helper_is_no_symbol : (which : Helper) → nat_eq (head (helper_of which).name) 119 ≡ false
helper_is_no_symbol which = let at = listed which in not-true (nat_eq (head (helper_of which).name) 119)
    (test_at (λ w. not (nat_eq (head (helper_of w).name) 119)) HELPERS at.0 which helpers_are_no_symbols at.1)

pub helper_is_no_primitive : (which : Helper) → primitive (helper_of which).name ≡ None
helper_is_no_primitive which = let at = listed which in no_option (primitive (helper_of which).name)
    (test_at (λ w. is_none (primitive (helper_of w).name)) HELPERS at.0 which helpers_are_no_primitives at.1)

pub func_is_no_primitive : (k : ℕ) → primitive (func_name k) ≡ None
func_is_no_primitive k = refl

pub export_is_no_primitive : (m : List ℕ) (k : SymbolKind) (x : List ℕ) → primitive (export_symbol_of m k x) ≡ None
export_is_no_primitive m k x = refl

no_helper : (m : NamedModule) (name : Name) → apart name ≡ false
    → find (λ which. bytes_eq (helper_of which).name name) (helpers_of m.tree) ≡ None
no_helper m name taken = find_none (λ which. bytes_eq (helper_of which).name name) (helpers_of m.tree) (λ i which is.
    bytes_differ (helper_of which).name name (λ e. let wrong : true ≡ false = sym (helper_apart which) ∙ ap apart e ∙ taken in absurd (cc)))

-- ---- bodies

-- the function with an index has its name, or there is none
abbrev pub IsBody : ℕ → tree.Func → Type 0
IsBody index f = ((f.name ≡ func_name index) ⊎ (f.name ≡ [])) × (f.is_static ≡ true)

default_or : {A : Type 0} (P : A → Type 0) (o : Option A) (d : A) → P d → ((a : A) → o ≡ Some a → P a) → P (unwrap_or o d)
default_or P None d default h = default
default_or P (Some a) d default h = h a refl

-- the function of a body with a type
pub body_with : (m : Module) (name : Name) (index : ℕ) (d : FuncEntry × BodyEntry) (ty : FuncType) → defined_at m index ≡ Some d
    → type_in m d.0.type_index ≡ Some ty
    → body_of m name index ≡ func_of (record { name = name; tree = m }) index ty d.1
body_with m name index d ty is typed = rw is (rw typed refl)

pub body_is : (m : Module) (name : Name) (index : ℕ) → IsBody index (body_of m name index)
body_is m name index = default_or (IsBody index) _ _ (inr refl, refl) (λ f e. by (defined_at m index) f e)
  where
    by_type : (body : BodyEntry) (o : Option FuncType) (f : tree.Func)
        → option_map (λ ty. func_of (record { name = name; tree = m }) index ty body) o ≡ Some f → IsBody index f
    by_type body None f e = absurd (cc)
    by_type body (Some ty) f e = subst (IsBody index) (let same : func_of (record { name = name; tree = m }) index ty body ≡ f = cc in same)
        (inl refl, refl)

    by : (o : Option (FuncEntry × BodyEntry)) (f : tree.Func)
        → if_found o (λ d. option_map (λ ty. func_of (record { name = name; tree = m }) index ty d.1) (type_in m d.0.type_index)) ≡ Some f
        → IsBody index f
    by None f e = absurd (cc)
    by (Some d) f e = by_type d.1 (type_in m d.0.type_index) f e

pub no_body : (t : Test) (m : NamedModule) → ((index : ℕ) → t (body_of m.tree m.name index) ≡ false) → NoBody t m
no_body t m h =
    find_map t (body_of m.tree m.name) (range_with_len (imported_funcs m.tree) (length m.tree.funcs))
    ∙ ap (option_map (body_of m.tree m.name)) (find_none (λ index. t (body_of m.tree m.name index))
    (range_with_len (imported_funcs m.tree) (length m.tree.funcs)) (λ i index is. h index))

-- no body has a name that begins with another letter than `f`
no_body_named : (m : NamedModule) (name : Name) → nat_eq (head name) 102 ≡ false → nat_eq (head name) 0 ≡ false → NoBody (named_by name) m
no_body_named m name letter some = no_body (named_by name) m
    (λ index. bytes_differ (body_of m.tree m.name index).name name (λ e. by index (body_is m.tree m.name index).0 e))
  where
    by : (index : ℕ) → ((body_of m.tree m.name index).name ≡ func_name index) ⊎ ((body_of m.tree m.name index).name ≡ [])
        → (body_of m.tree m.name index).name ≡ name → ⊥
    by index (inl is) e = let wrong : true ≡ false = ap (λ n. nat_eq (head n) 102) (sym is ∙ e) ∙ letter in cc
    by index (inr is) e = let wrong : true ≡ false = ap (λ n. nat_eq (head n) 0) (sym is ∙ e) ∙ some in cc

-- helpers and bodies are static
no_helper_external : (m : NamedModule) (name : Name) → NoHelper (external_by name) m
no_helper_external m name = find_none (λ which. external_by name (helper_of which)) (helpers_of m.tree) (λ i which is.
    let static : (helper_of which).is_static ≡ true = (made_static which (helper_of which) refl).static in rw static refl)

no_body_external : (m : NamedModule) (name : Name) → NoBody (external_by name) m
no_body_external m name = no_body (external_by name) m (λ index. rw ((body_is m.tree m.name index).1) refl)

-- ---- parts of the init function

pub no_part : (t : Test) (m : NamedModule) → ((p : ℕ × Part) → t (part_func m.tree p) ≡ false) → NoPart t m
no_part t m h = find_none (λ p. t (part_func m.tree p)) (numbered (parts_of m.tree)) (λ i p is. h p)

-- they begin with another letter than symbols
no_part_symbol : (m : NamedModule) (name : Name) → head name ≡ 119 → NoPart (named_by name) m
no_part_symbol m name letter = no_part (named_by name) m (λ p. bytes_differ (part_name p.0) name (λ e.
    let wrong : true ≡ false = ap (λ n. nat_eq (head n) 105) e ∙ ap (λ b. nat_eq b 105) letter in cc))

no_part_external : (m : NamedModule) (name : Name) → NoPart (external_by name) m
no_part_external m name = no_part (external_by name) m (λ p. refl)

-- ---- exports

-- the kind of an export's symbol
abbrev pub kind_of_global : Option (ValType × Bool) → SymbolKind
kind_of_global None = symbol.Const
kind_of_global (Some global) = global_kind global.1

abbrev pub kind_of : NamedModule → Export → SymbolKind
kind_of m e = elim e.kind [
  | ExportFunc ↦ symbol.Func
  | ExportTable ↦ symbol.Table
  | ExportMemory ↦ symbol.Memory
  | ExportGlobal ↦ kind_of_global
      (global_type_in m.tree e.index)
]

pub symbol_is : (m : NamedModule) (e : Export) → export_symbol m e ≡ export_symbol_of m.name (kind_of m e) e.name
symbol_is m e = by e.kind
  where
    by_global : (o : Option (ValType × Bool)) → global_symbol m.name o e.name ≡ export_symbol_of m.name (kind_of_global o) e.name
    by_global None = refl
    by_global (Some global) = refl

    by : (kind : ExportKind) → (elim kind [
      | ExportFunc ↦ export_symbol_of m.name symbol.Func e.name
      | ExportTable ↦ export_symbol_of m.name symbol.Table e.name
      | ExportMemory ↦ export_symbol_of m.name symbol.Memory e.name
      | ExportGlobal ↦ global_symbol m.name (global_type_in m.tree e.index) e.name
    ]) ≡ export_symbol_of m.name
        (elim kind [
          | ExportFunc ↦ symbol.Func
          | ExportTable ↦ symbol.Table
          | ExportMemory ↦ symbol.Memory
          | ExportGlobal ↦ kind_of_global (global_type_in m.tree e.index)
        ]) e.name
    by ExportFunc = refl
    by ExportTable = refl
    by ExportMemory = refl
    by ExportGlobal = by_global (global_type_in m.tree e.index)

-- a function of external linkage with this name and type, which has a body
pub record IsExternal (ty : tree.FuncType) (name : Name) (f : tree.Func) : Type 0 where
  pub external : f.is_static ≡ false
  pub named : f.name ≡ name
  pub body : tree.Body
  pub has_body : f.body ≡ Some body

passes_external : (params : List CType) (result : CType) (name : Name) (callee : Option Name)
    → IsExternal (record { params = params; result = result }) name (passes_on (record { params = params; result = result }) name callee)
passes_external params c_type.Void name callee = record { external = refl; named = refl; body = _; has_body = refl }
passes_external params _ name callee = record { external = refl; named = refl; body = _; has_body = refl }

accessor_external : (m : NamedModule) (ty : tree.FuncType) (name : Name) (i : Option Import) (object : Name)
    → IsExternal ty name (accessor m ty name i object)
accessor_external m ty name None object = record { external = refl; named = refl; body = _; has_body = refl }
accessor_external m ty name (Some i) object = passes_external ty.params ty.result name _

pub export_external : (m : NamedModule) (e : Export) → IsExternal (export_type m.tree e) (export_symbol m e) (export_func m e)
export_external m e = by e.kind
  where
    by : (kind : ExportKind) → IsExternal (export_type m.tree e) (export_symbol m e) (elim kind [
      | ExportFunc ↦ passes_on (export_type m.tree e) (export_symbol m e) (callee m e.index)
      | ExportTable ↦ accessor m (export_type m.tree e) (export_symbol m e) (slice_get (table_imports m.tree) e.index) table_name
      | ExportMemory ↦ accessor m (export_type m.tree e) (export_symbol m e) (slice_get (memory_imports m.tree) e.index) memory_name
      | ExportGlobal ↦ accessor m (export_type m.tree e) (export_symbol m e) (slice_get (global_imports m.tree) e.index)
          (global_name e.index)
    ])
    by ExportFunc = passes_external _ _ (export_symbol m e) (callee m e.index)
    by ExportTable = accessor_external m _ (export_symbol m e) _ table_name
    by ExportMemory = accessor_external m _ (export_symbol m e) _ memory_name
    by ExportGlobal = accessor_external m _ (export_symbol m e) _ (global_name e.index)

-- ---- what names stand for

-- other units see no name that is no symbol
no_symbol_undefined : (m : NamedModule) (name : Name) → nat_eq (head name) 119 ≡ false → defined_for_all (items m) name ≡ None
no_symbol_undefined m name letter =
    in_none (external_by name) m (no_helper_external m name) (no_body_external m name)
    (find_none (λ e. external_by name (export_func m e)) m.tree.exports (λ i e is. rw ((export_external m e).external) (by_name e)))
    (no_part_external m name)
    (bytes_differ (init_symbol_of m.name) name (λ same. no_letter refl same)) 0
  where
    no_letter : {symbol : Name} → nat_eq (head symbol) 119 ≡ true → symbol ≡ name → ⊥
    no_letter is same = let wrong : true ≡ false = sym is ∙ ap (λ n. nat_eq (head n) 119) same ∙ letter in cc

    by_name : (e : Export) → bytes_eq (export_func m e).name name ≡ false
    by_name e = bytes_differ (export_func m e).name name (λ same.
        no_letter refl (sym (symbol_is m e) ∙ (sym (export_external m e).named ∙ same)))

-- the unit's definition of a name, and the one that other units see
abbrev pub IsDefinition : (Name → Option Definition) → Name → tree.Func → tree.Body → Type 0
IsDefinition search name f body = (item : ℕ) × (search name ≡ Some (record { item = item; func = f; body = body }))

pub find_only : {A : Type 0} (p : A → Bool) (xs : List A) (k : ℕ) (a : A) → slice_get xs k ≡ Some a → p a ≡ true
    → ((i : ℕ) (b : A) → slice_get xs i ≡ Some b → p b ≡ true → b ≡ a) → find p xs ≡ Some a
find_only p [] k a is passes only = absurd (cc)
find_only {A} p (x ∷ xs) k a is passes only = go k (p x) refl is (λ j at. find_only p xs j a at passes (λ i b. only (suc i) b))
  where
    go : (k : ℕ) (b : Bool) → p x ≡ b → slice_get (x ∷ xs) k ≡ Some a → ((j : ℕ) → slice_get xs j ≡ Some a → find p xs ≡ Some a)
        → (if b then Some x else find p xs) ≡ Some a
    go k true e is others = ap Some (only 0 x refl e)
    go zero false e is others = let same : x ≡ a = cc in let wrong : false ≡ true = sym e ∙ ap p same ∙ passes in absurd (cc)
    go (suc k) false e is others = others k is

helper_body : (which : Helper) → (body : tree.Body) × ((helper_of which).body ≡ Some body)
helper_body (helper.Num op) = (_, refl)
helper_body _ = (_, refl)

pub helper_defined : (m : NamedModule) (which : Helper) → Contains (helpers_of m.tree) which
    → (body : tree.Body) × ((helper_of which).body ≡ Some body)
    × IsDefinition (defined (items m)) (helper_of which).name (helper_of which) body
helper_defined m which there =
    let body = helper_body which in
    let at : slice_get (helpers_of m.tree) there.0 ≡ Some which = slice_get-get_or (helpers_of m.tree) there.0 which there.1
    ∙ ap Some there.2 in
    let found = find_only (λ w. bytes_eq (helper_of w).name (helper_of which).name) (helpers_of m.tree) there.0 which at
    (bytes_equal (helper_of which).name)
    (λ i w is passes. names_differ w which ((bytes_eq-Decides (helper_of w).name (helper_of which).name).0 passes)) in
    let definition = in_helpers (named_by (helper_of which).name) m which body.0 body.1 found 0 in
    (body.0, body.1, definition)

pub in_range : (a n i b : ℕ) → slice_get (range_with_len a n) i ≡ Some b → b < a + n
in_range a zero i b is = absurd (cc)
in_range a (suc n) zero b is = let same : a ≡ b = cc in omega (arith, same)
in_range a (suc n) (suc i) b is = let h = in_range (a + 1) n i b is in omega (arith, h)

pub body_defined : (m : NamedModule) (index : ℕ) (body : tree.Body) → IsDefined m.tree index
    → imported_funcs m.tree + length m.tree.funcs ≤ 2 ^ 64
    → (body_of m.tree m.name index).body ≡ Some body → (body_of m.tree m.name index).name ≡ func_name index
    → IsDefinition (defined (items m)) (func_name index) (body_of m.tree m.name index) body
body_defined m index body there few has_body name_is =
    let first : ℕ = imported_funcs m.tree in
    let range : List ℕ = range_with_len first (length m.tree.funcs) in
    let e : first + (index - first) ≡ index = omega (arith, there.behind) in
    let at : slice_get range (index - first) ≡ Some index = get_numbered first (length m.tree.funcs) (index - first)
    (omega (arith, there.behind, there.within)) ∙ ap Some e in
    let found : find (named_by (func_name index)) (bodies m) ≡ Some (body_of m.tree m.name index) =
    find_map (named_by (func_name index)) (body_of m.tree m.name) range
    ∙ ap (option_map (body_of m.tree m.name)) (find_only (λ i. named_by (func_name index) (body_of m.tree m.name i)) range
    (index - first) index at
    (ap (λ n. bytes_eq n (func_name index)) name_is ∙ bytes_equal (func_name index))
    (λ i b is passes. only b (in_range first (length m.tree.funcs) i b is) (body_is m.tree m.name b).0
    ((bytes_eq-Decides (body_of m.tree m.name b).name (func_name index)).0 passes))) in
    in_bodies (named_by (func_name index)) m (body_of m.tree m.name index) body has_body
    (no_helper m (func_name index) (func_not_apart index (omega (arith, there.within, few)))) found 0
  where
    only : (b : ℕ) → b < imported_funcs m.tree + length m.tree.funcs
        → ((body_of m.tree m.name b).name ≡ func_name b) ⊎ ((body_of m.tree m.name b).name ≡ [])
        → (body_of m.tree m.name b).name ≡ func_name index → b ≡ index
    only b less (inl is) e = decimal_injective b index (omega (arith, less, few)) (omega (arith, there.within, few)) (ap tail (sym is ∙ e))
    only b less (inr is) e = let same : [] ≡ func_name index = sym is ∙ e in absurd (cc)

-- the first export with a symbol
abbrev pub FirstExport : NamedModule → Name → Export → Type 0
FirstExport m name e = (place : ℕ) × (slice_get m.tree.exports place ≡ Some e) × (export_symbol m e ≡ name)
    × ((i : ℕ) (b : Export) → i < place → slice_get m.tree.exports i ≡ Some b → export_symbol m b ≢ name)

-- symbols begin with `w`
abbrev pub IsOfSymbol : Name → Type 0
IsOfSymbol name = head name ≡ 119

no_helper_symbol : (m : NamedModule) (name : Name) → IsOfSymbol name → NoHelper (named_by name) m
no_helper_symbol m name h = no_helper m name (symbol_not_apart name h)

no_body_symbol : (m : NamedModule) (name : Name) → IsOfSymbol name → NoBody (named_by name) m
no_body_symbol m name h = no_body_named m name (ap (λ b. nat_eq b 102) h) (ap (λ b. nat_eq b 0) h)

pub export_defined : (m : NamedModule) (name : Name) (e : Export) → IsOfSymbol name → FirstExport m name e
    → IsDefinition (defined (items m)) name (export_func m e) (export_external m e).body
    × IsDefinition (defined_for_all (items m)) name (export_func m e) (export_external m e).body
export_defined m name e symbol first = (
  in_exports (named_by name) m e x.body x.has_body (no_helper_symbol m name symbol) (no_body_symbol m name symbol)
      (find_at (λ e. named_by name (export_func m e)) m.tree.exports first.0 e first.1
      (ap (λ n. bytes_eq n name) (x.named ∙ first.2) ∙ bytes_equal name) (λ i b less is. by_name b (first.3 i b less is)))
      0,
  in_exports (external_by name) m e x.body x.has_body (no_helper_external m name) (no_body_external m name)
      (find_at (λ e. external_by name (export_func m e)) m.tree.exports first.0 e first.1
      (rw (x.external) (ap (λ n. bytes_eq n name) (x.named ∙ first.2) ∙ bytes_equal name))
      (λ i b less is. by_external b (by_name b (first.3 i b less is))))
      0,
)
  where
    x : IsExternal (export_type m.tree e) (export_symbol m e) (export_func m e)
    x = export_external m e

    by_name : (b : Export) → export_symbol m b ≢ name → named_by name (export_func m b) ≡ false
    by_name b differ = bytes_differ (export_func m b).name name (λ e. differ (sym (export_external m b).named ∙ e))

    by_external : (b : Export) → named_by name (export_func m b) ≡ false → external_by name (export_func m b) ≡ false
    by_external b is = rw ((export_external m b).external) is

-- the init function
pub init_defined : (m : NamedModule) → All (λ b. b < 256) m.name
    → (body : tree.Body) × ((init_func m).body ≡ Some body) × IsDefinition (defined (items m)) (init_symbol_of m.name) (init_func m) body
    × IsDefinition (defined_for_all (items m)) (init_symbol_of m.name) (init_func m) body
init_defined m small = (
  _,
  refl,
  in_init (named_by name) m _ refl (no_helper_symbol m name refl) (no_body_symbol m name refl)
      (find_none (λ e. named_by name (export_func m e)) m.tree.exports (λ i e is. by_name e)) (no_part_symbol m name refl)
      (bytes_equal name) 0,
  in_init (external_by name) m _ refl (no_helper_external m name) (no_body_external m name)
      (find_none (λ e. external_by name (export_func m e)) m.tree.exports (λ i e is. rw ((export_external m e).external) (by_name e)))
      (no_part_external m name) (bytes_equal name) 0,
)
  where
    name : Name
    name = init_symbol_of m.name

    by_name : (e : Export) → named_by (init_symbol_of m.name) (export_func m e) ≡ false
    by_name e = bytes_differ (export_func m e).name (init_symbol_of m.name) (λ same.
        init_symbol_of-not_export m.name m.name (kind_of m e) e.name small small (sym same ∙ (export_external m e).named ∙ symbol_is m e))

-- a part of the init function
abbrev pub part_body : NamedModule → Part → tree.Body
part_body m x = record { locals = own_locals m.tree; stmts = part_stmts x }

abbrev behind_five : Name → Name
behind_five name = tail (tail (tail (tail (tail name))))

pub part_defined : (m : NamedModule) (k : ℕ) (x : Part) → length (parts_of m.tree) < 2 ^ 62 → slice_get (parts_of m.tree) k ≡ Some x
    → IsDefinition (defined (items m)) (part_name k) (part_func m.tree (k, x)) (part_body m x)
part_defined m k x few is =
    in_parts (named_by (part_name k)) m (k, x) (part_body m x) refl (no_helper m (part_name k) refl)
    (no_body_named m (part_name k) refl refl)
    (find_none (λ e. named_by (part_name k) (export_func m e)) m.tree.exports (λ i e at. no_export e))
    (find_only (λ p. named_by (part_name k) (part_func m.tree p)) (numbered parts) k (k, x) (numbered_at parts k x is)
    (bytes_equal (part_name k)) only)
    0
  where
    parts : List Part
    parts = parts_of m.tree

    no_export : (e : Export) → named_by (part_name k) (export_func m e) ≡ false
    no_export e = bytes_differ (export_func m e).name (part_name k) (λ same.
        let symbol : export_symbol_of m.name (kind_of m e) e.name ≡ part_name k =
        sym (symbol_is m e) ∙ (sym (export_external m e).named ∙ same) in
        let wrong : true ≡ false = ap (λ n. nat_eq (head n) 119) symbol in cc)

    only : (i : ℕ) (p : ℕ × Part) → slice_get (numbered parts) i ≡ Some p → named_by (part_name k) (part_func m.tree p) ≡ true
        → p ≡ (k, x)
    only i p at passes =
        let both = get_zipped (range_with_len 0 (length parts)) parts i p at in
        let within : i < length parts = slice_get_within parts i p.1 both.1 in
        let start : 0 + i ≡ i = omega arith in
        let place : p.0 ≡ i = same_Some p.0 i (sym both.0 ∙ get_numbered 0 (length parts) i within ∙ ap Some start) in
        let there : k < length parts = slice_get_within parts k x is in
        let number : p.0 ≡ k = decimal_injective p.0 k (omega (arith, place, within, few)) (omega (arith, there, few))
        (ap behind_five ((bytes_eq-Decides (part_name p.0) (part_name k)).0 passes)) in
        let part : p.1 ≡ x = same_Some p.1 x (sym both.1 ∙ ap (slice_get parts) (sym place ∙ number) ∙ is) in
        λ j. (number j, part j)

-- a symbol that is none of the module's own
pub symbol_undefined : (m : NamedModule) (name : Name) → IsOfSymbol name
    → ((i : ℕ) (e : Export) → slice_get m.tree.exports i ≡ Some e → export_symbol m e ≢ name) → init_symbol_of m.name ≢ name
    → (defined (items m) name ≡ None) × (defined_for_all (items m) name ≡ None)
symbol_undefined m name symbol none init = (
  in_none (named_by name) m (no_helper_symbol m name symbol) (no_body_symbol m name symbol)
      (find_none (λ e. named_by name (export_func m e)) m.tree.exports (λ i e is. by_name e (none i e is)))
      (no_part_symbol m name symbol) (bytes_differ (init_symbol_of m.name) name init) 0,
  in_none (external_by name) m (no_helper_external m name) (no_body_external m name)
      (find_none (λ e. external_by name (export_func m e)) m.tree.exports
      (λ i e is. rw ((export_external m e).external) (by_name e (none i e is)))) (no_part_external m name)
      (bytes_differ (init_symbol_of m.name) name init) 0,
)
  where
    by_name : (b : Export) → export_symbol m b ≢ name → named_by name (export_func m b) ≡ false
    by_name b differ = bytes_differ (export_func m b).name name (λ e. differ (sym (export_external m b).named ∙ e))

-- symbols of a module with another name
pub other_export_undefined : (m : NamedModule) (other : List ℕ) (kind : SymbolKind) (field : List ℕ) → All (λ b. b < 256) m.name
    → All (λ b. b < 256) other → m.name ≢ other
    → (defined (items m) (export_symbol_of other kind field) ≡ None)
    × (defined_for_all (items m) (export_symbol_of other kind field) ≡ None)
other_export_undefined m other kind field small small' differ = symbol_undefined m (export_symbol_of other kind field) refl
    (λ i e is same. differ (export_symbol_of-injective m.name other (kind_of m e) kind e.name field small small'
    (sym (symbol_is m e) ∙ same)).0)
    (λ same. init_symbol_of-not_export m.name other kind field small small' same)

-- ---- types: a name that other units see has the type of what they see, another that of its definition

pub typed_outside : (unit : List tree.Item) (name : Name) (f : tree.Func) (body : tree.Body)
    → IsDefinition (defined_for_all unit) name f body → IsDefinition (typed unit) name f body
typed_outside unit name f body d = (d.0, ap (λ (o : Option Definition). option_or o (defined unit name)) d.1)

typed_inside : (m : NamedModule) (name : Name) (f : tree.Func) (body : tree.Body) → nat_eq (head name) 119 ≡ false
    → IsDefinition (defined (items m)) name f body → IsDefinition (typed (items m)) name f body
typed_inside m name f body letter d =
    (d.0, ap (λ (o : Option Definition). option_or o (defined (items m) name)) (no_symbol_undefined m name letter) ∙ d.1)

pub part_typed : (m : NamedModule) (k : ℕ) (f : tree.Func) (body : tree.Body)
    → IsDefinition (defined (items m)) (part_name k) f body → IsDefinition (typed (items m)) (part_name k) f body
part_typed m k f body d = typed_inside m (part_name k) f body refl d

pub func_typed : (m : NamedModule) (index : ℕ) (f : tree.Func) (body : tree.Body)
    → IsDefinition (defined (items m)) (func_name index) f body → IsDefinition (typed (items m)) (func_name index) f body
func_typed m index f body d = typed_inside m (func_name index) f body refl d

pub helper_typed : (m : NamedModule) (which : Helper) (f : tree.Func) (body : tree.Body)
    → IsDefinition (defined (items m)) (helper_of which).name f body → IsDefinition (typed (items m)) (helper_of which).name f body
helper_typed m which f body d = typed_inside m (helper_of which).name f body (helper_is_no_symbol which) d
