-- What a module's unit shows to other units, and its objects, as lists.
use Rattle.unit_rules.proofs.Common.{◌≡◌, ℕ, ◌+◌, true, false, ◌⊎◌, ◌↔◌, List, [], ◌∷◌, ◌++◌, map, is_some, if◌then◌else◌, Some, None, sym}
use Rattle.unit_rules.proofs.Common.{Contains, filter, Option, filter_map, bytes_eq, refl, ap, ◌∙◌, subst, inl, inr, append-nil, arith, I32}
use Rattle.unit_rules.proofs.Common.{Contains-append_cases, Contains-append_left, Contains-append_right, filter_map-append, AllByRecursion}
use Rattle.unit_rules.proofs.Common.{all_behind, all_weaker, all_append, all_at, all_from, all_map, of_contained, unlike_back, named, Name}
use Rattle.unit_rules.proofs.Common.{numbered, ValType, init_symbol_of, imported_globals, NamedModule, Export, GlobalEntry, LimitsEntry}
use Rattle.unit_rules.proofs.Common.{Module, global_name, memory_name, table_name, func_type_of, is_among, name_of, c_type_of, CType, Typed}
use Rattle.unit_rules.proofs.Common.{external_functions, helper_of, helpers_of, declared_symbols, export_symbol, export_type, firsts, class}
use Rattle.unit_rules.proofs.Common.{exported_symbols, import_symbol, import_type, imported_symbols, symbol_type, made_static, export_func}
use Rattle.unit_rules.proofs.Common.{class_lettered, init_func, bodies, data_of, declaration, items, prototype, IsAccepted, HaveSame, I64}
use Rattle.unit_rules.proofs.Common.{declared_names, defined_names, module_objects, own_symbols, unit_objects, declared_type, declarations}
use Rattle.unit_rules.proofs.Common.{exports, functions_of, helpers, init, objects, parts, prototypes, globals, mems, pointers, tabs}
use Rattle.unit_rules.proofs.Common.{part_func, parts_of, body_is, export_external, firsts_all, all_images, by_test, pointers_class}
use Rattle.c_tree.specs.declared.tree.CType.TheVariants as type
use Rattle.c_tree.specs.Tree as tree
use Rattle.unit_rules.proofs.EachItem.{IsObject, each_data, each_object, global_pointer, own_global, own_memory, own_table}
use Rattle.unit_rules.proofs.ExportFacts.{symbol_types}
use Rattle.unit_rules.proofs.ExportGiven.{each_shape}
use Rattle.unit_rules.proofs.KnownFuncs.{among_contained, declared_func, declared_typed, firsts_have, self_among}
use Rattle.unit_rules.proofs.WholeUnit.{all_bodies, imports_apart}

-- ---- lists

none_kept : {A B : Type 0} (f : A → Option B) (xs : List A) → AllByRecursion (λ x. f x ≡ None) xs → filter_map f xs ≡ []
none_kept f [] h = refl
none_kept f (x ∷ xs) h = rw (h.0) (none_kept f xs h.1)

swapped : {A : Type 0} (xs ys : List A) (x : A) → Contains (xs ++ ys) x → Contains (ys ++ xs) x
swapped xs ys x h = by (Contains-append_cases xs ys x h)
  where
    by : Contains xs x ⊎ Contains ys x → Contains (ys ++ xs) x
    by (inl p) = Contains-append_right ys xs x p
    by (inr p) = Contains-append_left ys xs x p

contained_among : (q : Name) (names : List Name) → Contains names q → is_among q names ≡ true
contained_among q names c = of_contained (λ n. is_among n names ≡ true) names q (self_among names) c

firsts_contained : (q : Name) (names : List Name) → Contains (firsts [] names) q → Contains names q
firsts_contained q names c = among_contained q names
    (of_contained (λ n. is_among n names ≡ true) (firsts [] names) q
    (firsts_all (λ n. is_among n names ≡ true) [] names (self_among names)) c)

-- a name among the names of entries is found
named_there : {A : Type 0} (q : Name) (entries : List (Name × A)) → is_among q (map (λ (e : Name × A). e.0) entries) ≡ true
    → is_some (named q entries) ≡ true
named_there q [] e = absurd cc
named_there q (x ∷ entries) e =
    by_test (bytes_eq x.0 q) (λ f. rw f refl) (λ f. rw f (named_there q entries (rw (unlike_back x.0 q f) at e)))

named_behind : {A : Type 0} (q : Name) (xs ys : List (Name × A)) → is_some (named q ys) ≡ true → is_some (named q (xs ++ ys)) ≡ true
named_behind q [] ys e = e
named_behind q (x ∷ xs) ys e = by_test (bytes_eq x.0 q) (λ f. rw f refl) (λ f. rw f (named_behind q xs ys e))

names_back : {A B : Type 0} (name : A → Name) (f : A → B) (xs : List A)
    → map (λ (e : Name × B). e.0) (map (λ x. (name x, f x)) xs) ≡ map name xs
names_back name f [] = refl
names_back name f (x ∷ xs) = ap (λ ns. name x ∷ ns) (names_back name f xs)

none_among : (q : Name) (names : List Name) → AllByRecursion (λ n. bytes_eq n q ≡ false) names → is_among q names ≡ false
none_among q [] h = refl
none_among q (n ∷ names) h = rw (unlike_back n q h.0) (none_among q names h.1)

-- ---- items that other units do not see, and objects

abbrev external_of : tree.Item → Option tree.Func
external_of item = elim item [
  | tree.Array name count bytes ↦ None
  | tree.Var ty name number ↦ None
  | tree.Function f ↦ if f.is_static then None else Some f
]

abbrev object_of : tree.Item → Option (CType × Name)
object_of (tree.Var type.U32 name number) = Some (type.U32, name)
object_of (tree.Var type.U64 name number) = Some (type.U64, name)
object_of (tree.Var type.Mem name number) = Some (type.Mem, name)
object_of (tree.Var type.Tab name number) = Some (type.Tab, name)
object_of _ = None

static_hidden : (f : tree.Func) → f.is_static ≡ true → external_of (tree.Function f) ≡ None
static_hidden f e = rw e refl

-- pointers are no objects of the module
pointer_hidden : (ty : CType) (name : Name) → IsObject ty name → class name ≡ 4 → object_of (tree.Var ty name None) ≡ None
pointer_hidden _ _ own_table c = absurd (grind (arith, c))
pointer_hidden _ _ own_memory c = absurd (grind (arith, c))
pointer_hidden _ _ (own_global ty k less) c =
    let three : class (global_name k) ≡ 3 = class_lettered 103 k less refl in absurd (omega (arith, c, three))
pointer_hidden _ _ (global_pointer I32 k less) c = refl
pointer_hidden _ _ (global_pointer I64 k less) c = refl
pointer_hidden _ _ _ c = refl

all_apply : {A : Type 0} (P Q : A → Type 0) (xs : List A) → AllByRecursion (λ x. P x → Q x) xs → AllByRecursion P xs → AllByRecursion Q xs
all_apply P Q [] f h = tt
all_apply P Q (x ∷ xs) f h = (f.0 h.0, all_apply P Q xs f.1 h.1)

-- variables that are objects of the module
vars_seen : {A : Type 0} (ty : A → CType) (name : A → Name) (xs : List A)
    → ((x : A) → object_of (tree.Var (ty x) (name x) None) ≡ Some (ty x, name x))
    → filter_map object_of (map (λ x. tree.Var (ty x) (name x) None) xs) ≡ map (λ x. (ty x, name x)) xs
vars_seen ty name [] h = refl
vars_seen ty name (x ∷ xs) h = rw (h x) (ap (λ os. (ty x, name x) ∷ os) (vars_seen ty name xs h))

module _ (m : NamedModule) (a : IsAccepted m) where
  abbrev t : Module
  t = m.tree

  joined : {B : Type 0} (f : tree.Item → Option B) (xs ys : List tree.Item) (us vs : List B) → filter_map f xs ≡ us → filter_map f ys ≡ vs
      → filter_map f (xs ++ ys) ≡ us ++ vs
  joined f xs ys us vs e g = filter_map-append f xs ys ∙ (ap (λ ws. ws ++ filter_map f ys) e ∙ ap (λ ws. us ++ ws) g)

  -- ---- functions that other units see

  objects_hidden : filter_map external_of (objects m) ≡ []
  objects_hidden = none_kept external_of (objects m) (each_object m a (λ o. external_of o ≡ None) (λ ty name is. refl))

  data_hidden : filter_map external_of (data_of t) ≡ []
  data_hidden = none_kept external_of (data_of t) (each_data m a (λ o. external_of o ≡ None) (λ j d at b bytes e. refl))

  declarations_seen : (ss : List Typed) → filter_map external_of (map declaration ss) ≡ map declared_func ss
  declarations_seen [] = refl
  declarations_seen (s ∷ ss) = ap (λ fs. declared_func s ∷ fs) (declarations_seen ss)

  bodies_static : AllByRecursion (λ (f : tree.Func). f.is_static ≡ true) (bodies m)
  bodies_static = all_bodies m a (λ f. f.is_static ≡ true) (λ k low high. (body_is t m.name k).1)

  prototypes_hidden : filter_map external_of (prototypes m) ≡ []
  prototypes_hidden = none_kept external_of (prototypes m) (all_map _ prototype (bodies m)
      (all_weaker _ _ (bodies m) (λ f static. rw static refl) bodies_static))

  helpers_hidden : filter_map external_of (helpers m) ≡ []
  helpers_hidden = none_kept external_of (helpers m) (all_images (λ o. external_of o ≡ None) (λ which. tree.Function (helper_of which))
      (helpers_of t)
      (λ which. static_hidden (helper_of which) (made_static which (helper_of which) refl).static))

  bodies_hidden : filter_map external_of (functions_of m) ≡ []
  bodies_hidden = none_kept external_of (functions_of m) (all_map _ tree.Function (bodies m)
      (all_weaker _ _ (bodies m) static_hidden bodies_static))

  parts_hidden : filter_map external_of (parts m) ≡ []
  parts_hidden = none_kept external_of (parts m) (all_images (λ o. external_of o ≡ None) (λ p. tree.Function (part_func t p))
      (numbered (parts_of t)) (λ p. refl))

  exports_seen : (es : List Export) → filter_map external_of (map (λ e. tree.Function (export_func m e)) es) ≡ map (export_func m) es
  exports_seen [] = refl
  exports_seen (e ∷ es) = rw ((export_external m e).external) (ap (λ fs. export_func m e ∷ fs) (exports_seen es))

  abbrev seen : List tree.Func
  seen = map declared_func (declared_symbols m) ++ (map (export_func m) t.exports ++ init_func m ∷ [])

  seen_is : external_functions (items m) ≡ seen
  seen_is =
      joined external_of (objects m) _ [] _ objects_hidden
      (joined external_of (data_of t) _ [] _ data_hidden
      (joined external_of (declarations m) _ (map declared_func (declared_symbols m)) _ (declarations_seen (declared_symbols m))
      (joined external_of (prototypes m) _ [] _ prototypes_hidden
      (joined external_of (helpers m) _ [] _ helpers_hidden
      (joined external_of (functions_of m) _ [] _ bodies_hidden
      (joined external_of (exports m) (parts m ++ init m) (map (export_func m) t.exports) (init_func m ∷ []) (exports_seen t.exports)
      (joined external_of (parts m) (init m) [] (init_func m ∷ []) parts_hidden refl)))))))

  abbrev symbols : List Name
  symbols = map (export_symbol m) t.exports

  with_body : (ss : List Typed) (es : List Export) → map (λ (f : tree.Func). f.name)
      (filter (λ (f : tree.Func). is_some f.body) (map declared_func ss ++ (map (export_func m) es ++ init_func m ∷ [])))
      ≡ map (export_symbol m) es ++ init_symbol_of m.name ∷ []
  with_body [] [] = refl
  with_body [] (e ∷ es) =
      let x = export_external m e in
      let has : is_some (export_func m e).body ≡ true = ap is_some x.has_body in
      rw has (ap (λ n. n ∷ map (λ (f : tree.Func). f.name)
      (filter (λ (f : tree.Func). is_some f.body) (map (export_func m) es ++ init_func m ∷ []))) x.named
      ∙ ap (λ ns. export_symbol m e ∷ ns) (with_body [] es))
  with_body (s ∷ ss) es = with_body ss es

  names_of : (ss : List Typed) (es : List Export) → map (λ (f : tree.Func). f.name)
      (map declared_func ss ++ (map (export_func m) es ++ init_func m ∷ []))
      ≡ map (λ (s : Typed). s.0) ss ++ (map (export_symbol m) es ++ init_symbol_of m.name ∷ [])
  names_of [] [] = refl
  names_of [] (e ∷ es) = ap (λ n. n ∷ map (λ (f : tree.Func). f.name) (map (export_func m) es ++ init_func m ∷ []))
      (export_external m e).named ∙ ap (λ ns. export_symbol m e ∷ ns) (names_of [] es)
  names_of (s ∷ ss) es = ap (λ ns. s.0 ∷ ns) (names_of ss es)

  defined_are : defined_names (items m) ≡ symbols ++ init_symbol_of m.name ∷ []
  defined_are = ap (λ fs. map (λ (f : tree.Func). f.name) (filter (λ (f : tree.Func). is_some f.body) fs)) seen_is
      ∙ with_body (declared_symbols m) t.exports

  firsts_back : (f : Name → tree.FuncType) (names : List Name) → map (λ (s : Typed). s.0) (map (λ name. (name, f name)) names) ≡ names
  firsts_back f [] = refl
  firsts_back f (n ∷ names) = ap (λ ns. n ∷ ns) (firsts_back f names)

  abbrev import_symbols : List Name
  import_symbols = map import_symbol t.imports

  declared_are : declared_names (items m) ≡ firsts [] import_symbols ++ (symbols ++ init_symbol_of m.name ∷ [])
  declared_are = ap (λ fs. map (λ (f : tree.Func). f.name) fs) seen_is ∙ (names_of (declared_symbols m) t.exports
      ∙ ap (λ ns. ns ++ (symbols ++ init_symbol_of m.name ∷ []))
      (firsts_back (λ name. declared_type (symbol_type m name)) (firsts [] import_symbols)))

  pub defines_own : HaveSame (defined_names (items m)) (own_symbols m)
  defines_own x = (
    (λ c. swapped symbols (init_symbol_of m.name ∷ []) x (subst (λ ns. Contains ns x) defined_are c)),
    (λ c. subst (λ ns. Contains ns x) (sym defined_are) (swapped (init_symbol_of m.name ∷ []) symbols x c)),
  )

  pub declares_all : (name : Name) → Contains (declared_names (items m)) name ↔
      (Contains (own_symbols m) name ⊎ Contains import_symbols name)
  declares_all name = (
    (λ c. forth (Contains-append_cases (firsts [] import_symbols) (symbols ++ init_symbol_of m.name ∷ []) name
        (subst (λ ns. Contains ns name) declared_are c))),
    (λ c. subst (λ ns. Contains ns name) (sym declared_are) (back c)),
  )
    where
      forth : Contains (firsts [] import_symbols) name ⊎ Contains (symbols ++ init_symbol_of m.name ∷ []) name
          → Contains (own_symbols m) name ⊎ Contains import_symbols name
      forth (inl c) = inr (firsts_contained name import_symbols c)
      forth (inr c) = inl (swapped symbols (init_symbol_of m.name ∷ []) name c)

      back : Contains (own_symbols m) name ⊎ Contains import_symbols name
          → Contains (firsts [] import_symbols ++ (symbols ++ init_symbol_of m.name ∷ [])) name
      back (inl c) = Contains-append_right (firsts [] import_symbols) (symbols ++ init_symbol_of m.name ∷ []) name
          (swapped (init_symbol_of m.name ∷ []) symbols name c)
      back (inr c) = Contains-append_left (firsts [] import_symbols) (symbols ++ init_symbol_of m.name ∷ []) name
          (among_contained name (firsts [] import_symbols)
          (firsts_have name [] import_symbols (contained_among name import_symbols c) refl))

  -- ---- types of declarations

  abbrev IsTypedAs : tree.Func → Type 0
  IsTypedAs f = is_among f.name import_symbols ≡ true → symbol_type m f.name ≡ Some (func_type_of f)

  declaration_typed : (n : Name) → IsTypedAs (declared_func (n, declared_type (symbol_type m n)))
  declaration_typed n there = by (symbol_type m n) refl
      (named_behind n (exported_symbols m) (imported_symbols m)
      (named_there n (imported_symbols m) (ap (is_among n) (names_back import_symbol (import_type t) t.imports) ∙ there)))
    where
      by : (o : Option tree.FuncType) → symbol_type m n ≡ o → is_some o ≡ true
          → symbol_type m n ≡ Some (func_type_of (declared_func (n, declared_type (symbol_type m n))))
      by None e f = absurd cc
      by (Some ty) e f = e ∙ ap Some (sym (declared_typed (n, declared_type (symbol_type m n)) ∙ ap declared_type e))

  seen_typed : AllByRecursion IsTypedAs seen
  seen_typed =
      all_append IsTypedAs (map declared_func (declared_symbols m)) _
      (all_map IsTypedAs declared_func (declared_symbols m)
      (all_images (λ (s : Typed). IsTypedAs (declared_func s)) (λ name. (name, declared_type (symbol_type m name)))
      (firsts [] import_symbols) declaration_typed))
      (all_append IsTypedAs (map (export_func m) t.exports) (init_func m ∷ [])
      (all_map IsTypedAs (export_func m) t.exports
      (all_from (λ e. IsTypedAs (export_func m e)) t.exports (λ i e at there. ap (symbol_type m) (export_external m e).named
      ∙ (all_at (λ e. symbol_type m (export_symbol m e) ≡ Some (export_type t e)) t.exports i e (symbol_types m a) at
      ∙ ap Some (sym (each_shape m a i e at).1))))) (
        (λ there. absurd (let wrong : true ≡ false = sym there
            ∙ none_among (init_symbol_of m.name) import_symbols (imports_apart m a) in cc)),
        tt,
      ))

  pub types_declared : (f : tree.Func) → Contains (external_functions (items m)) f → is_among f.name import_symbols ≡ true
      → symbol_type m f.name ≡ Some (func_type_of f)
  types_declared f c = of_contained IsTypedAs seen f seen_typed (subst (λ fs. Contains fs f) seen_is c)

  -- ---- objects

  abbrev NoObject : tree.Item → Type 0
  NoObject o = object_of o ≡ None

  pointers_none : filter_map object_of (pointers m) ≡ []
  pointers_none = none_kept object_of (pointers m) (all_apply (λ o. class (name_of o) ≡ 4) NoObject (pointers m)
      (all_behind _ (globals m) (pointers m) (all_behind _ (mems m) _ (all_behind _ (tabs m) _
      (each_object m a (λ o. class (name_of o) ≡ 4 → NoObject o) pointer_hidden)))) (pointers_class m a))

  objects_seen : filter_map object_of (objects m) ≡ module_objects t
  objects_seen =
      joined object_of (tabs m) _ _ _ (vars_seen (λ (x : LimitsEntry). type.Tab) (λ (x : LimitsEntry). table_name) t.tables (λ x. refl))
      (joined object_of (mems m) _ _ _ (vars_seen (λ (x : LimitsEntry). type.Mem) (λ (x : LimitsEntry). memory_name) t.memories (λ x. refl))
      (joined object_of (globals m) _ _ [] (vars_seen (λ (g : ℕ × GlobalEntry). c_type_of g.1.ty)
      (λ (g : ℕ × GlobalEntry). global_name (imported_globals t + g.0)) (numbered t.globals) (λ g. number_seen g.1.ty _)) pointers_none
      ∙ append-nil _))
    where
      number_seen : (ty : ValType) (n : Name) → object_of (tree.Var (c_type_of ty) n None) ≡ Some (c_type_of ty, n)
      number_seen I32 n = refl
      number_seen I64 n = refl

  rest_none : filter_map object_of
      (data_of t ++ (declarations m ++ (prototypes m ++ (helpers m ++ (functions_of m ++ (exports m ++ (parts m ++ init m))))))) ≡ []
  rest_none = none_kept object_of _
      (all_append NoObject (data_of t) _ (each_data m a NoObject (λ j d at b bytes e. refl))
      (all_append NoObject (declarations m) _ (all_images NoObject declaration (declared_symbols m) (λ s. refl))
      (all_append NoObject (prototypes m) _ (all_images NoObject prototype (bodies m) (λ f. refl))
      (all_append NoObject (helpers m) _ (all_images NoObject (λ which. tree.Function (helper_of which)) (helpers_of t) (λ which. refl))
      (all_append NoObject (functions_of m) _ (all_images NoObject tree.Function (bodies m) (λ f. refl))
      (all_append NoObject (exports m) _ (all_images NoObject (λ e. tree.Function (export_func m e)) t.exports (λ e. refl))
      (all_append NoObject (parts m) (init m) (all_images NoObject (λ p. tree.Function (part_func t p)) (numbered (parts_of t)) (λ p. refl))
      (refl, tt))))))))

  objects_are : unit_objects (items m) ≡ module_objects t
  objects_are = joined object_of (objects m) _ (module_objects t) [] objects_seen rest_none ∙ append-nil (module_objects t)

  pub objects_same : HaveSame (unit_objects (items m)) (module_objects t)
  objects_same x = (λ c. subst (λ os. Contains os x) objects_are c, λ c. subst (λ os. Contains os x) (sym objects_are) c)
