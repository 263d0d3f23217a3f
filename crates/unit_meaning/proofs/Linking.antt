-- The units of a linked set link: no symbol is defined twice, and each is defined with the type that it is
-- declared with.
use Rattle.w2c_base.proofs.OfEach.{all_from, all_map}
use Rattle.w2c_base.proofs.Places.{get_front}
use Rattle.w2c_mangle.specs.declared.symbol.SymbolKind.TheVariants as symbol
use Rattle.c_tree.specs.Tree as tree
use Rattle.c_meaning.proofs.Links.{program_twice, program_unresolved, refusal_stands, all_flat}
use Rattle.unit_definition.proofs.Found.{position_at, find_none, find_join}
use Rattle.unit_definition.proofs.Defined.{FirstExport, body_is, export_external, init_defined, symbol_undefined, typed_outside, kind_of}
use Rattle.unit_definition.proofs.Defined.{symbol_is}
use Rattle.c_init.proofs.NoFaults.{rows_of}
use Rattle.c_init.specs.Init.{part_func, parts_of}
use Rattle.unit_meaning.proofs.Common.{if_found, same_func_type, NotDefined, TypeDiffers, ◌≡◌, ℕ, zero, suc, ◌+◌, ◌<◌, Bool, true, false, ⊤}
use Rattle.unit_meaning.proofs.Common.{◌&&◌, ◌||◌, ◌≢◌, List, [], ◌∷◌, ◌++◌, map, length, take, is_some, if◌then◌else◌, slice_get, Some, ap}
use Rattle.unit_meaning.proofs.Common.{None, Option, find, flat_map, filter_map, bytes_eq, sym, refl, ◌∙◌, subst, arith, AllByRecursion}
use Rattle.unit_meaning.proofs.Common.{bytes_eq-Decides, cons_option, list_any, position_from, range_with_len, option_or, append_none, Host}
use Rattle.unit_meaning.proofs.Common.{all_append, all_at, numbered, export_symbol_of-injective, init_symbol_of-injective, export_symbol_of}
use Rattle.unit_meaning.proofs.Common.{init_symbol_of-not_export, init_symbol_of, type_in, Export, Import, ImportKind, ImportFunc, Module}
use Rattle.unit_meaning.proofs.Common.{ImportGlobal, ImportMemory, ImportTable, SegmentEntry, duplicate_exports, IsValid, Name, is_among}
use Rattle.unit_meaning.proofs.Common.{func_type_of, CType, External, IsFunc, IsGlobal, IsMemory, IsTable, LinkedSet, NamedModule, Program}
use Rattle.unit_meaning.proofs.Common.{zip, import_at, bytes_differ, LinkRefusal, Twice, defined_for_all, external_func, external_functions}
use Rattle.unit_meaning.proofs.Common.{func_type, host_symbol, host_symbols, FuncAddress, UnitFunc, made_static, helper_of, Typed, firsts}
use Rattle.unit_meaning.proofs.Common.{c_func_type_if, declared_symbols, export_symbol, import_symbol, import_type, symbol_type, ResolvesAs}
use Rattle.unit_meaning.proofs.Common.{same_c_func_type, get_unmapped, body_of, needs_of, export_func, data_name, init_func, bodies, items}
use Rattle.unit_meaning.proofs.Common.{All, data_of, declaration, objects_of, prototype, IsAcceptedSet, UnitsLink, program_of, right_behind}
use Rattle.unit_meaning.proofs.Linked.{modules_differ, module_is_no_host, accepted_at}
use Rattle.unit_meaning.proofs.External.{SymbolFound, units_of, unit_at, type_found, symbol_at, external_found, others_undefined}
use Rattle.unit_meaning.proofs.HostSymbols.{symbols_of, asks_for, first_is_found}
use Rattle.unit_meaning.proofs.Usable.{origin, import_kind, import_resolves, symbol_typed, type_as, type_is, type_at_is}
use Rattle.unit_meaning.proofs.Stands.{ImportStands, import_stands, func_stands}
use Rattle.unit_meaning.proofs.Accessors.{ImportGives, imports_give}
use Rattle.unit_meaning.proofs.Pointers.{target_of}
use Rattle.c_init.proofs.Small.{some_same, no_fault, all_images}

-- ---- no host and no earlier unit defines the same

none_flat : {A B : Type 0} (p : B → Bool) (f : A → List B) (xs : List A) → ((i : ℕ) (a : A) → slice_get xs i ≡ Some a → find p (f a) ≡ None)
    → find p (flat_map f xs) ≡ None
none_flat p f [] h = refl
none_flat p f (x ∷ xs) h = find_join p (f x) (flat_map f xs) ∙ ap (λ o. option_or o (find p (flat_map f xs))) (h 0 x refl)
    ∙ none_flat p f xs (λ i a. h (suc i) a)

numbered_at : {A : Type 0} (k : ℕ) (xs : List A) (i : ℕ) (a : ℕ × A) → slice_get (zip (range_with_len k (length xs)) xs) i ≡ Some a
    → (slice_get xs i ≡ Some a.1) × (a.0 ≡ k + i)
numbered_at k [] i a at = absurd (cc)
numbered_at k (x ∷ xs) zero a at =
    let same : (k, x) ≡ a = cc in
    (ap (λ (q : ℕ × _). Some q.1) same, let e : k ≡ k + 0 = omega arith in sym (ap (λ (q : ℕ × _). q.0) same) ∙ e)
numbered_at k (x ∷ xs) (suc i) a at = let h = numbered_at (k + 1) xs i a at in let e : k + 1 + i ≡ k + suc i = omega arith in (h.0, h.1 ∙ e)

-- no host has a function with this symbol
no_host_symbol : (s : LinkedSet) (name : Name) → ((h : ℕ) (host : Host) (field : Name) → slice_get s.hosts h ≡ Some host
    → export_symbol_of host.name symbol.Func field ≢ name) → host_symbol (program_of s) name ≡ None
no_host_symbol s name differ =
    first_is_found (asks_for name) (host_symbols s.hosts)
    ∙ none_flat (asks_for name) symbols_of (numbered s.hosts) (λ i h at. find_none (asks_for name) (symbols_of h) (λ j x is.
    let f = get_unmapped _ (numbered h.1.functions) j x is in
    ap (asks_for name) (sym f.2) ∙ bytes_differ (export_symbol_of h.1.name symbol.Func f.0.1.name) name
    (differ i h.1 f.0.1.name (numbered_at 0 s.hosts i h at).0)))

none_any : {A : Type 0} (p : A → Bool) (xs : List A) → ((i : ℕ) (a : A) → slice_get xs i ≡ Some a → p a ≡ false) → list_any p xs ≡ false
none_any p [] h = refl
none_any p (x ∷ xs) h = let e : p x ≡ false = h 0 x refl in rw e (none_any p xs (λ i a. h (suc i) a))

taken_at : {A : Type 0} (u : ℕ) (xs : List A) (i : ℕ) (a : A) → slice_get (take u xs) i ≡ Some a → (slice_get xs i ≡ Some a) × (i < u)
taken_at (suc u) (x ∷ xs) zero a at = (at, omega arith)
taken_at (suc u) (x ∷ xs) (suc i) a at = let h = taken_at u xs i a at in (h.0, omega (arith, h.1))
taken_at _ _ i a at = absurd (cc)

not_twice : (s : LinkedSet) (u : ℕ) (f : tree.Func) → host_symbol (program_of s) f.name ≡ None
    → list_any (λ items. is_some (defined_for_all items f.name)) (take u (units_of s)) ≡ false → program_twice (program_of s) u f ≡ []
not_twice s u f no_host no_unit = go (is_some f.body) (is_some (host_symbol (program_of s) f.name))
    (list_any (λ items. is_some (defined_for_all items f.name)) (take u (units_of s))) (ap is_some no_host) no_unit
  where
    go : (a b c : Bool) → b ≡ false → c ≡ false → (if a && (b || c) then Twice u f.name ∷ [] else []) ≡ []
    go true false false e e' = refl
    go false b c e e' = refl
    go _ _ _ e e' = absurd (cc)

resolved : (s : LinkedSet) (u : ℕ) (f : tree.Func) (a : FuncAddress) → external_func (program_of s) f.name ≡ Some a
    → func_type (program_of s) a ≡ Some (func_type_of f) → program_unresolved (program_of s) u f ≡ []
resolved s u f a found typed =
    ap (λ (o : Option tree.FuncType). elim o [
      | None ↦ NotDefined u f.name ∷ []
      | Some ty ↦ if same_func_type ty (func_type_of f) then [] else TypeDiffers u f.name ∷ []
    ]) (ap (λ (o : Option FuncAddress). if_found o (func_type (program_of s))) found ∙ typed)
    ∙ ap (λ (b : Bool). if b then [] else TypeDiffers u f.name ∷ []) (same_c_func_type (func_type_of f))

-- what is shown of each external function
abbrev Links : LinkedSet → ℕ → tree.Func → Type 0
Links s u f = (program_twice (program_of s) u f ≡ []) × (program_unresolved (program_of s) u f ≡ [])

-- ---- exports of a valid module have different names

any_is : (name : Name) (earlier : List Export) (i : ℕ) (b : Export)
    → list_any (λ (other : Export). bytes_eq other.name name) earlier ≡ false → slice_get earlier i ≡ Some b → b.name ≢ name
any_is name [] i b none at = absurd (cc)
any_is name (x ∷ earlier) i b none at = go i (bytes_eq x.name name) refl none at (λ i at none. any_is name earlier i b none at)
  where
    go : (i : ℕ) (v : Bool) → bytes_eq x.name name ≡ v → (v || list_any (λ (other : Export). bytes_eq other.name name) earlier) ≡ false
        → slice_get (x ∷ earlier) i ≡ Some b
        → ((i : ℕ) → slice_get earlier i ≡ Some b → list_any (λ (other : Export). bytes_eq other.name name) earlier ≡ false → b.name ≢ name)
        → b.name ≢ name
    go i true e none at others = absurd (cc)
    go zero false e none at others = λ same.
        let is : x ≡ b = cc in
        let equal : bytes_eq x.name name ≡ true = (bytes_eq-Decides x.name name).1 (ap (λ (y : Export). y.name) is ∙ same) in
        let wrong : true ≡ false = sym equal ∙ e in cc
    go (suc i) false e none at others = others i at none

names_apart : (earlier exports : List Export) → duplicate_exports earlier exports ≡ [] → (j : ℕ) (e : Export) → slice_get exports j ≡ Some e
    → ((i : ℕ) (b : Export) → slice_get earlier i ≡ Some b → b.name ≢ e.name)
    × ((i : ℕ) (b : Export) → i < j → slice_get exports i ≡ Some b → b.name ≢ e.name)
names_apart earlier [] none j e at = absurd (cc)
names_apart earlier (x ∷ exports) none zero e at =
    let same : x ≡ e = cc in
    let first = no_fault _ x.name_place _ (append_none _ _ none).0 in (
      λ i b there wrong. any_is x.name earlier i b first there (wrong ∙ ap (λ (y : Export). y.name) (sym same)),
      λ i b less. absurd (omega (arith, less)),
    )
names_apart earlier (x ∷ exports) none (suc j) e at =
    let h = names_apart (earlier ++ x ∷ []) exports (append_none _ _ none).1 j e at in
    (λ i b there. h.0 i b (get_front earlier (x ∷ []) i b there), before h.0 h.1)
  where
    before : ((i : ℕ) (b : Export) → slice_get (earlier ++ x ∷ []) i ≡ Some b → b.name ≢ e.name)
        → ((i : ℕ) (b : Export) → i < j → slice_get exports i ≡ Some b → b.name ≢ e.name) → (i : ℕ) (b : Export) → i < suc j
        → slice_get (x ∷ exports) i ≡ Some b → b.name ≢ e.name
    before h k zero b less there = h (length earlier) b (right_behind earlier x [] ∙ there)
    before h k (suc i) b less there = k i b (omega (arith, less)) there

first_of_exports : (m : NamedModule) → IsValid m.tree → All (λ b. b < 256) m.name → (j : ℕ) (e : Export)
    → slice_get m.tree.exports j ≡ Some e → FirstExport m (export_symbol m e) e
first_of_exports m valid small j e at = (
  j,
  at,
  refl,
  λ i b less there same.
      (names_apart [] m.tree.exports (rows_of m.tree valid.no_faults).duplicates j e at).1 i b less there
      (export_symbol_of-injective m.name m.name (kind_of m b) (kind_of m e) b.name e.name small small
      (sym (symbol_is m b) ∙ same ∙ symbol_is m e)).2,
)

-- ---- exports and the init function

host_is_small : (s : LinkedSet) → IsAcceptedSet s → (h : ℕ) (host : Host) → slice_get s.hosts h ≡ Some host → All (λ b. b < 256) host.name
host_is_small s accepted h host at = all_at (λ (h : Host). All (λ b. b < 256) h.name) s.hosts h host accepted.host_bytes at

export_links : (s : LinkedSet) → IsAcceptedSet s → (u : ℕ) (m : NamedModule) → slice_get s.modules u ≡ Some m → (j : ℕ) (e : Export)
    → slice_get m.tree.exports j ≡ Some e → Links s u (export_func m e)
export_links s accepted u m is j e at = (
  not_twice s u (export_func m e) (ap (host_symbol (program_of s)) name ∙ no_host)
      (ap (λ (n : Name). list_any (λ items. is_some (defined_for_all items n)) (take u (units_of s))) name ∙ no_unit),
  resolved s u (export_func m e) (UnitFunc u (export_symbol m e))
      (ap (external_func (program_of s)) (export_external m e).named ∙ external_found s u m e found)
      found.typed,
)
  where
    small : All (λ b. b < 256) m.name
    small = (accepted_at s accepted u m is).bytes

    name : (export_func m e).name ≡ export_symbol_of m.name (kind_of m e) e.name
    name = (export_external m e).named ∙ symbol_is m e

    no_host : host_symbol (program_of s) (export_symbol_of m.name (kind_of m e) e.name) ≡ None
    no_host = no_host_symbol s (export_symbol_of m.name (kind_of m e) e.name) (λ h host field there same.
        module_is_no_host s accepted.linked u h m host is there
        (sym (export_symbol_of-injective host.name m.name symbol.Func (kind_of m e) field e.name (host_is_small s accepted h host there)
        (accepted_at s accepted u m is).bytes same).0))

    no_unit : list_any (λ items. is_some (defined_for_all items (export_symbol_of m.name (kind_of m e) e.name)))
        (take u (units_of s)) ≡ false
    no_unit = none_any (λ items. is_some (defined_for_all items (export_symbol_of m.name (kind_of m e) e.name))) (take u (units_of s))
        (λ i unit there.
        let t = taken_at u (units_of s) i unit there in
        others_undefined s accepted m.name (accepted_at s accepted u m is).bytes (kind_of m e) e.name i unit t.0
        (λ w w_is. modules_differ s accepted.linked i u w m w_is is (λ same. absurd (omega (arith, same, t.1)))))

    found : SymbolFound s u m e
    found = symbol_at s accepted u m is e (first_of_exports m (accepted_at s accepted u m is).valid
        (accepted_at s accepted u m is).bytes j e at)

-- another unit does not define the init function's symbol
init_undefined : (s : LinkedSet) → IsAcceptedSet s → (u : ℕ) (m : NamedModule) → slice_get s.modules u ≡ Some m → (i : ℕ)
    (unit : List tree.Item) → slice_get (units_of s) i ≡ Some unit → i ≢ u → is_some (defined_for_all unit (init_symbol_of m.name)) ≡ false
init_undefined s accepted u m is i unit there other =
    let w = get_unmapped items s.modules i unit there in
    let small = (accepted_at s accepted u m is).bytes in
    let small' = (accepted_at s accepted i w.0 w.1).bytes in
    let none = (symbol_undefined w.0 (init_symbol_of m.name) refl
    (λ j e at same. init_symbol_of-not_export m.name w.0.name (kind_of w.0 e) e.name small small' (sym same ∙ symbol_is w.0 e))
    (λ same. modules_differ s accepted.linked i u w.0 m w.1 is other (init_symbol_of-injective w.0.name m.name small' small same))).1 in
    ap (λ (x : List tree.Item). is_some (defined_for_all x (init_symbol_of m.name))) (sym w.2) ∙ ap is_some none

init_links : (s : LinkedSet) → IsAcceptedSet s → (u : ℕ) (m : NamedModule) → slice_get s.modules u ≡ Some m → Links s u (init_func m)
init_links s accepted u m is =
    let small = (accepted_at s accepted u m is).bytes in
    let d = init_defined m small in
    let name : Name = init_symbol_of m.name in
    let no_host = no_host_symbol s name (λ h host field there same. init_symbol_of-not_export m.name host.name symbol.Func field small
    (host_is_small s accepted h host there) (sym same)) in
    let no_unit = none_any (λ items. is_some (defined_for_all items name)) (take u (units_of s)) (λ i unit there.
    let t = taken_at u (units_of s) i unit there in
    init_undefined s accepted u m is i unit t.0 (λ same. absurd (omega (arith, same, t.1)))) in
    let first : position_from (λ unit. is_some (defined_for_all unit name)) 0 (units_of s) ≡ Some u
    = position_at (λ unit. is_some (defined_for_all unit name)) 0 (units_of s) u (items m) (unit_at s u m is) (ap is_some d.3.1)
    (λ i unit less there. init_undefined s accepted u m is i unit there (λ same. absurd (omega (arith, less, same))))
    ∙ ap Some (omega arith) in
    let found : external_func (program_of s) name ≡ Some (UnitFunc u name) = rw first refl in
    let typed : func_type (program_of s) (UnitFunc u name) ≡ Some (func_type_of (init_func m))
    = type_found s u m is name (init_func m) d.0 (typed_outside (items m) name (init_func m) d.0 d.3) in
    (not_twice s u (init_func m) no_host no_unit, resolved s u (init_func m) (UnitFunc u name) found typed)

-- ---- declarations

pub record ImportLinked (s : LinkedSet) (m : NamedModule) (i : Import) : Type 0 where
  pub address : FuncAddress
  pub found : external_func (program_of s) (import_symbol i) ≡ Some address
  pub typed : func_type (program_of s) address ≡ Some (import_type m.tree i)

import_linked : (s : LinkedSet) → IsAcceptedSet s → (u : ℕ) (m : NamedModule) → slice_get s.modules u ≡ Some m → (k : ℕ) (i : Import)
    → slice_get m.tree.imports k ≡ Some i → ImportLinked s m i
import_linked s accepted u m is k i at = go i.kind refl (import_resolves s accepted u m is k i at)
  where
    object : (o : External) (t : _) → target_of s o ≡ Some t → import_at s u i ≡ Some o → ImportLinked s m i
    object o t target stands =
        let x : ImportGives s u m i t = imports_give s accepted u m is i o t (record { place = k; is = at; stands = stands }) target in
        record { address = x.address; found = x.outside; typed = x.typed }

    go : (q : ImportKind) → i.kind ≡ q → ResolvesAs s u i q → ImportLinked s m i
    go (ImportFunc t) kind r =
        let x : ImportStands s u i r.0 = import_stands s accepted u m is (λ v n less n_is k f at. func_stands s accepted v n n_is k f at) i
        r.0 (ap import_kind kind) (origin s accepted u m is i (IsFunc r.0) r.2) in
        let types : r.1 ≡ x.stands.ty = some_same (sym r.4 ∙ x.stands.ty_is) in
        let type_found : type_in m.tree t ≡ Some x.stands.ty = sym (type_at_is s u m is t) ∙ r.3 ∙ ap Some types in
        record {
          address = x.address;
          found = x.outside;
          typed = x.stands.c_ty_is ∙ ap Some (sym (type_is m.tree i ∙ ap (type_as m.tree) kind ∙ ap c_func_type_if type_found));
        }
    go (ImportTable l) kind r = object (IsTable r.0) _ refl r.1
    go (ImportMemory l) kind r = object (IsMemory r.0) _ refl r.1
    go (ImportGlobal ty mutable) kind r = object (IsGlobal r.0) _ refl r.1

firsts_in : (seen names : List Name) (i : ℕ) (name : Name) → slice_get (firsts seen names) i ≡ Some name
    → (k : ℕ) × (slice_get names k ≡ Some name)
firsts_in seen [] i name at = absurd (cc)
firsts_in seen (x ∷ names) i name at = go (is_among x seen) i at (λ i. firsts_in seen names i name) (λ i. firsts_in (x ∷ seen) names i name)
  where
    go : (b : Bool) (i : ℕ) → slice_get (if b then firsts seen names else x ∷ firsts (x ∷ seen) names) i ≡ Some name
        → ((i : ℕ) → slice_get (firsts seen names) i ≡ Some name → (k : ℕ) × (slice_get names k ≡ Some name))
        → ((i : ℕ) → slice_get (firsts (x ∷ seen) names) i ≡ Some name → (k : ℕ) × (slice_get names k ≡ Some name))
        → (k : ℕ) × (slice_get (x ∷ names) k ≡ Some name)
    go true i at skipped kept = let h = skipped i at in (suc h.0, h.1)
    go false zero at skipped kept = (0, at)
    go false (suc i) at skipped kept = let h = kept i at in (suc h.0, h.1)

same_types : (types : List CType) → map (λ (q : tree.Param). q.0) (map (λ (t : CType). (t, None)) types) ≡ types
same_types [] = refl
same_types (t ∷ types) = ap (λ ts. t ∷ ts) (same_types types)

abbrev declared_func : Typed → tree.Func
declared_func symbol =
    record { is_static = false; result = symbol.1.result; name = symbol.0; params = map (λ t. (t, None)) symbol.1.params; body = None }

declaration_links : (s : LinkedSet) → IsAcceptedSet s → (u : ℕ) (m : NamedModule) → slice_get s.modules u ≡ Some m → (j : ℕ) (x : Typed)
    → slice_get (declared_symbols m) j ≡ Some x → Links s u (declared_func x)
declaration_links s accepted u m is j x at =
    let name = get_unmapped _ (firsts [] (map import_symbol m.tree.imports)) j x at in
    let there = firsts_in [] (map import_symbol m.tree.imports) j name.0 name.1 in
    let i = get_unmapped import_symbol m.tree.imports there.0 name.0 there.1 in
    let linked : ImportLinked s m i.0 = import_linked s accepted u m is there.0 i.0 i.1 in
    let typed : symbol_type m name.0 ≡ Some (import_type m.tree i.0) = ap (symbol_type m) (sym i.2)
    ∙ symbol_typed s accepted u m is there.0 i.0 i.1 in
    let name_is : x.0 ≡ import_symbol i.0 = sym (ap (λ (q : Typed). q.0) name.2) ∙ sym i.2 in
    let type_is : x.1 ≡ import_type m.tree i.0 = sym (ap (λ (q : Typed). q.1) name.2) ∙ rw typed refl in (
      refl,
      resolved s u (declared_func x) linked.address (ap (external_func (program_of s)) name_is ∙ linked.found)
          (linked.typed ∙ ap Some (sym type_is ∙ sym
          (ap (λ (ts : List CType). record { params = ts; result = x.1.result }) (same_types x.1.params)))),
    )

-- ---- the external functions of a unit, section by section

abbrev external_one : tree.Item → Option tree.Func
external_one item = elim item [
  | tree.Array name count bytes ↦ None
  | tree.Var ty name number ↦ None
  | tree.Function f ↦ if f.is_static then None else Some f
]

abbrev IfAny : (tree.Func → Type 0) → Option tree.Func → Type 0
IfAny P None = ⊤
IfAny P (Some f) = P f

abbrev OfItem : (tree.Func → Type 0) → tree.Item → Type 0
OfItem P item = IfAny P (external_one item)

all_external : (P : tree.Func → Type 0) (items : List tree.Item) → AllByRecursion (OfItem P) items
    → AllByRecursion P (external_functions items)
all_external P [] h = tt
all_external P (x ∷ items) h = go (external_one x) h.0 (all_external P items h.1)
  where
    go : (o : Option tree.Func) → IfAny P o → AllByRecursion P (filter_map external_one items)
        → AllByRecursion P (cons_option o (filter_map external_one items))
    go None h others = others
    go (Some f) h others = (h, others)

all_map_at : {A B : Type 0} (P : B → Type 0) (f : A → B) (xs : List A) → ((i : ℕ) (a : A) → slice_get xs i ≡ Some a → P (f a))
    → AllByRecursion P (map f xs)
all_map_at P f xs h = all_map P f xs (all_from (λ x. P (f x)) xs h)

static_item : (P : tree.Func → Type 0) (f : tree.Func) → f.is_static ≡ true → OfItem P (tree.Function f)
static_item P f e = rw e tt

external_item : (P : tree.Func → Type 0) (f : tree.Func) → f.is_static ≡ false → P f → OfItem P (tree.Function f)
external_item P f e h = subst (λ b. IfAny P (if b then None else Some f)) (sym e) h

abbrev prototype_func : tree.Func → tree.Func
prototype_func f = record
    { is_static = f.is_static; result = f.result; name = f.name; params = map (λ (q : tree.Param). (q.0, None)) f.params; body = None }

objects_external : (P : tree.Func → Type 0) (m : Module) (pointers : List (CType × Name))
    → AllByRecursion (OfItem P) (objects_of m pointers)
objects_external P m pointers =
    all_append (OfItem P) _ _ (all_images (OfItem P) _ m.tables (λ x. tt))
    (all_append (OfItem P) _ _ (all_images (OfItem P) _ m.memories (λ x. tt))
    (all_append (OfItem P) _ _ (all_images (OfItem P) _ (numbered m.globals) (λ x. tt)) (all_images (OfItem P) _ pointers (λ x. tt))))

data_external : (P : tree.Func → Type 0) (m : Module) → AllByRecursion (OfItem P) (data_of m)
data_external P m = all_flat (OfItem P) _ (numbered m.segments) (λ d. by d.0 d.1 d.1.bytes)
  where
    by : (number : ℕ) (d : SegmentEntry) (bytes : List ℕ) → AllByRecursion (OfItem P)
        (elim bytes [ [] ↦ [] | b ∷ bytes ↦ tree.Array (data_name number) (length d.bytes) d.bytes ∷ [] ])
    by number d [] = tt
    by number d (b ∷ bytes) = (tt, tt)

body_static : (m : NamedModule) (j : ℕ) (f : tree.Func) → slice_get (bodies m) j ≡ Some f → f.is_static ≡ true
body_static m j f at =
    let b = get_unmapped (body_of m.tree m.name) _ j f at in
    ap (λ (g : tree.Func). g.is_static) (sym b.2) ∙ (body_is m.tree m.name b.0).1

unit_links : (s : LinkedSet) → IsAcceptedSet s → (u : ℕ) (m : NamedModule) → slice_get s.modules u ≡ Some m
    → AllByRecursion (Links s u) (external_functions (items m))
unit_links s accepted u m is = all_external (Links s u) (items m)
    (all_append (OfItem (Links s u)) _ _ (objects_external (Links s u) m.tree (needs_of m).pointers)
    (all_append (OfItem (Links s u)) _ _ (data_external (Links s u) m.tree)
    (all_append (OfItem (Links s u)) _ _ (all_map_at (OfItem (Links s u)) declaration (needs_of m).declared
    (λ j x at. declaration_links s accepted u m is j x at))
    (all_append (OfItem (Links s u)) _ _ (all_map_at (OfItem (Links s u)) prototype (bodies m)
    (λ j f at. static_item (Links s u) (prototype_func f) (body_static m j f at)))
    (all_append (OfItem (Links s u)) _ _ (all_map_at (OfItem (Links s u)) (λ which. tree.Function (helper_of which)) (needs_of m).helpers
    (λ j which at. static_item (Links s u) (helper_of which) (made_static which (helper_of which) refl).static))
    (all_append (OfItem (Links s u)) _ _ (all_map_at (OfItem (Links s u)) tree.Function (bodies m)
    (λ j f at. static_item (Links s u) f (body_static m j f at)))
    (all_append (OfItem (Links s u)) _ _ (all_map_at (OfItem (Links s u)) (λ e. tree.Function (export_func m e)) m.tree.exports
    (λ j e at. external_item (Links s u) (export_func m e) (export_external m e).external (export_links s accepted u m is j e at)))
    (all_append (OfItem (Links s u)) _ _ (all_map_at (OfItem (Links s u)) (λ p. tree.Function (part_func m.tree p))
    (numbered (parts_of m.tree)) (λ j p at. static_item (Links s u) (part_func m.tree p) refl)) (init_links s accepted u m is, tt)))))))))

-- ---- all units

nothing_of_each : {A B : Type 0} (P : A → Type 0) (f : A → List B) (xs : List A) → ((a : A) → P a → f a ≡ []) → AllByRecursion P xs
    → flat_map f xs ≡ []
nothing_of_each P f [] h all = refl
nothing_of_each P f (x ∷ xs) h all = ap (λ ys. ys ++ flat_map f xs) (h x all.0) ∙ nothing_of_each P f xs h all.1

nothing_of_units : {B : Type 0} (f : ℕ × List tree.Item → List B) (k : ℕ) (modules : List NamedModule)
    → ((i : ℕ) (m : NamedModule) → slice_get modules i ≡ Some m → f (k + i, items m) ≡ [])
    → flat_map f (zip (range_with_len k (length (map items modules))) (map items modules)) ≡ []
nothing_of_units f k [] h = refl
nothing_of_units f k (m ∷ modules) h =
    let here : k ≡ k + 0 = omega arith in
    let first : f (k, items m) ≡ [] = ap (λ i. f (i, items m)) here ∙ h 0 m refl in
    ap (λ ys. ys ++ flat_map f (zip (range_with_len (k + 1) (length (map items modules))) (map items modules))) first
    ∙ nothing_of_units f (k + 1) modules (λ i n is. let e : k + 1 + i ≡ k + suc i = omega arith in ap (λ j. f (j, items n)) e ∙ h
    (suc i) n is)

pub units_link : UnitsLink
units_link s accepted =
    let p : Program = program_of s in
    let no_twice = nothing_of_units (λ u. flat_map (program_twice p u.0) (external_functions u.1)) 0 s.modules (λ i m is.
    let e : i ≡ 0 + i = omega arith in
    ap (λ j. flat_map (program_twice p j) (external_functions (items m))) (sym e)
    ∙ nothing_of_each (Links s i) (program_twice p i) (external_functions (items m)) (λ f h. h.0) (unit_links s accepted i m is)) in
    let no_unresolved = nothing_of_units (λ u. flat_map (program_unresolved p u.0) (external_functions u.1)) 0 s.modules (λ i m is.
    let e : i ≡ 0 + i = omega arith in
    ap (λ j. flat_map (program_unresolved p j) (external_functions (items m))) (sym e)
    ∙ nothing_of_each (Links s i) (program_unresolved p i) (external_functions (items m)) (λ f h. h.1) (unit_links s accepted i m is)) in
    refusal_stands p ∙ ap (λ refusals. slice_get (refusals ++ flat_map (λ u. flat_map (program_unresolved p u.0) (external_functions u.1))
    (numbered p.units)) 0) no_twice ∙ ap (λ (refusals : List LinkRefusal). slice_get refusals 0) no_unresolved
