-- What instantiation rests on of the units' functions: the init function is defined, each function index is
-- reached by its name, and each import of an object by its symbol.
use Rattle.wasm_tree.proofs.ImportCounts.{func_count}
use Rattle.wasm_meaning.specs.LinkedSet.{FuncAddress}
use Rattle.c_tree.specs.Tree as tree
use Rattle.unit_definition.proofs.Defined.{init_defined, part_body, part_defined, part_typed, typed_outside}
use Rattle.c_init.specs.Init.{Part, part_func, parts_of}
use Rattle.c_init.proofs.FewParts.{few_parts}
use Rattle.wasm_tree.specs.declared.tree.Module.{Module}
use Rattle.c_meaning.specs.Linking.{Program}
use Rattle.alike.specs.Defines.{Defines}
use Rattle.init_meaning.specs.Parts.{PartsAreDefined}
use Rattle.unit_meaning.proofs.Common.{◌≡◌, ℕ, suc, ◌+◌, ◌-◌, ◌*◌, ◌<◌, ◌≤◌, Bool, true, false, List, [], ◌∷◌, ◌++◌, map, length}
use Rattle.unit_meaning.proofs.Common.{if◌then◌else◌, slice_get, Some, None, Option, flat_map, sym, refl, ap, ◌∙◌, subst, inl, inr, arith}
use Rattle.unit_meaning.proofs.Common.{length-append, length-map, slice_get_within, range_with_len, get_within, at_index, if_found}
use Rattle.unit_meaning.proofs.Common.{init_symbol_of, func_of_import, func_space, imported_funcs, Import, ImportFunc, Name, LinkedSet}
use Rattle.unit_meaning.proofs.Common.{ModuleFunc, NamedModule, as_func, func_at, meaning_of, func_named, primitive, func_name}
use Rattle.unit_meaning.proofs.Common.{func_imports, import_symbol, is_usable, get_behind, get_mapped, get_numbered, ResolvesAs, callee}
use Rattle.unit_meaning.proofs.Common.{function_name, init_func, items, IsAcceptedSet, program_of, less_or_not}
use Rattle.unit_meaning.proofs.Instances.{placed}
use Rattle.unit_meaning.proofs.Linked.{accepted_at}
use Rattle.unit_meaning.proofs.External.{defines}
use Rattle.unit_meaning.proofs.Usable.{import_resolves}
use Rattle.unit_meaning.proofs.Funcs.{ImportedFunc, imported_func, func_space_at}
use Rattle.unit_meaning.proofs.Stands.{FuncStands, func_stands, stands_for}
use Rattle.unit_meaning.proofs.Program.{import_index, few_modules}
use Rattle.unit_meaning.proofs.Accessors.{ImportGives, imports_give}
use Rattle.unit_meaning.proofs.Known.{InitsAreDefined, PartsAreThere, FuncsAreReached, ImportsGivePointers}

pub inits_are_defined : InitsAreDefined
inits_are_defined s accepted u m is =
    let d = init_defined m (accepted_at s accepted u m is).bytes in
    defines s u m is (init_func m) d.0 d.1 d.2 (typed_outside (items m) (init_symbol_of m.name) (init_func m) d.0 d.3) refl

-- the parts of the init function, one after the other
part_is_defined : (s : LinkedSet) → IsAcceptedSet s → (u : ℕ) (m : NamedModule) → slice_get s.modules u ≡ Some m → (k : ℕ) (x : Part)
    → slice_get (parts_of m.tree) k ≡ Some x → Defines (program_of s) u (part_func m.tree (k, x))
part_is_defined s accepted u m is k x at =
    let f : tree.Func = part_func m.tree (k, x) in
    let d = part_defined m k x (few_parts m.tree (accepted_at s accepted u m is).within) at in
    defines s u m is f (part_body m x) refl d (part_typed m k f (part_body m x) d) refl

parts_from : (p : Program) (u : ℕ) (m : Module) (k : ℕ) (xs : List Part)
    → ((j : ℕ) (x : Part) → slice_get xs j ≡ Some x → Defines p u (part_func m (k + j, x))) → PartsAreDefined p u m k xs
parts_from p u m k [] h = tt
parts_from p u m k (x ∷ xs) h = (
  (let e : k + 0 ≡ k = omega arith in subst (λ n. Defines p u (part_func m (n, x))) e (h 0 x refl)),
  parts_from p u m (k + 1) xs (λ j y at.
      let e : k + suc j ≡ k + 1 + j = omega arith in subst (λ n. Defines p u (part_func m (n, y))) e (h (suc j) y at)),
)

pub parts_are_there : PartsAreThere
parts_are_there s accepted u m is = parts_from (program_of s) u m.tree 0 (parts_of m.tree) (λ j x at. let e : j ≡ 0 + j = omega arith in
    subst (λ n. Defines (program_of s) u (part_func m.tree (n, x))) e (part_is_defined s accepted u m is j x at))

pub imports_give_pointers : ImportsGivePointers
imports_give_pointers s accepted u m is k i at x object stands target =
    let g : ImportGives s u m i object = imports_give s accepted u m is i x object (record { place = k; is = at; stands = stands })
    target in
    record {
      usable = g.usable;
      is_no_primitive = g.free;
      address = g.address;
      address_is = g.address_is;
      gives = λ pending mach below there.
          let r = g.gives pending mach below there in
          (r.0, omega (arith, r.1, slice_get_within s.modules u m is, accepted.linked.at_most_16), r.2);
    }

-- ---- functions by their index

at_own : {A : Type 0} (imports : List Import) (stands : Import → Option A) (own : List (Option A)) (k j : ℕ) (x : A)
    → k ≡ length imports + j → slice_get own j ≡ Some (Some x) → at_index (map stands imports ++ own) k ≡ Some x
at_own {A} imports stands own k j x number at =
    let e : k ≡ length (map stands imports) + j = omega (arith, number, length-map imports stands) in
    ap (λ (o : Option (Option A)). if_found o (λ e. e))
    (ap (slice_get (map stands imports ++ own)) e ∙ get_behind (map stands imports) own j ∙ at)

callee_name : (m : NamedModule) (k : ℕ) (name : Name) → callee m k ≡ Some name → name ≡ function_name m.tree k
callee_name m k name is = go (slice_get (func_imports m.tree) k) is
  where
    go : (o : Option Import) → (elim o [ None ↦ Some (func_name k) | Some i ↦ if is_usable m i then Some (import_symbol i) else None ])
        ≡ Some name → name ≡ (elim o [ None ↦ func_name k | Some i ↦ import_symbol i ])
    go None e = let same : func_name k ≡ name = cc in sym same
    go (Some i) e = by (is_usable m i) e
      where
        by : (b : Bool) → (if b then Some (import_symbol i) else None) ≡ Some name → name ≡ import_symbol i
        by true e = let same : import_symbol i ≡ name = cc in sym same
        by false e = absurd (cc)

func_found_at : (s : LinkedSet) → IsAcceptedSet s → (u : ℕ) (m : NamedModule) → slice_get s.modules u ≡ Some m → (index : ℕ)
    → index < length (func_space m.tree) → (f : FuncAddress) × (func_at s u index ≡ Some f)
func_found_at s accepted u m is index within = elim (less_or_not index (imported_funcs m.tree)) [
  | inl less ↦ front less
  | inr more ↦ back more
]
  where
    front : index < imported_funcs m.tree → (f : FuncAddress) × (func_at s u index ≡ Some f)
    front less =
        let i = get_within (func_imports m.tree) index less in
        let place : ImportedFunc m.tree.imports index i.0 = imported_func m.tree.imports index i.0 i.1 in
        let r : ResolvesAs s u i.0 (ImportFunc place.ty_index) =
        subst (ResolvesAs s u i.0) place.kind_is (import_resolves s accepted u m is place.place i.0 place.is) in
        (r.0, import_index s u m is index i.0 i.1 r.0 r.2)

    back : imported_funcs m.tree ≤ index → (f : FuncAddress) × (func_at s u index ≡ Some f)
    back more =
        let h = placed s u m is in
        let j : ℕ = index - imported_funcs m.tree in
        let number : index ≡ imported_funcs m.tree + j = omega (arith, more) in
        let less : j < length m.tree.funcs = omega (
          arith,
          more,
          within,
          func_count m.tree.imports,
          length-append (flat_map func_of_import m.tree.imports) (map (λ f. f.type_index) m.tree.funcs),
          length-map m.tree.funcs (λ f. f.type_index),
        ) in
        let there = get_mapped (λ k. Some (ModuleFunc (length h.earlier) k))
        (range_with_len (imported_funcs m.tree) (length m.tree.funcs)) j (imported_funcs m.tree + j)
        (get_numbered (imported_funcs m.tree) (length m.tree.funcs) j less) in (
          ModuleFunc (length h.earlier) (imported_funcs m.tree + j),
          func_space_at s u m h index ∙ at_own (func_imports m.tree) (λ i. if_found (meaning_of s.hosts h.earlier i) as_func) _ index j
              (ModuleFunc (length h.earlier) (imported_funcs m.tree + j)) number there,
        )

pub funcs_are_reached : FuncsAreReached
funcs_are_reached s accepted u m is index within =
    let f = func_found_at s accepted u m is index within in
    let x : FuncStands s u m index f.0 = func_stands s accepted u m is index f.0 f.1 in
    let name : x.name ≡ function_name m.tree index = callee_name m index x.name x.callee_is in
    record {
      ty = x.stands.ty;
      ty_is = x.typed;
      function = f.0;
      function_is = f.1;
      typed = x.stands.ty_is;
      callable = x.callable;
      callee_is = x.callee_is ∙ ap Some name;
      is_no_primitive = ap primitive (sym name) ∙ x.free;
      address = x.address;
      address_is = ap (func_named (program_of s) u) (sym name) ∙ x.address_is;
      stands = stands_for (program_of s) s (3 * u) f.0 x.address (few_modules s accepted u m is) x.stands;
    }
