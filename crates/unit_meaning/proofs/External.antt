-- What symbols reach: the one unit that defines them, or a host's function.
use Rattle.unit_meaning.proofs.Common.{None, primitive, ◌≡◌, ℕ, ◌<◌, false, ◌≢◌, List, map, is_some, slice_get, Some, All, Option, sym, ap}
use Rattle.unit_meaning.proofs.Common.{option_map, refl, ◌∙◌, arith, position_from, option_or, if_found, export_symbol_of-injective, Export}
use Rattle.unit_meaning.proofs.Common.{export_symbol_of, SymbolKind, func_type_of, External, LinkedSet, NamedModule, Definition, defined}
use Rattle.unit_meaning.proofs.Common.{defined_for_all, definition_at, external_func, func_named, func_type, UnitFunc, export_symbol, items}
use Rattle.unit_meaning.proofs.Common.{get_mapped, get_unmapped, export_func, IsAcceptedSet, program_of}
use Rattle.alike.specs.Defines.{Defines}
use Rattle.c_tree.specs.Tree as tree
use Rattle.c_meaning.specs.State.{Name}
use Rattle.c_meaning.specs.Linking.{typed}
use Rattle.unit_definition.proofs.Found.{position_at}
use Rattle.unit_definition.proofs.Defined.{FirstExport, IsDefinition, kind_of, symbol_is, export_external, export_defined}
use Rattle.unit_definition.proofs.Defined.{other_export_undefined, typed_outside, head}
use Rattle.unit_meaning.proofs.Linked.{ExportedBy, modules_differ, accepted_at}

-- ---- a symbol of an export

abbrev pub units_of : LinkedSet → List (List tree.Item)
units_of s = map items s.modules

pub unit_at : (s : LinkedSet) (u : ℕ) (m : NamedModule) → slice_get s.modules u ≡ Some m → slice_get (units_of s) u ≡ Some (items m)
unit_at s u m is = get_mapped items s.modules u m is

-- the first export with its symbol
pub first_export : (s : LinkedSet) → IsAcceptedSet s → (many : ℕ) (module_name name : List ℕ) (o : External)
    (h : ExportedBy s many module_name name o) → FirstExport h.exporter (export_symbol h.exporter h.one.one) h.one.one
first_export s accepted many module_name name o h = (
  h.one.place,
  h.one.is,
  refl,
  λ i b less is same.
      let small = (accepted_at s accepted h.owner h.exporter h.exporter_is).bytes in
      let e = export_symbol_of-injective h.exporter.name h.exporter.name (kind_of h.exporter b)
      (kind_of h.exporter h.one.one) b.name h.one.one.name small small
      (sym (symbol_is h.exporter b) ∙ same ∙ symbol_is h.exporter h.one.one) in
      h.one.before i b less is (e.2 ∙ h.one.name_is),
)

-- no unit of another module defines a symbol
pub others_undefined : (s : LinkedSet) → IsAcceptedSet s → (module_name : List ℕ) → All (λ b. b < 256) module_name
    → (kind : SymbolKind) (field : List ℕ) (i : ℕ) (unit : List tree.Item) → slice_get (units_of s) i ≡ Some unit
    → ((m : NamedModule) → slice_get s.modules i ≡ Some m → m.name ≢ module_name)
    → is_some (defined_for_all unit (export_symbol_of module_name kind field)) ≡ false
others_undefined s accepted module_name small kind field i unit is differ =
    let m = get_unmapped items s.modules i unit is in
    let none = (other_export_undefined m.0 module_name kind field (accepted_at s accepted i m.0 m.1).bytes small (differ m.0 m.1)).1 in
    ap (λ (u : List tree.Item). is_some (defined_for_all u (export_symbol_of module_name kind field))) (sym m.2) ∙ ap is_some none

-- the type of what a unit defines
pub type_found : (s : LinkedSet) (u : ℕ) (m : NamedModule) → slice_get s.modules u ≡ Some m → (name : Name) (f : tree.Func)
    (body : tree.Body) → IsDefinition (typed (items m)) name f body → func_type (program_of s) (UnitFunc u name) ≡ Some (func_type_of f)
type_found s u m is name f body d =
    ap (λ (unit : Option (List tree.Item)). option_map (λ (d : Definition). func_type_of d.func)
    (if_found unit (λ items. typed items name))) (unit_at s u m is) ∙ ap (option_map (λ (d : Definition). func_type_of d.func)) d.1

-- a function of the unit, by its name
pub defines : (s : LinkedSet) (u : ℕ) (m : NamedModule) → slice_get s.modules u ≡ Some m → (f : tree.Func) (body : tree.Body)
    → f.body ≡ Some body → IsDefinition (defined (items m)) f.name f body → IsDefinition (typed (items m)) f.name f body
    → primitive f.name ≡ None → Defines (program_of s) u f
defines s u m is f body has_body d d_typed free = record {
  item = d.0;
  body = body;
  has_body = has_body;
  defined = ap (λ (unit : Option (List tree.Item)). if_found unit (λ items. defined items f.name)) (unit_at s u m is) ∙ d.1;
  typed = type_found s u m is f.name f body d_typed;
  is_no_primitive = free;
}

pub record SymbolFound (s : LinkedSet) (owner : ℕ) (m : NamedModule) (e : Export) : Type 0 where
  pub definition : IsDefinition (definition_at (program_of s) owner) (export_symbol m e) (export_func m e) (export_external m e).body
  pub first_unit : position_from (λ unit. is_some (defined_for_all unit (export_symbol m e))) 0 (units_of s) ≡ Some owner
  pub typed : func_type (program_of s) (UnitFunc owner (export_symbol m e)) ≡ Some (func_type_of (export_func m e))

-- of the first export with its symbol
pub symbol_at : (s : LinkedSet) → IsAcceptedSet s → (v : ℕ) (n : NamedModule) → slice_get s.modules v ≡ Some n → (e : Export)
    → FirstExport n (export_symbol n e) e → SymbolFound s v n e
symbol_at s accepted v n is e first = record {
  definition = (both.0.0, ap (λ (u : Option (List tree.Item)). if_found u (λ unit. defined unit symbol)) (unit_at s v n is) ∙ both.0.1);
  first_unit = position_at (λ unit. is_some (defined_for_all unit symbol)) 0 (units_of s) v (items n) (unit_at s v n is)
      (ap is_some both.1.1) (λ i unit less at. rw (symbol_is n e) (others_undefined s accepted n.name small (kind_of n e) e.name i unit at
      (λ m m_is. modules_differ s accepted.linked i v m n m_is is (λ same. absurd (omega (arith, less, same)))))) ∙ ap Some (omega arith);
  typed = type_found s v n is symbol (export_func n e) (export_external n e).body
      (typed_outside (items n) symbol (export_func n e) (export_external n e).body both.1);
}
  where
    symbol : Name
    symbol = export_symbol n e

    small : All (λ b. b < 256) n.name
    small = (accepted_at s accepted v n is).bytes

    both : IsDefinition (defined (items n)) (export_symbol n e) (export_func n e) (export_external n e).body
        × IsDefinition (defined_for_all (items n)) (export_symbol n e) (export_func n e) (export_external n e).body
    both = export_defined n (export_symbol n e) e (ap (λ (x : Name). head x) (symbol_is n e)) first

pub symbol_found : (s : LinkedSet) → IsAcceptedSet s → (many : ℕ) (module_name name : List ℕ) (o : External)
    (h : ExportedBy s many module_name name o) → SymbolFound s h.owner h.exporter h.one.one
symbol_found s accepted many module_name name o h = symbol_at s accepted h.owner h.exporter h.exporter_is h.one.one
    (first_export s accepted many module_name name o h)

pub external_found : (s : LinkedSet) (owner : ℕ) (m : NamedModule) (e : Export) → SymbolFound s owner m e
    → external_func (program_of s) (export_symbol m e) ≡ Some (UnitFunc owner (export_symbol m e))
external_found s owner m e h = rw (h.first_unit) refl

-- what an external symbol of another module is in a unit
pub named_external : (s : LinkedSet) → IsAcceptedSet s → (u : ℕ) (m : NamedModule) → slice_get s.modules u ≡ Some m
    → (module_name : List ℕ) → All (λ b. b < 256) module_name → m.name ≢ module_name → (kind : SymbolKind) (field : List ℕ)
    → func_named (program_of s) u (export_symbol_of module_name kind field)
    ≡ external_func (program_of s) (export_symbol_of module_name kind field)
named_external s accepted u m is module_name small differ kind field =
    let none = (other_export_undefined m module_name kind field (accepted_at s accepted u m is).bytes small differ).0 in
    let name : Name = export_symbol_of module_name kind field in
    ap (λ (u' : Option (List tree.Item)). if_found u'
    (λ items. option_or (option_map (λ d. UnitFunc u name) (defined items name)) (external_func (program_of s) name))) (unit_at s u m is)
    ∙ ap (λ (o : Option Definition). option_or (option_map (λ d. UnitFunc u name) o) (external_func (program_of s) name)) none
