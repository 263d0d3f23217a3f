-- Units that link with hosts, and what each name of a unit stands for (C11, 6.2.2 linkages of
-- identifiers, 6.2.7 compatible type, 6.9 external definitions).
use Rattle.std.specs.Prelude.{ℕ, ◌+◌, ◌-◌, ◌*◌, ◌==◌, ◌&&◌, not, nat_lt, nat_le, Bool, false, if◌then◌else◌, List, [], ◌∷◌, length, map}
use Rattle.std.specs.Prelude.{filter, flat_map, filter_map, take, drop, bytes_eq, slice_get, is_some, Option, Some, None, option_map}
use Rattle.std.specs.List.{list_all, list_any, position_from}
use Rattle.std.specs.Option.{option_or}
use Rattle.w2c_base.specs.declared.value.Value.{Value}
use Rattle.w2c_base.specs.declared.signature.FuncType.{FuncType}
use Rattle.w2c_base.specs.Values.{is_number, types_of}
use Rattle.w2c_base.specs.Lookup.{if_found, named, numbered}
use Rattle.w2c_base.specs.Run.{Host}
use Rattle.w2c_mangle.specs.declared.symbol.SymbolKind.TheVariants as symbol
use Rattle.w2c_mangle.specs.Symbols.{export_symbol_of, init_symbol_of}
use Rattle.c_tree.specs.declared.tree.CType.TheVariants.{Void, U32, U64}
use Rattle.c_tree.specs.Tree as tree
use Rattle.c_tree.specs.Runtime.{same_type, same_types, same_func_type}
use Rattle.c_tree.specs.Scope.{func_type_of}
use Rattle.c_tree.specs.TypesInC.{c_params_of, c_func_type_of}
use Rattle.c_meaning.specs.State.{Name, FuncAddress, UnitFunc, HostFunc}

-- units in order, and the hosts that they are linked with
pub record Program : Type 0 where
  pub units : List (List tree.Item)
  pub hosts : List Host

-- the definition of a function: its item's number in the unit, the function, and its body
pub record Definition : Type 0 where
  pub item : ℕ
  pub func : tree.Func
  pub body : tree.Body

abbrev pub definition_of : ℕ × tree.Item → Option Definition
definition_of entry = elim entry.1 [
  | tree.Array name count bytes ↦ None
  | tree.Var ty name number ↦ None
  | tree.Function f ↦ option_map (λ body. record { item = entry.0; func = f; body = body }) f.body
]

-- a unit's definitions in their order
abbrev pub definitions : List tree.Item → List Definition
definitions items = filter_map definition_of (numbered items)

abbrev pub is_external : Definition → Bool
is_external d = not d.func.is_static

abbrev pub first : {A : Type 0} → List A → Option A
first items = slice_get items 0

-- the definition of a name in a unit, and of a name that other units see
abbrev pub defined : List tree.Item → Name → Option Definition
defined items name = first (filter (λ d. bytes_eq d.func.name name) (definitions items))

abbrev pub defined_for_all : List tree.Item → Name → Option Definition
defined_for_all items name = first (filter (λ d. is_external d && bytes_eq d.func.name name) (definitions items))

-- a host's function: its symbol and its type
pub record HostSymbol : Type 0 where
  pub symbol : Name
  pub address : FuncAddress
  pub ty : tree.FuncType

abbrev pub host_symbols : List Host → List HostSymbol
host_symbols hosts = flat_map (λ h. map (λ f. record {
  symbol = export_symbol_of h.1.name symbol.Func f.1.name;
  address = HostFunc h.0 f.0;
  ty = c_func_type_of f.1.ty;
}) (numbered h.1.functions)) (numbered hosts)

abbrev pub host_symbol : Program → Name → Option HostSymbol
host_symbol p name = first (filter (λ s. bytes_eq s.symbol name) (host_symbols p.hosts))

-- the function of external linkage with this name: a unit's, else a host's
abbrev pub external_func : Program → Name → Option FuncAddress
external_func p name =
    option_or
    (option_map (λ u. UnitFunc u name) (position_from (λ items. is_some (defined_for_all items name)) 0 p.units))
    (option_map (λ s. s.address) (host_symbol p name))

-- the function that a name stands for in the unit with number u
abbrev pub func_named : Program → ℕ → Name → Option FuncAddress
func_named p u name =
    if_found (slice_get p.units u) (λ items.
    option_or (option_map (λ d. UnitFunc u name) (defined items name)) (external_func p name))

-- the bytes of the constant array that a name stands for
abbrev pub array_bytes : Name → tree.Item → Option (List ℕ)
array_bytes name (tree.Array x count bytes) = if bytes_eq x name then Some bytes else None
array_bytes name (tree.Var ty x number) = None
array_bytes name (tree.Function f) = None

abbrev pub array_named : Program → ℕ → Name → Option (List ℕ)
array_named p u name = if_found (slice_get p.units u) (λ items. first (filter_map (array_bytes name) items))

abbrev pub definition_at : Program → ℕ → Name → Option Definition
definition_at p u name = if_found (slice_get p.units u) (λ items. defined items name)

-- types: of a name that a unit defines for others the type is that of this definition
abbrev pub host_type : Program → ℕ → ℕ → Option FuncType
host_type p h f = if_found (slice_get p.hosts h) (λ host. option_map (λ function. function.ty) (slice_get host.functions f))

abbrev pub typed : List tree.Item → Name → Option Definition
typed items name = option_or (defined_for_all items name) (defined items name)

abbrev pub func_type : Program → FuncAddress → Option tree.FuncType
func_type p (UnitFunc u name) = option_map (λ d. func_type_of d.func) (if_found (slice_get p.units u) (λ items. typed items name))
func_type p (HostFunc h f) = option_map c_func_type_of (host_type p h f)

-- why units do not link, with the unit's number and the symbol
pub data LinkRefusal : Type 0 where
  NotDefined Twice TypeDiffers : (unit : ℕ) → (symbol : Name) → LinkRefusal

-- declarations and definitions of external linkage
abbrev pub external_functions : List tree.Item → List tree.Func
external_functions items = filter_map (λ item. elim item [
  | tree.Array name count bytes ↦ None
  | tree.Var ty name number ↦ None
  | tree.Function f ↦ if f.is_static then None else Some f
]) items

-- the symbols that hosts define, with their types
abbrev pub symbols_of : List Host → List (Name × tree.FuncType)
symbols_of hosts = map (λ s. (s.symbol, s.ty)) (host_symbols hosts)

-- the type with which a symbol is defined: by the first unit that defines it, else by a host
abbrev pub type_found : List (List tree.Item) → List (Name × tree.FuncType) → Name → Option tree.FuncType
type_found units symbols name =
    option_or (option_map (λ d. func_type_of d.func) (first (filter_map (λ items. defined_for_all items name) units))) (named name symbols)

-- a definition of a symbol that is found
abbrev pub twice : (Name → Option tree.FuncType) → ℕ → tree.Func → List LinkRefusal
twice found u f = if is_some f.body && is_some (found f.name) then Twice u f.name ∷ [] else []

-- a declaration of a symbol that is not found, or that is found with another type
abbrev pub unresolved : (Name → Option tree.FuncType) → ℕ → tree.Func → List LinkRefusal
unresolved found u f = elim (found f.name) [
  | None ↦ NotDefined u f.name ∷ []
  | Some ty ↦ if same_func_type ty (func_type_of f) then [] else TypeDiffers u f.name ∷ []
]

-- the first refusal of a declaration, unit by unit
abbrev pub first_in : (ℕ → tree.Func → List LinkRefusal) → List (List tree.Item) → Option LinkRefusal
first_in refusals units = first (flat_map (λ u. flat_map (refusals u.0) (external_functions u.1)) (numbered units))

-- The first refusal of units that are linked with these symbols. An external definition stands once (6.9): what a host or an earlier
-- unit defines is refused before all else. Each declaration has the type of the definition (6.2.7).
abbrev pub first_refusal : List (List tree.Item) → List (Name × tree.FuncType) → Option LinkRefusal
first_refusal units symbols =
    option_or (first_in (λ u. twice (type_found (take u units) symbols) u) units) (first_in (unresolved (type_found units symbols)) units)

-- of a program
abbrev pub link_refusal : Program → Option LinkRefusal
link_refusal p = first_refusal p.units (symbols_of p.hosts)

-- the name whose escape a text is, where it is one: Z and two hexadecimal digits are a byte
abbrev pub hexadecimal_value : ℕ → ℕ
hexadecimal_value c = if nat_lt c 65 then c - 48 else c - 55

abbrev pub unescaped : List ℕ → List ℕ
unescaped [] = []
unescaped (b ∷ []) = b ∷ []
unescaped (b ∷ c ∷ []) = b ∷ c ∷ []
unescaped (b ∷ c ∷ d ∷ text) =
    if b == 90 then (16 * hexadecimal_value c + hexadecimal_value d) ∷ unescaped text
    else b ∷ unescaped (c ∷ d ∷ text)

-- a module's name: 1 to 1,024 bytes
abbrev pub is_module_name : List ℕ → Bool
is_module_name name = nat_le 1 (length name) && nat_le (length name) 1024 && list_all (λ b. nat_lt b 256) name

-- the symbol is that of the init function of some module, whose name stands between 5 bytes and 3
abbrev pub is_init_symbol : Name → Bool
is_init_symbol symbol =
    let name : List ℕ = unescaped (take (length symbol - 8) (drop 5 symbol)) in
    bytes_eq symbol (init_symbol_of name) && is_module_name name

-- functions that are run first: those of init symbols, of type void without parameters
abbrev pub is_init : Definition → Bool
is_init d = is_external d && is_init_symbol d.func.name
    && same_func_type (func_type_of d.func) (record { params = Void ∷ []; result = Void })

abbrev pub init_functions : Program → List FuncAddress
init_functions p = flat_map (λ u. map (λ d. UnitFunc u.0 d.func.name) (filter is_init (definitions u.1))) (numbered p.units)

-- a call of a function of external linkage that a unit defines
pub record SymbolCall : Type 0 where
  pub symbol : Name
  pub args : List Value

abbrev pub called_func : Program → SymbolCall → Option FuncAddress
called_func p c = option_map (λ u. UnitFunc u c.symbol) (position_from (λ items. is_some (defined_for_all items c.symbol)) 0 p.units)

-- its result is void, u32 or u64, and its parameters have the types of the arguments, which are numbers
-- of their types
abbrev pub fits : Program → SymbolCall → Bool
fits p c = elim (if_found (called_func p c) (func_type p)) [
  | None ↦ false
  | Some ty ↦ same_types ty.params (c_params_of (types_of c.args))
      && list_any (same_type ty.result) (Void ∷ U32 ∷ U64 ∷ [])
      && list_all is_number c.args
]
