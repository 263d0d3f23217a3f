-- A program that is made of another's renamed parts is renamed.
use Rattle.c_renaming.proofs.Common.{◌≡◌, ℕ, ◌+◌, Bool, true, List, [], ◌∷◌, map, is_some, slice_get, Some, None, filter, Option, flat_map}
use Rattle.c_renaming.proofs.Common.{option_map, filter_map, bytes_eq, sym, refl, ap, ◌∙◌, subst, bytes_eq-Decides, option_or, is_some_map}
use Rattle.c_renaming.proofs.Common.{or_map, if_found, numbered, Host, func_type_of, Definition, HostSymbol, Program, array_bytes, defined}
use Rattle.c_renaming.proofs.Common.{array_named, definition_at, external_func, func_named, func_type, host_symbol, host_symbols, typed}
use Rattle.c_renaming.proofs.Common.{FuncAddress, Name, UnitFunc, Elsewhere, Here, KeepsExternals, StandsFor, definer, Each, Holds, Renames}
use Rattle.c_renaming.proofs.Common.{KeptDefinition, KeptFunc, IsMadeOf, KeptItem, PlacedAt, KeepsNames, Renaming, address, arith}
use Rattle.c_tree.specs.Tree as tree
use Rattle.c_renaming.specs.Renamed as renamed
use Rattle.c_renaming.proofs.Begins.{arrays_placed, fresh_same}
use Rattle.c_renaming.proofs.Bodies.{func_type_of-func}
use Rattle.c_renaming.proofs.Definitions.{definitions_from, defined_placed, typed_placed}
use Rattle.c_renaming.proofs.Each.{each-append, or_kept}

abbrev first : {A : Type 0} → List A → Option A
first items = slice_get items 0

-- the text of a definition that stays is kept
definition_kept : (ρ : Renaming) (u : ℕ) (stays : Name → Bool) (x : Name) → stays x ≡ true → (k : ℕ) (items : List tree.Item)
    → Each (KeptItem ρ u stays) items
    → Holds (KeptDefinition ρ u) (first (filter (λ d. bytes_eq d.func.name x) (definitions_from k items)))
definition_kept ρ u stays x is k [] kept = tt
definition_kept ρ u stays x is k (tree.Array name count bytes ∷ items) kept = definition_kept ρ u stays x is (k + 1) items kept.1
definition_kept ρ u stays x is k (tree.Var ty name number ∷ items) kept = definition_kept ρ u stays x is (k + 1) items kept.1
definition_kept ρ u stays x is k (tree.Function f ∷ items) kept =
    grind (arith, definition_kept ρ u stays x is (k + 1) items kept.1, bytes_eq-Decides f.name x)

-- ---- functions of hosts

-- a host's function is where it was
abbrev IsHosts : Renaming → HostSymbol → Type 0
IsHosts ρ s = (address ρ s.address ≡ s.address) × KeptFunc ρ s.address

each-map : {A B : Type 0} (P : B → Type 0) (f : A → B) → ((a : A) → P (f a)) → (xs : List A) → Each P (map f xs)
each-map P f holds [] = tt
each-map P f holds (x ∷ xs) = (holds x, each-map P f holds xs)

each-flat : {A B : Type 0} (P : B → Type 0) (f : A → List B) → ((a : A) → Each P (f a)) → (xs : List A) → Each P (flat_map f xs)
each-flat P f holds [] = tt
each-flat P f holds (x ∷ xs) = each-append P (f x) (flat_map f xs) (holds x) (each-flat P f holds xs)

each-found : {A : Type 0} (P : A → Type 0) (t : A → Bool) (xs : List A) → Each P xs → Holds P (first (filter t xs))
each-found P t [] each = tt
each-found P t (x ∷ xs) each = grind (arith, each-found P t xs each.1)

are_hosts : (ρ : Renaming) (hosts : List Host) → Each (IsHosts ρ) (host_symbols hosts)
are_hosts ρ hosts = each-flat (IsHosts ρ) _ (λ h. each-map (IsHosts ρ) _ (λ f. (refl, tt)) (numbered h.1.functions)) (numbered hosts)

host_is : (ρ : Renaming) (p : Program) (x : Name) → Holds (IsHosts ρ) (host_symbol p x)
host_is ρ p x = each-found (IsHosts ρ) (λ s. bytes_eq s.symbol x) (host_symbols p.hosts) (are_hosts ρ p.hosts)

-- ---- what a name stands for

-- a unit's own function, else one of external linkage
abbrev own_or_external : Program → ℕ → Name → Option Definition → Option FuncAddress
own_or_external p u x d = option_or (option_map (λ d. UnitFunc u x) d) (external_func p x)

named_there : (p : Program) (u : ℕ) (x : Name) → is_some (slice_get p.units u) ≡ true
    → func_named p u x ≡ own_or_external p u x (definition_at p u x)
named_there p u x there = grind arith

defined_there : (p : Program) (u : ℕ) (x : Name) → is_some (definition_at p u x) ≡ true → is_some (slice_get p.units u) ≡ true
defined_there p u x is = grind arith

some_own : (p : Program) (u : ℕ) (x : Name) (o : Option Definition) → is_some o ≡ true → own_or_external p u x o ≡ Some (UnitFunc u x)
some_own p u x None is = cc
some_own p u x (Some d) is = refl

module _ (ρ : Renaming) (p q : Program) (names : KeepsNames ρ) (made : IsMadeOf ρ p q) where
  definitions_made : (u : ℕ) (x : Name) → ρ.defines u x ≡ true
      → definition_at q (ρ.unit u) (ρ.func u x) ≡ option_map (renamed.definition ρ u) (definition_at p u x)
  definitions_made u x is = go (slice_get p.units u) (slice_get q.units (ρ.unit u)) (made.units u)
    where
      go : (o o' : Option (List tree.Item)) → PlacedAt ρ u o o'
          → if_found o' (λ items. defined items (ρ.func u x))
          ≡ option_map (renamed.definition ρ u) (if_found o (λ items. defined items x))
      go None None placed = refl
      go None (Some new) placed = defined_placed ρ u [] new placed (made.functions u) x is
      go (Some items) None placed = absurd placed
      go (Some items) (Some new) placed = defined_placed ρ u items new placed (made.functions u) x is

  types_made : (u : ℕ) (x : Name) → ρ.defines u x ≡ true → func_type q (UnitFunc (ρ.unit u) (ρ.func u x)) ≡ func_type p (UnitFunc u x)
  types_made u x is = go (slice_get p.units u) (slice_get q.units (ρ.unit u)) (made.units u)
    where
      type_of : Definition → tree.FuncType
      type_of d = func_type_of d.func

      same_type : (o : Option Definition) → option_map type_of (option_map (renamed.definition ρ u) o) ≡ option_map type_of o
      same_type None = refl
      same_type (Some d) = ap Some (func_type_of-func ρ u d.func)

      go : (o o' : Option (List tree.Item)) → PlacedAt ρ u o o'
          → option_map type_of (if_found o' (λ items. typed items (ρ.func u x))) ≡ option_map type_of (if_found o (λ items. typed items x))
      go None None placed = refl
      go None (Some new) placed = ap (option_map type_of) (typed_placed ρ u [] new placed (made.functions u) x is)
      go (Some items) None placed = absurd placed
      go (Some items) (Some new) placed = ap (option_map type_of) (typed_placed ρ u items new placed (made.functions u) x is)
          ∙ same_type (typed items x)

  definitions_made_kept : (u : ℕ) (x : Name) → ρ.defines u x ≡ true → Holds (KeptDefinition ρ u) (definition_at p u x)
  definitions_made_kept u x is = go (slice_get p.units u) (slice_get q.units (ρ.unit u)) (made.units u)
    where
      go : (o o' : Option (List tree.Item)) → PlacedAt ρ u o o' → Holds (KeptDefinition ρ u) (if_found o (λ items. defined items x))
      go None o' placed = tt
      go (Some items) None placed = absurd placed
      go (Some items) (Some new) placed = definition_kept ρ u placed.stays x (placed.defined_stay x is) 0 items placed.kept

  arrays_made : (u : ℕ) (x : Name) → array_named q (ρ.unit u) (ρ.var u x) ≡ array_named p u x
  arrays_made u x = go (slice_get p.units u) (slice_get q.units (ρ.unit u)) (made.units u)
    where
      go : (o o' : Option (List tree.Item)) → PlacedAt ρ u o o'
          → if_found o' (λ items. first (filter_map (array_bytes (ρ.var u x)) items))
          ≡ if_found o (λ items. first (filter_map (array_bytes x) items))
      go None None placed = refl
      go None (Some new) placed = arrays_placed ρ names u x [] new placed
      go (Some items) None placed = absurd placed
      go (Some items) (Some new) placed = arrays_placed ρ names u x items new placed

  -- ---- functions

  unit_there : (u : ℕ) → is_some (slice_get p.units u) ≡ true → is_some (slice_get q.units (ρ.unit u)) ≡ true
  unit_there u is = grind (arith, made.units u)

  module _ (ext : KeepsExternals ρ p q) where
    host_same : (x : Name) → option_map (λ (s : HostSymbol). s.address) (host_symbol q x)
        ≡ option_map (address ρ) (option_map (λ (s : HostSymbol). s.address) (host_symbol p x))
    host_same x = grind (arith, ext.hosts, host_is ρ p x)

    host_kept : (x : Name) → Holds (KeptFunc ρ) (option_map (λ (s : HostSymbol). s.address) (host_symbol p x))
    host_kept x = grind (arith, host_is ρ p x)

    calls_made : (x : Name) → option_map (λ u. UnitFunc u x) (definer q x)
        ≡ option_map (address ρ) (option_map (λ u. UnitFunc u x) (definer p x))
    calls_made x = grind (arith, ext.definers x)

    calls_made_kept : (x : Name) → Holds (KeptFunc ρ) (option_map (λ u. UnitFunc u x) (definer p x))
    calls_made_kept x = grind arith

    pub external_same : (x : Name) → external_func q x ≡ option_map (address ρ) (external_func p x)
    external_same x =
        (λ i. option_or (calls_made x i) (host_same x i))
        ∙ or_map (address ρ) (option_map (λ u. UnitFunc u x) (definer p x)) (option_map (λ (s : HostSymbol). s.address) (host_symbol p x))

    pub external_kept : (x : Name) → Holds (KeptFunc ρ) (external_func p x)
    external_kept x = or_kept (KeptFunc ρ) (option_map (λ u. UnitFunc u x) (definer p x))
        (option_map (λ (s : HostSymbol). s.address) (host_symbol p x)) (calls_made_kept x) (host_kept x)

    -- a name of a function that the unit does not define
    elsewhere : (u : ℕ) (x : Name) (o : Option Definition) → (is_some o ≡ true → definer q x ≡ Some (ρ.unit u))
        → own_or_external q (ρ.unit u) x o ≡ external_func q x
    elsewhere u x None first_one = refl
    elsewhere u x (Some d) first_one = sym
        (ap (λ o. option_or (option_map (λ u. UnitFunc u x) o) (option_map (λ (s : HostSymbol). s.address) (host_symbol q x)))
        (first_one refl))

    functions_made : (u : ℕ) (x : Name) → StandsFor ρ p q u x
        → func_named q (ρ.unit u) (ρ.func u x) ≡ option_map (address ρ) (func_named p u x)
    functions_made u x (Here defines there) =
        let unit_is : is_some (slice_get p.units u) ≡ true = defined_there p u x there in
        let there' : is_some (definition_at q (ρ.unit u) (ρ.func u x)) ≡ true = ap is_some (definitions_made u x defines)
        ∙ is_some_map (renamed.definition ρ u) (definition_at p u x) ∙ there in
        named_there q (ρ.unit u) (ρ.func u x) (unit_there u unit_is)
        ∙ some_own q (ρ.unit u) (ρ.func u x) (definition_at q (ρ.unit u) (ρ.func u x)) there'
        ∙ sym (ap (option_map (address ρ)) (named_there p u x unit_is ∙ some_own p u x (definition_at p u x) there))
    functions_made u x (Elsewhere unit_is stays none first_one) =
        ap (func_named q (ρ.unit u)) stays
        ∙ named_there q (ρ.unit u) x (unit_there u unit_is)
        ∙ elsewhere u x (definition_at q (ρ.unit u) x) first_one
        ∙ external_same x
        ∙ sym (ap (option_map (address ρ)) (named_there p u x unit_is ∙ ap (own_or_external p u x) none))

    functions_made_kept : (u : ℕ) (x : Name) → StandsFor ρ p q u x → Holds (KeptFunc ρ) (func_named p u x)
    functions_made_kept u x (Here defines there) =
        let unit_is : is_some (slice_get p.units u) ≡ true = defined_there p u x there in
        subst (Holds (KeptFunc ρ)) (sym (named_there p u x unit_is ∙ some_own p u x (definition_at p u x) there)) defines
    functions_made_kept u x (Elsewhere unit_is stays none first_one) =
        subst (Holds (KeptFunc ρ)) (sym (named_there p u x unit_is ∙ ap (own_or_external p u x) none)) (external_kept x)

pub made_renames : (ρ : Renaming) (p q : Program) → KeepsNames ρ → IsMadeOf ρ p q → KeepsExternals ρ p q → Renames ρ p q
made_renames ρ p q names made ext = record {
  names = names;
  meanings = record {
    hosts = ext.hosts;
    primitives = ext.primitives;
    functions = λ u x is. functions_made ρ p q names made ext u x (ext.uses u x is);
    functions_kept = λ u x is. functions_made_kept ρ p q names made ext u x (ext.uses u x is);
    definitions = definitions_made ρ p q names made;
    definitions_kept = definitions_made_kept ρ p q names made;
    types = types_made ρ p q names made;
    arrays = arrays_made ρ p q names made;
  };
  begins = record {
    inits = ext.inits;
    inits_kept = ext.inits_kept;
    calls = λ c. calls_made ρ p q names made ext c.symbol;
    calls_kept = λ c. calls_made_kept ρ p q names made ext c.symbol;
    machines = fresh_same ρ p q names made;
  };
}
