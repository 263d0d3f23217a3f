-- Linking by what names stand for: the type that is found under a symbol is that of the function that it stands for.
use Rattle.c_meaning.proofs.Common.{◌≡◌, ℕ, suc, ◌+◌, ◌<◌, ◌≤◌, Bool, true, false, cond, ◌&&◌, ◌||◌, List, [], ◌∷◌, ◌++◌, map, length, take}
use Rattle.c_meaning.proofs.Common.{is_some, if◌then◌else◌, slice_get, Some, None, filter, Option, option_map, zip, flat_map, filter_map}
use Rattle.c_meaning.proofs.Common.{bytes_eq, sym, refl, ap, ◌∙◌, subst, arith, AllByRecursion, cons_option, list_any, position_from}
use Rattle.c_meaning.proofs.Common.{range_with_len, if_found, named, numbered, Host, HostFunction, FuncType, export_symbol_of}
use Rattle.c_meaning.proofs.Common.{same_func_type, Definition, HostSymbol, LinkRefusal, NotDefined, Program, Twice, TypeDiffers}
use Rattle.c_meaning.proofs.Common.{c_func_type_of, defined, defined_for_all, external_func, external_functions, first, first_in}
use Rattle.c_meaning.proofs.Common.{first_refusal, func_type, host_symbol, host_symbols, link_refusal, symbols_of, twice, type_found, typed}
use Rattle.c_meaning.proofs.Common.{unresolved, FuncAddress, HostFunc, Name, UnitFunc}
use Rattle.std.specs.Option.{option_or}
use Rattle.w2c_mangle.specs.declared.symbol.SymbolKind.TheVariants as symbol
use Rattle.c_tree.specs.Tree as tree
use Rattle.c_tree.specs.Scope.{func_type_of}
use Rattle.w2c_base.proofs.OfEach.{all_append}
use Rattle.w2c_base.proofs.Options.{is_some_map, or_none}

-- ---- of options

-- ---- the symbols of hosts

abbrev under : Name → HostSymbol → Bool
under q s = bytes_eq s.symbol q

abbrev pub symbol_pair : HostSymbol → Name × tree.FuncType
symbol_pair s = (s.symbol, s.ty)

abbrev type_of_symbol : HostSymbol → tree.FuncType
type_of_symbol s = s.ty

host_says : (q : Name) (hs : List HostSymbol)
    → named q (map symbol_pair hs) ≡ option_map type_of_symbol (slice_get (filter (under q) hs) 0)
host_says q [] = refl
host_says q (s ∷ hs) = go (bytes_eq s.symbol q) (host_says q hs)
  where
    go : (b : Bool) → named q (map symbol_pair hs) ≡ option_map type_of_symbol (slice_get (filter (under q) hs) 0)
        → (if b then Some s.ty else named q (map symbol_pair hs))
        ≡ option_map type_of_symbol (slice_get (if b then s ∷ filter (under q) hs else filter (under q) hs) 0)
    go true e = refl
    go false e = e

-- a unit defines the symbol for others
abbrev pub defines_it : Name → List tree.Item → Bool
defines_it q items = is_some (defined_for_all items q)

abbrev type_of_definition : Definition → tree.FuncType
type_of_definition d = func_type_of d.func

-- the definitions of a symbol, unit by unit, and the type of the first
abbrev found_in : Name → List (List tree.Item) → List Definition
found_in q units = filter_map (λ items. defined_for_all items q) units

abbrev units_type : List (List tree.Item) → Name → Option tree.FuncType
units_type units q = option_map type_of_definition (first (found_in q units))

module _ (p : Program) where
  -- each symbol has the type of the function that it stands for
  abbrev pub HasItsType : HostSymbol → Type 0
  HasItsType s = func_type p s.address ≡ Some s.ty

  abbrev AllTyped : List HostSymbol → Type 0
  AllTyped [] = Unit {0}
  AllTyped (s ∷ hs) = HasItsType s × AllTyped hs

  typed_append : (xs ys : List HostSymbol) → AllTyped xs → AllTyped ys → AllTyped (xs ++ ys)
  typed_append [] ys a b = b
  typed_append (x ∷ xs) ys a b = (a.0, typed_append xs ys a.1 b)

  abbrev symbol_at : ℕ × Host → ℕ × HostFunction → HostSymbol
  symbol_at h f = record {
    symbol = export_symbol_of h.1.name symbol.Func f.1.name;
    address = HostFunc h.0 f.0;
    ty = c_func_type_of f.1.ty;
  }

  functions_typed : (h : ℕ) (host : Host) → slice_get p.hosts h ≡ Some host → (k : ℕ) (fs : List HostFunction)
      → ((i : ℕ) → slice_get fs i ≡ slice_get host.functions (k + i))
      → AllTyped (map (symbol_at (h, host)) (zip (range_with_len k (length fs)) fs))
  functions_typed h host at k [] front = tt
  functions_typed h host at k (f ∷ fs) front =
      let here : k + 0 ≡ k = omega arith in
      let behind : (i : ℕ) → k + suc i ≡ (k + 1) + i = λ i. omega arith in (
        ap (λ (o : Option Host). option_map c_func_type_of (if_found o (λ host. its_type (slice_get host.functions k)))) at
            ∙ ap (λ o. option_map c_func_type_of (its_type o)) (sym (front 0 ∙ ap (slice_get host.functions) here)),
        functions_typed h host at (k + 1) fs (λ i. front (suc i) ∙ ap (slice_get host.functions) (behind i)),
      )
    where
      its_type : Option HostFunction → Option FuncType
      its_type o = option_map (λ (f : HostFunction). f.ty) o

  hosts_typed : (k : ℕ) (hosts : List Host) → ((i : ℕ) → slice_get hosts i ≡ slice_get p.hosts (k + i))
      → AllTyped (flat_map (λ h. map (symbol_at h) (numbered h.1.functions)) (zip (range_with_len k (length hosts)) hosts))
  hosts_typed k [] front = tt
  hosts_typed k (host ∷ hosts) front =
      let here : k + 0 ≡ k = omega arith in
      let behind : (i : ℕ) → k + suc i ≡ (k + 1) + i = λ i. omega arith in
      let first : (i : ℕ) → i ≡ 0 + i = λ i. omega arith in
      typed_append (map (symbol_at (k, host)) (numbered host.functions)) _
      (functions_typed k host (sym (front 0 ∙ ap (slice_get p.hosts) here)) 0 host.functions
      (λ i. ap (slice_get host.functions) (first i)))
      (hosts_typed (k + 1) hosts (λ i. front (suc i) ∙ ap (slice_get p.hosts) (behind i)))

  first_typed : (q : Name) (hs : List HostSymbol) (s : HostSymbol) → AllTyped hs
      → slice_get (filter (under q) hs) 0 ≡ Some s → HasItsType s
  first_typed q [] s all e = cc
  first_typed q (x ∷ hs) s all e = go (bytes_eq x.symbol q) (first_typed q hs s all.1) e
    where
      go : (b : Bool) → (slice_get (filter (under q) hs) 0 ≡ Some s → HasItsType s)
          → slice_get (if b then x ∷ filter (under q) hs else filter (under q) hs) 0 ≡ Some s → HasItsType s
      go true behind h = let same : x ≡ s = cc in subst HasItsType same all.0
      go false behind h = behind h

  host_typed : (q : Name) (s : HostSymbol) → host_symbol p q ≡ Some s → HasItsType s
  host_typed q s e =
      let first : (i : ℕ) → i ≡ 0 + i = λ i. omega arith in
      first_typed q (host_symbols p.hosts) s (hosts_typed 0 p.hosts (λ i. ap (slice_get p.hosts) (first i))) e

  abbrev host_func : Name → Option FuncAddress
  host_func q = option_map (λ (s : HostSymbol). s.address) (host_symbol p q)

  host_found : (q : Name) → named q (symbols_of p.hosts) ≡ if_found (host_func q) (func_type p)
  host_found q = host_says q (host_symbols p.hosts) ∙ go (host_symbol p q) refl
    where
      go : (o : Option HostSymbol) → host_symbol p q ≡ o
          → option_map type_of_symbol o ≡ if_found (option_map (λ (s : HostSymbol). s.address) o) (func_type p)
      go None e = refl
      go (Some s) e = sym (host_typed q s e)

  -- ---- what units define

  module _ (q : Name) (symbols : List (Name × tree.FuncType)) (host : Option FuncAddress)
      (is_host : named q symbols ≡ if_found host (func_type p)) where
    units_found : (k : ℕ) (us : List (List tree.Item)) → ((i : ℕ) → slice_get us i ≡ slice_get p.units (k + i))
        → type_found us symbols q
        ≡ if_found (option_or (option_map (λ u. UnitFunc u q) (position_from (defines_it q) k us)) host) (func_type p)
    units_found k [] front = is_host
    units_found k (items ∷ us) front =
        let here : k + 0 ≡ k = omega arith in
        let behind : (i : ℕ) → k + suc i ≡ (k + 1) + i = λ i. omega arith in
        go (defined_for_all items q) refl (sym (front 0 ∙ ap (slice_get p.units) here))
        (units_found (k + 1) us (λ i. front (suc i) ∙ ap (slice_get p.units) (behind i)))
      where
        later : Option ℕ
        later = position_from (defines_it q) (k + 1) us

        the_type : Option Definition → Option tree.FuncType
        the_type o = option_map type_of_definition o

        go : (d : Option Definition) → defined_for_all items q ≡ d → slice_get p.units k ≡ Some items
            → type_found us symbols q ≡ if_found (option_or (option_map (λ u. UnitFunc u q) later) host) (func_type p)
            → option_or (the_type (first (cons_option d (found_in q us)))) (named q symbols)
            ≡ if_found (option_or (option_map (λ u. UnitFunc u q) (cond (is_some d) (Some k) later)) host) (func_type p)
        go None is at e = e
        go (Some d) is at e =
            sym (ap (λ (o : Option (List tree.Item)). the_type (if_found o (λ items. typed items q))) at
            ∙ ap (λ o. the_type (option_or o (defined items q))) is)

    all_found : type_found p.units symbols q
        ≡ if_found (option_or (option_map (λ u. UnitFunc u q) (position_from (defines_it q) 0 p.units)) host) (func_type p)
    all_found =
        let first : (i : ℕ) → i ≡ 0 + i = λ i. omega arith in
        units_found 0 p.units (λ i. ap (slice_get p.units) (first i))

  -- the type with which units define a symbol is that of the function that they define
  pub signature_stands : (q : Name)
      → units_type p.units q ≡ if_found (option_map (λ u. UnitFunc u q) (position_from (defines_it q) 0 p.units)) (func_type p)
  signature_stands q =
      sym (or_none (units_type p.units q)) ∙ all_found q [] None refl
      ∙ ap (λ o. if_found o (func_type p)) (or_none (option_map (λ u. UnitFunc u q) (position_from (defines_it q) 0 p.units)))

  -- what is found under a symbol is the type of what it stands for
  pub type_stands : (q : Name) → type_found p.units (symbols_of p.hosts) q ≡ if_found (external_func p q) (func_type p)
  type_stands q = all_found q (symbols_of p.hosts) (host_func q) (host_found q)

  -- in front of a unit something is found where a host or an earlier unit defines the symbol
  pub found_some : (us : List (List tree.Item)) (q : Name)
      → is_some (type_found us (symbols_of p.hosts) q) ≡ (is_some (host_symbol p q) || list_any (defines_it q) us)
  found_some [] q =
      ap is_some (host_says q (host_symbols p.hosts)) ∙ is_some_map type_of_symbol (host_symbol p q)
      ∙ nothing_more (is_some (host_symbol p q))
    where
      nothing_more : (b : Bool) → b ≡ (b || false)
      nothing_more true = refl
      nothing_more false = refl
  found_some (items ∷ us) q = go (defined_for_all items q) (found_some us q)
    where
      the_type : Option Definition → Option tree.FuncType
      the_type o = option_map type_of_definition o

      either : (b c : Bool) → true ≡ (b || (true || c))
      either true c = refl
      either false c = refl

      go : (d : Option Definition)
          → is_some (type_found us (symbols_of p.hosts) q) ≡ (is_some (host_symbol p q) || list_any (defines_it q) us)
          → is_some (option_or (the_type (first (cons_option d (found_in q us)))) (named q (symbols_of p.hosts)))
          ≡ (is_some (host_symbol p q) || (is_some d || list_any (defines_it q) us))
      go None e = e
      go (Some d) e = either (is_some (host_symbol p q)) (list_any (defines_it q) us)

  -- ---- the first refusal

  -- a definition of what a host or an earlier unit defines
  abbrev pub program_twice : ℕ → tree.Func → List LinkRefusal
  program_twice u f =
      if is_some f.body
      && (is_some (host_symbol p f.name)
      || list_any (λ items. is_some (defined_for_all items f.name)) (take u p.units))
      then Twice u f.name ∷ []
      else []

  -- a declaration of what stands for nothing, or for a function of another type
  abbrev pub program_unresolved : ℕ → tree.Func → List LinkRefusal
  program_unresolved u f = elim (if_found (external_func p f.name) (func_type p)) [
    | None ↦ NotDefined u f.name ∷ []
    | Some ty ↦ if same_func_type ty (func_type_of f) then [] else TypeDiffers u f.name ∷ []
  ]

  abbrev pub all_twice : List LinkRefusal
  all_twice = flat_map (λ (u : ℕ × List tree.Item). flat_map (program_twice u.0) (external_functions u.1)) (numbered p.units)

  abbrev pub all_unresolved : List LinkRefusal
  all_unresolved = flat_map (λ (u : ℕ × List tree.Item). flat_map (program_unresolved u.0) (external_functions u.1)) (numbered p.units)

  twice_says : (u : ℕ) (f : tree.Func) → twice (type_found (take u p.units) (symbols_of p.hosts)) u f ≡ program_twice u f
  twice_says u f = ap (λ b. if is_some f.body && b then Twice u f.name ∷ [] else []) (found_some (take u p.units) f.name)

  first-append : {A : Type 0} (xs ys : List A) → option_or (first xs) (first ys) ≡ first (xs ++ ys)
  first-append [] ys = refl
  first-append (x ∷ xs) ys = refl

  -- by what names stand for
  pub refusal_stands : link_refusal p ≡ first (all_twice ++ all_unresolved)
  refusal_stands =
      (λ i. option_or (first_in (λ u f. twice_says u f i) p.units) (first_in (unresolved (λ q. type_stands q i)) p.units))
      ∙ first-append all_twice all_unresolved

-- ---- the unit of a refusal

abbrev pub unit_named : LinkRefusal → ℕ
unit_named (NotDefined unit symbol) = unit
unit_named (Twice unit symbol) = unit
unit_named (TypeDiffers unit symbol) = unit

abbrev IsBelow : ℕ → LinkRefusal → Type 0
IsBelow n r = unit_named r < n

pub all_flat : {A B : Type 0} (P : B → Type 0) (f : A → List B) (xs : List A) → ((x : A) → AllByRecursion P (f x))
    → AllByRecursion P (flat_map f xs)
all_flat P f [] each = tt
all_flat P f (x ∷ xs) each = all_append P (f x) (flat_map f xs) (each x) (all_flat P f xs each)

first_of_all : {A : Type 0} (P : A → Type 0) (xs : List A) (x : A) → AllByRecursion P xs → first xs ≡ Some x → P x
first_of_all P [] x all e = absurd cc
first_of_all P (y ∷ xs) x all e = let same : y ≡ x = cc in subst P same all.0

module _ (f : ℕ × List tree.Item → tree.Func → List LinkRefusal)
    (each : (u : ℕ × List tree.Item) (g : tree.Func) (n : ℕ) → u.0 < n → AllByRecursion (IsBelow n) (f u g)) where
  units_below : (n k : ℕ) (units : List (List tree.Item)) → k + length units ≤ n
      → AllByRecursion (IsBelow n) (flat_map (λ u. flat_map (f u) (external_functions u.1)) (zip (range_with_len k (length units)) units))
  units_below n k [] most = tt
  units_below n k (items ∷ units) most =
      all_append (IsBelow n) (flat_map (f (k, items)) (external_functions items)) _
      (all_flat (IsBelow n) (f (k, items)) (external_functions items) (λ g. each (k, items) g n (omega (arith, most))))
      (units_below n (k + 1) units (omega (arith, most)))

module _ (n : ℕ) (found : Name → Option tree.FuncType) (u : ℕ) (f : tree.Func) (less : u < n) where
  twice_below : AllByRecursion (IsBelow n) (twice found u f)
  twice_below = go (is_some f.body && is_some (found f.name))
    where
      go : (b : Bool) → AllByRecursion (IsBelow n) (if b then Twice u f.name ∷ [] else [])
      go true = (less, tt)
      go false = tt

  unresolved_below : AllByRecursion (IsBelow n) (unresolved found u f)
  unresolved_below = by_type (found f.name)
    where
      go : (b : Bool) → AllByRecursion (IsBelow n) (if b then [] else TypeDiffers u f.name ∷ [])
      go true = tt
      go false = (less, tt)

      by_type : (o : Option tree.FuncType) → AllByRecursion (IsBelow n) (elim o [
        | None ↦ NotDefined u f.name ∷ []
        | Some ty ↦ if same_func_type ty (func_type_of f) then [] else TypeDiffers u f.name ∷ []
      ])
      by_type None = (less, tt)
      by_type (Some ty) = go (same_func_type ty (func_type_of f))

either_first : {A : Type 0} (P : A → Type 0) (a b : Option A) (x : A) → (a ≡ Some x → P x) → (b ≡ Some x → P x) → option_or a b ≡ Some x
    → P x
either_first P None b x first second e = second e
either_first P (Some y) b x first second e = first e

-- a refusal is of one of the units
pub refusal_within : (units : List (List tree.Item)) (symbols : List (Name × tree.FuncType)) (r : LinkRefusal)
    → first_refusal units symbols ≡ Some r
    → unit_named r < length units
refusal_within units symbols r =
    let n = length units in
    let most : 0 + length units ≤ length units = omega arith in
    either_first (IsBelow n) (first_in (λ u. twice (type_found (take u units) symbols) u) units)
    (first_in (unresolved (type_found units symbols)) units) r
    (first_of_all (IsBelow n) _ r (units_below (λ u. twice (type_found (take u.0 units) symbols) u.0)
    (λ u g m. twice_below m (type_found (take u.0 units) symbols) u.0 g) n 0 units most))
    (first_of_all (IsBelow n) _ r (units_below (λ u. unresolved (type_found units symbols) u.0)
    (λ u g m. unresolved_below m (type_found units symbols) u.0 g) n 0 units most))
