-- An import of the module behind others resolves exactly where one of these offers what it asks for.
use Rattle.wasm_set.proofs.Common.{◌≡◌, ℕ, Bool, true, List, [], ◌∷◌, map, take, Some, None, Option, sym, refl, ap, ◌∙◌, subst}
use Rattle.wasm_set.proofs.Common.{some_pair_parts, AllByRecursion, list_all, option_or, both_hold, Host, equal_type, FuncType, ValType}
use Rattle.wasm_set.proofs.Common.{type_in, Import, ImportKind, ImportFunc, ImportGlobal, ImportMemory, ImportTable, Module, External}
use Rattle.wasm_set.proofs.Common.{IsFunc, IsGlobal, IsMemory, IsTable, LinkedSet, Resolves, exported, host_offers, import_at, instances}
use Rattle.wasm_set.proofs.Common.{module_at, gives, gives_if_any, is_given, module_named, are_one_type, equal_bool, is_of_kind, offered}
use Rattle.wasm_set.proofs.Common.{named_of, Offer, Func, Global, Memory, Table, SetModule, and_from}
use Rattle.w2c_base.proofs.Types.{equal_type-eq, type_equals_itself}
use Rattle.w2c_base.proofs.Options.{or_none}
use Rattle.wasm_set.proofs.Pairs.{Together}
use Rattle.wasm_set.proofs.EqualTypes.{one_bool, same_bool, same_func_type, are_one}
use Rattle.wasm_set.proofs.Stands.{Stands, of_kind, type_at_is}
use Rattle.wasm_set.proofs.Instances.{IsInstanceOf, StandsIn, found_stands}

-- ---- by kind

offer_resolves : (s : LinkedSet) (p : ℕ) (from m : Module) → module_at s p ≡ Some m → (i : Import) (o : Offer) (x : Option External)
    → Stands s from x (Some o) → import_at s p i ≡ x → (k : ImportKind) → is_of_kind from o m k ≡ true → Resolves s p (of_kind i k)
offer_resolves s p from m is i (Func u) (Some (IsFunc f)) stands at (ImportFunc t) e =
    let h = are_one (type_in from u) (type_in m t) e in
    (f, h.0, at, type_at_is s p m is t ∙ h.2, stands ∙ h.1)
offer_resolves s p from m is i Table (Some (IsTable owner)) stands at (ImportTable limits) e = (owner, at)
offer_resolves s p from m is i Memory (Some (IsMemory owner)) stands at (ImportMemory limits) e = (owner, at)
offer_resolves s p from m is i (Global ty mutable) (Some (IsGlobal g)) stands at (ImportGlobal wanted changes) e =
    let h = both_hold (equal_type ty wanted) (equal_bool mutable changes) e in (
      g,
      at,
      stands ∙ ap (λ (t : ValType). Some (t, mutable)) (equal_type-eq ty wanted h.0)
          ∙ ap (λ (b : Bool). Some (wanted, b)) (one_bool mutable changes h.1),
    )
offer_resolves s p from m is i o x stands at k e = absurd (first_of (cc, assumption))

resolves_offer : (s : LinkedSet) (p : ℕ) (from m : Module) → module_at s p ≡ Some m → (i : Import) (o : Option Offer) (x : Option External)
    → Stands s from x o → import_at s p i ≡ x → (k : ImportKind) → Resolves s p (of_kind i k) → gives_if_any from o m (of_kind i k) ≡ true
resolves_offer s p from m is i o x stands at (ImportFunc t) r =
    by o (subst (λ (x : Option External). Stands s from x o) (sym at ∙ r.2) stands)
  where
    by : (o : Option Offer) → Stands s from (Some (IsFunc r.0)) o → gives_if_any from o m (of_kind i (ImportFunc t)) ≡ true
    by (Some (Func u)) h =
        ap (λ (a : Option FuncType). are_one_type a (type_in m t)) (sym h ∙ r.4)
        ∙ ap (are_one_type (Some r.1)) (sym (type_at_is s p m is t) ∙ r.3) ∙ same_func_type r.1
    by o h = absurd h
resolves_offer s p from m is i o x stands at (ImportTable limits) r =
    by o (subst (λ (x : Option External). Stands s from x o) (sym at ∙ r.1) stands)
  where
    by : (o : Option Offer) → Stands s from (Some (IsTable r.0)) o → gives_if_any from o m (of_kind i (ImportTable limits)) ≡ true
    by (Some Table) h = refl
    by o h = absurd h
resolves_offer s p from m is i o x stands at (ImportMemory limits) r =
    by o (subst (λ (x : Option External). Stands s from x o) (sym at ∙ r.1) stands)
  where
    by : (o : Option Offer) → Stands s from (Some (IsMemory r.0)) o → gives_if_any from o m (of_kind i (ImportMemory limits)) ≡ true
    by (Some Memory) h = refl
    by o h = absurd h
resolves_offer s p from m is i o x stands at (ImportGlobal wanted changes) r =
    by o (subst (λ (x : Option External). Stands s from x o) (sym at ∙ r.1) stands)
  where
    by : (o : Option Offer) → Stands s from (Some (IsGlobal r.0)) o
        → gives_if_any from o m (of_kind i (ImportGlobal wanted changes)) ≡ true
    by (Some (Global ty mutable)) h =
        let same = some_pair_parts ty wanted mutable changes (sym h ∙ r.2) in
        and_from _ _ (ap (λ (t : ValType). equal_type t wanted) same.0 ∙ type_equals_itself wanted)
        (ap (λ (b : Bool). equal_bool b changes) same.1 ∙ same_bool changes)
    by o h = absurd h

resolved : (s : LinkedSet) (p : ℕ) (i : Import) (k : ImportKind) → Resolves s p (of_kind i k)
    → (x : External) × (import_at s p i ≡ Some x)
resolved s p i (ImportFunc t) r = (IsFunc r.0, r.2)
resolved s p i (ImportTable limits) r = (IsTable r.0, r.1)
resolved s p i (ImportMemory limits) r = (IsMemory r.0, r.1)
resolved s p i (ImportGlobal ty mutable) r = (IsGlobal r.0, r.1)

-- ---- by the module of the name

gives_resolves : (s : LinkedSet) (p : ℕ) (m : Module) → module_at s p ≡ Some m
    → (i : Import) (from : Option SetModule) (x : Option External) → StandsIn s x from i.field
    → import_at s p i ≡ x → gives from m i ≡ true → Resolves s p i
gives_resolves s p m is i None x stands at e = absurd (cc)
gives_resolves s p m is i (Some from) x stands at e = by (offered from.«module» i.field) stands e
  where
    by : (o : Option Offer) → Stands s from.«module» x o → gives_if_any from.«module» o m i ≡ true → Resolves s p i
    by None h e = absurd (cc)
    by (Some o) h e = offer_resolves s p from.«module» m is i o x h at i.kind e

resolves_gives : (s : LinkedSet) (p : ℕ) (m : Module) → module_at s p ≡ Some m
    → (i : Import) (from : Option SetModule) (x : Option External) → StandsIn s x from i.field
    → import_at s p i ≡ x → Resolves s p i → gives from m i ≡ true
resolves_gives s p m is i None x none at r =
    let y = resolved s p i i.kind r in
    let wrong : Some y.0 ≡ None = sym y.1 ∙ at ∙ none in absurd (cc)
resolves_gives s p m is i (Some from) x stands at r =
    resolves_offer s p from.«module» m is i (offered from.«module» i.field) x stands at i.kind r

-- ---- the imports of the module behind others

-- modules of a set without hosts, which stand in front of the module with number p
pub record IsBehind (modules : List SetModule) (s : LinkedSet) (p : ℕ) (m : Module) : Type 0 where
  pub alone : s.hosts ≡ []
  pub is : module_at s p ≡ Some m
  pub stand : Together (IsInstanceOf s) (take p (instances s)) (map named_of modules)

import_is : (modules : List SetModule) (s : LinkedSet) (p : ℕ) (m : Module) → IsBehind modules s p m → (i : Import)
    → import_at s p i ≡ exported (take p (instances s)) i.«module» i.field
import_is modules s p m h i =
    let found = exported (take p (instances s)) i.«module» i.field in
    ap (λ (hosts : List Host). option_or found (host_offers hosts i.«module» i.field)) h.alone ∙ or_none found

pub given_resolve : (modules : List SetModule) (s : LinkedSet) (p : ℕ) (m : Module) → IsBehind modules s p m → (imports : List Import)
    → list_all (is_given modules m) imports ≡ true → AllByRecursion (Resolves s p) imports
given_resolve modules s p m h [] e = tt
given_resolve modules s p m h (i ∷ imports) e =
    let all = both_hold (is_given modules m i) (list_all (is_given modules m) imports) e in (
      gives_resolves s p m h.is i (module_named modules i.«module») (exported (take p (instances s)) i.«module» i.field)
          (found_stands s (take p (instances s)) modules h.stand i.«module» i.field) (import_is modules s p m h i) all.0,
      given_resolve modules s p m h imports all.1,
    )

pub resolved_are_given : (modules : List SetModule) (s : LinkedSet) (p : ℕ) (m : Module) → IsBehind modules s p m → (imports : List Import)
    → AllByRecursion (Resolves s p) imports → list_all (is_given modules m) imports ≡ true
resolved_are_given modules s p m h [] all = refl
resolved_are_given modules s p m h (i ∷ imports) all = and_from _ _
    (resolves_gives s p m h.is i (module_named modules i.«module») (exported (take p (instances s)) i.«module» i.field)
    (found_stands s (take p (instances s)) modules h.stand i.«module» i.field) (import_is modules s p m h i) all.0)
    (resolved_are_given modules s p m h imports all.1)
