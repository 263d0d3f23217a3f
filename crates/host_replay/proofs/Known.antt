-- What a table of symbols finds, where there is a module or a function more.
use Rattle.host_replay.proofs.Common.{◌≡◌, ℕ, Bool, true, false, List, [], ◌∷◌, ◌++◌, length, is_some, IfSome, if◌then◌else◌, Some, None}
use Rattle.host_replay.proofs.Common.{Option, bytes_eq, sym, refl, ap, ◌∙◌, subst, inl, inr, same_from_push, bytes_eq-Decides, named, Host}
use Rattle.host_replay.proofs.Common.{HostFunction, FunctionLine, Knows, IsNewIn, AddsFunction, IsOffered, named_function, symbol_at}
use Rattle.host_replay.proofs.Common.{symbol_of, with_function, Recorded}
use Rattle.std.specs.Option.{option_or}
use Rattle.w2c_base.proofs.Options.{none_is}
use Rattle.host_replay.specs.declared.place.Place.{Place}
use Rattle.host_replay.specs.declared.place.NewFunction.{NewFunction}
use Rattle.host_replay.proofs.Symbols.{function_kept, function_more, function_there, module_more}

pub module_known : (table : List (List ℕ × Place)) (hosts new : List Host) (name : List ℕ) → Knows table hosts
    → new ≡ hosts ++ record { name = name; functions = [] } ∷ [] → Knows table new
module_known table hosts new name knows is = subst (Knows table) (sym is) (record {
  found = λ q p e. module_more hosts name p.host p.function ∙ knows.found q p e;
  every = λ q h f e. knows.every q h f (sym (module_more hosts name h f) ∙ e);
})

same_place : (p : Place) (h f : ℕ) → p.host ≡ h → p.function ≡ f → p ≡ record { host = h; function = f }
same_place p h f hh hf = λ i. record { host = hh i; function = hf i }

module _ (front : List Host) (last : Host) (x : HostFunction) (table new : List (List ℕ × Place)) (place : Place)
    (knows : Knows table (front ++ last ∷ [])) (is_new : named (symbol_of last x) table ≡ None)
    (entered : (q : List ℕ) → named q new ≡ option_or (named q table) (if bytes_eq (symbol_of last x) q then Some place else None))
    (host_is : place.host ≡ length front) (function_is : place.function ≡ length last.functions) where
  abbrev s : List ℕ
  s = symbol_of last x

  there : symbol_at (front ++ with_function last x ∷ []) place.host place.function ≡ Some s
  there = (λ i. symbol_at (front ++ with_function last x ∷ []) (host_is i) (function_is i)) ∙ function_there last x front

  equal : (q : List ℕ) → bytes_eq s q ≡ true → s ≡ q
  equal q e = (bytes_eq-Decides s q).0 e

  found_in : (q : List ℕ) (p : Place) (old : Option Place) (b : Bool) → named q table ≡ old → bytes_eq s q ≡ b
      → option_or old (if b then Some place else None) ≡ Some p → symbol_at (front ++ with_function last x ∷ []) p.host p.function ≡ Some q
  found_in q p (Some o) b is test e =
      let same : o ≡ p = cc in function_kept last x front p.host p.function q (knows.found q p (is ∙ ap Some same))
  found_in q p None true is test e =
      let same : place ≡ p = cc in
      subst (λ (p : Place). symbol_at (front ++ with_function last x ∷ []) p.host p.function ≡ Some q) same (there ∙ ap Some (equal q test))
  found_in q p None false is test e = absurd cc

  every_in : (q : List ℕ) (h f : ℕ) → symbol_at (front ++ with_function last x ∷ []) h f ≡ Some q
      → named q new ≡ Some (record { host = h; function = f })
  every_in q h f e = elim (function_more last x front h f q e) [
    | inl old ↦ entered q ∙ ap (λ (o : Option Place). option_or o (if bytes_eq s q then Some place else None)) (knows.every q h f old)
    | inr it ↦
        let none : named q table ≡ None = subst (λ (q : List ℕ). named q table ≡ None) it.2 is_new in
        entered q ∙ ap (λ (o : Option Place). option_or o (if bytes_eq s q then Some place else None)) none
        ∙ ap (λ (b : Bool). if b then Some place else None) ((bytes_eq-Decides s q).1 it.2)
        ∙ ap Some (same_place place h f (host_is ∙ sym it.0) (function_is ∙ sym it.1))
  ]

  pub function_known : Knows new (front ++ with_function last x ∷ [])
  function_known = record {
    found = λ q p e. found_in q p (named q table) (bytes_eq s q) refl refl (sym (entered q) ∙ e);
    every = every_in;
  }

-- ---- a function that comes behind those of the last module

pub at_some : {A : Type 0} (P : A → Type 0) (o : Option A) (x : A) → o ≡ Some x → IfSome o P → P x
at_some P (Some y) x is h = let same : y ≡ x = cc in subst P same h
at_some P None x is h = absurd cc

module _ (before : Recorded) (f : FunctionLine) (new : NewFunction) (is : IsNewIn before.hosts f new) (table : List (List ℕ × Place))
    (knows : Knows table before.hosts) where
  symbol_there : (o : Option Place) → named new.symbol table ≡ o → is_some o ≡ true → IsOffered before.hosts new.symbol
  symbol_there None none e = absurd cc
  symbol_there (Some p) some e = (p.host, p.function, knows.found new.symbol p some)

  pub known_already : is_some (named new.symbol table) ≡ true → (after : Recorded) → AddsFunction before f after → ⊥
  known_already e after adds =
      let same : is.last ≡ adds.last = (same_from_push is.front adds.front is.last adds.last (sym is.hosts_are ∙ adds.hosts_are)).1 in
      let symbols : new.symbol ≡ symbol_of adds.last (named_function f) = is.symbol_is
      ∙ ap (λ (m : Host). symbol_of m (named_function f)) same in
      adds.is_new (subst (IsOffered before.hosts) symbols (symbol_there (named new.symbol table) refl e))

  is_unknown : is_some (named new.symbol table) ≡ false → named (symbol_of is.last (named_function f)) table ≡ None
  is_unknown e = ap (λ (q : List ℕ). named q table) (sym is.symbol_is) ∙ none_is (named new.symbol table) e

  pub added : is_some (named new.symbol table) ≡ false → before.entries ≡ [] → (after : Recorded)
      → ((front : List Host) (last : Host) → before.hosts ≡ front ++ last ∷ []
      → after ≡ record { hosts = front ++ with_function last (named_function f) ∷ []; entries = [] })
      → AddsFunction before f after
  added e none after pushed = record {
    front = is.front;
    last = is.last;
    hosts_are = is.hosts_are;
    no_entries = none;
    is_new = λ offered. (let both = sym (is_unknown e)
        ∙ knows.every (symbol_of is.last (named_function f)) offered.0 offered.1 offered.2 in cc);
    after_is = pushed is.front is.last is.hosts_are;
  }

  pub known_more : is_some (named new.symbol table) ≡ false → (after : Recorded) (entered : List (List ℕ × Place))
      → ((front : List Host) (last : Host) → before.hosts ≡ front ++ last ∷ []
      → after ≡ record { hosts = front ++ with_function last (named_function f) ∷ []; entries = [] })
      → ((q : List ℕ) → named q entered ≡ option_or (named q table) (if bytes_eq new.symbol q then Some new.place else None))
      → Knows entered after.hosts
  known_more e after entered pushed enters =
      subst (λ (j : Recorded). Knows entered j.hosts) (sym (pushed is.front is.last is.hosts_are))
      (function_known is.front is.last (named_function f) table entered new.place (subst (Knows table) is.hosts_are knows) (is_unknown e)
      (λ q. enters q ∙ ap (λ (s : List ℕ). option_or (named q table) (if bytes_eq s q then Some new.place else None)) is.symbol_is)
      is.host_is is.function_is)
