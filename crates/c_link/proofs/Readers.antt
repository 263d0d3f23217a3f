-- What the readers of linked units say, by what their table holds.
use Rattle.c_link.proofs.Common.{◌≡◌, Bool, List, map, None, Option, option_map, sym, ap, ◌∙◌, subst, if_found, named, Value, Name, unit_of}
use Rattle.c_link.proofs.Common.{Item, Program, external_func, first_refusal, fits, symbols_of, signature_of, takes_if_any, Holds, Offered}
use Rattle.c_link.proofs.Common.{c_symbols, offers, owner_of, told, unit_type_of, AllChecked, IsProgramOf, address_in, first_twice}
use Rattle.c_link.proofs.Common.{HostSymbol, Offer, Owner}
use Rattle.c_tree.specs.Tree as tree
use Rattle.c_link.proofs.Apart.{both_none, signed}
use Rattle.c_link.proofs.Programs.{fits_says, owned}

abbrev Seen : Type 0
Seen = List (List Item) × List HostSymbol

module _ (units : List (List Item)) (hosts : List HostSymbol) (table : List (Name × Offer))
    (known : Holds table (offers (map unit_of units) (c_symbols hosts)) × (first_refusal (map unit_of units) (c_symbols hosts) ≡ None)
    × AllChecked (map unit_of units))
    (now : Seen) (is : (units, hosts) ≡ now) (q : Name) where
  once : first_twice (map unit_of units) (c_symbols hosts) ≡ None
  once = (both_none _ _ known.1).0

  pub signature_is : (r : Option tree.FuncType) → r ≡ if_found (told (named q table)) unit_type_of → r ≡ signature_of
      (map unit_of now.0) q
  signature_is r e =
      e ∙ ap (λ o. if_found o unit_type_of) (known.0 q) ∙ signed (map unit_of units) (c_symbols hosts) q once
      ∙ ap (λ (seen : Seen). signature_of (map unit_of seen.0) q) is

  pub fits_is : (args : List Value) (b : Bool) → b ≡ takes_if_any (signature_of (map unit_of now.0) q) args
      → (p : Program) → p.units ≡ map unit_of now.0 → b ≡ fits p (record { symbol = q; args = args })
  fits_is args b e p same =
      e ∙ ap (λ us. takes_if_any (signature_of us q) args) (sym same) ∙ fits_says p (record { symbol = q; args = args })

  pub owner_is : (o : Option Owner) → o ≡ option_map (λ (o : Offered). o.0) (told (named q table))
      → o ≡ owner_of (map unit_of now.0) (c_symbols now.1) q
  owner_is o e = e ∙ ap (option_map (λ (o : Offered). o.0)) (known.0 q)
      ∙ ap (λ (seen : Seen). owner_of (map unit_of seen.0) (c_symbols seen.1) q) is

  pub address_is : (o : Option Owner) → o ≡ option_map (λ (o : Offered). o.0) (told (named q table)) → (p : Program)
      → IsProgramOf p (map unit_of now.0) now.1
      → if_found o (address_in p q) ≡ external_func p q
  address_is o e p there =
      let twice_now = subst (λ (seen : Seen). first_twice (map unit_of seen.0) (c_symbols seen.1) ≡ None) is once in
      let twice_there : first_twice p.units (symbols_of p.hosts)
      ≡ None = subst (λ us. first_twice us (symbols_of p.hosts) ≡ None) (sym there.units_are) (rw there.symbols_are twice_now) in
      let owner_there : owner_of (map unit_of now.0) (c_symbols now.1) q
      ≡ owner_of p.units (symbols_of p.hosts) q = ap (λ ss. owner_of (map unit_of now.0) ss q) (sym there.symbols_are)
      ∙ ap (λ us. owner_of us (symbols_of p.hosts) q) (sym there.units_are) in
      ap (λ o. if_found o (address_in p q)) (owner_is o e ∙ owner_there) ∙ owned p twice_there q
