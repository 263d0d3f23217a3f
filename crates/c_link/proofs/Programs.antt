-- What linked units and hosts define is what symbols stand for in the meaning of C.
use Rattle.c_link.proofs.Common.{◌≡◌, ℕ, suc, ◌+◌, Bool, true, false, cond, List, [], ◌∷◌, map, length, is_some, if◌then◌else◌, slice_get}
use Rattle.c_link.proofs.Common.{Some, None, filter, Option, option_map, zip, flat_map, bytes_eq, sym, refl, ap, ◌∙◌, arith, position_from}
use Rattle.c_link.proofs.Common.{range_with_len, option_or, if_found, named, numbered, named-append, or_none, Name, Definition, Program}
use Rattle.c_link.proofs.Common.{SymbolCall, defined_for_all, fits, symbols_of, FuncAddress, UnitFunc, signature_of, takes, takes_if_any}
use Rattle.c_link.proofs.Common.{Offered, host_offer, host_offers, owner_of, unit_offers, address_in, first_twice}
use Rattle.c_tree.specs.Tree as tree
use Rattle.c_meaning.specs.Linking as linking
use Rattle.c_meaning.proofs.Links.{defines_it, signature_stands, symbol_pair}
use Rattle.c_link.specs.declared.offers.Owner.TheVariants as owner
use Rattle.c_link.proofs.Apart.{no_unit, offer_of, unit_says}

abbrev under : Name → linking.HostSymbol → Bool
under q s = bytes_eq s.symbol q

module _ (p : Program) where
  -- ---- who defines a symbol

  abbrev address : Name → Option Offered → Option FuncAddress
  address q o = if_found (option_map (λ (o : Offered). o.0) o) (address_in p q)

  units_owned : (k : ℕ) (q : Name) (us : List (List tree.Item))
      → address q (named q (flat_map unit_offers (zip (range_with_len k (length us)) us)))
      ≡ option_map (λ u. UnitFunc u q) (position_from (defines_it q) k us)
  units_owned k q [] = refl
  units_owned k q (items ∷ us) =
      ap (address q) (named-append q (unit_offers (k, items)) rest ∙ ap (λ o. option_or o (named q rest)) (unit_says k q items))
      ∙ go (defined_for_all items q) (units_owned (k + 1) q us)
    where
      rest : List (Name × Offered)
      rest = flat_map unit_offers (zip (range_with_len (k + 1) (length us)) us)

      go : (d : Option Definition) → address q (named q rest) ≡ option_map (λ u. UnitFunc u q) (position_from (defines_it q) (k + 1) us)
          → address q (option_or (offer_of k d) (named q rest))
          ≡ option_map (λ u. UnitFunc u q) (cond (is_some d) (Some k) (position_from (defines_it q) (k + 1) us))
      go None e = e
      go (Some d) e = refl

  hosts_owned : (k : ℕ) (q : Name) (hs : List linking.HostSymbol)
      → ((i : ℕ) → slice_get hs i ≡ slice_get (linking.host_symbols p.hosts) (k + i))
      → address q (named q (map host_offer (zip (range_with_len k (length (map symbol_pair hs))) (map symbol_pair hs))))
      ≡ option_map (λ (s : linking.HostSymbol). s.address) (slice_get (filter (under q) hs) 0)
  hosts_owned k q [] front = refl
  hosts_owned k q (s ∷ hs) front =
      let here : k + 0 ≡ k = omega arith in
      let behind : (i : ℕ) → k + suc i ≡ (k + 1) + i = λ i. omega arith in
      go (bytes_eq s.symbol q) (sym (front 0 ∙ ap (slice_get (linking.host_symbols p.hosts)) here))
      (hosts_owned (k + 1) q hs (λ i. front (suc i) ∙ ap (slice_get (linking.host_symbols p.hosts)) (behind i)))
    where
      rest : List (Name × Offered)
      rest = map host_offer (zip (range_with_len (k + 1) (length (map symbol_pair hs))) (map symbol_pair hs))

      go : (b : Bool) → slice_get (linking.host_symbols p.hosts) k ≡ Some s
          → address q (named q rest) ≡ option_map (λ (s : linking.HostSymbol). s.address) (slice_get (filter (under q) hs) 0)
          → address q (if b then Some (owner.Host k, s.ty) else named q rest)
          ≡ option_map (λ (s : linking.HostSymbol). s.address)
          (slice_get (if b then s ∷ filter (under q) hs else filter (under q) hs) 0)
      go true at e = ap (option_map (λ (s : linking.HostSymbol). s.address)) at
      go false at e = e

  -- it is the function of external linkage
  pub owned : first_twice p.units (symbols_of p.hosts) ≡ None → (q : Name)
      → if_found (owner_of p.units (symbols_of p.hosts) q) (address_in p q) ≡ linking.external_func p q
  owned none q =
      let first : (i : ℕ) → i ≡ 0 + i = λ i. omega arith in
      ap (address q) (named-append q (host_offers (symbols_of p.hosts)) behind)
      ∙ go (named q (host_offers (symbols_of p.hosts))) refl
      (hosts_owned 0 q (linking.host_symbols p.hosts) (λ i. ap (slice_get (linking.host_symbols p.hosts)) (first i)))
    where
      behind : List (Name × Offered)
      behind = flat_map unit_offers (numbered p.units)

      unit_func : Option FuncAddress
      unit_func = option_map (λ u. UnitFunc u q) (position_from (defines_it q) 0 p.units)

      host_func : Option FuncAddress
      host_func = option_map (λ (s : linking.HostSymbol). s.address) (linking.host_symbol p q)

      no_func : is_some (named q (host_offers (symbols_of p.hosts))) ≡ true → unit_func ≡ None
      no_func there = sym (units_owned 0 q p.units) ∙ ap (address q) (no_unit p.units (symbols_of p.hosts) q none there)

      go : (o : Option Offered) → named q (host_offers (symbols_of p.hosts)) ≡ o
          → address q (named q (host_offers (symbols_of p.hosts))) ≡ host_func
          → address q (option_or o (named q behind)) ≡ option_or unit_func host_func
      go None e is = units_owned 0 q p.units ∙ sym (or_none unit_func) ∙ ap (option_or unit_func) (ap (address q) (sym e) ∙ is)
      go (Some x) e is = ap (address q) (sym e) ∙ is ∙ ap (λ o. option_or o host_func) (sym (no_func (ap is_some e)))

  -- ---- calls that fit

  pub fits_says : (c : SymbolCall) → takes_if_any (signature_of p.units c.symbol) c.args ≡ fits p c
  fits_says c = ap by_type (signature_stands p c.symbol) ∙ go _
    where
      by_type : Option tree.FuncType → Bool
      by_type o = takes_if_any o c.args

      go : (o : Option tree.FuncType) → by_type o ≡ elim o [ None ↦ false | Some ty ↦ takes ty c.args ]
      go None = refl
      go (Some ty) = refl
