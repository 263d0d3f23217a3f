-- Types of functions, and which calls fit, are the same on both sides.
use Rattle.c_renaming.proofs.Common.{◌≡◌, List, slice_get, Some, None, Option, option_map, refl, ap, if_found, Host, Program, SymbolCall}
use Rattle.c_renaming.proofs.Common.{c_func_type_of, fits, func_type, FuncAddress, HostFunc, UnitFunc, Holds, KeptFunc, KeepsMeanings}
use Rattle.c_renaming.proofs.Common.{Renames, Renaming, address, arith}

module _ (ρ : Renaming) (p q : Program) (meanings : KeepsMeanings ρ p q) where
  pub func_type_same : (f : FuncAddress) → KeptFunc ρ f → func_type q (address ρ f) ≡ func_type p f
  func_type_same (UnitFunc u name) is = meanings.types u name is
  func_type_same (HostFunc h f) is =
      ap (λ (hosts : List Host). option_map c_func_type_of
      (if_found (slice_get hosts h) (λ host. option_map (λ function. function.ty) (slice_get host.functions f))))
      meanings.hosts

  pub type_found : (o : Option FuncAddress) → Holds (KeptFunc ρ) o
      → if_found (option_map (address ρ) o) (func_type q) ≡ if_found o (func_type p)
  type_found None kept = refl
  type_found (Some f) kept = func_type_same f kept

pub calls_fit : (ρ : Renaming) (p q : Program) → Renames ρ p q → (c : SymbolCall) → fits q c ≡ fits p c
calls_fit ρ p q is c = grind (arith, is.begins.calls c, is.begins.calls_kept c)
