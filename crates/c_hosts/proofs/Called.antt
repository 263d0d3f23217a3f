-- The host that a call names.
use Rattle.c_hosts.proofs.Common.{◌≡◌, List, IfSome, slice_get, slice_index_or, Some, None, Option, unwrap_or, sym, refl, ap, ◌∙◌, subst}
use Rattle.c_hosts.proofs.Common.{unwrap_or-slice_get, if_found, HostCall, offered, HostFunction, HostModule}

module _ {H : Type 0} (m : HostModule H) (hosts : List H) (call : HostCall) (f : HostFunction) (r : H)
    (found : offered m hosts call ≡ Some f) (at : r ≡ slice_index_or hosts call.host r) where
  there : (o : Option H) → slice_get hosts call.host ≡ o → if_found o (λ h. slice_get (m.functions_of h) call.function) ≡ Some f
      → (slice_get hosts call.host ≡ Some r) × (slice_get (m.functions_of r) call.function ≡ Some f)
  there None e has = absurd cc
  there (Some h) e has =
      let same : r ≡ h = at ∙ sym (unwrap_or-slice_get hosts call.host r) ∙ ap (λ o. unwrap_or o r) e in
      (e ∙ ap Some (sym same), subst (λ h. slice_get (m.functions_of h) call.function ≡ Some f) (sym same) has)

  pub host_there : (slice_get hosts call.host ≡ Some r) × (slice_get (m.functions_of r) call.function ≡ Some f)
  host_there = there (slice_get hosts call.host) refl found

  -- what holds of the function that is there, and of what holds of it
  pub of_function : (P : HostFunction → Type 0) → P f → IfSome (slice_get (m.functions_of r) call.function) P
  of_function P holds = subst (λ o. IfSome o P) (sym host_there.1) holds

  pub function_of_it : (P : HostFunction → Type 0) → IfSome (slice_get (m.functions_of r) call.function) P → P f
  function_of_it P holds = subst (λ o. IfSome o P) host_there.1 holds
