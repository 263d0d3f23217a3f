-- What hosts offer, and that answers change nothing of it.
use Rattle.c_hosts.proofs.Common.{◌≡◌, ℕ, List, [], ◌∷◌, ◌++◌, map, get_or, slice_get, Some, None, Option, option_map, unwrap_or, sym, refl}
use Rattle.c_hosts.proofs.Common.{ap, ◌∙◌, subst, append_assoc, map-set_same, slice_get-map, unwrap_or-slice_get, if_found, FuncType}
use Rattle.c_hosts.proofs.Common.{Program, host_type, HostCall, Answered, Answers, function_of, host_of, hosts_of, offered, Asks}
use Rattle.c_hosts.proofs.Common.{HostFunction, HostModule, Asked}
use Rattle.w2c_base.specs.Run as run

module _ {H : Type 0} (m : HostModule H) where
  abbrev type_in : run.HostFunction → FuncType
  type_in f = f.ty

  abbrev pub own_type : HostFunction → FuncType
  own_type f = f.ty

  -- the type that a program gives to a function of its hosts
  pub type_of_offered : (p : Program) (hosts : List H) (call : HostCall) → p.hosts ≡ hosts_of m hosts
      → host_type p call.host call.function ≡ option_map own_type (offered m hosts call)
  type_of_offered p hosts call are =
      ap (λ hs. if_found (slice_get hs call.host) (λ host. option_map type_in (slice_get host.functions call.function))) are
      ∙ ap (λ o. if_found o (λ host. option_map type_in (slice_get host.functions call.function)))
      (slice_get-map (host_of m) hosts call.host)
      ∙ go (slice_get hosts call.host)
    where
      of_one : (o : Option HostFunction) → option_map type_in (option_map function_of o) ≡ option_map own_type o
      of_one None = refl
      of_one (Some f) = refl

      go : (o : Option H) → if_found (option_map (host_of m) o) (λ host. option_map type_in (slice_get host.functions call.function))
          ≡ option_map own_type (if_found o (λ h. slice_get (m.functions_of h) call.function))
      go None = refl
      go (Some h) = ap (option_map type_in) (slice_get-map function_of (m.functions_of h) call.function)
          ∙ of_one (slice_get (m.functions_of h) call.function)

  -- the hosts offer what they offered
  pub answers_keep : (before : List H) (a : Asked) (after : List H) → Answers m before a after → hosts_of m after ≡ hosts_of m before
  answers_keep before a after x =
      ap (hosts_of m) x.new_is
      ∙ map-set_same (host_of m) before a.host x.new x.old (same x.new ∙ ap (host_of m) (found x.old_is))
    where
      found : slice_get before a.host ≡ Some x.old → x.old ≡ get_or before a.host x.old
      found at = sym (ap (λ o. unwrap_or o x.old) at) ∙ unwrap_or-slice_get before a.host x.old

      same : (new : H) → host_of m x.new ≡ host_of m x.old
      same new = ap (λ (n : List ℕ). record { name = n; functions = map function_of (m.functions_of x.new) }) x.keeps.name
          ∙ ap (λ fs. record { name = m.name_of x.old; functions = map function_of fs }) x.keeps.functions

  pub answered_keep : (before : List H) (asks : List Asked) (after : List H) → Answered m before asks after
      → hosts_of m after ≡ hosts_of m before
  answered_keep before [] after x = ap (hosts_of m) x
  answered_keep before (a ∷ asks) after (middle, one, more) = answered_keep middle asks after more ∙ answers_keep before a middle one

  -- one answer, and answers behind answers
  pub answered_once : (before : List H) (a : Asked) (after : List H) → Answers m before a after → Answered m before (a ∷ []) after
  answered_once before a after x = (after, x, refl)

  pub answered_on : (before : List H) (asks : List Asked) (middle : List H) (more : List Asked) (after : List H)
      → Answered m before asks middle → Answered m middle more after → Answered m before (asks ++ more) after
  answered_on before [] middle more after x y = subst (λ hs. Answered m hs more after) x y
  answered_on before (a ∷ asks) middle more after (next, one, rest) y = (next, one, answered_on next asks middle more after rest y)

  -- asks behind asks
  pub asks_on : (before : List H) (journal first : List Asked) (middle : List H) (journal' more : List Asked) (after : List H)
      (journal'' : List Asked)
      → Asks m before journal first middle journal' → Asks m middle journal' more after journal''
      → Asks m before journal (first ++ more) after journal''
  asks_on before journal first middle journal' more after journal'' x y = record {
    written = y.written ∙ ap (λ j. j ++ more) x.written ∙ append_assoc journal first more;
    answered = answered_on before first middle more after x.answered y.answered;
  }
