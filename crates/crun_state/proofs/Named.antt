-- The names of hosts and of functions by number.
use Rattle.crun_state.proofs.Common.{◌≡◌, ℕ, zero, suc, ◌<◌, List, [], ◌∷◌, map, length, get_or, slice_get, Some, None, Option, option_map}
use Rattle.crun_state.proofs.Common.{sym, ap, ◌∙◌, arith, slice_get-map, Host, item_of, unit_of, Item, UnitNames, item_name, host_of}
use Rattle.crun_state.proofs.Common.{hosts_of, name_of_function, naming_of, unit_names, name_among}
use Rattle.c_hosts.specs.declared.host.HostModule.{Ghosts as HostModule}
use Rattle.crun_lines.specs.HostLines.{function_name, host_name}

-- ---- hosts

abbrev pub name_if_there : Option Host → List ℕ
name_if_there host = elim host [ None ↦ [] | Some host ↦ host.name ]

abbrev pub function_if_there : ℕ → Option Host → List ℕ
function_if_there f host = elim host [ None ↦ [] | Some host ↦ name_among host.functions f ]

module _ {H : Type 0} (m : HostModule H) (hosts : List H) (k : ℕ) (found : Option H) (is : found ≡ slice_get hosts k) where
  seen : option_map (host_of m) found ≡ slice_get (hosts_of m hosts) k
  seen = ap (option_map (host_of m)) is ∙ sym (slice_get-map (host_of m) hosts k)

  pub host_named : name_if_there (option_map (host_of m) found) ≡ host_name (hosts_of m hosts) k
  host_named = ap name_if_there seen

  pub function_named : (f : ℕ) → function_if_there f (option_map (host_of m) found) ≡ function_name (hosts_of m hosts) k f
  function_named f = ap (function_if_there f) seen

-- ---- units

pub named_at : (items : List Item) (i : ℕ) (it : Item) → i < length items → it ≡ get_or items i it
    → get_or (map name_of_function (map item_of items)) i [] ≡ name_of_function (item_of it)
named_at [] i it less at = absurd (omega (arith, less))
named_at (x ∷ items) zero it less at = ap (λ y. name_of_function (item_of y)) (sym at)
named_at (x ∷ items) (suc i) it less at = named_at items i it (omega (arith, less)) at

-- the name of an item of the unit that was found
abbrev pub item_if_there : ℕ → Option UnitNames → List ℕ
item_if_there i names = elim names [ None ↦ [] | Some n ↦ get_or n.items i [] ]

pub item_named : (units : List (List Item)) (u i : ℕ) (found : Option (List Item)) → found ≡ slice_get units u
    → item_if_there i (option_map unit_names (option_map unit_of found)) ≡ item_name (naming_of (map unit_of units)) u i
item_named units u i found is = ap (item_if_there i)
    (ap (λ o. option_map unit_names (option_map unit_of o)) is ∙ ap (option_map unit_names) (sym (slice_get-map unit_of units u))
    ∙ sym (slice_get-map unit_names (map unit_of units) u))
