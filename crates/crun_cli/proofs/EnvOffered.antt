-- A host with the name and the functions of `env`, alone, offers each of its symbols once.
use Rattle.crun_cli.proofs.Common.{◌≡◌, true, List, [], ◌∷◌, ◌++◌, sym, refl, ap, ◌∙◌, subst, Host, are_distinct, symbol_names, HostModule}
use Rattle.crun_cli.proofs.Common.{symbols_of_hosts, AreOffered}
use Rattle.env_host.specs.EnvHost.{env_name, env_functions}
use Rattle.env_host.proofs.Seen.{env_host, env_seen}

abbrev Distinct : Host → Type 0
Distinct h = are_distinct (symbol_names (symbols_of_hosts (h ∷ []))) ≡ true

env_distinct : Distinct env_host
env_distinct = refl

env_alone : {H : Type 0} (m : HostModule H) (h : H) → m.name_of h ≡ env_name → m.functions_of h ≡ env_functions → AreOffered m (h ∷ [])
env_alone m h name functions = subst Distinct (env_seen m h name functions) env_distinct

-- such a host is pushed onto none
pub env_pushed : {H : Type 0} (m : HostModule H) (h : H) (before hosts : List H) → before ≡ [] → hosts ≡ before ++ h ∷ []
    → m.name_of h ≡ env_name → m.functions_of h ≡ env_functions → AreOffered m hosts
env_pushed m h before hosts none pushed name functions =
    subst (AreOffered m) (sym (pushed ∙ ap (λ xs. xs ++ h ∷ []) none)) (env_alone m h name functions)
