-- What units see of a host with the name and the functions of `env`.
use Rattle.std.proofs.Common.{◌≡◌, map, sym, ap, ◌∙◌}
use Rattle.w2c_base.specs.Run.{Host}
use Rattle.c_hosts.specs.declared.host.HostModule.{Ghosts as HostModule}
use Rattle.c_hosts.specs.Asking.{function_of, host_of}
use Rattle.env_host.specs.EnvHost.{env_name, env_functions}

abbrev pub env_host : Host
env_host = record { name = env_name; functions = map function_of env_functions }

pub env_seen : {H : Type 0} (m : HostModule H) (h : H) → m.name_of h ≡ env_name → m.functions_of h ≡ env_functions → env_host ≡ host_of m h
env_seen m h name functions =
    let named : env_host ≡ record { name = m.name_of h; functions = map function_of env_functions } =
    ap (λ n. record { name = n; functions = map function_of env_functions }) (sym name) in
    named ∙ ap (λ fs. record { name = m.name_of h; functions = map function_of fs }) (sym functions)
