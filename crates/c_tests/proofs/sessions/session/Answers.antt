use Rattle.std.proofs.Common.{ap, ◌∙◌}
use Rattle.c_hosts.specs.Asking.{hosts_of}
use Rattle.crun.specs.HostSymbols.{symbols_of_hosts}
use Rattle.c_tests.specs.contracts.sessions.CounterHostModule.TheImpl
use Rattle.c_tests.proofs.sessions.session.Goals as goal

pub start-requires : goal.start-requires
start-requires c = c.in-Ok-link.ensures.hosts ∙ c.as_slice-2.ensures.value ∙ c.in-Ok.ensures.symbols
    ∙ ap (λ hs. symbols_of_hosts (hosts_of TheImpl.ghosts hs)) c.as_slice.ensures.value
