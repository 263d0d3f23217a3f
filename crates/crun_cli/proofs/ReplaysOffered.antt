-- The hosts of a journal that is read offer each symbol once.
use Rattle.crun_cli.proofs.Common.{◌≡◌, true, List, [], ◌∷◌, ◌++◌, map, sym, refl, ap, ◌∙◌, map-append, Host, HostFunction, are_distinct}
use Rattle.crun_cli.proofs.Common.{symbol_names, HostSymbol, hosts_of, symbols_distinct, hosts_same, none_distinct, read_distinct}
use Rattle.crun_cli.proofs.Common.{IsJournal, empty, symbol_of, AreReplays, replaying, Recorded, AreDistinct, ReplayHost, symbol_in}
use Rattle.crun_cli.proofs.Common.{symbols_of_host, symbols_of_hosts, AreOffered}
use Rattle.host_replay.specs.Reading.{lines_of}
use Rattle.host_replay.specs.Writable.{symbols_of}
use Rattle.host_replay.proofs.Apart.{distinct_symbols}

own_names : (m : Host) (functions : List HostFunction) → symbol_names (map (symbol_in m.name) functions) ≡ map (symbol_of m) functions
own_names m [] = refl
own_names m (f ∷ functions) = ap (λ l. symbol_of m f ∷ l) (own_names m functions)

-- the symbols' names, with their types and without
names_same : (hosts : List Host) → symbol_names (symbols_of_hosts hosts) ≡ symbols_of hosts
names_same [] = refl
names_same (m ∷ hosts) =
    map-append (λ (h : HostSymbol). h.symbol) (symbols_of_host m) (symbols_of_hosts hosts)
    ∙ (λ i. own_names m m.functions i ++ names_same hosts i)

pub replays_offered : (text : List _) (j : Recorded) (replays : List ReplayHost) → IsJournal text j → AreReplays j replays
    → AreOffered replaying replays
replays_offered text j replays is are =
    ap are_distinct (names_same (hosts_of replaying replays))
    ∙ distinct_symbols (hosts_of replaying replays) (rw (hosts_same j replays are) (read_distinct empty j (lines_of text) none_distinct is))

-- hosts that offer each symbol once have a journal whose text is read back
pub offered_distinct : (hosts : List Host) → are_distinct (symbol_names (symbols_of_hosts hosts)) ≡ true → AreDistinct hosts
offered_distinct hosts distinct = symbols_distinct hosts (ap are_distinct (sym (names_same hosts)) ∙ distinct)
