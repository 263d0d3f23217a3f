-- What is there before the first statement.
use Rattle.crun.proofs.Common.{◌≡◌, ℕ, List, [], ◌∷◌, map, length, None, sym, refl, ap, ◌∙◌, length-map, all_from, Host, Reply, Trail}
use Rattle.crun.proofs.Common.{unit_of, Program, link_refusal, fresh, TypedMachine, TypedProgram, function_of, hosts_of, HostModule}
use Rattle.crun.proofs.Common.{HaveCounts, machine_at, program_in, symbols_of_hosts, trail_of, Engine}
use Rattle.c_tree.specs.FirstBroken.{KeepsRules}
use Rattle.c_sound.proofs.Changes.{trail_keeps}
use Rattle.c_sound.proofs.Units.{typed_program}
use Rattle.c_link.specs.Programs.{AllChecked, IsProgramOf}
use Rattle.crun.proofs.HostSymbols.{symbols_mean}

-- how many functions each host has
pub counts_are : {H : Type 0} (m : HostModule H) (hosts : List H) (counts : List ℕ) → counts ≡ map (λ h. length (m.functions_of h)) hosts
    → HaveCounts (hosts_of m hosts) counts
counts_are {H} m hosts counts is = go hosts ∙ sym is
  where
    go : (hosts : List H) → map (λ (h : Host). length h.functions) (hosts_of m hosts) ≡ map (λ h. length (m.functions_of h)) hosts
    go [] = refl
    go (h ∷ hosts) = ap (λ n. n ∷ map (λ (h : Host). length h.functions) (hosts_of m hosts)) (length-map (m.functions_of h) function_of)
        ∙ ap (λ ns. length (m.functions_of h) ∷ ns) (go hosts)

-- the objects of program startup are typed, whatever is told behind
pub first_typed : {H : Type 0} (m : HostModule H) (e : Engine H) → TypedProgram (program_in m e)
    → ((replies : List Reply) → machine_at e (trail_of replies []) ≡ fresh (program_in m e) replies)
    → (trail : Trail) → TypedMachine (program_in m e) (machine_at e trail)
first_typed m e typed first trail = trail_keeps (program_in m e) (machine_at e (trail_of [] [])) trail (rw (first []) (typed.start []))

module _ {H : Type 0} (m : HostModule H) (e : Engine H) (same : e.linked.1 ≡ symbols_of_hosts (hosts_of m e.hosts.list.items)) where
  abbrev p : Program
  p = program_in m e

  -- the hosts' symbols are those that the units were linked with
  pub is_program : IsProgramOf p (map unit_of e.linked.0) e.linked.1
  is_program = record { units_are = refl; symbols_are = sym (symbols_mean e.linked.1 (hosts_of m e.hosts.list.items) same) }

  -- units that keep the rules and link are a typed program
  pub is_typed : AllChecked (map unit_of e.linked.0)
      → ((p : Program) → IsProgramOf p (map unit_of e.linked.0) e.linked.1 → link_refusal p ≡ None)
      → TypedProgram p
  is_typed checked links = typed_program p (all_from KeepsRules p.units (λ i items at. (checked i items at).1)) (links p is_program)
