use Rattle.c_link.proofs.Common.{map, take, numbered, unit_of, Holds, c_symbols, offers, AllChecked}
use Rattle.c_link.proofs.FirstRefusal.{twice_in}
use Rattle.c_link.proofs.Walks.{Left}
use Rattle.c_link.proofs.passes.define_all.Given as goal

abbrev pub invariant-loop-u : goal.invariant-loop-u
invariant-loop-u l = Holds l.table (offers (take l.u (map unit_of l.units)) (c_symbols l.hosts))
    × Left (twice_in (map unit_of l.units) (c_symbols l.hosts)) (numbered (map unit_of l.units)) l.u
    × AllChecked (take l.u (map unit_of l.units))
