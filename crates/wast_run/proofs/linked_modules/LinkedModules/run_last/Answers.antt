use Rattle.wast_run.proofs.Common.{[], ◌∷◌, ◌++◌, length, sym, ap, ◌∙◌, subst, Fits, set_of, AllFit, program_of, HasNoHosts, units_in}
use Rattle.wast_run.proofs.Common.{alone, symbols_of, listed_call, listed_calls}
use Rattle.w2c_sim.proofs.Wiring.{calls_fit}
use Rattle.wast_run.proofs.Comes.{all_fit, came_to_something, count_is, has_come, is_long, ran_by_set, symbols_are}
use Rattle.wast_run.proofs.JoinedUnits.{none_fits}
use Rattle.wast_run.proofs.Lists.{all_last}
use Rattle.wast_run.proofs.linked_modules.LinkedModules.run_last.Goals as goal

pub unreachable-requires : goal.unreachable-requires
unreachable-requires c =
    let joined = c.args.self.now in
    none_fits joined.set joined.session c.requires.units.units (sym c.take.ensures.value ∙ c.in-None.is) (listed_call c.args.last.now)
    (all_last (Fits (set_of joined.set)) (listed_calls c.args.kept.now) (listed_call c.args.last.now) c.requires.fit)

pub run_again-requires-clause-no_hosts : goal.run_again-requires-clause-no_hosts
run_again-requires-clause-no_hosts c = subst HasNoHosts (sym c.take.ensures.value ∙ c.in-Some.is) c.requires.units.no_hosts

pub run_again-requires-clause-fit : goal.run_again-requires-clause-fit
run_again-requires-clause-fit c =
    let s = set_of c.args.self.now.set in
    let units = ap units_in (sym c.in-Some.is ∙ c.take.ensures.value) ∙ c.requires.units.units in
    subst (λ p. AllFit p (symbols_of c.args.kept.now c.args.last.now)) (sym (ap alone units))
    (subst (AllFit (program_of s)) (sym (symbols_are c.args.kept.now c.args.last.now))
    (all_fit s (calls_fit s c.requires.units.accepted) (listed_calls c.args.kept.now ++ listed_call c.args.last.now ∷ []) c.requires.fit))

pub unreachable-requires-in-None-came_of : goal.unreachable-requires-in-None-came_of
unreachable-requires-in-None-came_of c =
    let s = set_of c.args.self.now.set in
    let calls = listed_calls c.args.kept.now ++ listed_call c.args.last.now ∷ [] in
    let accepted = c.requires.units.accepted in
    let fit = c.requires.fit in
    let laws = c.units_come_to_what_modules_come_to.ensures in
    let units = ap units_in (sym c.in-Some.is ∙ c.take.ensures.value) ∙ c.requires.units.units in
    let ran = ran_by_set s _ (ap alone units) c.args.kept.now c.args.last.now c.args.steps c.in-Ok.ran.0 c.in-Ok.ensures.ran in
    came_to_something s calls c.args.steps (length c.args.kept.now) (count_is c.args.kept.now c.args.last.now)
    (λ over. laws.alike s accepted calls fit c.args.steps over) (is_long laws.enough s accepted calls fit c.args.steps)
    (c.units_do_what_modules_do.ensures s accepted).never_stops fit c.in-Ok.ran.0 ran (sym c.came_of.ensures ∙ c.in-None-came_of.is)

pub returns-clause-came : goal.returns-clause-came
returns-clause-came c =
    let s = set_of c.args.self.now.set in
    let calls = listed_calls c.args.kept.now ++ listed_call c.args.last.now ∷ [] in
    let accepted = c.requires.units.accepted in
    let fit = c.requires.fit in
    let laws = c.units_come_to_what_modules_come_to.ensures in
    let units = ap units_in (sym c.in-Some.is ∙ c.take.ensures.value) ∙ c.requires.units.units in
    let ran = ran_by_set s _ (ap alone units) c.args.kept.now c.args.last.now c.args.steps c.in-Ok.ran.0 c.in-Ok.ensures.ran in
    has_come s calls c.args.steps (length c.args.kept.now) (count_is c.args.kept.now c.args.last.now)
    (λ over. laws.alike s accepted calls fit c.args.steps over) (is_long laws.enough s accepted calls fit c.args.steps)
    c.in-Ok.ran.0 c.in-Some-came_of.came (sym c.came_of.ensures ∙ c.in-Some-came_of.is) ran
