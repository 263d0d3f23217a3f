use Rattle.wast_script.proofs.Common.{map, option_map, sym, ap, ◌∙◌, view, map_push, position_from, command_of, all_given, is_formless}
use Rattle.wast_script.proofs.Common.{seen_command, seen_commands}
use Rattle.wast_script.proofs.Gathered.{first_is_behind, first_is_here, next_here}
use Rattle.wast_script.proofs.script.commands.Goals as goal

pub returns-in-None-clause-fault : goal.returns-in-None-clause-fault
returns-in-None-clause-fault c =
    let objects = c.args.objects.now in
    first_is_here view command_of objects c.loop-index.index c.index-objects-index.result c.loop-index-test.true c.index-objects-index.is
    (position_from is_formless 1 (map view objects)) c.loop-index.invariant.first
    (sym c.in_ok-command.ensures ∙ ap (option_map seen_command) c.in-None.is)

pub loop-index-preserved : goal.loop-index-preserved
loop-index-preserved c =
    let objects = c.args.objects.now in
    let i = c.loop-index.index in
    let some = sym c.in_ok-command.ensures ∙ ap (option_map seen_command) c.in-Some.is in
    let pushed =
    ap seen_commands c.in_ok-push-in-Some.ensures.items ∙ map_push seen_command c.loop-index.commands.items c.in-Some.command in
    record {
      given = next_here view command_of objects i c.index-objects-index.result c.loop-index-test.true c.index-objects-index.is
          (seen_commands c.loop-index.commands.items) (seen_commands c.push.new.self.items) (seen_command c.in-Some.command)
          (all_given command_of (map view objects)) c.loop-index.invariant.given some pushed;
      first = first_is_behind view command_of objects i c.index-objects-index.result c.loop-index-test.true c.index-objects-index.is
          (position_from is_formless 1 (map view objects)) (seen_command c.in-Some.command) c.loop-index.invariant.first some;
    }
