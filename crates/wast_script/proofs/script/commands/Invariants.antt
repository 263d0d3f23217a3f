use Rattle.wast_script.proofs.Common.{◌≡◌, ◌+◌, map, drop, view, position_from, command_of, all_given, is_formless, seen_commands}
use Rattle.wast_script.proofs.Gathered.{gathered}
use Rattle.wast_script.proofs.script.commands.Given as goal

-- what is left gives the other commands, and has the first object that is not of its form
abbrev pub invariant-loop-index : goal.invariant-loop-index
invariant-loop-index l =
    let ds = map view l.objects in
    record {
      given : gathered command_of (seen_commands l.commands.items) (drop l.index ds) ≡ all_given command_of ds;
      first : position_from is_formless (l.index + 1) (drop l.index ds) ≡ position_from is_formless 1 ds;
    }
