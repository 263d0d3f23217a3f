use Rattle.wast_script.proofs.Common.{[], length, codes, refl, leb-true, IsFault, IsScript, most_script_bytes}
use Rattle.serde_json.proofs.OnLiterals.{serde_json_on_literals}
use Rattle.wast_script.specs.declared.fault.ScriptFault.TheVariants as fault
use Rattle.wast_script.specs.Samples.{two_commands, two_commands_are}
use Rattle.wast_script.proofs.cases.texts_of_scripts.Goals as goal

two_commands_is : IsScript two_commands two_commands_are
unfolding serde_json_on_literals
two_commands_is = record {
  short = leb-true (length two_commands) most_script_bytes refl;
  json = _;
  is_json = ((two_commands, (refl, refl)), refl);
  has_commands = record { objects = _; objects_are = refl; commands_are = refl };
}

last_member_is : IsScript (codes "{\"commands\":3,\"commands\":[]}") []
unfolding serde_json_on_literals
last_member_is = record {
  short = leb-true (length (codes "{\"commands\":3,\"commands\":[]}")) most_script_bytes refl;
  json = _;
  is_json = ((codes "{\"commands\":3,\"commands\":[]}", (refl, refl)), refl);
  has_commands = record { objects = _; objects_are = refl; commands_are = refl };
}

first_fault_is : IsFault (codes "{\"commands\":[{\"type\":\"module\"}]}") (fault.Command 1)
unfolding serde_json_on_literals
first_fault_is = record {
  short = leb-true (length (codes "{\"commands\":[{\"type\":\"module\"}]}")) most_script_bytes refl;
  json = _;
  is_json = ((codes "{\"commands\":[{\"type\":\"module\"}]}", (refl, refl)), refl);
  fault_is = record { objects = _; objects_are = refl; number_is = refl };
}

no_objects_is : IsFault (codes "{\"commands\":[3]}") fault.NoCommands
unfolding serde_json_on_literals
no_objects_is = record {
  short = leb-true (length (codes "{\"commands\":[3]}")) most_script_bytes refl;
  json = _;
  is_json = ((codes "{\"commands\":[3]}", (refl, refl)), refl);
  fault_is = refl;
}

no_json_is : IsFault (codes "{") fault.NotJson
unfolding serde_json_on_literals
no_json_is = (leb-true (length (codes "{")) most_script_bytes refl, λ d is. let e = is.1 in cc)

pub returns : goal.returns
returns c = record {
  two_commands = two_commands_is;
  first_fault = first_fault_is;
  no_json = no_json_is;
  no_objects = no_objects_is;
  last_member = last_member_is;
}
