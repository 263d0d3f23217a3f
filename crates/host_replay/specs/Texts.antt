-- What a journal says, and its text.
use Rattle.std.specs.Prelude.{ℕ, List, ◌++◌, flat_map, Some}
use Rattle.w2c_base.specs.Run.{Host, HostFunction}
use Rattle.crun_lines.specs.HostLines.{host_line}
use Rattle.journal_lines.specs.Lines.{function_line, module_line}
use Rattle.c_hosts.specs.declared.journal.Asked.{Asked}
use Rattle.c_hosts.specs.Journals.{ask_of, reply_in}

-- host modules with their functions, and the calls that were answered, in order
pub record Recorded : Type 0 where
  pub hosts : List Host
  pub entries : List Asked

abbrev pub function_text : HostFunction → List ℕ
function_text f = function_line f.name f.ty

abbrev pub function_texts : List HostFunction → List ℕ
function_texts functions = flat_map function_text functions

-- a line for a module, and for each of its functions
abbrev pub module_text : Host → List ℕ
module_text m = module_line m.name ++ function_texts m.functions

-- a line for a call, by the names of the module and the function
abbrev pub entry_text : List Host → Asked → List ℕ
entry_text hosts a = host_line hosts (ask_of a) (Some (reply_in a))

abbrev pub journal_text : Recorded → List ℕ
journal_text j = flat_map module_text j.hosts ++ flat_map (entry_text j.hosts) j.entries
