use Rattle.std.proofs.Common.{◌↔◌, ◌≤◌, Err, ap}
use Rattle.crun_startup.proofs.InitSymbols.{escape_found, no_escape}
use Rattle.crun_startup.proofs.init_symbol.is_module_escape.Goals as goal

pub returns-in-Ok : goal.returns-in-Ok
returns-in-Ok c =
    let told = rw c.as_slice.ensures at c.is_module_name.ensures in
    escape_found c.in-Ok.name c.args.text.now c.is_module_name.result c.in-Ok.ensures.name c.in-Ok.ensures.bytes told

pub returns-in-Err-NotEscaped : goal.returns-in-Err-NotEscaped
returns-in-Err-NotEscaped c = no_escape c.args.text.now (c.in-Err-NotEscaped.ensures.not_escaped (ap Err c.in-Err-NotEscaped.field-0-is))
