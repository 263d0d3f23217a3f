-- The JSON value of a command: an object whose `type` says which command it is. Other members than those of the command are
-- ignored.
use Rattle.std.specs.Prelude.{ℕ, List, [], ◌∷◌, codes, Option, Some, None, if◌then◌else◌, option_map, option_and_then}
use Rattle.std.specs.List.{find}
use Rattle.std.specs.Str.{bytes_eq}
use Rattle.w2c_io.specs.Contents.{Name}
use Rattle.w2c_base.specs.declared.value.Value.{Value}
use Rattle.w2c_base.specs.declared.trap.TrapKind.{TrapKind}
use Rattle.w2c_base.specs.declared.trap.TrapKind.TheVariants as trap
use Rattle.w2c_base.specs.Trap.{text_of}
use Rattle.serde_json.specs.Data.{Data}
use Rattle.program_words.specs.Tests.{is_module_name}
use Rattle.wast_script.specs.declared.kind.Kind.{Kind}
use Rattle.wast_script.specs.declared.kind.Kind.TheVariants as kind
use Rattle.wast_script.specs.Commands.{Call, Command, Module, Invoke, AssertReturn, AssertTrap, AssertInvalid, AssertMalformed, ModuleFile}
use Rattle.wast_script.specs.Values.{text_in, values_in}

-- the text of each kind of command
abbrev pub kind_text : Kind → List ℕ
kind_text kind.Module = codes "module"
kind_text kind.Call = codes "call"
kind_text kind.AssertReturn = codes "assert_return"
kind_text kind.AssertTrap = codes "assert_trap"
kind_text kind.AssertInvalid = codes "assert_invalid"
kind_text kind.AssertMalformed = codes "assert_malformed"

abbrev pub kinds : List Kind
kinds = kind.Module ∷ kind.Call ∷ kind.AssertReturn ∷ kind.AssertTrap ∷ kind.AssertInvalid ∷ kind.AssertMalformed ∷ []

-- the kind that a text names
abbrev pub kind_named : List ℕ → Option Kind
kind_named text = find (λ k. bytes_eq (kind_text k) text) kinds

-- the causes of traps, of which each has its text
abbrev pub causes : List TrapKind
causes =
    trap.Unreachable ∷ trap.MemoryOut ∷ trap.DivByZero ∷ trap.IntOverflow ∷ trap.TableOut ∷ trap.Empty ∷ trap.Signature
    ∷ trap.Exhaustion ∷ trap.ImportLimits ∷ trap.SegmentOut ∷ trap.HostTrap ∷ []

-- the cause that a text names
abbrev pub cause_named : List ℕ → Option TrapKind
cause_named text = find (λ cause. bytes_eq (text_of cause) text) causes

-- ---- the members of a command

abbrev pub module_with : Option (List ℕ) → Option Name → Option ModuleFile
module_with (Some name) (Some filename) = if is_module_name name then Some (record { name = name; filename = filename }) else None
module_with (Some name) None = None
module_with None filename = None

abbrev pub module_in : Data → Option ModuleFile
module_in d = module_with (text_in (codes "name") d) (text_in (codes "filename") d)

abbrev pub call_with : Option (List ℕ) → Option (List ℕ) → Option (List Value) → Option Call
call_with (Some module_name) (Some field_name) (Some args) =
    Some (record { module_name = module_name; field_name = field_name; args = args })
call_with (Some module_name) (Some field_name) None = None
call_with (Some module_name) None args = None
call_with None field_name args = None

abbrev pub call_in : Data → Option Call
call_in d = call_with (text_in (codes "module") d) (text_in (codes "field") d) (values_in (codes "args") d)

-- no value is expected, or one
abbrev pub expected_of : List Value → Option (Option Value)
expected_of [] = Some None
expected_of (value ∷ []) = Some (Some value)
expected_of (value ∷ other ∷ values) = None

abbrev pub expected_in : Data → Option (Option Value)
expected_in d = option_and_then expected_of (values_in (codes "expected") d)

abbrev pub cause_in : Data → Option TrapKind
cause_in d = option_and_then cause_named (text_in (codes "text") d)

-- ---- the command

abbrev pub return_with : Option Call → Option (Option Value) → Option Command
return_with (Some call) (Some expected) = Some (AssertReturn call expected)
return_with (Some call) None = None
return_with None expected = None

abbrev pub trap_with : Option Call → Option TrapKind → Option Command
trap_with (Some call) (Some cause) = Some (AssertTrap call cause)
trap_with (Some call) None = None
trap_with None cause = None

-- the command of a kind that an object stands for
abbrev pub command_by : Data → Kind → Option Command
command_by d kind.Module = option_map Module (module_in d)
command_by d kind.Call = option_map Invoke (call_in d)
command_by d kind.AssertReturn = return_with (call_in d) (expected_in d)
command_by d kind.AssertTrap = trap_with (call_in d) (cause_in d)
command_by d kind.AssertInvalid = option_map AssertInvalid (text_in (codes "filename") d)
command_by d kind.AssertMalformed = option_map AssertMalformed (text_in (codes "filename") d)

-- the command that a JSON value stands for; none where it is not of the form of one
abbrev pub command_of : Data → Option Command
command_of d = option_and_then (command_by d) (option_and_then kind_named (text_in (codes "type") d))
