-- The one line on the error stream, and the status that goes with it.
use Rattle.std.specs.Prelude.{ℕ, List, ◌++◌, codes}
use Rattle.std.specs.Fmt.{decimal}
use Rattle.w2c_io.specs.Contents.{Name}
use Rattle.c_tree.specs.declared.token.Tok.{Tok}
use Rattle.c_tree.specs.declared.token.Tok.TheVariants as tok
use Rattle.c_tree.specs.declared.token.Part.{Part}
use Rattle.c_tree.specs.declared.token.Part.TheVariants as part
use Rattle.c_tree.specs.declared.token.Wanted.{Wanted}
use Rattle.c_tree.specs.declared.token.Wanted.TheVariants as wanted
use Rattle.c_tree.specs.Tokens.{fixed_text}
use Rattle.crun_job.specs.declared.stop.Cause.{Cause}
use Rattle.crun_job.specs.declared.stop.Cause.TheVariants as cause

-- Why the program stops: the words, the calls file or a journal, one of its lines, a unit, a file that is not
-- read, what is not written, and want of memory.
pub data Reason : Type 0 where
  Usage CallsTooLong JournalTooLong Unwritten WantOfMemory : Reason
  CallsLine JournalLine : (number : ℕ) → Reason
  Refused : (file : Name) → (why : Cause) → Reason
  Unread : (file : Name) → Reason

-- a part of the grammar by its name
abbrev pub part_text : Part → List ℕ
part_text part.InUnit = codes "unit"
part_text part.InItems = codes "items"
part_text part.InItem = codes "item"
part_text part.InInner = codes "inner"
part_text part.InMore = codes "more"
part_text part.InRest = codes "rest"
part_text part.InType = codes "type"
part_text part.InStar = codes "star"
part_text part.InFunction = codes "function"
part_text part.InParameters = codes "parameters"
part_text part.InPname = codes "pname"
part_text part.InPtail = codes "ptail"
part_text part.InClose = codes "close"
part_text part.InBody = codes "body"
part_text part.InDeclaration = codes "declaration"
part_text part.InStatements = codes "statements"
part_text part.InStatement = codes "statement"
part_text part.InAfter = codes "after"
part_text part.InRight = codes "right"
part_text part.InRname = codes "rname"
part_text part.InRgroup = codes "rgroup"
part_text part.InRstar = codes "rstar"
part_text part.InThrough = codes "through"
part_text part.InTypes = codes "types"
part_text part.InTtail = codes "ttail"
part_text part.InArguments = codes "arguments"
part_text part.InArgument = codes "argument"
part_text part.InAtail = codes "atail"
part_text part.InAgroup = codes "agroup"
part_text part.InResult = codes "result"
part_text part.InCases = codes "cases"
part_text part.InExpr = codes "expr"
part_text part.InIndex = codes "index"
part_text part.InGroup = codes "group"
part_text part.InOperator = codes "operator"
part_text part.InNumber = codes "number"

-- what was wanted: a token by its text, or a part by its name
abbrev pub token_text : Tok → List ℕ
token_text tok.Include = codes "include line"
token_text tok.End = codes "end"
token_text tok.Name = codes "name"
token_text tok.Plain = codes "plain number"
token_text t = fixed_text t

abbrev pub wanted_text : Wanted → List ℕ
wanted_text (wanted.Token t) = token_text t
wanted_text (wanted.Part p) = part_text p

-- what is wrong with a unit; a place is a byte offset from 0
abbrev pub cause_text : Cause → List ℕ
cause_text cause.TooLong = codes "unit too long"
cause_text (cause.Unexpected place what) = codes "unexpected at " ++ decimal place ++ (codes ": wanted " ++ wanted_text what)
cause_text (cause.NumberTooLarge place) = codes "number too large at " ++ decimal place
cause_text (cause.TooDeep place) = codes "too deep at " ++ decimal place
cause_text (cause.Rule item statement rule) =
    codes "rule " ++ decimal rule ++ (codes " item " ++ decimal item) ++ (codes " statement " ++ decimal statement)
cause_text (cause.Undefined symbol) = codes "undefined " ++ symbol
cause_text (cause.Twice symbol) = codes "twice " ++ symbol
cause_text (cause.TypeDiffers symbol) = codes "type differs " ++ symbol

abbrev pub reason_text : Reason → List ℕ
reason_text Usage = codes "bad command line"
reason_text CallsTooLong = codes "calls file too long"
reason_text (CallsLine number) = codes "calls line " ++ decimal number
reason_text JournalTooLong = codes "journal too long"
reason_text (JournalLine number) = codes "journal line " ++ decimal number
reason_text (Refused file why) = file ++ codes ": " ++ cause_text why
reason_text (Unread file) = file ++ codes ": read fault"
reason_text Unwritten = codes "write fault"
reason_text WantOfMemory = codes "want of memory"

abbrev pub error_line : Reason → List ℕ
error_line why = codes "crun: " ++ reason_text why ++ codes "\n"

abbrev pub status_of : Reason → ℕ
status_of Usage = 2
status_of CallsTooLong = 2
status_of (CallsLine number) = 2
status_of JournalTooLong = 2
status_of (JournalLine number) = 2
status_of (Refused file why) = 6
status_of (Unread file) = 3
status_of Unwritten = 4
status_of WantOfMemory = 5
