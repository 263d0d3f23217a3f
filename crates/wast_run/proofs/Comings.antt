-- What a command comes to, from what its parts come to.
use Rattle.wast_run.proofs.Common.{◌≡◌, ℕ, ◌≤◌, List, [], ◌∷◌, ◌++◌, map, length, Some, None, Option, sym, refl, ap, ◌∙◌, subst, inl, inr}
use Rattle.wast_run.proofs.Common.{Bor, TrapKind, Value, file_told, long_file_told, Contents, HasFile, HasLongFile, Name, Told, Tells}
use Rattle.wast_run.proofs.Common.{Module, most_module_bytes, FileVerdict, Accepted, Invalid, Fits, WasmRun, named_of, ModuleFile}
use Rattle.wast_run.proofs.Common.{seen_call, Call, Agrees, says_invalid, says_malformed, tree_of, Asserts, Comes, IsFile, IsTimely, Joins}
use Rattle.wast_run.proofs.Common.{Keeps, Setting, accepted_tree, holds, is_invalid, is_malformed, listed, set_at, listed_call}
use Rattle.wast_run.proofs.Common.{listed_calls, HasRun, setting_of, Judged, Stage, Word}
use Rattle.wasm_spelling.specs.declared.fault.Cause.{Cause}
use Rattle.wasm_spelling.specs.declared.fault.Which.{Which}
use Rattle.wasm_spelling.specs.declared.fault.ReadFault.TheVariants as fault
use Rattle.wasm_typing.specs.declared.fault.ValidCause.{ValidCause}
use Rattle.wasm_valid.specs.FileVerdict.{Read, Unread, IsVerdictOn}
use Rattle.wast_script.specs.Commands as script
use Rattle.wast_run.specs.declared.judging.Judged.TheVariants as judged
use Rattle.wast_run.specs.declared.word.Word.TheVariants as word
use Rattle.wast_run.proofs.StageLaws.{kept_more}

-- ---- files

-- what is said of bytes
abbrev pub IsSaid : List ℕ → Judged → Type 0
IsSaid bytes j = (verdict : FileVerdict) × IsVerdictOn bytes verdict × Agrees j (Some verdict)

agreed : {j : Judged} {verdict : Option FileVerdict} → accepted_tree verdict ≡ tree_of j → is_invalid verdict ≡ says_invalid j
    → is_malformed verdict ≡ says_malformed j → Agrees j verdict
agreed tree invalid malformed = record { tree = tree; invalid = invalid; malformed = malformed }

pub said_accepted : (bytes : List ℕ) (tree : Module) → IsVerdictOn bytes (Read tree Accepted) → IsSaid bytes (judged.Accepted tree)
said_accepted bytes tree is = (Read tree Accepted, is, agreed refl refl refl)

pub said_malformed : (bytes : List ℕ) (place : ℕ) (cause : Cause) → IsVerdictOn bytes (Unread (fault.Malformed place cause))
    → IsSaid bytes judged.Malformed
said_malformed bytes place cause is = (Unread (fault.Malformed place cause), is, agreed refl refl refl)

pub said_float : (bytes : List ℕ) (place : ℕ) → IsVerdictOn bytes (Unread (fault.Float place)) → IsSaid bytes judged.Beyond
said_float bytes place is = (Unread (fault.Float place), is, agreed refl refl refl)

pub said_limit : (bytes : List ℕ) (place : ℕ) (which : Which) → IsVerdictOn bytes (Unread (fault.Limit place which))
    → IsSaid bytes judged.Beyond
said_limit bytes place which is = (Unread (fault.Limit place which), is, agreed refl refl refl)

pub said_invalid : (bytes : List ℕ) (place : ℕ) (cause : ValidCause)
    → (tree : Module) × IsVerdictOn bytes (Read tree (Invalid (record { place = place; cause = cause }))) → IsSaid bytes judged.Invalid
said_invalid bytes place cause (tree, is) = (Read tree (Invalid (record { place = place; cause = cause })), is, agreed refl refl refl)

-- what was read is the file, and what is said of its bytes is said of it
pub judged_file : (told : Told) (name bytes : List ℕ) (j : Judged) → HasFile told name bytes → length bytes ≤ most_module_bytes
    → (verdict : FileVerdict) × IsVerdictOn bytes verdict × Agrees j (Some verdict)
    → Tells told (λ contents. (verdict : Option FileVerdict) × IsFile contents name verdict × Agrees j verdict)
judged_file told name bytes j has short (verdict, is, agrees) m tells =
    (Some verdict, (bytes, file_told told m name bytes tells has, (short, is)), agrees)

pub long_file : (told : Told) (name : List ℕ) → HasLongFile told name most_module_bytes
    → Tells told (λ contents. (verdict : Option FileVerdict) × IsFile contents name verdict × Agrees judged.Beyond verdict)
long_file told name has m tells =
    let long = long_file_told told m name most_module_bytes tells has in
    (None, (long.0, long.1, long.2), record { tree = refl; invalid = refl; malformed = refl })

pub invalid_word : (told : Told) (name : List ℕ) (j : Judged)
    → Tells told (λ contents. (verdict : Option FileVerdict) × IsFile contents name verdict × Agrees j verdict)
    → Tells told (λ contents. (verdict : Option FileVerdict) × IsFile contents name verdict
    × (holds (says_invalid j) ≡ holds (is_invalid verdict)))
invalid_word told name j said m tells = let s = said m tells in (s.0, s.1, ap holds (sym s.2.invalid))

pub malformed_word : (told : Told) (name : List ℕ) (j : Judged)
    → Tells told (λ contents. (verdict : Option FileVerdict) × IsFile contents name verdict × Agrees j verdict)
    → Tells told (λ contents. (verdict : Option FileVerdict) × IsFile contents name verdict
    × (holds (says_malformed j) ≡ holds (is_malformed verdict)))
malformed_word told name j said m tells = let s = said m tells in (s.0, s.1, ap holds (sym s.2.malformed))

-- ---- commands on files

-- a module command whose file is accepted
pub file_accepted : (told : Told) (at after : Setting) (file : ModuleFile) (filename name : Name) (j : Judged) (tree : Module) (w : Word)
    → filename ≡ file.filename → name ≡ file.name → j ≡ judged.Accepted tree
    → Tells told (λ contents. (verdict : Option FileVerdict) × IsFile contents filename verdict × Agrees j verdict)
    → Joins at name (Some tree) w after
    → Tells told (λ contents. Comes contents 0 at (script.Module file) w after)
file_accepted told at after file filename name j tree w filename_is name_is is said joins m tells =
    let s = said m tells in
    let here = subst (λ t. Joins at name t w after) (sym (s.2.tree ∙ ap tree_of is)) joins in
    (s.0, subst (λ n. IsFile m n s.0) filename_is s.1, subst (λ n. Joins at n (accepted_tree s.0) w after) name_is here)

module _ (contents : Contents) (at after : Setting) where
  pub module_refused : (file : ModuleFile) (j : Judged) → tree_of j ≡ None → after ≡ at
      → (verdict : Option FileVerdict) × IsFile contents file.filename verdict × Agrees j verdict
      → Comes contents 0 at (script.Module file) word.Refused after
  module_refused file j none same (verdict, is_file, agrees) =
      (verdict, is_file, subst (λ t. Joins at file.name t word.Refused after) (sym (agrees.tree ∙ none)) (refl, same))

-- ---- calls

pub keeps_call : (stage after : Stage) (call : Bor Call) → Fits (set_at (setting_of stage)) (listed_call call.now)
    → after.joined.set ≡ stage.joined.set → after.kept.items ≡ stage.kept.items ++ call ∷ []
    → Keeps (setting_of stage) (seen_call call.now) word.Ok (setting_of after)
keeps_call stage after call fits same more =
    inl (fits, (refl, keeping_is))
  where
    keeping_is : setting_of after
        ≡ record { modules = (setting_of stage).modules; kept = (setting_of stage).kept ++ listed_call call.now ∷ [] }
    keeping_is =
        ap (λ set. record { modules = map named_of set; kept = listed_calls after.kept.items }) same
        ∙ ap (λ calls. record { modules = (setting_of stage).modules; kept = calls })
        (kept_more (setting_of stage).modules stage.kept.items after.kept.items call more)

pub keeps_not : (at : Setting) (call : script.Call) → (Fits (set_at at) (listed call) → ⊥) → Keeps at call word.NoSuchCall at
keeps_not at call not = inr (not, (refl, refl))

module _ (stage : Stage) (call : script.Call) (steps : ℕ) (not : HasRun stage call steps None) where
  pub asserts_none : (IsRight : WasmRun → Type 0) (after : Setting) → after ≡ setting_of stage
      → Asserts (setting_of stage) call steps IsRight word.NoSuchCall after
  asserts_none IsRight after same = (same, inr (not, refl))

no_call_differs : word.NoSuchCall ≡ word.OutOfSteps → ⊥
no_call_differs e = absurd cc

pub timely_end_none : (at : Setting) (call : script.Call) (steps : ℕ) (expected : Option Value)
    → IsTimely steps at (script.AssertReturn call expected) word.NoSuchCall
timely_end_none at call steps expected e = absurd (no_call_differs e)

pub timely_trap_none : (at : Setting) (call : script.Call) (steps : ℕ) (cause : TrapKind)
    → IsTimely steps at (script.AssertTrap call cause) word.NoSuchCall
timely_trap_none at call steps cause e = absurd (no_call_differs e)
