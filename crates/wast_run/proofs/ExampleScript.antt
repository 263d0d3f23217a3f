-- The worked script: what its text says, what the files hold, and the word that each command comes to.
use Rattle.wast_run.proofs.Common.{◌≡◌, ℕ, zero, suc, List, [], ◌∷◌, length, drop, Some, codes, Option, MatchOption, refl, ap, ◌∙◌}
use Rattle.wast_run.proofs.Common.{subst, inl, inr, arith, leb-true, none-some, same_Some, get, AllByRecursion, I32, Contents, extended}
use Rattle.wast_run.proofs.Common.{Module, Accepted, most_module_bytes, IsLinked, ModuleFunc, NamedModule, Fits, Line, Command, Usage}
use Rattle.wast_run.proofs.Common.{IsScript, IsJob, most_script_bytes, IsJobBehind, Reported, Reports, Stops, AreWords, AreWordsInTime}
use Rattle.wast_run.proofs.Common.{Comes, EndsWith, Lead, Setting, at_first, listed, report_of, report_status, set_at, modules_run}
use Rattle.wast_run.proofs.Common.{units_run, Word}
use Rattle.std.specs.Fmt.{digits}
use Rattle.clap.proofs.OnLiterals.{clap_on_literals}
use Rattle.w2c_base.specs.declared.value.ValType.TheVariants as type
use Rattle.leb_bytes.specs.Computed.{u32_of}
use Rattle.wasm_spelling.specs.Steps.{checked, number_at}
use Rattle.wasm_valid.proofs.Verdicts as verdicts
use Rattle.serde_json.proofs.OnLiterals.{serde_json_on_literals}
use Rattle.wasm_spelling.specs.declared.fault.Cause.TheVariants as cause
use Rattle.wasm_spelling.specs.declared.fault.ReadFault.TheVariants as fault
use Rattle.wasm_spelling.specs.Table.{Upto, after, row}
use Rattle.wasm_valid.specs.FileVerdict.{Read, Unread}
use Rattle.wasm_meaning.specs.LinkedSet.{Resolves, module_at as numbered}
use Rattle.c_meaning.specs.Run as c
use Rattle.program_words.specs.Command.{rows_read}
use Rattle.wast_script.specs.CommandLine.{line_of}
use Rattle.wast_script.specs.Commands as script
use Rattle.wast_script.proofs.Readings.{one_script}
use Rattle.wast_run.specs.declared.word.Word.TheVariants as word
use Rattle.wast_run.specs.Example.{two_json, two_report, two_wasm, two_words}
use Rattle.wasm_spelling.proofs.WorkedModule.{two_spelled, two_tree}
use Rattle.wasm_typing.specs.ModuleFaults.{module_faults}
use Rattle.wasm_typing.specs.Verdict.{IsValid}
use Rattle.wast_run.proofs.PartLaws.{lead_plain}
use Rattle.wast_run.proofs.OneReport.{one_report}

-- ---- the words, and the commands

abbrev two_line : Line
two_line = record { steps = 100; script = codes "examples/two.json" }

two_line_is : line_of two_words ≡ Some two_line
unfolding line_of rows_read clap_on_literals
two_line_is = refl

abbrev two_file : script.ModuleFile
two_file = record { name = codes "two"; filename = codes "examples/two.wasm" }

abbrev two_call : script.Call
two_call = record { module_name = codes "two"; field_name = codes "f"; args = [] }

abbrev two_commands : List Command
two_commands =
    script.Module two_file
    ∷ script.AssertReturn two_call (Some (I32 42))
    ∷ script.Invoke two_call
    ∷ script.AssertReturn two_call (Some (I32 42))
    ∷ script.AssertMalformed (codes "examples/two.json")
    ∷ []

two_script : IsScript two_json two_commands
unfolding serde_json_on_literals
two_script = record {
  short = leb-true (length two_json) most_script_bytes refl;
  json = _;
  is_json = ((two_json, (refl, refl)), refl);
  has_commands = record { objects = _; objects_are = refl; commands_are = refl };
}

-- ---- the module, the set of it, and runs

two_is_valid : IsValid two_tree
unfolding module_faults
two_is_valid = record {
  no_faults = refl;
  bodies = (
    (type.I32 ∷ [], ([], refl, refl), (type.I32 ∷ type.I32 ∷ [], (type.I32 ∷ [], refl, refl), (type.I32 ∷ [], ([], refl, refl), refl))),
    tt,
  );
}

abbrev two_named : NamedModule
two_named = record { name = codes "two"; tree = two_tree }

abbrev alone : Setting
alone = record { modules = two_named ∷ []; kept = [] }

abbrev called : Setting
called = record { modules = two_named ∷ []; kept = listed two_call ∷ [] }

no_imports : (p : ℕ) (m : Module) → numbered (set_at alone) p ≡ Some m → AllByRecursion (Resolves (set_at alone) p) m.imports
no_imports zero m is = subst (λ (n : Module). AllByRecursion (Resolves (set_at alone) 0) n.imports) (same_Some two_tree m is) tt
no_imports (suc p) m is = absurd (none-some m is)

two_linked : IsLinked (set_at alone)
two_linked = record { at_most_16 = omega arith; names_differ = (tt, tt); functions_differ = tt; imports_resolve = no_imports }

two_fits : Fits (set_at alone) (listed two_call)
two_fits = (ModuleFunc 0 0, record { params = []; result = Some type.I32 }, refl, refl, refl, tt)

-- the units' runs of one call and of two end, and so do the modules'
one_ends : (units_run (set_at alone) (listed two_call ∷ []) 100).outcome ≡ c.Ended
unfolding digits
one_ends = refl

both_end : (units_run (set_at alone) (listed two_call ∷ listed two_call ∷ []) 100).outcome ≡ c.Ended
unfolding digits
both_end = refl

not_spent : (o : c.Outcome) → o ≡ c.Ended → o ≡ c.OutOfSteps → ⊥
not_spent o is out = cc

one_gives : EndsWith (Some (I32 42)) (modules_run (set_at alone) (listed two_call ∷ []) 100)
one_gives = (refl, [], refl)

both_give : EndsWith (Some (I32 42)) (modules_run (set_at alone) (listed two_call ∷ listed two_call ∷ []) 100)
both_give = (refl, Some (I32 42) ∷ [], refl)

-- ---- the words of the commands

no_module : Upto two_json (fault.Malformed 0 cause.BadMagic)
unfolding row after checked number_at u32_of
no_module = (100, refl)

abbrev five : List Word
five = word.Ok ∷ word.Ok ∷ word.Ok ∷ word.Ok ∷ word.Ok ∷ []

five_report : report_of five ≡ two_report
unfolding digits
five_report = refl

first_holds : (contents : Contents) → Comes contents 100 alone (script.AssertReturn two_call (Some (I32 42))) word.Ok alone
first_holds contents =
    let over = not_spent (units_run (set_at alone) (listed two_call ∷ []) 100).outcome one_ends in
    (refl, inl (two_fits, inr (over, inl (one_gives, refl))))

call_kept : (contents : Contents) → Comes contents 100 alone (script.Invoke two_call) word.Ok called
call_kept contents = inl (two_fits, (refl, refl))

second_holds : (contents : Contents) → Comes contents 100 called (script.AssertReturn two_call (Some (I32 42))) word.Ok called
second_holds contents =
    let over = not_spent (units_run (set_at alone) (listed two_call ∷ listed two_call ∷ []) 100).outcome both_end in
    (refl, inl (two_fits, inr (over, inl (both_give, refl))))

module _ (contents : Contents) (script_there : get contents (codes "examples/two.json") ≡ Some two_json)
    (module_there : get contents (codes "examples/two.wasm") ≡ Some two_wasm) where
  module_joins : Comes contents 100 at_first (script.Module two_file) word.Ok alone
  module_joins = (
    Some (Read two_tree Accepted),
    (two_wasm, module_there, (leb-true (length two_wasm) most_module_bytes refl, (two_spelled, verdicts.accepted two_tree two_is_valid))),
    inl (two_linked, (refl, refl)),
  )

  script_is_none : Comes contents 100 called (script.AssertMalformed (codes "examples/two.json")) word.Ok called
  script_is_none =
      let short = leb-true (length two_json) most_module_bytes refl in
      (Some (Unread (fault.Malformed 0 cause.BadMagic)), (two_json, script_there, (short, no_module)), refl, refl)

  five_are : AreWords contents 100 two_commands five
  five_are =
      let fifth : Lead contents 100 called (drop 4 two_commands) (drop 4 five) called =
      (word.Ok, [], called, script_is_none, (refl, refl), refl) in
      let fourth : Lead contents 100 called (drop 3 two_commands) (drop 3 five) called =
      (word.Ok, drop 4 five, called, second_holds contents, fifth, refl) in
      let third : Lead contents 100 alone (drop 2 two_commands) (drop 2 five) called =
      (word.Ok, drop 3 five, called, call_kept contents, fourth, refl) in
      let second : Lead contents 100 alone (drop 1 two_commands) (drop 1 five) called =
      (word.Ok, drop 2 five, alone, first_holds contents, third, refl) in
      (called, (word.Ok, drop 1 five, alone, module_joins, second, refl))

  -- ---- what the words ask for

  by_script : (steps : ℕ) (commands : List Command) → IsJob two_words contents (Reports steps commands)
      → (commands ≡ two_commands) × (steps ≡ 100)
  by_script steps commands job =
      let behind = subst (λ (line : Option Line). MatchOption line (Reports steps commands ≡ Stops Usage)
      (λ l. IsJobBehind l (get contents l.script) (Reports steps commands))) two_line_is job in
      let said = subst (λ (text : Option (List ℕ)). IsJobBehind two_line text (Reports steps commands)) script_there behind in
      (one_script two_json commands two_commands said.0 two_script, said.1)

  by_words : (all : List Word) → AreWordsInTime contents 100 two_commands all → all ≡ five
  by_words all (behind, lead) =
      one_report contents 100 two_commands all five (behind, lead_plain contents 100 at_first two_commands all behind lead) five_are

  pub two_reported : (old new : Option (List ℕ)) (status : ℕ) → Reported two_words contents old new status
      → (status ≡ 0) × (new ≡ extended old two_report)
  two_reported old new status (steps, commands, job, (all, in_time, printed, is_status)) =
      let said = by_script steps commands job in
      let words = by_words all (subst (λ (n : ℕ). AreWordsInTime contents n two_commands all) said.1 (rw said.0 at in_time)) in (
        is_status ∙ ap report_status words,
        printed ∙ ap (λ (ws : List Word). extended old (report_of ws)) words ∙ ap (extended old) five_report,
      )
