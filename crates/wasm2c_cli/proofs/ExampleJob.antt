-- README's first module: its tree, which is valid, its unit, and their texts; so the job of its words.
use Rattle.wasm2c_cli.proofs.Common.{◌≡◌, ℕ, ◌+◌, List, [], ◌∷◌, length, Some, codes, Option, MatchOption, sym, refl, ap, ◌∙◌, subst}
use Rattle.wasm2c_cli.proofs.Common.{leb-true, Contents, Name, Told, written, most_module_bytes, header_text_of, text_of, Line, line_of}
use Rattle.wasm2c_cli.proofs.Common.{translate, two_c, two_files, two_h, two_wasm, two_words, IsJob, IsJobOf, Job, Usage, Write, files_of}
use Rattle.wasm2c_cli.proofs.Common.{most_set_bytes, targets_of, Done, Answers}
use Rattle.std.specs.Fmt.{digits}
use Rattle.std.specs.FinMap.{get}
use Rattle.clap.proofs.OnLiterals.{clap_on_literals}
use Rattle.wasm_valid.proofs.Verdicts as verdicts
use Rattle.c_print.specs.Print.{print_of}
use Rattle.unit_definition.specs.Items.{items_of}
use Rattle.program_words.specs.Command.{rows_read}
use Rattle.wasm2c_words.specs.Command.{values_of}
use Rattle.wasm_spelling.proofs.WorkedModule.{two_spelled, two_tree}
use Rattle.wasm_typing.specs.ModuleFaults.{module_faults}
use Rattle.wasm_typing.specs.Verdict.{IsValid}
use Rattle.w2c_base.specs.declared.value.ValType.TheVariants.{I32}
use Rattle.c_print.proofs.WorkedUnit.{two_unit}
use Rattle.wasm2c_cli.proofs.JobLaws.{one_job}

-- ---- the words

abbrev two_line : Line
two_line = translate (record { input = codes "two.wasm"; output = codes "two.c"; module_name = codes "two" })

two_line_is : line_of two_words ≡ Some two_line
unfolding values_of rows_read clap_on_literals
two_line_is = refl

-- ---- the module, its unit and the texts

two_is_valid : IsValid two_tree
unfolding module_faults
two_is_valid = record {
  no_faults = refl;
  bodies = ((I32 ∷ [], ([], refl, refl), (I32 ∷ I32 ∷ [], (I32 ∷ [], refl, refl), (I32 ∷ [], ([], refl, refl), refl))), tt);
}

two_items : items_of two_tree (codes "two") ≡ two_unit
unfolding digits
two_items = refl

pub two_printed : print_of two_unit ≡ two_c
unfolding digits
two_printed = refl

two_text : text_of two_tree (codes "two") ≡ two_c
two_text = ap print_of two_items ∙ two_printed

two_header : header_text_of two_tree (codes "two") ≡ two_h
two_header = refl

-- ---- the job of the words

same_files : (files others : List (Name × List ℕ)) → Write files ≡ Write others → files ≡ others
same_files files others e = cc

two_files_are : files_of (targets_of two_line) (two_tree ∷ []) ≡ two_files
two_files_are = λ i. (codes "two.c", two_text i) ∷ (codes "two.h", two_header i) ∷ []

module _ (contents : Contents) (there : get contents (codes "two.wasm") ≡ Some two_wasm) where
  two_job_of_line : IsJobOf two_line contents (Write two_files)
  two_job_of_line = record {
    sources = two_wasm ∷ [];
    modules = two_tree ∷ [];
    read = record {
      held = (there, tt);
      fit = (leb-true (length two_wasm) most_module_bytes refl, tt);
      together = leb-true (length two_wasm + 0) most_set_bytes refl;
    };
    accepted = ((two_spelled, verdicts.accepted two_tree two_is_valid), tt);
    written = sym two_files_are;
  }

  two_job : IsJob two_words contents (Write two_files)
  two_job = subst (λ (line : Option Line). MatchOption line (Write two_files ≡ Usage) (λ l. IsJobOf l contents (Write two_files)))
      (sym two_line_is) two_job_of_line

  only_job : (job : Job) → IsJob two_words contents job → job ≡ Write two_files
  only_job job is = one_job two_words contents job (Write two_files) is two_job

  pub two_status : (job : Job) (status : ℕ) → IsJob two_words contents job → Answers job status → status ≡ 0
  two_status job status is answers = subst (λ (j : Job). Answers j status) (only_job job is) answers

  pub two_done : (new : Told) → Done two_words (Some contents) new → new ≡ written (Some contents) two_files
  two_done new done =
      let (files, job, stand) = done contents refl in
      stand ∙ ap (written (Some contents)) (same_files files two_files (only_job (Write files) job))
