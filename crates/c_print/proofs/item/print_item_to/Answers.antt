use Rattle.c_print.proofs.Common.{◌≡◌, List, ℕ, ap, ◌∙◌, subst, refl, IfErr, OnOk, laid, Fixed, item_tokens, item_of, ended, gap_between}
use Rattle.c_print.proofs.Common.{print_item_of, printed_onto, Page}
use Rattle.c_tree.specs.declared.token.Tok.TheVariants as tok
use Rattle.c_print.specs.ToFile.{HasPut, HasFailed}
use Rattle.c_print.proofs.PageText.{item_text}
use Rattle.c_print.proofs.Spells.{spells_item}
use Rattle.c_print.proofs.ToFile.{answer_written, answer_part, answer_current, answer_cause, answer_named, answer_reads, answer_passed}
use Rattle.c_print.proofs.ToFile.{answer_tried}
use Rattle.c_print.proofs.item.print_item_to.Goals as goal

pub returns : goal.returns
returns g c =
    let f = g.F.Files in
    let item = item_of c.args.item.now in
    let old = c.args.files.now in
    let new = c.put_line_to.new.files in
    let r = c.put_line_to.result in
    let text = print_item_of item in
    let same : (ended (printed_onto c.new-page.result (item_tokens item))).text ≡ text =
    ap (λ (page : Page). (ended (printed_onto page (item_tokens item))).text) c.new-page.ensures ∙ item_text item in
    let put = subst (λ (l : List ℕ). OnOk r (HasPut f old new l)) same c.put_line_to.ensures.whole in
    let failed = subst (λ (l : List ℕ). IfErr r (λ why. HasFailed f old new l why)) same c.put_line_to.ensures.part in
    record {
      written = answer_written f old new text r (laid gap_between (Fixed tok.Include) (item_tokens item)) refl put;
      spells = spells_item item c.requires.formed;
      part = answer_part f old new text r failed;
      current = answer_current f old new text r put failed;
      cause = answer_cause f old new text r put failed;
      named = answer_named f old new text r put failed;
      reads = answer_reads f old new text r put failed;
      passed = answer_passed f old new text r put;
      tried = answer_tried f old new text r failed;
    }
