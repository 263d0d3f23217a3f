use Rattle.c_print.proofs.Common.{sym, subst, refl, OnOk, OnErr, IfErr, laid, Fixed, item_tokens, gap_between, print_item_of}
use Rattle.c_tree.specs.declared.token.Tok.TheVariants as tok
use Rattle.packed_stmts.specs.declared.items.PackedItem.{PackedItem}
use Rattle.packed_stmts.specs.PackedItems.{packed_item_of}
use Rattle.w2c_io.specs.Contents.{AppendsPart}
use Rattle.c_print.specs.ToFile.{HasPut, HasFailed}
use Rattle.c_print.proofs.ToFile.{answer_written, answer_part, answer_current, answer_cause, answer_named, answer_reads, answer_passed}
use Rattle.c_print.proofs.ToFile.{answer_tried}
use Rattle.c_print.proofs.packed.print_packed_to.Goals as goal

pub returns-in-Func : goal.returns-in-Func
returns-in-Func g c =
    let f = g.F.Files in
    let item = packed_item_of c.args.item in
    let old = c.args.files.now in
    let new = c.put_packed_line_to-printed.new.files in
    let r = c.put_packed_line_to-printed.result in
    let text = print_item_of item in
    let put = subst (λ (i : PackedItem). OnOk r (HasPut f old new (print_item_of (packed_item_of i)))) (sym c.in-Func.is)
    c.put_packed_line_to-printed.ensures.whole in
    let failed = subst (λ (i : PackedItem). IfErr r (λ why. HasFailed f old new (print_item_of (packed_item_of i)) why)) (sym c.in-Func.is)
    c.put_packed_line_to-printed.ensures.part in
    record {
      written = answer_written f old new text r (laid gap_between (Fixed tok.Include) (item_tokens item)) refl put;
      part = answer_part f old new text r failed;
      current = answer_current f old new text r put failed;
      cause = answer_cause f old new text r put failed;
      named = answer_named f old new text r put failed;
      reads = answer_reads f old new text r put failed;
      passed = answer_passed f old new text r put;
      tried = answer_tried f old new text r failed;
    }

pub returns-in-Whole-clause-part : goal.returns-in-Whole-clause-part
returns-in-Whole-clause-part g c =
    let f = g.F.Files in
    subst (λ (i : PackedItem). OnErr c.print_item_to-printed.result (AppendsPart (f.told c.args.files.now)
    (f.told c.print_item_to-printed.new.files) (f.current c.args.files.now) (print_item_of (packed_item_of i)))) (sym c.in-Whole.is)
    c.print_item_to-printed.ensures.part
