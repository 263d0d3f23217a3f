use Rattle.c_print.proofs.Common.{◌≡◌, List, ℕ, sym, refl, ap, ◌∙◌, subst, IsSome, IfErr, OnOk, item_tokens, ended}
use Rattle.c_print.proofs.Common.{print_item_of, printed_onto, Page}
use Rattle.std.proofs.lemmas.Result.{err_from_is_err_and}
use Rattle.c_tree.specs.Tree as tree
use Rattle.packed_stmts.specs.PackedItems.{packed_func_of}
use Rattle.c_print.specs.ToFile.{HasPut, HasFailed}
use Rattle.c_print.proofs.PageText.{item_text}
use Rattle.c_print.proofs.ToFile.{line_breaks, line_put, line_fails}
use Rattle.c_print.proofs.packed.put_packed_line_to.Goals as goal

-- the text of an item on a new page
on_new : (item : tree.Item) (page new : Page) → page ≡ new → (ended (printed_onto new (item_tokens item))).text ≡ print_item_of item
    → (ended (printed_onto page (item_tokens item))).text ≡ print_item_of item
on_new item page new is text = ap (λ (p : Page). (ended (printed_onto p (item_tokens item))).text) is ∙ text

pub returns-in_err-put_packed_function_to-clause-part : goal.returns-in_err-put_packed_function_to-clause-part
returns-in_err-put_packed_function_to-clause-part g c =
    let item : tree.Item = tree.Function (packed_func_of c.args.func.now) in
    let why = c.in_err-put_packed_function_to.field-0.0 in
    let p = err_from_is_err_and c.from_residual.result c.from_residual.ensures.1 in
    rw (p.1, p.2) (subst (λ (l : List ℕ). HasFailed g.F.Files c.args.files.now c.put_packed_function_to.new.files l why)
    (on_new item c.new-page.result _ c.new-page.ensures (item_text item))
    (line_breaks g.F.Files c.args.files.now c.put_packed_function_to.new.files c.new-page.result (item_tokens item) why
    c.in_err-put_packed_function_to.ensures.part))

pub put_end_to-requires : goal.put_end_to-requires
put_end_to-requires g c =
    record { current = subst IsSome (sym c.in_ok-put_packed_function_to.ensures.whole.put.current) c.requires.current }

pub returns-clause-whole : goal.returns-clause-whole
returns-clause-whole g c =
    let item : tree.Item = tree.Function (packed_func_of c.args.func.now) in
    subst (λ (l : List ℕ). OnOk c.put_end_to.result (HasPut g.F.Files c.args.files.now c.put_end_to.new.files l))
    (on_new item c.new-page.result _ c.new-page.ensures (item_text item))
    (line_put g.F.Files c.args.files.now c.put_packed_function_to.new.files c.put_end_to.new.files c.new-page.result
    c.put_packed_function_to.new.page (ended c.put_packed_function_to.new.page) (item_tokens item) c.put_end_to.result
    c.in_ok-put_packed_function_to.ensures.whole refl c.put_end_to.ensures.whole)

pub returns-clause-part : goal.returns-clause-part
returns-clause-part g c =
    let item : tree.Item = tree.Function (packed_func_of c.args.func.now) in
    subst (λ (l : List ℕ). IfErr c.put_end_to.result (λ why. HasFailed g.F.Files c.args.files.now c.put_end_to.new.files l why))
    (on_new item c.new-page.result _ c.new-page.ensures (item_text item))
    (line_fails g.F.Files c.args.files.now c.put_packed_function_to.new.files c.put_end_to.new.files c.new-page.result
    c.put_packed_function_to.new.page (ended c.put_packed_function_to.new.page) (item_tokens item) c.put_end_to.result
    c.in_ok-put_packed_function_to.ensures.whole refl c.put_end_to.ensures.part)
