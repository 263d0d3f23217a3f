use Rattle.c_check.proofs.Common.{◌≡◌, not, ◌&&◌, Some, option_map, bytes_eq, sym, ap, ◌∙◌, Bor, list_any, named, are_alike, has_body}
use Rattle.c_check.proofs.Common.{name_of, item_of, Item, first_named, none_named, by_names, defined_of, declared}
use Rattle.c_check.proofs.declarations.is_declared_once.Goals as goal

pub returns-in-Some : goal.returns-in-Some
returns-in-Some c =
    let item = item_of c.args.item.now in
    let first = item_of c.in-Some.first.now in
    let items = declared c.args.file.now in
    let n = c.name-own.result.now in
    let found : named (name_of item) (by_names items) ≡ Some first = ap (λ n. named n (by_names items)) (sym c.name-own.ensures)
    ∙ sym (c.requires.first n) ∙ sym (ap (option_map (λ (i : Bor Item). item_of i.now)) c.in-Some.ensures) in
    c.may_both_stand.ensures
    ∙ ap (λ b. are_alike first item && not (b && has_body item))
    (c.has.ensures ∙ c.requires.defined n ∙ ap (λ n. list_any (bytes_eq n) (defined_of items)) c.name-own.ensures)
    ∙ sym (first_named item items first c.requires.kept found)

pub returns-in-None : goal.returns-in-None
returns-in-None c =
    let item = item_of c.args.item.now in
    let items = declared c.args.file.now in
    sym (none_named item items (ap (λ n. named n (by_names items)) (sym c.name-own.ensures) ∙ sym
    (c.requires.first c.name-own.result.now) ∙ ap (option_map (λ (i : Bor Item). item_of i.now)) (sym c.in-None.ensures)))
