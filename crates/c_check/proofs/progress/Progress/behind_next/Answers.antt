use Rattle.c_check.proofs.Common.{List, map, bytes_eq, sym, ap, ◌∙◌, Bor, list_any, named, item_of, Item, by_name, by_names, defined_name}
use Rattle.c_check.proofs.Common.{defined_of, names_of, none_clash, finds_next}
use Rattle.c_tree.specs.Tree as tree
use Rattle.c_check.proofs.Behind.{taken, none_clash_next}
use Rattle.c_check.proofs.Sets.{knows_put}
use Rattle.c_check.proofs.progress.Progress.behind_next.Goals as goal

pub invariant_of-result : goal.invariant_of-result
invariant_of-result c =
    let s = c.args.self in
    let xs = s.file.items.now in
    let i = s.file.count in
    let x = c.args.item.now in
    let same = c.in_ok-file.ensures.items in
    let front = taken xs c.in_ok-file.file.items.now i c.in_ok-file.file.count same c.in_ok-file.ensures.count in
    record {
      names_known = λ q. s.names_known q ∙ ap (λ (ys : List Item). list_any (bytes_eq q) (names_of (map item_of ys))) (sym same);
      defined_known = λ q. s.defined_known q ∙ ap (λ (ys : List Item). list_any (bytes_eq q) (defined_of (map item_of ys))) (sym same);
      earlier_known = λ q.
          knows_put item_of defined_name xs i x c.requires.room c.requires.next s.earlier.defined
          c.put.new.set _ c.defined_name.ensures c.in_ok-put.ensures s.earlier_known q
          ∙ ap (λ (items : List tree.Item). list_any (bytes_eq q) (defined_of items)) front;
      kept = ap none_clash (sym front) ∙ none_clash_next xs i x c.requires.room c.requires.next c.requires.kept s.kept;
    }

pub returns-clause-first : goal.returns-clause-first
returns-clause-first c q =
    let s = c.args.self in
    let xs = s.file.items.now in
    let i = s.file.count in
    finds_next item_of by_name (λ
    (i : Bor Item). item_of i.now) xs i c.args.item.now c.requires.room c.requires.next s.earlier.first c.enter_first.new.first
    c.in_ok-enter_first.ensures c.requires.found q
    ∙ ap (λ (items : List tree.Item). named q (by_names items))
    (taken xs c.in_ok-file.file.items.now i c.in_ok-file.file.count c.in_ok-file.ensures.items c.in_ok-file.ensures.count)
