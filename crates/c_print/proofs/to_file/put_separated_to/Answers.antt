use Rattle.c_print.proofs.Common.{◌≡◌, ◌∷◌, [], List, sym, refl, ap, subst, take, drop, rules, IsSome, Fixed, Token, each}
use Rattle.c_print.proofs.Common.{length, printed_onto, separated}
use Rattle.std.proofs.lemmas.Result.{err_from_is_err_and}
use Rattle.std.proofs.lemmas.List.{nil_from_length}
use Rattle.c_tree.specs.declared.token.Tok.TheVariants as tok
use Rattle.c_print.specs.ToFile.{HasFailed}
use Rattle.c_print.proofs.Onto.{separated_at}
use Rattle.c_print.proofs.ToFile.{prints_here, fails_in, last_prints, last_fails}
use Rattle.c_print.proofs.to_file.put_separated_to.Goals as goal

pub returns-then-is_empty-clause-whole : goal.returns-then-is_empty-clause-whole
returns-then-is_empty-clause-whole g c =
    let none : length c.args.pieces.now ≡ 0 = search rules in
    let empty : c.args.pieces.now ≡ [] = nil_from_length c.args.pieces.now none in
    prints_here g.F.Files c.args.files.now c.args.page.now c.args.page.now (separated g.T.Piece.tokens c.args.pieces.now)
    (sym (ap (λ l. printed_onto c.args.page.now (separated g.T.Piece.tokens l)) empty))

pub returns-in_err-put_each_to-clause-part : goal.returns-in_err-put_each_to-clause-part
returns-in_err-put_each_to-clause-part g c =
    let xs = c.args.pieces.now in
    let page = c.args.page.now in
    let files = c.args.files.now in
    let p = err_from_is_err_and c.from_residual.result c.from_residual.ensures.1 in
    let front = each g.T.Piece.tokens (take 1 xs) in
    let back = each (λ x. Fixed tok.Comma ∷ g.T.Piece.tokens x) (drop 1 xs) in
    rw (p.1, p.2) (subst (λ (l : List Token). HasFailed g.F.Files files c.put_each_to.new.files (printed_onto page l).text
    c.in_err-put_each_to.field-0.0) (sym (separated_at g.T.Piece.tokens xs))
    (fails_in g.F.Files files files c.put_each_to.new.files page page [] front back c.in_err-put_each_to.field-0.0
    (prints_here g.F.Files files page page [] refl) (rw c.split_at.ensures.front at c.in_err-put_each_to.ensures.part)))

pub put_each_to-requires-2 : goal.put_each_to-requires-2
put_each_to-requires-2 g c = record { current = subst IsSome (sym c.in_ok-put_each_to.ensures.whole.put.current) c.requires.current }

pub returns-clause-whole : goal.returns-clause-whole
returns-clause-whole g c =
    let xs = c.args.pieces.now in
    let front = each g.T.Piece.tokens (take 1 xs) in
    let back = each (λ x. Fixed tok.Comma ∷ g.T.Piece.tokens x) (drop 1 xs) in
    rw (separated_at g.T.Piece.tokens xs) (last_prints g.F.Files c.args.files.now c.put_each_to.new.files c.put_each_to-2.new.files
    c.args.page.now c.put_each_to.new.page c.put_each_to-2.new.page front back c.put_each_to-2.result
    (rw c.split_at.ensures.front at c.in_ok-put_each_to.ensures.whole) (rw c.split_at.ensures.back at c.put_each_to-2.ensures.whole))

pub returns-clause-part : goal.returns-clause-part
returns-clause-part g c =
    let xs = c.args.pieces.now in
    let front = each g.T.Piece.tokens (take 1 xs) in
    let back = each (λ x. Fixed tok.Comma ∷ g.T.Piece.tokens x) (drop 1 xs) in
    rw (separated_at g.T.Piece.tokens xs) (last_fails g.F.Files c.args.files.now c.put_each_to.new.files c.put_each_to-2.new.files
    c.args.page.now c.put_each_to.new.page front back c.put_each_to-2.result
    (rw c.split_at.ensures.front at c.in_ok-put_each_to.ensures.whole) (rw c.split_at.ensures.back at c.put_each_to-2.ensures.part))
