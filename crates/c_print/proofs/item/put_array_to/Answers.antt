use Rattle.c_print.proofs.Common.{ℕ, ◌++◌, ◌∷◌, [], rules, Fixed, separated, printed_onto}
use Rattle.std.proofs.lemmas.Result.{err_from_is_err_and}
use Rattle.w2c_io.specs.declared.answers.WriteAnswer.TheVariants as writing
use Rattle.c_tree.specs.declared.token.Tok.TheVariants as tok
use Rattle.c_tree.specs.declared.tree.Num.TheVariants.{Plain}
use Rattle.c_tree.specs.Trees.{num_token}
use Rattle.c_print.specs.ToFile.{array_head}
use Rattle.c_print.proofs.ToFile.{prints_here, prints_both, fails_here, fails_in, fails_last, fails_between}
use Rattle.c_print.proofs.item.put_array_to.Goals as goal

pub returns-in_err-put_array_head-clause-part : goal.returns-in_err-put_array_head-clause-part
returns-in_err-put_array_head-clause-part g c =
    let head = array_head c.args.name.now c.args.count in
    let bytes = separated (λ (byte : ℕ). num_token (Plain byte) ∷ []) c.args.bytes.now in
    let p = err_from_is_err_and c.from_residual.result c.from_residual.ensures.1 in
    rw (p.1, p.2) (fails_here g.F.Files c.args.files.now
    (printed_onto c.args.page.now (head ++ (bytes ++ Fixed tok.RightBrace ∷ Fixed tok.Semicolon ∷ []))).text)

pub returns-in_err-put_separated_to-clause-part : goal.returns-in_err-put_separated_to-clause-part
returns-in_err-put_separated_to-clause-part g c =
    let files = c.args.files.now in
    let head = array_head c.args.name.now c.args.count in
    let bytes = separated (λ (byte : ℕ). num_token (Plain byte) ∷ []) c.args.bytes.now in
    let p = err_from_is_err_and c.from_residual-in_err-put_separated_to.result c.from_residual-in_err-put_separated_to.ensures.1 in
    rw (p.1, p.2) (fails_in g.F.Files files files c.put_separated_to.new.files c.args.page.now c.put_array_head.new.page head bytes
    (Fixed tok.RightBrace ∷ Fixed tok.Semicolon ∷ []) c.in_err-put_separated_to.field-0.0
    (prints_here g.F.Files files c.args.page.now c.put_array_head.new.page head (search rules))
    (rw c.as_slice.ensures at c.in_err-put_separated_to.ensures.part))

pub returns-in_err-all_fixed-clause-part : goal.returns-in_err-all_fixed-clause-part
returns-in_err-all_fixed-clause-part g c =
    let files = c.args.files.now in
    let head = array_head c.args.name.now c.args.count in
    let bytes = separated (λ (byte : ℕ). num_token (Plain byte) ∷ []) c.args.bytes.now in
    let close = Fixed tok.RightBrace ∷ Fixed tok.Semicolon ∷ [] in
    let p = err_from_is_err_and c.from_residual-in_err-all_fixed.result c.from_residual-in_err-all_fixed.ensures.1 in
    rw (p.1, p.2) (fails_last g.F.Files files files c.put_separated_to.new.files c.args.page.now c.put_array_head.new.page head
    (bytes ++ close) writing.Memory (prints_here g.F.Files files c.args.page.now c.put_array_head.new.page head (search rules))
    (fails_between g.F.Files files c.put_separated_to.new.files c.put_array_head.new.page c.put_separated_to.new.page bytes close
    (rw c.as_slice.ensures at c.in_ok-put_separated_to.ensures.whole)))

pub returns-clause-whole : goal.returns-clause-whole
returns-clause-whole g c =
    let files = c.args.files.now in
    let after = c.put_separated_to.new.files in
    let head = array_head c.args.name.now c.args.count in
    let bytes = separated (λ (byte : ℕ). num_token (Plain byte) ∷ []) c.args.bytes.now in
    let close = Fixed tok.RightBrace ∷ Fixed tok.Semicolon ∷ [] in
    prints_both g.F.Files files files after c.args.page.now c.put_array_head.new.page c.all_fixed.new.self head (bytes ++ close)
    (prints_here g.F.Files files c.args.page.now c.put_array_head.new.page head (search rules))
    (prints_both g.F.Files files after after c.put_array_head.new.page c.put_separated_to.new.page c.all_fixed.new.self bytes close
    (rw c.as_slice.ensures at c.in_ok-put_separated_to.ensures.whole)
    (prints_here g.F.Files after c.put_separated_to.new.page c.all_fixed.new.self close (search rules)))
