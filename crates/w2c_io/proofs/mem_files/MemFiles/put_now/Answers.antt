use Rattle.std.proofs.Common.{refl, ◌∙◌, [], Some}
use Rattle.std.proofs.lemmas.Result.{err_from_is_err_and}
use Rattle.w2c_io.proofs.Growth.{nothing_grown}
use Rattle.w2c_io.proofs.mem_files.MemFiles.put_now.Goals as goal

pub returns-in_err-name-clause-part : goal.returns-in_err-name-clause-part
returns-in_err-name-clause-part c =
    let p = err_from_is_err_and c.from_residual.result c.from_residual.ensures.1 in
    rw p.1 ([], (c.args.piece.now, refl), nothing_grown c.args.self.now.begun c.args.self.now.entries.items c.requires)

pub returns-in_err-grow-clause-part : goal.returns-in_err-grow-clause-part
returns-in_err-grow-clause-part c =
    let p = err_from_is_err_and c.from_residual-in_err-grow.result c.from_residual-in_err-grow.ensures.1 in
    rw p.1 (
      [],
      (c.args.piece.now, refl),
      (λ i. Some (c.in_err-grow.ensures.err i))
          ∙ nothing_grown c.args.self.now.begun c.args.self.now.entries.items c.requires,
    )

pub returns-in_err-grow-2-clause-part : goal.returns-in_err-grow-2-clause-part
returns-in_err-grow-2-clause-part c =
    let p = err_from_is_err_and c.from_residual-in_err-grow-2.result c.from_residual-in_err-grow-2.ensures.1 in
    rw p.1 (
      [],
      (c.args.piece.now, refl),
      (λ i. Some (c.in_err-grow-2.ensures.err i))
          ∙ nothing_grown c.args.self.now.begun c.args.self.now.entries.items c.requires,
    )
