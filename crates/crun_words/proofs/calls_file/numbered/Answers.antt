use Rattle.crun_words.proofs.Common.{◌+◌, [], ◌∷◌, ◌++◌, sym, ◌∙◌, names_of, numbered}
use Rattle.crun_words.proofs.NumberedLines.{next}
use Rattle.crun_words.proofs.calls_file.numbered.Goals as goal

pub loop-k-preserved : goal.loop-k-preserved
loop-k-preserved c =
    let text = c.part_at-text.result.now in
    c.in_ok-put_line.ensures ∙ (λ i. c.loop-k.invariant i ++ numbered (c.loop-k.k + 1) (text ∷ []))
    ∙ sym (next (names_of c.args.all.now) c.loop-k.k text c.part_at-text.ensures)
