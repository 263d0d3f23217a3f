use Rattle.c_lex.proofs.Common.{◌≡◌, ◌+◌, sym, ap, ◌∙◌, arith, lexemes}
use Rattle.c_lex.proofs.Scanned.{behind_gap}
use Rattle.c_lex.proofs.cursor.scan.Goals as goal

pub gaps-preserved : goal.gaps-preserved
gaps-preserved c =
    let q : c.gaps.at + (c.in-Gap.n + 1) ≡ c.gaps.at + c.in-Gap.n + 1 = omega arith in
    let back = c.split_at.ensures.back in (
      omega (arith, c.split_at.ensures.back_len, c.in-Gap.ensures.within),
      ap (λ p. lexemes 0 p c.split_at.result.1.now) q ∙ ap (lexemes 0 (c.gaps.at + c.in-Gap.n + 1)) back
          ∙ sym (behind_gap c.gaps.rest.now c.gaps.at c.in-Gap.n c.in-Gap.ensures.within c.in-Gap.ensures.value) ∙ c.gaps.invariant.1,
    )
