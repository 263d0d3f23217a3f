use Rattle.crun_job.proofs.Common.{◌++◌, codes, sym, ap, ◌∙◌, on_ok_weaker, cause_text}
use Rattle.crun_job.proofs.line.put_cause.Goals as goal

pub returns-in-TypeDiffers : goal.returns-in-TypeDiffers
returns-in-TypeDiffers c =
    on_ok_weaker c.put_two-in-TypeDiffers.result
    (λ e. e ∙ ap (λ s. c.args.line.now ++ (codes "type differs " ++ s)) c.as_slice-in-TypeDiffers.ensures
    ∙ ap (λ why. c.args.line.now ++ cause_text why) (sym c.in-TypeDiffers.is))
    c.put_two-in-TypeDiffers.ensures
