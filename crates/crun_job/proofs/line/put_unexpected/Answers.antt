use Rattle.crun_job.proofs.Common.{◌≡◌, ℕ, List, ◌++◌, codes, decimal, ap, ◌∙◌, append_assoc, on_ok_weaker, wanted_text}
use Rattle.crun_job.proofs.line.put_unexpected.Goals as goal

-- a text behind another one
behind : (line first second third other mid new : List ℕ) → mid ≡ line ++ first → other ≡ third → new ≡ mid ++ (second ++ other)
    → new ≡ line ++ (first ++ (second ++ third))
behind line first second third other mid new is same e =
    e ∙ ap (λ l. l ++ (second ++ other)) is ∙ append_assoc line first (second ++ other) ∙ ap (λ t. line ++ (first ++ (second ++ t))) same

pub returns : goal.returns
returns c =
    on_ok_weaker c.put_two.result
    (behind c.args.line.now (codes "unexpected at " ++ decimal c.args.place) (codes ": wanted ") (wanted_text c.args.wanted)
    c.text_of_wanted.result.now c.put_counted.new.line c.put_two.new.line c.in_ok-put_counted.ensures c.text_of_wanted.ensures)
    c.put_two.ensures
