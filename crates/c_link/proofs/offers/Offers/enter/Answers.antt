use Rattle.c_link.proofs.Common.{if◌then◌else◌, Some, None, bytes_eq, ap, ◌∙◌, option_or, named}
use Rattle.c_link.proofs.Tables.{told_more}
use Rattle.c_link.proofs.offers.Offers.enter.Goals as goal

pub returns : goal.returns
returns c q =
    told_more q c.args.symbol.now c.args.offer c.args.self.now c.enter.new.self (
    c.in_ok-enter.ensures q
    ∙ ap (λ t. option_or (named q t) (if bytes_eq c.args.symbol.now q then Some c.args.offer else None)) c.self.view_is
    )
