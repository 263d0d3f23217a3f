use Rattle.packed_stmts.proofs.Common.{ap, ◌∙◌, rules, Stmt}
use Rattle.std.specs.Global.{Vec}
use Rattle.packed_stmts.specs.Listed.{left}
use Rattle.packed_stmts.proofs.GapLists.{cut_all, given_then, last_left}
use Rattle.packed_stmts.proofs.stmts.Parts.last.Goals as goal

pub returns-clause-part : goal.returns-clause-part
unfolding left
returns-clause-part c =
    last_left c.args.self.now.gaps.items c.args.self.now.place c.args.self.now.packed.items c.args.self.now.taken
    c.args.self.now.recent.items c.replace-recent.new.dest.items (search rules) (search rules)
    ∙ given_then _ _ _ _ _ _ c.written_of.ensures
    (cut_all c.args.self.now.gaps.items c.deref.result.now c.args.self.now.place c.deref.ensures.value)
    (ap (λ (v : Vec Stmt). v.items) c.replace-recent.ensures.value)
