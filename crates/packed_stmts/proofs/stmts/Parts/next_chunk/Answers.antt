use Rattle.packed_stmts.proofs.Common.{map, refl, ◌∙◌, rules, stmt_of}
use Rattle.packed_stmts.specs.Listed.{left}
use Rattle.packed_stmts.proofs.GapLists.{cut_all, given_then, next_left}
use Rattle.packed_stmts.proofs.stmts.Parts.next_chunk.Goals as goal

pub returns-clause-part : goal.returns-clause-part
unfolding left
returns-clause-part c =
    next_left c.args.self.now.gaps.items c.args.self.now.place c.place_behind-behind.result c.in_ok-stmts.stmts.items
    c.args.self.now.packed.items c.args.self.now.taken c.chunk_at-chunk.result.now (map stmt_of c.args.self.now.recent.items)
    (search rules) c.chunk_at-chunk.ensures c.in_ok-stmts.ensures
    ∙ given_then _ _ _ _ _ _ c.written_of-part.ensures
    (cut_all c.args.self.now.gaps.items c.deref.result.now c.args.self.now.place c.deref.ensures.value) refl
