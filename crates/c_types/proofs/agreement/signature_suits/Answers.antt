use Rattle.c_types.proofs.Common.{List, map, sym, ap, ◌∙◌, args_suit, proper_types, arg_of, scope_of}
use Rattle.c_tree.specs.Tree as tree
use Rattle.c_scope.specs.Signatures.{signature_type}
use Rattle.c_types.proofs.agreement.signature_suits.Goals as goal

pub returns-in-Declared : goal.returns-in-Declared
returns-in-Declared c =
    c.args_suit.ensures
    ∙ ap (λ ts. args_suit (scope_of c.args.s.now) ts (map arg_of c.args.args.now))
    (c.proper_types.ensures ∙ ap (λ (ps : List tree.Param). proper_types (map (λ (p : tree.Param). p.0) ps)) c.as_slice.ensures)
    ∙ ap (λ g. args_suit (scope_of c.args.s.now) (proper_types (signature_type g).params) (map arg_of c.args.args.now))
    (sym c.in-Declared.is)
