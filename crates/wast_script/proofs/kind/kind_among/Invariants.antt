use Rattle.wast_script.proofs.Common.{◌≡◌, Bool, drop, find, bytes_eq, kind_text}
use Rattle.wast_script.specs.declared.kind.Kind.{Kind}
use Rattle.wast_script.proofs.kind.kind_among.Given as goal

abbrev pub invariant-loop-kind : goal.invariant-loop-kind
invariant-loop-kind l =
    let is_it : Kind → Bool = λ kind. bytes_eq (kind_text kind) l.text in
    find is_it (drop l.kind-index l.kinds) ≡ find is_it l.kinds
