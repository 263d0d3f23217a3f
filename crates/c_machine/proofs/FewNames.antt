-- Names that are compared one by one.
use Rattle.c_machine.proofs.Common.{◌≡◌, ℕ, List, [], ◌∷◌, ◌++◌, map, if◌then◌else◌, Some, None, bytes_eq, ap, ◌∙◌, map_push, option_or}
use Rattle.c_machine.proofs.Common.{named, named-append, entry_of}
use Rattle.c_machine.specs.declared.numbered_names.NumberedName.{NumberedName}

-- a name at the end
pub named_pushed : (q name : List ℕ) (names : List NumberedName) (one : NumberedName) → one.name.items ≡ name
    → named q (map entry_of (names ++ one ∷ []))
    ≡ option_or (named q (map entry_of names)) (if bytes_eq name q then Some one.number else None)
named_pushed q name names one is =
    ap (named q) (map_push entry_of names one) ∙ named-append q (map entry_of names) (entry_of one ∷ [])
    ∙ ap (λ n. option_or (named q (map entry_of names)) (if bytes_eq n q then Some one.number else None)) is
