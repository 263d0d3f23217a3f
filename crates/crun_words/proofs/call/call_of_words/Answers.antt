use Rattle.crun_words.proofs.Common.{◌≡◌, ℕ, List, ◌∷◌, ap, ◌∙◌, Bor, names_of, IsSymbolOf}
use Rattle.crun_words.proofs.Said.{said_by}
use Rattle.crun_words.proofs.call.call_of_words.Goals as goal

pub returns-in_default-2-clause-none : goal.returns-in_default-2-clause-none
returns-in_default-2-clause-none c = λ call said.
    let words = names_of c.args.words.now in
    let module_word = c.in-Some.module_word.now.now in
    let export_word = c.in-Some-split_first.export_word.now.now in
    let number_words = names_of c.in-Some-split_first.number_words.now in
    let are : words ≡ module_word ∷ export_word ∷ number_words = ap names_of c.in-Some.ensures.cases.0
    ∙ ap (λ (rest : List (Bor (List ℕ))). module_word ∷ names_of rest) c.in-Some-split_first.ensures.cases.0 in
    let none : (symbol : List ℕ) → IsSymbolOf module_word export_word symbol → ⊥ = rw c.in_default-2.is at c.in_ok-symbol.ensures.none in
    none call.symbol (said_by words module_word export_word number_words call are said).0
