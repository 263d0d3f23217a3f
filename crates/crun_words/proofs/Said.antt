-- The call that words say.
use Rattle.crun_words.proofs.Common.{◌≡◌, ℕ, List, [], ◌∷◌, sym, ◌∙◌, subst, same_parts, AreNumbers, Call, IsSymbolOf, SayCall, SaysCall}
use Rattle.crun_words.proofs.Common.{words_in}
use Rattle.crun_words.proofs.Lists.{same_items}
use Rattle.crun_words.proofs.Names.{one_symbol}

pub no_word : (words : List (List ℕ)) (call : Call) → words ≡ [] → SayCall words call → ⊥
no_word words call none said =
    let both : ◌≡◌ {A = List (List ℕ)} [] (said.module_word ∷ said.export_word ∷ said.number_words) = sym none ∙ said.words_are in cc

pub one_word : (words : List (List ℕ)) (word : List ℕ) (call : Call) → words ≡ word ∷ [] → SayCall words call → ⊥
one_word words word call one said =
    let both : word ∷ [] ≡ said.module_word ∷ said.export_word ∷ said.number_words = sym one ∙ said.words_are in cc

-- what each word says
pub said_by : (words : List (List ℕ)) (m x : List ℕ) (numbers : List (List ℕ)) (call : Call) → words ≡ m ∷ x ∷ numbers → SayCall words call
    → IsSymbolOf m x call.symbol × AreNumbers numbers call.numbers
said_by words m x numbers call is said =
    let first = same_parts m said.module_word (x ∷ numbers) (said.export_word ∷ said.number_words) (sym is ∙ said.words_are) in
    let second = same_parts x said.export_word numbers said.number_words first.1 in (
      subst (λ w. IsSymbolOf w x call.symbol) (sym first.0) (rw second.0 said.symbol),
      subst (λ l. AreNumbers l call.numbers) (sym second.1) said.numbers,
    )

pub one_call : (line : List ℕ) (a b : Call) → SaysCall line a → SaysCall line b → a ≡ b
one_call line a b said other =
    let parts = said_by (words_in line) said.module_word said.export_word said.number_words b said.words_are other in
    let symbols : a.symbol ≡ b.symbol = one_symbol said.module_word said.export_word a.symbol b.symbol said.symbol parts.0 in
    let numbers : a.numbers ≡ b.numbers = same_items a.numbers b.numbers (sym said.numbers ∙ parts.1) in
    λ i. record { symbol = symbols i; numbers = numbers i }
