-- Which call a line names.
use Rattle.crun_job.proofs.Common.{◌≡◌, ℕ, Bool, true, ◌&&◌, List, [], ◌∷◌, map, Some, None, All, Option, sym, refl, ap, ◌∙◌, subst}
use Rattle.crun_job.proofs.Common.{and_parts, false≢true, list_all, list_any, is_number, number_of, types_of, Value, same_type, same_types}
use Rattle.crun_job.proofs.Common.{CType, Program, SymbolCall, c_params_of, fits, signature_of, takes, takes_if_any, AreArguments, Call}
use Rattle.crun_job.proofs.Common.{SaysCall, NumberedLine, AreCalls, Names, program_of, AllFit, call_seen, calls_seen, NamedCall}
use Rattle.std.proofs.lemmas.List.Elements.{All-cons, All-nil}
use Rattle.c_tree.specs.Tree as tree
use Rattle.c_tree.specs.declared.tree.CType.TheVariants.{Void, U32, U64}
use Rattle.c_tree.proofs.SameTypes.{types_same}
use Rattle.c_link.proofs.Programs.{fits_says}
use Rattle.crun_words.proofs.Said.{one_call}
use Rattle.crun_job.proofs.Values.{all_numbers, same_values}

-- a call that fits is one of a function that takes its arguments
fitting : (units : List (List tree.Item)) (call : SymbolCall) (o : Option tree.FuncType) → signature_of units call.symbol ≡ o
    → fits (program_of units) call ≡ true → takes_if_any o call.args ≡ true
fitting units call o is fit = ap (λ s. takes_if_any s call.args) (sym is) ∙ fits_says (program_of units) call ∙ fit

no_function : (units : List (List tree.Item)) (call : SymbolCall) → signature_of units call.symbol ≡ None
    → fits (program_of units) call ≡ true → ⊥
no_function units call none fit = false≢true (fitting units call None none fit)

arguments_fit : (units : List (List tree.Item)) (call : SymbolCall) (ty : tree.FuncType) → signature_of units call.symbol ≡ Some ty
    → fits (program_of units) call ≡ true → AreArguments ty.params (map number_of call.args) call.args
arguments_fit units call ty is fit =
    let taken : takes ty call.args ≡ true = fitting units call (Some ty) is fit in
    let of_types : Bool = same_types ty.params (c_params_of (types_of call.args)) in
    let of_result : Bool = list_any (same_type ty.result) (Void ∷ U32 ∷ U64 ∷ []) in
    let parts = and_parts (of_types && of_result) (list_all is_number call.args) taken in
    record {
      types_are = types_same ty.params (c_params_of (types_of call.args)) (and_parts of_types of_result parts.0).0;
      numbers_are = refl;
      fit = all_numbers call.args parts.1;
    }

-- which hosts units are linked with says nothing of the calls that fit
pub fits_anywhere : (p : Program) (call : SymbolCall) → fits (program_of p.units) call ≡ fits p call
fits_anywhere p call = sym (fits_says (program_of p.units) call) ∙ fits_says p call

-- calls that lines name fit
pub all_fit : (units : List (List tree.Item)) (lines : List NumberedLine) (calls : List NamedCall)
    → AreCalls units lines (calls_seen calls)
    → AllFit units calls
all_fit units lines calls are p same = each lines calls are
  where
    Fits : NamedCall → Type 0
    Fits call = fits p (call_seen call) ≡ true

    fits_there : (call : NamedCall) → fits (program_of units) (call_seen call) ≡ true → Fits call
    fits_there call fit =
        sym (fits_anywhere p (call_seen call)) ∙ ap (λ us. fits (program_of us) (call_seen call)) same ∙ fit

    each : (lines : List NumberedLine) (calls : List NamedCall) → AreCalls units lines (calls_seen calls) → All Fits calls
    each [] [] are = All-nil Fits
    each (line ∷ lines) (call ∷ calls) (names, rest) = All-cons Fits call calls (fits_there call names.fit) (each lines calls rest)
    each _ _ are = absurd are

-- ---- a line that says a symbol and numbers

module _ (units : List (List tree.Item)) (line : List ℕ) (said : Call) (says : SaysCall line said)
    (call : SymbolCall) (names : Names units line call) where
  said_is : said ≡ record { symbol = call.symbol; numbers = map number_of call.args }
  said_is = one_call line said (record { symbol = call.symbol; numbers = map number_of call.args }) says names.said

  symbol_is : said.symbol ≡ call.symbol
  symbol_is = ap (λ (c : Call). c.symbol) said_is

  numbers_are : said.numbers ≡ map number_of call.args
  numbers_are = ap (λ (c : Call). c.numbers) said_is

  -- a unit defines the symbol
  pub has_signature : signature_of units said.symbol ≡ None → ⊥
  has_signature none = no_function units call (ap (signature_of units) (sym symbol_is) ∙ none) names.fit

  -- the numbers are arguments for its type
  pub has_arguments : (ty : tree.FuncType) → signature_of units said.symbol ≡ Some ty → AreArguments ty.params said.numbers call.args
  has_arguments ty found = rw numbers_are (arguments_fit units call ty (ap (signature_of units) (sym symbol_is) ∙ found) names.fit)

  -- and these arguments are those that fit
  pub has_fit : (ty : tree.FuncType) (args : List Value) → signature_of units said.symbol ≡ Some ty
      → AreArguments ty.params said.numbers args
      → fits (program_of units) (record { symbol = said.symbol; args = args }) ≡ true
  has_fit ty args found are =
      let own = has_arguments ty found in
      let same : call.args ≡ args =
      same_values call.args args (sym own.types_are ∙ are.types_are) (sym own.numbers_are ∙ are.numbers_are) in
      ap (λ s. fits (program_of units) (record { symbol = s; args = args })) symbol_is
      ∙ ap (λ a. fits (program_of units) (record { symbol = call.symbol; args = a })) (sym same) ∙ names.fit

-- a line that says the symbol of a call that fits, and its numbers, names it
pub named : (units : List (List tree.Item)) (line : List ℕ) (said : Call) (ps : List CType) (args : List Value) → SaysCall line said
    → AreArguments ps said.numbers args → fits (program_of units) (record { symbol = said.symbol; args = args }) ≡ true
    → Names units line (record { symbol = said.symbol; args = args })
named units line said ps args says are fit = record {
  said = subst (λ ns. SaysCall line (record { symbol = said.symbol; numbers = ns })) are.numbers_are says;
  fit = fit;
}

-- ---- a line names one call

pub one_named : (units : List (List tree.Item)) (line : List ℕ) (a b : SymbolCall) → Names units line a → Names units line b → a ≡ b
one_named units line a b first second = by_type (signature_of units a.symbol) refl
  where
    said_of : SymbolCall → Call
    said_of c = record { symbol = c.symbol; numbers = map number_of c.args }

    symbols : a.symbol ≡ b.symbol
    symbols = ap (λ (c : Call). c.symbol) (one_call line (said_of a) (said_of b) first.said second.said)

    by_type : (o : Option tree.FuncType) → signature_of units a.symbol ≡ o → a ≡ b
    by_type None none = absurd (no_function units a none first.fit)
    by_type (Some ty) found =
        let of_a = has_arguments units line (said_of a) first.said a first ty found in
        let of_b = has_arguments units line (said_of a) first.said b second ty found in
        let args : a.args ≡ b.args =
        same_values a.args b.args (sym of_a.types_are ∙ of_b.types_are) (sym of_a.numbers_are ∙ of_b.numbers_are) in
        (λ i. record { symbol = symbols i; args = args i })
