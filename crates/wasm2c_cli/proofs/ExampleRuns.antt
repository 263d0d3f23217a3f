-- Runs of README's unit: two.c spells it and no other, and each call of its export is nine statements and gives 42.
use Rattle.wasm2c_cli.proofs.Common.{◌≡◌, ℕ, zero, suc, ◌+◌, ◌*◌, ◌≤◌, ◌≢◌, List, [], ◌∷◌, ◌++◌, map, length, replicate, Some, zip, sym, ap}
use Rattle.wasm2c_cli.proofs.Common.{refl, ◌∙◌, subst, inl, inr, append_assoc, append-nil, arith, range_with_len, two_c, two_call, two_run}
use Rattle.std.proofs.lemmas.Bool.{cases_lt}
use Rattle.w2c_base.specs.declared.value.Value.TheVariants.{I32}
use Rattle.w2c_base.specs.Run.{Call, CallEnded, Event, Host, Init, Phase, Reply, values_in}
use Rattle.c_tree.specs.Spelled.{CSpells}
use Rattle.c_tree.specs.Tree.{Item}
use Rattle.c_tree.proofs.OneUnit.{one_unit}
use Rattle.c_meaning.specs.Linking.{Program, SymbolCall, called_func}
use Rattle.c_meaning.specs.State.{Machine, Objects}
use Rattle.c_meaning.specs.Run.{CRun, Ended, Entry, OutOfSteps, Outcome, Over, after, begin_entry, c_run, c_start, over, run_of}
use Rattle.c_meaning.proofs.Longer.{after_sum, run_longer}
use Rattle.c_print.proofs.WorkedUnit.{two_spelled_by, two_unit}
use Rattle.wasm2c_cli.proofs.ExampleJob.{two_printed}

-- ---- the unit

pub two_spells : CSpells two_unit two_c
two_spells = two_spelled_by two_c two_printed

-- ---- calls one after another, each of which is nine statements and ends with the same event

module _ (p : Program) (call : SymbolCall) (gave : Event) (replies : List Reply) (made : List Objects) where
  -- the machine between calls, behind these events
  abbrev between : List Event → Machine
  between events = record { depth = 0; units = made; trail = record { replies = replies; events = events } }

  abbrev entry : ℕ × SymbolCall → Entry
  entry c = record { phase = Call c.0; func = called_func p c.1; args = c.1.args }

  -- so many calls, the first of which has this number
  abbrev entries : ℕ → ℕ → List Entry
  entries k n = map entry (zip (range_with_len k (length (replicate n call))) (replicate n call))

  abbrev last_phase : ℕ → ℕ → Phase → Phase
  last_phase k zero last = last
  last_phase k (suc n) last = last_phase (k + 1) n (Call k)

  abbrev ended : Phase → List Event → CRun
  ended last events = over (record { phase = last; entries = [] }) (between events) Ended

  abbrev IsOne : Type 0
  IsOne = (k : ℕ) (events : List Event) (last : Phase) (others : List Entry)
      → after p 9 (begin_entry p (between events) last (entry (k, call) ∷ others))
      ≡ begin_entry p (between (events ++ gave ∷ [])) (Call k) others

  calls_run : IsOne → (n k : ℕ) (events : List Event) (last : Phase) → after p (9 * n) (begin_entry p (between events) last (entries k n))
      ≡ Over (ended (last_phase k n last) (events ++ replicate n gave))
  calls_run one zero k events last = ap (λ told. Over (ended last told)) (sym (append-nil events))
  calls_run one (suc n) k events last =
      let e : 9 * suc n ≡ 9 + 9 * n = omega arith in
      ap (λ i. after p i (begin_entry p (between events) last (entries k (suc n)))) e
      ∙ after_sum p 9 (9 * n) (begin_entry p (between events) last (entries k (suc n)))
      ∙ ap (after p (9 * n)) (one k events last (entries (k + 1) n)) ∙ calls_run one n (k + 1) (events ++ gave ∷ []) (Call k)
      ∙ ap (λ told. Over (ended (last_phase (k + 1) n (Call k)) told)) (append_assoc events (gave ∷ []) (replicate n gave))

-- ---- the unit's runs

abbrev alone : List Host → Program
alone hosts = record { units = two_unit ∷ []; hosts = hosts }

-- the unit has no objects
abbrev nothing : List Objects
nothing = record { vars = []; memories = []; tables = [] } ∷ []

abbrev gave_42 : Event
gave_42 = CallEnded (Some (I32 42))

-- so many calls, with so many statements
abbrev run : List Host → List Reply → ℕ → ℕ → CRun
run hosts replies n steps = c_run (alone hosts) (replicate n two_call) steps replies

module _ (hosts : List Host) (replies : List Reply) where
  one_call : IsOne (alone hosts) two_call gave_42 replies nothing
  one_call k events last others = refl

  begins : (n : ℕ) → after (alone hosts) 2 (c_start (alone hosts) (replicate n two_call) replies)
      ≡ begin_entry (alone hosts) (between (alone hosts) two_call gave_42 replies nothing []) (Init 0)
      (entries (alone hosts) two_call gave_42 replies nothing 0 n)
  begins n = refl

  -- with just enough statements
  abbrev whole : ℕ → CRun
  whole n = ended (alone hosts) two_call gave_42 replies nothing
      (last_phase (alone hosts) two_call gave_42 replies nothing 0 n (Init 0)) (replicate n gave_42)

  enough_is : (n : ℕ) → run hosts replies n (2 + 9 * n) ≡ whole n
  enough_is n = ap run_of (after_sum (alone hosts) 2 (9 * n) (c_start (alone hosts) (replicate n two_call) replies)
      ∙ ap (after (alone hosts) (9 * n)) (begins n) ∙ calls_run (alone hosts) two_call gave_42 replies nothing one_call n 0 [] (Init 0))

  not_out : (o : Outcome) → o ≡ Ended → o ≢ OutOfSteps
  not_out o is out = cc

  -- with any number of statements that is enough
  more_is : (n steps : ℕ) → 2 + 9 * n ≤ steps → run hosts replies n steps ≡ whole n
  more_is n steps le =
      let least = enough_is n in
      run_longer (alone hosts) (replicate n two_call) replies (2 + 9 * n) steps le
      (not_out (run hosts replies n (2 + 9 * n)).outcome (ap (λ (r : CRun). r.outcome) least)) ∙ least

  -- with any at all, where they are not spent
  over_is : (n steps : ℕ) → (run hosts replies n steps).outcome ≢ OutOfSteps → run hosts replies n steps ≡ whole n
  over_is n steps is_over = elim (cases_lt steps (2 + 9 * n)) [
    | inl less ↦ sym (run_longer (alone hosts) (replicate n two_call) replies steps (2 + 9 * n) (omega (arith, less)) is_over)
        ∙ enough_is n
    | inr le ↦ more_is n steps le
  ]

values_of_all : (n : ℕ) → values_in (replicate n gave_42) ≡ replicate n (Some (I32 42))
values_of_all zero = refl
values_of_all (suc n) = ap (λ values. Some (I32 42) ∷ values) (values_of_all n)

-- ---- of each unit that two.c spells

two_run_is : (unit : List Item) (hosts : List Host) (calls steps : ℕ) (replies : List Reply) → CSpells unit two_c
    → two_run two_unit hosts calls steps replies ≡ two_run unit hosts calls steps replies
two_run_is unit hosts calls steps replies spelled =
    ap (λ (u : List Item). two_run u hosts calls steps replies) (sym (one_unit unit two_unit two_c spelled two_spells))

pub two_over : (unit : List Item) (hosts : List Host) (calls steps : ℕ) (replies : List Reply) → CSpells unit two_c
    → (two_run unit hosts calls steps replies).outcome ≢ OutOfSteps → ((two_run unit hosts calls steps replies).outcome ≡ Ended)
    × (values_in (two_run unit hosts calls steps replies).events ≡ replicate calls (Some (I32 42)))
two_over unit hosts calls steps replies spelled =
    subst (λ (run : CRun). run.outcome ≢ OutOfSteps → (run.outcome ≡ Ended) × (values_in run.events ≡ replicate calls (Some (I32 42))))
    (two_run_is unit hosts calls steps replies spelled) (λ is_over.
    let is = over_is hosts replies calls steps is_over in
    (ap (λ (r : CRun). r.outcome) is, ap (λ (r : CRun). values_in r.events) is ∙ values_of_all calls))

pub two_enough : (unit : List Item) (hosts : List Host) (calls steps : ℕ) (replies : List Reply) → CSpells unit two_c
    → 2 + 9 * calls ≤ steps → (two_run unit hosts calls steps replies).outcome ≡ Ended
two_enough unit hosts calls steps replies spelled le =
    subst (λ (run : CRun). run.outcome ≡ Ended) (two_run_is unit hosts calls steps replies spelled)
    (ap (λ (r : CRun). r.outcome) (more_is hosts replies calls steps le))
