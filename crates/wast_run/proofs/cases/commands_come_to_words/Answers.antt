use Rattle.wast_run.proofs.Common.{◌≡◌, ℕ, List, [], ◌∷◌, Some, None, Option, sym, refl, ap, ◌∙◌, inl, inr, arith, values_in, Value, I32}
use Rattle.wast_run.proofs.Common.{I64, LinkedSet, ModuleFunc, Fits, ListedCall, EndsWith, Where, at_first, calls_with, listed, set_at}
use Rattle.wast_run.proofs.Common.{modules_run, units_run, Word, none-some}
use Rattle.std.specs.Fmt.{digits}
use Rattle.w2c_base.specs.declared.value.ValType.TheVariants as type
use Rattle.c_meaning.specs.Run as c
use Rattle.wast_run.specs.declared.word.Word.TheVariants as word
use Rattle.wast_run.proofs.Assertions.{same_last}
use Rattle.wast_run.specs.Samples.{sum_call, with_constants}
use Rattle.wast_run.proofs.cases.commands_come_to_words.Goals as goal

abbrev set : LinkedSet
set = set_at with_constants

abbrev calls : List ListedCall
calls = calls_with with_constants sum_call

-- ---- the call fits, and what its runs come to

fits : Fits set (listed sum_call)
fits = (ModuleFunc 0 0, record { params = []; result = Some type.I32 }, refl, refl, refl, tt)

fits_nothing : Fits (set_at at_first) (listed sum_call) → ⊥
fits_nothing fit = none-some fit.0 fit.2

units_end : (units_run set calls 50).outcome ≡ c.Ended
unfolding digits
units_end = refl

units_are_stopped : (units_run set calls 1).outcome ≡ c.OutOfSteps
unfolding digits
units_are_stopped = refl

module_gives : values_in (modules_run set calls 50).events ≡ Some (I32 42) ∷ []
module_gives = refl

ended_differs : c.Ended ≡ c.OutOfSteps → ⊥
ended_differs e = absurd cc

units_are_over : (units_run set calls 50).outcome ≡ c.OutOfSteps → ⊥
units_are_over e = ended_differs (sym units_end ∙ e)

-- ---- the last value of one

abbrev number_of : Option Value → ℕ
number_of None = 0
number_of (Some (I32 n)) = n
number_of (Some (I64 n)) = n

other_value : EndsWith (Some (I32 41)) (modules_run set calls 50) → ⊥
other_value right =
    let same : Some (I32 42) ≡ Some (I32 41) = same_last [] right.1 _ _ (sym module_gives ∙ right.2) in
    let e : 42 ≡ 41 = ap number_of same in
    absurd (omega (arith, e))

-- ---- the word that is left

failed_alone : (P Q R : Type 0) (w : Word) → P → (Q → ⊥) → (R → ⊥)
    → Where P (Where Q (w ≡ word.OutOfSteps) (Where R (w ≡ word.Ok) (w ≡ word.Failed))) (w ≡ word.NoSuchCall) → w ≡ word.Failed
failed_alone P Q R w fit over wrong (inl (p, inl (q, is))) = absurd (over q)
failed_alone P Q R w fit over wrong (inl (p, inr (none, inl (r, is)))) = absurd (wrong r)
failed_alone P Q R w fit over wrong (inl (p, inr (none, inr (other, is)))) = is
failed_alone P Q R w fit over wrong (inr (none, is)) = absurd (none fit)

kept_alone : (P A B : Type 0) (w : Word) → P → Where P ((w ≡ word.Ok) × A) ((w ≡ word.NoSuchCall) × B) → w ≡ word.Ok
kept_alone P A B w fit (inl (p, is)) = is.0
kept_alone P A B w fit (inr (none, is)) = absurd (none fit)

ok_is_not_failed : word.Ok ≡ word.Failed → ⊥
ok_is_not_failed e = absurd cc

none_is_not_ok : word.NoSuchCall ≡ word.Ok → ⊥
none_is_not_ok e = absurd cc

-- ---- the cases

pub returns-clause-sum : goal.returns-clause-sum
returns-clause-sum c contents = (refl, inl (fits, inr (units_are_over, inl ((refl, [], module_gives), refl))))

pub returns-clause-other_value : goal.returns-clause-other_value
returns-clause-other_value c contents = (refl, inl (fits, inr (units_are_over, inr (other_value, refl))))

pub returns-clause-other_value_is_wrong : goal.returns-clause-other_value_is_wrong
returns-clause-other_value_is_wrong c contents comes = ok_is_not_failed (failed_alone _ _ _ word.Ok fits units_are_over other_value comes.1)

pub returns-clause-few_statements : goal.returns-clause-few_statements
returns-clause-few_statements c contents = (refl, inl (fits, inl (units_are_stopped, refl)))

pub returns-clause-kept : goal.returns-clause-kept
returns-clause-kept c contents = inl (fits, (refl, refl))

pub returns-clause-no_such_call : goal.returns-clause-no_such_call
returns-clause-no_such_call c contents = inr (fits_nothing, (refl, refl))

pub returns-clause-there_is_such_a_call : goal.returns-clause-there_is_such_a_call
returns-clause-there_is_such_a_call c contents comes = none_is_not_ok (kept_alone _ _ _ word.NoSuchCall fits comes)
