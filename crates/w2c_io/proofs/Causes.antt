-- Causes of a call behind others, in which counts and names have stayed.
use Rattle.w2c_io.proofs.Common.{◌≡◌, ℕ, ◌≤◌, Ok, Err, Option, Result, ap, ◌∙◌, subst, arith, WriteCause, name_after_write, Name}
use Rattle.w2c_io.proofs.Common.{WriteAnswer}
use Rattle.w2c_io.specs.declared.answers.WriteAnswer.TheVariants as writing

-- the last call's cause
pub cause_behind : {A : Type 0} (before between after : ℕ) (result : Result A WriteAnswer) → between ≡ before
    → WriteCause between after result → WriteCause before after result
cause_behind before between after result same cause = subst (λ n. WriteCause n after result) same cause

-- memory was wanting, or all was done
pub memory_cause : {A : Type 0} (before after : ℕ) → before ≤ after → WriteCause {A = A} before after (Err writing.Memory)
memory_cause before after le = record { later = le; kept = tt; failed = λ e. absurd cc }

pub done_cause : {A : Type 0} (x : A) (before after : ℕ) → after ≡ before → WriteCause before after (Ok x)
done_cause x before after same = record { later = omega (arith, same); kept = same; failed = λ e. absurd cc }

-- the same cause for a call with another value
pub cause_of : {A B : Type 0} (before after : ℕ) (e : WriteAnswer) → WriteCause {A = A} before after (Err e)
    → WriteCause {A = B} before after (Err e)
cause_of before after e cause = record {
  later = cause.later;
  kept = tt;
  failed = λ is. cause.failed (let same : e ≡ writing.Failed = cc in ap Err same);
}

pub named_behind : {A : Type 0} (result : Result A WriteAnswer) (current earlier_current : Option Name)
    (fault earlier_fault new : Option Name)
    → current ≡ earlier_current → fault ≡ earlier_fault → new ≡ name_after_write result current fault
    → new ≡ name_after_write result earlier_current earlier_fault
named_behind result current earlier_current fault earlier_fault new same_current same_fault is =
    is ∙ (λ i. name_after_write result (same_current i) (same_fault i))
