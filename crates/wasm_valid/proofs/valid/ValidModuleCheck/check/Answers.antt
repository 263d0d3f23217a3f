use Rattle.std.proofs.Common.{Ok, Err, ap}
use Rattle.wasm_spelling.proofs.WithinPlaces.{formed_is_within}
use Rattle.wasm_valid.proofs.Verdicts.{valid, no_fault}
use Rattle.wasm_valid.proofs.Refusals.{refused_valid, refused_by_first, first_refuses}
use Rattle.wasm_valid.proofs.valid.ValidModuleCheck.check.Goals as goal

pub known-requires-clause-valid : goal.known-requires-clause-valid
known-requires-clause-valid c = valid c.args.m c.in-Ok.ensures

pub known-requires-clause-within : goal.known-requires-clause-within
known-requires-clause-within c = formed_is_within c.args.m c.requires

pub returns-in-Ok-clause-valid : goal.returns-in-Ok-clause-valid
returns-in-Ok-clause-valid c = valid c.args.m c.in-Ok.ensures

pub returns-in-Ok-clause-only : goal.returns-in-Ok-clause-only
returns-in-Ok-clause-only c h wanted = ap (λ m. Ok m) c.known.ensures

pub returns-in-Ok-clause-first_only : goal.returns-in-Ok-clause-first_only
returns-in-Ok-clause-first_only c fault v wanted = absurd (no_fault c.args.m fault v (valid c.args.m c.in-Ok.ensures))

pub returns-in-Err-clause-only : goal.returns-in-Err-clause-only
returns-in-Err-clause-only c h wanted =
    absurd (refused_valid c.args.m c.in-Err.refusal c.in-Err.ensures h (λ e. wanted (ap (λ r. Err r) e)))

pub returns-in-Err-clause-first : goal.returns-in-Err-clause-first
returns-in-Err-clause-first c fault e = refused_by_first c.args.m c.in-Err.refusal fault c.in-Err.ensures (let same = e in cc)

pub returns-in-Err-clause-first_only : goal.returns-in-Err-clause-first_only
returns-in-Err-clause-first_only c fault v wanted =
    ap (λ r. Err r) (first_refuses c.args.m c.in-Err.refusal fault c.in-Err.ensures v (λ e. wanted (ap (λ r. Err r) e)))
