use Rattle.crun_job.proofs.Common.{◌≡◌, true, map, IfSome, IfNone, Some, None, option_map, option_copied, sym, refl, ap, ◌∙◌, subst, rules}
use Rattle.crun_job.proofs.Common.{number_of, func_type_of, unit_of, fits, signature_of, AreArguments, Call, SaysCall, seen_call}
use Rattle.crun_job.proofs.Common.{program_of}
use Rattle.c_tree.specs.Tree as tree
use Rattle.crun_job.proofs.Calls.{has_arguments, has_fit, has_signature, named}
use Rattle.crun_job.proofs.calls_file.named_call.Goals as goal

pub returns-in_default-clause-none : goal.returns-in_default-clause-none
returns-in_default-clause-none c = λ call names.
    let none = subst (λ o. IfNone o ((call : Call) → SaysCall c.args.line.now call → ⊥)) c.in_default.is c.in_ok-said.ensures.none in
    none (record { symbol = call.symbol; numbers = map number_of call.args }) names.said

pub returns-in_default-signature-clause-none : goal.returns-in_default-signature-clause-none
returns-in_default-signature-clause-none c = λ call names.
    let units = map unit_of c.args.linked.now.0 in
    let said = seen_call c.in-Some.said in
    let says = subst (λ o. IfSome o (λ call. SaysCall c.args.line.now (seen_call call))) c.in-Some.is c.in_ok-said.ensures.some in
    let none : signature_of units said.symbol ≡ None =
    ap (signature_of units) (sym c.as_slice.ensures) ∙ sym c.signature.ensures
    ∙ ap (λ r. option_map func_type_of (option_copied r)) c.in_default-signature.is in
    has_signature units c.args.line.now said says call names none

pub returns-in_default-2-clause-none : goal.returns-in_default-2-clause-none
returns-in_default-2-clause-none c = λ call names.
    let line = c.args.line.now in
    let units = map unit_of c.args.linked.now.0 in
    let said = seen_call c.in-Some.said in
    let says = subst (λ o. IfSome o (λ call. SaysCall line (seen_call call))) c.in-Some.is c.in_ok-said.ensures.some in
    let ty : tree.FuncType = func_type_of c.in-Some-signature.ty.now in
    let found : signature_of units said.symbol ≡ Some ty =
    ap (signature_of units) (sym c.as_slice.ensures) ∙ sym c.signature.ensures
    ∙ ap (λ r. option_map func_type_of (option_copied r)) c.in-Some-signature.is in
    let none = rw c.in_default-2.is at c.in_ok-args.ensures.none in
    none call.args (rw c.as_slice-2.ensures (rw c.as_slice-3.ensures (has_arguments units line said says call names ty found)))

pub returns-then-not-fits-clause-none : goal.returns-then-not-fits-clause-none
returns-then-not-fits-clause-none c = λ call names.
    let line = c.args.line.now in
    let units = map unit_of c.args.linked.now.0 in
    let said = seen_call c.in-Some.said in
    let says = subst (λ o. IfSome o (λ call. SaysCall line (seen_call call))) c.in-Some.is c.in_ok-said.ensures.some in
    let ty : tree.FuncType = func_type_of c.in-Some-signature.ty.now in
    let found : signature_of units said.symbol ≡ Some ty =
    ap (signature_of units) (sym c.as_slice.ensures) ∙ sym c.signature.ensures
    ∙ ap (λ r. option_map func_type_of (option_copied r)) c.in-Some-signature.is in
    let args = c.in-Some-2.args in
    let are = subst (λ ns. AreArguments ty.params ns args) c.as_slice-3.ensures
    (subst (λ ps. AreArguments ps c.as_slice-3.result.now args) c.as_slice-2.ensures (rw c.in-Some-2.is at c.in_ok-args.ensures.some)) in
    let same : c.fits.result ≡ fits (program_of units) (record { symbol = said.symbol; args = args }) =
    c.fits.ensures.meaning (program_of units) refl
    ∙ (λ i. fits (program_of units) (record { symbol = c.as_slice-4.ensures i; args = c.as_slice-5.ensures i })) in
    let passes : c.fits.result ≡ true = same ∙ has_fit units line said says call names ty args found are in
    (let apart = c.if-not-fits.true in cc)

pub returns-clause-some : goal.returns-clause-some
returns-clause-some c =
    let line = c.args.line.now in
    let units = map unit_of c.args.linked.now.0 in
    let said = seen_call c.in-Some.said in
    let says = subst (λ o. IfSome o (λ call. SaysCall line (seen_call call))) c.in-Some.is c.in_ok-said.ensures.some in
    let ty : tree.FuncType = func_type_of c.in-Some-signature.ty.now in
    let args = c.in-Some-2.args in
    let are = subst (λ ns. AreArguments ty.params ns args) c.as_slice-3.ensures
    (subst (λ ps. AreArguments ps c.as_slice-3.result.now args) c.as_slice-2.ensures (rw c.in-Some-2.is at c.in_ok-args.ensures.some)) in
    let same : c.fits.result ≡ fits (program_of units) (record { symbol = said.symbol; args = args }) =
    c.fits.ensures.meaning (program_of units) refl
    ∙ (λ i. fits (program_of units) (record { symbol = c.as_slice-4.ensures i; args = c.as_slice-5.ensures i })) in
    let passes : c.fits.result ≡ true = search rules in
    named units line said ty.params args says are (sym same ∙ passes)
