use Rattle.w2c_sim.proofs.Common.{◌≡◌, OnOk, OnErr, Ok, Err, Result, ◌∙◌, subst, inr, err_from_is_err_and, memory_wanted, vain_passed}
use Rattle.w2c_sim.proofs.Common.{whole_passed, AppendsPart, appending, header_text_of}
use Rattle.w2c_sim.proofs.writing.write_header.Goals as goal

pub returns-clause-written : goal.returns-clause-written
returns-clause-written g c =
    let files = g.F.Files in
    subst (λ l. OnOk c.put.result (files.told c.put.new.self ≡ appending (files.told c.args.files.now) (files.current c.args.files.now) l))
    (c.as_slice.ensures ∙ c.in_ok-text.ensures) c.put.ensures.written

pub returns-clause-part : goal.returns-clause-part
returns-clause-part g c =
    let files = g.F.Files in
    subst (λ l. OnErr c.put.result (AppendsPart (files.told c.args.files.now) (files.told c.put.new.self)
    (files.current c.args.files.now) l)) (c.as_slice.ensures ∙ c.in_ok-text.ensures) (on_err c.put.result inr c.put.ensures.part)
  where
    on_err : {A B P Q : Type 0} (result : Result A B) → (P → Q) → OnErr result P → OnErr result Q
    on_err (Ok x) f is = tt
    on_err (Err e) f is = f is

pub returns-clause-current : goal.returns-clause-current
returns-clause-current g c = c.put.ensures.current

pub returns-clause-cause : goal.returns-clause-cause
returns-clause-cause g c = c.put.ensures.cause

pub returns-clause-fault : goal.returns-clause-fault
returns-clause-fault g c = c.put.ensures.named

pub returns-clause-reads : goal.returns-clause-reads
returns-clause-reads g c = c.put.ensures.reads

-- ---- what passes through the files

pub returns-in_err-text-clause-tried : goal.returns-in_err-text-clause-tried
returns-in_err-text-clause-tried g c =
    let p = err_from_is_err_and c.from_residual.result c.from_residual.ensures.1 in
    rw (p.1, p.2) (memory_wanted (g.F.Files.trace c.args.files.now) (header_text_of c.args.m.now c.args.name.now))

pub returns-clause-passed : goal.returns-clause-passed
returns-clause-passed g c = whole_passed _ _ c.as_slice.result.now (header_text_of c.args.m.now c.args.name.now) c.put.result
    (c.as_slice.ensures ∙ c.in_ok-text.ensures) c.put.ensures.traced

pub returns-clause-tried : goal.returns-clause-tried
returns-clause-tried g c = vain_passed _ _ c.as_slice.result.now (header_text_of c.args.m.now c.args.name.now) c.put.result
    (c.as_slice.ensures ∙ c.in_ok-text.ensures) c.put.ensures.traced
