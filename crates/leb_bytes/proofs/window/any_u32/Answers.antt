use Rattle.leb_bytes.proofs.Common.{Ok, Err, sym, arith, SpellsUnsigned, HasBitsPast, IsRunOf, Unused}
use Rattle.leb_bytes.proofs.Numbers.{u32_of-complete}
use Rattle.leb_bytes.proofs.Windows.{same_fault, unsigned-fits, unsigned-wrong}
use Rattle.leb_bytes.proofs.window.any_u32.Goals as goal

pub returns-then-sum-ne0-clause-computed : goal.returns-then-sum-ne0-clause-computed
returns-then-sum-ne0-clause-computed c =
    let a = c.in-Ok.ensures in
    sym (u32_of-complete c.args.window.now (Err Unused)
    (unsigned-wrong 32 c.in-Ok.count c.in-Ok.sum c.args.window.now a.0 a.1 (omega (arith, c.if-sum-ne0.true))))

pub returns-else-sum-ne0-clause-computed : goal.returns-else-sum-ne0-clause-computed
returns-else-sum-ne0-clause-computed c =
    let a = c.in-Ok.ensures in
    sym (u32_of-complete c.args.window.now (Ok (c.in-Ok.sum, c.in-Ok.count))
    (a.0, unsigned-fits 32 c.in-Ok.count c.in-Ok.sum c.args.window.now a.1 (omega (arith, c.if-sum-ne0.false))))

pub returns-in-Err-clause-computed : goal.returns-in-Err-clause-computed
returns-in-Err-clause-computed c =
    sym (u32_of-complete c.args.window.now (Err c.in-Err.fault)
    (same_fault 5 (IsRunOf 5) (SpellsUnsigned 32) (HasBitsPast 32) c.args.window.now c.in-Err.fault c.in-Err.ensures))
