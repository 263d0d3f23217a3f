use Rattle.std.proofs.Common.{◌≡◌, drop, Bool, find, bytes_eq}
use Rattle.w2c_base.specs.declared.trap.TrapKind.{TrapKind}
use Rattle.w2c_base.specs.Trap.{text_of}
use Rattle.wast_script.proofs.kind.cause_among.Given as goal

abbrev pub invariant-loop-cause : goal.invariant-loop-cause
invariant-loop-cause l =
    let is_it : TrapKind → Bool = λ cause. bytes_eq (text_of cause) l.text in
    find is_it (drop l.cause-index l.causes) ≡ find is_it l.causes
