use Rattle.leb_bytes.proofs.Common.{◌≡◌, ◌^◌, ℤ, pos, ◌-ℤ◌, ◌≤ℤ◌, ◌<ℤ◌, Ok, Err, sym, ap, ◌∙◌, arith, w32, w64, to_z, of_z, ints}
use Rattle.leb_bytes.proofs.Numbers.{s32_of-complete}
use Rattle.leb_bytes.proofs.window.any_s32.Goals as goal

-- a number in range is kept by the casts
kept : (n : ℤ) → (pos 0 -ℤ pos (2 ^ 31)) ≤ℤ n → n <ℤ pos (2 ^ 31) → to_z w32 (of_z w32 (to_z w64 (of_z w64 n))) ≡ n
kept n low high = omega (arith, ints)

pub returns-in-Ok-clause-computed : goal.returns-in-Ok-clause-computed
returns-in-Ok-clause-computed c =
    let a = c.in-Ok.ensures.exact in
    ap (λ n. Ok (n, c.in-Ok.count)) (kept c.in-Ok.number a.1.low a.1.high)
    ∙ sym (s32_of-complete c.args.window.now (Ok (c.in-Ok.number, c.in-Ok.count)) a)

pub returns-in-Err-clause-computed : goal.returns-in-Err-clause-computed
returns-in-Err-clause-computed c = sym (s32_of-complete c.args.window.now (Err c.in-Err.fault) c.in-Err.ensures.exact)
