use Rattle.c_tree.proofs.Common.{◌≡◌, ◌^◌, true, length, nat_lt, list_all, is_byte}
use Rattle.w2c_base.proofs.Numbers.{below_is_found}
use Rattle.c_tree.proofs.TestsTell.{bytes_are, and_true_right}
use Rattle.c_tree.proofs.formed.is_array_formed.Goals as goal

pub returns-then-count-lt4294967296 : goal.returns-then-count-lt4294967296
returns-then-count-lt4294967296 c =
    let count : nat_lt c.args.count (2 ^ 32) ≡ true = below_is_found c.args.count (2 ^ 32) c.if-count-lt4294967296.true in
    and_true_right (nat_lt c.args.count (2 ^ 32)) (nat_lt 0 (length c.args.bytes.now)) (list_all is_byte c.args.bytes.now) count
    (bytes_are c.args.bytes.now c.type_inv.bytes)
