use Rattle.lin_mem.proofs.Common.{◌≡◌, ◌+◌, ◌-◌, ◌*◌, ◌/◌, ◌%◌, ◌<◌, length, take, drop, ap, ◌∙◌, arith, length-drop, take-append-drop}
use Rattle.lin_mem.proofs.Common.{length-take-le, take_all, with_bytes}
use Rattle.lin_mem.proofs.Pages.{with_bytes-twice}
use Rattle.lin_mem.proofs.memory.LinMem.put.Goals as goal

pub returns-else-bytes-room-clause-written : goal.returns-else-bytes-room-clause-written
returns-else-bytes-room-clause-written c =
    let at = c.args.at in let bs = c.args.bytes.now in let m = c.args.self.now in
    let room = 65536 - at % 65536 in
    let first = c.write_page-else-bytes-room.new.self in
    let less : room < length bs = c.if-bytes-room.false in
    let place : 65536 * (at / 65536) + at % 65536 ≡ at = omega arith in
    let front : length (take room bs) ≡ room = length-take-le room bs (omega (arith, less)) in
    let next : 65536 * (at / 65536 + 1) + 0 ≡ at + length (take room bs) = omega (arith, front) in
    let rest : take (length bs - room) (drop room bs) ≡ drop room bs =
    take_all (length bs - room) (drop room bs) (omega (arith, length-drop room bs)) in
    let one : first.bytes ≡ with_bytes m.bytes at (take room bs) =
    ap (λ l. l.bytes) c.write_page-else-bytes-room.ensures ∙ ap (λ k. with_bytes m.bytes k (take room bs)) place in
    let two = with_bytes-twice m.bytes at (take room bs) (drop room bs) (omega (arith, front, length-drop room bs, c.requires.within)) in
    let whole : with_bytes first.bytes (65536 * (at / 65536 + 1) + 0) (take (length bs - room) (drop room bs)) ≡ with_bytes m.bytes at bs =
    ap (λ k. with_bytes first.bytes k (take (length bs - room) (drop room bs))) next
    ∙ ap (λ ys. with_bytes first.bytes (at + length (take room bs)) ys) rest
    ∙ ap (λ xs. with_bytes xs (at + length (take room bs)) (drop room bs)) one
    ∙ two
    ∙ ap (with_bytes m.bytes at) (take-append-drop room bs) in
    let most : first.most ≡ m.most = ap (λ l. l.most) c.write_page-else-bytes-room.ensures in
    c.write_page-else-bytes-room-2.ensures ∙ (λ t. record { bytes = whole t; most = most t })
