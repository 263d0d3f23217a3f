use Rattle.std.proofs.Common.{◌≡◌, ◌+◌, ◌*◌, ◌-◌, ◌/◌, ◌%◌, ◌<◌, ◌++◌, length, take, drop, sym, ap, ◌∙◌, arith, length-append, length-drop}
use Rattle.std.proofs.Common.{length-take-le}
use Rattle.lin_mem.proofs.Pages.{slice-split}
use Rattle.lin_mem.proofs.Straddles.{put_rest}
use Rattle.lin_mem.proofs.memory.LinMem.get.Goals as goal

pub returns-else-out-room : goal.returns-else-out-room
returns-else-out-room c =
    let at = c.args.at in let out = c.args.out.now in let bytes = c.args.self.now.bytes in
    let room = 65536 - at % 65536 in
    let less : room < length out = c.if-out-room.false in
    let first = c.read_page-else-out-room.new.out in
    let second = c.read_page-else-out-room-2.new.out in
    let p = 65536 * (at / 65536) + at % 65536 in
    let place : p ≡ at = omega arith in
    let front : p + length (take room out) - p ≡ room = omega (arith, length-take-le room out (omega (arith, less))) in
    let one : first ≡ take room (drop at bytes) =
    c.read_page-else-out-room.ensures ∙ ap (λ n. take n (drop p bytes)) front ∙ ap (λ k. take room (drop k bytes)) place in
    let long : length first ≡ room =
    ap length one ∙ length-take-le room (drop at bytes) (omega (arith, length-drop at bytes, c.requires.within, less)) in
    let xs = first ++ drop room out in
    let q = 65536 * (at / 65536 + 1) + 0 in
    let next : q ≡ at + room = omega arith in
    let whole : length xs ≡ length out = omega (arith, length-append first (drop room out), long, length-drop room out, less) in
    let m = length out - room in
    let back : q + length (take (length xs - room) (drop room xs)) - q ≡ m =
    omega (arith, length-take-le (length xs - room) (drop room xs) (omega (arith, length-drop room xs)), whole) in
    let two : second ≡ take m (drop (at + room) bytes) =
    c.read_page-else-out-room-2.ensures ∙ ap (λ n. take n (drop q bytes)) back ∙ ap (λ k. take m (drop k bytes)) next in
    let count : room + m ≡ at + length out - at = omega (arith, less) in
    put_rest out first second room long
    ∙ ap (λ ys. ys ++ second) one
    ∙ ap (λ ys. take room (drop at bytes) ++ ys) two
    ∙ sym (slice-split bytes at room m)
    ∙ ap (λ n. take n (drop at bytes)) count
