use Rattle.lin_mem.proofs.Common.{length, take, drop, somes}
use Rattle.lin_mem.proofs.Full.{part-full}
use Rattle.lin_mem.proofs.page.put_bytes.Goals as goal

pub slice_mut-requires : goal.slice_mut-requires
slice_mut-requires c =
    let cs = c.args.cells.now.slots in let at = c.args.at in let n = length c.args.bytes.now in
    (c.requires.base, (c.requires.within, (take n (drop at (somes cs)), part-full cs at n c.requires.full)))
