-- `writing::put_bytes` meets its contract: the part of the output that is copied to. Assumes nothing.
use Rattle.std.proofs.Common.{◌≡◌, ◌+◌, ◌-◌, arith, length, append_assoc, drop-drop}
use Rattle.std.proofs.lemmas.List.Edits.{sets-eq}
use Rattle.writing.proofs.put_bytes.Goals as goal

pub returns : goal.returns
returns c = let at = c.args.at in
    let bs = c.args.bytes.now in
    let long : at + length bs - at ≡ length bs = omega arith in
    rw (sets-eq bs c.args.out.now at c.requires, c.copy_from_slice.ensures.after, long, drop-drop (length bs) at c.args.out.now, append_assoc)
