-- `writing::put_u32` meets its contract: the bytes of the number. Assumes nothing.
use Rattle.std.proofs.Common.{◌∙◌, ap}
use Rattle.writing.specs.Stores.{le_bytes}
use Rattle.std.proofs.lemmas.List.Edits.{sets}
use Rattle.writing.proofs.put_u32.Goals as goal

pub returns : goal.returns
returns c = c.put_bytes.ensures ∙ ap (sets c.args.out.now c.args.at) (c.to_le_bytes.ensures ∙ le_bytes c.args.x)
