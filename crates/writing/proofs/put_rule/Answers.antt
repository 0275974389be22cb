-- `writing::put_rule` meets its contract: two stores, and the bytes of the bound. Assumes nothing.
use Prim.Native.Nat.{suc, ◌+◌}
use mathlib.Core.Path.{◌≡◌, ap, ◌∙◌}
use native.Mathlib.Omega.{arith}
use borrow.Author.Rules.{rules}
use Rattle.std.proofs.Common.{w32, of_z}
use Rattle.std.proofs.lemmas.Int.{to_z-of_z}
use Rattle.std.proofs.lemmas.List.Edits.{sets}
use Rattle.ticket.specs.Writer.{bytes, write_rule}
use Rattle.ticket.specs.Writing.{rule_in}
use Rattle.writing.specs.Stores.{le_bytes}
use Rattle.writing.proofs.put_rule.Goals as goal

pub returns : goal.returns
unfolding write_rule
returns c = let at = c.args.at in
    let z = (rule_in c.args.t.now c.args.i).bound in
    let one : at + 1 ≡ suc at = omega arith in
    let two : at + 2 ≡ suc (suc at) = omega arith in
    c.put_bytes.ensures ∙ ap (sets _ (at + 2)) (c.to_le_bytes.ensures ∙ le_bytes _ ∙ ap (λ x. bytes 4 (of_z w32 x)) (to_z-of_z w32 z (record { sfits = search rules })))
    ∙ rw (one, two)
