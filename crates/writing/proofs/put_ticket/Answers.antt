-- `writing::put_ticket` meets its contract. The five parts lie one after the other. Assumes nothing.
use Prim.Native.Nat.{◌+◌}
use mathlib.Core.Path.{sym, ap, ◌∙◌}
use borrow.Author.Rules.{rules}
use lib.Seq.{sets}
use Rattle.ticket.specs.Writer.{bytes, each, write_rule}
use Rattle.ticket.specs.Writing.{firsts, owner_in, rule_in}
use Rattle.ticket.proofs.Agree.{firsts_take}
use Rattle.ticket.proofs.WritingLaws.{length_firsts}
use Rattle.writing.specs.Stores.{sets_ticket}
use Rattle.writing.proofs.put_ticket.Goals as goal

pub returns : goal.returns
returns c = let a = c.args in
    let o = a.out.now in
    let t = a.t in
    let n = t.events in
    let m = t.rules in
    let os = firsts n (owner_in t) in
    let rs = firsts m (rule_in t) in
    c.put_rules.ensures
    ∙ ap (λ l. sets l (8 + n) (each write_rule rs))
    (c.put_u16-2.ensures
    ∙ ap (λ l. sets l (6 + n) (bytes 2 m))
    (c.put_bytes.ensures
    ∙ ap (sets _ 6) (sym (firsts_take t.owners 0 n (search rules)))
    ∙ ap (λ l. sets l 6 os)
    (c.put_u16.ensures
    ∙ ap (λ l. sets l 4 (bytes 2 n)) c.put_u32.ensures)))
    ∙ sets_ticket o t.horizon n m os rs (length_firsts n (owner_in t)) (length_firsts m (rule_in t))
