-- `writing_records::put_record` meets its contract. The ticket, and what comes after it. Assumes nothing.
use Prim.Native.Nat.{◌+◌, ◌*◌}
use mathlib.Core.Path.{sym, ap, ◌∙◌}
use lib.Seq.{sets}
use Rattle.writing_records.specs.Parts.{plan_bytes}
use Rattle.writing_records.specs.Stores.{length_record, sets_record}
use Rattle.writing_records.proofs.put_record.Goals as goal

pub returns : goal.returns
returns c = let t = c.args.r.ticket in record {
  value = sym (length_record c.args.r);
  out_after = c.put_plan.ensures
      ∙ ap (λ l. sets l (8 + t.events + 6 * t.rules) (plan_bytes c.args.r)) c.put_ticket.ensures
      ∙ sets_record c.args.r c.args.out.now c.requires.storable.events_limit c.requires.storable.rules_limit c.requires.in_bounds;
}
