-- `show_event` meets its contract: an event that may not be seen is none, and nothing is stored.
use native.Mathlib.Omega.{arith}
use Prim.Native.Nat.{◌+◌, ◌*◌}
use mathlib.Core.Path.{refl, sym, ap, ◌∙◌}
use mathlib.Core.List.{append-nil}
use lib.Seq.{sets}
use Rattle.ticket.specs.Writer.{each}
use Rattle.viewing.specs.View.{write_seen}
use Rattle.view.specs.Stored.{seen_of}
use Rattle.view.proofs.show_event.Goals as goal

pub returns-then-not-seen : goal.returns-then-not-seen
unfolding each
returns-then-not-seen c = record {
  value = rw c.if-not-seen.true (omega arith);
  out_after = rw c.if-not-seen.true refl;
}

pub returns : goal.returns
unfolding each
returns c = let a = c.args in record {
  value = rw c.if-not-seen.false refl;
  out_after = rw c.if-not-seen.false
      (c.put_event.ensures ∙ ap (sets a.out.now (2 + 10 * a.k)) (sym (append-nil (write_seen (seen_of a.event a.flag a.opens a.closes)))));
}
