-- What `put_rules` keeps true: the rules so far are stored from the place `at`.
use mathlib.Core.Path.{◌≡◌}
use lib.ListN.{length}
use lib.Seq.{sets}
use Rattle.ticket.specs.Writer.{each, write_rule}
use Rattle.ticket.specs.Writing.{firsts, rule_in}
use Rattle.writing.proofs.put_rules.Given as goal

abbrev pub invariant-loop-i : goal.invariant-loop-i
invariant-loop-i l = (length l.out ≡ length l.initial.out) × (l.out ≡ sets l.initial.out l.at (each write_rule (firsts l.i (rule_in l.t))))
