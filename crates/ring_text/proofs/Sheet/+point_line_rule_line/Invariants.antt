-- `ring_text::Sheet::point_line` and `ring_text::Sheet::rule_line` end since the number of rules left falls: twice that number is the measure of the first, and one
-- more than twice the number of those after rule x that of the second. Assumes nothing.
use Rattle.std.proofs.Common.{◌*◌, ◌+◌, length}
use Rattle.ring_text.proofs.Sheet.+point_line_rule_line.Given as goal

abbrev pub decreases-point_line : goal.decreases-point_line
decreases-point_line l = 2 * length l.ring.now

abbrev pub decreases-rule_line : goal.decreases-rule_line
decreases-rule_line l = 2 * length l.rest.now + 1
