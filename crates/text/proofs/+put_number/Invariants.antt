-- `text::put_number` ends, since a tenth of a number above 9 is less than it. Assumes nothing.
use Rattle.text.proofs.+put_number.Given as goal

abbrev pub decreases-put_number : goal.decreases-put_number
decreases-put_number l = l.x
