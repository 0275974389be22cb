-- `text::put_plan` meets its contract: the heading, and then the lines. Assumes nothing.
use Rattle.text.specs.Stores.{puts_then}
use Rattle.text.proofs.put_plan.Goals as goal

pub returns-clause-puts : goal.returns-clause-puts
returns-clause-puts c = puts_then c.put_heading-next.ensures.puts c.put_events.ensures.puts
