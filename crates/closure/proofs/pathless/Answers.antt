-- `pathless` meets its contract. Assumes nothing.
use Rattle.closure.specs.Plain.{pathless_all}
use Rattle.closure.proofs.pathless.Goals as goal

pub returns : goal.returns
returns c = pathless_all
