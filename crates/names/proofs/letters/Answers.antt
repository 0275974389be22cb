-- `names::letters` meets its contract: `all` answers what `list_all` does.
use Rattle.std.proofs.Common.{rules, tests}
use Rattle.std.proofs.lemmas.Iterator.{YieldsList-from_slice}
use Rattle.std.proofs.lemmas.Iterator.Search.{all_from_yields_List}
use Rattle.names.specs.Names.{letter}
use Rattle.names.specs.Laws.{letters_all}
use Rattle.names.proofs.letters.Goals as goal

pub returns : goal.returns
returns c = rw letters_all (all_from_yields_List letter _ _ _ c.all.ensures.ran (YieldsList-from_slice c.args.bytes.now cc) (λ x b q k. search (rules, tests)))
