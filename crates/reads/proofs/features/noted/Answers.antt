-- Three searches note the features.
use Rattle.reads.proofs.ChildLaws.{all_noted}
use Rattle.reads.proofs.features.noted.Goals as goal

-- Three searches note the features.
pub returns : goal.returns
returns c = all_noted c.first_child-forecast.ensures c.first_child-query.ensures c.first_child-send.ensures c.is_some.ensures c.is_some-2.ensures c.is_some-3.ensures
