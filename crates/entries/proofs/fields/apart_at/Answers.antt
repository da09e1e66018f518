-- `entries::fields::apart_at` meets its contract: the test of the fields that it reads.
use Rattle.rules.specs.Table.{field}
use Rattle.entries.proofs.fields.apart_at.Goals as goal

pub returns : goal.returns
unfolding field
returns c = c.is_apart.ensures
