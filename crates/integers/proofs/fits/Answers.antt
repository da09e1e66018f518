-- `integers::fits` meets its contract: the two tests are those of the definition, below the least value of a word and from there on.
use mir.Facts.{to_z-of_z}
use Rattle.integers.proofs.Wide.{fits_below, fits-from}
use Rattle.integers.proofs.fits.Goals as goal

pub returns-then-n : goal.returns-then-n
returns-then-n c = fits_below _ (rw (to_z-of_z c.ranges.n) at c.if-n.true)

pub returns-else-n : goal.returns-else-n
returns-else-n c = rw (to_z-of_z c.ranges.n) (fits-from _ (rw (to_z-of_z c.ranges.n) at c.if-n.false))
