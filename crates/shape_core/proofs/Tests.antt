-- Tests whose first part is decided.
-- Assumes nothing.
use mathlib.Core.Path.{◌≡◌, refl}
use mathlib.Core.Bool.{Bool, true, false, not}
use Rattle.base.specs.Test.{◌and◌, ◌or◌}

pub and_no : (a b : Bool) → a ≡ false → a and b ≡ false
unfolding ◌and◌
and_no a b e = rw e refl

pub and_yes : (a b : Bool) → a ≡ true → a and b ≡ b
unfolding ◌and◌
and_yes a b e = rw e refl

pub and_none : (a b : Bool) → b ≡ false → a and b ≡ false
unfolding ◌and◌
and_none true b e = e
and_none false b e = refl

pub or_no : (a b : Bool) → a ≡ false → a or b ≡ b
unfolding ◌or◌
or_no a b e = rw e refl

pub or_yes : (a b : Bool) → a ≡ true → a or b ≡ true
unfolding ◌or◌
or_yes a b e = rw e refl

pub not-no : (b : Bool) → b ≡ false → not b ≡ true
not-no b e = rw e refl

pub not_yes : (b : Bool) → b ≡ true → not b ≡ false
not_yes b e = rw e refl
