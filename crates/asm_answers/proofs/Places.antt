-- A table placed in the lent words, and one that has no room in them.
-- Assumes nothing.
use Prim.Native.Nat.{ℕ, ◌<◌, ◌≤◌}
use mathlib.Core.Path.{◌≡◌, refl, sym}
use mathlib.Core.Bool.{true, false}
use mathlib.Core.List.{List, ◌++◌}
use borrow.Author.Tests.{le-leb, lt-leb}
use lib.ListN.{drop, length}
use Rattle.base.specs.Test.{if}
use Rattle.asm_answers.specs.Room.{Placed}

module _ (t old : List ℕ) where
  pub no_room : length old < length t → Placed t old old false
  unfolding if
  no_room h = record { fits = sym (lt-leb (length t) (length old) h); left = refl }

  pub placed : (new : List ℕ) → length t ≤ length old → new ≡ t ++ drop (length t) old → Placed t old new true
  unfolding if
  placed new h w = record { fits = sym (le-leb (length t) (length old) h); left = w }
