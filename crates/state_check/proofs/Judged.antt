-- The state check in the terms of the code: each test that fails, and what is left where it holds.
-- Assumes nothing.
use Prim.Native.Nat.{ℕ, ◌+◌, ◌<◌, ◌≤◌}
use mathlib.Core.Path.{◌≡◌, refl, sym, ◌∙◌}
use mathlib.Core.Bool.{Bool, true, false, not}
use mathlib.Core.List.{List}
use native.Mathlib.Omega.{arith}
use lib.Dec.{leb}
use lib.ListN.{get_or, length, take}
use borrow.Author.Tests.{le-leb, lt-leb, not-false, not-true}
use Rattle.base.specs.Test.{◌and◌}
use Rattle.real_rules.specs.Real.{finite_high}
use Rattle.rules.specs.State.{chain, held, memory_fits, state_ok, top_link, wait_ok}
use Rattle.rules.specs.Table.{body_at, constants, executable, size, workings}
use Rattle.states.specs.Views.{links_of, state_of}
use Rattle.states.specs.declared.State.{State}
use Rattle.states.proofs.Front.{links-front, links-length}
use Rattle.state_check.specs.Checked.{placed_ok}
use Rattle.bodies.proofs.Places.{arrives-inside}

neither : (a r : Bool) → a and false and r ≡ false
unfolding ◌and◌
neither true r = refl
neither false r = refl

and-false : (a : Bool) → a and false ≡ false
unfolding ◌and◌
and-false true = refl
and-false false = refl

and-true : (a : Bool) → a and true ≡ a
unfolding ◌and◌
and-true true = refl
and-true false = refl

-- memory's length
module _ (t : List ℕ) (len : ℕ) where
  pub memory-short : len < 256 → false ≡ memory_fits t len
  unfolding memory_fits ◌and◌
  memory-short h = rw (lt-leb 256 len h) refl

  pub memory-long : 8192 < len → false ≡ memory_fits t len
  unfolding memory_fits
  memory-long h = rw (lt-leb len 8192 h) (sym (neither _ _))

  pub memory-left : (c w : ℕ) → c ≡ get_or t 1 0 → w ≡ get_or t 2 0 → 256 ≤ len → len ≤ 8192 → leb
      (c + w + 64) len ≡ memory_fits t len
  unfolding memory_fits constants workings ◌and◌
  memory-left c w e f h k = rw (e, f, le-leb 256 len h, le-leb len 8192 k) refl

-- the whole check; a, c and d are what the code's tests answered
module _ (t mem : List ℕ) (s : State) (len k p : ℕ) (m : length mem ≡ len) (e : k ≡ s.count) (f : p ≡ s.pc) where
  pub judged-unfit : (a : Bool) → a ≡ memory_fits t len → not a ≡ true → false ≡ state_ok t (state_of s mem)
  unfolding state_ok ◌and◌
  judged-unfit a is h = rw (m, ← is, not-true a h) refl

  pub judged-unreal : (r : Bool) → r ≡ (finite_high s.ra_high and leb s.real_flag 1) → not r ≡ true → false ≡ state_ok t (state_of s mem)
  unfolding state_ok
  judged-unreal r is h = rw (← is, not-true r h) (sym (simp and-false))

  pub judged-many : length s.links ≡ 256 → 256 < k → false ≡ state_ok t (state_of s mem)
  unfolding state_ok
  judged-many full h =
      let z : leb (length (links_of s.count s.links)) 256 ≡ false =
      rw (links-length s.count s.links full) (lt-leb s.count 256 (omega arith)) in
      rw z (sym (neither _ _))

  module _ (full : length s.links ≡ 256) (a : Bool) (is : a ≡ memory_fits t len) (h : not a ≡ false) (g : k ≤ 256)
      (r : Bool) (is-r : r ≡ (finite_high s.ra_high and leb s.real_flag 1)) (h-r : not r ≡ false) where
    -- what is left where RA is finite, memory fits and the links are not too many
    judged-rest : state_ok t (state_of s mem) ≡ chain t 0 (take k s.links) and placed_ok t p (take k s.links) s.waiting
    unfolding state_ok placed_ok ◌and◌
    judged-rest =
        rw
        (← is-r, not-false r h-r, and-true, m, ← is, not-false a h, ← e, ← f, links-length k s.links full, le-leb k 256 g, links-front k s.links g)
        refl

    module _ (c : Bool) (is_c : c ≡ chain t 0 (take k s.links)) where
      pub judged-unchained : not c ≡ true → false ≡ state_ok t (state_of s mem)
      unfolding ◌and◌
      judged-unchained n = sym (judged-rest ∙ rw (← is_c, not-true c n) refl)

      pub judged-placed : not c ≡ false → (d : Bool) → d ≡ placed_ok t p (take k s.links) s.waiting → d ≡ state_ok t
          (state_of s mem)
      unfolding ◌and◌
      judged-placed n d is-d = sym (judged-rest ∙ rw (← is_c, not-false c n, ← is-d) refl)

-- the place; a, d and w are what the code's tests answered
module _ (t : List ℕ) (p : ℕ) (ls : List ℕ) (w a : Bool) (is : a ≡ executable t p) where
  pub placed-nowhere : not a ≡ true → false ≡ placed_ok t p ls w
  unfolding placed_ok ◌and◌
  placed-nowhere h = rw (← is, not-true a h) refl

  pub placed-inside : not a ≡ false → p < size t
  placed-inside h = arrives-inside t p (sym is ∙ not-false a h)

  module _ (h : not a ≡ false) (d : Bool) (is-d : d ≡ held t (body_at t p) (top_link 0 ls)) where
    pub placed-unheld : not d ≡ true → false ≡ placed_ok t p ls w
    unfolding placed_ok ◌and◌
    placed-unheld n = rw (← is, not-false a h, ← is-d, not-true d n) refl

    pub placed-waits : not d ≡ false → w ≡ true → (r : Bool) → r ≡ wait_ok t p true → r ≡ placed_ok t p ls w
    unfolding placed_ok ◌and◌
    placed-waits n v r is-r = rw (← is, not-false a h, ← is-d, not-false d n, v) is-r

    pub placed-goes : not d ≡ false → w ≡ false → true ≡ placed_ok t p ls w
    unfolding placed_ok ◌and◌
    placed-goes n v = rw (← is, not-false a h, ← is-d, not-false d n, v) refl
