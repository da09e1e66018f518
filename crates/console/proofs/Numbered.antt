-- The lines of a text by their numbers, line by line.
-- Assumes nothing.
use Prim.Native.Nat.{ℕ, suc, ◌+◌, ◌-◌, ◌<◌, ◌≤◌}
use mathlib.Core.Path.{◌≡◌, refl, sym, ap, ◌∙◌}
use mathlib.Core.Bool.{Bool, true, false}
use mathlib.Core.List.{List, [], ◌∷◌}
use native.Mathlib.Omega.{arith}
use borrow.Author.Tests.{ltb-false, ltb-true}
use lib.Dec.{ltb}
use lib.ListN.{drop, length, take}
use Rattle.language.specs.Text.{lines, span}
use Rattle.language.proofs.Laws.{in_line, lines_at}
use Rattle.asm_reader.specs.Line.{line_behind, line_end, other_lines}
use Rattle.asm_reader.proofs.Laws.{behind-out, behind-past, end_line, end-out, lines-behind, none_left}
use Rattle.console.specs.Line.{line_at}

module _ (s : List ℕ) (i : ℕ) where
  -- a line more is a line of those behind
  pub line-next : (k j : ℕ) → k ≡ suc j → line_at (lines (drop i s)) k ≡ line_at (lines (drop (line_behind s i) s)) j
  line-next k j e = rw (e, lines-behind s i) (go (lines (drop i s)))
    where
      go : (ls : List (List ℕ)) → line_at ls (suc j) ≡ line_at (other_lines ls) j
      go [] = refl
      go (l ∷ ls) = refl

  pub behind-le : i ≤ length s → line_behind s i ≤ length s
  behind-le h = go (ltb i (length s)) refl
    where
      go : (t : Bool) → ltb i (length s) ≡ t → line_behind s i ≤ length s
      go true p = (behind-past s i (ltb-true i (length s) p)).1
      go false p = omega (arith, behind-out s i (ltb-false i (length s) p))

  -- the first of the lines left is the bytes up to its end
  pub line-bytes : take (line_end s i - i) (drop i s) ≡ line_at (lines (drop i s)) 0
  line-bytes = go (ltb i (length s)) refl
    where
      e : ℕ
      e = i + span in_line (drop i s)

      go : (t : Bool) → ltb i (length s) ≡ t → take (line_end s i - i) (drop i s) ≡ line_at (lines (drop i s)) 0
      go true p =
          let h : i < length s = ltb-true i (length s) p in
          rw (← end_line s i e h refl, lines_at s i e h refl) refl
      go false p =
          let o : length s ≤ i = ltb-false i (length s) p in
          let z : line_end s i - i ≡ 0 = omega (arith, end-out s i o) in
          ap (λ (n : ℕ). take n (drop i s)) z ∙ ap (λ (ls : List (List ℕ)). line_at ls 0) (sym (none_left s i o))
