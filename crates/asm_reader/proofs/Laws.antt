-- The line at a place, as a scan for byte 10 finds it; and the lines behind it.
-- Assumes nothing.
use Prim.Native.Nat.{ℕ, ◌+◌, ◌-◌, ◌<◌, ◌≤◌}
use mathlib.Core.Path.{◌≡◌, refl, sym, ap, ◌∙◌}
use mathlib.Core.Bool.{Bool, true, false}
use mathlib.Core.List.{List, [], ◌∷◌}
use Rattle.std.specs.Prelude.{Option, Some, None}
use native.Mathlib.Omega.{arith}
use borrow.Author.Tests.{le-ltb, lt-ltb, ltb-false, ltb-true}
use lib.Dec.{ltb}
use lib.ListN.{drop, drop_of_length-le, length, length-drop, take}
use lib.Seq.{length-take-le}
use Rattle.base.specs.Test.{if}
use Rattle.language.specs.Text.{lines, span}
use Rattle.language.specs.Card.{Reader, card_of, walk}
use Rattle.language.proofs.Laws.{in_line, lines_at, span-le, walk_at}
use Rattle.language.proofs.Places.{behind}
use Rattle.asm_reader.specs.declared.Line.{Line}
use Rattle.asm_reader.specs.Line.{bounds, first_line, line_behind, line_end, other_lines, step_at, step_from}

-- the places of a line's bounds
abbrev pub start_in : Option Line → ℕ
start_in None = 0
start_in (Some l) = l.start

abbrev pub end_in : Option Line → ℕ
end_in None = 0
end_in (Some l) = l.end

-- past the text no line is left
module _ (s : List ℕ) (i : ℕ) (h : length s ≤ i) where
  pub none_left : lines (drop i s) ≡ []
  unfolding lines
  none_left = let d : drop i s ≡ [] = drop_of_length-le s {i = i} h in rw d refl

  pub step-out : None ≡ step_at s i
  unfolding step_at
  step-out = rw none_left refl

  pub end-out : i ≡ line_end s i
  end-out = let z : length (first_line (lines (drop i s))) ≡ 0 = rw none_left refl in omega arith

  pub behind-out : i ≡ line_behind s i
  unfolding line_behind if
  behind-out = let e : line_end s i ≡ i = sym end-out in rw (e, le-ltb i (length s) h) refl

-- the line from i, whose end e a scan finds
module _ (s : List ℕ) (i e : ℕ) (h : i < length s) (q : e ≡ i + span in_line (drop i s)) where
  scan-le : e ≤ length s
  scan-le = omega (arith, span-le in_line (drop i s), length-drop i s)

  pub line-long : length (take (e - i) (drop i s)) ≡ e - i
  line-long = length-take-le (e - i) (drop i s) (omega (arith, scan-le, length-drop i s))

  pub step_line : bounds i e ≡ step_at s i
  unfolding step_at
  step_line =
      let m : e ≡ i + length (take (e - i) (drop i s)) = omega (arith, line-long) in
      ap (bounds i) m ∙ ap (step_from i) (sym (lines_at s i e h q))

  pub end_line : e ≡ line_end s i
  end_line =
      let z : length (first_line (lines (drop i s))) ≡ e - i = ap (λ (ls : List (List ℕ)). length (first_line ls)) (lines_at s i e h q) ∙ line-long in
      omega arith

  pub behind_more : e < length s → e + 1 ≡ line_behind s i
  unfolding line_behind if
  behind_more l = rw (← end_line, lt-ltb e (length s) l) refl

  pub behind-last : length s ≤ e → e ≡ line_behind s i
  unfolding line_behind if
  behind-last l = rw (← end_line, le-ltb e (length s) l) refl

-- what a step says of the line's end
module _ (s : List ℕ) (i : ℕ) where
  pub end-stepped : (a e : ℕ) → step_at s i ≡ bounds a e → e ≡ line_end s i
  unfolding step_at
  end-stepped a e = go (lines (drop i s))
    where
      go : (ls : List (List ℕ)) → step_from i ls ≡ bounds a e → e ≡ i + length (first_line ls)
      go [] p = cc
      go (l ∷ ls) p = sym (ap end_in p)

  pub end_none : step_at s i ≡ None → i ≡ line_end s i
  unfolding step_at
  end_none = go (lines (drop i s))
    where
      go : (ls : List (List ℕ)) → step_from i ls ≡ None → i ≡ i + length (first_line ls)
      go [] p = omega arith
      go (l ∷ ls) p = cc

  pub end_le : i ≤ length s → line_end s i ≤ length s
  end_le h = go (ltb i (length s)) refl
    where
      go : (t : Bool) → ltb i (length s) ≡ t → line_end s i ≤ length s
      go true p = omega (arith, scan-le s i (i + span in_line (drop i s)) (ltb-true i (length s) p) refl, end_line s i (i + span in_line (drop i s)) (ltb-true i (length s) p) refl)
      go false p = omega (arith, end-out s i (ltb-false i (length s) p))

-- past the line, the lines left are the others
pub lines-behind : (s : List ℕ) (i : ℕ) → lines (drop (line_behind s i) s) ≡ other_lines (lines (drop i s))
lines-behind s i = go (ltb i (length s)) refl
  where
    e : ℕ
    e = i + span in_line (drop i s)

    last : (t : Bool) → i < length s → ltb e (length s) ≡ t → lines (drop (line_behind s i) s) ≡ lines (drop (e + 1) s)
    last true h p = rw (← behind_more s i e h refl (ltb-true e (length s) p)) refl
    last false h p =
        let o : length s ≤ e = ltb-false e (length s) p in
        rw (← behind-last s i e h refl o, none_left s e o, none_left s (e + 1) (omega arith)) refl

    go : (t : Bool) → ltb i (length s) ≡ t → lines (drop (line_behind s i) s) ≡ other_lines (lines (drop i s))
    go true p =
        let h : i < length s = ltb-true i (length s) p in
        rw (lines_at s i e h refl) (last (ltb e (length s)) h refl)
    go false p =
        let o : length s ≤ i = ltb-false i (length s) p in
        rw (← behind-out s i o, none_left s i o) refl

-- the cards from place i on, where the line's end is e
pub walk-line : (r : Reader) (s : List ℕ) (i e : ℕ) → i < length s → e ≡ line_end s i
    → walk r (lines (drop i s)) ≡ card_of r (take (e - i) (drop i s)) ∷ behind (card_of r (take (e - i) (drop i s))) (lines (drop (e + 1) s))
walk-line r s i e h q = walk_at r s i e h (q ∙ sym (end_line s i (i + span in_line (drop i s)) h refl))

-- one line of a walk from line to line: a step that is a line lies in the text and moves on in it, and one line less is left; at the end none is
module _ (s : List ℕ) (i : ℕ) where
  pub step-inside : (a e : ℕ) → step_at s i ≡ bounds a e → i < length s
  step-inside a e p = go (ltb i (length s)) refl
    where
      go : (t : Bool) → ltb i (length s) ≡ t → i < length s
      go true q = ltb-true i (length s) q
      go false q =
          let o : None ≡ step_at s i = step-out s i (ltb-false i (length s) q) in
          let z : ◌≡◌ {A = ℕ} 0 1 = cc in
          omega arith

  pub behind-past : i < length s → (i < line_behind s i) × (line_behind s i ≤ length s)
  behind-past h = go (ltb e (length s)) refl
    where
      e : ℕ
      e = i + span in_line (drop i s)

      go : (t : Bool) → ltb e (length s) ≡ t → (i < line_behind s i) × (line_behind s i ≤ length s)
      go true p =
          let m = behind_more s i e h refl (ltb-true e (length s) p) in
          let l : e < length s = ltb-true e (length s) p in
          (omega (arith, m, span-le in_line (drop i s)), omega (arith, m, l))
      go false p =
          let o : length s ≤ e = ltb-false e (length s) p in
          let m = behind-last s i e h refl o in
          (omega (arith, m, o, h), omega (arith, m, scan-le s i e h refl))

  pub lines_more : (a e : ℕ) → step_at s i ≡ bounds a e → length (lines (drop i s)) ≡ 1 + length (lines (drop (line_behind s i) s))
  unfolding step_at
  lines_more a e p = rw (lines-behind s i) (go (lines (drop i s)) p)
    where
      go : (ls : List (List ℕ)) → step_from i ls ≡ bounds a e → length ls ≡ 1 + length (other_lines ls)
      go [] q = cc
      go (l ∷ ls) q = omega arith

  pub lines_none : step_at s i ≡ None → length (lines (drop i s)) ≡ 0
  unfolding step_at
  lines_none p = go (lines (drop i s)) p
    where
      go : (ls : List (List ℕ)) → step_from i ls ≡ None → length ls ≡ 0
      go [] q = refl
      go (l ∷ ls) q = cc
