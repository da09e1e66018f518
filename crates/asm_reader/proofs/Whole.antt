-- A reader that begins at a text's start gives all the lines of the text, and no other [S Cards].
-- Assumes nothing.
use Prim.Native.Nat.{ℕ, ◌+◌, ◌-◌, ◌<◌}
use mathlib.Core.Path.{◌≡◌, refl, sym, ap, ◌∙◌}
use mathlib.Core.Bool.{Bool, true, false}
use mathlib.Core.List.{List, [], ◌∷◌}
use Rattle.std.specs.Prelude.{None}
use native.Mathlib.Omega.{arith}
use borrow.Author.Tests.{ltb-false, ltb-true}
use lib.Dec.{ltb}
use lib.ListN.{drop, length, take}
use Rattle.language.specs.Text.{lines, span}
use Rattle.language.proofs.Laws.{in_line, lines_at}
use Rattle.asm_reader.specs.Line.{Reads, bounds, ended, line, first_line, line_behind, other_lines, step_at, step_from}
use Rattle.asm_reader.proofs.Laws.{end_in, line-long, lines-behind, none_left, start_in}

-- the first of the lines left is the bytes from the place to its end
first-bytes : (s : List ℕ) (i : ℕ) (l : List ℕ) (ls : List (List ℕ)) → lines (drop i s) ≡ l ∷ ls → take (i + length l - i) (drop i s) ≡ l
first-bytes s i l ls p = go (ltb i (length s)) refl
  where
    e : ℕ
    e = i + span in_line (drop i s)

    go : (t : Bool) → ltb i (length s) ≡ t → take (i + length l - i) (drop i s) ≡ l
    go true q =
        let h : i < length s = ltb-true i (length s) q in
        let f : take (e - i) (drop i s) ≡ l = ap first_line (sym (lines_at s i e h refl) ∙ p) in
        let n : i + length l - i ≡ e - i = omega (arith, line-long s i e h refl, ap length f) in
        rw n f
    go false q =
        let o : [] ≡ l ∷ ls = sym (none_left s i (ltb-false i (length s) q)) ∙ p in
        cc

pub reads-from : (s : List ℕ) (i : ℕ) (ls : List (List ℕ)) → lines (drop i s) ≡ ls → Reads s i ls
unfolding step_at
reads-from s i [] p = ended (ap (step_from i) p)
reads-from s i (l ∷ ls) p =
    let r : Reads s i (take (i + length l - i) (drop i s) ∷ ls) =
    line (ap (step_from i) p) (reads-from s (line_behind s i) ls (lines-behind s i ∙ ap other_lines p)) in
    rw (first-bytes s i l ls p) at r

pub reads_all : (s : List ℕ) → Reads s 0 (lines s)
reads_all s = reads-from s 0 (lines s) refl

-- and a reader gives no other lines than those left
pub reads_only : {s : List ℕ} {i : ℕ} {ls : List (List ℕ)} → Reads s i ls → ls ≡ lines (drop i s)
unfolding step_at
reads_only (ended {s} {i} p) = go (lines (drop i s)) p
  where
    go : (ks : List (List ℕ)) → step_from i ks ≡ None → [] ≡ ks
    go [] q = refl
    go (k ∷ ks) q = cc
reads_only (line {s} {i} {a} {e} {ls} p r) = go (lines (drop i s)) refl p (reads_only r)
  where
    go : (ks : List (List ℕ)) → lines (drop i s) ≡ ks → step_from i ks ≡ bounds a e → ls ≡ lines (drop (line_behind s i) s) → take (e - a) (drop a s) ∷ ls ≡ ks
    go [] q f o = cc
    go (k ∷ ks) q f o =
        let first : a ≡ i = sym (ap start_in f) in
        let last : e ≡ i + length k = sym (ap end_in f) in
        let l : take (e - a) (drop a s) ≡ k = rw (first, last) (first-bytes s i k ks q) in
        let rest : ls ≡ ks = o ∙ (lines-behind s i ∙ ap other_lines q) in
        cc
