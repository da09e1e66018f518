-- Words read from a file one by one, and compared one by one.
-- Assumes nothing.
use Prim.Native.Nat.{ℕ, suc, ◌+◌, ◌*◌, ◌-◌, ◌<◌, ◌≤◌}
use mathlib.Core.Path.{◌≡◌, sym, ap}
use mathlib.Core.Bool.{true, false}
use mathlib.Core.List.{List, [], ◌∷◌, ◌++◌, append_assoc, append-nil}
use mathlib.Core.Logic.{◌≢◌}
use native.Mathlib.Omega.{arith}
use lib.Dec.{eqb}
use borrow.Author.Tests.{eq-eqb, ne_eqb}
use lib.ListN.{length, take, drop, set, drop_of_length-le}
use lib.Seq.{take_all, take-suc-set, drop-cons}
use Rattle.base.specs.Test.{◌and◌}
use Rattle.base.specs.Lists.{◌at◌, same}
use Rattle.rules.specs.Snapshot.{word_in, words_in}

-- the next of n - i words
words_in-next : (file : List ℕ) (a i n : ℕ) → i < n
    → words_in file (a + 4 * i) (n - i) ≡ word_in file (a + 4 * i) ∷ words_in file (a + 4 * (i + 1)) (n - (i + 1))
unfolding words_in
words_in-next file a i n h =
    let e : n - i ≡ suc (n - (i + 1)) = omega arith in
    let f : a + 4 * (i + 1) ≡ a + 4 * i + 4 = omega arith in
    rw (e, f)

-- none left
words_in-none : (file : List ℕ) (a i n : ℕ) → n ≤ i → words_in file (a + 4 * i) (n - i) ≡ []
unfolding words_in
words_in-none file a i n h =
    let e : n - i ≡ 0 = omega arith in
    rw e

-- none read yet
pub words_in-first : (file : List ℕ) (a n : ℕ) → words_in file a n ≡ words_in file (a + 4 * 0) (n - 0)
words_in-first file a n =
    let e : a + 4 * 0 ≡ a = omega arith in
    let f : n - 0 ≡ n = omega arith in
    rw (e, f)

-- one more is read
pub read_next : (file ws : List ℕ) (a i n v : ℕ) → i < n → length ws ≡ n → v ≡ word_in file (a + 4 * i)
    → take i ws ++ words_in file (a + 4 * i) (n - i) ≡ take (i + 1) (set ws i v) ++ words_in file (a + 4 * (i + 1)) (n - (i + 1))
read_next file ws a i n v h l e =
    let s : i + 1 ≡ suc i = omega arith in
    let b : i < length ws = omega arith in
    let t : take (i + 1) (set ws i v) ≡ take i ws ++ (v ∷ []) = rw s (take-suc-set ws i v b) in
    rw (words_in-next file a i n h, ← e, t) (sym (append_assoc (take i ws) (v ∷ []) (words_in file (a + 4 * (i + 1)) (n - (i + 1)))))

-- all are read
pub read-last : (file ws : List ℕ) (a i n : ℕ) → n ≤ i → length ws ≡ n → take i ws ++ words_in file (a + 4 * i) (n - i) ≡ ws
read-last file ws a i n h l = rw (words_in-none file a i n h, append-nil) (take_all i ws (omega arith))

-- none compared yet
pub same_first : (file ws : List ℕ) (a n : ℕ) → same (words_in file a n) ws ≡ same (words_in file (a + 4 * 0) (n - 0)) (drop 0 ws)
same_first file ws a n = ap (λ (x : List ℕ). same x ws) (words_in-first file a n)

-- the next is compared
same-cons : (file ws : List ℕ) (a i n : ℕ) → i < n → length ws ≡ n
    → same (words_in file (a + 4 * i) (n - i)) (drop i ws)
    ≡ (eqb (word_in file (a + 4 * i)) (ws at i) and same (words_in file (a + 4 * (i + 1)) (n - (i + 1))) (drop (i + 1) ws))
unfolding same
same-cons file ws a i n h l =
    let s : i + 1 ≡ suc i = omega arith in
    let b : i < length ws = omega arith in
    rw (words_in-next file a i n h, drop-cons ws i 0 b, s)

pub same_next : (file ws : List ℕ) (a i n : ℕ) → i < n → length ws ≡ n → word_in file (a + 4 * i) ≡ ws at i
    → same (words_in file (a + 4 * i) (n - i)) (drop i ws) ≡ same (words_in file (a + 4 * (i + 1)) (n - (i + 1))) (drop (i + 1) ws)
unfolding ◌and◌
same_next file ws a i n h l e = rw (same-cons file ws a i n h l, eq-eqb _ _ e)

pub same-other : (file ws : List ℕ) (a i n : ℕ) → i < n → length ws ≡ n → word_in file (a + 4 * i) ≢ ws at i
    → same (words_in file (a + 4 * i) (n - i)) (drop i ws) ≡ false
unfolding ◌and◌
same-other file ws a i n h l e = rw (same-cons file ws a i n h l, ne_eqb _ _ e)

-- all are the same
pub same-last : (file ws : List ℕ) (a i n : ℕ) → n ≤ i → length ws ≡ n → same (words_in file (a + 4 * i) (n - i)) (drop i ws) ≡ true
unfolding same
same-last file ws a i n h l =
    let b : length ws ≤ i = omega arith in
    rw (words_in-none file a i n h, drop_of_length-le ws b)
