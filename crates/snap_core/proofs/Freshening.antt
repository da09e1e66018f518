-- Fresh words one by one: hidden in a file, and found hidden.
-- Assumes nothing.
use Prim.Native.Nat.{ℕ, zero, suc, ◌+◌, ◌*◌, ◌<◌, ◌≤◌}
use mathlib.Core.Path.{◌≡◌, sym, ap, ◌∙◌}
use mathlib.Core.Bool.{false}
use mathlib.Core.List.{List, [], ◌++◌}
use mathlib.Core.Logic.{◌≢◌}
use native.Mathlib.Omega.{arith}
use native.Mathlib.Nat.{zero-add}
use lib.ListN.{length, drop}
use Rattle.base.specs.Test.{Ok}
use Rattle.base.specs.Lists.{◌at◌}
use Rattle.base.proofs.Bool.{and_i, eq-ok}
use Rattle.words.specs.Words.{bytes_of}
use Rattle.rules.specs.Check.{table_ok}
use Rattle.rules.specs.Table.{constants, fresh_count, fresh_index, workings}
use Rattle.rules.specs.Start.{refreshed, supplied}
use Rattle.rules.specs.Snapshot.{bytes_from, fresh_hidden, hidden, word_in, words_in}
use Rattle.rules.proofs.Bytes.{length-bytes_from}
use Rattle.rules.proofs.Memory.{fresh_hidden-at, fresh_index-inside, length-refreshed, length-supplied}
use Rattle.snap_core.specs.Buffers.{put}
use Rattle.snap_core.proofs.Puts.{put-over}
use Rattle.snap_core.proofs.Trailers.{not-ok}

-- bytes put at the front
pub put_front : (l xs : List ℕ) → put l 0 xs ≡ xs ++ drop (length xs) l
unfolding put
put_front l xs = rw zero-add

-- one more fresh word is hidden in a file that begins with memory
pub hide-next : (t mem r file : List ℕ) (i p : ℕ) → Ok (table_ok t) → constants t + workings t ≤ length mem → i < fresh_count t
    → p ≡ fresh_index t i → file ≡ bytes_from (supplied t [] i mem) ++ r → put file (4 * p) (bytes_of 0) ≡ bytes_from (supplied t [] (i + 1) mem) ++ r
unfolding supplied
hide-next t mem r file i p ok b l e h =
    let s : i + 1 ≡ suc i = omega arith in
    rw (h, e, s)
    (put-over (supplied t [] i mem) r (fresh_index t i) 0 (omega (arith, length-supplied t [] i mem, fresh_index-inside t ok i l)))

-- all are hidden
pub hide-last : (t mem room file : List ℕ) (i : ℕ) → i ≡ fresh_count t → file ≡ bytes_from (supplied t [] i mem) ++ drop (length (bytes_from mem)) room
    → file ≡ put room 0 (bytes_from (hidden t mem))
unfolding refreshed
hide-last t mem room file i e h =
    let n : length (bytes_from (hidden t mem)) ≡ length (bytes_from mem) =
    length-bytes_from (hidden t mem) ∙ ap (λ (k : ℕ). 4 * k) (length-refreshed t [] mem) ∙ sym (length-bytes_from mem) in
    rw (put_front, n, h, e)

-- word p of n words of a file
pub words_in-at : (file : List ℕ) (a n p : ℕ) → p < n → words_in file a n at p ≡ word_in file (a + 4 * p)
unfolding words_in
words_in-at file a zero p h = absurd (omega arith)
words_in-at file a (suc n) zero h =
    let e : a + 4 * 0 ≡ a = omega arith in
    rw e
words_in-at file a (suc n) (suc p) h =
    let e : a + 4 * suc p ≡ a + 4 + 4 * p = omega arith in
    rw e (words_in-at file (a + 4) n p (omega arith))

-- one more fresh word is found 0
pub hidden-next : (t file : List ℕ) (a m i p : ℕ) → p ≡ fresh_index t i → p < m → word_in file (a + 4 * p) ≡ 0
    → Ok (fresh_hidden t (words_in file a m) i) → Ok (fresh_hidden t (words_in file a m) (i + 1))
unfolding fresh_hidden
hidden-next t file a m i p e b z h =
    let s : i + 1 ≡ suc i = omega arith in
    let x : words_in file a m at fresh_index t i ≡ 0 = rw (← e) (words_in-at file a m p b ∙ z) in
    rw s (and_i _ _ h (eq-ok _ _ x))

-- one is found that is not 0
pub hidden-not : (t file : List ℕ) (a m i p : ℕ) → p ≡ fresh_index t i → p < m → i < fresh_count t → word_in file (a + 4 * p) ≢ 0
    → fresh_hidden t (words_in file a m) (fresh_count t) ≡ false
hidden-not t file a m i p e b l n =
    not-ok _ (λ h. n (sym (words_in-at file a m p b) ∙ rw e (fresh_hidden-at t (words_in file a m) (fresh_count t) h i l)))
