-- Bytes put into a buffer: its length, one put after another, and words put one by one.
-- Assumes nothing.
use Prim.Native.Nat.{ℕ, zero, suc, ◌+◌, ◌*◌, ◌<◌, ◌≤◌}
use mathlib.Core.Path.{◌≡◌, refl, sym, ap, ◌∙◌}
use mathlib.Core.List.{List, [], ◌∷◌, ◌++◌, append_assoc, append-nil}
use native.Mathlib.Omega.{arith}
use native.Mathlib.Nat.{add_assoc, add-zero}
use lib.ListN.{length, take, drop, set, length-append, take-append-drop, drop_of_length-le}
use lib.Seq.{sets-eq, take_at, drop_at, length-take-le, drop-drop, drop-cons}
use Rattle.base.specs.Lists.{◌at◌}
use Rattle.words.specs.Words.{bytes_of}
use Rattle.rules.specs.Snapshot.{bytes_from}
use Rattle.snap_core.specs.Buffers.{put}

-- four stores of a word's bytes
pub put-stores : (l : List ℕ) (a w : ℕ) (b : List ℕ) → b ≡ bytes_of w → a + 4 ≤ length l
    → set (set (set (set l a (b at 0)) (a + 1) (b at 1)) (a + 2) (b at 2)) (a + 3) (b at 3) ≡ put l a (bytes_of w)
unfolding put
put-stores l a w b e h =
    let one : a + 1 ≡ suc a = omega arith in
    let two : a + 2 ≡ suc (suc a) = omega arith in
    let three : a + 3 ≡ suc (suc (suc a)) = omega arith in
    rw (e, one, two, three) (sets-eq (bytes_of w) l a h)

-- nothing put
pub put-nil : (l : List ℕ) (a : ℕ) → put l a [] ≡ l
unfolding put
put-nil l a = simp (append-nil, add-zero) (take-append-drop a l)

-- what stands up to the end of a put, and behind it
take_put : (l : List ℕ) (a : ℕ) (xs : List ℕ) → a ≤ length l → take (a + length xs) (put l a xs) ≡ take a l ++ xs
unfolding put
take_put l a xs h = take_at (take a l ++ xs) (drop (a + length xs) l) (a + length xs) (simp length-append (omega (arith, length-take-le a l h)))

drop-put : (l : List ℕ) (a : ℕ) (xs : List ℕ) → a ≤ length l → drop (a + length xs) (put l a xs) ≡ drop (a + length xs) l
unfolding put
drop-put l a xs h = drop_at (take a l ++ xs) (drop (a + length xs) l) (a + length xs) (simp length-append (omega (arith, length-take-le a l h)))

-- bytes put behind those of p, which are l's with xs in place
put-parts : (l : List ℕ) (a : ℕ) (xs ys p : List ℕ) → take (a + length xs) p ≡ take a l ++ xs
    → drop (a + length xs + length ys) p ≡ drop (a + length xs + length ys) l → put p (a + length xs) ys ≡ put l a (xs ++ ys)
unfolding put
put-parts l a xs ys p t d = rw (t, d) (simp (append_assoc, length-append, add_assoc))

-- one put just behind another is one put
pub put-put : (l : List ℕ) (a : ℕ) (xs ys : List ℕ) → a ≤ length l → put (put l a xs) (a + length xs) ys ≡ put l a (xs ++ ys)
put-put l a xs ys h =
    let p : List ℕ = put l a xs in
    let n : ℕ = a + length xs in
    put-parts l a xs ys p (take_put l a xs h)
    (sym (drop-drop (length ys) n p) ∙ ap (drop (length ys)) (drop-put l a xs h) ∙ drop-drop (length ys) n l)

-- the next of words that are put one by one
pub put_next : (l : List ℕ) (a i : ℕ) (ws : List ℕ) → i < length ws → a + 4 * length ws ≤ length l
    → put l (a + 4 * i) (bytes_from (drop i ws)) ≡ put (put l (a + 4 * i) (bytes_of (ws at i))) (a + 4 * (i + 1)) (bytes_from (drop (i + 1) ws))
unfolding bytes_from
put_next l a i ws b h =
    let e : a + 4 * (i + 1) ≡ a + 4 * i + 4 = omega arith in
    let s : i + 1 ≡ suc i = omega arith in
    rw (e, s, drop-cons ws i 0 b) (sym (put-put l (a + 4 * i) (bytes_of (ws at i)) (bytes_from (drop (suc i) ws)) (omega arith)))

-- the first of them, and none left
pub put_first : (l : List ℕ) (a : ℕ) (ws : List ℕ) → put l (a + 4 * 0) (bytes_from (drop 0 ws)) ≡ put l a (bytes_from ws)
put_first l a ws =
    let e : a + 4 * 0 ≡ a = omega arith in
    rw e

pub put_last : (l : List ℕ) (a i : ℕ) (ws : List ℕ) → length ws ≤ i → put l (a + 4 * i) (bytes_from (drop i ws)) ≡ l
unfolding bytes_from
put_last l a i ws h = rw (drop_of_length-le ws h) (put-nil l (a + 4 * i))

-- a word put over word p of words that stand in front
pub put-over : (ws r : List ℕ) (p w : ℕ) → p < length ws → put (bytes_from ws ++ r) (4 * p) (bytes_of w) ≡ bytes_from (set ws p w) ++ r
unfolding bytes_from put
put-over [] r p w h = absurd (omega arith)
put-over (v ∷ ws) r zero w h = refl
put-over (v ∷ ws) r (suc p) w h =
    let e : 4 * suc p ≡ suc (suc (suc (suc (4 * p)))) = omega arith in
    let f : suc (suc (suc (suc (4 * p)))) + 4 ≡ suc (suc (suc (suc (4 * p + 4)))) = omega arith in
    rw (e, f) (ap (λ (l : List ℕ). bytes_of v ++ l) (put-over ws r p w (omega arith)))
