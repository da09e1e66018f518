-- Copying by whole words is copying by characters, where both addresses are words'; one turn of each loop, and its end.
-- Assumes nothing.
use Prim.Native.Nat.{ℕ, zero, suc, ◌+◌, ◌-◌, ◌*◌, ◌/◌, ◌%◌, ◌^◌, ◌≤◌, ◌<◌}
use mathlib.Core.Path.{◌≡◌, refl, sym, ap, ◌∙◌}
use mathlib.Core.Bool.{Bool, true, false}
use mathlib.Core.List.{List}
use native.Mathlib.Omega.{arith}
use lib.Dec.{eqb}
use lib.ListN.{length, set, length-set}
use lib.Seq.{get_or-set_same, get_or-set_other}
use borrow.Author.Tests.{eqb-true, eqb-false}
use Rattle.base.specs.Lists.{◌at◌}
use Rattle.words.specs.Words.{byte_of}
use Rattle.words.proofs.Laws.{byte_of-lt, word_of-bytes}
use Rattle.rules.specs.Operand.{char_in, with_char}
use Rattle.rules.specs.Exec.{copied_chars, copied_words}
use Rattle.block_chars.proofs.Laws.{AllWords}
use Rattle.block_chars.proofs.Merge.{one, two, three, after_one, after_two, after-three, read}
use Rattle.block_copy.proofs.Four.{same-counts, put_four}

-- equal counts and addresses
pub same-word-counts : (m : List ℕ) {n n' f f' g g' : ℕ} → n ≡ n' → f ≡ f' → g ≡ g' → copied_words n f g m ≡ copied_words n' f' g' m
same-word-counts m p q r = rw (p, q, r)

-- word i, character i of n copied
pub copied-word : (n i f g : ℕ) (m : List ℕ) → i < n → copied_words (n - i) (f + i) (g + i) m ≡ copied_words (n - (i + 1)) (f + (i + 1)) (g + (i + 1)) (set m (g + i) (m at (f + i)))
unfolding copied_words
copied-word n i f g m h =
    same-word-counts m {n = n - i} {n' = suc (n - (i + 1))} (omega arith) refl refl
    ∙ same-word-counts (set m (g + i) (m at (f + i))) {n = n - (i + 1)} {n' = n - (i + 1)} {f = suc (f + i)} {f' = f + (i + 1)} {g = suc (g + i)} {g' = g + (i + 1)} refl (omega arith) (omega arith)

pub copied-char : (n i f g : ℕ) (m : List ℕ) → i < n → copied_chars (n - i) (f + i) (g + i) m ≡ copied_chars (n - (i + 1)) (f + (i + 1)) (g + (i + 1)) (with_char m (g + i) (char_in m (f + i)))
unfolding copied_chars
copied-char n i f g m h =
    same-counts m {n = n - i} {n' = suc (n - (i + 1))} (omega arith) refl refl
    ∙ same-counts (with_char m (g + i) (char_in m (f + i))) {n = n - (i + 1)} {n' = n - (i + 1)} {f = suc (f + i)} {f' = f + (i + 1)} {g = suc (g + i)} {g' = g + (i + 1)} refl (omega arith) (omega arith)

-- nothing is left
pub copied-words-none : (n f g : ℕ) (m : List ℕ) → n ≤ 0 → copied_words n f g m ≡ m
unfolding copied_words
copied-words-none zero f g m h = refl
copied-words-none (suc n) f g m h = absurd (omega arith)

pub copied-chars-none : (n f g : ℕ) (m : List ℕ) → n ≤ 0 → copied_chars n f g m ≡ m
unfolding copied_chars
copied-chars-none zero f g m h = refl
copied-chars-none (suc n) f g m h = absurd (omega arith)

-- four characters are the word
copied-four : (m : List ℕ) (f g : ℕ) → g < length m → (n : ℕ) → m at f < 2 ^ 32 → m at g < 2 ^ 32
    → copied_chars (suc (suc (suc (suc n)))) (4 * f + 0) (4 * g + 0) m ≡ copied_chars n (4 * f + 4) (4 * g + 4) (set m g (m at f))
copied-four m f g l n h k =
    let o = m at g in
    let w = m at f in
    let a = byte_of w 0 in
    let b = byte_of w 1 in
    let c = byte_of w 2 in
    let d = byte_of w 3 in
    let ha = byte_of-lt w 0 in
    let hb = byte_of-lt w 1 in
    let hc = byte_of-lt w 2 in
    let hd = byte_of-lt w 3 in
    put_four m g l n (4 * f + 0) a b c d k ha hb hc hd
    (read m g l f o 0 (4 * f + 0) refl (omega arith) (λ q. refl))
    (read m g l f (one o a) 1 (suc (4 * f + 0)) (omega arith) (omega arith) (λ q. after_one o a b c d ha hb hc hd 1 (omega arith)))
    (read m g l f (two o a b) 2 (suc (suc (4 * f + 0))) (omega arith) (omega arith) (λ q. after_two o a b c d ha hb hc hd 2 (omega arith)))
    (read m g l f (three o a b c) 3 (suc (suc (suc (4 * f + 0)))) (omega arith) (omega arith) (λ q. after-three o a b c d ha hb hc hd 3 (omega arith)))
    ∙ ap (λ (x : ℕ). copied_chars n (suc (suc (suc (suc (4 * f + 0))))) (4 * g + 4) (set m g x)) (word_of-bytes w h)
    ∙ same-counts (set m g w) {n = n} {n' = n} {f = suc (suc (suc (suc (4 * f + 0))))} {f' = 4 * f + 4} {g = 4 * g + 4} {g' = 4 * g + 4} refl (omega arith) refl

-- a word stored keeps all elements words
all_set : (m : List ℕ) (g v : ℕ) → g < length m → AllWords m → v < 2 ^ 32 → AllWords (set m g v)
all_set m g v l a h i = go (eqb i g) refl
  where
    go : (t : Bool) → eqb i g ≡ t → set m g v at i < 2 ^ 32
    go true e = rw (eqb-true i g e, get_or-set_same m g v 0 l) h
    go false e = rw (get_or-set_other m g i v 0 (eqb-false i g e)) (a i)

-- equal addresses
pub same-words : (n f : ℕ) (m : List ℕ) {g g' : ℕ} → g ≡ g' → copied_words n f g m ≡ copied_words n f g' m
same-words n f m r = rw r

pub copied-aligned : (n f g : ℕ) (m : List ℕ) → AllWords m → g + n ≤ length m → copied_chars (4 * n) (4 * f) (4 * g) m ≡ copied_words n f g m
unfolding copied_chars copied_words
copied-aligned zero f g m a l = refl
copied-aligned (suc n) f g m a l =
    let h : g < length m = omega arith in
    same-counts m (times-suc n) (plus-zero f) (plus-zero g)
    ∙ copied-four m f g h (4 * n) (a f) (a g)
    ∙ same-counts (set m g (m at f)) {n = 4 * n} refl (plus-four f) (plus-four g)
    ∙ copied-aligned n (suc f) (suc g) (set m g (m at f)) (all_set m g (m at f) h a (a f)) (rw (length-set m g (m at f)) (omega arith))
  where
    times-suc : (n : ℕ) → 4 * suc n ≡ suc (suc (suc (suc (4 * n))))
    times-suc n = omega arith

    plus-zero : (i : ℕ) → 4 * i ≡ 4 * i + 0
    plus-zero i = omega arith

    plus-four : (i : ℕ) → 4 * i + 4 ≡ 4 * suc i
    plus-four i = omega arith

-- what is copied in two parts
pub copied-split : (i j f g : ℕ) (m : List ℕ) → copied_chars (i + j) f g m ≡ copied_chars j (f + i) (g + i) (copied_chars i f g m)
unfolding copied_chars
copied-split zero j f g m = same-counts m (none j) (sum-none f) (sum-none g)
  where
    none : (j : ℕ) → 0 + j ≡ j
    none j = omega arith

    sum-none : (a : ℕ) → a ≡ a + 0
    sum-none a = omega arith
copied-split (suc i) j f g m =
    ap (λ (n : ℕ). copied_chars n f g m) (suc-sum i j)
    ∙ copied-split i j (suc f) (suc g) (with_char m g (char_in m f))
    ∙ ap (λ (a : ℕ). copied_chars j a (suc g + i) (copied_chars i (suc f) (suc g) (with_char m g (char_in m f)))) (moved f i)
    ∙ ap (λ (a : ℕ). copied_chars j (f + suc i) a (copied_chars i (suc f) (suc g) (with_char m g (char_in m f)))) (moved g i)
  where
    suc-sum : (i j : ℕ) → suc i + j ≡ suc (i + j)
    suc-sum i j = omega arith

    moved : (a i : ℕ) → suc a + i ≡ a + suc i
    moved a i = omega arith

-- the same of addresses
pub words-at : (n f g : ℕ) (m : List ℕ) → AllWords m → f % 4 ≡ 0 → g % 4 ≡ 0 → g + 4 * n ≤ 4 * length m → copied_chars (4 * n) f g m ≡ copied_words n (f / 4) (g / 4) m
words-at n f g m a p q l =
    same-counts m {n = 4 * n} {n' = 4 * n} {f = f} {f' = 4 * (f / 4)} {g = g} {g' = 4 * (g / 4)} refl (omega arith) (omega arith)
    ∙ copied-aligned n (f / 4) (g / 4) m a (omega arith)

-- h characters, then k, then the rest
pub by_parts : (n h k f g : ℕ) (m m1 m2 : List ℕ) → h + k ≤ n → m1 ≡ copied_chars h f g m → m2 ≡ copied_chars k (f + h) (g + h) m1 → copied_chars n f g m ≡ copied_chars (n - (h + k)) (f + (h + k)) (g + (h + k)) m2
by_parts n h k f g m m1 m2 l e q =
    ap (λ (i : ℕ). copied_chars i f g m) {x = n} {y = h + k + (n - (h + k))} (omega arith)
    ∙ copied-split (h + k) (n - (h + k)) f g m
    ∙ ap (λ (y : List ℕ). copied_chars (n - (h + k)) (f + (h + k)) (g + (h + k)) y)
    (copied-split h k f g m ∙ ap (λ (y : List ℕ). copied_chars k (f + h) (g + h) y) (sym e) ∙ sym q)
