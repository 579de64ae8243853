-- A put changes the bytes that it names and no other, so a word is what was put there, or what it was.
use Prim.Native.Nat.{ℕ, zero, suc, ◌+◌, ◌*◌, ◌/◌, ◌%◌, ◌^◌, ◌<◌, ◌≤◌}
use mathlib.Core.Path.{◌≡◌, refl, sym, ap, ◌∙◌}
use mathlib.Core.Logic.{◌⊎◌, inl, inr}
use mathlib.Core.List.{List, [], ◌∷◌}
use native.Mathlib.Omega.{arith}
use native.Mathlib.Nat.{mod-eq_of_lt, mod-lt, mod-one, pow-suc, one-le-pow, mul_comm}
use lib.ListN.{length, set, length-set}
use lib.Seq.{get_or-set_same, get_or-set_other, set-get_or}
use lib.Arith.{mod-mul, digits_lt, digits_div, digits_mod}
use Rattle.model.specs.Bytes.{byte, word, put, starts_with}

-- equal bytes give equal words
pub word_bytes : (s t : List ℕ) (at n : ℕ) → ((i : ℕ) → i < n → byte s (at + i) ≡ byte t (at + i)) → word s at n ≡ word t at n
unfolding word
word_bytes s t at zero same = refl
word_bytes s t at (suc n) same = rw (word_bytes s t at n (λ i l. same i (omega arith)), same n (omega arith))

pub length_put : (s : List ℕ) (at n v : ℕ) → length (put s at n v) ≡ length s
unfolding put
length_put s at zero v = refl
length_put s at (suc n) v = length-set (put s at n v) _ _ ∙ length_put s at n v

-- a byte that is none of those put
pub byte_put_other : (s : List ℕ) (at n v i : ℕ) → ((k : ℕ) → k < n → i ≡ at + k → ⊥) → byte (put s at n v) i ≡ byte s i
unfolding put
byte_put_other s at zero v i out = refl
byte_put_other s at (suc n) v i out =
    get_or-set_other (put s at n v) (at + n) i _ 0 (out n (omega arith)) ∙ byte_put_other s at n v i (λ k l. out k (omega arith))

-- a word that ends before the bytes put, or begins after them
pub word_put_other : (s : List ℕ) (at n v b m : ℕ) → (b + m ≤ at) ⊎ (at + n ≤ b) → word (put s at n v) b m ≡ word s b m
word_put_other s at n v b m (inl l) = word_bytes (put s at n v) s b m (λ i h. byte_put_other s at n v (b + i) (λ k g e. omega arith))
word_put_other s at n v b m (inr l) = word_bytes (put s at n v) s b m (λ i h. byte_put_other s at n v (b + i) (λ k g e. omega arith))

-- the low bytes of a number and the next one
low_bytes : (v n : ℕ) → v % 256 ^ suc n ≡ v % 256 ^ n + v / 256 ^ n % 256 * 256 ^ n
low_bytes v n = rw (pow-suc, mul_comm (256 ^ n) 256, mod-mul v {m = 256} {c = 256 ^ n} (omega arith) (one-le-pow n 256 (omega arith))) (omega arith)

pub word_put_low : (s : List ℕ) (at n v : ℕ) → at + n ≤ length s → word (put s at n v) at n ≡ v % 256 ^ n
unfolding word put
word_put_low s at zero v l = sym (mod-one v)
word_put_low s at (suc n) v l =
    let t = put s at n v in
    let d = v / 256 ^ n % 256 in
    let low : word (set t (at + n) d) at n ≡ word t at n = word_bytes (set t (at + n) d) t at n (λ i h. get_or-set_other t (at + n) (at + i) d 0 (omega arith)) in
    let fits : at + n < length t = rw length_put (omega arith) in
    rw (low, get_or-set_same, word_put_low s at n v (omega arith)) (sym (low_bytes v n))

pub word_put : (s : List ℕ) (at n v : ℕ) → v < 256 ^ n → at + n ≤ length s → word (put s at n v) at n ≡ v
word_put s at n v h l = word_put_low s at n v l ∙ mod-eq_of_lt h

-- bytes are below 256, so a word has one digit for each
word_below : (s : List ℕ) (at n : ℕ) → ((i : ℕ) → byte s i < 256) → word s at n < 256 ^ n
unfolding word
word_below s at zero low = omega arith
word_below s at (suc n) low = rw (pow-suc 256 n) (omega (arith, digits_lt (low (at + n)) (word_below s at n low)))

-- a word that is put back leaves the bytes as they are
put_low : (s : List ℕ) (at n v : ℕ) → ((i : ℕ) → byte s i < 256) → v % 256 ^ n ≡ word s at n → put s at n v ≡ s
unfolding word put
put_low s at zero v low e = refl
put_low s at (suc n) v low e = rw (put_low s at n v low rest, digit) (set-get_or s (at + n) 0)
  where
    M : ℕ
    M = 256 ^ n

    some : 0 < M
    some = one-le-pow n 256 (omega arith)

    two : v / M % 256 * M + v % M ≡ byte s (at + n) * M + word s at n
    two = omega (arith, low_bytes v n, e)

    digit : v / M % 256 ≡ byte s (at + n)
    digit = sym (digits_div (v / M % 256) (mod-lt v some)) ∙ ap (λ (x : ℕ). x / M) two ∙ digits_div (byte s (at + n)) (word_below s at n low)

    rest : v % M ≡ word s at n
    rest = sym (digits_mod (v / M % 256) (mod-lt v some)) ∙ ap (λ (x : ℕ). x % M) two ∙ digits_mod (byte s (at + n)) (word_below s at n low)

pub put_word : (s : List ℕ) (at n : ℕ) → ((i : ℕ) → byte s i < 256) → put s at n (word s at n) ≡ s
put_word s at n low = put_low s at n (word s at n) low (mod-eq_of_lt (word_below s at n low))

starts_set : (s m : List ℕ) (i v : ℕ) → length m ≤ i → starts_with (set s i v) m ≡ starts_with s m
unfolding starts_with
starts_set s [] i v l = refl
starts_set [] (x ∷ m) i v l = refl
starts_set (y ∷ s) (x ∷ m) zero v l = absurd (omega arith)
starts_set (y ∷ s) (x ∷ m) (suc i) v l = rw (starts_set s m i v (omega arith))

-- a mark that ends before the bytes put
pub starts_put : (s m : List ℕ) (at n v : ℕ) → length m ≤ at → starts_with (put s at n v) m ≡ starts_with s m
unfolding put
starts_put s m at zero v l = refl
starts_put s m at (suc n) v l = starts_set (put s at n v) m (at + n) _ (omega arith) ∙ starts_put s m at n v l
