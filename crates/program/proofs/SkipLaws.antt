-- Skips in a row: eight of them are a word that is 0.
use Prim.Native.Nat.{ℕ, ◌+◌, ◌-◌, ◌*◌, ◌^◌, ◌<◌, ◌≤◌}
use mathlib.Core.Path.{◌≡◌, sym, ◌∙◌}
use mathlib.Core.List.{List}
use native.Mathlib.Omega.{arith}
use lib.ListN.{length}
use mir.Val.{Fits}
use mir.Syntax.{w64}
use Rattle.model.specs.Bytes.{byte, word}
use Rattle.program.specs.Answer.{place_limit}
use Rattle.program.specs.Skips.{Skips, no_skip, skip_more}

-- a word of eight bytes that is 0 has none that is not
module _ (s : List ℕ) (at : ℕ) (e : word s at 8 ≡ 0) where
  zeros : (byte s (at + 0) ≡ 0) × (byte s (at + 1) ≡ 0) × (byte s (at + 2) ≡ 0) × (byte s (at + 3) ≡ 0) × (byte s (at + 4) ≡ 0) × (byte s (at + 5) ≡ 0) × (byte s (at + 6) ≡ 0) × (byte s (at + 7) ≡ 0)
  unfolding word
  zeros = (omega arith, omega arith, omega arith, omega arith, omega arith, omega arith, omega arith, omega arith)

module _ (s : List ℕ) (at : ℕ) where
  next_one : (n i k : ℕ) → Skips s at n → k ≡ at + n → at + n < length s → byte s k ≡ 0 → i ≡ n + 1 → Skips s at i
  next_one n i k f e l z h = rw h (skip_more n f l (rw (← e) z))

  eight_more : (n here : ℕ) → Skips s at n → here ≡ at + n → here < length s → 8 ≤ length s - here → (w : ℕ) → w ≡ word s here 8 → w ≡ 0 → Skips s at (n + 8)
  eight_more n here f e l room w w-is z =
      let b = zeros s here (sym w-is ∙ z) in
      let f₁ = next_one n (n + 1) (here + 0) f (omega arith) (omega arith) b.0 (omega arith) in
      let f₂ = next_one (n + 1) (n + 2) (here + 1) f₁ (omega arith) (omega arith) b.1 (omega arith) in
      let f₃ = next_one (n + 2) (n + 3) (here + 2) f₂ (omega arith) (omega arith) b.2 (omega arith) in
      let f₄ = next_one (n + 3) (n + 4) (here + 3) f₃ (omega arith) (omega arith) b.3 (omega arith) in
      let f₅ = next_one (n + 4) (n + 5) (here + 4) f₄ (omega arith) (omega arith) b.4 (omega arith) in
      let f₆ = next_one (n + 5) (n + 6) (here + 5) f₅ (omega arith) (omega arith) b.5 (omega arith) in
      let f₇ = next_one (n + 6) (n + 7) (here + 6) f₆ (omega arith) (omega arith) b.6 (omega arith) in
      next_one (n + 7) (n + 8) (here + 7) f₇ (omega arith) (omega arith) b.7 (omega arith)

  -- so many eights; x is that many as the code's wider number
  pub eights_more : (k x : ℕ) → Skips s at (8 * k) → x ≡ k → at + 8 * x < length s → 8 ≤ length s - (at + 8 * x) → (w : ℕ) → w ≡ word s (at + 8 * x) 8 → w ≡ 0 → Skips s at (8 * (k + 1))
  eights_more k x f e l room w w-is z =
      let next : 8 * (k + 1) ≡ 8 * k + 8 = omega arith in
      rw next (eight_more (8 * k) (at + 8 * x) f (omega arith) l room w w-is z)

  pub eights_done : (k m : ℕ) → Skips s at (8 * k) → m ≤ k → k ≤ m → Skips s at (8 * m)
  eights_done k m f g h = let e : m ≡ k = omega arith in rw e f

  -- they lie within the bytes
  pub skips_low : (n : ℕ) → Skips s at n → length s < place_limit → at < place_limit → at + n < place_limit
  skips_low n no_skip short low = omega arith
  skips_low n (skip_more k f l z) short low = omega arith

  pub skips_fit : (n w : ℕ) → w ≡ n → Skips s at n → length s < 2 ^ 64 → Fits w64 at → Fits w64 (at + w)
  skips_fit n w e no_skip long f = record { fits = omega (arith, f.fits) }
  skips_fit n w e (skip_more k g l z) long f = record { fits = omega arith }

-- What goes on over one skip goes on over a row of them: P says of what is left to go through, and where.
pub over_row : (s : List ℕ) (P : ℕ → ℕ → Type 0) → ((left next : ℕ) → P left next → 0 < left → next < length s → byte s next ≡ 0 → P (left - 1) (next + 1))
    → (at n left : ℕ) → Skips s at n → P left at → n ≤ left → P (left - n) (at + n)
over_row s P over at n left no_skip h few = let j : left - 0 ≡ left = omega arith in let k : at + 0 ≡ at = omega arith in rw (j, k) h
over_row s P over at n left (skip_more k row l z) h few =
    let before = over_row s P over at k left row h (omega arith) in
    let j : left - (k + 1) ≡ left - k - 1 = omega arith in
    let m : at + (k + 1) ≡ at + k + 1 = omega arith in
    rw (j, m) (over (left - k) (at + k) before (omega arith) l z)

pub ruleset eights = (no_skip, eights_more, eights_done, skips_fit)
