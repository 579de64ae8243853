-- Reading piece by piece into a buffer: each piece stands behind those before it.
use Rattle.std.proofs.Common.{◌≡◌, ℕ, ◌+◌, ◌≤◌, List, ◌++◌, length, take, drop, sym, ap, ◌∙◌, le_refl, drop_at, length-take-le}
use Rattle.std.proofs.lemmas.Slice.{take-put_mid_below}
use borrow.Rule.Slice.PartMut.{put_mid, post_of}
use lib.Seq.{take-add, take-append-le}

pub read_behind : (at k n : ℕ) (buffer piece : List ℕ) → at ≤ length buffer → n ≤ length piece → take at buffer ++ take n piece ≡ take (at + n) (put_mid at k buffer piece)
read_behind at k n buffer piece within fits =
    let now = put_mid at k buffer piece in
    let front : take at now ≡ take at buffer = take-put_mid_below _ _ _ _ _ (le_refl at) within in
    let behind : drop at now ≡ piece ++ post_of at k buffer = drop_at (take at buffer) (piece ++ post_of at k buffer) at (length-take-le at buffer within) in
    let part : take n (drop at now) ≡ take n piece = ap (take n) behind ∙ take-append-le n piece (post_of at k buffer) fits in
    sym (take-add at n now ∙ ap (λ l. l ++ take n (drop at now)) front ∙ ap (λ l. take at buffer ++ l) part)
