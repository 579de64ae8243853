-- What is read of a file into a buffer, where the file's bytes are known.
use Rattle.std.specs.Prelude.{◌≡◌, ◌⊎◌, ℕ, List, length, take}

-- its first bytes, as many as there is room for, or nothing, where a read failed
abbrev pub ReadsStart : ℕ → List ℕ → List ℕ → Type 0
ReadsStart n buffer file = (n ≡ 0) ⊎ (take n buffer ≡ take (length buffer) file)
