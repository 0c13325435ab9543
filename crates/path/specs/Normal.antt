use Rattle.std.specs.Prelude.{◌≡◌, ℕ, Bool, false, if◌then◌else◌, not, ◌&&◌, List, [], ◌∷◌, ◌++◌, take, Some, None, codes, filter, Option, ◌≢◌}
use Rattle.std.specs.Str.{bytes_eq}
use Rattle.rules.specs.Spellings.{spelling}
use Rattle.path.specs.Pieces.{is_slash, pieces}

abbrev pub non_empty : List (List ℕ) → List (List ℕ)
non_empty ps = filter (λ p. not (bytes_eq p [])) ps

-- the pieces of s that are not empty, in their order
abbrev pub parts : List ℕ → List (List ℕ)
parts s = non_empty (pieces s)

abbrev pub starts_with_slash : List ℕ → Bool
starts_with_slash s = bytes_eq (take 1 s) (codes "/")

-- t is the normal form of s: the same pieces in the same order, the same first slash, no empty piece inside, and
-- no last slash, unless that is all.
pub record NormalPath (s t : List ℕ) : Type 0 where
  pub same_parts : parts t ≡ parts s
  pub same_start : starts_with_slash t ≡ starts_with_slash s
  pub no_empty : (front rest : List ℕ) → t ≢ front ++ (codes "//" ++ rest)
  pub no_last : (front : List ℕ) → t ≡ front ++ codes "/" → front ≡ []

-- The normal form, worked out: a slash stays exactly where a piece follows it, and where that leaves nothing of
-- some slashes, it is a slash.

abbrev pub starts_piece : List ℕ → Bool
starts_piece [] = false
starts_piece (x ∷ xs) = not (is_slash x)

abbrev pub path_byte : List ℕ → Option ℕ
path_byte [] = None
path_byte (x ∷ xs) = if is_slash x && not (starts_piece xs) then None else Some x

abbrev pub spelt : List ℕ → List ℕ
spelt s = spelling path_byte s

abbrev pub only_slashes : List ℕ → Bool
only_slashes s = starts_with_slash s && bytes_eq (spelt s) []

abbrev pub normal_path : List ℕ → List ℕ
normal_path s = if only_slashes s then codes "/" else spelt s
