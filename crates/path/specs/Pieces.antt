use Rattle.std.specs.Prelude.{◌≡◌, ℕ, ◌<◌, Bool, false, ◌||◌, ◌⊎◌, List, [], ◌++◌, length, codes, ◌==◌, slice_index}
use Rattle.std.proofs.Common.{arith}
use Rattle.std.proofs.lemmas.Bool.Decides.{nat_tests}
use Rattle.std.specs.List.{All, list_any, slice_split}
use Rattle.std.specs.Str.{bytes_eq}
use Rattle.rules.specs.Sets.{some_outside, WithinCharacters}
use Rattle.rules.proofs.Letters.{either_characters}
use Rattle.file_name.specs.Names.{is_portable, portable_characters}

-- RFC 20's slant, which POSIX.1 calls the slash
abbrev pub is_slash : ℕ → Bool
is_slash b = b == 47

-- the portable filename characters and the slash
abbrev pub is_path_character : ℕ → Bool
is_path_character b = is_portable b || is_slash b

-- A piece of s: a longest stretch of it without a slash. Before it stands nothing or a slash, and behind it too.
pub record Piece (s p : List ℕ) : Type 0 where
  pub front : List ℕ
  pub rest : List ℕ
  pub whole : s ≡ front ++ (p ++ rest)
  pub unbroken : All (λ b. is_slash b ≡ false) p
  pub before : (front ≡ []) ⊎ ((f : List ℕ) × (front ≡ f ++ codes "/"))
  pub behind : (rest ≡ []) ⊎ ((r : List ℕ) × (rest ≡ codes "/" ++ r))

-- A sequence that is no path.
pub data InvalidPath (s : List ℕ) : Type 0 where
  strange : (i : ℕ) → i < length s → is_path_character (slice_index s i) ≡ false → InvalidPath s
  empty : s ≡ [] → InvalidPath s
  dot_dot : Piece s (codes "..") → InvalidPath s

-- the pieces of s in their order, cut at its slashes
abbrev pub pieces : List ℕ → List (List ℕ)
pieces s = slice_split is_slash s

-- p is one of the pieces
abbrev pub holds : List (List ℕ) → List ℕ → Bool
holds qs p = list_any (λ q. bytes_eq q p) qs

-- InvalidPath as a test, but for the characters
abbrev pub is_no_path : List ℕ → Bool
is_no_path s = bytes_eq s [] || holds (pieces s) (codes "..")

-- InvalidPath as a test
abbrev pub is_invalid_path : List ℕ → Bool
is_invalid_path s = some_outside is_path_character s || is_no_path s

slash_character : WithinCharacters is_slash
slash_character b h = grind (arith, nat_tests)

pub path_characters : WithinCharacters is_path_character
path_characters = either_characters is_portable is_slash portable_characters slash_character
