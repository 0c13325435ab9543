use Rattle.std.specs.Prelude.{ℕ, ◌+◌, ◌-◌, Bool, List, [], ◌++◌, length, drop, replicate, nat_le, nat_lt, if◌then◌else◌}
use Rattle.string_view.specs.Refusals.{Refusal, refusal}
use Rattle.cells.specs.Texts.{Zeros}

-- the cells that a string of capacity c needs: its text and a closing zero
abbrev pub needed : ℕ → ℕ
needed c = c + 1

-- the region xs has the cells that a string of capacity c needs
abbrev pub enough : ℕ → List ℕ → Bool × Refusal
enough c xs = (nat_le (needed c) (length xs), refusal 8 [])

-- how many of n lent cells a string of capacity c uses: all that it needs, or none
abbrev pub used : ℕ → ℕ → ℕ
used c n = if nat_lt c n then needed c else 0

-- its capacity then
abbrev pub room_in : ℕ → ℕ → ℕ
room_in c n = used c n - 1

-- behind a text of n bytes stand zeros, to the end of the cells in use
abbrev pub closed_in : ℕ → ℕ → List ℕ → Type 0
closed_in c n xs = Zeros (used c (length xs)) n xs

-- the region as a string of capacity c takes it over
abbrev pub wiped : ℕ → List ℕ → List ℕ
wiped c xs = replicate (used c (length xs)) 0 ++ drop (used c (length xs)) xs

-- a region of which u cells are in use: the text t, zeros, and the cells b beyond
abbrev pub laid_out : ℕ → List ℕ → List ℕ → List ℕ
laid_out u t b = t ++ (replicate (u - length t) 0 ++ b)
