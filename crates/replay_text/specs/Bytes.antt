-- A line's bytes. Past its end there is none, and no value stands for it.
-- Assumes nothing.
use Rattle.std.specs.Prelude.{Bool, true, ◌&&◌, ◌||◌, List, [], ◌∷◌, ℕ, suc, eqb, leb, ltb, get_or, length}

-- a place has a byte, and it is this one
abbrev pub has : List ℕ → ℕ → ℕ → Bool
has line at byte = ltb at (length line) && eqb (get_or line at 0) byte

-- a text stands at a place: each of its bytes, from there on
abbrev pub begins : List ℕ → ℕ → List ℕ → Bool
begins line at [] = true
begins line at (byte ∷ text) = has line at byte && begins line (suc at) text

-- a word ends before a place: the line's end or a space is there
abbrev pub ends_word : List ℕ → ℕ → Bool
ends_word line at = leb (length line) at || eqb (get_or line at 0) 32
