-- Words and numbers in a line of text, which is a list of bytes.
use Rattle.std.specs.Prelude.{◌≡◌, ℕ, zero, suc, ◌+◌, ◌-◌, ◌*◌, ◌<◌, ◌≤◌, Bool, true, false, ◌||◌, List, length, ◌==◌, slice_index, slice_range}

-- what parts words: the space, the tab and the carriage return
abbrev pub blank : ℕ → Bool
blank b = b == 32 || (b == 9 || b == 13)

-- every byte from one place up to another is blank, or none is
abbrev pub Blank : List ℕ → ℕ → ℕ → Type 0
Blank line from to = (k : ℕ) → from ≤ k → k < to → blank (slice_index line k) ≡ true

abbrev pub Solid : List ℕ → ℕ → ℕ → Type 0
Solid line from to = (k : ℕ) → from ≤ k → k < to → blank (slice_index line k) ≡ false

-- the word that a search from one place on finds: blanks, then as many other bytes as there are, at least one
pub record WordAt (line : List ℕ) (from start end : ℕ) : Type 0 where
  pub onward : from ≤ start
  pub some : start < end
  pub within : end ≤ length line
  pub before : Blank line from start
  pub inside : Solid line start end
  pub whole : end < length line → blank (slice_index line end) ≡ true

-- from one place up to another there stands one word, this one, with blanks before it
pub record Stands (line : List ℕ) (from to : ℕ) (word : List ℕ) : Type 0 where
  pub start : ℕ
  pub place : WordAt line from start to
  pub text : word ≡ slice_range line start to

-- from one place on this is the next word
pub record Upcoming (line : List ℕ) (from : ℕ) (word : List ℕ) : Type 0 where
  pub to : ℕ
  pub stands : Stands line from to word

-- whether the next word from one place on begins with a decimal digit
abbrev pub BeginsWithDigit : List ℕ → ℕ → Bool → Type 0
BeginsWithDigit line from true = (word : List ℕ) × Upcoming line from word × (48 ≤ slice_index word 0) × (slice_index word 0 ≤ 57)
BeginsWithDigit line from false =
    (word : List ℕ) → Upcoming line from word → 48 ≤ slice_index word 0 → slice_index word 0 ≤ 57 → ⊥

-- the first n bytes are decimal digits
abbrev pub Digits : List ℕ → ℕ → Type 0
Digits word n = (k : ℕ) → k < n → (48 ≤ slice_index word k) × (slice_index word k ≤ 57)

-- the number that the first n digits of a word denote
abbrev pub denoted : List ℕ → ℕ → ℕ
denoted word zero = 0
denoted word (suc n) = denoted word n * 10 + (slice_index word n - 48)

-- the word denotes the number in decimal digits
pub record Denotes (word : List ℕ) (n : ℕ) : Type 0 where
  pub digits : Digits word (length word)
  pub value : n ≡ denoted word (length word)
