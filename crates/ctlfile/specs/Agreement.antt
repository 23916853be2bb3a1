-- Automata that answer alike below their numbers have the same files.
use Rattle.std.specs.Prelude.{◌≡◌, ℕ, List}
use Rattle.model.specs.Automaton.{Automaton, Row}
use Rattle.model.specs.File.{file, check}
use Rattle.synthesis.specs.Tables.{Agrees}

-- check says the same of any bytes
abbrev pub ChecksAlike : Type 0
ChecksAlike = (A B : Automaton) → Agrees A B → (bytes : List ℕ) → check A bytes ≡ check B bytes

-- the file of a controller with a certificate is the same
abbrev pub FilesAlike : Type 0
FilesAlike = (A B : Automaton) → Agrees A B → (rows : List Row) (certificate : List ℕ) (c : ℕ) → file A rows certificate c ≡ file B rows certificate c
