-- What a trailer tells, the tests of it, and the parts of the file that it tells of.
use Rattle.std.specs.Prelude.{◌≡◌, ℕ, ◌+◌, ◌-◌, ◌≤◌, Bool, ◌&&◌, List, [], ◌∷◌, ◌++◌, length, take, drop, Ok, Err, Result, ◌==◌, nat_le, slice_index}
use Rattle.model.specs.declared.refusal.Refusal.{Refusal}
use Rattle.model.specs.Automaton.{Automaton}
use Rattle.model.specs.Positions.{same}
use Rattle.model.specs.File.{bytes_of, number_of, piece, file_mark, records_size, certificate_size, Window, look_through, check}
use Rattle.ctlfile.specs.declared.trailer.Trailer.{Trailer}
use Rattle.ctlfile.specs.Windows.{showing}

-- what the 20 bytes of a trailer tell
unfoldable pub trailer_in : List ℕ → Trailer
trailer_in end =
    record {
      to_records = number_of (piece 4 4 end);
      to_certificate = number_of (piece 8 4 end);
      states = number_of (piece 12 2 end);
      situations = slice_index end 14;
      commands = slice_index end 15;
      rule_states = slice_index end 16;
      count = slice_index end 17;
    }

-- the 20 bytes that tell it
unfoldable pub trailer_bytes : Trailer → List ℕ
trailer_bytes t =
    file_mark
    ++ (bytes_of 4 t.to_records
    ++ (bytes_of 4 t.to_certificate
    ++ (bytes_of 2 t.states
    ++ (t.situations ∷ t.commands ∷ t.rule_states ∷ t.count ∷ 0 ∷ 0 ∷ []))))

-- the trailer of a file for the rule, with m states and the number c
abbrev pub trailer_for : Automaton → ℕ → ℕ → Trailer
trailer_for A m c =
    record {
      to_records = records_size A.situations m + certificate_size A.states m;
      to_certificate = certificate_size A.states m;
      states = m;
      situations = A.situations;
      commands = A.commands;
      rule_states = A.states;
      count = c;
    }

-- the mark and the zero bytes
unfoldable pub marked : List ℕ → Bool
marked end = same (take 4 end) file_mark && same (drop 18 end) (0 ∷ 0 ∷ [])

-- the number of states is 1 to 1,024, and c is at most 14
abbrev pub in_range : Trailer → Bool
in_range t = nat_le 1 t.states && (nat_le t.states 1024 && nat_le t.count 14)

-- the trailer has the rule's numbers
abbrev pub for_rule : Automaton → Trailer → Bool
for_rule A t = t.situations == A.situations && (t.commands == A.commands && t.rule_states == A.states)

-- the sizes of the records and of the certificate
abbrev pub records_of : Trailer → ℕ
records_of t = records_size t.situations t.states

abbrev pub certificate_of : Trailer → ℕ
certificate_of t = certificate_size t.rule_states t.states

-- the distances are those of the layout, and lead no further back than so many bytes
abbrev pub laid_out : Trailer → ℕ → Bool
laid_out t room =
    (t.to_records == records_of t + certificate_of t) && (t.to_certificate == certificate_of t && nat_le (records_of t + certificate_of t) room)

-- what the parts of a file show that the trailer tells of: the certificate ends where the trailer begins, and the records where the
-- certificate begins
abbrev pub window_in : Trailer → List ℕ → Window
window_in t bytes =
    let end = length bytes - 20 in
    showing t.states t.situations t.rule_states t.count
    (take (records_of t) (drop (end - (records_of t + certificate_of t)) bytes))
    (take (certificate_of t) (drop (end - certificate_of t) bytes))

-- the trailer is one for the rule, the file has room for the parts, and check looks through them
pub record Opens (A : Automaton) (bytes : List ℕ) (t : Trailer) : Type 0 where
  pub some_state : 1 ≤ t.states
  pub few_states : t.states ≤ 1024
  pub low_count : t.count ≤ 14
  pub situations : t.situations ≡ A.situations
  pub states : t.rule_states ≡ A.states
  pub room : records_of t + certificate_of t + 20 ≤ length bytes
  pub through : check A bytes ≡ look_through A (window_in t bytes)

-- a trailer that opens the file, or what check refuses it with
abbrev pub Opened : Automaton → List ℕ → Result Trailer Refusal → Type 0
Opened A bytes (Ok t) = Opens A bytes t
Opened A bytes (Err r) = check A bytes ≡ Err r
