-- What holds of the controller file, by the offsets of its bytes: where each number stands, and what check says of any bytes.
use Rattle.std.specs.Prelude.{◌≡◌, ℕ, ◌+◌, ◌-◌, ◌*◌, ◌^◌, ◌<◌, ◌≤◌, ◌⊎◌, ◌↔◌, List, length, Ok as accepts, Err as refuses, Result, slice_index}
use Rattle.model.specs.declared.refusal.Place.{Place}
use Rattle.model.specs.declared.refusal.Refusal.{Refusal}
use Rattle.model.specs.declared.refusal.Refusal.TheVariants.{OutOfRange, HouseRule, UnlikeRule, NameTaken, NoRoom, NoSuchName, OverLimit, NoneFound, Crowded, NoController, NoSituation, ShortBuffer, Trailer, OtherSheet, Layout, Record, Certificate}
use Rattle.model.specs.Lists.{In}
use Rattle.model.specs.Automaton.{Automaton, weight, Starts, Follows, Row, controller}
use Rattle.model.specs.File.{file, check}

-- BYTES

-- the byte at an offset
abbrev pub byte_at : List ℕ → ℕ → ℕ
byte_at bytes i = slice_index bytes i

-- the byte i of the trailer, which is the last 20 bytes
abbrev pub trailer_byte : List ℕ → ℕ → ℕ
trailer_byte bytes i = byte_at bytes (length bytes - 20 + i)

-- the number that two bytes write, or four, the lowest first
abbrev pub two : ℕ → ℕ → ℕ
two a b = a + 256 * b

abbrev pub four : ℕ → ℕ → ℕ → ℕ → ℕ
four a b c d = a + 256 * b + 256 ^ 2 * c + 256 ^ 3 * d

-- the bytes of one record: a command, and a next state of two bytes for each situation
abbrev pub width : Automaton → ℕ
width A = 1 + 2 * A.situations

-- the bytes of m records, and of a certificate for m states
abbrev pub body : Automaton → ℕ → ℕ
body A m = m * width A + m * A.states

-- WHERE EACH NUMBER STANDS

-- the bytes are a record for each row, the certificate, and the trailer. A number stands in its bytes if it fits them
pub record LaidOut (A : Automaton) (rows : List Row) (certificate : List ℕ) (c : ℕ) (bytes : List ℕ) : Type 0 where
  pub long : length bytes ≡ body A (length rows) + 20
  pub commands : (s : ℕ) → s < length rows → byte_at bytes (s * width A) ≡ (controller rows).command s
  pub nexts :
      (s x : ℕ) → s < length rows → x < A.situations → (controller rows).next s x < 256 ^ 2
      → let low = byte_at bytes (s * width A + 1 + 2 * x) in
      let high = byte_at bytes (s * width A + 2 + 2 * x) in
      (low < 256) × (high < 256) × (two low high ≡ (controller rows).next s x)
  pub tallies : (i : ℕ) → i < length rows * A.states → byte_at bytes (length rows * width A + i) ≡ byte_at certificate i
  pub mark_0 : trailer_byte bytes 0 ≡ 0x54
  pub mark_1 : trailer_byte bytes 1 ≡ 0x54
  pub mark_2 : trailer_byte bytes 2 ≡ 0x43
  pub mark_3 : trailer_byte bytes 3 ≡ 0x31
  -- the distance back from the trailer to the records, and that to the certificate
  pub to_records :
      body A (length rows) < 256 ^ 4
      → four (trailer_byte bytes 4) (trailer_byte bytes 5) (trailer_byte bytes 6) (trailer_byte bytes 7) ≡ body A (length rows)
  pub to_certificate :
      body A (length rows) < 256 ^ 4
      → four (trailer_byte bytes 8) (trailer_byte bytes 9) (trailer_byte bytes 10) (trailer_byte bytes 11) ≡ length rows * A.states
  pub size : length rows < 256 ^ 2 → two (trailer_byte bytes 12) (trailer_byte bytes 13) ≡ length rows
  pub rule_situations : trailer_byte bytes 14 ≡ A.situations
  pub rule_commands : trailer_byte bytes 15 ≡ A.commands
  pub rule_states : trailer_byte bytes 16 ≡ A.states
  pub count : trailer_byte bytes 17 ≡ c
  pub zero_18 : trailer_byte bytes 18 ≡ 0
  pub zero_19 : trailer_byte bytes 19 ≡ 0

-- every file of rows with a next state for each situation, and of a certificate with a byte for each state and rule state, is so
abbrev pub FileLaidOut : Type 0
FileLaidOut =
    (A : Automaton) (rows : List Row) (certificate : List ℕ) (c : ℕ)
    → ((r : Row) → In rows r → length r.nexts ≡ A.situations)
    → length certificate ≡ length rows * A.states
    → LaidOut A rows certificate c (file A rows certificate c)

-- WHAT BYTES TELL, read back from their end

-- the number of states, and c
abbrev pub told_size : List ℕ → ℕ
told_size bytes = two (trailer_byte bytes 12) (trailer_byte bytes 13)

abbrev pub told_count : List ℕ → ℕ
told_count bytes = trailer_byte bytes 17

-- where the record of the state s begins
abbrev pub record_from : Automaton → List ℕ → ℕ → ℕ
record_from A bytes s = length bytes - 20 - body A (told_size bytes) + s * width A

abbrev pub told_command : Automaton → List ℕ → ℕ → ℕ
told_command A bytes s = byte_at bytes (record_from A bytes s)

abbrev pub told_next : Automaton → List ℕ → ℕ → ℕ → ℕ
told_next A bytes s x = two (byte_at bytes (record_from A bytes s + 1 + 2 * x)) (byte_at bytes (record_from A bytes s + 2 + 2 * x))

-- the certificate's byte for the rule state q in the state s: 255 if q is absent, else its tally
abbrev pub told_tally : Automaton → List ℕ → ℕ → ℕ → ℕ
told_tally A bytes s q = byte_at bytes (length bytes - 20 - told_size bytes * A.states + s * A.states + q)

-- WHAT CHECK SAYS

pub record TrailerGood (bytes : List ℕ) : Type 0 where
  pub long : 20 ≤ length bytes
  pub mark_0 : trailer_byte bytes 0 ≡ 0x54
  pub mark_1 : trailer_byte bytes 1 ≡ 0x54
  pub mark_2 : trailer_byte bytes 2 ≡ 0x43
  pub mark_3 : trailer_byte bytes 3 ≡ 0x31
  pub zero_18 : trailer_byte bytes 18 ≡ 0
  pub zero_19 : trailer_byte bytes 19 ≡ 0
  pub some_state : 1 ≤ told_size bytes
  pub few_states : told_size bytes ≤ 1024
  pub low_count : told_count bytes ≤ 14

-- the trailer has the rules' numbers
pub record ForRules (A : Automaton) (bytes : List ℕ) : Type 0 where
  pub situations : trailer_byte bytes 14 ≡ A.situations
  pub commands : trailer_byte bytes 15 ≡ A.commands
  pub states : trailer_byte bytes 16 ≡ A.states

-- the distances back are those of the layout, and do not lead out of the bytes
pub record Distances (A : Automaton) (bytes : List ℕ) : Type 0 where
  pub to_records : four (trailer_byte bytes 4) (trailer_byte bytes 5) (trailer_byte bytes 6) (trailer_byte bytes 7) ≡ body A (told_size bytes)
  pub to_certificate : four (trailer_byte bytes 8) (trailer_byte bytes 9) (trailer_byte bytes 10) (trailer_byte bytes 11) ≡ told_size bytes * A.states
  pub within : body A (told_size bytes) + 20 ≤ length bytes

pub record RecordsGood (A : Automaton) (bytes : List ℕ) : Type 0 where
  pub commands : (s : ℕ) → s < told_size bytes → told_command A bytes s < A.commands
  pub nexts : (s x : ℕ) → s < told_size bytes → x < A.situations → told_next A bytes s x < told_size bytes

-- a rule state is present with a tally above c
pub record BadByte (A : Automaton) (bytes : List ℕ) (s q : ℕ) : Type 0 where
  pub state : s < told_size bytes
  pub rule_state : q < A.states
  pub present : told_tally A bytes s q ≡ 255 → ⊥
  pub above : told_count bytes < told_tally A bytes s q

-- q is a rule state to start in, but is absent in the state 0, or present with too low a tally
pub record BadStart (A : Automaton) (bytes : List ℕ) (q : ℕ) : Type 0 where
  pub starts : Starts A q
  pub below : (told_tally A bytes 0 q ≡ 255) ⊎ (told_tally A bytes 0 q < weight A q)

-- q is present in the state s, and p follows it, but is absent in the next state, or present with too low a tally
pub record BadArrow (A : Automaton) (bytes : List ℕ) (s x q p : ℕ) : Type 0 where
  pub state : s < told_size bytes
  pub rule_state : q < A.states
  pub present : told_tally A bytes s q ≡ 255 → ⊥
  pub follows : Follows A q (told_command A bytes s) x p
  pub below :
      let tally = told_tally A bytes (told_next A bytes s x) p in
      (tally ≡ 255) ⊎ (tally < told_tally A bytes s q + weight A p)

abbrev pub NoBadByte : Automaton → List ℕ → Type 0
NoBadByte A bytes = (s q : ℕ) → BadByte A bytes s q → ⊥

abbrev pub NoBadStart : Automaton → List ℕ → Type 0
NoBadStart A bytes = (q : ℕ) → BadStart A bytes q → ⊥

abbrev pub NoBadArrow : Automaton → List ℕ → Type 0
NoBadArrow A bytes = (s x q p : ℕ) → BadArrow A bytes s x q p → ⊥

-- a pair of numbers comes before another by the first, and then by the second; and four numbers so in turn
abbrev pub Before2 : ℕ → ℕ → ℕ → ℕ → Type 0
Before2 a' b' a b = (a' < a) ⊎ ((a' ≡ a) × (b' < b))

abbrev pub Before4 : ℕ → ℕ → ℕ → ℕ → ℕ → ℕ → ℕ → ℕ → Type 0
Before4 a' b' c' d' a b c d = (a' < a) ⊎ ((a' ≡ a) × ((b' < b) ⊎ ((b' ≡ b) × Before2 c' d' c d)))

-- The first that is bad: of the bytes, by state and rule state; if none is, of the start states, ascending; if none is, of the
-- arrows, by state, situation, rule state and follower
pub data FirstBad (A : Automaton) (bytes : List ℕ) : Place → Type 0 where
  bad_byte :
      (s q : ℕ) → BadByte A bytes s q
      → ((s' q' : ℕ) → Before2 s' q' s q → BadByte A bytes s' q' → ⊥)
      → FirstBad A bytes (record { state = s; situation = 0; rule_state = q; follower = 0 })
  bad_start :
      (q : ℕ) → NoBadByte A bytes → BadStart A bytes q
      → ((q' : ℕ) → q' < q → BadStart A bytes q' → ⊥)
      → FirstBad A bytes (record { state = 0; situation = 0; rule_state = q; follower = 0 })
  bad_arrow :
      (s x q p : ℕ) → NoBadByte A bytes → NoBadStart A bytes → BadArrow A bytes s x q p
      → ((s' x' q' p' : ℕ) → Before4 s' x' q' p' s x q p → BadArrow A bytes s' x' q' p' → ⊥)
      → FirstBad A bytes (record { state = s; situation = x; rule_state = q; follower = p })

-- what each verdict says of the bytes: it names the first thing that is wrong, and check gives no other refusal
abbrev pub CheckSays : Automaton → List ℕ → Result ℕ Refusal → Type 0
CheckSays A bytes (accepts c) =
    TrailerGood bytes × ForRules A bytes × Distances A bytes × RecordsGood A bytes
    × NoBadByte A bytes × NoBadStart A bytes × NoBadArrow A bytes × (c ≡ told_count bytes)
CheckSays A bytes (refuses Trailer) = TrailerGood bytes → ⊥
CheckSays A bytes (refuses OtherSheet) = TrailerGood bytes × (ForRules A bytes → ⊥)
CheckSays A bytes (refuses Layout) = TrailerGood bytes × ForRules A bytes × (Distances A bytes → ⊥)
CheckSays A bytes (refuses Record) = TrailerGood bytes × ForRules A bytes × Distances A bytes × (RecordsGood A bytes → ⊥)
CheckSays A bytes (refuses (Certificate at)) =
    TrailerGood bytes × ForRules A bytes × Distances A bytes × RecordsGood A bytes × FirstBad A bytes at
CheckSays A bytes (refuses OutOfRange) = ⊥
CheckSays A bytes (refuses HouseRule) = ⊥
CheckSays A bytes (refuses UnlikeRule) = ⊥
CheckSays A bytes (refuses NameTaken) = ⊥
CheckSays A bytes (refuses NoRoom) = ⊥
CheckSays A bytes (refuses NoSuchName) = ⊥
CheckSays A bytes (refuses OverLimit) = ⊥
CheckSays A bytes (refuses NoneFound) = ⊥
CheckSays A bytes (refuses Crowded) = ⊥
CheckSays A bytes (refuses NoController) = ⊥
CheckSays A bytes (refuses NoSituation) = ⊥
CheckSays A bytes (refuses ShortBuffer) = ⊥

-- check gives a verdict exactly if the verdict says so
abbrev pub VerdictsExact : Type 0
VerdictsExact = (A : Automaton) (bytes : List ℕ) (v : Result ℕ Refusal) → (check A bytes ≡ v) ↔ CheckSays A bytes v
