-- The controller file: what write puts down, and what check makes of any bytes.
use Rattle.std.specs.Prelude.{ℕ, zero, suc, ◌+◌, ◌-◌, ◌*◌, ◌/◌, ◌%◌, Bool, true, false, ◌&&◌, nat_lt, List, [], ◌∷◌, ◌++◌, map, length, slice_index_or, take, drop, Ok as accepts, Err as refuses, Result, ◌==◌, nat_le, slice_index}
use Rattle.std.proofs.Math.Option.{Option, none, some}
use Rattle.std.specs.List.{range_with_len}
use Rattle.model.specs.declared.refusal.Place.{Place}
use Rattle.model.specs.declared.refusal.Refusal.{Refusal}
use Rattle.model.specs.declared.refusal.Refusal.TheVariants.{Trailer, OtherSheet, Layout, Record, Certificate}
use Rattle.model.specs.Automaton.{Automaton, weight, Row, no_row}
use Rattle.model.specs.Lists.{every, first, joined}
use Rattle.model.specs.Positions.{Position, same, mark}

-- n bytes of a number, the lowest first; and the number of such bytes
abbrev pub bytes_of : ℕ → ℕ → List ℕ
bytes_of zero v = []
bytes_of (suc n) v = v % 256 ∷ bytes_of n (v / 256)

abbrev pub number_of : List ℕ → ℕ
number_of [] = 0
number_of (b ∷ bs) = b + 256 * number_of bs

-- PARTS

-- a command byte, and a 16-bit next state per situation
unfoldable pub record_bytes : Row → List ℕ
record_bytes r = r.command ∷ joined (bytes_of 2) r.nexts

-- FF for absent, or a tally
abbrev pub tally_byte : ℕ → ℕ
tally_byte zero = 255
tally_byte (suc t) = t

abbrev pub byte_mark : ℕ → ℕ
byte_mark b = elim (b == 255) [ true ↦ 0 | false ↦ suc b ]

abbrev pub file_mark : List ℕ
file_mark = 0x54 ∷ 0x54 ∷ 0x43 ∷ 0x31 ∷ []

-- the sizes of the records and of the certificate of m states
abbrev pub records_size : ℕ → ℕ → ℕ
records_size situations m = m * (1 + 2 * situations)

abbrev pub certificate_size : ℕ → ℕ → ℕ
certificate_size states m = m * states

unfoldable pub trailer : Automaton → ℕ → ℕ → List ℕ
trailer A m c =
    let cert = certificate_size A.states m in
    file_mark
    ++ (bytes_of 4 (records_size A.situations m + cert)
    ++ (bytes_of 4 cert
    ++ (bytes_of 2 m
    ++ (A.situations ∷ A.commands ∷ A.states ∷ c ∷ 0 ∷ 0 ∷ []))))

-- the file of a controller with a certificate and the number c
unfoldable pub file : Automaton → List Row → List ℕ → ℕ → List ℕ
file A rows certificate c = joined record_bytes rows ++ (certificate ++ trailer A (length rows) c)

-- the certificate of the positions: each state has its position's tallies
unfoldable pub tallies : List Position → List ℕ
tallies positions = joined (map tally_byte) positions

-- CHECK

-- the list in pieces of a size, so many
abbrev pub pieces : ℕ → ℕ → List ℕ → List (List ℕ)
pieces zero size bytes = []
pieces (suc n) size bytes = take size bytes ∷ pieces n size (drop size bytes)

abbrev pub row_of : ℕ → List ℕ → Row
row_of situations bytes = record { command = slice_index bytes 0; nexts = map number_of (pieces situations 2 (drop 1 bytes)) }

-- a window on the three parts, found from the end
pub record Window : Type 0 where
  pub rows : List Row
  pub marks : List Position
  pub count : ℕ

-- the part of so many bytes that begins so many bytes in
abbrev pub piece : ℕ → ℕ → List ℕ → List ℕ
piece from size bytes = take size (drop from bytes)

abbrev pub good_row : Automaton → ℕ → Row → Bool
good_row A m r = nat_lt r.command A.commands && every (λ s. nat_lt s m) r.nexts

-- the mark of a rule state in a state
abbrev pub mark_in : Window → ℕ → ℕ → ℕ
mark_in w s q = mark (slice_index_or w.marks s []) q

-- a byte is neither FF nor at most c
abbrev pub bad_byte : Window → Place → Bool
bad_byte w at = nat_lt (w.count + 1) (mark_in w at.state at.rule_state)

-- a start state is not present in state 0, or is rejecting and has not at least 1
abbrev pub bad_start : Automaton → Window → Place → Bool
bad_start A w at = let q = at.rule_state in A.start q && nat_lt (mark_in w 0 q) (1 + weight A q)

-- q is present in s and p follows, but p is not present in the next state with at least q's tally, plus 1 if p is rejecting
abbrev pub bad_arrow : Automaton → Window → Place → Bool
bad_arrow A w at =
    let s = at.state in
    let q = at.rule_state in
    let p = at.follower in
    let r = slice_index_or w.rows s no_row in
    let m = mark_in w s q in
    elim (nat_lt 0 m) [
      | true ↦
          elim (A.follows q r.command at.situation p) [
            | true ↦ nat_lt (mark_in w (slice_index r.nexts at.situation) p) (m + weight A p)
            | false ↦ false
          ]
      | false ↦ false
    ]

abbrev pub place : ℕ → ℕ → ℕ → ℕ → Place
place s x q p = record { state = s; situation = x; rule_state = q; follower = p }

-- the places of bytes, start states and arrows, in the order of looking
abbrev pub byte_places : Automaton → ℕ → List Place
byte_places A m = joined (λ s. map (λ q. place s 0 q 0) (range_with_len 0 A.states)) (range_with_len 0 m)

abbrev pub start_places : Automaton → List Place
start_places A = map (λ q. place 0 0 q 0) (range_with_len 0 A.states)

abbrev pub arrow_places : Automaton → ℕ → List Place
arrow_places A m =
    joined
    (λ s.
    joined
    (λ x.
    joined (λ q. map (λ p. place s x q p) (range_with_len 0 A.states)) (range_with_len 0 A.states))
    (range_with_len 0 A.situations))
    (range_with_len 0 m)

-- first all bytes, then the start states, then all arrows
unfoldable pub first_broken : Automaton → Window → Option Place
first_broken A w =
    elim (first (bad_byte w) (byte_places A (length w.rows))) [
      | some at ↦ some at
      | none ↦
          elim (first (bad_start A w) (start_places A)) [ some at ↦ some at | none ↦ first (bad_arrow A w) (arrow_places A (length w.rows)) ]
    ]

unfoldable pub look_through : Automaton → Window → Result ℕ Refusal
look_through A w =
    elim (every (good_row A (length w.rows)) w.rows) [
      | false ↦ refuses Record
      | true ↦ elim (first_broken A w) [ some at ↦ refuses (Certificate at) | none ↦ accepts w.count ]
    ]

unfoldable pub check : Automaton → List ℕ → Result ℕ Refusal
check A bytes =
    let at = length bytes - 20 in
    let end = drop at bytes in
    let m = number_of (piece 12 2 end) in
    let c = slice_index_or end 17 0 in
    let records = records_size A.situations m in
    let cert = certificate_size A.states m in
    elim (nat_le 20 (length bytes) && (same (take 4 end) file_mark && (same (drop 18 end) (0 ∷ 0 ∷ []) && (nat_le 1 m && (nat_le m 1024 && nat_le c 14))))) [
      | false ↦ refuses Trailer
      | true ↦
          elim (slice_index end 14 == A.situations && (slice_index end 15 == A.commands && slice_index end 16 == A.states)) [
            | false ↦ refuses OtherSheet
            | true ↦
                elim (number_of (piece 4 4 end) == records + cert && (number_of (piece 8 4 end) == cert && nat_le (records + cert) at)) [
                  | false ↦ refuses Layout
                  | true ↦
                      look_through
                      A
                      (record {
                        rows = map (row_of A.situations) (pieces m (1 + 2 * A.situations) (drop (at - (records + cert)) bytes));
                        marks = map (map byte_mark) (pieces m A.states (drop (at - cert) bytes));
                        count = c;
                      })
                ]
          ]
    ]
