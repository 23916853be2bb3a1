-- TextRule text: its lines, the rule that they state, and what the rule means.
use Rattle.std.specs.Prelude.{ℕ, ◌+◌, Bool, true, false, ◌&&◌, ◌||◌, List, [], ◌∷◌, ◌++◌, map, length, ◌==◌, nat_eq, nat_le, nat_lt}
use Rattle.std.proofs.Math.Option.{Option, none, some}
use Rattle.std.specs.List.{range_with_len}
use Rattle.model.specs.Automaton.{Automaton}
use Rattle.model.specs.Rules.{free}
use Rattle.model.specs.Search.{reached_from}
use Rattle.model.specs.Lists.{every, any, joined}

-- LINES

-- a digit, or `*` for every one
pub data Choice : Type 0 where
  one : ℕ → Choice
  each : Choice

-- a t line: a state, a command, a situation, and the states that follow
pub record Arrows : Type 0 where
  pub from : ℕ
  pub command : Choice
  pub situation : Choice
  pub to : List ℕ

pub data Line : Type 0 where
  n_line : List ℕ → Line  -- the name's bytes
  s_line : ℕ → ℕ → Line  -- the number of states, the start state
  r_line : List ℕ → Line  -- the rejecting states
  t_line : Arrows → Line

abbrev pub between : ℕ → ℕ → ℕ → Bool
between low high b = nat_le low b && nat_le b high

-- 0 to 9; A to Z, a to z
abbrev pub digit_byte : ℕ → Bool
digit_byte b = between 48 57 b

abbrev pub name_byte : ℕ → Bool
name_byte b = digit_byte b || (between 65 90 b || between 97 122 b)

-- the name has 1 to 8 letters or digits
abbrev pub good_name : List ℕ → Bool
good_name name = between 1 8 (length name) && every name_byte name

abbrev pub one_digit : ℕ → Bool
one_digit d = nat_lt d 10

abbrev pub good_choice : Choice → Bool
good_choice (one d) = one_digit d
good_choice each = true

-- the words of a line are words: a name is one, and every number is one digit
abbrev pub correct : Line → Bool
correct (n_line name) = good_name name
correct (s_line n q) = one_digit n && one_digit q
correct (r_line qs) = every one_digit qs
correct (t_line a) = one_digit a.from && (good_choice a.command && (good_choice a.situation && every one_digit a.to))

-- each word follows one space
abbrev pub digit_word : ℕ → List ℕ
digit_word d = 32 ∷ (d + 48) ∷ []

abbrev pub choice_word : Choice → List ℕ
choice_word (one d) = digit_word d
choice_word each = 32 ∷ 42 ∷ []

-- the bytes of a line: its letter, its words, the line end
abbrev pub line_bytes : Line → List ℕ
line_bytes (n_line name) = 110 ∷ 32 ∷ name ++ (10 ∷ [])
line_bytes (s_line n q) = 115 ∷ digit_word n ++ (digit_word q ++ (10 ∷ []))
line_bytes (r_line qs) = 114 ∷ joined digit_word qs ++ (10 ∷ [])
line_bytes (t_line a) =
    116 ∷ digit_word a.from ++ (choice_word a.command ++ (choice_word a.situation ++ (joined digit_word a.to ++ (10 ∷ []))))

-- THE RULE THAT LINES STATE

-- what the lines of a text state
pub record TextRule : Type 0 where
  pub name : List ℕ
  pub states : ℕ
  pub start : ℕ
  pub rejecting : List ℕ
  pub arrows : List Arrows

-- n, s and r once each, in this order, before all t lines
abbrev pub lines : TextRule → List Line
lines r = n_line r.name ∷ s_line r.states r.start ∷ r_line r.rejecting ∷ map t_line r.arrows

abbrev pub text : TextRule → List ℕ
text r = joined line_bytes (lines r)

abbrev pub among : List ℕ → ℕ → Bool
among qs q = any (nat_eq q) qs

-- a digit stands for itself, and `*` for every number below n
abbrev pub chosen : ℕ → Choice → ℕ → Bool
chosen n (one d) i = d == i
chosen n each i = nat_lt i n

-- by this line, for S situations and C commands, p follows q under the command u in the situation x
abbrev pub has_arrow : ℕ → ℕ → ℕ → ℕ → ℕ → ℕ → Arrows → Bool
has_arrow S C q u x p a = a.from == q && (chosen C a.command u && (chosen S a.situation x && among a.to p))

-- the following states of several lines are united
abbrev pub meaning : ℕ → ℕ → TextRule → Automaton
meaning situations commands r =
    record {
      situations = situations;
      commands = commands;
      states = r.states;
      start = λ q. (q == r.start);
      reject = among r.rejecting;
      follows = λ q u x p. any (has_arrow situations commands q u x p) r.arrows;
    }

-- the states that follow q under some command in some situation
unfoldable pub neighbours : Automaton → ℕ → List ℕ
neighbours A q =
    joined
    (λ u.
    joined
    (λ x.
    joined (λ p. elim (A.follows q u x p) [ true ↦ p ∷ [] | false ↦ [] ]) (range_with_len 0 A.states))
    (range_with_len 0 A.situations))
    (range_with_len 0 A.commands)

-- the states reached from the start state
unfoldable pub reached : ℕ → ℕ → TextRule → Option (List ℕ)
reached situations commands r = reached_from nat_eq (neighbours (meaning situations commands r)) r.states r.start

unfoldable pub all_reached : ℕ → ℕ → TextRule → Bool
all_reached situations commands r = elim (reached situations commands r) [ none ↦ false | some met ↦ nat_eq (length met) r.states ]

-- NUMBERS AND THEIR RANGES

-- of situations and commands
abbrev pub numbers_in_range : ℕ → ℕ → Bool
numbers_in_range S C = between 1 8 S && between 1 8 C

-- a number in a line, its byte, and its range: from `least`, and below `under`
pub record Number : Type 0 where
  pub value : ℕ
  pub at : ℕ
  pub least : ℕ
  pub under : ℕ

abbrev pub state_numbers : ℕ → ℕ → List ℕ → List Number
state_numbers n i [] = []
state_numbers n i (q ∷ qs) = record { value = q; at = i; least = 0; under = n } ∷ state_numbers n (i + 2) qs

abbrev pub choice_number : ℕ → ℕ → Choice → List Number
choice_number n i (one d) = record { value = d; at = i; least = 0; under = n } ∷ []
choice_number n i each = []

-- the numbers of a line in a text for S situations, C commands and n states
abbrev pub numbers : ℕ → ℕ → ℕ → Line → List Number
numbers S C n (n_line name) = []
numbers S C n (s_line m q) = record { value = m; at = 2; least = 1; under = 9 } ∷ state_numbers n 4 (q ∷ [])
numbers S C n (r_line qs) = state_numbers n 2 qs
numbers S C n (t_line a) =
    state_numbers n 2 (a.from ∷ []) ++ (choice_number C 4 a.command ++ (choice_number S 6 a.situation ++ state_numbers n 8 a.to))

abbrev pub inside : Number → Bool
inside k = nat_le k.least k.value && nat_lt k.value k.under

-- THE READ RULE

-- a rule with the name that it goes by
pub record Named : Type 0 where
  pub name : List ℕ
  pub rule : Automaton

-- blank, or filled whole by a reading
pub data ReadRule : Type 0 where
  blank : ReadRule
  filled : Named → ReadRule

-- what a text that states r leaves, read for S situations and C commands
abbrev pub named_rule : ℕ → ℕ → TextRule → Named
named_rule S C r = record { name = r.name; rule = meaning S C r }

-- a blank one means free, with one situation and one command
abbrev pub rule_meaning : ReadRule → Automaton
rule_meaning blank = free 1 1
rule_meaning (filled r) = r.rule
