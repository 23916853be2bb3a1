-- The tables of a rule, and the automaton that they state.
use Rattle.std.specs.Prelude.{◌≡◌, ℕ, ◌<◌, Bool, true, false, cond, ◌&&◌, ◌||◌, List, [], slice_index_or, Some, None, Option, ◌==◌, nat_lt}
use Rattle.std.specs.List.{list_any, range_with_len}
use Rattle.model.specs.Automaton.{Automaton}
use Rattle.model.specs.Text.{Choice, one, each}
use Rattle.ruletext.specs.Lines.{digit_of}
use Rattle.ruletext.specs.declared.table.StateSet.{StateSet}
use Rattle.ruletext.specs.declared.table.BySituation.{BySituation}
use Rattle.ruletext.specs.declared.table.ByCommand.{ByCommand}

-- for each state, command, situation and follower, whether there is that arrow
abbrev pub ArrowTable : Type 0
ArrowTable = List ByCommand

abbrev pub no_commands : ByCommand
no_commands = record { commands = [] }

abbrev pub no_situations : BySituation
no_situations = record { situations = [] }

abbrev pub no_states : StateSet
no_states = record { has = [] }

-- a word names the state
abbrev pub names : List (List ℕ) → ℕ → Bool
names words p = list_any (λ word. p == digit_of word) words

-- p is one of the states
abbrev pub has_state : StateSet → ℕ → Bool
has_state set p = slice_index_or set.has p false

-- p follows in the situation x
abbrev pub in_situation : BySituation → ℕ → ℕ → Bool
in_situation by x p = has_state (slice_index_or by.situations x no_states) p

-- p follows under the command u in the situation x
abbrev pub by_command : ByCommand → ℕ → ℕ → ℕ → Bool
by_command by u x p = in_situation (slice_index_or by.commands u no_situations) x p

-- p follows q under the command u in the situation x
abbrev pub arrow : ArrowTable → ℕ → ℕ → ℕ → ℕ → Bool
arrow arrows q u x p = by_command (slice_index_or arrows q no_commands) u x p

-- a number is the digit; a star takes each
abbrev pub taken : Choice → ℕ → Bool
taken (one d) i = d == i
taken each i = true

-- to the arrows before come those of which the test holds, and no others
abbrev pub Adds : ArrowTable → ArrowTable → (ℕ → ℕ → ℕ → ℕ → Bool) → Type 0
Adds before after test =
    (q u x p : ℕ) → q < 8 → u < 8 → x < 8 → p < 8
    → arrow after q u x p ≡ (arrow before q u x p || test q u x p)

-- the rule that the tables state: with so many situations, commands and states, and its start state
abbrev pub automaton : ℕ → ℕ → ℕ → ℕ → StateSet → ArrowTable → Automaton
automaton situations commands states start rejecting arrows =
    record {
      situations = situations;
      commands = commands;
      states = states;
      start = λ q. (q == start);
      reject = has_state rejecting;
      follows = λ q u x p. (nat_lt q 8 && (nat_lt u 8 && (nat_lt x 8 && nat_lt p 8))) && arrow arrows q u x p;
    }

-- every arrow is between states, under a command and in a situation
abbrev pub Within : ℕ → ℕ → ℕ → ArrowTable → Type 0
Within situations commands states arrows =
    (q u x p : ℕ) → q < 8 → u < 8 → x < 8 → p < 8 → arrow arrows q u x p ≡ true
    → (q < states) × (u < commands) × (x < situations) × (p < states)

-- under some command in some situation, p follows q
abbrev pub Led : ArrowTable → ℕ → ℕ → Type 0
Led arrows q p = (u : ℕ) × (x : ℕ) × (u < 8) × (x < 8) × (arrow arrows q u x p ≡ true)

-- the same as a test
abbrev pub led : ArrowTable → ℕ → ℕ → Bool
led arrows q p = list_any (λ u. list_any (λ x. arrow arrows q u x p) (range_with_len 0 8)) (range_with_len 0 8)

-- the states as a graph: the successor p of a state is there if it follows it
abbrev pub follower : ArrowTable → ℕ → ℕ → Option ℕ
follower arrows q p = cond (nat_lt q 8 && led arrows q p) (Some p) None
