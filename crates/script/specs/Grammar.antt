-- How a line writes a rule.
use Rattle.std.specs.Prelude.{◌≡◌, ℕ, List, codes}
use Rattle.model.specs.Automaton.{Automaton}
use Rattle.model.specs.Rules.{free, reply, pair}
use Rattle.script.specs.Words.{Stands, Denotes}
use Rattle.script.specs.Bytes.{Tells}
use Rattle.script.specs.declared.bytes.Source.{Source}

-- from one place up to another there stands one word, which denotes the number
pub record NumberAt (line : List ℕ) (from to n : ℕ) : Type 0 where
  pub word : List ℕ
  pub stands : Stands line from to word
  pub denotes : Denotes word n

-- from one place up to another there stand the numbers of the rule free, or of the rule reply
pub record FreeNumbers (line : List ℕ) (from to : ℕ) (R : Automaton) : Type 0 where
  pub p : ℕ
  pub situations : ℕ
  pub commands : ℕ
  pub at_situations : NumberAt line from p situations
  pub at_commands : NumberAt line p to commands
  pub rule : R ≡ free situations commands

pub record ReplyNumbers (line : List ℕ) (from to : ℕ) (R : Automaton) : Type 0 where
  pub p : ℕ
  pub q : ℕ
  pub r : ℕ
  pub situations : ℕ
  pub commands : ℕ
  pub situation : ℕ
  pub command : ℕ
  pub at_situations : NumberAt line from p situations
  pub at_commands : NumberAt line p q commands
  pub at_situation : NumberAt line q r situation
  pub at_command : NumberAt line r to command
  pub rule : R ≡ reply situations commands situation command

-- from one place up to another the line writes the rule: `free S C`, `reply S C A B`, or `pair` and two rules
pub data Writes (line : List ℕ) : ℕ → ℕ → Automaton → Type 0 where
  writes_free : {from p to : ℕ} {R : Automaton} → Stands line from p (codes "free") → FreeNumbers line p to R → Writes line from to R
  writes_reply : {from p to : ℕ} {R : Automaton} → Stands line from p (codes "reply") → ReplyNumbers line p to R → Writes line from to R
  writes_pair : {from p q to : ℕ} {R R' : Automaton} → Stands line from p (codes "pair") → Writes line p q R → Writes line q to R' → Writes line from to (pair R R')

-- from one place up to another there stand the word `text` and the word of its bytes
pub record TextAt (line : List ℕ) (from to : ℕ) (s : Source) : Type 0 where
  pub p : ℕ
  pub keyword : Stands line from p (codes "text")
  pub word : List ℕ
  pub at_word : Stands line p to word
  pub tells : Tells word s

-- from one place up to another there stand two numbers, and a text
pub record NumbersAndText (line : List ℕ) (from to situations commands : ℕ) (s : Source) : Type 0 where
  pub p : ℕ
  pub q : ℕ
  pub at_situations : NumberAt line from p situations
  pub at_commands : NumberAt line p q commands
  pub at_text : TextAt line q to s

-- from one place up to another there stand numbers of situations and commands, a capacity, a limit, and a rule
pub record SetupAt (line : List ℕ) (from to situations commands capacity limit : ℕ) (house : Automaton) : Type 0 where
  pub p : ℕ
  pub q : ℕ
  pub r : ℕ
  pub t : ℕ
  pub at_situations : NumberAt line from p situations
  pub at_commands : NumberAt line p q commands
  pub at_capacity : NumberAt line q r capacity
  pub at_limit : NumberAt line r t limit
  pub at_house : Writes line t to house
