-- The rules that are built in, and several rules side by side as one.
use Rattle.std.specs.Prelude.{ℕ, ◌+◌, ◌-◌, min, max, true, false, cond, not, ◌&&◌, ◌||◌, List, [], ◌∷◌, ◌==◌, nat_lt}
use Rattle.model.specs.Automaton.{Automaton}

-- of a number of situations or commands outside 1 to 8, the nearest inside
abbrev pub nearest : ℕ → ℕ
nearest n = max 1 (min n 8)

-- free: one state, which starts, is not rejecting and always follows itself
abbrev pub free : ℕ → ℕ → Automaton
free situations commands =
    record {
      situations = nearest situations;
      commands = nearest commands;
      states = 1;
      start = λ q. true;
      reject = λ q. false;
      follows = λ q u x p. true;
    }

-- reply of the situation a by the command b: state 0 starts and always follows itself; state 1 is rejecting, follows 0 in the
-- situation a, and follows itself under every command but b
abbrev pub reply : ℕ → ℕ → ℕ → ℕ → Automaton
reply situations commands a b =
    record {
      situations = nearest situations;
      commands = nearest commands;
      states = 2;
      start = λ q. (q == 0);
      reject = λ q. (q == 1);
      follows = λ q u x p. cond (q == 0) (p == 0 || (p == 1 && x == a)) (p == 1 && not (u == b));
    }

-- two rules side by side: the states of the first, then those of the second; each answers as in its own rule, and no state of one
-- part follows a state of the other
abbrev pub beside : Automaton → Automaton → Automaton
beside A B =
    let n = A.states in
    record {
      situations = min A.situations B.situations;
      commands = min A.commands B.commands;
      states = A.states + B.states;
      start = λ q. cond (nat_lt q n) (A.start q) (B.start (q - n));
      reject = λ q. cond (nat_lt q n) (A.reject q) (B.reject (q - n));
      follows = λ q u x p. elim (nat_lt q n) [ true ↦ nat_lt p n && A.follows q u x p | false ↦ not (nat_lt p n) && B.follows (q - n) u x (p - n) ];
    }

-- the first n states of a rule
abbrev pub cut : ℕ → Automaton → Automaton
cut n A =
    record {
      situations = A.situations;
      commands = A.commands;
      states = min n A.states;
      start = A.start;
      reject = A.reject;
      follows = A.follows;
    }

-- the pair: one rule of any two, cut at 255 states
abbrev pub pair : Automaton → Automaton → Automaton
pair A B = cut 255 (beside A B)

-- the rules of a sheet as one: the states count on from the first rule
abbrev pub together : Automaton → List Automaton → Automaton
together house [] = house
together house (A ∷ rest) = together (beside house A) rest
