-- What holds of the rules that are built in, and of several rules as one.
use Rattle.std.specs.Prelude.{◌≡◌, ℕ, ◌+◌, ◌<◌, ◌≤◌, min, true, false, ◌⊎◌, ◌↔◌, List, [], ◌∷◌, ◌++◌, ◌≢◌}
use Rattle.model.specs.Automaton.{Automaton}
use Rattle.model.specs.Rules.{nearest, free, reply, beside, pair, together}

-- inside 1 to 8 a number is taken as it is, and outside the nearest inside
abbrev pub NearestExact : Type 0
NearestExact = (n : ℕ) → (1 ≤ n → n ≤ 8 → nearest n ≡ n) × (n < 1 → nearest n ≡ 1) × (8 < n → nearest n ≡ 8)

-- free: one state, which starts, is not rejecting, and always follows itself
abbrev pub FreeExact : Type 0
FreeExact =
    (S C : ℕ)
    → let A = free S C in
    (A.situations ≡ nearest S) × (A.commands ≡ nearest C) × (A.states ≡ 1)
    × (A.start 0 ≡ true) × (A.reject 0 ≡ false) × ((u x : ℕ) → A.follows 0 u x 0 ≡ true)

-- reply of a by b: state 0 starts, state 1 rejects; 0 follows 0, 1 follows 0 in the situation a, and 1 follows 1 under every command but b
abbrev pub ReplyExact : Type 0
ReplyExact =
    (S C a b : ℕ)
    → let A = reply S C a b in
    (A.situations ≡ nearest S) × (A.commands ≡ nearest C) × (A.states ≡ 2)
    × ((q : ℕ) → (A.start q ≡ true) ↔ (q ≡ 0))
    × ((q : ℕ) → (A.reject q ≡ true) ↔ (q ≡ 1))
    × ((q u x p : ℕ) → q < 2 → p < 2
    → (A.follows q u x p ≡ true)
    ↔ (((q ≡ 0) × (p ≡ 0)) ⊎ (((q ≡ 0) × (p ≡ 1) × (x ≡ a)) ⊎ ((q ≡ 1) × (p ≡ 1) × (u ≢ b)))))

-- from the state n on, T answers as A does from 0 on, and no other state of T follows one of these, or is followed by one
pub record PartAt (T : Automaton) (n : ℕ) (A : Automaton) : Type 0 where
  pub inside : n + A.states ≤ T.states
  pub starts : (q : ℕ) → q < A.states → T.start (n + q) ≡ A.start q
  pub rejects : (q : ℕ) → q < A.states → T.reject (n + q) ≡ A.reject q
  pub follows : (q u x p : ℕ) → q < A.states → p < A.states → T.follows (n + q) u x (n + p) ≡ A.follows q u x p
  pub apart_from : (q u x p : ℕ) → q < A.states → p < T.states → (p < n) ⊎ (n + A.states ≤ p) → T.follows (n + q) u x p ≡ false
  pub apart_to : (q u x p : ℕ) → q < T.states → p < A.states → (q < n) ⊎ (n + A.states ≤ q) → T.follows q u x (n + p) ≡ false

-- two rules side by side are parts, the second behind the first; the pair is the same, cut at 255 states
abbrev pub PairExact : Type 0
PairExact =
    (A B : Automaton)
    → PartAt (beside A B) 0 A × PartAt (beside A B) A.states B × ((beside A B).states ≡ A.states + B.states)
    × ((pair A B).situations ≡ min A.situations B.situations)
    × ((pair A B).commands ≡ min A.commands B.commands)
    × ((pair A B).states ≡ min 255 (A.states + B.states))
    × ((q : ℕ) → (pair A B).start q ≡ (beside A B).start q)
    × ((q : ℕ) → (pair A B).reject q ≡ (beside A B).reject q)
    × ((q u x p : ℕ) → (pair A B).follows q u x p ≡ (beside A B).follows q u x p)

-- the number of states of several rules
abbrev pub total_states : List Automaton → ℕ
total_states [] = 0
total_states (A ∷ rest) = A.states + total_states rest

-- of several rules as one, each is a part, and its states count on from those of the rules before it
abbrev pub TogetherCountsOn : Type 0
TogetherCountsOn =
    (house : Automaton) (added before : List Automaton) (A : Automaton) (behind : List Automaton)
    → house ∷ added ≡ before ++ (A ∷ behind)
    → PartAt (together house added) (total_states before) A × ((together house added).states ≡ total_states (house ∷ added))
