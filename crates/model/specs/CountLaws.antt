-- What holds of counts: certificates bound them, and a bounded count leaves no reachable cycle through a rejecting state.
use Rattle.std.specs.Prelude.{◌≡◌, ℕ, zero, suc, ◌+◌, ◌<◌, ◌≤◌, ◌⊎◌, ◌↔◌, List, ◌∷◌}
use Rattle.model.specs.Lists.{In}
use Rattle.model.specs.Automaton.{Automaton, weight, Starts, Follows, Controller, WellFormedFor, AtMost, Exceeds, HasCount, Endless, RejectingCycle, CountAtMost, CountAbove, CountIs, CountAboveAll, NoRejectingCycle}
use Rattle.model.specs.Rules.{together}

-- the rules are for S situations and C commands
abbrev pub RulesFor : ℕ → ℕ → List Automaton → Type 0
RulesFor S C rules = (A : Automaton) → In rules A → (A.situations ≡ S) × (A.commands ≡ C)

-- CERTIFICATES

-- A mark is 0 for an absent rule state, and t + 1 for a present one with the tally t. So the larger mark is the stronger claim.
-- A certificate marks each pair of a state and a rule state
abbrev pub Marking : Type 0
Marking = ℕ → ℕ → ℕ

-- the certificate M bounds the paths of A under K by c
pub record Valid (A : Automaton) (K : Controller) (c : ℕ) (M : Marking) : Type 0 where
  -- no tally is above c
  pub within : (s q : ℕ) → s < K.size → q < A.states → M s q ≤ c + 1
  -- a start state is present in state 0, with a tally of at least 1 if it is rejecting
  pub begins : (q : ℕ) → Starts A q → 1 + weight A q ≤ M 0 q
  -- what follows a present state is present in the next one, with at least its tally, plus 1 if it is rejecting
  pub carries : (s q x p : ℕ) → s < K.size → q < A.states → 0 < M s q → Follows A q (K.command s) x p → M s q + weight A p ≤ M (K.next s x) p

-- For rules side by side, a valid certificate with the number c exists exactly if the count over all rules is at most c; and it is
-- decided whether it is
abbrev pub CertificatesExact : Type 0
CertificatesExact =
    (S C : ℕ) (house : Automaton) (added : List Automaton) → RulesFor S C (house ∷ added)
    → (K : Controller) (c : ℕ) → WellFormedFor S C K
    → (((M : Marking) × Valid (together house added) K c M) ↔ CountAtMost (house ∷ added) K c)
    × (CountAtMost (house ∷ added) K c ⊎ CountAbove (house ∷ added) K c)

-- the count over rules for the same situations and commands is that of the rules side by side
abbrev pub TogetherAgrees : Type 0
TogetherAgrees =
    (S C : ℕ) (house : Automaton) (added : List Automaton) → RulesFor S C (house ∷ added)
    → (K : Controller) (c : ℕ)
    → (CountAtMost (house ∷ added) K c ↔ AtMost (together house added) K c)
    × (CountAbove (house ∷ added) K c ↔ Exceeds (together house added) K c)
    × (CountIs (house ∷ added) K c ↔ HasCount (together house added) K c)

-- CYCLES

-- how many of an endless path's first k pairs are rejecting
abbrev pub visits : Automaton → (ℕ → ℕ) → ℕ → ℕ
visits A rule zero = 0
visits A rule (suc k) = visits A rule k + weight A (rule k)

-- a controller whose count is at most c has no reachable cycle through a rejecting state, of any rule; and of an endless path's first
-- pairs, however many, at most c are rejecting
abbrev pub BoundedWithoutCycle : Type 0
BoundedWithoutCycle =
    (rules : List Automaton) (K : Controller) (c : ℕ) → CountAtMost rules K c
    → NoRejectingCycle rules K
    × ((A : Automaton) → In rules A → (E : Endless A K) (k : ℕ) → visits A E.rule k ≤ c)

-- every controller has one count, or reaches a cycle through a rejecting state, and then its count is above every number
abbrev pub CountOrCycle : Type 0
CountOrCycle =
    (S C : ℕ) (rules : List Automaton) → RulesFor S C rules → (K : Controller) → WellFormedFor S C K
    → (((c : ℕ) × CountIs rules K c) ⊎ ((A : Automaton) × In rules A × RejectingCycle A K))
    × ((c k : ℕ) → CountIs rules K c → CountIs rules K k → c ≡ k)
    × (((A : Automaton) × In rules A × RejectingCycle A K) → CountAboveAll rules K)
