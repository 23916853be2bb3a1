-- What is proved of one automaton on the way to the laws: certificates, counts, and the runs of a controller through positions.
use Rattle.std.proofs.Common.{◌≡◌, ℕ, ◌+◌, ◌<◌, ◌≤◌, ◌⊎◌, ◌↔◌}
use Rattle.model.specs.Automaton.{Automaton, Controller, WellFormed, Path, AtMost, Exceeds, Endless, RejectingCycle}
use Rattle.model.specs.CountLaws.{Marking, Valid, visits}
use Rattle.model.specs.Positions.{Position, mark, start_position, step, Fits, Reach, Safe}

-- `Run A K s P`: the situations of some word take the controller to its state s, and the rule to the position P
pub data Run (A : Automaton) (K : Controller) : ℕ → Position → Type 0 where
  from_start : Run A K 0 (start_position A)
  then : {s : ℕ} {P : Position} (x : ℕ) → Run A K s P → x < A.situations → Run A K (K.next s x) (step A (K.command s) x P)

-- the positions that runs of K lead to
abbrev pub RunsTo : Automaton → Controller → Position → Type 0
RunsTo A K P = (s : ℕ) × Run A K s P

-- a valid certificate bounds every path; there is one exactly where paths are bounded; and that is decided
abbrev pub CertificateSound : Type 0
CertificateSound = (A : Automaton) (K : Controller) (c : ℕ) (C : Marking) → WellFormed A K → Valid A K c C → AtMost A K c

abbrev pub CertificateExact : Type 0
CertificateExact = (A : Automaton) (K : Controller) (c : ℕ) → WellFormed A K → ((C : Marking) × Valid A K c C) ↔ AtMost A K c

abbrev pub CountDecided : Type 0
CountDecided = (A : Automaton) (K : Controller) (c : ℕ) → WellFormed A K → AtMost A K c ⊎ Exceeds A K c

-- a bound leaves no rejecting cycle, and bounds the rejecting pairs of endless paths
abbrev pub BoundedIsFinite : Type 0
BoundedIsFinite =
    (A : Automaton) (K : Controller) (c : ℕ) → AtMost A K c → (RejectingCycle A K → ⊥) × ((E : Endless A K) (k : ℕ) → visits A E.rule k ≤ c)

-- each tally of a run is the count of a path, and each path's count stands in a run
abbrev pub RunsTally : Type 0
RunsTally =
    (A : Automaton) (K : Controller) → ((s q t : ℕ) (P : Position) → Run A K s P → mark P q ≡ t + 1 → Path A K s q t)
    × ((s q t : ℕ) → Path A K s q t → (P : Position) × Run A K s P × (t + 1 ≤ mark P q))

-- what runs of a controller of count at most c lead to is a safe set within Reach(c) that holds the start
abbrev pub RunsSafe : Type 0
RunsSafe =
    (A : Automaton) (K : Controller) (c : ℕ) → WellFormed A K → AtMost A K c
    → Fits A c (start_position A) × RunsTo A K (start_position A) × Safe A c (RunsTo A K) × ((P : Position) → RunsTo A K P → Reach A c P)
