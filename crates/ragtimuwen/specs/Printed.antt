-- What the program prints.
use Rattle.std.specs.Prelude.{ℕ, List, [], ◌∷◌, ◌++◌, codes, decimal, Option as Shown, Some}
use Rattle.std.specs.Fmt.{◌++?◌}
use Rattle.std.proofs.Math.Option.{Option, none, some}
use Rattle.model.specs.Automaton.{Automaton}
use Rattle.model.specs.Refusals.{Spot, fault_number, fault_spot, refusal_number}
use Rattle.model.specs.declared.fault.ReadFault.{ReadFault}
use Rattle.model.specs.declared.refusal.Refusal.{Refusal}

-- the numbers of a rule
abbrev pub heading : Automaton → List ℕ
heading A = codes "rule situations " ++ (decimal A.situations ++ (codes " commands " ++ (decimal A.commands ++ (codes " states " ++ decimal A.states))))

-- values with a space before each, where each states its text
abbrev pub spaced : {X : Type 0} → (X → Shown (List ℕ)) → List X → Shown (List ℕ)
spaced text [] = Some []
spaced text (x ∷ xs) = (Some (codes " ") ++? text x) ++? spaced text xs

-- the place of a fault, if it has one
abbrev pub placed : Option Spot → List ℕ
placed none = codes ""
placed (some at) = codes " line " ++ (decimal at.line ++ (codes " byte " ++ decimal at.byte))

-- why a text is not read
abbrev pub refused : ReadFault → List ℕ
refused fault = codes "read refused " ++ (decimal (fault_number fault) ++ placed (fault_spot fault))

-- why no controller is generated
abbrev pub not_generated : Refusal → List ℕ
not_generated refusal = codes "generate refused " ++ decimal (refusal_number refusal)
