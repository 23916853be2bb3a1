-- The refusals of a solve that finds nothing.
use Rattle.model.specs.declared.refusal.Refusal.{Refusal}
use Rattle.model.specs.declared.refusal.Refusal.TheVariants.{NoneFound as NothingFound, Crowded as TooCrowded}
use Rattle.synthesis.specs.declared.solved.Unsolved.{Unsolved}
use Rattle.synthesis.specs.declared.solved.Unsolved.TheVariants.{NoneFound, Crowded}

-- the refusal that says why there is no controller
abbrev pub refused_by : Unsolved → Refusal
refused_by NoneFound = NothingFound
refused_by Crowded = TooCrowded
