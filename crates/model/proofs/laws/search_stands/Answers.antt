use Rattle.model.proofs.Searches.{search_exact}
use Rattle.model.proofs.laws.search_stands.Goals as goal

pub returns : goal.returns
returns g c = search_exact _
