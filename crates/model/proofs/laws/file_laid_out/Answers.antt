use Rattle.model.proofs.FileLaws.Layout.{file_laid_out}
use Rattle.model.proofs.laws.file_laid_out.Goals as goal

pub returns : goal.returns
returns c = file_laid_out
