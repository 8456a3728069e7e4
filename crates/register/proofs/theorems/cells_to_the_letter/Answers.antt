use Rattle.register.proofs.Letters.{to_the_letter}
use Rattle.register.proofs.theorems.cells_to_the_letter.Goals as goal

pub returns : goal.returns
returns c = to_the_letter
