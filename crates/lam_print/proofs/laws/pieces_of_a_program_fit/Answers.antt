use Rattle.lam_print.proofs.PiecesFit.{pieces_fit}
use Rattle.lam_print.proofs.laws.pieces_of_a_program_fit.Goals as goal

pub returns : goal.returns
returns c = pieces_fit
