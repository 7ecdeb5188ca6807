use Rattle.lam_front_laws.proofs.TheLaw.{unexpected_is_underived}
use Rattle.lam_front_laws.proofs.derivations.unexpected_tokens_are_underived.Goals as goal

pub returns : goal.returns
returns c = unexpected_is_underived
