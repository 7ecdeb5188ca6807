use Rattle.lam_meaning_typed.proofs.Threads.{typed_never_broken}
use Rattle.lam_meaning_typed.proofs.typed_never_wrong.Goals as goal

pub returns : goal.returns
returns c = typed_never_broken
