use Rattle.world_save_laws.proofs.Bounded.{texts_bounded, spelled_bounded}
use Rattle.world_save_laws.proofs.text_laws.spelled_texts_are_bounded.Goals as goal

pub returns-clause-values : goal.returns-clause-values
returns-clause-values c = texts_bounded

pub returns-clause-documents : goal.returns-clause-documents
returns-clause-documents c = spelled_bounded
