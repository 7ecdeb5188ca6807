use Rattle.std.proofs.Common.{get_or}
use Rattle.world_save_terms.specs.Items.{items_of}
use Rattle.world_save_files.proofs.Wording.{items_counted}
use Rattle.world_save_files.proofs.document.saved_document.Goals as goal

pub returns-clause-ok : goal.returns-clause-ok
returns-clause-ok c = record { text_is = c.in_ok-text.ensures.ok.0; fits = c.in_ok-text.ensures.ok.1; counted = items_counted c.args.files.now c.args.steps.now c.requires.walk; bytes = λ k d lt. c.hold_bytes.ensures (get_or (items_of c.args.files.now) k d).target.name }
