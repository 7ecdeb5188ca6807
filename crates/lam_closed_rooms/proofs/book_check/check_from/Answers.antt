use Rattle.std.proofs.Common.{◌≡◌, Ok, ap, string_bytes}
use Rattle.flow_labels.specs.LabelText.{label_of}
use Rattle.flow_labels.specs.declared.Label.{Label}
use Rattle.lam_machine_effects.specs.declared.stores.Stores.{Stores}
use Rattle.lam_closed_rooms.proofs.CheckLemmas.{base_says, no_base_says}
use Rattle.lam_closed_rooms.proofs.book_check.check_from.Goals as goal

pub returns-in-Ok-clause-says : goal.returns-in-Ok-clause-says
returns-in-Ok-clause-says g c = λ told.
    base_says (g.H.Shelf.files c.args.shelf.now) (string_bytes c.args.book) (string_bytes c.args.base) c.args.code.now c.args.start c.stores.result.now.names (ap (λ (s : Stores). s.names) c.stores.ensures) c.as_str.result.now c.as_str.ensures.value c.in-Ok.label c.check_book.result c.in-Ok.ensures.finds (c.check_book.ensures.says told)

pub returns-in-Err-clause-says : goal.returns-in-Err-clause-says
returns-in-Err-clause-says g c = λ told.
    no_base_says (g.H.Shelf.files c.args.shelf.now) (string_bytes c.args.book) (string_bytes c.args.base) c.args.code.now c.args.start c.stores.result.now.names (ap (λ (s : Stores). s.names) c.stores.ensures) c.as_str.result.now c.as_str.ensures.value (λ (b : Label). label_of c.stores.result.now.names c.as_str.result.now ≡ Ok b) c.in-Err.halt c.in-Err.ensures.finds
