use Rattle.std.proofs.Common.{◌≡◌, Ok, ap}
use Rattle.flow_labels.specs.LabelText.{label_of}
use Rattle.flow_labels.specs.declared.Label.{Label}
use Rattle.lam_machine_effects.specs.declared.stores.Stores.{Stores}
use Rattle.lam_main_replay.specs.Asked.{lines_for}
use Rattle.lam_closed_rooms.specs.Asked.{asked_of}
use Rattle.lam_closed_rooms.proofs.TakenLemmas.{base_offers, no_base_offers}
use Rattle.lam_closed_rooms.proofs.texts.shown_to.Goals as goal

pub returns-in_ok-viewed-in-Ok-clause-offers : goal.returns-in_ok-viewed-in-Ok-clause-offers
returns-in_ok-viewed-in-Ok-clause-offers c =
    base_offers (asked_of c.args.asked.now) c.args.code c.args.start c.stores.result.now.names (ap (λ (s : Stores). s.names) c.stores.ensures) (lines_for c.args.viewer.now.who c.args.viewer.now.names) c.as_str.result.now c.in-Ok.base c.in_ok-viewed-in-Ok.field-0 c.as_str.ensures.value c.in-Ok.ensures.finds c.in_ok-viewed-in-Ok.ensures

pub returns-in-Err-clause-offers : goal.returns-in-Err-clause-offers
returns-in-Err-clause-offers c =
    no_base_offers (asked_of c.args.asked.now) c.args.code c.args.start c.stores.result.now.names (ap (λ (s : Stores). s.names) c.stores.ensures) (lines_for c.args.viewer.now.who c.args.viewer.now.names) (λ (b : Label). label_of c.stores.result.now.names c.as_str.result.now ≡ Ok b) c.as_str.result.now c.in-Err.halt c.as_str.ensures.value c.in-Err.ensures.finds
