use Rattle.std.proofs.Common.{◌≡◌, ◌∙◌, Ok, Err, sym, ap, subst, string_bytes}
use Rattle.flow_labels.specs.LabelText.{label_of}
use Rattle.flow_labels.specs.declared.Label.{Label}
use Rattle.lam_machine_effects.specs.declared.stores.Stores.{Stores}
use Rattle.lam_main_words.specs.Words.{Text}
use Rattle.lam_main_replay.specs.Reading.{Never}
use Rattle.lam_main_replay.specs.Books.{ByLabel}
use Rattle.lam_main_replay.specs.Halts.{Finds}
use Rattle.lam_main_replay.specs.Asked.{files_of}
use Rattle.lam_main_pair.proofs.PairLemmas.{label_says, no_label_says}
use Rattle.lam_main_pair.proofs.pair_from.Goals as goal

pub returns-in-Ok-clause-says : goal.returns-in-Ok-clause-says
returns-in-Ok-clause-says g c = λ told.
    label_says (g.H.Shelf.files c.args.shelf.now) (string_bytes c.args.book) (files_of c.args.second) c.args.index (string_bytes c.args.label) c.args.code.now c.args.start c.stores.result.now.names (ap (λ (s : Stores). s.names) c.stores.ensures) c.in-Ok.observer c.pair_first.result (ap (label_of c.stores.result.now.names) (sym c.as_str.ensures.value) ∙ c.in-Ok.ensures.finds) (c.pair_first.ensures.says told)

pub returns-in-Err-clause-says : goal.returns-in-Err-clause-says
returns-in-Err-clause-says g c = λ told.
    no_label_says (g.H.Shelf.files c.args.shelf.now) (string_bytes c.args.book) (files_of c.args.second) c.args.index (string_bytes c.args.label) c.args.code.now c.args.start c.stores.result.now.names (ap (λ (s : Stores). s.names) c.stores.ensures) c.in-Err.halt
    (subst (λ (text : Text). Finds {X = Label} (Err c.in-Err.halt) (λ o. label_of c.stores.result.now.names text ≡ Ok o) (ByLabel c.args.index Never (label_of c.stores.result.now.names text))) c.as_str.ensures.value c.in-Err.ensures.finds)
