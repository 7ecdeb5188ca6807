use Rattle.std.proofs.Common.{◌≡◌, ◌∙◌, Ok, Err, sym, ap, subst}
use Rattle.lam_machine_effects.specs.declared.stores.Stores.{Stores}
use Rattle.lam_main_replay.specs.Reading.{Never}
use Rattle.lam_main_replay.specs.Replays.{read_by, ByReader}
use Rattle.lam_main_replay.specs.Halts.{Finds}
use Rattle.lam_main_replay.specs.Threads.{IsOfThreads}
use Rattle.lam_main_replay.specs.declared.viewer.NamedViewer.{NamedViewer}
use Rattle.lam_main_replay.specs.Asked.{reader_of, lines_for}
use Rattle.lam_main_threads.proofs.TakenLemmas.{reader_offers, no_reader_offers}
use Rattle.lam_main_threads.proofs.texts.shown.Goals as goal

pub returns-in_ok-viewed-in-Ok-clause-offers : goal.returns-in_ok-viewed-in-Ok-clause-offers
returns-in_ok-viewed-in-Ok-clause-offers g c =
    reader_offers (λ out shown. IsOfThreads c.args.code c.args.start out c.args.bounds.turns shown) (read_by (reader_of c.args.reader.now) c.args.start.names) (lines_for c.in-Ok.viewer.who c.in-Ok.viewer.names) c.in_ok-viewed-in-Ok.field-0
    (sym (ap (λ (s : Stores). read_by (reader_of c.args.reader.now) s.names) c.stores.ensures) ∙ c.in-Ok.ensures.finds) c.in_ok-viewed-in-Ok.ensures

pub returns-in-Err-clause-offers : goal.returns-in-Err-clause-offers
returns-in-Err-clause-offers g c =
    no_reader_offers (λ out shown. IsOfThreads c.args.code c.args.start out c.args.bounds.turns shown) (read_by (reader_of c.args.reader.now) c.args.start.names) (λ (viewer : NamedViewer). read_by (reader_of c.args.reader.now) c.stores.result.now.names ≡ Ok (lines_for viewer.who viewer.names)) c.in-Err.halt
    (subst (λ (s : Stores). Finds {X = NamedViewer} (Err c.in-Err.halt) (λ (viewer : NamedViewer). read_by (reader_of c.args.reader.now) c.stores.result.now.names ≡ Ok (lines_for viewer.who viewer.names)) (ByReader Never (read_by (reader_of c.args.reader.now) s.names))) c.stores.ensures c.in-Err.ensures.finds)
