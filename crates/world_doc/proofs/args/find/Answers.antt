use Rattle.std.proofs.Common.{None, Some, ◌∷◌, sym, subst}
use Rattle.serde_json.specs.View.{view}
use Rattle.world_doc.specs.Found.{read_as, IsFound}
use Rattle.world_doc.proofs.ArgLemmas.{found_more, found_one_more}
use Rattle.world_doc.proofs.args.find.Goals as goal

pub returns-in-None : goal.returns-in-None
returns-in-None c = λ names called rs h. found_more names called c.args.kind c.args.name.now (view c.args.argument.now) None c.args.rest rs c.in-None.ensures h

pub returns-in-Some : goal.returns-in-Some
returns-in-Some c = λ names called rs h.
    found_more names called c.args.kind c.args.name.now (view c.args.argument.now) (Some (view c.in-Some.content.now)) c.one_more.result rs c.in-Some.ensures
    (subst (λ r. IsFound names called r (read_as names called c.args.kind (view c.in-Some.content.now) ∷ rs)) (sym c.one_more.ensures) (found_one_more names called c.args.kind c.in-Some.content c.args.rest rs h))
