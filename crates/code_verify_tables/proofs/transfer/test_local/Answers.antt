use Rattle.std.proofs.Common.{ap, sym, subst, ◌∙◌, ◌<◌}
use Rattle.guarded_code.specs.Descriptions.{tested}
use Rattle.guarded_code.specs.Changes.{tested_local}
use Rattle.code_verify_tables.proofs.OnePlace.{place_read}
use Rattle.code_verify_tables.proofs.transfer.test_local.Goals as goal

pub returns-then-local-len : goal.returns-then-local-len
returns-then-local-len c =
    place_read (tested c.args.access) _ _ _ _ (subst (λ n. c.in-Some.local < n) (c.len.ensures ∙ c.args.locals.now.ok.0) c.if-local-len.true) c.index-old.ensures (c.of.ensures ∙ c.tested.ensures ∙ ap (tested c.args.access) c.known.ensures)
    ∙ ap (λ x. tested_local c.args.access x c.args.locals.now.items) (sym c.in-Some.is)
