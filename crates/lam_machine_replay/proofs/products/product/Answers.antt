use Rattle.std.proofs.Common.{sym, ap, ◌∙◌}
use Rattle.std.proofs.lemmas.Result.{IfOk-weaker}
use Rattle.lam_asks.specs.declared.answer.What.TheVariants.{Asked}
use Rattle.lam_machine_replay.specs.Told.{product}
use Rattle.lam_machine_replay.proofs.products.product.Goals as goal

pub returns-in-Val : goal.returns-in-Val
returns-in-Val c =
    IfOk-weaker c.copied.result _ _
    (λ made h. h c.args.thread ∙ sym (ap (λ x. product c.args.world.now c.args.thread x) (c.in-Asked.is ∙ ap (λ x. Asked c.in-Asked.ask x) c.in-Val.is)))
    c.copied.ensures
