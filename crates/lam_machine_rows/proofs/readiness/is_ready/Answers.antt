use Rattle.std.proofs.Common.{◌≡◌, ◌∙◌, true, not, ◌&&◌, ap, sym}
use Rattle.lam_machine_effects.specs.Turns as turns
use Rattle.lam_machine_rows.specs.Acting.{Acting}
use Rattle.lam_machine_rows.specs.Rows.{with_monitors, at_label}
use Rattle.lam_machine_rows.proofs.readiness.is_ready.Goals as goal

pub returns-then-may_ask : goal.returns-then-may_ask
returns-then-may_ask c = λ w k m h j.
    let may : turns.may_ask k c.args.ask.now ≡ true = sym (c.may_ask.ensures k h) ∙ c.if-may_ask.true in
    let world : with_monitors c.args.monitors.now w ≡ w = ap (λ x. with_monitors x w) (sym m) in
    let context : at_label c.label.result.now k ≡ k = ap (λ l. at_label l k) c.label.ensures ∙ ap (λ (a : Acting). at_label a.label k) (sym h) in
    let waits : c.waits.result ≡ turns.waits w c.args.thread k c.args.ask.now = c.waits.ensures w k j ∙ (λ i. turns.waits (world i) c.args.thread (context i) c.args.ask.now) in
    ap not waits ∙ ap (λ b. b && not (turns.waits w c.args.thread k c.args.ask.now)) (sym may)
