use Rattle.std.proofs.Common.{◌≡◌, Ok, subst}
use Rattle.lam_bytecode.specs.Codes.{CodeTree}
use Rattle.guarded_code.specs.Breaks.{IsGuarded}
use Rattle.world_doc_terms.specs.Start.{start_of}
use Rattle.examples_codes.proofs.given.start_of.Goals as goal

pub returns-in-Ok : goal.returns-in-Ok
returns-in-Ok c =
    let bytes = c.as_bytes.result.now in
    let guarded = subst IsGuarded c.code.ensures.code c.code.ensures.guarded in
    let is = subst (λ (tree : CodeTree). start_of bytes tree ≡ Ok c.in-Ok.start) c.code.ensures.code c.in-Ok.ensures in
    c.starts_are_entered.ensures.sound c.args.code.now c.requires guarded bytes c.in-Ok.start is
