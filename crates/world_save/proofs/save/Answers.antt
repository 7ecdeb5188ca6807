use Rattle.std.proofs.Common.{sym, ap, ◌∙◌, subst}
use Rattle.world_forest.specs.Forest.{IsForest}
use Rattle.lam_machine_terms.specs.Worlds.{World}
use Rattle.lam_machine_effects.specs.declared.stores.Stores.{Stores}
use Rattle.lam_machine_effects.specs.Parts.{stores_of}
use Rattle.world_save.proofs.Moved.{saved_of, fault_of}
use Rattle.world_save.proofs.save.Goals as goal

pub save_files-requires-clause-forest : goal.save_files-requires-clause-forest
save_files-requires-clause-forest c =
    let whole = c.turns-turns.ensures.whole in
    let forest = (c.runs_keep_forests.ensures c.args.run.now.code whole.start.code c.args.run.now.start c.args.run.now.turns whole.start.valid c.requires.forest).1 in
    subst (λ (s : Stores). IsForest s.files) (sym (c.stores-now.ensures ∙ ap stores_of (c.now.ensures.is ∙ whole.world))) forest

pub save_files-requires-clause-kept : goal.save_files-requires-clause-kept
save_files-requires-clause-kept c = c.starts_can_be_kept.ensures c.args.old.now c.args.run.now.code c.args.run.now.start c.requires.start

pub returns-clause-ok : goal.returns-clause-ok
returns-clause-ok c =
    saved_of c.save_files.result c.args.old.now c.stores-start.result.now c.stores-now.result.now c.args.run.now.start c.args.run.now.world (c.stores-start.ensures ∙ ap stores_of c.start.ensures) (c.stores-now.ensures ∙ ap stores_of c.now.ensures.is) c.save_files.ensures.ok

pub returns-clause-err : goal.returns-clause-err
returns-clause-err c =
    fault_of c.save_files.result c.args.old.now c.stores-start.result.now c.stores-now.result.now c.args.run.now.start c.args.run.now.world (c.stores-start.ensures ∙ ap stores_of c.start.ensures) (c.stores-now.ensures ∙ ap stores_of c.now.ensures.is) c.save_files.ensures.err
