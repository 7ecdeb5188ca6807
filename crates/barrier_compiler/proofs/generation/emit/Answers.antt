use Rattle.std.proofs.Common.{◌∙◌, ap, sym, subst, Ok, Err}
use Rattle.lam_resolve_tree.specs.Tree.{classes_tree, resolved_tree}
use Rattle.lam_bytecode.specs.Codes.{IsCode}
use Rattle.barrier_compiler.proofs.Whole.{all_added, is_code, is_compiled, long_answer, never_wide}
use Rattle.barrier_compiler.proofs.Classes.{room}
use Rattle.barrier_compiler.proofs.Narrow.{all_narrow, few_units}
use Rattle.barrier_compiler.proofs.generation.emit.Goals as goal

pub new-requires : goal.new-requires
new-requires c =
    is_code (resolved_tree c.args.program.now) c.in-Ok.parts.units.items c.in-Ok.parts.constants c.in_ok-classes-in-Ok.classes.items c.new-units.ensures c.in-Ok.ensures.parts
    (all_added (resolved_tree c.args.program.now) c.add_function_units.ensures c.add_region_units.ensures) c.requires.slots c.requires.regions c.in-Ok.ensures.constants c.in-Ok.ensures.room c.in-Ok.ensures.count (room c.in_ok-classes-in-Ok.classes.items (classes_tree c.args.program.now.classes.items) c.in_ok-classes-in-Ok.ensures c.requires.limits.classes)

pub returns-in_ok-classes-in-Ok-clause-ok : goal.returns-in_ok-classes-in-Ok-clause-ok
returns-in_ok-classes-in-Ok-clause-ok c =
    is_compiled (resolved_tree c.args.program.now) c.in-Ok.parts.units.items c.in-Ok.parts.constants c.in_ok-classes-in-Ok.classes.items c.new-units.ensures c.in-Ok.ensures.parts
    (all_added (resolved_tree c.args.program.now) c.add_function_units.ensures c.add_region_units.ensures) c.in_ok-classes-in-Ok.ensures
    ∙ ap (λ x. Ok x) (sym c.new.ensures)

pub returns-in-Err-TooLong-clause-fault : goal.returns-in-Err-TooLong-clause-fault
returns-in-Err-TooLong-clause-fault c =
    long_answer (resolved_tree c.args.program.now) c.in-Err-TooLong.field-0 c.in-Err-TooLong.unit c.in-Err-TooLong.field-0-is c.in-Err-TooLong.ensures.err c.new-units.ensures
    (all_added (resolved_tree c.args.program.now) c.add_function_units.ensures c.add_region_units.ensures)
    ∙ ap (λ x. Err x) (sym c.in-Err-TooLong.unit-is)

pub returns-in_ok-classes-in-Ok-clause-sound : goal.returns-in_ok-classes-in-Ok-clause-sound
returns-in_ok-classes-in-Ok-clause-sound c =
    subst IsCode (sym c.new.ensures)
    (is_code (resolved_tree c.args.program.now) c.in-Ok.parts.units.items c.in-Ok.parts.constants c.in_ok-classes-in-Ok.classes.items c.new-units.ensures c.in-Ok.ensures.parts
    (all_added (resolved_tree c.args.program.now) c.add_function_units.ensures c.add_region_units.ensures) c.requires.slots c.requires.regions c.in-Ok.ensures.constants c.in-Ok.ensures.room c.in-Ok.ensures.count (room c.in_ok-classes-in-Ok.classes.items (classes_tree c.args.program.now.classes.items) c.in_ok-classes-in-Ok.ensures c.requires.limits.classes))

pub unreachable-requires : goal.unreachable-requires
unreachable-requires c =
    never_wide (resolved_tree c.args.program.now) c.in-Err-Wide.field-0 c.in-Err-Wide.field-0-is c.in-Err-Wide.ensures.err c.new-units.ensures (all_added (resolved_tree c.args.program.now) c.add_function_units.ensures c.add_region_units.ensures)
    (all_narrow (resolved_tree c.args.program.now) c.requires.typed c.requires.regions c.requires.limits) (few_units (resolved_tree c.args.program.now) c.requires.typed c.requires.regions c.requires.limits)
