use Rattle.world_save_items.proofs.Walks.{next_small, on_begin, on_pass, on_step}
use Rattle.world_save_items.proofs.traversal.walk.Goals as goal

pub loop-frame-init : goal.loop-frame-init
loop-frame-init c =
    on_begin c.args.files.now c.facts.ensures c.requires _ _ _ _ _ c.new.ensures.items c.new-3.ensures.items c.new-2.ensures.items c.in_ok-push.ensures.items
    (λ i. record { dir = c.root.ensures i; next = 0; cut = 0; bytes = 0 })

pub find-requires-clause-room : goal.find-requires-clause-room
find-requires-clause-room c = next_small c.args.files.now c.facts.ensures c.requires _ _ _ c.in-Some-entry_at.ensures

pub loop-frame-preserved-in-None : goal.loop-frame-preserved-in-None
loop-frame-preserved-in-None c =
    (on_pass c.args.files.now c.facts.ensures c.requires c.loop-frame.trail.steps.items c.loop-frame.trail.stack.items c.pop.new.self.items c.in-Some.frame c.loop-frame.trail.path.items c.in-Some.ensures.items c.loop-frame.invariant c.in-None.ensures).0

pub loop-frame-smaller-in-None : goal.loop-frame-smaller-in-None
loop-frame-smaller-in-None c =
    (on_pass c.args.files.now c.facts.ensures c.requires c.loop-frame.trail.steps.items c.loop-frame.trail.stack.items c.pop.new.self.items c.in-Some.frame c.loop-frame.trail.path.items c.in-Some.ensures.items c.loop-frame.invariant c.in-None.ensures).1

pub loop-frame-preserved : goal.loop-frame-preserved
loop-frame-preserved c =
    let did = c.in_ok-find-in-Some-entry_at.ensures in
    (on_step c.args.files.now c.facts.ensures c.requires c.loop-frame.trail.steps.items c.find.new.trail.steps.items c.loop-frame.trail.stack.items c.pop.new.self.items c.find.new.trail.stack.items c.in-Some.frame c.loop-frame.trail.path.items c.find.new.trail.path.items c.in-Some-entry_at.entry.now c.in-Some-entry_at.kind c.in-Some-entry_at.name.now c.in-Some.ensures.items c.loop-frame.invariant c.in-Some-entry_at.ensures did.path did.steps did.stack).0

pub loop-frame-smaller : goal.loop-frame-smaller
loop-frame-smaller c =
    let did = c.in_ok-find-in-Some-entry_at.ensures in
    (on_step c.args.files.now c.facts.ensures c.requires c.loop-frame.trail.steps.items c.find.new.trail.steps.items c.loop-frame.trail.stack.items c.pop.new.self.items c.find.new.trail.stack.items c.in-Some.frame c.loop-frame.trail.path.items c.find.new.trail.path.items c.in-Some-entry_at.entry.now c.in-Some-entry_at.kind c.in-Some-entry_at.name.now c.in-Some.ensures.items c.loop-frame.invariant c.in-Some-entry_at.ensures did.path did.steps did.stack).1
