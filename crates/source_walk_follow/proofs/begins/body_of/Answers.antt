use Rattle.std.proofs.Common.{◌≡◌, ◌-◌, ◌++◌, length, replicate, ap, ◌∙◌, arith}
use Rattle.lam_value.specs.declared.values.Value.TheVariants.{Nothing}
use Rattle.source_walk_parts.specs.States.{left_at}
use Rattle.source_walk_follow.proofs.Beginning.{begins_at}
use Rattle.source_walk_follow.proofs.begins.body_of.Goals as goal

pub returns : goal.returns
returns c =
    let len = c.len.ensures in
    let many = c.args.callee.now.slots.ok.0 in
    let same : c.len.result ≡ length c.args.callee.now.slots.items = omega (arith, len, many) in
    λ r f found. (λ i. left_at r (c.walk_at.ensures.control i) (c.walk_at.ensures.state i))
    ∙ begins_at r c.args.units f c.args.args c.args.caps c.args.callee.now c.as_slice-rest.result c.in_ok-locals.locals found c.as_slice-rest.ensures.value
    (c.in_ok-locals.ensures ∙ ap (λ n. c.args.args ++ replicate (n - length c.args.args) Nothing) same)
