use Rattle.std.proofs.Common.{◌≡◌, length, ◌-◌, ap, ◌∙◌}
use Rattle.lam_parser.proofs.Left.{cut_off}
use Rattle.lam_parser.proofs.items.let_go.Goals as goal

pub returns-then-kept-end : goal.returns-then-kept-end
returns-then-kept-end c =
    let ts = c.args.tokens.now.items in
    let kept = c.len.result - c.args.end in
    let k : kept ≡ length ts - c.args.end = ap (λ n. n - c.args.end) (c.len.ensures ∙ c.args.tokens.now.ok.0) in
    cut_off ts c.rotate_left.new.self.items c.truncate.new.self.items c.shrink_to_fit.new.self.items c.args.end kept k c.if-kept-gt0.true c.requires c.rotate_left.ensures.items c.truncate.ensures.items c.shrink_to_fit.ensures.items
