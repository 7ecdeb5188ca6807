use Rattle.std.proofs.Common.{◌∙◌, sym, ap, subst, List, Bor}
use Rattle.std.specs.List.{list_any}
use Rattle.std.specs.Str.{bytes_eq}
use Rattle.lam_operators.specs.Words.{Word}
use Rattle.region_check.specs.Values.{texts, Extends}
use Rattle.region_check.proofs.Sets.{texts_insert, extends_insert}
use Rattle.region_check.proofs.add_name.Goals as goal

pub returns-clause-adds : goal.returns-clause-adds
returns-clause-adds c = ap texts c.in_ok-insert.ensures.keys ∙ texts_insert c.args.own.now.keys c.args.x

pub returns-clause-keeps : goal.returns-clause-keeps
returns-clause-keeps c =
    subst (λ (l : List (Bor Word)). Extends c.args.own.now.keys l) (sym c.in_ok-insert.ensures.keys) (extends_insert (list_any (λ (q : Bor Word). bytes_eq c.args.x.now q.now) c.args.own.now.keys) c.args.own.now.keys c.args.x)
