use Rattle.std.proofs.Common.{◌≡◌, ◌+◌, ◌∙◌, sym, ap}
use Rattle.std.specs.Option.{unwrap_or}
use Rattle.std.specs.FinMap as map
use Rattle.std.specs.FinMap.{insert, get-empty}
use Rattle.lam_value.specs.declared.names.Name.{Name}
use Rattle.lam_value.specs.Homes.{Home, home_cmp, home_of, count_in, counted}
use Rattle.labelled_files.specs.Trees.{public_home}
use Rattle.labelled_files.proofs.files.root_counter.Goals as goal

none_made : (h : Home) → count_in map.empty h ≡ 0
none_made h = ap (λ o. unwrap_or o 0) (get-empty home_cmp h)

pub draw-requires-clause-next : goal.draw-requires-clause-next
draw-requires-clause-next c = sym (ap (λ m. count_in m (home_of c.maker.result.now c.own.result.now)) c.new-counters.ensures ∙ none_made (home_of c.maker.result.now c.own.result.now))

pub returns-in-Ok : goal.returns-in-Ok
returns-in-Ok c =
    c.in-Ok.ensures.ok
    ∙ (λ i. counted (c.new-counters.ensures i) (home_of (c.maker.ensures i) (c.own.ensures i)))
    ∙ ap (λ (n : Name). counted map.empty (home_of n.maker n.own)) c.requires
    ∙ ap (λ n. insert map.empty public_home (n + 1)) (none_made public_home)
