use Rattle.std.proofs.Common.{sym, ◌∙◌, arith}
use Rattle.lam_resolve_tables.specs.Named.{words}
use Rattle.lam_resolve_tables.proofs.NamedLemmas.{index_place, place_below, found_there, found_not, length_words, same_it}
use Rattle.lam_resolve_tables.proofs.named.Named.find.Goals as goal

pub index-requires : goal.index-requires
index-requires g c =
    let place = sym (index_place _ c.args.self.now.entries.items c.args.name.now c.args.self.now.indexed) ∙ sym c.get.ensures.value ∙ sym c.copied.ensures ∙ c.in-Some.is in
    let below = place_below 0 c.args.name.now (words c.args.self.now.entries.items) c.in-Some.at place in
    omega (arith, below.1, length_words c.args.self.now.entries.items)

pub returns-in_default : goal.returns-in_default
returns-in_default g c =
    sym (found_not c.args.self.now.entries.items 0 c.args.name.now (sym (index_place _ c.args.self.now.entries.items c.args.name.now c.args.self.now.indexed) ∙ sym c.get.ensures.value ∙ sym c.copied.ensures ∙ c.in_default.is))

pub returns : goal.returns
returns g c =
    let place = sym (index_place _ c.args.self.now.entries.items c.args.name.now c.args.self.now.indexed) ∙ sym c.get.ensures.value ∙ sym c.copied.ensures ∙ c.in-Some.is in
    sym (found_there c.index.result.now c.args.self.now.entries.items 0 c.args.name.now c.in-Some.at c.in-Some.at place (omega arith) ∙ same_it c.in-Some.at (sym c.index.ensures))
