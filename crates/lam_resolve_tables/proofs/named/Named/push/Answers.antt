use Rattle.std.proofs.Common.{rules, ◌≡◌, true, is_ok, if◌then◌else◌, ap, ◌∙◌, ◌++◌, ◌∷◌, []}
use Rattle.lam_types_kinds.specs.Values.{keyed}
use Rattle.lam_types_kinds.proofs.TableLemmas.{see_push}
use Rattle.lam_resolve_tables.specs.Named.{with_first}
use Rattle.lam_resolve_tables.proofs.NamedLemmas.{index_push}
use Rattle.lam_resolve_tables.proofs.named.Named.push.Goals as goal

pub invariant_of-self-2 : goal.invariant_of-self-2
invariant_of-self-2 g c =
    let ok : is_ok c.push.result ≡ true = search rules in
    record {
      indexed =
          index_push c.args.self.now.index.entries c.number_name.new.index.entries c.args.self.now.entries.items c.push.new.self.items c.args.name c.args.value c.args.self.now.indexed
          (c.in_ok-number_name.ensures.ok ∙ ap (with_first (keyed c.args.self.now.index.entries) c.args.name.now) (c.len.ensures ∙ c.in_ok-reserve.ensures.len ∙ c.args.self.now.entries.ok.0))
          (c.push.ensures.items ∙ ap (λ b. if b then c.reserve.new.self.items ++ (c.args.name, c.args.value) ∷ [] else c.reserve.new.self.items) ok ∙ ap (λ l. l ++ (c.args.name, c.args.value) ∷ []) c.in_ok-reserve.ensures.items);
    }

pub returns : goal.returns
returns g c =
    ap (λ l. keyed l) (c.in-Ok.ensures.items ∙ ap (λ l. l ++ (c.args.name, c.args.value) ∷ []) c.in_ok-reserve.ensures.items) ∙ see_push (λ v. v) c.args.self.now.entries.items c.args.name c.args.value
